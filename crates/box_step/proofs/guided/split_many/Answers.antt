use Rattle.std.proofs.Common.{◌≡◌, ◌∙◌, ◌&&◌, ℕ, false, IsTrue, Some, None, List, length, get_or, subst, sym, ap}
use Rattle.std.specs.Prelude.{slice_get}
use Rattle.std.specs.Option.{option_copied}
use Rattle.std.proofs.lemmas.List.Elements.{All-nil, All-push}
use Rattle.network_model.specs.Bits.{Header, Pattern}
use Rattle.network_model.specs.Rewrites.{rewritten}
use Rattle.net_types.specs.declared.rule.Rule.{Rule}
use Rattle.header_sets.specs.Spaces.{SpaceValue, holds}
use Rattle.box_step.specs.Branches.{is_wanted}
use Rattle.box_step.specs.Taking.{takes_sent, is_left, IsTaken, Recalls}
use Rattle.box_step.proofs.Splitting.{begin, end, nothing_taken, none_left, pairs_numbered, past_all}
use Rattle.box_step.proofs.PassingBy.{up_to_none, at_next, up_to_more, up_to_all, skip_one, skip_past, take_one, pass_one}
use Rattle.box_step.proofs.Recalling.{rule_fits, rule_among, out_wide, earlier_none, earlier_skip, earlier_take, earlier_recalls}
use Rattle.box_step.proofs.guided.split_many.Goals as goal
use Rattle.box_step.proofs.guided.split_many.Goals.{in-Some+then-is_wanted+in_ok-found+in-Some-found+in_ok-push+in_ok-add, in-Some+then-is_wanted+in_ok-found+in_default-found, in-Some+else-is_wanted+in-Some-sources_of+in_ok-add-2, in-Some+else-is_wanted+in_default-sources_of, in_default}

pub loop-place-init : goal.loop-place-init
loop-place-init c =
    let guide = c.args.guide.now in
    let places : List ℕ = c.args.places.now in
    let met = c.requires.met in
    record {
      progress = up_to_none c.args.net.now c.args.port c.args.space.now c.args.rewrite.now (is_wanted c.args.drops) guide.«at» guide.rules.items c.requires.port c.requires.guide.tried places met c.new-taken.result.patterns.items c.new-branches.result.items
          (begin c.args.net.now c.args.port c.args.space.now c.args.rewrite.now (is_wanted c.args.drops) _ _ _
          (nothing_taken c.args.space.now _ c.new-taken.ensures.patterns) c.new-branches.ensures.items
          (pairs_numbered _ c.requires.guide.tried.order)
          (λ h. c.requires.guide.tried.first c.args.port (rewritten c.args.rewrite.now h) c.requires.port));
      widths = rw c.new-taken.ensures.patterns (All-nil (λ (sources : Pattern). length sources ≡ length c.args.rewrite.now));
      earlier = earlier_none c.args.net.now c.args.port c.args.rewrite.now c.args.space.now guide.rules.items places c.new-taken.result c.new-taken.ensures.patterns c.new-taken.ensures.by_number;
    }

pub loop-place-preserved : goal.loop-place-preserved
loop-place-preserved c =
    let guide = c.args.guide.now in
    let net = c.args.net.now in
    let rules : List Rule = guide.rules.items in
    let places : List ℕ = c.args.places.now in
    let k = c.loop-place.place-index in
    let p = get_or places k 0 in
    let earlier = c.loop-place.taken.patterns.items in
    let branches = c.loop-place.branches.items in
    let met = c.requires.met in
    let rises = c.requires.rise in
    let wide : (h : Header) → IsTrue (holds c.args.space.now h) → length h ≡ length c.args.rewrite.now = λ h held. c.bits.ensures.headers h held ∙ c.bits.ensures.width ∙ c.requires.space ∙ sym c.requires.rewrite in
    let now = at_next net c.args.port c.args.space.now c.args.rewrite.now (is_wanted c.args.drops) guide.«at» rules c.requires.port c.requires.guide.tried places met rises earlier branches k c.loop-place-test.true c.loop-place.invariant.progress in
    elim c.match-rule_in.branch [
      | in-Some+then-is_wanted+in_ok-found+in-Some-found+in_ok-push+in_ok-add w ↦
          let own : Rule = w.in-Some.rule.now in
          let branch = w.in-Some-found.branch in
          let sources = w.in-Some-found.sources in
          let is : slice_get rules p ≡ Some own = ap (λ (rs : List Rule). slice_get rs p) (sym c.deref.ensures.value) ∙ sym w.in-Some.ensures in
          let took_of : IsTaken c.args.port c.args.rewrite.now own c.in_ok-indexed.indexed earlier branch sources = rw w.in-Some-found.is at w.in_ok-found.ensures.some in
          let took : IsTaken c.args.port c.args.rewrite.now own c.args.space.now earlier branch sources =
          subst (λ (s : SpaceValue). IsTaken c.args.port c.args.rewrite.now own s earlier branch sources) c.in_ok-indexed.ensures took_of in
          rw (w.branches-is, w.in_ok-push.ensures.items, w.taken-is)
          (record {
            progress = rw w.in_ok-add.ensures.patterns (up_to_more net c.args.port c.args.space.now c.args.rewrite.now (is_wanted c.args.drops) guide.«at» rules c.requires.port c.requires.guide.tried places met rises _ _ k c.loop-place-test.true
                (take_one net c.args.port c.args.space.now c.args.rewrite.now (is_wanted c.args.drops) guide.«at» rules c.requires.port c.requires.guide.tried earlier branches p own branch sources is c.requires.space took (sym w.is_wanted.ensures ∙ w.if-is_wanted.true) now));
            widths = rw w.in_ok-add.ensures.patterns (All-push (λ (s : Pattern). length s ≡ length c.args.rewrite.now) earlier sources c.loop-place.invariant.widths took.sources_width);
            earlier = earlier_take net c.args.port c.args.rewrite.now c.args.space.now rules places guide.«at» c.requires.guide.tried rises k c.loop-place-test.true own is c.loop-place.taken c.loop-place.invariant.earlier
                c.bits-rises.ensures.well_formed sources _ took.takes w.in_ok-add.ensures.patterns w.in_ok-add.ensures.here w.in_ok-add.ensures.others;
          })
      | in-Some+then-is_wanted+in_ok-found+in_default-found w ↦
          let own : Rule = w.in-Some.rule.now in
          let is : slice_get rules p ≡ Some own = ap (λ (rs : List Rule). slice_get rs p) (sym c.deref.ensures.value) ∙ sym w.in-Some.ensures in
          let none_of : (h : Header) → (is_left c.in_ok-indexed.indexed earlier h && takes_sent c.args.port c.args.rewrite.now own h) ≡ false = rw w.in_default-found.is at w.in_ok-found.ensures.none in
          let none : (h : Header) → (is_left c.args.space.now earlier h && takes_sent c.args.port c.args.rewrite.now own h) ≡ false =
          subst (λ (s : SpaceValue). (h : Header) → (is_left s earlier h && takes_sent c.args.port c.args.rewrite.now own h) ≡ false) c.in_ok-indexed.ensures none_of in
          rw (w.branches-is, w.taken-is)
          (record {
            progress = up_to_more net c.args.port c.args.space.now c.args.rewrite.now (is_wanted c.args.drops) guide.«at» rules c.requires.port c.requires.guide.tried places met rises _ _ k c.loop-place-test.true
                (skip_one net c.args.port c.args.space.now c.args.rewrite.now (is_wanted c.args.drops) guide.«at» rules c.requires.port c.requires.guide.tried earlier branches p own is none now);
            widths = c.loop-place.invariant.widths;
            earlier = earlier_skip net c.args.port c.args.rewrite.now c.args.space.now rules places c.loop-place.taken k c.loop-place.invariant.earlier;
          })
      | in-Some+else-is_wanted+in-Some-sources_of+in_ok-add-2 w ↦
          let own : Rule = w.in-Some.rule.now in
          let sources = w.in-Some-sources_of.sources in
          let is : slice_get rules p ≡ Some own = ap (λ (rs : List Rule). slice_get rs p) (sym c.deref.ensures.value) ∙ sym w.in-Some.ensures in
          let takes_so = rw w.in-Some-sources_of.is at w.sources_of.ensures.some in
          rw (w.branches-is, w.taken-is)
          (record {
            progress = rw w.in_ok-add-2.ensures.patterns (up_to_more net c.args.port c.args.space.now c.args.rewrite.now (is_wanted c.args.drops) guide.«at» rules c.requires.port c.requires.guide.tried places met rises _ _ k c.loop-place-test.true
                (pass_one net c.args.port c.args.space.now c.args.rewrite.now (is_wanted c.args.drops) guide.«at» rules c.requires.port c.requires.guide.tried earlier branches p own sources is
                (λ h held. takes_so h (wide h held)) (sym w.is_wanted.ensures ∙ w.if-is_wanted.false) now));
            widths = rw w.in_ok-add-2.ensures.patterns (All-push (λ (s : Pattern). length s ≡ length c.args.rewrite.now) earlier sources c.loop-place.invariant.widths (rw w.in-Some-sources_of.is at w.sources_of.ensures.width));
            earlier = earlier_take net c.args.port c.args.rewrite.now c.args.space.now rules places guide.«at» c.requires.guide.tried rises k c.loop-place-test.true own is c.loop-place.taken c.loop-place.invariant.earlier
                c.bits-rises.ensures.well_formed sources _ (λ h held. takes_so h (wide h held)) w.in_ok-add-2.ensures.patterns w.in_ok-add-2.ensures.here w.in_ok-add-2.ensures.others;
          })
      | in-Some+else-is_wanted+in_default-sources_of w ↦
          let own : Rule = w.in-Some.rule.now in
          let is : slice_get rules p ≡ Some own = ap (λ (rs : List Rule). slice_get rs p) (sym c.deref.ensures.value) ∙ sym w.in-Some.ensures in
          let takes_none = rw w.in_default-sources_of.is at w.sources_of.ensures.none in
          rw (w.branches-is, w.taken-is)
          (record {
            progress = up_to_more net c.args.port c.args.space.now c.args.rewrite.now (is_wanted c.args.drops) guide.«at» rules c.requires.port c.requires.guide.tried places met rises _ _ k c.loop-place-test.true
                (skip_one net c.args.port c.args.space.now c.args.rewrite.now (is_wanted c.args.drops) guide.«at» rules c.requires.port c.requires.guide.tried earlier branches p own is
                (none_left c.args.space.now earlier (takes_sent c.args.port c.args.rewrite.now own) (λ h held. takes_none h (wide h held))) now);
            widths = c.loop-place.invariant.widths;
            earlier = earlier_skip net c.args.port c.args.rewrite.now c.args.space.now rules places c.loop-place.taken k c.loop-place.invariant.earlier;
          })
      | in_default w ↦
          let is : slice_get rules p ≡ None = ap (λ (rs : List Rule). slice_get rs p) (sym c.deref.ensures.value) ∙ sym c.rule_in.ensures ∙ ap (λ r. option_copied r) w.in_default.is in
          rw (w.branches-is, w.taken-is)
          (record {
            progress = up_to_more net c.args.port c.args.space.now c.args.rewrite.now (is_wanted c.args.drops) guide.«at» rules c.requires.port c.requires.guide.tried places met rises _ _ k c.loop-place-test.true
                (skip_past net c.args.port c.args.space.now c.args.rewrite.now (is_wanted c.args.drops) guide.«at» rules c.requires.port c.requires.guide.tried earlier branches p is now);
            widths = c.loop-place.invariant.widths;
            earlier = earlier_skip net c.args.port c.args.rewrite.now c.args.space.now rules places c.loop-place.taken k c.loop-place.invariant.earlier;
          })
    ]

pub branch_past-requires-clause-among : goal.branch_past-requires-clause-among
branch_past-requires-clause-among c =
    let guide = c.args.guide.now in
    let p = get_or c.args.places.now c.loop-place.place-index 0 in
    let own : Rule = c.in-Some.rule.now in
    let is : slice_get guide.rules.items p ≡ Some own = ap (λ (rs : List Rule). slice_get rs p) (sym c.deref.ensures.value) ∙ sym c.in-Some.ensures in
    rule_among c.args.net.now guide.«at» guide.rules.items p own c.requires.guide.tried is

pub branch_past-requires-clause-recalls : goal.branch_past-requires-clause-recalls
branch_past-requires-clause-recalls c =
    let guide = c.args.guide.now in
    let places : List ℕ = c.args.places.now in
    let k = c.loop-place.place-index in
    let p = get_or places k 0 in
    let own : Rule = c.in-Some.rule.now in
    let is : slice_get guide.rules.items p ≡ Some own = ap (λ (rs : List Rule). slice_get rs p) (sym c.deref.ensures.value) ∙ sym c.in-Some.ensures in
    let rises = c.requires.rise in
    subst (λ (s : SpaceValue). Recalls c.args.net.now c.args.port c.args.rewrite.now s c.loop-place.taken own) (sym c.in_ok-indexed.ensures)
    (earlier_recalls c.args.net.now c.args.port c.args.rewrite.now c.args.space.now guide.rules.items places guide.«at» c.requires.guide.tried rises k c.loop-place-test.true own is c.loop-place.taken
    c.loop-place.invariant.earlier)

pub branch_past-requires-clause-pattern : goal.branch_past-requires-clause-pattern
branch_past-requires-clause-pattern c =
    let guide = c.args.guide.now in
    let p = get_or c.args.places.now c.loop-place.place-index 0 in
    let own : Rule = c.in-Some.rule.now in
    let is : slice_get guide.rules.items p ≡ Some own = ap (λ (rs : List Rule). slice_get rs p) (sym c.deref.ensures.value) ∙ sym c.in-Some.ensures in
    (rule_fits c.args.net.now guide.«at» guide.rules.items p own c.requires.guide.tried is).pattern ∙ sym c.requires.rewrite

pub sources_of-requires : goal.sources_of-requires
sources_of-requires c =
    let guide = c.args.guide.now in
    let p = get_or c.args.places.now c.loop-place.place-index 0 in
    let own : Rule = c.in-Some.rule.now in
    let is : slice_get guide.rules.items p ≡ Some own = ap (λ (rs : List Rule). slice_get rs p) (sym c.deref.ensures.value) ∙ sym c.in-Some.ensures in
    (rule_fits c.args.net.now guide.«at» guide.rules.items p own c.requires.guide.tried is).pattern ∙ sym c.requires.rewrite

pub branch_past-requires-clause-action : goal.branch_past-requires-clause-action
branch_past-requires-clause-action c =
    let guide = c.args.guide.now in
    let p = get_or c.args.places.now c.loop-place.place-index 0 in
    let own : Rule = c.in-Some.rule.now in
    let is : slice_get guide.rules.items p ≡ Some own = ap (λ (rs : List Rule). slice_get rs p) (sym c.deref.ensures.value) ∙ sym c.in-Some.ensures in
    out_wide c.args.net.now _ _ _ c.requires.rewrite (rule_fits c.args.net.now guide.«at» guide.rules.items p own c.requires.guide.tried is).out

pub returns : goal.returns
returns c =
    let guide = c.args.guide.now in
    let places : List ℕ = c.args.places.now in
    let met = c.requires.met in
    let (i, done) = up_to_all c.args.net.now c.args.port c.args.space.now c.args.rewrite.now (is_wanted c.args.drops) guide.«at» guide.rules.items c.requires.port c.requires.guide.tried places met c.loop-place.taken.patterns.items c.loop-place.branches.items
    c.loop-place.place-index c.loop-place-test.false c.loop-place.invariant.progress in
    end c.args.net.now c.args.port c.args.space.now c.args.rewrite.now (is_wanted c.args.drops) _ _ _ done.1 (λ h held. past_all guide.rules.items i _ done.0)
