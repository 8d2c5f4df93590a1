use Rattle.std.proofs.Common.{◌≡◌, ◌∙◌, ◌<◌, inl, inr, List, true, Some, None, IsSome, length, map, take, sym, ap, subst, arith}
use Rattle.std.specs.Prelude.{slice_get}
use Rattle.std.specs.Option.{option_map}
use Rattle.std.proofs.lemmas.Option.{slice_get-map}
use Rattle.std.proofs.lemmas.List.{take_all}
use Rattle.std.proofs.lemmas.List.Filters.{dedup_is}
use Rattle.std.proofs.lemmas.List.Kept.{Contains-dedup_nat}
use Rattle.std.proofs.lemmas.List.Sorted.{Contains-permutation}
use Rattle.std.proofs.lemmas.Map.Keys.{IsStrictlyIncreasing-dedup}
use Rattle.list_laws.proofs.Places.{is_there, take_next}
use Rattle.network_model.specs.Bits.{Header, Pattern}
use Rattle.header_sets.specs.Spaces.{hulls, holds}
use Rattle.net_types.specs.declared.rule.Rule.{Rule}
use Rattle.box_step.proofs.Reaching.{Reaches, reaches_more, none_taken}
use Rattle.box_step.proofs.guide.Guide.places_met.Goals as goal
use Rattle.box_step.proofs.guide.Guide.places_met.Goals.{in-Some+in_ok-add_meeting, in_default}

pub loop-i-preserved : goal.loop-i-preserved
loop-i-preserved c =
    let all : List Pattern = hulls c.args.space.now in
    let i = c.loop-i.i in
    let rewrite = c.args.rewrite.now in
    let patterns : List Pattern = map (λ (rule : Rule). rule.pattern) c.args.self.now.rules.items in
    elim c.match-hull.branch [
      | in-Some+in_ok-add_meeting w ↦
          let hull : Pattern = w.in-Some.hull in
          let is : slice_get all i ≡ Some hull = sym c.hull.ensures.pattern ∙ w.in-Some.is in
          rw w.places-is
          (subst (λ (hs : List Pattern). Reaches hs rewrite patterns w.add_meeting.new.places.items) (sym (take_next all i hull is))
          (reaches_more (take i all) rewrite patterns c.loop-i.places.items c.loop-i.invariant hull w.image_of-image.result w.image_of-image.ensures.has
          w.add_meeting.new.places.items (w.in_ok-add_meeting.ensures patterns c.requires.index)))
      | in_default w ↦
          let is : slice_get all i ≡ None = sym c.hull.ensures.pattern ∙ w.in_default.is in
          let inside : i < length all = omega (arith, c.loop-i-test.true, c.hull_count-i-end.ensures.count) in
          let there : IsSome (slice_get all i) = is_there all i inside in
          absurd (cc)
    ]

pub returns-clause-rise : goal.returns-clause-rise
returns-clause-rise c =
    let is = dedup_is _ _ _ c.dedup.ensures.filtered in
    rw is (IsStrictlyIncreasing-dedup _ c.in_ok-sort.ensures.sorted)

pub returns-clause-met : goal.returns-clause-met
returns-clause-met c place rule at =
    let all : List Pattern = hulls c.args.space.now in
    let rewrite = c.args.rewrite.now in
    let rules : List Rule = c.args.self.now.rules.items in
    let patterns : List Pattern = map (λ (r : Rule). r.pattern) rules in
    let deduped = dedup_is _ _ _ c.dedup.ensures.filtered in
    let pattern_at : slice_get patterns place ≡ Some rule.pattern = slice_get-map (λ (r : Rule). r.pattern) rules place ∙ ap (option_map (λ (r : Rule). r.pattern)) at in
    let done : Reaches all rewrite patterns c.loop-i.places.items =
    subst (λ (hs : List Pattern). Reaches hs rewrite patterns c.loop-i.places.items) (take_all c.loop-i.i all (omega (arith, c.loop-i-test.false, c.hull_count-i-end.ensures.count))) c.loop-i.invariant in
    let wide : (h : Header) → holds c.args.space.now h ≡ true → length h ≡ length rewrite = λ h held. c.bits.ensures.headers h held ∙ c.bits.ensures.width ∙ c.requires.space in
    elim (done place rule.pattern pattern_at) [
      | inl there ↦ inl (rw deduped (Contains-dedup_nat _ place (Contains-permutation _ _ place c.in_ok-sort.ensures.permutation there)))
      | inr misses ↦ inr (none_taken c.args.space.now all rewrite rule.pattern wide c.hull_count-i-end.ensures.has misses)
    ]
