use Rattle.std.proofs.Common.{◌≡◌, ◌∙◌, ◌&&◌, false, IsTrue, List, length, subst, sym, Some}
use Rattle.std.proofs.lemmas.List.Elements.{All-nil, All-push}
use Rattle.network_model.specs.Bits.{Header, Pattern}
use Rattle.network_model.specs.Rewrites.{rewritten}
use Rattle.network_model.specs.Network.{value_at}
use Rattle.net_types.specs.Rules.{numbered}
use Rattle.header_sets.specs.Spaces.{holds}
use Rattle.box_step.specs.Branches.{is_wanted}
use Rattle.box_step.specs.Taking.{takes_sent, is_left, IsTaken}
use Rattle.box_step.proofs.Splitting.{begin, end, nowhere, nothing_taken, pairs_numbered, contains_place, past_all, none_left, step_taken, step_passed, step_skipped}
use Rattle.box_step.proofs.branches.split_wanted.Goals as goal
use Rattle.box_step.proofs.branches.split_wanted.Goals.{then-is_wanted+in_ok-branch+in-Some-2+in_ok-push+in_ok-push-2, then-is_wanted+in_ok-branch+in_default-2, else-is_wanted+in-Some-sources_of+in_ok-push-3, else-is_wanted+in_default-sources_of}

pub returns-in_default : goal.returns-in_default
returns-in_default c =
    nowhere c.args.net.now c.args.port c.args.space.now c.args.rewrite.now (is_wanted c.args.drops) _ (sym c.box_of.ensures ∙ c.in_default.is) c.new-branches.ensures.items

pub loop-rule-init : goal.loop-rule-init
loop-rule-init c = record {
  progress = begin c.args.net.now c.args.port c.args.space.now c.args.rewrite.now (is_wanted c.args.drops) _ _ _
      (nothing_taken c.args.space.now _ c.new-earlier.ensures.items) c.new-branches.ensures.items
      (pairs_numbered _ c.rules_at-rule-items.ensures.order)
      (λ h. c.rules_at-rule-items.ensures.first c.args.port (rewritten c.args.rewrite.now h) (sym c.box_of.ensures ∙ c.in-Some.is));
  widths = rw c.new-earlier.ensures.items (All-nil (λ (sources : Pattern). length sources ≡ length c.args.rewrite.now));
}

pub returns : goal.returns
returns c =
    end c.args.net.now c.args.port c.args.space.now c.args.rewrite.now (is_wanted c.args.drops) _ _ _ c.loop-rule.invariant.progress
    (λ h held. past_all c.rules_at-rule-items.result.now c.loop-rule.rule-index _ c.loop-rule-test.false)

pub loop-rule-preserved : goal.loop-rule-preserved
loop-rule-preserved c =
    let net = c.args.net.now in
    let port = c.args.port in
    let space = c.args.space.now in
    let rewrite = c.args.rewrite.now in
    let wanted = is_wanted c.args.drops in
    let own = c.rule-item.result in
    let rules = c.rules_at-rule-items.result.now in
    let earlier = c.loop-rule.earlier.items in
    let branches = c.loop-rule.branches.items in
    let here : value_at net.ports port ≡ Some c.in-Some.at = sym c.box_of.ensures ∙ c.in-Some.is in
    let contained = contains_place rules c.loop-rule.rule-index own c.loop-rule-test.true c.rule-item.is in
    let same : own.«at» ≡ c.in-Some.at = ((c.rules_at-rule-items.ensures.all (numbered own)).0 contained).1 in
    let wide : (h : Header) → IsTrue (holds space h) → length h ≡ length rewrite = λ h held. c.bits.ensures.headers h held ∙ c.bits.ensures.width ∙ c.requires.space ∙ sym c.requires.rewrite in
    elim c.if-is_wanted.branch [
      | then-is_wanted+in_ok-branch+in-Some-2+in_ok-push+in_ok-push-2 w ↦
          let branch = w.in-Some-2.branch in
          let sources = w.in-Some-2.sources in
          let taken : IsTaken port rewrite own space earlier branch sources =
          subst (λ (ps : List Pattern). IsTaken port rewrite own space ps branch sources) w.deref.ensures.value (rw w.in-Some-2.is at w.in_ok-branch.ensures.some) in
          rw (w.branches-is, w.in_ok-push.ensures.items, w.earlier-is, w.in_ok-push-2.ensures.items)
          (record {
            progress = step_taken net port space rewrite wanted c.in-Some.at rules c.loop-rule.rule-index own earlier branches here same c.loop-rule-test.true c.rule-item.is c.loop-rule.invariant.progress
                branch sources c.requires.space taken (sym c.is_wanted.ensures ∙ w.if-is_wanted.true);
            widths = All-push (λ (s : Pattern). length s ≡ length rewrite) earlier sources c.loop-rule.invariant.widths taken.sources_width;
          })
      | then-is_wanted+in_ok-branch+in_default-2 w ↦
          let none : (h : Header) → (is_left space earlier h && takes_sent port rewrite own h) ≡ false =
          subst (λ (ps : List Pattern). (h : Header) → (is_left space ps h && takes_sent port rewrite own h) ≡ false) w.deref.ensures.value (rw w.in_default-2.is at w.in_ok-branch.ensures.none) in
          rw (w.branches-is, w.earlier-is)
          (record {
            progress = step_skipped net port space rewrite wanted c.in-Some.at rules c.loop-rule.rule-index own earlier branches here same c.loop-rule-test.true c.rule-item.is c.loop-rule.invariant.progress none;
            widths = c.loop-rule.invariant.widths;
          })
      | else-is_wanted+in-Some-sources_of+in_ok-push-3 w ↦
          let sources = w.in-Some-sources_of.sources in
          let takes_so = rw w.in-Some-sources_of.is at w.sources_of.ensures.some in
          rw (w.branches-is, w.earlier-is, w.in_ok-push-3.ensures.items)
          (record {
            progress = step_passed net port space rewrite wanted c.in-Some.at rules c.loop-rule.rule-index own earlier branches here same c.loop-rule-test.true c.rule-item.is c.loop-rule.invariant.progress
                sources (λ h held. takes_so h (wide h held)) (sym c.is_wanted.ensures ∙ w.if-is_wanted.false);
            widths = All-push (λ (s : Pattern). length s ≡ length rewrite) earlier sources c.loop-rule.invariant.widths (rw w.in-Some-sources_of.is at w.sources_of.ensures.width);
          })
      | else-is_wanted+in_default-sources_of w ↦
          let takes_none = rw w.in_default-sources_of.is at w.sources_of.ensures.none in
          rw (w.branches-is, w.earlier-is)
          (record {
            progress = step_skipped net port space rewrite wanted c.in-Some.at rules c.loop-rule.rule-index own earlier branches here same c.loop-rule-test.true c.rule-item.is c.loop-rule.invariant.progress
                (none_left space earlier (takes_sent port rewrite own) (λ h held. takes_none h (wide h held)));
            widths = c.loop-rule.invariant.widths;
          })
    ]
