use Rattle.std.proofs.Common.{◌≡◌, sym, ap, ◌∙◌, length, Some, None, List, subst, IsTrue, IfSome, IfNone, is_none, not, ◌&&◌, false}
use Rattle.std.specs.Prelude.{replicate}
use Rattle.std.proofs.lemmas.List.Elements.{All-push}
use Rattle.std.proofs.lemmas.Result.{IfOk-weaker}
use Rattle.network_model.specs.Bits.{Header, Any, Pattern, matches}
use Rattle.network_model.specs.Rewrites.{rewritten}
use Rattle.network_model.specs.Network.{value_at, hit}
use Rattle.net_types.specs.Rules.{numbered}
use Rattle.box_step.specs.Taking.{takes_sent}
use Rattle.box_step.proofs.Splitting.{contains_place}
use Rattle.header_sets.specs.Spaces.{SpaceValue, any_matches, holds}
use Rattle.policy_check.proofs.Rest.{taken_more, taken_same, taken_all, left_over, no_hit}
use Rattle.policy_check.proofs.unmatched.unmatched.Goals as goal
use Rattle.policy_check.proofs.unmatched.unmatched.Goals.{in-Some-sources_of+in_ok-push, in_default-sources_of, in-Some+else-loop-rule-test, in_default}

pub loop-rule-preserved : goal.loop-rule-preserved
loop-rule-preserved c =
    let net = c.args.net.now in
    let part = c.args.part.now in
    let own = c.rule-item.result in
    let rules = c.rules_at-rule-items.result.now in
    let taken = c.loop-rule.taken.items in
    let here : value_at net.ports part.port ≡ Some c.in-Some.at = sym c.box_of.ensures ∙ c.in-Some.is in
    let contained = contains_place rules c.loop-rule.rule-index own c.loop-rule-test.true c.rule-item.is in
    let same : own.«at» ≡ c.in-Some.at = ((c.rules_at-rule-items.ensures.all (numbered own)).0 contained).1 in
    elim c.match-sources_of.branch [
      | in-Some-sources_of+in_ok-push w ↦
          let sources = w.in-Some-sources_of.sources in
          let wide : length sources ≡ net.width = subst (λ o. IfSome o (λ (s : Pattern). length s ≡ length part.rewrite)) w.in-Some-sources_of.is c.sources_of.ensures.width ∙ c.requires.rewrite in
          let takes_it = subst (λ o. IfSome o (λ (s : Pattern). (h : Header) → length h ≡ length part.rewrite → matches s h ≡ takes_sent part.port part.rewrite own h)) w.in-Some-sources_of.is c.sources_of.ensures.some in
          rw (w.taken-is, w.in_ok-push.ensures.items)
          (taken_more net part.port part.rewrite net.width c.in-Some.at rules c.loop-rule.rule-index own here same c.loop-rule-test.true c.rule-item.is taken sources
          c.loop-rule.invariant (All-push (λ (p : Pattern). length p ≡ net.width) taken sources c.loop-rule.invariant.widths wide)
          (λ h e. takes_it h (e ∙ sym c.requires.rewrite)))
      | in_default-sources_of w ↦
          let none = subst (λ o. IfNone o ((h : Header) → length h ≡ length part.rewrite → takes_sent part.port part.rewrite own h ≡ false)) w.in_default-sources_of.is c.sources_of.ensures.none in
          rw w.taken-is
          (taken_same net part.port part.rewrite net.width c.in-Some.at rules c.loop-rule.rule-index own here same c.loop-rule-test.true c.rule-item.is taken
          c.loop-rule.invariant (λ h e. none h (e ∙ sym c.requires.rewrite)))
    ]

pub returns-clause-set : goal.returns-clause-set
returns-clause-set c =
    let net = c.args.net.now in
    let part = c.args.part.now in
    let wide : (h : Header) → IsTrue (holds part.space h) → length h ≡ net.width = λ h held. c.bits.ensures.headers h held ∙ c.bits.ensures.width ∙ c.requires.space in
    let rest : (h : Header) → IsTrue (holds part.space h) → not (any_matches c.match-box_of.taken.items h) ≡ is_none (hit net part.port (rewritten part.rewrite h)) =
    λ h held.
    elim c.match-box_of.branch [
      | in-Some+else-loop-rule-test w ↦
          let here : value_at net.ports part.port ≡ Some w.in-Some.at = sym c.box_of.ensures ∙ w.in-Some.is in
          rw w.taken-is
          (taken_all net part.port part.rewrite net.width w.rules_at-rule-items.result.now w.loop-rule.rule-index w.loop-rule.taken.items w.loop-rule.invariant
          w.loop-rule-test.false h (wide h held) (w.rules_at-rule-items.ensures.first part.port (rewritten part.rewrite h) here))
      | in_default w ↦
          let nowhere : value_at net.ports part.port ≡ None = sym c.box_of.ensures ∙ w.in_default.is in
          rw (w.taken-is, c.new-taken.ensures.items) (sym (ap is_none (no_hit net part.port part.space part.rewrite nowhere h held)))
    ] in
    IfOk-weaker c.meet_without.result
    (λ (s : SpaceValue). (h : Header) → holds s h ≡ (holds part.space h && (matches c.all.result h && not (any_matches c.deref.result.now h))))
    (λ (s : SpaceValue). (h : Header) → holds s h ≡ (holds part.space h && is_none (hit net part.port (rewritten part.rewrite h))))
    (λ s set h.
    set h ∙ ap (λ (p : Pattern). holds part.space h && (matches p h && not (any_matches c.deref.result.now h))) c.all.ensures
    ∙ ap (λ (ps : List Pattern). holds part.space h && (matches (replicate c.bits-3.result Any) h && not (any_matches ps h))) c.deref.ensures.value
    ∙ left_over part.space c.bits-3.result c.match-box_of.taken.items h (is_none (hit net part.port (rewritten part.rewrite h)))
    (λ held. wide h held ∙ sym c.bits-3.ensures.width) (rest h))
    c.meet_without.ensures.set
