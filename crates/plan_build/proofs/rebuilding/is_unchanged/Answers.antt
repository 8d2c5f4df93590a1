use Rattle.std.specs.Prelude.{IsTrue}
use Rattle.std.proofs.Common.{◌≡◌, ◌↔◌, ℕ, List, Contains, take, false, true, refl, sym, ap, ◌∙◌, subst, get_or}
use Rattle.std.proofs.lemmas.List.{take_all}
use Rattle.std.proofs.lemmas.List.Elements.{Contains-get_or}
use Rattle.network_model.specs.Network.{Network}
use Rattle.network_model.specs.Prefixes.{Touches}
use Rattle.net_types.specs.SameParts.{IsSameTerminal}
use Rattle.change_laws.specs.Unchanged.{IsUnchanged}
use Rattle.plan_build.proofs.Parting.{none_yet, none_touched, one_touched}
use Rattle.plan_build.proofs.rebuilding.is_unchanged.Goals as goal

no_false : {A : Type 0} → IsTrue false → A
no_false h = cc

pub loop-at-preserved : goal.loop-at-preserved
loop-at-preserved c =
    none_yet c.args.old.now.net c.args.old.now.hops c.args.t c.args.changed.now c.loop-at.at-index c.at-item.result c.loop-at-test.true c.at-item.is
    (λ touches. let held = c.touches.ensures.touches.1 touches in let failed = c.if-touches.false in cc) c.loop-at.invariant

pub returns-then-touches : goal.returns-then-touches
returns-then-touches c =
    let changed = c.args.changed.now in
    let box = c.at-item.result in
    let there : Contains changed box = (c.loop-at.at-index, c.loop-at-test.true, sym c.at-item.is) in (
      λ h. no_false h,
      λ unchanged.
          absurd (one_touched c.args.old.now.net c.args.net.now c.args.old.now.hops c.args.t changed box c.requires.changed there (c.touches.ensures.touches.0 c.if-touches.true) unchanged),
    )

pub returns : goal.returns
returns c =
    let old = c.args.old.now.net in
    let changed = c.args.changed.now in
    let same : IsSameTerminal old c.args.net.now c.args.t =
    subst (λ (n : Network). IsSameTerminal n c.args.net.now c.args.t) (c.deref.ensures ∙ c.net.ensures.net) (c.term_same.ensures.0 c.if-not-term_same.false) in (
      λ h. none_touched old c.args.net.now c.requires.fits c.args.old.now.hops c.args.t changed c.requires.changed same
          (λ box there. c.loop-at.invariant box (subst (λ (l : List ℕ). Contains l box) (sym (take_all c.loop-at.at-index changed c.loop-at-test.false)) there)),
      λ h. refl,
    )
