-- One more terminal, and the end of the terminals.
use Rattle.std.proofs.Common.{◌≡◌, ℕ, ◌≤◌, ◌+◌, List, [], length, map, take, Some, sym, ap, ◌∙◌, subst, arith}
use Rattle.std.specs.Prelude.{false, slice_get, IfSome, IfNone}
use Rattle.std.proofs.lemmas.List.{length-map}
use Rattle.std.proofs.lemmas.Option.{slice_get-map, slice_get_past}
use Rattle.network_model.specs.Bits.{Header}
use Rattle.network_model.specs.Network.{Terminal}
use Rattle.network_model.specs.Classes.{permits}
use Rattle.class_tree.specs.declared.class.Class.{Class}
use Rattle.class_tree.specs.Roots.{IsRoot, AreAmong}
use Rattle.class_tree.proofs.Rooted.{among_none, among_more, among_same, among_all}
use Rattle.class_tree.proofs.starting.roots.Goals as goal
use Rattle.class_tree.proofs.starting.roots.Goals.{in-Some+in_ok-push, in_default}

pub loop-place-init : goal.loop-place-init
loop-place-init c = subst (λ l. AreAmong c.args.net.now [] l) (sym c.new-classes.ensures.items) (among_none c.args.net.now)

pub loop-place-preserved : goal.loop-place-preserved
loop-place-preserved c =
    let net = c.args.net.now in
    let terminal = c.unwrap-terminal.result in
    let at : slice_get (map (λ (t : ℕ × Terminal). t.0) net.terminals) c.loop-place.place ≡ Some terminal =
    slice_get-map (λ (t : ℕ × Terminal). t.0) net.terminals c.loop-place.place ∙ (sym c.term_at.ensures ∙ c.unwrap-terminal.ensures) in
    elim c.match-branch-2.branch [
      | in-Some+in_ok-push w ↦
          let root = subst (λ o. IfSome o (IsRoot net terminal)) w.in-Some.is c.in_ok-root.ensures.some in
          subst (λ (l : List Class). AreAmong net (take (c.loop-place.place + 1) (map (λ (t : ℕ × Terminal). t.0) net.terminals)) l) (sym (ap (λ v. v.items) w.classes-is ∙ w.in_ok-push.ensures.items))
          (among_more net c.bits-bits.ensures.well_formed c.loop-place.place terminal c.loop-place.classes.items w.in-Some.root at root c.loop-place.invariant)
      | in_default w ↦
          let silent = subst (λ o. IfNone o ((h : Header) → permits net terminal h ≡ false)) w.in_default.is c.in_ok-root.ensures.none in
          subst (λ (l : List Class). AreAmong net (take (c.loop-place.place + 1) (map (λ (t : ℕ × Terminal). t.0) net.terminals)) l) (sym (ap (λ v. v.items) w.classes-is))
          (among_same net c.loop-place.place terminal c.loop-place.classes.items at silent c.loop-place.invariant)
    ]

pub returns : goal.returns
returns c =
    let ids = map (λ (t : ℕ × Terminal). t.0) c.args.net.now.terminals in
    let past : length ids ≤ c.loop-place.place =
    omega (arith, length-map c.args.net.now.terminals (λ (t : ℕ × Terminal). t.0), c.term_count-place-end.ensures.count, c.loop-place-test.false) in
    among_all c.args.net.now c.loop-place.place c.loop-place.classes.items (slice_get_past ids c.loop-place.place past) c.loop-place.invariant
