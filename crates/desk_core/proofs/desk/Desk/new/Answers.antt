use Rattle.std.specs.Prelude.{[], List, ◌≡◌, length}
use Rattle.std.specs.Arc.{arc_value}
use Rattle.std.proofs.Common.{sym, ap, ◌∙◌, subst, refl, arith}
use Rattle.network_model.specs.Network.{Network}
use Rattle.desk_core.specs.declared.event.Logged.{Logged}
use Rattle.desk_core.specs.Past.{past_of}
use Rattle.desk_core.specs.Legal.{IsLegal}
use Rattle.desk_core.specs.Keeping.{Mirrors}
use Rattle.desk_core.specs.RoundsValue.{RoundsValue}
use Rattle.desk_core.proofs.desk.Desk.new.Goals as goal

pub invariant_of-result : goal.invariant_of-result
invariant_of-result c =
    let empty : c.in_ok-with_capacity.field-0.items ≡ [] = c.in_ok-with_capacity.ensures.items in
    let L : List Logged → Type 0 = λ l. IsLegal (past_of l) in
    let rounds = c.rounds.view_is ∙ c.in_ok-network.ensures.stays in
    let net : arc_value c.in_ok-network.field-0 ≡ c.args.net = c.in_ok-network.ensures.net ∙ c.in_ok-rounds.ensures.net in
    let V : RoundsValue = record { now = c.rounds.inside.versions; opened = c.rounds.inside.opened; open_rounds = c.rounds.inside.rounds.items } in
    let R : RoundsValue → Type 0 = λ v. Mirrors c.args.net c.args.hops [] v in
    let N : Network → Type 0 = λ n. Mirrors n c.args.hops [] V in
    let P : List Logged → Type 0 = λ l. Mirrors (arc_value c.in_ok-network.field-0) c.args.hops (past_of l) V in
    let none : length c.in_ok-with_capacity.field-0.items ≡ 0 = ap length empty in
    record {
      legal = subst L (sym empty) refl;
      mirrors = subst P (sym empty) (subst N (sym net) (subst R (sym rounds) (c.in_ok-rounds.ensures.mirrors c.args.hops)));
      within = omega (arith, none);
      most = c.requires.room.1;
      kept = c.in_ok-with_capacity.ensures.capacity;
    }
