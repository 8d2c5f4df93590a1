use Rattle.std.proofs.Common.{ℕ, map, eqb, sym, ap, ◌∙◌}
use Rattle.list_laws.proofs.Members.{filter-map}
use Rattle.net_types.specs.Parts.{port_of}
use Rattle.net_types.proofs.network.Network.ports_at.Goals as goal

pub returns-clause-ports : goal.returns-clause-ports
returns-clause-ports c =
    rw (← c.self.view_is) (ap (map port_of) (rw c.deref.ensures.value at c.rows_of_box.ensures ∙ c.self.invariant.ports.same c.args.«at»)
    ∙ sym (filter-map port_of (λ (e : ℕ × ℕ). eqb e.1 c.args.«at») c.self.inside.parts.ports.items))

pub returns-clause-rises : goal.returns-clause-rises
returns-clause-rises c = rw (← c.self.view_is) c.self.invariant.well_formed.ports
