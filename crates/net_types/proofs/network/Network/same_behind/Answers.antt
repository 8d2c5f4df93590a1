use Rattle.std.proofs.Common.{◌≡◌, ℕ, Some, arith, refl, subst, sym, ◌∙◌}
use Rattle.network_model.specs.Network.{value_at}
use Rattle.net_types.specs.declared.parts.Port.{Port}
use Rattle.net_types.specs.SameParts.{IsSamePort}
use Rattle.net_types.proofs.SameParts.{each_of, one_of}
use Rattle.net_types.proofs.network.Network.same_behind.Goals as goal

pub returns-then-not-same_port : goal.returns-then-not-same_port
returns-then-not-same_port c = (
  λ no. absurd (cc),
  λ each.
      let rows = c.args.self.now.ports in
      let row = c.port-item.result in
      let here : value_at rows row.id ≡ Some c.args.b =
      subst (λ (r : Port). value_at rows r.id ≡ Some c.args.b) (sym c.port-item.is)
      (one_of c.args.b rows c.ports_at-ports.result.now c.ports_at-ports.ensures.ports c.ports_at-ports.ensures.rises c.loop-port.port-index row c.loop-port-test.true) in
      sym c.if-not-same_port.true ∙ c.same_port.ensures.1 (each row.id here),
)

pub returns : goal.returns
returns c = (
  λ _. each_of c.args.b c.args.self.now.ports c.ports_at-ports.result.now c.ports_at-ports.ensures.ports
      (λ (port : ℕ). IsSamePort c.args.self.now c.args.other.now port) (λ k d below. c.loop-port.invariant k d (omega arith)),
  λ _. refl,
)
