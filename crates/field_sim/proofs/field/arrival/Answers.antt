use Rattle.std.proofs.Common.{◌≡◌, ◌≢◌, ℕ, [], ◌∷◌, Some, None, length, sym, ap, ◌∙◌, arith}
use Rattle.probe_wire.specs.Packet.{IsProbe}
use Rattle.probe_wire.specs.Carrying.{added, carried}
use Rattle.probe_wire.proofs.Carrying.{added-packet, added-narrow, added-none}
use Rattle.network_model.specs.Field.{field}
use Rattle.field_sim.specs.Listed.{waits}
use Rattle.field_sim.proofs.field.arrival.Goals as goal

pub returns-in_default-clause-arrival : goal.returns-in_default-clause-arrival
returns-in_default-clause-arrival c =
    sym (added-none c.args.net.now c.args.hops c.args.bad.now c.args.term c.args.packet.now
    (λ p is e. c.in_default.not-Ok p (c.decode.ensures.read p is e)))

pub returns-then-bits-clause-arrival : goal.returns-then-bits-clause-arrival
returns-then-bits-clause-arrival c =
    let p = c.in-Ok.probe in
    let is : IsProbe p = (omega arith, omega arith, omega arith, omega arith, omega arith) in
    let other : length p.header ≢ c.args.net.now.width = λ e. c.if-bits.true (c.bits.ensures.width ∙ e ∙ sym c.bits-2.ensures.width) in
    sym (ap (added c.args.net.now c.args.hops c.args.bad.now c.args.term) c.in-Ok.ensures.ok ∙ added-narrow c.args.net.now c.args.hops c.args.bad.now c.args.term p is other)

pub returns-in_err-term-clause-arrival : goal.returns-in_err-term-clause-arrival
returns-in_err-term-clause-arrival c =
    let p = c.in-Ok.probe in
    let is : IsProbe p = (omega arith, omega arith, omega arith, omega arith, omega arith) in
    let wide : length p.header ≡ c.args.net.now.width = sym c.bits.ensures.width ∙ c.if-bits.false ∙ c.bits-2.ensures.width in
    let lost : None ≡ field c.args.net.now c.args.hops c.args.bad.now c.args.term p.header =
    sym c.in_err-term.was ∙ c.destination.ensures.field ∙ ap (λ (from : ℕ). field c.args.net.now c.args.hops c.args.bad.now from p.header) c.of.ensures in
    ap waits c.from_residual.ensures ∙ ap (carried p) lost
    ∙ sym (ap (added c.args.net.now c.args.hops c.args.bad.now c.args.term) c.in-Ok.ensures.ok ∙ added-packet c.args.net.now c.args.hops c.args.bad.now c.args.term p is wide)

pub returns-clause-arrival : goal.returns-clause-arrival
returns-clause-arrival c =
    let p = c.in-Ok.probe in
    let is : IsProbe p = (omega arith, omega arith, omega arith, omega arith, omega arith) in
    let wide : length p.header ≡ c.args.net.now.width = sym c.bits.ensures.width ∙ c.if-bits.false ∙ c.bits-2.ensures.width in
    let arrives : Some (c.in_ok-term.term, c.in_ok-term.header) ≡ field c.args.net.now c.args.hops c.args.bad.now c.args.term p.header =
    sym c.in_ok-term.was ∙ c.destination.ensures.field ∙ ap (λ (from : ℕ). field c.args.net.now c.args.hops c.args.bad.now from p.header) c.of.ensures in
    let here : (c.get.result, c.encode.result) ∷ [] ≡ carried p (Some (c.in_ok-term.term, c.in_ok-term.header)) = λ i. (c.get.ensures i, c.encode.ensures i) ∷ [] in
    here ∙ ap (carried p) arrives
    ∙ sym (ap (added c.args.net.now c.args.hops c.args.bad.now c.args.term) c.in-Ok.ensures.ok ∙ added-packet c.args.net.now c.args.hops c.args.bad.now c.args.term p is wide)
