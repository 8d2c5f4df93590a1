use Rattle.std.proofs.Common.{◌≡◌, ◌∙◌, ap, ℕ, ◌*◌, ◌-◌, ◌^◌, ◌%◌, arith}
use Rattle.std.proofs.Math.Nat.{mod-eq_of_lt}
use Rattle.probe_wire.specs.Packet.{aligned}
use Rattle.probe_wire.proofs.Fields.{aligned-lt}
use Rattle.probe_wire.proofs.encoding.aligned.Goals as goal

pub returns : goal.returns
returns c =
    let h = c.args.header.now in
    let shifted : c.number.result * 2 ^ (128 - c.bits.result) ≡ aligned h =
    (λ i. c.number.ensures.number i * 2 ^ (128 - c.bits.ensures.width i))
    in
    ap (λ (n : ℕ). n % 2 ^ 128) shifted ∙ mod-eq_of_lt (aligned-lt h (omega arith))
