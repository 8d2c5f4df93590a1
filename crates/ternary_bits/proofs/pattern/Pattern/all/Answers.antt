use Rattle.std.proofs.Common.{◌∙◌, ap, if◌then◌else◌}
use Rattle.network_model.specs.Bits.{Bit, Any}
use Rattle.ternary_bits.specs.Words.{is_one}
use Rattle.ternary_bits.specs.Inverses.{places-same}
use Rattle.ternary_bits.proofs.Places.{places-replicate}
use Rattle.ternary_bits.proofs.Words.{is_one-zero}
use Rattle.ternary_bits.proofs.pattern.Pattern.all.Goals as goal

pub returns : goal.returns
returns c =
    places-same _ _ c.args.bits (λ i l. ap (λ asked. if asked then Bit (is_one 0 i) else Any) (is_one-zero i)) ∙ places-replicate Any c.args.bits
