use Rattle.std.proofs.Common.{◌∙◌, ap, sym, length}
use Rattle.ternary_bits.specs.Words.{is_one}
use Rattle.ternary_bits.specs.Inverses.{length-places}
use Rattle.ternary_bits.proofs.header.Header.bits.Goals as goal

pub returns-clause-width : goal.returns-clause-width
returns-clause-width c = sym (length-places (is_one c.self.inside.value) c.self.inside.bits) ∙ ap length c.self.view_is
