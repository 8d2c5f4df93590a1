use Rattle.std.proofs.Common.{◌≡◌, ◌∙◌, ap, sym, length}
use Rattle.network_model.specs.Bits.{number_of}
use Rattle.ternary_bits.specs.Words.{is_one}
use Rattle.ternary_bits.specs.Inverses.{length-places}
use Rattle.ternary_bits.proofs.Headers.{number_of-fits}
use Rattle.ternary_bits.proofs.header.Header.number.Goals as goal

pub returns-clause-number : goal.returns-clause-number
returns-clause-number c =
    sym (number_of-fits c.self.inside.bits c.self.inside.value c.self.invariant.2) ∙ ap number_of c.self.view_is

pub returns-clause-fits : goal.returns-clause-fits
returns-clause-fits c =
    let width : length c.args.self.now ≡ c.self.inside.bits =
    ap length (sym c.self.view_is) ∙ length-places (is_one c.self.inside.value) c.self.inside.bits
    in
    rw width c.self.invariant.2
