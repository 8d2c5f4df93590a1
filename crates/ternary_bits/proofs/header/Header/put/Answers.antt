use Rattle.std.proofs.Common.{◌≡◌, ◌∙◌, ◌++◌, ap, sym, length, refl, arith}
use Rattle.std.proofs.lemmas.Result.{on_ok_weaker}
use Rattle.ternary_bits.specs.Letters.{header_text}
use Rattle.ternary_bits.specs.Inverses.{length-places}
use Rattle.ternary_bits.specs.Words.{is_one}
use Rattle.ternary_bits.proofs.Written.{header_word-written}
use Rattle.ternary_bits.proofs.header.Header.put.Goals as goal

pub returns-clause-ok : goal.returns-clause-ok
returns-clause-ok c =
    on_ok_weaker c.put_bits.result (λ is. is ∙ ap (λ bits. c.args.text.now.items ++ header_text bits) c.self.view_is) c.put_bits.ensures.ok

pub returns-clause-back : goal.returns-clause-back
returns-clause-back c =
    let h = c.args.self.now in
    let p = c.self.inside in
    let width : length h ≡ p.bits = ap length (sym c.self.view_is) ∙ length-places (is_one p.value) p.bits in
    let low = c.self.invariant.0 in
    let high = c.self.invariant.1 in
    header_word-written h (header_text h) (omega arith) (omega arith) refl
