use Rattle.std.proofs.Common.{◌≡◌, ◌<◌, ◌≤◌, ◌*◌, ◌-◌, ◌∙◌, ◌++◌, sym, ap, refl, drop, arith, rules}
use Rattle.std.proofs.Math.Nat.{div-one}
use Rattle.std.proofs.lemmas.Result.{on_ok_weaker}
use Rattle.std.proofs.lemmas.Slice.{between_to_end, overwrites}
use Rattle.ternary_bits.specs.Letters.{header_text}
use Rattle.ternary_bits.specs.Words.{header_of}
use Rattle.ternary_bits.proofs.Bytes.{no_letters, rest_less, byte_written, last_letters}
use Rattle.ternary_bits.proofs.letters.put_bits.Goals as goal

pub loop-bytes-init : goal.loop-bytes-init
loop-bytes-init c = record { size = refl; rest = sym (div-one c.args.word); written = no_letters c.args.word }

pub loop-bytes-preserved : goal.loop-bytes-preserved
loop-bytes-preserved c =
    let word = c.args.word in
    let bytes = c.loop-bytes.bytes in
    let few : bytes < 16 = omega (arith, c.loop-bytes-test.true, c.div_ceil-bytes-end.ensures, c.requires) in
    record {
      size = search (rules, overwrites);
      rest = rest_less word c.loop-bytes.rest bytes c.loop-bytes.invariant.rest;
      written =
          byte_written word c.loop-bytes.rest bytes c.loop-bytes.letters c.copy_from_slice.new.self few c.loop-bytes.invariant.size c.loop-bytes.invariant.rest
          (c.copy_from_slice.ensures.after ∙ c.byte_letters.ensures) c.loop-bytes.invariant.written;
    }

pub returns-clause-ok : goal.returns-clause-ok
returns-clause-ok c =
    let bytes = c.loop-bytes.bytes in
    let letters = c.loop-bytes.letters in
    let bits = c.args.bits in
    let within : bits ≤ 8 * bytes = omega (arith, c.loop-bytes-test.false, c.div_ceil-bytes-end.ensures, c.requires) in
    let few : bytes ≤ 16 = omega (arith, c.loop-bytes-test.false, c.div_ceil-bytes-end.ensures, c.requires, c.loop-bytes.auto.bytes-end) in
    let last : drop (128 - bits) letters ≡ header_text (header_of bits c.args.word) = last_letters c.args.word bytes bits letters within few c.loop-bytes.invariant.written in
    on_ok_weaker c.put.result (λ is. is ∙ ap (λ l. c.args.text.now.items ++ l) (between_to_end letters (128 - bits) 128 (omega (arith, c.loop-bytes.invariant.size)) ∙ last)) c.put.ensures.ok
