use Rattle.std.proofs.Common.{◌≡◌, ◌∙◌, ap, sym, ◌<◌, ◌^◌, arith, length, ◌∷◌, bit_or}
use Rattle.network_model.specs.Bits.{Pattern}
use Rattle.ternary_bits.specs.Pieces.{pieces}
use Rattle.ternary_bits.specs.Words.{letter_at, pattern_of}
use Rattle.ternary_bits.specs.Inverses.{length-places}
use Rattle.ternary_bits.proofs.Matching.{length-pattern_of, same_width}
use Rattle.ternary_bits.proofs.Cutting.{none_words, first_words, piece_value, rest_value, piece-within, rest-within, care-lt}
use Rattle.ternary_bits.proofs.pattern.Pattern.first_piece.Goals as goal

pub returns-then-free-eq0-clause-none : goal.returns-then-free-eq0-clause-none
returns-then-free-eq0-clause-none c =
    let p = c.self.inside in
    let q = c.other.inside in
    let other = same_width p.bits p.care p.value q.bits q.care q.value c.args.self.now c.args.other.now c.self.view_is c.other.view_is c.requires in
    sym (ap (pieces (pattern_of p.bits p.care p.value)) other.1 ∙ ap (λ l. pieces l c.args.other.now) c.self.view_is)
    ∙ none_words p.bits p.care p.value q.care q.value (omega arith) c.self.invariant.1 c.if-free-eq0.true

pub invariant_of-piece : goal.invariant_of-piece
invariant_of-piece c =
    let p = c.self.inside in
    let q = c.other.inside in
    let bit = c.highest_bit-place.result in
    let other = same_width p.bits p.care p.value q.bits q.care q.value c.args.self.now c.args.other.now c.self.view_is c.other.view_is c.requires in
    let fits : q.care < 2 ^ p.bits = rw (← other.0) c.other.invariant.2 in
    (c.self.invariant.0, c.self.invariant.1, care-lt p.bits p.care q.care bit c.self.invariant.2 fits c.highest_bit-place.ensures.2, piece-within p.care p.value q.value bit c.self.invariant.3)

pub invariant_of-rest : goal.invariant_of-rest
invariant_of-rest c =
    let p = c.self.inside in
    let q = c.other.inside in
    let bit = c.highest_bit-place.result in
    let other = same_width p.bits p.care p.value q.bits q.care q.value c.args.self.now c.args.other.now c.self.view_is c.other.view_is c.requires in
    let fits : q.care < 2 ^ p.bits = rw (← other.0) c.other.invariant.2 in
    (c.self.invariant.0, c.self.invariant.1, care-lt p.bits p.care q.care bit c.self.invariant.2 fits c.highest_bit-place.ensures.2, rest-within p.care p.value q.value bit c.self.invariant.3)

pub returns-clause-widths : goal.returns-clause-widths
returns-clause-widths c =
    let p = c.self.inside in
    let q = c.other.inside in
    let bit = c.highest_bit-place.result in
    let width : p.bits ≡ length c.args.self.now = sym (length-pattern_of p.bits p.care p.value c.args.self.now c.self.view_is) in (
      length-places (letter_at (bit_or p.care bit) (piece_value p.value q.value bit)) p.bits ∙ width,
      length-places (letter_at (bit_or p.care bit) (rest_value p.value q.value bit)) p.bits ∙ width,
    )

pub returns-clause-some : goal.returns-clause-some
returns-clause-some c =
    let p = c.self.inside in
    let q = c.other.inside in
    let bit = c.highest_bit-place.result in
    let top = c.highest_bit-place.ensures in
    let other = same_width p.bits p.care p.value q.bits q.care q.value c.args.self.now c.args.other.now c.self.view_is c.other.view_is c.requires in
    let fits : q.care < 2 ^ p.bits = rw (← other.0) c.other.invariant.2 in
    let first = first_words p.bits p.care p.value q.care q.value bit top.0 c.self.invariant.1 (omega arith) fits c.self.invariant.3 top.1 top.2 top.3 in
    let rest : Pattern = pattern_of p.bits (bit_or p.care bit) (rest_value p.value q.value bit) in
    let piece : Pattern = pattern_of p.bits (bit_or p.care bit) (piece_value p.value q.value bit) in
    sym (ap (pieces (pattern_of p.bits p.care p.value)) other.1 ∙ ap (λ l. pieces l c.args.other.now) c.self.view_is)
    ∙ first
    ∙ ap (λ l. piece ∷ pieces rest l) other.1
