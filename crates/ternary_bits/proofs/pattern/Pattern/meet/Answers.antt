use Rattle.std.proofs.Common.{◌≡◌, ◌∙◌, sym, ◌<◌, ◌^◌, true, bit_or}
use Rattle.std.proofs.lemmas.Nat.{or_lt}
use Rattle.network_model.specs.Bits.{Pattern}
use Rattle.ternary_bits.specs.Pieces.{meets, least_member}
use Rattle.ternary_bits.proofs.Members.{least_matches}
use Rattle.ternary_bits.specs.Words.{letter_at, pattern_of}
use Rattle.ternary_bits.specs.Inverses.{length-places}
use Rattle.ternary_bits.proofs.Matching.{length-pattern_of}
use Rattle.ternary_bits.proofs.Meeting.{apart, within-or, matches-meet}
use Rattle.ternary_bits.proofs.pattern.Pattern.meet.Goals as goal

pub returns-then-not-meets-clause-none : goal.returns-then-not-meets-clause-none
returns-then-not-meets-clause-none c = apart c.args.self.now c.args.other.now (sym c.meets.ensures ∙ c.if-not-meets.true)

pub invariant_of-result : goal.invariant_of-result
invariant_of-result c =
    let p = c.self.inside in
    let q = c.other.inside in
    let same : q.bits ≡ p.bits =
    sym (length-pattern_of q.bits q.care q.value c.args.other.now c.other.view_is) ∙ sym c.requires ∙ length-pattern_of p.bits p.care p.value c.args.self.now c.self.view_is
    in
    let fits : q.care < 2 ^ p.bits = rw (← same) c.other.invariant.2 in
    (c.self.invariant.0, c.self.invariant.1, or_lt p.bits p.care q.care c.self.invariant.2 fits, within-or p.care p.value q.care q.value c.self.invariant.3 c.other.invariant.3)

pub returns-clause-width : goal.returns-clause-width
returns-clause-width c =
    let p = c.self.inside in
    let q = c.other.inside in
    length-places (letter_at (bit_or p.care q.care) (bit_or p.value q.value)) p.bits
    ∙ sym (length-pattern_of p.bits p.care p.value c.args.self.now c.self.view_is)

pub returns-clause-both : goal.returns-clause-both
returns-clause-both c =
    let p = c.self.inside in
    let q = c.other.inside in
    let met : meets c.args.self.now c.args.other.now ≡ true = sym c.meets.ensures ∙ c.if-not-meets.false in
    matches-meet p.bits p.care p.value q.bits q.care q.value c.args.self.now c.args.other.now c.self.view_is c.other.view_is c.requires c.self.invariant.3 c.other.invariant.3 met

pub returns-clause-some : goal.returns-clause-some
returns-clause-some c =
    let p = c.self.inside in
    let q = c.other.inside in
    let both : Pattern = pattern_of p.bits (bit_or p.care q.care) (bit_or p.value q.value) in
    let met : meets c.args.self.now c.args.other.now ≡ true = sym c.meets.ensures ∙ c.if-not-meets.false in
    let same = matches-meet p.bits p.care p.value q.bits q.care q.value c.args.self.now c.args.other.now c.self.view_is c.other.view_is c.requires c.self.invariant.3 c.other.invariant.3 met in
    (least_member both, sym (same (least_member both)) ∙ least_matches both)
