use Rattle.std.specs.List.{slice_get}
use Rattle.std.specs.String.{string_bytes}
use Rattle.std.proofs.Common.{◌≡◌, ◌+◌, Some, map, sym, ap, ◌∙◌, arith}
use Rattle.std.proofs.lemmas.List.{length-map}
use Rattle.std.proofs.lemmas.Option.{slice_get_within}
use Rattle.command_line.proofs.Places.{same_word, stands_at, below_next}
use Rattle.command_line.proofs.pairs.place_of.Goals as goal

pub returns-then-eq-clause-some : goal.returns-then-eq-clause-some
returns-then-eq-clause-some c =
    let word = sym ((same_word _ _ c.eq.result c.eq.ensures).0 c.if-eq.true) ∙ c.as_str.ensures.value in
    (c.loop-at.invariant.0, c.loop-at.invariant.1, stands_at c.args.words.now c.loop-at.at c.index-words-at.result c.args.word.now c.loop-at-test.true c.index-words-at.is word)

pub loop-at-preserved : goal.loop-at-preserved
loop-at-preserved c =
    let words = map string_bytes c.args.words.now in
    let j = c.loop-at.invariant.0 in
    let place = c.loop-at.invariant.1 in
    let stands = stands_at c.args.words.now c.loop-at.at c.index-words-at.result c.as_str.result.now c.loop-at-test.true c.index-words-at.is c.as_str.ensures.value in
    let here : slice_get words (j + j) ≡ Some c.args.word.now → ⊥ = λ given.
    let both : Some c.as_str.result.now ≡ Some c.args.word.now = sym stands ∙ (ap (λ i. slice_get words i) place ∙ given) in
    let same : c.as_str.result.now ≡ c.args.word.now = cc in
    let yes = (same_word _ _ c.eq.result c.eq.ensures).1 same in
    let no = c.if-eq.false in
    cc in
    (j + 1, omega arith, below_next (λ i. slice_get words (i + i) ≡ Some c.args.word.now → ⊥) j c.loop-at.invariant.2 here)

pub returns-clause-none : goal.returns-clause-none
returns-clause-none c = λ (i, given).
    let words = map string_bytes c.args.words.now in
    let inside = slice_get_within words (i + i) c.args.word.now given in
    let many = length-map c.args.words.now string_bytes in
    let j = c.loop-at.invariant.0 in
    let place = c.loop-at.invariant.1 in
    let past = c.loop-at-test.false in
    c.loop-at.invariant.2 i (omega arith) given
