use Rattle.std.proofs.Common.{◌≡◌, ◌∙◌, ℕ, ap, sym, eqb, true, false, ◌*◌, ◌^◌, ◌%◌, arith, bit_and}
use Rattle.std.specs.Int.{w128, bit_not, trailing_zeros}
use Rattle.std.proofs.lemmas.Bool.{false≢true}
use Rattle.std.proofs.lemmas.Nat.{and_le_l}
use Rattle.std.proofs.lemmas.Nat.Bits.{bit_at-trailing_zeros, bit_at_clear_same, bit_at_clear_other}
use Rattle.ternary_bits.specs.Words.{is_one}
use Rattle.ternary_bits.proofs.word.next_place.Goals as goal

pub returns-clause-some : goal.returns-clause-some
returns-clause-some c =
    let word : ℕ = c.args.word in
    let lowest = bit_at-trailing_zeros w128 c.args.word (omega arith) (omega arith) in
    let place : ℕ = trailing_zeros w128 word in
    let rest : ℕ = bit_and word (bit_not w128 (1 * 2 ^ place % 2 ^ 128)) in
    let here : is_one word place ≡ true = ap (λ b. eqb b 1) lowest.1 in
    let gone : is_one rest place ≡ false = ap (λ b. eqb b 1) (bit_at_clear_same w128 word place lowest.0) in
    let different : rest ≡ word → ⊥ = λ same. false≢true (sym gone ∙ ap (λ x. is_one x place) same ∙ here) in
    record {
      inside = lowest.0;
      here = here;
      gone = gone;
      others = λ other l apart. ap (λ b. eqb b 1) (bit_at_clear_other w128 word place lowest.0 other l apart);
      fewer = omega (arith, and_le_l word (bit_not w128 (1 * 2 ^ place % 2 ^ 128)), different);
    }
