-- Patterns and rewrites are the same where their words are.
use Rattle.std.proofs.Common.{◌≡◌, ◌⊎◌, ℕ, ◌^◌, ◌<◌, eqb, Bool, true, ◌&&◌, List, inl, inr, length, map, sym, ap, ◌∙◌, arith}
use Rattle.std.specs.Prelude.{bit_and, IsTrue, slice_index_or}
use Rattle.std.proofs.lemmas.Bool.{and_parts, and_from, eqb-true, eq-eqb}
use Rattle.std.proofs.lemmas.Bool.Decides.{nat_tests}
use Rattle.network_model.specs.Bits.{Pattern, number_of}
use Rattle.network_model.specs.Rewrites.{Rewrite}
use Rattle.ternary_bits.specs.Inverses.{length-places, places-same, care_back, asked_back}
use Rattle.ternary_bits.specs.Pieces.{least_member}
use Rattle.ternary_bits.specs.Words.{is_one, pattern_of, rewrite_of, letter_at, has_bit, is_set, set_bit, moves_of, sources_of, AreRewrite}
use Rattle.ternary_bits.proofs.Rewriting.{unmoved, unmoved_item, known}
use Rattle.ternary_bits.proofs.Words.{is_one-zero}

abbrev all_equal : ℕ → ℕ → ℕ → ℕ → ℕ → ℕ → Bool
all_equal a b c x y z = (eqb a x && eqb b y) && eqb c z

equal_parts : (a b c x y z : ℕ) → all_equal a b c x y z ≡ true → (a ≡ x) × (b ≡ y) × (c ≡ z)
equal_parts a b c x y z test = (first a b c x y z test, second a b c x y z test, third a b c x y z test)
  where
    first : (a b c x y z : ℕ) → all_equal a b c x y z ≡ true → a ≡ x
    first a b c x y z test = grind (arith, nat_tests, test)

    second : (a b c x y z : ℕ) → all_equal a b c x y z ≡ true → b ≡ y
    second a b c x y z test = grind (arith, nat_tests, test)

    third : (a b c x y z : ℕ) → all_equal a b c x y z ≡ true → c ≡ z
    third a b c x y z test = grind (arith, nat_tests, test)

equal_test : (a b c x y z : ℕ) → a ≡ x → b ≡ y → c ≡ z → all_equal a b c x y z ≡ true
equal_test a b c x y z first second third = grind (arith, nat_tests)

pub pattern_same : (w care value u cares values : ℕ) → care < 2 ^ w → bit_and value care ≡ value → cares < 2 ^ u → bit_and values cares ≡ values → (p q : Pattern) → pattern_of w care value ≡ p → pattern_of u cares values ≡ q → (r : Bool) → r ≡ all_equal w care value u cares values → (IsTrue r → p ≡ q) × (p ≡ q → IsTrue r)
pattern_same w care value u cares values low within lows withins p q is are r test = (there, back)
  where
    there : IsTrue r → p ≡ q
    there holds =
        let (one, two, three) = equal_parts w care value u cares values (sym test ∙ holds) in
        sym is ∙ ap (λ n. pattern_of n care value) one ∙ ap (λ n. pattern_of u n value) two ∙ ap (λ n. pattern_of u cares n) three ∙ are

    back : p ≡ q → IsTrue r
    back same =
        let whole : pattern_of w care value ≡ pattern_of u cares values = is ∙ same ∙ sym are in
        test ∙ equal_test w care value u cares values
        (sym (length-places (letter_at care value) w) ∙ ap length whole ∙ length-places (letter_at cares values) u)
        (sym (care_back w care value low) ∙ ap (λ l. number_of (map has_bit l)) whole ∙ care_back u cares values lows)
        (sym (asked_back w care value low within) ∙ ap (λ l. number_of (least_member l)) whole ∙ asked_back u cares values lows withins)

abbrev pub four_equal : ℕ → ℕ → ℕ → ℕ → ℕ → ℕ → ℕ → ℕ → Bool
four_equal a b c d x y z u = ((eqb a x && eqb b y) && eqb c z) && eqb d u

four_parts : (a b c d x y z u : ℕ) → four_equal a b c d x y z u ≡ true → (a ≡ x) × (b ≡ y) × (c ≡ z) × (d ≡ u)
four_parts a b c d x y z u test =
    let last = and_parts ((eqb a x && eqb b y) && eqb c z) (eqb d u) test in
    let third = and_parts (eqb a x && eqb b y) (eqb c z) last.0 in
    let pair = and_parts (eqb a x) (eqb b y) third.0 in
    (eqb-true a x pair.0, eqb-true b y pair.1, eqb-true c z third.1, eqb-true d u last.1)

-- equal words, of which the sources need comparing only where something moves
pub equal_words : (w s v m w' s' v' m' : ℕ) (from from' : List ℕ) (a b : Rewrite) → AreRewrite w s v m from → AreRewrite w' s' v' m' from' → rewrite_of w s v from ≡ a → rewrite_of w' s' v' from' ≡ b
    → four_equal w s v m w' s' v' m' ≡ true → (m ≡ 0) ⊎ (from ≡ from') → a ≡ b
equal_words w s v m w' s' v' m' from from' a b ok ok' view view' test sources =
    let same = four_parts w s v m w' s' v' m' test in
    sym view
    ∙ ap (λ k. rewrite_of k s v from) same.0
    ∙ ap (λ k. rewrite_of w' k v from) same.1
    ∙ ap (λ k. rewrite_of w' s' k from) same.2
    ∙ elim sources as (λ _. rewrite_of w' s' v' from ≡ rewrite_of w' s' v' from') [
      | inl none ↦
          let none' : m' ≡ 0 = sym same.3 ∙ none in
          places-same _ _ w' (λ i l.
          let still : slice_index_or from i 0 ≡ 0 = unmoved w s v m from i ok (ap (λ k. is_one k i) none ∙ is_one-zero i) in
          let still' : slice_index_or from' i 0 ≡ 0 = unmoved w' s' v' m' from' i ok' (ap (λ k. is_one k i) none' ∙ is_one-zero i) in
          unmoved_item w' s' v' from i still ∙ sym (unmoved_item w' s' v' from' i still'))
      | inr equal ↦ ap (rewrite_of w' s' v') equal
    ]
    ∙ view'

-- the words of equal rewrites
pub words_equal : (w s v m w' s' v' m' : ℕ) (from from' : List ℕ) (a b : Rewrite) → AreRewrite w s v m from → AreRewrite w' s' v' m' from' → rewrite_of w s v from ≡ a → rewrite_of w' s' v' from' ≡ b
    → a ≡ b → (four_equal w s v m w' s' v' m' ≡ true) × (from ≡ from')
words_equal w s v m w' s' v' m' from from' a b ok ok' view view' same =
    let mine = known w s v m from a ok view in
    let theirs = known w' s' v' m' from' b ok' view' in
    let first : w ≡ w' = sym mine.bits ∙ ap length same ∙ theirs.bits in
    let second : s ≡ s' = sym mine.set ∙ ap (λ r. number_of (map is_set r)) same ∙ theirs.set in
    let third : v ≡ v' = sym mine.value ∙ ap (λ r. number_of (map set_bit r)) same ∙ theirs.value in
    let fourth : m ≡ m' = sym mine.moved ∙ ap (λ r. number_of (moves_of r)) same ∙ theirs.moved in (
      and_from _ _ (and_from _ _ (and_from _ _ (eq-eqb w w' first) (eq-eqb s s' second)) (eq-eqb v v' third)) (eq-eqb m m' fourth),
      sym mine.sources ∙ ap sources_of same ∙ theirs.sources,
    )
