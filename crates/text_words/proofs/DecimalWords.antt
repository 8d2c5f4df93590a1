-- A number in decimal digits reads back as that number, and what reads as a number is its decimal digits.
--     number-decimal    its digits say the number
--     number-spells     a word says a number exactly where it is its digits
--     number-said       the same of what a word is found to say
--     differs-decimal   its digits are no word that begins with another byte
--     IsWord-decimal    they are a word
use Rattle.std.proofs.Common.{◌≡◌, ◌↔◌, ◌⊎◌, ℕ, ◌+◌, ◌-◌, ◌*◌, ◌<◌, ◌≤◌, ◌^◌, true, false, ◌&&◌, ◌==◌, List, [], ◌∷◌, length, get_or, fold, Option, Some, decimal, bytes_eq, inl, inr, rules, sym, ap, ◌∙◌, refl, subst, arith, leb}
use Rattle.std.specs.List.{list_all}
use Rattle.std.proofs.lemmas.Bool.{and_parts, and_from, and_left, or_from, ne_eqb, leb-true, cases_lt, not_from_false, not-true, eqb-false, both_ways}
use Rattle.std.proofs.lemmas.Option.{cond_some}
use Rattle.std.proofs.lemmas.Fmt.{digits_decimal, digits_value-decimal, decimal-digits_value, decimal_nonempty, decimal_digit, first_decimal}
use Rattle.std.proofs.lemmas.List.Elements.{All-weaker}
use Rattle.std.proofs.lemmas.List.Sums.{AllPass-from_list_all}
use Rattle.std.proofs.lemmas.Str.Parse.{IsNumeralModel, numerals_by_fold}
use Rattle.text_words.specs.Words.{is_blank, is_word}
use Rattle.text_words.specs.Numbers.{is_digit, is_plain, digits_value, number_upto, IsNumberIn}
use Rattle.text_words.proofs.Digits.{number-fits}
use Rattle.text_words.proofs.Lines.{ends_word, IsWord}

-- digits and their value as this crate says them
own : IsNumeralModel (λ ds. list_all is_digit ds ≡ true) (fold (λ n b. 10 * n + (b - 48)) 0)
own = numerals_by_fold _ (search rules) (fold (λ n b. 10 * n + (b - 48))) (search rules)

-- some bytes, where there are any
word-length : (w : List ℕ) → 0 < length w → is_word w ≡ true
word-length [] h = absurd (omega arith)
word-length (b ∷ bs) h = refl

-- each byte of a number in decimal digits is a digit
pub digits-decimal : (n : ℕ) → n < 2 ^ 64 → list_all is_digit (decimal n) ≡ true
digits-decimal n h = digits_decimal own n h

-- digits are a plain number where they begin with no zero, or with nothing else
plain-digits : (ds : List ℕ) → list_all is_digit ds ≡ true → (length ds ≡ 1) ⊎ (48 < get_or ds 0 0) → is_plain ds ≡ true
plain-digits [] digits (inl one) = absurd (omega arith)
plain-digits [] digits (inr first) = absurd (omega arith)
plain-digits (b ∷ []) digits first = (and_parts (is_digit b) true digits).0
plain-digits (b ∷ c ∷ ds) digits (inl one) = absurd (omega arith)
plain-digits (b ∷ c ∷ ds) digits (inr first) =
    let parts = and_parts (is_digit b) (list_all is_digit (c ∷ ds)) digits in
    and_from _ _ (and_from _ _ parts.0 (not_from_false (b == 48) (ne_eqb b 48 (λ e. omega arith)))) parts.1

-- a number in decimal digits has no needless zero
plain-decimal : (n : ℕ) → n < 2 ^ 64 → is_plain (decimal n) ≡ true
plain-decimal n h =
    plain-digits (decimal n) (digits-decimal n h)
    (elim (cases_lt n 10) [
      | inl one ↦ inl (ap length (decimal_digit n one))
      | inr more ↦ inr (first_decimal n (omega arith) h)
    ])

-- it says that number
pub number-decimal : (most n : ℕ) → most < 2 ^ 64 → n ≤ most → number_upto most (decimal n) ≡ Some n
number-decimal most n narrow h =
    let fits : n < 2 ^ 64 = omega arith in
    let value : digits_value (decimal n) ≡ n = digits_value-decimal own n fits in
    number-fits most (decimal n) (plain-decimal n fits) (omega arith) ∙ ap Some value

-- a plain number is some digits, and begins with a zero only where it is one
record Plain (word : List ℕ) : Type 0 where
  digits : list_all is_digit word ≡ true
  some : 0 < length word
  first : get_or word 0 0 ≡ 48 → length word ≡ 1

plain_parts : (word : List ℕ) → is_plain word ≡ true → Plain word
plain_parts [] h = cc
plain_parts (b ∷ []) h = record { digits = and_from _ _ h refl; some = omega arith; first = λ zero. refl }
plain_parts (b ∷ c ∷ rest) h =
    let parts = and_parts (is_digit b && _) (list_all is_digit (c ∷ rest)) h in
    let front = and_parts (is_digit b) _ parts.0 in
    record {
      digits = and_from _ _ front.0 parts.1;
      some = omega arith;
      first = λ zero. absurd (eqb-false b 48 (not-true (b == 48) front.1) zero);
    }

-- a word that says a number is its decimal digits
spells : (most n : ℕ) (word : List ℕ) → most < 2 ^ 64 → number_upto most word ≡ Some n → IsNumberIn most word n
spells most n word narrow h =
    let parts = cond_some (is_plain word && leb (digits_value word) most) (digits_value word) n h in
    let tests = and_parts (is_plain word) (leb (digits_value word) most) parts.0 in
    let plain = plain_parts word tests.0 in
    let small : digits_value word ≤ most = leb-true (digits_value word) most tests.1 in
    record {
      within = subst (λ v. v ≤ most) parts.1 small;
      digits = sym (decimal-digits_value own word plain.digits plain.some plain.first (omega arith)) ∙ ap decimal parts.1;
    }

pub number-spells : (most n : ℕ) (word : List ℕ) → most < 2 ^ 64 → (number_upto most word ≡ Some n) ↔ IsNumberIn most word n
number-spells most n word narrow = (spells most n word narrow, λ h. ap (number_upto most) h.digits ∙ number-decimal most n narrow h.within)

pub number-said : (most : ℕ) (word : List ℕ) (said : Option ℕ) → most < 2 ^ 64 → said ≡ number_upto most word → (n : ℕ) → (said ≡ Some n) ↔ IsNumberIn most word n
number-said most word said narrow is n =
    let law = number-spells most n word narrow in
    (λ h. law.0 (sym is ∙ h), λ h. is ∙ law.1 h)

-- digits are no word that begins with another byte
differs : (ds : List ℕ) (b : ℕ) (bs : List ℕ) → list_all is_digit ds ≡ true → is_digit b ≡ false → bytes_eq ds (b ∷ bs) ≡ false
differs [] b bs digits other = refl
differs (c ∷ ds) b bs digits other =
    let first : is_digit c ≡ true = (and_parts (is_digit c) (list_all is_digit ds) digits).0 in
    and_left (c == b) _ (ne_eqb c b (λ e. both_ways (is_digit b) other (ap is_digit (sym e) ∙ first)))

-- nor is a number in decimal digits
pub differs-decimal : (n b : ℕ) (bs : List ℕ) → n < 2 ^ 64 → is_digit b ≡ false → bytes_eq (decimal n) (b ∷ bs) ≡ false
differs-decimal n b bs h other = differs (decimal n) b bs (digits-decimal n h) other

-- no digit ends a word
digit_within : (b : ℕ) → is_digit b ≡ true → ends_word b ≡ false
digit_within b h =
    let low : 48 ≤ b = leb-true 48 b (and_parts _ _ h).0 in
    let other : (c : ℕ) → c < 48 → (b == c) ≡ false = λ c less. ne_eqb b c (λ e. omega arith) in
    or_from (is_blank b) _ (or_from _ _ (other 32 (omega arith)) (or_from _ _ (other 9 (omega arith)) (other 13 (omega arith))))
    (or_from _ _ (other 35 (omega arith)) (other 10 (omega arith)))

-- a number in decimal digits is a word
pub IsWord-decimal : (n : ℕ) → n < 2 ^ 64 → IsWord (decimal n)
IsWord-decimal n h = record {
  some = word-length (decimal n) (decimal_nonempty n h);
  within = All-weaker _ (λ b. ends_word b ≡ false) digit_within (decimal n) (AllPass-from_list_all is_digit (decimal n) (digits-decimal n h));
}
