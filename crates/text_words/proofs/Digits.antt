-- The value of the first digits of a word.
--     number-fits         a plain word up to the most says its number
--     number-large        one beyond that says none
--     number-overflows    nor does one whose first digits are beyond 64 bits already
use Rattle.std.proofs.Common.{◌≡◌, ℕ, ◌+◌, ◌-◌, ◌*◌, ◌<◌, ◌≤◌, List, [], ◌∷◌, length, ◌^◌, true, Some, None, get_or, take, drop, fold, ap, arith}
use Rattle.std.proofs.lemmas.List.Sums.{fold-append, fold_more}
use Rattle.std.proofs.lemmas.List.{take-append-drop}
use Rattle.std.proofs.lemmas.Bool.{cond-true, cond-false, and_from, and_right, le-leb, lt-leb}
use Rattle.text_words.specs.Numbers.{digits_value, is_plain, number_upto}

abbrev with_digit : ℕ → ℕ → ℕ
with_digit n b = 10 * n + (b - 48)

value_grows : (word : List ℕ) (a : ℕ) → a ≤ fold with_digit a word
value_grows [] a = omega arith
value_grows (b ∷ bs) a = omega (arith, value_grows bs (with_digit a b))

digits_value-more : (word : List ℕ) (i : ℕ) → i < length word → digits_value (take (i + 1) word) ≡ 10 * digits_value (take i word) + (get_or word i 0 - 48)
digits_value-more word i h = fold_more with_digit 0 word i 0 h

digits_value-front : (word : List ℕ) (i : ℕ) → digits_value (take i word) ≤ digits_value word
digits_value-front word i =
    let whole = fold-append with_digit 0 (take i word) (drop i word) in
    let joined = ap digits_value (take-append-drop i word) in
    omega (arith, value_grows (drop i word) (digits_value (take i word)))

pub number-fits : (most : ℕ) (word : List ℕ) → is_plain word ≡ true → digits_value word ≤ most → number_upto most word ≡ Some (digits_value word)
number-fits most word plain small = cond-true _ _ _ (and_from _ _ plain (le-leb _ _ small))

pub number-large : (most : ℕ) (word : List ℕ) → most < digits_value word → number_upto most word ≡ None
number-large most word large = cond-false _ _ _ (and_right (is_plain word) _ (lt-leb _ _ large))

-- the digits up to one are more than a number may be already
pub number-overflows : (most : ℕ) (word : List ℕ) (i n : ℕ) → most < 2 ^ 64 → i < length word → n ≡ digits_value (take i word)
    → 2 ^ 64 ≤ 10 * n + (get_or word i 0 - 48) → number_upto most word ≡ None
number-overflows most word i n narrow inside value large =
    number-large most word (omega (arith, digits_value-more word i inside, digits_value-front word (i + 1)))
