-- Numbers, and lists of numbers, in words.
--     number_upto     the number of a word of decimal digits without a zero before another, where it is at most that
--     numbers_upto    one or more numbers joined by commas, each at most that, in any order and with repeats
--     IsNumberIn      the number is at most that, and the word is its decimal digits
--     AreNumbersIn    one or more such numbers, whose digits joined by commas are the word
use Rattle.std.specs.Prelude.{◌≡◌, ℕ, ◌+◌, ◌-◌, ◌*◌, ◌≤◌, ◌==◌, nat_le, Bool, false, not, ◌&&◌, List, [], ◌∷◌, length, map, All, Option, Some, None, if◌then◌else◌}
use Rattle.std.specs.List.{slice_split, fold, list_all, join_with_byte}
use Rattle.std.specs.Fmt.{decimal}

abbrev pub is_digit : ℕ → Bool
is_digit b = nat_le 48 b && nat_le b 57

-- decimal digits, with no zero before another digit
abbrev pub is_plain : List ℕ → Bool
is_plain [] = false
is_plain (b ∷ []) = is_digit b
is_plain (b ∷ c ∷ rest) = (is_digit b && not (b == 48)) && list_all is_digit (c ∷ rest)

abbrev pub digits_value : List ℕ → ℕ
digits_value word = fold (λ n b. 10 * n + (b - 48)) 0 word

abbrev pub number_upto : ℕ → List ℕ → Option ℕ
number_upto most word = if is_plain word && nat_le (digits_value word) most then Some (digits_value word) else None

-- one more number before others, where both are there
abbrev pub number_before : Option ℕ → Option (List ℕ) → Option (List ℕ)
number_before (Some n) (Some ns) = Some (n ∷ ns)
number_before (Some n) None = None
number_before None others = None

abbrev pub numbers_of : ℕ → List (List ℕ) → Option (List ℕ)
numbers_of most [] = Some []
numbers_of most (word ∷ words) = number_before (number_upto most word) (numbers_of most words)

abbrev pub numbers_upto : ℕ → List ℕ → Option (List ℕ)
numbers_upto most word = numbers_of most (slice_split (λ b. b == 44) word)

pub record IsNumberIn (most : ℕ) (word : List ℕ) (n : ℕ) : Type 0 where
  pub within : n ≤ most
  pub digits : word ≡ decimal n

pub record AreNumbersIn (most : ℕ) (word : List ℕ) (ns : List ℕ) : Type 0 where
  pub some : 1 ≤ length ns
  pub within : All (λ n. n ≤ most) ns
  pub digits : word ≡ join_with_byte 44 (map decimal ns)
