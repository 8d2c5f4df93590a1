-- Lists of numbers that have each number as often are permutations of one another.
use Rattle.std.proofs.Common.{◌≡◌, ℕ, zero, suc, ◌+◌, ◌<◌, ◌==◌, ◌&&◌, Bool, true, false, cond, nat_lt, nat_le, List, [], ◌∷◌, length, get_or, count_by, IsPermutation, remove, refl, sym, ap, ◌∙◌, arith}
use Rattle.std.specs.List.{range_with_len}
use Rattle.std.proofs.lemmas.List.Sums.{sum_by-cons, sum_by-remove}
use Rattle.std.proofs.lemmas.List.Sorted.{IsPermutation-refl, IsPermutation-sym, IsPermutation-cons, IsPermutation-trans, IsPermutation-remove}
use Rattle.std.proofs.lemmas.Bool.Decides.{nat_tests}

abbrev hit : ℕ → ℕ → ℕ
hit x y = cond (y == x) 1 0

abbrev pub times : ℕ → List ℕ → ℕ
times x xs = count_by (λ y. y == x) xs

times-cons : (x y : ℕ) (xs : List ℕ) → times x (y ∷ xs) ≡ hit x y + times x xs
times-cons x y xs = sum_by-cons (hit x) y xs

hit_self : (x : ℕ) → hit x x ≡ 1
hit_self x = grind (arith, nat_tests)

times_self : (x : ℕ) (xs : List ℕ) → 0 < times x (x ∷ xs)
times_self x xs = omega (arith, times-cons x x xs, hit_self x)

-- x is at some place of the list
abbrev At : ℕ → List ℕ → Type 0
At x ys = (i : ℕ) × (i < length ys) × (x ≡ get_or ys i x)

here_or_later : (x y : ℕ) (ys : List ℕ) → 0 < times x (y ∷ ys) → (0 < times x ys → At x ys) → (b : Bool) → (y == x) ≡ b → At x (y ∷ ys)
here_or_later x y ys some later true is = let same : x ≡ y = grind (arith, nat_tests) in (0, omega arith, same)
here_or_later x y ys some later false is =
    let none : hit x y ≡ 0 = ap (λ (b : Bool). cond b 1 0) is in
    let more = later (omega (arith, times-cons x y ys)) in let under : more.0 < length ys = more.1 in
    (suc more.0, omega arith, more.2)

there : (x : ℕ) (ys : List ℕ) → 0 < times x ys → At x ys
there x [] some = absurd (omega arith)
there x (y ∷ ys) some = here_or_later x y ys some (there x ys) (y == x) refl

removed : (x : ℕ) (xs ys : List ℕ) (at : At x ys) → ((z : ℕ) → times z (x ∷ xs) ≡ times z ys) → (z : ℕ) → times z xs ≡ times z (remove ys at.0)
removed x xs ys at same z =
    let without : times z (remove ys at.0) + hit z (get_or ys at.0 x) ≡ times z ys = sum_by-remove (hit z) ys at.0 x at.1 in
    let one : hit z (get_or ys at.0 x) ≡ hit z x = ap (hit z) (sym at.2) in
    omega (arith, times-cons z x xs, same z)

pub same_times : (xs ys : List ℕ) → ((x : ℕ) → times x xs ≡ times x ys) → IsPermutation xs ys
same_times [] [] same = IsPermutation-refl []
same_times [] (y ∷ ys) same = absurd (omega (arith, same y, times_self y ys))
same_times (x ∷ xs) ys same =
    let at : At x ys = there x ys (omega (arith, times_self x xs, same x)) in
    IsPermutation-trans (x ∷ xs) (x ∷ remove ys at.0) ys
    (IsPermutation-cons x xs (remove ys at.0) (same_times xs (remove ys at.0) (removed x xs ys at same)))
    (IsPermutation-sym ys (x ∷ remove ys at.0) (IsPermutation-remove ys at.0 x at.1 at.2))

-- a range has each of its numbers once
abbrev within : ℕ → ℕ → ℕ → ℕ
within x a n = cond (nat_le a x && nat_lt x (a + n)) 1 0

within_none : (x a : ℕ) → 0 ≡ within x a 0
within_none x a = grind (arith, nat_tests)

within_more : (x a n k : ℕ) → k ≡ within x (a + 1) n → hit x a + k ≡ within x a (suc n)
within_more x a n k e = grind (arith, nat_tests)

times-range_with_len : (x a n : ℕ) → times x (range_with_len a n) ≡ within x a n
times-range_with_len x a zero = within_none x a
times-range_with_len x a (suc n) = times-cons x a (range_with_len (a + 1) n) ∙ within_more x a n (times x (range_with_len (a + 1) n)) (times-range_with_len x (a + 1) n)

abbrev one_below : ℕ → ℕ → ℕ
one_below x n = cond (nat_lt x n) 1 0

within_zero : (x n : ℕ) → within x 0 n ≡ one_below x n
within_zero x n = grind (arith, nat_tests)

pub times_below : (x n : ℕ) → times x (range_with_len 0 n) ≡ cond (nat_lt x n) 1 0
times_below x n = times-range_with_len x 0 n ∙ within_zero x n
