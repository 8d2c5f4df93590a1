-- Headers of one width are ordered as their numbers.
use Rattle.std.specs.Prelude.{◌≡◌, ℕ, ◌+◌, ◌^◌, ◌<◌, true, false, [], ◌∷◌, length}
use Rattle.std.proofs.Common.{refl, ap, ◌∙◌, arith}
use Rattle.std.proofs.Math.Nat.{two-pow-succ}
use Rattle.std.proofs.lemmas.Bool.Decides.{nat_tests}
use Rattle.std.specs.Ordering.{nat_cmp}
use Rattle.std.specs.declared.cmp.Ordering.TheVariants.{Less, Equal, Greater}
use Rattle.network_model.specs.Bits.{Header, header_cmp, number_of}
use Rattle.network_model.proofs.HeaderOrder.{header_cmp_exact}

-- the number of a header of n bits is below 2 ^ n
pub number_of_below : (header : Header) → number_of header < 2 ^ length header
number_of_below [] = omega arith
number_of_below (false ∷ bits) = omega (arith, number_of_below bits, two-pow-succ (length bits))
number_of_below (true ∷ bits) = omega (arith, number_of_below bits, two-pow-succ (length bits))

cmp_less : (m n : ℕ) → m < n → Less ≡ nat_cmp m n
cmp_less m n h = grind (arith, nat_tests)

cmp_greater : (m n : ℕ) → n < m → Greater ≡ nat_cmp m n
cmp_greater m n h = grind (arith, nat_tests)

cmp_moved : (p q m n : ℕ) → p ≡ q → nat_cmp m n ≡ nat_cmp (p + m) (q + n)
cmp_moved p q m n e = grind (arith, nat_tests)

cmp_equal : (m n : ℕ) → m ≡ n → nat_cmp m n ≡ Equal
cmp_equal m n e = grind (arith, nat_tests)

-- headers of one width are ordered as their numbers
pub header_cmp_by_number : (a b : Header) → length a ≡ length b → header_cmp a b ≡ nat_cmp (number_of a) (number_of b)
header_cmp_by_number [] [] h = refl
header_cmp_by_number [] (b ∷ bs) h = absurd (omega arith)
header_cmp_by_number (a ∷ as_) [] h = absurd (omega arith)
header_cmp_by_number (false ∷ as_) (false ∷ bs) h = header_cmp_by_number as_ bs (omega arith) ∙ cmp_moved 0 0 (number_of as_) (number_of bs) refl
header_cmp_by_number (false ∷ as_) (true ∷ bs) h =
    let e : length as_ ≡ length bs = omega arith in
    cmp_less (0 + number_of as_) (2 ^ length bs + number_of bs) (omega (arith, number_of_below as_, ap (λ n. 2 ^ n) e))
header_cmp_by_number (true ∷ as_) (false ∷ bs) h =
    let e : length as_ ≡ length bs = omega arith in
    cmp_greater (2 ^ length as_ + number_of as_) (0 + number_of bs) (omega (arith, number_of_below bs, ap (λ n. 2 ^ n) e))
header_cmp_by_number (true ∷ as_) (true ∷ bs) h =
    let e : length as_ ≡ length bs = omega arith in
    header_cmp_by_number as_ bs e ∙ cmp_moved (2 ^ length as_) (2 ^ length bs) (number_of as_) (number_of bs) (ap (λ n. 2 ^ n) e)

-- headers of one width with one number are equal
pub number_of_exact : (a b : Header) → length a ≡ length b → number_of a ≡ number_of b → a ≡ b
number_of_exact a b h e = header_cmp_exact a b (header_cmp_by_number a b h ∙ cmp_equal (number_of a) (number_of b) e)
