-- Numbers as bytes, the most significant first, and back.
use Rattle.std.proofs.Common.{◌≡◌, ℕ, zero, suc, ◌+◌, ◌*◌, ◌/◌, ◌%◌, ◌^◌, ◌<◌, List, [], ◌∷◌, length, get_or, refl, sym, ap, ◌∙◌, arith}
use Rattle.std.proofs.Math.Nat.{pow-suc, pow-succ', one-le-pow, mod-eq_of_lt, div-one}
use Rattle.std.proofs.Math.Arith.{mod-mul}
use Rattle.std.proofs.lemmas.Nat.{mul-add-lt, same_from_place}
use Rattle.std.specs.Int.{w128, byte_at, bytes_high_first, from_be_bytes}
use Rattle.probe_wire.specs.Packet.{four_bytes, sixteen_bytes, word_of}

abbrev value : List ℕ → ℕ
value [] = 0
value (b ∷ bs) = b * 256 ^ length bs + value bs

value_below : (bs : List ℕ) → ((i : ℕ) → get_or bs i 0 < 256) → value bs < 256 ^ length bs
value_below [] small = omega arith
value_below (b ∷ bs) small =
    let rest = value_below bs (λ i. small (suc i)) in
    let all = mul-add-lt b (256 ^ length bs) (value bs) 256 (small 0) rest in
    omega (arith, all, pow-suc 256 (length bs))

byte_at_is : (k n : ℕ) → byte_at k n ≡ n / 256 ^ k % 256
byte_at_is zero n = ap (λ (m : ℕ). m % 256) (sym (div-one n))
byte_at_is (suc k) n = refl

length-bytes : (k n : ℕ) → length (bytes_high_first k n) ≡ k
length-bytes zero n = refl
length-bytes (suc k) n = omega (arith, length-bytes k n)

power_pos : (k : ℕ) → zero < 256 ^ k
power_pos k = let h = one-le-pow k 256 (omega arith) in omega arith

value_of_bytes : (k n : ℕ) → value (bytes_high_first k n) ≡ n % 256 ^ k
value_of_bytes zero n = omega arith
value_of_bytes (suc k) n =
    let split = mod-mul n {m = 256} {c = 256 ^ k} (omega arith) (power_pos k) in
    rw (length-bytes k n, value_of_bytes k n, byte_at_is k n, pow-succ' 256 k, split) refl

bytes_small : (k n i : ℕ) → get_or (bytes_high_first k n) i 0 < 256
bytes_small zero n zero = omega arith
bytes_small zero n (suc i) = omega arith
bytes_small (suc k) n zero = omega (arith, byte_at_is k n)
bytes_small (suc k) n (suc i) = bytes_small k n i

same_value : (as_ bs : List ℕ) → length as_ ≡ length bs → ((i : ℕ) → get_or as_ i 0 < 256) → ((i : ℕ) → get_or bs i 0 < 256) → value as_ ≡ value bs → as_ ≡ bs
same_value [] [] l sa sb e = refl
same_value [] (b ∷ bs) l sa sb e = absurd (omega arith)
same_value (a ∷ as_) [] l sa sb e = absurd (omega arith)
same_value (a ∷ as_) (b ∷ bs) l sa sb e =
    let l' : length as_ ≡ length bs = omega arith in
    let p : 256 ^ length as_ ≡ 256 ^ length bs = ap (λ (k : ℕ). 256 ^ k) l' in
    let below = value_below as_ (λ i. sa (suc i)) in
    let below' : value bs < 256 ^ length as_ = omega (arith, value_below bs (λ i. sb (suc i)), p) in
    let e' : a * 256 ^ length as_ + value as_ ≡ b * 256 ^ length as_ + value bs = e ∙ ap (λ (q : ℕ). b * q + value bs) (sym p) in
    let both = same_from_place a (value as_) b (value bs) (256 ^ length as_) below below' e' in
    let rest = same_value as_ bs l' (λ i. sa (suc i)) (λ i. sb (suc i)) both.1 in
    λ i. both.0 i ∷ rest i

-- bytes are the bytes of their number
bytes_of_value : (k : ℕ) (bs : List ℕ) → length bs ≡ k → ((i : ℕ) → get_or bs i 0 < 256) → bytes_high_first k (value bs) ≡ bs
bytes_of_value k bs l small =
    let fits : value bs < 256 ^ k = omega (arith, value_below bs small, ap (λ (m : ℕ). 256 ^ m) l) in
    same_value _ bs (length-bytes k (value bs) ∙ sym l) (bytes_small k (value bs)) small (value_of_bytes k (value bs) ∙ mod-eq_of_lt fits)

-- a number is known by its bytes
same_bytes : (k m n : ℕ) → m < 256 ^ k → n < 256 ^ k → bytes_high_first k m ≡ bytes_high_first k n → m ≡ n
same_bytes k m n fits fits' e =
    sym (value_of_bytes k m ∙ mod-eq_of_lt fits) ∙ ap value e ∙ value_of_bytes k n ∙ mod-eq_of_lt fits'

abbrev listed : ℕ → (ℕ → ℕ) → List ℕ
listed zero f = []
listed (suc k) f = f 0 ∷ listed k (λ i. f (suc i))

by_index : (bs : List ℕ) → bs ≡ listed (length bs) (λ i. get_or bs i 0)
by_index [] = refl
by_index (b ∷ bs) = ap (λ (rest : List ℕ). b ∷ rest) (by_index bs)

spelled : (bs : List ℕ) → from_be_bytes w128 bs ≡ value (listed 16 (λ i. get_or bs i 0))
spelled bs = omega arith

word_is_value : (bs : List ℕ) → length bs ≡ 16 → word_of bs ≡ value bs
unfolding word_of
word_is_value bs l = spelled bs ∙ sym (ap value (by_index bs ∙ ap (λ (k : ℕ). listed k (λ i. get_or bs i 0)) l))

pub sixteen_bytes-word_of : (bs : List ℕ) → length bs ≡ 16 → ((i : ℕ) → get_or bs i 0 < 256) → sixteen_bytes (word_of bs) ≡ bs
unfolding sixteen_bytes
sixteen_bytes-word_of bs l small = ap (bytes_high_first 16) (word_is_value bs l) ∙ bytes_of_value 16 bs l small

pub same_sixteen_bytes : (m n : ℕ) → m < 2 ^ 128 → n < 2 ^ 128 → sixteen_bytes m ≡ sixteen_bytes n → m ≡ n
unfolding sixteen_bytes
same_sixteen_bytes m n fits fits' e = same_bytes 16 m n fits fits' e

pub same_four_bytes : (m n : ℕ) → m < 2 ^ 32 → n < 2 ^ 32 → four_bytes m ≡ four_bytes n → m ≡ n
unfolding four_bytes
same_four_bytes m n fits fits' e = same_bytes 4 m n fits fits' e

pub length-four_bytes : (n : ℕ) → length (four_bytes n) ≡ 4
unfolding four_bytes
length-four_bytes n = refl

pub length-sixteen_bytes : (n : ℕ) → length (sixteen_bytes n) ≡ 16
unfolding sixteen_bytes
length-sixteen_bytes n = refl

-- the number that the bytes of a number spell
pub word_of-sixteen_bytes : (n : ℕ) → n < 2 ^ 128 → word_of (sixteen_bytes n) ≡ n
unfolding sixteen_bytes
word_of-sixteen_bytes n fits = word_is_value (bytes_high_first 16 n) (length-bytes 16 n) ∙ value_of_bytes 16 n ∙ mod-eq_of_lt fits
