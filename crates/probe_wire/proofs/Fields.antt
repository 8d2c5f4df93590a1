-- What the fields of a packet say of a probe.
use Rattle.std.proofs.Common.{◌≡◌, ◌≢◌, ℕ, ◌+◌, ◌-◌, ◌*◌, ◌/◌, ◌%◌, ◌^◌, ◌<◌, ◌≤◌, List, [], ◌∷◌, ◌++◌, length, take, drop, slice_index, sym, ap, ◌∙◌, arith, inl, inr}
use Rattle.std.proofs.Math.Nat.{mul-mod_left}
use Rattle.std.proofs.lemmas.Nat.{shl_below, shl-shr, one_shl}
use Rattle.std.proofs.lemmas.List.{take_at, drop_at, length-append}
use Rattle.network_model.specs.Bits.{Header, number_of}
use Rattle.network_model.proofs.Numbers.{number_of_below, number_of_exact}
use Rattle.probe_wire.specs.declared.probe.Probe.{Probe}
use Rattle.probe_wire.specs.Packet.{four_bytes, sixteen_bytes, word_of, aligned, header_field, fields, IsProbe, IsBadWidth}
use Rattle.probe_wire.proofs.Bytes.{same_sixteen_bytes, same_four_bytes, length-four_bytes, length-sixteen_bytes}

pub aligned-lt : (h : Header) → length h ≤ 128 → aligned h < 2 ^ 128
aligned-lt h l =
    let low = shl_below (number_of h) (length h) (128 - length h) (number_of_below h) in
    let e : length h + (128 - length h) ≡ 128 = omega arith in
    rw e at low

-- a field that a header has gives back its width and its bits
pub header_of_field : (field : List ℕ) (w word : ℕ) (h : Header) → w ≡ slice_index field 0 → word < 2 ^ 128 → sixteen_bytes word ≡ drop 1 field
    → length h ≤ 128 → field ≡ header_field h → (length h ≡ w) × (number_of h * 2 ^ (128 - w) ≡ word)
header_of_field [] w word h at fits bytes l e = absurd (cc)
header_of_field (first ∷ rest) w word h at fits bytes l e =
    let width : length h ≡ w = cc in
    let tail : sixteen_bytes (aligned h) ≡ rest = cc in
    let e' : aligned h ≡ word = same_sixteen_bytes (aligned h) word (aligned-lt h l) fits (tail ∙ sym bytes) in
    (width, ap (λ (k : ℕ). number_of h * 2 ^ (128 - k)) (sym width) ∙ e')

-- no bit past the width
pub none_past : (field : List ℕ) (w word : ℕ) (h : Header) → w ≡ slice_index field 0 → word < 2 ^ 128 → sixteen_bytes word ≡ drop 1 field
    → length h ≤ 128 → field ≡ header_field h → word % 2 ^ (128 - w) ≡ 0
none_past field w word h at fits bytes l e =
    let known = header_of_field field w word h at fits bytes l e in
    ap (λ (n : ℕ). n % 2 ^ (128 - w)) (sym known.1) ∙ mul-mod_left (number_of h) (2 ^ (128 - w))

-- two headers of one field
pub same_header : (field : List ℕ) (w word : ℕ) (h got : Header) → w ≡ slice_index field 0 → word < 2 ^ 128 → sixteen_bytes word ≡ drop 1 field
    → length h ≤ 128 → field ≡ header_field h → length got ≡ w → number_of got ≡ word / 2 ^ (128 - w) → got ≡ h
same_header field w word h got at fits bytes l e width number =
    let known = header_of_field field w word h at fits bytes l e in
    let n : number_of h ≡ word / 2 ^ (128 - w) = sym (shl-shr (number_of h) (128 - w)) ∙ ap (λ (m : ℕ). m / 2 ^ (128 - w)) known.1 in
    number_of_exact got h (width ∙ sym known.0) (number ∙ sym n)

pub bad_zero : (field : List ℕ) (w : ℕ) → w ≡ slice_index field 0 → w ≡ 0 → IsBadWidth field
unfolding IsBadWidth
bad_zero field w at zero_is = inl (sym at ∙ zero_is)

pub bad_wide : (field : List ℕ) (w : ℕ) → w ≡ slice_index field 0 → 128 < w → IsBadWidth field
unfolding IsBadWidth
bad_wide field w at wide = inr (inl (omega arith))

pub bad_past : (field : List ℕ) (w word : ℕ) → w ≡ slice_index field 0 → word ≡ word_of (drop 1 field) → word % 2 ^ (128 - w) ≢ 0 → IsBadWidth field
unfolding IsBadWidth
bad_past field w word at is past = inr (inr (λ e. past ((λ i. is i % 2 ^ (128 - at i)) ∙ e)))

pub not_bad : (field : List ℕ) (w word : ℕ) → w ≡ slice_index field 0 → word ≡ word_of (drop 1 field) → 1 ≤ w → w ≤ 128 → word % 2 ^ (128 - w) ≡ 0 → IsBadWidth field → ⊥
unfolding IsBadWidth
not_bad field w word at is some within none (inl z) = omega arith
not_bad field w word at is some within none (inr (inl wide)) = omega arith
not_bad field w word at is some within none (inr (inr past)) = past (sym (λ i. is i % 2 ^ (128 - at i)) ∙ none)

-- `1 << k` as a power
pub past_mask : (word w : ℕ) → 1 ≤ w → w ≤ 128 → word % (1 * 2 ^ (128 - w) % 2 ^ 128) ≡ word % 2 ^ (128 - w)
past_mask word w some within = ap (λ (m : ℕ). word % m) (one_shl (128 - w) 128 (omega arith))

pub length-fields : (p : Probe) → length (fields p) ≡ 29
length-fields p = simp (length-append, length-four_bytes, length-sixteen_bytes)

parted : (a s x t : List ℕ) (n : ℕ) → length a ≡ n → length x ≡ n → a ++ s ≡ x ++ t → (a ≡ x) × (s ≡ t)
parted a s x t n la lx e =
    (sym (take_at a s n la) ∙ ap (take n) e ∙ take_at x t n lx, sym (drop_at a s n la) ∙ ap (drop n) e ∙ drop_at x t n lx)

-- what stands behind the mark, cut at its fields
pub fields_parted : (a b c d : List ℕ) (p : Probe) → length a ≡ 4 → length b ≡ 4 → length c ≡ 4 → a ++ (b ++ (c ++ d)) ≡ fields p
    → (a ≡ four_bytes p.round) × (b ≡ four_bytes p.version) × (c ≡ four_bytes p.entry) × (d ≡ header_field p.header)
fields_parted a b c d p la lb lc e =
    let one = parted a (b ++ (c ++ d)) (four_bytes p.round) _ 4 la (length-four_bytes p.round) e in
    let two = parted b (c ++ d) (four_bytes p.version) _ 4 lb (length-four_bytes p.version) one.1 in
    let three = parted c d (four_bytes p.entry) _ 4 lc (length-four_bytes p.entry) two.1 in
    (one.0, two.0, three.0, three.1)

-- the probe that the fields spell
pub same_probe : (r v e : ℕ) (h : Header) (p : Probe) → r < 2 ^ 32 → v < 2 ^ 32 → e < 2 ^ 32 → IsProbe p
    → four_bytes r ≡ four_bytes p.round → four_bytes v ≡ four_bytes p.version → four_bytes e ≡ four_bytes p.entry → h ≡ p.header
    → record { round = r; version = v; entry = e; header = h } ≡ p
same_probe r v e h p fits_r fits_v fits_e fits same_r same_v same_e same_h =
    let at_r = same_four_bytes r p.round fits_r fits.0 same_r in
    let at_v = same_four_bytes v p.version fits_v fits.1 same_v in
    let at_e = same_four_bytes e p.entry fits_e fits.2 same_e in
    λ i. record { round = at_r i; version = at_v i; entry = at_e i; header = same_h i }
