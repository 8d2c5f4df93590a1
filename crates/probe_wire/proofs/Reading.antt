-- A packet says the probe that it is made of, and bytes that say a probe are its packet.
use Rattle.std.proofs.Common.{◌≡◌, ℕ, ◌+◌, ◌-◌, ◌*◌, ◌/◌, ◌^◌, ◌<◌, ◌≤◌, Bool, true, false, cond, ◌&&◌, nat_lt, nat_le, List, ◌++◌, length, take, drop, Option, None, Some, refl, sym, ap, ◌∙◌, subst, arith}
use Rattle.std.specs.Str.{bytes_eq}
use Rattle.std.specs.Int.{w32}
use Rattle.std.proofs.Math.Nat.{mod-eq_of_lt}
use Rattle.std.proofs.lemmas.Nat.{shl-shr, from_be_bytes-to_be_bytes_4}
use Rattle.std.proofs.lemmas.List.{take_at, drop_at}
use Rattle.std.proofs.lemmas.Bool.Decides.{nat_tests}
use Rattle.std.proofs.lemmas.Slice.Eq.{bytes_eq-Decides}
use Rattle.std.proofs.lemmas.Grind.{common_steps}
use Rattle.network_model.specs.Bits.{Header, number_of}
use Rattle.network_model.proofs.Numbers.{number_of_below, number_of_exact}
use Rattle.ternary_bits.specs.Words.{is_one, header_of}
use Rattle.ternary_bits.specs.Inverses.{length-places, number_of-header_of}
use Rattle.probe_wire.specs.declared.probe.Probe.{Probe}
use Rattle.probe_wire.specs.Packet.{four_bytes, sixteen_bytes, word_of, aligned, header_field, fields, packet, IsProbe}
use Rattle.probe_wire.specs.Reading.{number_in, header_in, spelled, is_probe, read_as, probe_in}
use Rattle.probe_wire.proofs.Bytes.{length-four_bytes, word_of-sixteen_bytes}
use Rattle.probe_wire.proofs.Fields.{aligned-lt}

number_in-four_bytes : (n : ℕ) → n < 2 ^ 32 → number_in (four_bytes n) ≡ n
unfolding number_in four_bytes
number_in-four_bytes n fits = from_be_bytes-to_be_bytes_4 n fits

header_in-header_field : (h : Header) → length h ≤ 128 → header_in (header_field h) ≡ h
unfolding header_in
header_in-header_field h within =
    let word : word_of (sixteen_bytes (aligned h)) / 2 ^ (128 - length h) ≡ number_of h =
    ap (λ (w : ℕ). w / 2 ^ (128 - length h)) (word_of-sixteen_bytes (aligned h) (aligned-lt h within)) ∙ shl-shr (number_of h) (128 - length h) in
    ap (λ (w : ℕ). header_of (length h) w) word
    ∙ number_of_exact (header_of (length h) (number_of h)) h (length-places (is_one (number_of h)) (length h))
    (number_of-header_of (length h) (number_of h) ∙ mod-eq_of_lt (number_of_below h))

drop_both : (bytes : List ℕ) (m n : ℕ) → drop (m + n) bytes ≡ drop n (drop m bytes)
drop_both bytes m n = grind (arith, common_steps)

spelled-packet : (p : Probe) → IsProbe p → spelled (packet p) ≡ p
spelled-packet p is =
    let r = four_bytes p.round in
    let v = four_bytes p.version in
    let e = four_bytes p.entry in
    let h = header_field p.header in
    let at4 : drop 4 (packet p) ≡ r ++ (v ++ (e ++ h)) = refl in
    let at8 : drop 8 (packet p) ≡ v ++ (e ++ h) = drop_both (packet p) 4 4 ∙ drop_at r (v ++ (e ++ h)) 4 (length-four_bytes p.round) in
    let at12 : drop 12 (packet p) ≡ e ++ h = drop_both (packet p) 8 4 ∙ ap (drop 4) at8 ∙ drop_at v (e ++ h) 4 (length-four_bytes p.version) in
    let at16 : drop 16 (packet p) ≡ h = drop_both (packet p) 12 4 ∙ ap (drop 4) at12 ∙ drop_at e h 4 (length-four_bytes p.entry) in
    let round : number_in (take 4 (drop 4 (packet p))) ≡ p.round =
    ap (λ (bs : List ℕ). number_in (take 4 bs)) at4 ∙ ap number_in (take_at r (v ++ (e ++ h)) 4 (length-four_bytes p.round)) ∙ number_in-four_bytes p.round is.0 in
    let version : number_in (take 4 (drop 8 (packet p))) ≡ p.version =
    ap (λ (bs : List ℕ). number_in (take 4 bs)) at8 ∙ ap number_in (take_at v (e ++ h) 4 (length-four_bytes p.version)) ∙ number_in-four_bytes p.version is.1 in
    let entry : number_in (take 4 (drop 12 (packet p))) ≡ p.entry =
    ap (λ (bs : List ℕ). number_in (take 4 bs)) at12 ∙ ap number_in (take_at e h 4 (length-four_bytes p.entry)) ∙ number_in-four_bytes p.entry is.2 in
    let header : header_in (drop 16 (packet p)) ≡ p.header = ap header_in at16 ∙ header_in-header_field p.header is.4 in
    λ i. record { round = round i; version = version i; entry = entry i; header = header i }

fits_test : (r v e l : ℕ) → ((nat_lt r (2 ^ 32) && (nat_lt v (2 ^ 32) && nat_lt e (2 ^ 32))) && (nat_le 1 l && nat_le l 128)) ≡ true
    → (r < 2 ^ 32) × (v < 2 ^ 32) × (e < 2 ^ 32) × (1 ≤ l) × (l ≤ 128)
fits_test r v e l held =
    let a : r < 2 ^ 32 = grind (arith, nat_tests) in
    let b : v < 2 ^ 32 = grind (arith, nat_tests) in
    let c : e < 2 ^ 32 = grind (arith, nat_tests) in
    let d : 1 ≤ l = grind (arith, nat_tests) in
    let f : l ≤ 128 = grind (arith, nat_tests) in
    (a, b, c, d, f)

test_fits : (r v e l : ℕ) → r < 2 ^ 32 → v < 2 ^ 32 → e < 2 ^ 32 → 1 ≤ l → l ≤ 128
    → ((nat_lt r (2 ^ 32) && (nat_lt v (2 ^ 32) && nat_lt e (2 ^ 32))) && (nat_le 1 l && nat_le l 128)) ≡ true
test_fits r v e l a b c d f = grind (arith, nat_tests)

-- a test that held, and what was kept
both_held : (a b : Bool) (q p : Probe) → cond (a && b) (Some q) None ≡ Some p → (a ≡ true) × (b ≡ true) × (q ≡ p)
both_held true true q p e = (refl, refl, cc)
both_held true false q p e = absurd (cc)
both_held false b q p e = absurd (cc)

read_as-held : (bytes : List ℕ) (q p : Probe) → read_as bytes q ≡ Some p → IsProbe p × (bytes ≡ packet p)
read_as-held bytes q p e =
    let held = both_held (is_probe q) (bytes_eq (packet q) bytes) q p e in
    let fits : IsProbe q = fits_test q.round q.version q.entry (length q.header) held.0 in
    let same : bytes ≡ packet q = sym ((bytes_eq-Decides (packet q) bytes).0 held.1) in
    (subst IsProbe held.2 fits, same ∙ ap packet held.2)

read_as-packet : (p : Probe) → IsProbe p → read_as (packet p) p ≡ Some p
read_as-packet p is =
    let fits : is_probe p ≡ true = test_fits p.round p.version p.entry (length p.header) is.0 is.1 is.2 is.3 is.4 in
    let same : bytes_eq (packet p) (packet p) ≡ true = (bytes_eq-Decides (packet p) (packet p)).1 refl in
    ap (λ (b : Bool). cond (b && bytes_eq (packet p) (packet p)) (Some p) None) fits ∙ ap (λ (b : Bool). cond b (Some p) None) same

-- bytes that say a probe are its packet
pub probe_in-held : (bytes : List ℕ) (p : Probe) → probe_in bytes ≡ Some p → IsProbe p × (bytes ≡ packet p)
unfolding probe_in
probe_in-held bytes p e = read_as-held bytes (spelled bytes) p e

-- a packet says its probe
pub probe_in-packet : (p : Probe) → IsProbe p → probe_in (packet p) ≡ Some p
unfolding probe_in
probe_in-packet p is = ap (read_as (packet p)) (spelled-packet p is) ∙ read_as-packet p is
