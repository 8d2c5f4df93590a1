-- Rules that are made from their words are the defined ones, and fit.
use Rattle.std.proofs.Common.{◌≡◌, ℕ, ◌+◌, ◌-◌, ◌*◌, ◌/◌, ◌%◌, ◌^◌, ◌<◌, ◌&&◌, eqb, Bool, true, false, cond, ◌++◌, length, take, refl, sym, ap, ◌∙◌, arith}
use Rattle.std.proofs.lemmas.Bool.{eq-eqb}
use Rattle.std.proofs.lemmas.List.{length-append, length-take-le}
use Rattle.std.proofs.lemmas.Nat.{shl_whole}
use Rattle.network_model.specs.Bits.{Pattern}
use Rattle.network_model.specs.Rewrites.{Rewrite}
use Rattle.network_model.specs.Network.{Numbered, InPort, AnyPort, OnePort, Action, Drop, Out}
use Rattle.net_types.specs.Refusals.{has_port_at, known_out, moves_fit}
use Rattle.ternary_bits.specs.Words.{header_of}
use Rattle.net_grow.specs.Adding.{Fits}
use Rattle.net_grow.specs.Places.{any_header, places}
use Rattle.net_grow.specs.Rules.{beginning, as_it_is, last_byte, outward_action, outward, outward_last, core, inward, inward_last}
use Rattle.net_grow.proofs.Begin.{box_there, core_there, outer_there, inner_there, far_there}
use Rattle.net_grow.proofs.BitLists.{of_two_words, of_edge_and_word}
use Rattle.net_grow.proofs.TextOfBits.{length-header_of, length-beginning, length-last_byte}

length-any_header : length any_header ≡ 128
unfolding any_header
length-any_header = refl

length-as_it_is : length as_it_is ≡ 128
unfolding as_it_is
length-as_it_is = refl

all_true : (a b c : Bool) → a ≡ true → b ≡ true → c ≡ true → (a && (b && c)) ≡ true
all_true a b c p q r = rw (p, q, r) refl

both_true : (a b : Bool) → a ≡ true → b ≡ true → (a && b) ≡ true
both_true a b p q = rw (p, q) refl

-- what drops, or sends by a port of its box with a rewrite of 128 bits, fits
known_either : (drops : Bool) (box port : ℕ) (r : Rewrite) → has_port_at (places 16) box port ≡ true
    → known_out (places 16) box (cond drops Drop (Out port r)) ≡ true
known_either true box port r there = refl
known_either false box port r there = there

wide_either : (drops : Bool) (port : ℕ) (r : Rewrite) → length r ≡ 128 → moves_fit 128 (cond drops Drop (Out port r)) ≡ true
wide_either true port r width = refl
wide_either false port r width = eq-eqb (length r) 128 width

width_either : (sets : Bool) (word : ℕ) → length (cond sets (last_byte word) as_it_is) ≡ 128
width_either true word = length-last_byte word
width_either false word = length-as_it_is

pub outward_fits : (e j a b c f : ℕ) → e < 16 → Fits (outward e j a b c f).1
unfolding outward
outward_fits e j a b c f l =
    let size : ℕ = 4 + a % 30 in
    let bits = header_of 32 b ++ header_of 32 c in
    let both : length bits ≡ 64 = omega (arith, length-append (header_of 32 b) (header_of 32 c), length-header_of 32 b, length-header_of 32 c) in
    let first : length (take size bits) ≡ size = length-take-le size bits (omega arith) in
    record {
      known = all_true _ _ _ (box_there e l) (outer_there e l) (known_either (eqb (j % 8) 0) e (200 + e) _ (inner_there e l));
      wide =
          both_true _ _
          (eq-eqb _ 128 (length-beginning (take size bits) (omega arith)))
          (wide_either (eqb (j % 8) 0) (200 + e) _ (width_either (eqb (j % 2) 1) f));
    }

pub outward_last_fits : (e : ℕ) → e < 16 → Fits (outward_last e).1
unfolding outward_last
outward_last_fits e l = record {
  known = all_true _ _ _ (box_there e l) (outer_there e l) (inner_there e l);
  wide = both_true _ _ (eq-eqb _ 128 length-any_header) (eq-eqb _ 128 length-as_it_is);
}

pub core_fits : (e : ℕ) → e < 16 → Fits (core e).1
unfolding core
core_fits e l =
    let first : length (header_of 4 e) ≡ 4 = length-header_of 4 e in
    record {
      known = all_true _ _ _ core_there refl (far_there e l);
      wide = both_true _ _ (eq-eqb _ 128 (length-beginning (header_of 4 e) (omega arith))) (eq-eqb _ 128 length-as_it_is);
    }

pub inward_fits : (e j a b : ℕ) → e < 16 → Fits (inward e j a b).1
unfolding inward
inward_fits e j a b l =
    let size : ℕ = 4 + a % 20 in
    let rest = take (size - 4) (header_of 32 b) in
    let more : length rest ≡ size - 4 = length-take-le (size - 4) (header_of 32 b) (omega (arith, length-header_of 32 b)) in
    let first : length (header_of 4 e ++ rest) ≡ 4 + length rest = length-append (header_of 4 e) rest ∙ ap (λ n. n + length rest) (length-header_of 4 e) in
    record {
      known = all_true _ _ _ (box_there e l) (inner_there e l) (outer_there e l);
      wide = both_true _ _ (eq-eqb _ 128 (length-beginning (header_of 4 e ++ rest) (omega arith))) (eq-eqb _ 128 length-as_it_is);
    }

pub inward_last_fits : (e : ℕ) → e < 16 → Fits (inward_last e).1
unfolding inward_last
inward_last_fits e l = record {
  known = all_true _ _ _ (box_there e l) (inner_there e l) (outer_there e l);
  wide = both_true _ _ (eq-eqb _ 128 length-any_header) (eq-eqb _ 128 length-as_it_is);
}

-- ---- numbers
pub outward_number : (e j a b c f : ℕ) → (outward e j a b c f).0 ≡ 1000 + 64 * e + j
unfolding outward
outward_number e j a b c f = refl

pub outward_last_number : (e : ℕ) → (outward_last e).0 ≡ 1000 + 64 * e + 63
unfolding outward_last
outward_last_number e = refl

pub core_number : (e : ℕ) → (core e).0 ≡ 3000 + e
unfolding core
core_number e = refl

pub inward_number : (e j a b : ℕ) → (inward e j a b).0 ≡ 4000 + 32 * e + j
unfolding inward
inward_number e j a b = refl

pub inward_last_number : (e : ℕ) → (inward_last e).0 ≡ 4000 + 32 * e + 31
unfolding inward_last
inward_last_number e = refl

-- ---- the rules that the code makes
abbrev pub rule_of : ℕ → ℕ → ℕ → InPort → Pattern → Action → Numbered
rule_of id box priority port pattern act = (id, record { at = box; priority = priority; inp = port; pattern = pattern; action = act })

pub outward_made : (e j a b c f n : ℕ) (p : Pattern) (act : Action) → b < 2 ^ 32 → c < 2 ^ 32 → n ≡ b * 2 ^ 32 % 2 ^ 64 + c
    → p ≡ beginning (header_of (4 + a % 30) (n / 2 ^ (64 - (4 + a % 30)))) → act ≡ outward_action e j f
    → (rule_of (1000 + 64 * e + j) e (4 + a % 30) (OnePort (100 + e)) p act) ≡ outward e j a b c f
unfolding outward
outward_made e j a b c f n p act high low both is acts =
    let size : ℕ = 4 + a % 30 in
    let whole : b * 2 ^ 32 % 2 ^ 64 ≡ b * 2 ^ 32 = shl_whole b 32 32 64 high (omega arith) in
    let same : p ≡ beginning (take (4 + a % 30) (header_of 32 b ++ header_of 32 c)) =
    is
    ∙ ap (λ m. beginning (header_of (4 + a % 30) (m / 2 ^ (64 - (4 + a % 30))))) (both ∙ ap (λ m. m + c) whole)
    ∙ ap beginning (sym (of_two_words (4 + a % 30) b c (omega arith) low))
    in
    ap (λ q. (rule_of (1000 + 64 * e + j) e (4 + a % 30) (OnePort (100 + e)) q act)) same
    ∙ ap (λ (x : Action). (rule_of (1000 + 64 * e + j) e (4 + a % 30) (OnePort (100 + e)) (beginning (take (4 + a % 30) (header_of 32 b ++ header_of 32 c))) x)) acts

pub inward_made : (e j a b n : ℕ) (p : Pattern) (act : Action) → e < 16 → b < 2 ^ 32 → n ≡ e * 2 ^ 32 % 2 ^ 64 + b
    → p ≡ beginning (header_of (4 + a % 20) (n / 2 ^ (36 - (4 + a % 20)))) → act ≡ Out (100 + e) as_it_is
    → (rule_of (4000 + 32 * e + j) e (4 + a % 20) (OnePort (200 + e)) p act) ≡ inward e j a b
unfolding inward
inward_made e j a b n p act l low both is acts =
    let few : e < 2 ^ 32 = omega arith in
    let whole : e * 2 ^ 32 % 2 ^ 64 ≡ e * 2 ^ 32 = shl_whole e 32 32 64 few (omega arith) in
    let same : p ≡ beginning (header_of 4 e ++ take (4 + a % 20 - 4) (header_of 32 b)) =
    is
    ∙ ap (λ m. beginning (header_of (4 + a % 20) (m / 2 ^ (36 - (4 + a % 20))))) (both ∙ ap (λ m. m + b) whole)
    ∙ ap beginning (sym (of_edge_and_word (4 + a % 20) e b (omega arith) (omega arith) low))
    in
    ap (λ q. (rule_of (4000 + 32 * e + j) e (4 + a % 20) (OnePort (200 + e)) q act)) same
    ∙ ap (λ (x : Action). (rule_of (4000 + 32 * e + j) e (4 + a % 20) (OnePort (200 + e)) (beginning (header_of 4 e ++ take (4 + a % 20 - 4) (header_of 32 b))) x)) acts

pub outward_last_made : (e : ℕ) (p : Pattern) (act : Action) → p ≡ any_header → act ≡ Out (200 + e) as_it_is
    → (rule_of (1000 + 64 * e + 63) e 0 (OnePort (100 + e)) p act) ≡ outward_last e
unfolding outward_last
outward_last_made e p act is acts = cc

pub core_made : (e : ℕ) (p : Pattern) (act : Action) → p ≡ beginning (header_of 4 e) → act ≡ Out (300 + e) as_it_is
    → (rule_of (3000 + e) 16 10 AnyPort p act) ≡ core e
unfolding core
core_made e p act is acts = cc

pub inward_last_made : (e : ℕ) (p : Pattern) (act : Action) → p ≡ any_header → act ≡ Out (100 + e) as_it_is
    → (rule_of (4000 + 32 * e + 31) e 0 (OnePort (200 + e)) p act) ≡ inward_last e
unfolding inward_last
inward_last_made e p act is acts = cc
