-- Prefixes that are counted for all terminals for which theirs stand.
use Rattle.std.proofs.Common.{◌≡◌, ◌⊎◌, ℕ, ◌+◌, ◌*◌, ◌-◌, ◌^◌, ◌≤◌, ◌<◌, List, [], ◌∷◌, ◌++◌, length, map, min, refl, sym, ap, ◌∙◌, subst, ⊎_elim, arith}
use Rattle.std.proofs.lemmas.Bool.{cases_lt}
use Rattle.std.proofs.lemmas.List.{length-append}
use Rattle.network_model.specs.Network.{Network}
use Rattle.network_model.specs.Prefixes.{IsPrefix}
use Rattle.model_laws.proofs.PrefixLaws.{prefixes_same, prefixes_joined}
use Rattle.twin_laws.specs.Shared.{weight_of, total, copies, spread, IsWeighed}
use Rattle.twin_laws.proofs.Spreads.{copies_length}

pub total_append : (weight : ℕ → ℕ) (ps qs : List (ℕ × List ℕ)) → total weight (ps ++ qs) ≡ total weight ps + total weight qs
total_append weight [] qs = omega arith
total_append weight (p ∷ ps) qs = omega (arith, total_append weight ps qs)

-- under a condition that says the same
pub weighed_same : (net : Network) (hops : ℕ) (P Q : ℕ → List ℕ → Type 0) (twins : List (ℕ × ℕ)) (number : ℕ) → ((start : ℕ) (rules : List ℕ) → P start rules → Q start rules)
    → ((start : ℕ) (rules : List ℕ) → Q start rules → IsPrefix net hops start rules → P start rules) → IsWeighed net hops P twins number → IsWeighed net hops Q twins number
weighed_same net hops P Q twins number to back is = record { pairs = is.pairs; are = prefixes_same net hops P Q is.pairs to back is.are; weighed = is.weighed }

-- of two conditions that exclude each other
pub weighed_joined : (net : Network) (hops : ℕ) (P Q : ℕ → List ℕ → Type 0) (twins : List (ℕ × ℕ)) (number count : ℕ) → ((start : ℕ) (rules : List ℕ) → P start rules → Q start rules → ⊥)
    → IsWeighed net hops P twins number → IsWeighed net hops Q twins count
    → IsWeighed net hops (λ start rules. P start rules ⊎ Q start rules) twins (min (number + count) (2 ^ 64 - 1))
weighed_joined net hops P Q twins number count apart first second = record {
  pairs = first.pairs ++ second.pairs;
  are = prefixes_joined net hops P Q first.pairs second.pairs apart first.are second.are;
  weighed = omega (arith, first.weighed, second.weighed, total_append (weight_of twins) first.pairs second.pairs);
}

-- of one terminal's prefixes each counts as much
pub total_of_one : (weight : ℕ → ℕ) (start : ℕ) (lists : List (List ℕ)) → total weight (map (λ (rules : List ℕ). (start, rules)) lists) ≡ length lists * weight start
total_of_one weight start [] = omega arith
total_of_one weight start (l ∷ ls) = omega (arith, total_of_one weight start ls)

-- a number that stays at the largest stays there when it is multiplied
pub capped_product : (made long weight most : ℕ) → 1 ≤ weight → made ≡ min long most → min (made * weight) most ≡ min (long * weight) most
capped_product made long weight most some is = ⊎_elim
    (λ (less : long < most). let same : made ≡ long = omega arith in ap (λ n. min (n * weight) most) same)
    (λ (more : most ≤ long).
    let top : made ≡ most = omega arith in
    let low : most ≤ made * weight = subst (λ n. most ≤ n * weight) (sym top) (times most most (omega arith)) in
    let high : most ≤ long * weight = times most long more in
    omega (arith, low, high))
    (cases_lt long most)
  where
    times : (m n : ℕ) → m ≤ n → m ≤ n * weight
    times m n le = grind arith

pub total_spread : (twins : List (ℕ × ℕ)) (pairs : List (ℕ × List ℕ))
    → total (weight_of twins) pairs ≡ length (spread (λ (p : ℕ × List ℕ). p.0) (λ s p. (s, p.1)) twins pairs ++ pairs)
total_spread twins pairs = each pairs ∙ sym (length-append (spread start put twins pairs) pairs)
  where
    start : ℕ × List ℕ → ℕ
    start p = p.0

    put : ℕ → ℕ × List ℕ → ℕ × List ℕ
    put s p = (s, p.1)

    each : (ps : List (ℕ × List ℕ)) → total (weight_of twins) ps ≡ length (spread start put twins ps) + length ps
    each [] = refl
    each (p ∷ ps) = omega (arith, each ps, copies_length start put twins p, length-append (copies start put twins p) (spread start put twins ps))
