-- The rules of a network by their numbers.
use Rattle.std.proofs.Common.{◌≡◌, ℕ, zero, suc, ◌<◌, Bool, true, false, cond, List, [], ◌∷◌, length, get_or, Some, eqb, refl, sym, ap, ◌∙◌, arith}
use Rattle.std.specs.List.{Contains}
use Rattle.std.proofs.lemmas.Bool.{eqb-true, false≢true}
use Rattle.std.proofs.lemmas.Bool.Decides.{nat_tests}
use Rattle.network_model.specs.Bits.{Header}
use Rattle.network_model.specs.Network.{Network, Numbered, value_at, is_first, hit}
use Rattle.network_model.specs.WellFormed.{IsWellFormed}
use Rattle.network_model.proofs.LastRule.{find-contained, rises_exact}

-- what stands in a list has a value at its number
some_value : {A : Type 0} (list : List (ℕ × A)) (x : ℕ × A) (k : ℕ) → k < length list → get_or list k x ≡ x → (v : A) × (value_at list x.0 ≡ Some v)
some_value [] x k inside at = absurd (omega arith)
some_value {A} (e ∷ es) x k inside at = by_place (λ j l a. some_value es x j l a) k inside at (eqb e.0 x.0) refl
  where
    by_place : ((j : ℕ) → j < length es → get_or es j x ≡ x → (v : A) × (value_at es x.0 ≡ Some v)) → (k : ℕ) → k < length (e ∷ es) → get_or (e ∷ es) k x ≡ x → (b : Bool) → eqb e.0 x.0 ≡ b
        → (v : A) × (cond b (Some e.1) (value_at es x.0) ≡ Some v)
    by_place go_on k inside at true is = (e.1, refl)
    by_place go_on zero inside at false is =
        let own : eqb e.0 x.0 ≡ true = ap (λ (y : ℕ × A). eqb y.0 x.0) at ∙ grind (arith, nat_tests) in
        absurd (false≢true (sym is ∙ own))
    by_place go_on (suc k) inside at false is = go_on k (omega arith) at

-- a value at a number stands there
value_stands : {A : Type 0} (list : List (ℕ × A)) (id : ℕ) (v : A) → value_at list id ≡ Some v → Contains list (id, v)
value_stands [] id v e = cc
value_stands {A} (x ∷ xs) id v e = by_test (value_stands xs id v) (eqb x.0 id) refl e
  where
    by_test : (value_at xs id ≡ Some v → Contains xs (id, v)) → (b : Bool) → eqb x.0 id ≡ b → cond b (Some x.1) (value_at xs id) ≡ Some v
        → Contains (x ∷ xs) (id, v)
    by_test go_on true is f =
        let same : x.1 ≡ v = cc in
        let number : x.0 ≡ id = eqb-true x.0 id is in
        (0, omega arith, λ i. (number i, same i))
    by_test go_on false is f = let later = go_on f in (suc later.0, omega arith, later.2)

-- a rule of a well-formed network is what the network has at its number
pub rule_at_number : (net : Network) → IsWellFormed net → (r : Numbered) → Contains net.rules r → value_at net.rules r.0 ≡ Some r.1
rule_at_number net fits r there =
    let found = some_value net.rules r there.0 there.1 there.2 in
    let same : (r.0, found.0) ≡ r = rises_exact net.rules fits.rules (r.0, found.0) r (value_stands net.rules r.0 found.0 found.1) there refl in
    found.1 ∙ ap (λ (x : Numbered). Some x.1) same

-- a rule that hits is one of the network's
pub hit_contained : (net : Network) (port : ℕ) (header : Header) (r : Numbered) → hit net port header ≡ Some r → Contains net.rules r
hit_contained net port header r e = find-contained (is_first net port header) net.rules r e
