-- The prefixes that meet one condition or another.
use Rattle.std.proofs.Common.{◌≡◌, ◌≢◌, ◌⊎◌, ℕ, ◌+◌, ◌-◌, ◌^◌, List, ◌++◌, length, min, inl, inr, subst, ⊎_elim, ap, arith}
use Rattle.std.specs.List.{All}
use Rattle.std.proofs.lemmas.List.{length-append}
use Rattle.std.proofs.lemmas.List.Elements.{All-append, All-weaker, All-contains, Contains-append_left, Contains-append_right}
use Rattle.list_laws.proofs.Pairs.{AllPairs-append}
use Rattle.network_model.specs.Network.{Network}
use Rattle.network_model.specs.Prefixes.{IsPrefix, ArePrefixes, IsPrefixNumber}

-- what is asked of each prefix of a list
abbrev IsSound : Network → ℕ → (ℕ → List ℕ → Type 0) → ℕ × List ℕ → Type 0
IsSound net hops P pair = P pair.0 pair.1 × IsPrefix net hops pair.0 pair.1

-- under a condition that says the same
pub prefixes_same : (net : Network) (hops : ℕ) (P Q : ℕ → List ℕ → Type 0) (pairs : List (ℕ × List ℕ)) → ((from : ℕ) (rules : List ℕ) → P from rules → Q from rules)
    → ((from : ℕ) (rules : List ℕ) → Q from rules → IsPrefix net hops from rules → P from rules) → ArePrefixes net hops P pairs → ArePrefixes net hops Q pairs
prefixes_same net hops P Q pairs to back are = record {
  different = are.different;
  sound = All-weaker (IsSound net hops P) (IsSound net hops Q) (λ pair is. (to pair.0 pair.1 is.0, is.1)) pairs are.sound;
  complete = λ from rules asked begins. are.complete from rules (back from rules asked begins) begins;
}

-- of two conditions that exclude each other
pub prefixes_joined : (net : Network) (hops : ℕ) (P Q : ℕ → List ℕ → Type 0) (pairs more : List (ℕ × List ℕ)) → ((from : ℕ) (rules : List ℕ) → P from rules → Q from rules → ⊥)
    → ArePrefixes net hops P pairs → ArePrefixes net hops Q more → ArePrefixes net hops (λ from rules. P from rules ⊎ Q from rules) (pairs ++ more)
prefixes_joined net hops P Q pairs more apart first second = record {
  different = AllPairs-append (λ (a b : ℕ × List ℕ). a ≢ b) pairs more first.different second.different (λ a b in_a in_b same.
      let here : P a.0 a.1 = (All-contains (IsSound net hops P) pairs a first.sound in_a).0 in
      let there : Q b.0 b.1 = (All-contains (IsSound net hops Q) more b second.sound in_b).0 in
      apart b.0 b.1 (subst (λ (p : ℕ × List ℕ). P p.0 p.1) same here) there);
  sound = All-append (IsSound net hops Either) pairs more
      (All-weaker (IsSound net hops P) (IsSound net hops Either) (λ pair is. (inl is.0, is.1)) pairs first.sound)
      (All-weaker (IsSound net hops Q) (IsSound net hops Either) (λ pair is. (inr is.0, is.1)) more second.sound);
  complete = λ from rules asked begins. ⊎_elim
      (λ here. Contains-append_left pairs more (from, rules) (first.complete from rules here begins))
      (λ here. Contains-append_right pairs more (from, rules) (second.complete from rules here begins))
      asked;
}
  where
    Either : ℕ → List ℕ → Type 0
    Either from rules = P from rules ⊎ Q from rules

pub number_same : (net : Network) (hops : ℕ) (P Q : ℕ → List ℕ → Type 0) (number : ℕ) → ((from : ℕ) (rules : List ℕ) → P from rules → Q from rules)
    → ((from : ℕ) (rules : List ℕ) → Q from rules → IsPrefix net hops from rules → P from rules) → IsPrefixNumber net hops P number → IsPrefixNumber net hops Q number
number_same net hops P Q number to back is = record { pairs = is.pairs; are = prefixes_same net hops P Q is.pairs to back is.are; counted = is.counted }

pub number_joined : (net : Network) (hops : ℕ) (P Q : ℕ → List ℕ → Type 0) (number count : ℕ) → ((from : ℕ) (rules : List ℕ) → P from rules → Q from rules → ⊥)
    → IsPrefixNumber net hops P number → IsPrefixNumber net hops Q count
    → IsPrefixNumber net hops (λ from rules. P from rules ⊎ Q from rules) (min (number + count) (2 ^ 64 - 1))
number_joined net hops P Q number count apart first second = record {
  pairs = first.pairs ++ second.pairs;
  are = prefixes_joined net hops P Q first.pairs second.pairs apart first.are second.are;
  counted = omega (arith, first.counted, second.counted, length-append first.pairs second.pairs);
}
