-- The rules of the generated network, one more of them, or those of one more edge.
use Rattle.std.proofs.Common.{◌≡◌, ℕ, ◌+◌, List, [], ◌∷◌, ◌++◌, refl, sym, ap, ◌∙◌, arith}
use Rattle.std.specs.List.{flat_map, range_with_len}
use Rattle.std.proofs.lemmas.List.{flat_map_more, map-id}
use Rattle.std.proofs.lemmas.List.FromFn.{map-range_with_len_more}
use Rattle.net_grow.specs.Generated.{outward_at, outward_some, outward_edges, core_rules, inward_at, inward_some, inward_edges}
use Rattle.net_grow.specs.Rules.{outward_last, core, inward_last}

range_more : (n : ℕ) → range_with_len 0 (n + 1) ≡ range_with_len 0 n ++ n ∷ []
range_more n =
    let same : ℕ → ℕ = λ k. k in
    sym (map-id (range_with_len 0 (n + 1)))
    ∙ map-range_with_len_more same 0 n n (omega arith)
    ∙ ap (λ ns. ns ++ n ∷ []) (map-id (range_with_len 0 n))

flat_more : {A : Type 0} (f : ℕ → List A) (n : ℕ) → flat_map f (range_with_len 0 (n + 1)) ≡ flat_map f (range_with_len 0 n) ++ f n
flat_more f n = ap (flat_map f) (range_more n) ∙ sym (flat_map_more f [] (range_with_len 0 n) n)

pub outward_some-none : (word : ℕ → ℕ) (e : ℕ) → outward_some word 0 e ≡ []
unfolding outward_some
outward_some-none word e = refl

pub outward_some-more : (word : ℕ → ℕ) (n e : ℕ) → outward_some word (n + 1) e ≡ outward_some word n e ++ outward_at word e n ∷ []
unfolding outward_some
outward_some-more word n e = map-range_with_len_more (outward_at word e) 0 n n (omega arith)

pub outward_edges-none : (word : ℕ → ℕ) → outward_edges word 0 ≡ []
unfolding outward_edges
outward_edges-none word = refl

pub outward_edges-more : (word : ℕ → ℕ) (e : ℕ) → outward_edges word (e + 1) ≡ outward_edges word e ++ (outward_some word 63 e ++ outward_last e ∷ [])
unfolding outward_edges
outward_edges-more word e = flat_more (λ k. outward_some word 63 k ++ outward_last k ∷ []) e

pub core_rules-none : core_rules 0 ≡ []
unfolding core_rules
core_rules-none = refl

pub core_rules-more : (n : ℕ) → core_rules (n + 1) ≡ core_rules n ++ core n ∷ []
unfolding core_rules
core_rules-more n = map-range_with_len_more core 0 n n (omega arith)

pub inward_some-none : (word : ℕ → ℕ) (e : ℕ) → inward_some word 0 e ≡ []
unfolding inward_some
inward_some-none word e = refl

pub inward_some-more : (word : ℕ → ℕ) (n e : ℕ) → inward_some word (n + 1) e ≡ inward_some word n e ++ inward_at word e n ∷ []
unfolding inward_some
inward_some-more word n e = map-range_with_len_more (inward_at word e) 0 n n (omega arith)

pub inward_edges-none : (word : ℕ → ℕ) → inward_edges word 0 ≡ []
unfolding inward_edges
inward_edges-none word = refl

pub inward_edges-more : (word : ℕ → ℕ) (e : ℕ) → inward_edges word (e + 1) ≡ inward_edges word e ++ (inward_some word 31 e ++ inward_last e ∷ [])
unfolding inward_edges
inward_edges-more word e = flat_more (λ k. inward_some word 31 k ++ inward_last k ∷ []) e
