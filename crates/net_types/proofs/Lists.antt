-- A list that rises by number.
use Rattle.std.proofs.Common.{ℕ, ◌+◌, ◌<◌, Bool, List, map, arith}
use Rattle.std.specs.List.{filter, AllPairs}
use Rattle.std.specs.List.Sorted.{IsStrictlyIncreasing}
use Rattle.std.proofs.lemmas.List.Kept.{AllPairs-filter, AllPairs-from_increasing}
use Rattle.list_laws.proofs.Pairs.{AllPairs-map, AllPairs-from_map}
use Rattle.network_model.specs.WellFormed.{Rises}

-- a list that rises by number still does without some
pub rises_filter : {A : Type 0} (p : ℕ × A → Bool) (es : List (ℕ × A)) → Rises es → Rises (filter p es)
rises_filter p es rises = increasing_from_pairs (map (λ e. e.0) (filter p es))
    (AllPairs-map (λ e. e.0) (λ a b. a < b) (filter p es)
    (AllPairs-filter (λ a b. a.0 < b.0) p es (AllPairs-from_map (λ e. e.0) (λ a b. a < b) es (AllPairs-from_increasing (map (λ e. e.0) es) rises))))
  where
    increasing_from_pairs : (ns : List ℕ) → AllPairs (λ a b. a < b) ns → IsStrictlyIncreasing ns
    increasing_from_pairs ns pairs k below = pairs k (k + 1) 0 (omega arith) below
