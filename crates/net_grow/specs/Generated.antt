-- The generated network. Its rules draw words one after the other, none left out: first those of the edges outward, edge by
-- edge, each but the last four words; then those of the edges inward, edge by edge, each but the last two.
--     outward_at      rule j of edge e outward, where word n is the n-th of those that all such rules draw
--     outward_some    the first so many rules of an edge outward, without the last
--     outward_edges   all rules outward of the first so many edges
--     inward_at       likewise inward
--     generated       the network of these words
--     grown           the network of a seed
use Rattle.std.specs.Prelude.{ℕ, ◌+◌, ◌*◌, List, [], ◌∷◌, ◌++◌, map}
use Rattle.std.specs.List.{flat_map, range_with_len}
use Rattle.network_model.specs.Network.{Network, Numbered}
use Rattle.net_grow.specs.Places.{places}
use Rattle.net_grow.specs.Rules.{outward, outward_last, core, inward, inward_last}
use Rattle.net_grow.specs.Words.{generator, nth_word}

abbrev pub outward_at : (ℕ → ℕ) → ℕ → ℕ → Numbered
outward_at word e j = let n = 4 * (63 * e + j) in outward e j (word n) (word (n + 1)) (word (n + 2)) (word (n + 3))

unfoldable pub outward_some : (ℕ → ℕ) → ℕ → ℕ → List Numbered
outward_some word count e = map (outward_at word e) (range_with_len 0 count)

unfoldable pub outward_edges : (ℕ → ℕ) → ℕ → List Numbered
outward_edges word count = flat_map (λ e. outward_some word 63 e ++ outward_last e ∷ []) (range_with_len 0 count)

unfoldable pub core_rules : ℕ → List Numbered
core_rules count = map core (range_with_len 0 count)

abbrev pub inward_at : (ℕ → ℕ) → ℕ → ℕ → Numbered
inward_at word e j = let n = 2 * (31 * e + j) in inward e j (word n) (word (n + 1))

unfoldable pub inward_some : (ℕ → ℕ) → ℕ → ℕ → List Numbered
inward_some word count e = map (inward_at word e) (range_with_len 0 count)

unfoldable pub inward_edges : (ℕ → ℕ) → ℕ → List Numbered
inward_edges word count = flat_map (λ e. inward_some word 31 e ++ inward_last e ∷ []) (range_with_len 0 count)

-- the rules outward draw 16 * 63 * 4 words
unfoldable pub generated : (ℕ → ℕ) → Network
generated word = record (places 16) { rules = outward_edges word 16 ++ core_rules 16 ++ inward_edges (λ n. word (4032 + n)) 16 }

unfoldable pub grown : ℕ → Network
grown seed = generated (nth_word (generator seed))
