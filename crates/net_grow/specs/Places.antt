-- Where packets go in the generated network. Its edges are the boxes 0 to 15, and its core is box 16. Edge e has port 100 + e,
-- where terminal e stands, and port 200 + e, which a link joins to port 300 + e of the core.
--     any_header   the pattern of all headers
--     places       the boxes, ports, links and terminals of the first so many edges, and the core, without rules
use Rattle.std.specs.Prelude.{ℕ, ◌+◌, List, [], ◌∷◌, ◌++◌, map, replicate}
use Rattle.std.specs.List.{range_with_len}
use Rattle.network_model.specs.Bits.{Pattern, Any}
use Rattle.network_model.specs.Network.{Network, Terminal, Both}

unfoldable pub any_header : Pattern
any_header = replicate 128 Any

abbrev pub terminal_at : ℕ → Terminal
terminal_at port = record { port = port; role = Both; permits = any_header ∷ []; forbids = [] }

-- a thing for each of the first so many edges
abbrev pub each_edge : {A : Type 0} → ℕ → (ℕ → A) → List A
each_edge count thing = map thing (range_with_len 0 count)

unfoldable pub places : ℕ → Network
places count = record {
  width = 128;
  boxes = range_with_len 0 count ++ 16 ∷ [];
  ports = each_edge count (λ e. (100 + e, e)) ++ each_edge count (λ e. (200 + e, e)) ++ each_edge count (λ e. (300 + e, 16));
  links = each_edge count (λ e. (200 + e, 300 + e)) ++ each_edge count (λ e. (300 + e, 200 + e));
  terminals = each_edge count (λ e. (e, terminal_at (100 + e)));
  rules = [];
}
