-- The text of a plan, version 1.
--     plan_text    the head; a line for each entry, probe, reserved entry and idle rule; the four counts
use Rattle.std.specs.Prelude.{ℕ, ◌+◌, List, [], ◌∷◌, ◌++◌, length, codes}
use Rattle.std.specs.List.{flat_map}
use Rattle.std.specs.Fmt.{decimal}
use Rattle.network_model.specs.Network.{Network}
use Rattle.network_model.specs.Table.{Entry}
use Rattle.network_model.specs.Plan.{Plan, reserved, idle}
use Rattle.ternary_bits.specs.Letters.{header_text}
use Rattle.text_lines.specs.Lines.{line, number_line, number_list}

abbrev pub head_line : Network → ℕ → List ℕ
head_line net hops = line (codes "atpg-plan" ∷ codes "1" ∷ decimal net.width ∷ decimal hops ∷ [])

abbrev pub entry_line : ℕ → Entry → List ℕ
entry_line n e = line (
    codes "entry" ∷ decimal n ∷ decimal e.«from» ∷ decimal e.to
    ∷ header_text e.least ∷ header_text e.greatest ∷ header_text e.arrives ∷ number_list e.rules ∷ [])

-- the entries from this number on
abbrev pub entry_lines : ℕ → List Entry → List ℕ
entry_lines n [] = []
entry_lines n (e ∷ es) = entry_line n e ++ entry_lines (n + 1) es

abbrev pub numbered_line : List ℕ → ℕ → List ℕ
numbered_line name n = number_line name (n ∷ [])

abbrev pub end_line : Network → Plan → List ℕ
end_line net plan = number_line (codes "end") (length plan.table ∷ length plan.probes ∷ length (reserved plan) ∷ length (idle net plan) ∷ [])

abbrev pub plan_text : Network → ℕ → Plan → List ℕ
plan_text net hops plan =
    head_line net hops ++ (entry_lines 1 plan.table
    ++ (flat_map (numbered_line (codes "probe")) plan.probes
    ++ (flat_map (numbered_line (codes "reserved")) (reserved plan)
    ++ (flat_map (numbered_line (codes "idle")) (idle net plan) ++ end_line net plan))))
