-- Findings of small tables, computed. An entry's rules are all that matters here.
use Rattle.std.specs.Prelude.{◌≡◌, ℕ, List, [], ◌∷◌, Option, None, Some}
use Rattle.std.proofs.Common.{refl}
use Rattle.network_model.specs.Table.{Entry}
use Rattle.network_model.specs.Plan.{Plan}
use Rattle.fault_model.specs.Outcomes.{Verdict, Pass, Fail, Outcome}
use Rattle.fault_model.specs.Findings.{by_number, Findings, findings}

abbrev on : List ℕ → Entry
on rules = record { from = 1; to = 2; rules = rules; least = []; greatest = []; arrives = [] }

abbrev came : ℕ → Verdict → Outcome
came entry verdict = record { entry = entry; verdict = verdict }

-- three entries, of which the first and the third are probes
abbrev two_ways : Plan
two_ways = record { table = on (1 ∷ 3 ∷ []) ∷ on (1 ∷ 4 ∷ []) ∷ on (2 ∷ 4 ∷ []) ∷ []; probes = 1 ∷ 3 ∷ [] }

abbrev found : List ℕ → List ℕ → Option ℕ → Option ℕ → Findings
found suspects guilty odd next = record { suspects = suspects; guilty = guilty; odd = odd; next = next }

-- nothing is known before the first verdict
at_first : findings two_ways [] ≡ found [] [] None None
at_first = refl

-- the first entry fails: rules 1 and 3 are suspects, and entry 2 has rule 1 alone of them
first_failed : findings two_ways (came 1 Fail ∷ came 3 Pass ∷ []) ≡ found (1 ∷ 3 ∷ []) [] None (Some 2)
first_failed = refl

-- entry 2 fails too: rule 1 is guilty, and rule 3 stays a suspect
rule_one_guilty : findings two_ways (came 1 Fail ∷ came 3 Pass ∷ came 2 Fail ∷ []) ≡ found (1 ∷ 3 ∷ []) (1 ∷ []) None None
rule_one_guilty = refl

-- entry 2 passes: rule 1 is cleared, and rule 3 is guilty
rule_three_guilty : findings two_ways (came 1 Fail ∷ came 3 Pass ∷ came 2 Pass ∷ []) ≡ found (3 ∷ []) (3 ∷ []) None None
rule_three_guilty = refl

-- the same rule passed on one entry and failed on another
abbrev same_rule : Plan
same_rule = record { table = on (5 ∷ []) ∷ on (5 ∷ []) ∷ []; probes = 1 ∷ [] }

second_odd : findings same_rule (came 1 Pass ∷ came 2 Fail ∷ []) ≡ found [] [] (Some 2) None
second_odd = refl

-- a rule that stands twice is one rule
in_order_once : by_number (4 ∷ 2 ∷ 4 ∷ 1 ∷ 2 ∷ []) ≡ 1 ∷ 2 ∷ 4 ∷ []
in_order_once = refl
