-- What outcomes tell of the rules. A packet passes exactly if each of its rules is good.
--     by_number    the numbers of a list in rising order, each once
--     cleared      the rules on passed entries
--     outside      the rules of an entry that are not cleared, one after another
--     is_only      a number is in a list, and no other number is
--     suspects     the rules on failed entries that are not cleared
--     is_alone     a rule is the only rule of some failed entry that is not cleared
--     guilty       these rules
--     is_odd       a failed entry has only cleared rules
--     odd          the first such entry in table order
--     tells        an entry has no verdict and exactly one different suspect rule
--     telling      the first reserved entry that tells
--     IsOneSuspect the one different suspect rule of an entry
--     findings     all of this
use Rattle.std.specs.Prelude.{◌≡◌, ℕ, ◌==◌, nat_lt, nat_eq, Bool, true, false, not, ◌&&◌, List, [], ◌∷◌, length, Option, Contains, if◌then◌else◌}
use Rattle.std.specs.List.{filter, find, list_any, list_all, range_with_len}
use Rattle.network_model.specs.Table.{Entry}
use Rattle.network_model.specs.Cover.{rules_at, entry_at, rules_of}
use Rattle.network_model.specs.Plan.{Plan, reserved}
use Rattle.fault_model.specs.Outcomes.{Outcome, entries_of, passed, failed, has}

abbrev pub placed : ℕ → List ℕ → List ℕ
placed n [] = n ∷ []
placed n (m ∷ ms) = if nat_lt n m then n ∷ m ∷ ms else (if n == m then m ∷ ms else m ∷ placed n ms)

abbrev pub by_number : List ℕ → List ℕ
by_number [] = []
by_number (n ∷ ns) = placed n (by_number ns)

abbrev pub cleared : List Entry → List Outcome → List ℕ
cleared table outcomes = rules_of table (passed outcomes)

abbrev pub outside : List Entry → List Outcome → ℕ → List ℕ
outside table outcomes n = filter (λ r. not (has (cleared table outcomes) r)) (rules_at (entry_at table n))

abbrev pub is_only : List ℕ → ℕ → Bool
is_only numbers n = has numbers n && list_all (nat_eq n) numbers

abbrev pub suspects : List Entry → List Outcome → List ℕ
suspects table outcomes = by_number (filter (λ r. not (has (cleared table outcomes) r)) (rules_of table (failed outcomes)))

abbrev pub is_alone : List Entry → List Outcome → ℕ → Bool
is_alone table outcomes rule = list_any (λ n. is_only (outside table outcomes n) rule) (failed outcomes)

abbrev pub guilty : List Entry → List Outcome → List ℕ
guilty table outcomes = by_number (filter (is_alone table outcomes) (rules_of table (failed outcomes)))

abbrev pub is_none : List ℕ → Bool
is_none [] = true
is_none (n ∷ ns) = false

abbrev pub is_odd : List Entry → List Outcome → ℕ → Bool
is_odd table outcomes n = has (failed outcomes) n && is_none (outside table outcomes n)

abbrev pub odd : List Entry → List Outcome → Option ℕ
odd table outcomes = find (is_odd table outcomes) (range_with_len 1 (length table))

-- the suspect rules of an entry, one after another
abbrev pub suspects_on : List Entry → List Outcome → ℕ → List ℕ
suspects_on table outcomes n = filter (has (suspects table outcomes)) (rules_at (entry_at table n))

abbrev pub has_one : List ℕ → Bool
has_one numbers = list_any (is_only numbers) numbers

abbrev pub has_verdict : List Outcome → ℕ → Bool
has_verdict outcomes n = has (entries_of outcomes) n

abbrev pub tells : List Entry → List Outcome → ℕ → Bool
tells table outcomes n = not (has_verdict outcomes n) && has_one (suspects_on table outcomes n)

abbrev pub telling : Plan → List Outcome → Option ℕ
telling plan outcomes = find (tells plan.table outcomes) (reserved plan)

pub record IsOneSuspect (table : List Entry) (outcomes : List Outcome) (n rule : ℕ) : Type 0 where
  pub on : Contains (rules_at (entry_at table n)) rule
  pub suspect : Contains (suspects table outcomes) rule
  pub one : (other : ℕ) → Contains (rules_at (entry_at table n)) other → Contains (suspects table outcomes) other → other ≡ rule

-- what a round's outcomes come to, and which packet to send next
pub record Findings : Type 0 where
  pub suspects : List ℕ
  pub guilty : List ℕ
  pub odd : Option ℕ
  pub next : Option ℕ

abbrev pub findings : Plan → List Outcome → Findings
findings plan outcomes = record {
  suspects = suspects plan.table outcomes;
  guilty = guilty plan.table outcomes;
  odd = odd plan.table outcomes;
  next = telling plan outcomes;
}
