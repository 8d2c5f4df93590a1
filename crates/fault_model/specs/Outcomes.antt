-- What packets came to. The packet of an entry goes by the entry's number in the table, counted from 1.
--     Outcome        an entry and its verdict
--     AreOutcomes    outcomes of different entries of a table
--     entries_of     the entries with a verdict
--     passed         the entries that passed
--     failed         the entries that failed
--     has            whether a number is one of these
--     meets          whether a rule is one of these
--     Explains       each entry failed exactly if its rules meet these
use Rattle.std.specs.Prelude.{◌≡◌, ◌≢◌, ℕ, ◌<◌, ◌≤◌, ◌↔◌, Bool, true, false, List, length, map, nat_eq, AllPairs, Contains, IsTrue}
use Rattle.std.specs.List.{filter, list_any}
use Rattle.network_model.specs.Table.{Entry}
use Rattle.network_model.specs.Cover.{rules_at, entry_at}

pub data Verdict : Type 0 where
  Pass : Verdict
  Fail : Verdict

pub record Outcome : Type 0 where
  pub entry : ℕ
  pub verdict : Verdict

abbrev pub is_pass : Verdict → Bool
is_pass Pass = true
is_pass Fail = false

abbrev pub is_fail : Verdict → Bool
is_fail Pass = false
is_fail Fail = true

pub record AreOutcomes (table : List Entry) (outcomes : List Outcome) : Type 0 where
  pub inside : (o : Outcome) → Contains outcomes o → (0 < o.entry) × (o.entry ≤ length table)
  pub different : AllPairs (λ (a b : Outcome). a.entry ≢ b.entry) outcomes

abbrev pub entries_of : List Outcome → List ℕ
entries_of outcomes = map (λ (o : Outcome). o.entry) outcomes

abbrev pub passed : List Outcome → List ℕ
passed outcomes = map (λ (o : Outcome). o.entry) (filter (λ (o : Outcome). is_pass o.verdict) outcomes)

abbrev pub failed : List Outcome → List ℕ
failed outcomes = map (λ (o : Outcome). o.entry) (filter (λ (o : Outcome). is_fail o.verdict) outcomes)

abbrev pub has : List ℕ → ℕ → Bool
has numbers n = list_any (nat_eq n) numbers

abbrev pub meets : List ℕ → List ℕ → Bool
meets bad rules = list_any (has bad) rules

abbrev pub Explains : List Entry → List Outcome → List ℕ → Type 0
Explains table outcomes bad =
    (o : Outcome) → Contains outcomes o → (o.verdict ≡ Fail) ↔ IsTrue (meets bad (rules_at (entry_at table o.entry)))
