-- Lists that stand one behind another in one list.
--     list_at     the list that begins and ends there
--     IsWithin    a list begins and ends within so many
use Rattle.std.specs.Prelude.{ℕ, ◌-◌, ◌≤◌, List, take, drop}
use Rattle.rule_cover.specs.declared.lists.Span.{Span}

abbrev pub list_at : List ℕ → Span → List ℕ
list_at places span = take (span.end - span.start) (drop span.start places)

pub record IsWithin (count : ℕ) (span : Span) : Type 0 where
  pub order : span.start ≤ span.end
  pub inside : span.end ≤ count
