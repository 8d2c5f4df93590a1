-- Entries in the table's order stand by their terminals.
use Rattle.std.proofs.Common.{◌≡◌, ℕ, ◌+◌, ◌≤◌, false, List, get_or, arith, eqb}
use Rattle.std.specs.List.Sorted.{IsNonDecreasingBy, IsSortedBy}
use Rattle.std.specs.Ordering.{is_lt}
use Rattle.std.proofs.lemmas.Bool.Decides.{nat_tests}
use Rattle.std.proofs.lemmas.List.Sorted.{IsNonDecreasingBy-from_all_adjacent}
use Rattle.network_model.specs.Table as model
use Rattle.path_table.specs.Entries.{entry_of}
use Rattle.path_table.specs.declared.entry.Entry.{Entry}

pub turned_test : (a b : ℕ) → eqb a b ≡ eqb b a
turned_test a b = grind (arith, nat_tests)

not_less : (a b : model.Entry) → is_lt (model.entry_cmp b a) ≡ false → a.«from» ≤ b.«from»
not_less a b not = grind arith

pub by_terminal : (entries : List Entry) → IsSortedBy (λ x y. is_lt (model.entry_cmp (entry_of x) (entry_of y))) entries → IsNonDecreasingBy (λ (e : Entry). e.«from») entries
by_terminal entries sorted =
    IsNonDecreasingBy-from_all_adjacent (λ (e : Entry). e.«from») entries
    (λ k d next. not_less (entry_of (get_or entries k d)) (entry_of (get_or entries (k + 1) d)) (sorted k d (omega arith) next))
