-- How many different numbers a list has, as far as it matters.
use Rattle.std.specs.Prelude.{◌≡◌, ◌≢◌, ℕ, true, List, [], Contains}
use Rattle.fault_model.specs.Findings.{is_only}
use Rattle.suspect_book.specs.declared.few.Few.{Few}
use Rattle.suspect_book.specs.declared.few.Few.TheVariants.{Nothing, One, More}

abbrev pub IsFew : List ℕ → Few → Type 0
IsFew numbers Nothing = numbers ≡ []
IsFew numbers (One n) = is_only numbers n ≡ true
IsFew numbers More = (a : ℕ) × (b : ℕ) × Contains numbers a × Contains numbers b × (a ≢ b)
