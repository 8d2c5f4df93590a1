-- Tables and commands, made one by one.
use Rattle.std.proofs.Common.{◌≡◌, ◌≢◌, ℕ, zero, suc, ◌≤◌, false, List, [], ◌∷◌, refl, arith}
use Rattle.std.specs.Prelude.{nat_eq}
use Rattle.std.specs.Cmp.Lexicographic.{pointwise}
use Rattle.std.specs.List.{All, AllPairs, AllByRecursion}
use Rattle.std.proofs.lemmas.List.Elements.{All-from_recursion}
use Rattle.command_line.specs.Table.{Named, IsTable, IsPossible, Commanded, AreCommands}
use Rattle.command_line.proofs.Places.{same_word}

-- words that compare as unequal
pub apart : (a b : List ℕ) → pointwise nat_eq a b ≡ false → a ≢ b
apart a b unequal same = let yes = (same_word a b (pointwise nat_eq a b) refl).1 same in cc

-- one that differs from the others, which differ from one another
apart_more : {A : Type 0} (R : A → A → Type 0) (x : A) (xs : List A) → All (λ y. R x y) xs → AllPairs R xs → AllPairs R (x ∷ xs)
apart_more R x xs first others zero zero d less inside = absurd (omega arith)
apart_more R x xs first others zero (suc j) d less inside = first j d (omega arith)
apart_more R x xs first others (suc i) zero d less inside = absurd (omega arith)
apart_more R x xs first others (suc i) (suc j) d less inside = others i j d (omega arith) (omega arith)

all_more : {A : Type 0} (P : A → Type 0) (x : A) (xs : List A) → P x → All P xs → All P (x ∷ xs)
all_more P x xs here others zero d inside = here
all_more P x xs here others (suc k) d inside = others k d (omega arith)

pub no_names : IsTable []
no_names = record { differ = λ i j d less inside. absurd (omega arith); possible = λ k d inside. absurd (omega arith) }

pub one_name_more : (name : Named) (names : List Named) → AllByRecursion (λ (n : Named). name.word ≢ n.word) names → IsPossible name.value → IsTable names → IsTable (name ∷ names)
one_name_more name names new some table = record {
  differ = apart_more (λ (a b : Named). a.word ≢ b.word) name names (All-from_recursion (λ (n : Named). name.word ≢ n.word) names new) table.differ;
  possible = all_more (λ (n : Named). IsPossible n.value) name names some table.possible;
}

pub one_command : (command : Commanded) → IsTable command.names → AreCommands (command ∷ [])
one_command command table = record {
  some = omega arith;
  differ = apart_more (λ (a b : Commanded). a.word ≢ b.word) command [] (λ k d inside. absurd (omega arith)) (λ i j d less inside. absurd (omega arith));
  tables = all_more (λ (c : Commanded). IsTable c.names) command [] table (λ k d inside. absurd (omega arith));
}

pub one_command_more : (command : Commanded) (commands : List Commanded) → AllByRecursion (λ (c : Commanded). command.word ≢ c.word) commands → IsTable command.names → AreCommands commands → AreCommands (command ∷ commands)
one_command_more command commands new table are = record {
  some = omega arith;
  differ = apart_more (λ (a b : Commanded). a.word ≢ b.word) command commands (All-from_recursion (λ (c : Commanded). command.word ≢ c.word) commands new) are.differ;
  tables = all_more (λ (c : Commanded). IsTable c.names) command commands table are.tables;
}
