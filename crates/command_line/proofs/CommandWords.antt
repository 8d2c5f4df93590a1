-- Words that begin with a command, or with none.
use Rattle.std.proofs.Common.{◌≡◌, ℕ, zero, suc, ◌+◌, ◌-◌, ◌≤◌, List, [], ◌∷◌, ◌++◌, length, take, Some, refl, sym, ap, ◌∙◌, arith, subst}
use Rattle.std.specs.List.{slice_get, Contains}
use Rattle.command_line.specs.Table.{ArePairs, IsLine, Commanded, AreCommands, IsCommanded, BeginsGood, IsBadAt}
use Rattle.command_line.proofs.Places.{get-front, one_of}
use Rattle.command_line.proofs.GoodPairs.{begins_line}

-- the words after a command are a line of its names, where the words are good
line_after : (commands : List Commanded) (command : Commanded) (rest : List (List ℕ)) → AreCommands commands → Contains commands command → IsCommanded commands (command.word ∷ rest) → IsLine command.names rest
line_after commands command rest are there good =
    let line = good.line in
    let begins = line.begins in
    let word : good.command.word ≡ command.word = cc in
    let after : good.rest ≡ rest = cc in
    let same : good.command ≡ command = one_of (λ (c : Commanded). c.word) commands good.command command are.differ line.there there word in
    subst (λ l. IsLine command.names l) after (subst (λ (c : Commanded). IsLine c.names good.rest) same line.line)

-- and where they are such a line, the words are good
commanded_by : (commands : List Commanded) (command : Commanded) (rest : List (List ℕ)) → Contains commands command → IsLine command.names rest → IsCommanded commands (command.word ∷ rest)
commanded_by commands command rest there line = record { command = command; rest = rest; line = record { there = there; begins = refl; line = line } }

-- bad words after a command
bad_after : (commands : List Commanded) (command : Commanded) (rest : List (List ℕ)) (at : ℕ) → AreCommands commands → Contains commands command
    → IsBadAt (IsLine command.names) rest at → IsBadAt (IsCommanded commands) (command.word ∷ rest) (at + 1)
bad_after commands command rest zero are there bad = let p = bad.place in absurd (omega arith)
bad_after commands command rest (suc k) are there bad = record {
  bad = λ good. bad.bad (line_after commands command rest are there good);
  place = let p = bad.place in (omega arith, omega arith);
  begins =
      subst (λ n. BeginsGood (IsCommanded commands) (take n (command.word ∷ rest))) (let e : suc k ≡ suc k + 1 - 1 = omega arith in e)
      (let begins : BeginsGood (IsLine command.names) (take k rest) = subst (λ n. BeginsGood (IsLine command.names) (take n rest)) (let e : suc k - 1 ≡ k = omega arith in e) bad.begins in
      record { rest = begins.rest; good = commanded_by commands command (take k rest ++ begins.rest) there begins.good });
  longest = longest;
}
  where
    longest : (n : ℕ) → suc k + 1 ≤ n → n ≤ length (command.word ∷ rest) → BeginsGood (IsCommanded commands) (take n (command.word ∷ rest)) → ⊥
    longest zero h fits more = absurd (omega arith)
    longest (suc n) h fits more =
        bad.longest n (omega arith) (omega arith) (record { rest = more.rest; good = line_after commands command (take n rest ++ more.rest) are there more.good })

pub command_bad : (commands : List Commanded) (command : Commanded) (words rest : List (List ℕ)) (at : ℕ) → AreCommands commands → Contains commands command → words ≡ command.word ∷ rest
    → IsBadAt (IsLine command.names) rest at → IsBadAt (IsCommanded commands) words (at + 1)
command_bad commands command words rest at are there begins bad =
    subst (λ l. IsBadAt (IsCommanded commands) l (at + 1)) (sym begins) (bad_after commands command rest at are there bad)

-- words that begin with no command
pub no_command : (commands : List Commanded) (words : List (List ℕ)) → AreCommands commands
    → ((command : Commanded) → Contains commands command → slice_get words 0 ≡ Some command.word → ⊥) → IsBadAt (IsCommanded commands) words 1
no_command [] words are none = absurd (let some = are.some in omega arith)
no_command (c ∷ cs) words are none = record {
  bad = λ good. not_so words good refl;
  place = (omega arith, omega arith);
  begins =
      let no : ArePairs c.names [] = record { count = 0; whole = refl; pairs = λ j less. absurd (omega arith) } in
      let line = begins_line c.names [] (are.tables zero c (omega arith)) no in
      record { rest = c.word ∷ line.rest; good = commanded_by (c ∷ cs) c line.rest (zero, omega arith, refl) line.good };
  longest = λ n h fits more. not_so (take n words ++ more.rest) more.good (get-front n words more.rest 0 h fits);
}
  where
    not_so : (other : List (List ℕ)) → IsCommanded (c ∷ cs) other → slice_get other 0 ≡ slice_get words 0 → ⊥
    not_so other good same = none good.command good.line.there (sym same ∙ ap (λ l. slice_get l 0) good.line.begins)
