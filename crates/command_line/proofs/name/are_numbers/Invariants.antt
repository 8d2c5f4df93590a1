use Rattle.std.proofs.Common.{◌==◌, ℕ, List, length}
use Rattle.std.specs.List.{slice_split}
use Rattle.text_words.proofs.NumberLists.{Finding}
use Rattle.command_line.proofs.name.are_numbers.Given as goal

-- the parts so far are numbers
abbrev pub invariant-loop-part : goal.invariant-loop-part
invariant-loop-part l = (found : List ℕ) × Finding l.most (slice_split (λ b. b == 44) l.word) (length l.yielded) found
