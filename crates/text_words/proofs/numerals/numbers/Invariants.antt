use Rattle.std.proofs.Common.{◌==◌, length}
use Rattle.std.specs.List.{slice_split}
use Rattle.text_words.proofs.NumberLists.{Finding}
use Rattle.text_words.proofs.numerals.numbers.Given as goal

abbrev pub invariant-loop-part : goal.invariant-loop-part
invariant-loop-part l = Finding l.most (slice_split (λ b. b == 44) l.word) (length l.yielded) l.found.items
