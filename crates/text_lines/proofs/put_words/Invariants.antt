use Rattle.std.proofs.Common.{◌≡◌, ◌++◌, take}
use Rattle.text_lines.proofs.Joined.{numbers_so_far}
use Rattle.text_lines.proofs.put_words.Given as goal

abbrev pub invariant-loop-number : goal.invariant-loop-number
invariant-loop-number l = l.text.items ≡ (l.fn.text.items ++ l.name) ++ numbers_so_far (take l.number-index l.numbers)
