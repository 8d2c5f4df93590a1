use Rattle.std.proofs.Common.{◌≡◌, ◌++◌, length, take}
use Rattle.ternary_bits.proofs.Moving.{front_text}
use Rattle.ternary_bits.proofs.moves.put_moves.Given as goal

abbrev pub invariant-loop-before : goal.invariant-loop-before
invariant-loop-before l = record { width : l.bits ≡ length l.rewrite; so_far : l.text.items ≡ l.fn.text.items ++ front_text (take l.before l.rewrite) }
