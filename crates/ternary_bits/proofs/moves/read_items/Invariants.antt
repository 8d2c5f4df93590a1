use Rattle.std.proofs.Common.{◌≡◌, length}
use Rattle.std.specs.List.{slice_split}
use Rattle.ternary_bits.specs.Moves.{comma}
use Rattle.ternary_bits.proofs.Moving.{HasTaken}
use Rattle.ternary_bits.proofs.moves.read_items.Given as goal

abbrev pub invariant-loop-word : goal.invariant-loop-word
invariant-loop-word l = record { counted : l.place ≡ length l.yielded; taken : HasTaken l.count l.place (slice_split comma l.text) l.rewrite }
