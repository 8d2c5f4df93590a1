-- What is left of a pattern without another.
--     meets          some header matches both
--     pieces         for each bit of the other that is free in the pattern, from the left, the pattern with
--                    that bit flipped and the earlier such bits as in the other
--     difference     the pieces, or the pattern alone where the two don't meet
--     least_member   the least header that matches; likewise the greatest
use Rattle.std.specs.Prelude.{Bool, true, false, not, ◌&&◌, List, [], ◌∷◌, ◌++◌, map, if◌then◌else◌}
use Rattle.network_model.specs.Bits.{Header, Letter, Bit, Any, Pattern, letter_takes}

abbrev pub letters_meet : Letter → Letter → Bool
letters_meet Any other = true
letters_meet (Bit bit) Any = true
letters_meet (Bit bit) (Bit other) = letter_takes (Bit bit) other

abbrev pub meets : Pattern → Pattern → Bool
meets [] [] = true
meets [] (o ∷ os) = false
meets (l ∷ ls) [] = false
meets (l ∷ ls) (o ∷ os) = letters_meet l o && meets ls os

-- the piece that flips a bit of the other, where the pattern leaves it free
abbrev pub flipped : Letter → Letter → Pattern → List Pattern
flipped (Bit bit) other rest = []
flipped Any Any rest = []
flipped Any (Bit bit) rest = (Bit (not bit) ∷ rest) ∷ []

-- the letter that the later pieces have here
abbrev pub fixed : Letter → Letter → Letter
fixed (Bit bit) other = Bit bit
fixed Any other = other

abbrev pub pieces : Pattern → Pattern → List Pattern
pieces [] other = []
pieces (l ∷ ls) [] = []
pieces (l ∷ ls) (o ∷ os) = flipped l o ls ++ map (λ piece. fixed l o ∷ piece) (pieces ls os)

abbrev pub difference : Pattern → Pattern → List Pattern
difference pattern other = if meets pattern other then pieces pattern other else pattern ∷ []

abbrev pub least_bit : Letter → Bool
least_bit (Bit bit) = bit
least_bit Any = false

abbrev pub greatest_bit : Letter → Bool
greatest_bit (Bit bit) = bit
greatest_bit Any = true

abbrev pub least_member : Pattern → Header
least_member pattern = map least_bit pattern

abbrev pub greatest_member : Pattern → Header
greatest_member pattern = map greatest_bit pattern
