-- The places that a pattern leaves free and at which another asks for a bit, counted from the left, from 0.
--     first_asked    the leftmost of them
--     asked_before   one of them is left of a place
use Rattle.std.specs.Prelude.{ℕ, zero, suc, Bool, true, false, ◌||◌, [], ◌∷◌, Option, Some, None, if◌then◌else◌}
use Rattle.std.specs.Option.{option_map}
use Rattle.network_model.specs.Bits.{Letter, Bit, Any, Pattern}

-- free, where the other asks for a bit
abbrev pub asks : Letter → Letter → Bool
asks (Bit bit) other = false
asks Any Any = false
asks Any (Bit bit) = true

abbrev pub first_asked : Pattern → Pattern → Option ℕ
first_asked [] other = None
first_asked (l ∷ ls) [] = None
first_asked (l ∷ ls) (o ∷ os) = if asks l o then Some 0 else option_map (λ place. suc place) (first_asked ls os)

abbrev pub asked_before : ℕ → Pattern → Pattern → Bool
asked_before zero pattern other = false
asked_before (suc place) [] other = false
asked_before (suc place) (l ∷ ls) [] = false
asked_before (suc place) (l ∷ ls) (o ∷ os) = asks l o || asked_before place ls os
