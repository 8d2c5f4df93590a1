-- Hulls of patterns.
--     IsWithin      each header of a pattern is one of another's
use Rattle.std.specs.Prelude.{◌≡◌, true, None}
use Rattle.network_model.specs.Bits.{Pattern}
use Rattle.ternary_bits.specs.Pieces.{meets}
use Rattle.ternary_bits.specs.Asking.{first_asked}

-- some header matches both, and the hull asks for no bit that the pattern leaves free
pub record IsWithin (pattern hull : Pattern) : Type 0 where
  pub meeting : meets pattern hull ≡ true
  pub asked : first_asked pattern hull ≡ None
