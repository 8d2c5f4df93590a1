-- What a source gives.
use Rattle.std.specs.Prelude.{◌≡◌, ℕ, ◌++◌, List, Option, length}
use Rattle.std.specs.Io.KnownBytes.{prepend_known}
use Rattle.byte_edges.specs.Counts.{raised}

-- A source gave these bytes between two moments: where it tells what is left, they stood first there, and nothing else
-- changed of it. Told or not, its count of bytes rose by their number.
pub record Gave {S : Type 0} (left : S → Option (List ℕ)) (given : S → ℕ) (before after : S) (bytes : List ℕ) : Type 0 where
  pub front : left before ≡ prepend_known bytes (left after)
  pub counted : given after ≡ raised (given before) (length bytes)

-- A read of n bytes, which now stand behind those from before.
pub record GaveMore {S : Type 0} (left : S → Option (List ℕ)) (given : S → ℕ) (before after : S) (old new : List ℕ) (n : ℕ) : Type 0 where
  pub piece : List ℕ
  pub gave : Gave left given before after piece
  pub behind : new ≡ old ++ piece
  pub number : length piece ≡ n
