-- Packets that wait at the terminals of a link.
use Rattle.std.specs.Prelude.{◌≡◌, ◌≢◌, ℕ, List, ◌∷◌, ◌++◌, Option, None, Some, All, length, min, take, option_map}

-- The first packet that waits at this terminal is gone, and its first 64 bytes at most stand at the front of what was read.
pub record TookFirst (terminal : ℕ) (before after : List (ℕ × List ℕ)) (count : ℕ) (read : List ℕ) : Type 0 where
  pub ahead : List (ℕ × List ℕ)
  pub behind : List (ℕ × List ℕ)
  pub packet : List ℕ
  pub elsewhere : All (λ waiting. waiting.0 ≢ terminal) ahead
  pub was : before ≡ ahead ++ (terminal, packet) ∷ behind
  pub is : after ≡ ahead ++ behind
  pub number : count ≡ min 64 (length packet)
  pub bytes : take count read ≡ take 64 packet

-- A packet of this terminal was taken, and none exactly where none waited there. Where the packets aren't told they stay so.
abbrev pub TakesAt : ℕ → Option (List (ℕ × List ℕ)) → Option (List (ℕ × List ℕ)) → Option ℕ → List ℕ → Type 0
TakesAt terminal None after count read = after ≡ None
TakesAt terminal (Some before) after None read = All (λ waiting. waiting.0 ≢ terminal) before × (after ≡ Some before)
TakesAt terminal (Some before) after (Some count) read =
    (rest : List (ℕ × List ℕ)) × (after ≡ Some rest) × TookFirst terminal before rest count read

-- these packets at the end, where they are told
abbrev pub with_sent : Option (List (ℕ × List ℕ)) → List (ℕ × List ℕ) → Option (List (ℕ × List ℕ))
with_sent told sent = option_map (λ waiting. waiting ++ sent) told
