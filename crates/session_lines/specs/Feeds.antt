-- Lines with their line feeds.
--     HasNoFeed     bytes without a line feed
--     with_feeds    lines, each with a line feed after it
--     IsParted      bytes are such lines and then a rest
use Rattle.std.specs.Prelude.{◌≡◌, ℕ, ◌==◌, false, List, [], ◌∷◌, ◌++◌, All}

abbrev pub HasNoFeed : List ℕ → Type 0
HasNoFeed bytes = All (λ b. (b == 10) ≡ false) bytes

abbrev pub with_feeds : List (List ℕ) → List ℕ
with_feeds [] = []
with_feeds (line ∷ lines) = line ++ 10 ∷ with_feeds lines

abbrev pub HaveNoFeeds : List (List ℕ) → Type 0
HaveNoFeeds [] = Unit {0}
HaveNoFeeds (line ∷ lines) = HasNoFeed line × HaveNoFeeds lines

pub record IsParted (bytes : List ℕ) (lines : List (List ℕ)) (rest : List ℕ) : Type 0 where
  pub is : bytes ≡ with_feeds lines ++ rest
  pub each : HaveNoFeeds lines
