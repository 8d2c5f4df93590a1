-- What doors and harbours give.
use Rattle.std.specs.Prelude.{◌≡◌, List, [], ◌∷◌, ◌++◌, Option, None, Some, option_map}

-- the things that are left begin with this one and lose it
pub record LosesFirst {X : Type 0} (left : List X) (after : Option (List X)) (first : X) : Type 0 where
  pub rest : List X
  pub was : left ≡ first ∷ rest
  pub is : after ≡ Some rest

-- Of the things that are left the first was given, and nothing exactly where none was left. Where they aren't told they stay so.
abbrev pub GivesFirst : {X : Type 0} → Option (List X) → Option (List X) → Option X → Type 0
GivesFirst None after given = after ≡ None
GivesFirst (Some left) after (Some first) = LosesFirst left after first
GivesFirst (Some left) after None = (left ≡ []) × (after ≡ Some [])

-- one more at the end, where they are told
abbrev pub with_last : {X : Type 0} → Option (List X) → X → Option (List X)
with_last told last = option_map (λ xs. xs ++ last ∷ []) told

-- Of the things that are left the first was given. Where none was left another one was, and where they aren't told they stay so.
abbrev pub GivesNext : {X : Type 0} → Option (List X) → Option (List X) → X → Type 0
GivesNext None after given = after ≡ None
GivesNext (Some []) after given = after ≡ Some []
GivesNext (Some (first ∷ rest)) after given = (given ≡ first) × (after ≡ Some rest)
