-- A list of rules with room for so many.
use Rattle.std.specs.Prelude.{ℕ, List}

pub record PathValue : Type 0 where
  pub rules : List ℕ
  pub room : ℕ
