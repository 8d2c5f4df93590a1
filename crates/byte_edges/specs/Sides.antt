-- What a value is besides a source, or besides a sink.
use Rattle.std.specs.Prelude.{ℕ, List, Option}

-- what a value says of itself as a sink: what it took, and how often it failed
pub record SinkSide : Type 0 where
  pub taken : Option (List ℕ)
  pub faults : ℕ

-- what a value says of itself as a source: what is left, and its counts
pub record SourceSide : Type 0 where
  pub left : Option (List ℕ)
  pub faults : ℕ
  pub given : ℕ
  pub ends : ℕ
