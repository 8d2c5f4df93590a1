-- What the adapters of std's readers, writers and sockets show of themselves.
use Rattle.std.specs.Prelude.{ℕ, List, Option}

pub record SourceOverReader : Type 0 where
  -- the bytes that the reader will give, where it tells them
  pub remaining : Option (List ℕ)
  -- how often it failed, how many bytes it gave, and how many answers for some room gave none
  pub faults : ℕ
  pub given : ℕ
  pub ends : ℕ

pub record SinkOverWriter : Type 0 where
  -- the bytes that the writer holds, where it tells them
  pub contents : Option (List ℕ)
  -- how often it failed
  pub faults : ℕ

pub record LineOverSocket : Type 0 where
  -- how often a read failed, how many bytes the reads gave, and how many answers for some room gave none
  pub faults : ℕ
  pub given : ℕ
  pub ends : ℕ
  -- how often a write failed
  pub write_faults : ℕ

-- a line that was neither read nor written
abbrev pub untouched_line : LineOverSocket
untouched_line = record { faults = 0; given = 0; ends = 0; write_faults = 0 }

pub record DoorOverSocket : Type 0 where
  -- how often it failed, how many lines it gave, and how many answers were None
  pub faults : ℕ
  pub given : ℕ
  pub shut : ℕ

-- a door that was asked for no line
abbrev pub unused_door : DoorOverSocket
unused_door = record { faults = 0; given = 0; shut = 0 }

pub record HarbourOverSockets : Type 0 where
  -- how often it failed
  pub faults : ℕ
