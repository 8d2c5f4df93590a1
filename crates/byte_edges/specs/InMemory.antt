-- What the forms in memory show of themselves.
use Rattle.std.specs.Prelude.{◌≡◌, ℕ, List, [], ◌∷◌, ◌++◌, Option, None, option_map, option_and_then, filter_map, slice_get}
use Rattle.byte_edges.specs.Scheduled.{Plan}

pub record SourceInMemory : Type 0 where
  -- the bytes that are left
  pub left : List ℕ
  -- how many bytes one read gives at most
  pub most : ℕ
  -- which reads fail
  pub plan : Plan
  -- how many bytes were given, and how many answers for some room gave none
  pub given : ℕ
  pub ends : ℕ

pub record SinkInMemory : Type 0 where
  -- the bytes that it took
  pub taken : List ℕ
  -- how many bytes one write takes at most
  pub most : ℕ
  -- which writes fail
  pub plan : Plan

pub record LineInMemory : Type 0 where
  pub source : SourceInMemory
  pub sink : SinkInMemory

pub record DoorInMemory : Type 0 where
  -- the lines that are left
  pub left : List LineInMemory
  -- for each line that was given, in order: the line as it was given back, once it was
  pub slots : List (Option LineInMemory)
  -- which accepts fail
  pub plan : Plan
  -- how many answers were None
  pub shut : ℕ

-- a door without lines, which was asked for none and never fails
abbrev pub empty_door : DoorInMemory
empty_door = record { left = []; slots = []; plan = record { fails = []; calls = 0 }; shut = 0 }

pub record HarbourInMemory : Type 0 where
  -- the doors that are left
  pub left : List DoorInMemory
  -- which opens fail
  pub plan : Plan

-- the lines that were given back, in the order in which they were given
abbrev pub given_back : List (Option LineInMemory) → List LineInMemory
given_back slots = filter_map (λ slot. slot) slots

-- the bytes that line i took, once it was given back
abbrev pub served_bytes : List (Option LineInMemory) → ℕ → Option (List ℕ)
served_bytes slots i = option_and_then (λ slot. option_map (λ line. line.sink.taken) slot) (slice_get slots i)

-- the latest line that was given wasn't given back
pub record LatestIsOut (slots : List (Option LineInMemory)) : Type 0 where
  pub before : List (Option LineInMemory)
  pub is : slots ≡ before ++ None ∷ []
