-- What holds of a desk at every moment.
use Rattle.std.specs.Prelude.{◌≤◌, length, vec_capacity}
use Rattle.std.specs.Arc.{arc_value}
use Rattle.desk_core.specs.declared.desk.Desk.TheInside.{Inside}
use Rattle.desk_core.specs.Past.{past_of}
use Rattle.desk_core.specs.Legal.{IsLegal}
use Rattle.desk_core.specs.Keeping.{Mirrors}

pub record Stands (d : Inside) : Type 0 where
  pub legal : IsLegal (past_of d.log.items)
  pub mirrors : Mirrors (arc_value d.opening) d.hops (past_of d.log.items) d.rounds
  pub within : length d.log.items ≤ d.room
  pub most : d.room ≤ 4194304
  pub kept : d.room ≤ vec_capacity d.log
