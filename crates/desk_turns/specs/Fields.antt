-- A pass and a shared desk as callers see them, and what is true of their fields.
use Rattle.std.specs.Prelude.{◌≡◌, ℕ, ◌≤◌, ◌<◌, [], ◌∷◌, Some}
use Rattle.desk_turns.specs.Shared.{most_seats, most_room, DeskId, PassValue}
use Rattle.desk_turns.specs.Passes.{desk_id, value_of, known_of, first_known}
use Rattle.desk_turns.specs.declared.rule.Known.{Known}
use Rattle.desk_turns.specs.declared.pass.Pass.TheInside.{Inside as PassFields}
use Rattle.desk_turns.specs.declared.shared.SharedDesk.TheInside.{Inside as DeskFields}

abbrev pub pass_of : PassFields → PassValue
pass_of p = value_of p.seat.table_id (first_known p.seat.me.0)

pub record IsOnePass (p : PassFields) : Type 0 where
  pub known : Known
  pub me : p.seat.me ≡ (known ∷ [], [])
  pub idle : known ≡ known_of (value_of p.seat.table_id known)
  pub number_is : known.number ≡ p.number
  pub numbered : 0 < known.number
  pub room_is : known.of.desk.room ≡ p.room
  pub full_is : known.past ≡ p.full
  pub past_room : (place : ℕ) → p.full ≡ Some place → p.room ≤ place
  pub small : known.of.desk.room ≤ most_room
  pub few : known.of.seats ≤ most_seats

abbrev pub id_of : DeskFields → DeskId
id_of d = desk_id d.table.shared.table_id d.table.shared.key

-- its table has two words and a slot
pub record IsShared (d : DeskFields) : Type 0 where
  pub words : d.table.shared.table_id.words ≡ 2
  pub slots : d.table.shared.table_id.slots ≡ 1
  pub some_seats : 1 ≤ d.table.shared.key.seats
  pub few_seats : d.table.shared.key.seats ≤ most_seats
