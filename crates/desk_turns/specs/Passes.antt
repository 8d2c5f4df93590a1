-- What the table knows of a pass, and what callers see of it.
--     desk_id table of    which desk it is
--     value_of            a pass as callers see it, by what is known of its number
--     known_of pass       what the table knows of the pass, between its calls
--     HasOwnCalls         its calls are those of its number in what it has seen
--     AreAll              these passes are all of the desk's
--     first_known         what is known of the one number of a pass
use Rattle.std.specs.Prelude.{◌≡◌, ◌<◌, false, List, [], ◌∷◌, length, None}
use Rattle.std.specs.List.{All}
use Rattle.atomic_table.specs.Seated.{TableId}
use Rattle.desk_core.specs.DeskValue.{DeskValue}
use Rattle.desk_turns.specs.Histories.{made_by}
use Rattle.desk_turns.specs.Shared.{DeskId, PassValue}
use Rattle.desk_turns.specs.declared.rule.Opened.{Opened}
use Rattle.desk_turns.specs.declared.rule.Known.{Known}

abbrev pub desk_id : TableId → Opened → DeskId
desk_id table of = record { table = table; opening = of.desk; seats = of.seats }

abbrev pub value_of : TableId → Known → PassValue
value_of table k = record {
  desk = desk_id table k.of;
  number = k.number;
  seen = k.seen;
  calls = made_by k.number (length k.of.desk.log) k.seen;
  full = k.past;
}

abbrev pub known_of : PassValue → Known
known_of p = record {
  of = record { desk = p.desk.opening; seats = p.desk.seats };
  number = p.number;
  seen = p.seen;
  waits = None;
  holds = false;
  past = p.full;
}

abbrev pub HasOwnCalls : PassValue → Type 0
HasOwnCalls p = p.calls ≡ made_by p.number (length p.desk.opening.log) p.seen

-- they are as many as there are seats
abbrev pub AreAll : PassValue → List PassValue → Opened → Type 0
AreAll last others of = (0 < last.number) × (length (last ∷ others) ≡ of.seats) × All HasOwnCalls (last ∷ others)

-- A pass knows one number. The rest is for a list of no number, which no pass has
abbrev pub no_desk : DeskValue
no_desk = record {
  opening = record { width = 0; boxes = []; ports = []; links = []; terminals = []; rules = [] };
  hops = 0;
  room = 0;
  log = [];
}

abbrev pub first_known : List Known → Known
first_known [] = record { of = record { desk = no_desk; seats = 0 }; number = 0; seen = []; waits = None; holds = false; past = None }
first_known (k ∷ ks) = k
