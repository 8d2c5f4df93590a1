-- What a command names.
--     IsNamedBy    the round and the entry that a command names, 0 where it names none
use Rattle.std.specs.Prelude.{◌≡◌}
use Rattle.desk_core.specs.declared.performing.Command.{Command}
use Rattle.desk_core.specs.declared.performing.Command.TheVariants.{Ask, Plan, Quit, Stop}
use Rattle.session_lines.specs.declared.replies.Named.{Named}
use Rattle.session_lines.specs.ReplyTexts.{event_round, event_entry}

abbrev pub IsNamedBy : Command → Named → Type 0
IsNamedBy (Ask event) named = (named.round ≡ event_round event) × (named.entry ≡ event_entry event)
IsNamedBy (Plan round) named = (named.round ≡ round) × (named.entry ≡ 0)
IsNamedBy Quit named = (named.round ≡ 0) × (named.entry ≡ 0)
IsNamedBy Stop named = (named.round ≡ 0) × (named.entry ≡ 0)
