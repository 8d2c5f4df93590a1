-- The steps in which a session is served.
--     CanEnd          the ends of a session that the program serves
--     IsEndedAs       how the run ends then
--     NotNetwork      why bytes that were read whole have no network
use Rattle.std.specs.Prelude.{◌≡◌, ℕ, List}
use Rattle.net_text.specs.Text.{Faulty, reading}
use Rattle.session_lines.specs.declared.ends.SessionEnd.{SessionEnd}
use Rattle.session_lines.specs.declared.ends.SessionEnd.TheVariants as ends
use Rattle.atpg.specs.SessionRun.{session_network}
use Rattle.atpg.specs.declared.status.Status.{Status}
use Rattle.atpg.specs.declared.status.Status.TheVariants.{Done, BadWords, ReadFault, WriteFault, TooLong, BadNet, NoSuchRule, TableFull, LongLine, BadPolicy, NoMemory}

abbrev pub CanEnd : SessionEnd → Type 0
CanEnd (ends.Ended stop) = Unit {0}
CanEnd (ends.LongLine line) = Unit {0}
CanEnd ends.ReadFault = ⊥
CanEnd (ends.WriteFault written) = Unit {0}
CanEnd ends.Spent = ⊥
CanEnd ends.NoMemory = Unit {0}

abbrev pub IsEndedAs : SessionEnd → Status → Type 0
IsEndedAs (ends.Ended stop) status = status ≡ Done
IsEndedAs (ends.LongLine line) status = status ≡ LongLine line
IsEndedAs ends.ReadFault status = ⊥
IsEndedAs (ends.WriteFault written) status = status ≡ WriteFault written
IsEndedAs ends.Spent status = ⊥
IsEndedAs ends.NoMemory status = status ≡ NoMemory

abbrev pub NotNetwork : List ℕ → Status → Type 0
NotNetwork bytes (BadNet line fault) = reading (session_network bytes) ≡ Faulty line fault
NotNetwork bytes NoMemory = Unit {0}
NotNetwork bytes Done = ⊥
NotNetwork bytes (BadWords at) = ⊥
NotNetwork bytes ReadFault = ⊥
NotNetwork bytes (WriteFault written) = ⊥
NotNetwork bytes TooLong = ⊥
NotNetwork bytes (NoSuchRule id) = ⊥
NotNetwork bytes (TableFull limit) = ⊥
NotNetwork bytes (LongLine line) = ⊥
NotNetwork bytes (BadPolicy line fault) = ⊥
