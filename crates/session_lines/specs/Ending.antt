-- How far a session comes with lines, after others.
--     ending_stop    the end at a command, where it ends the session
--     GoesOnFrom     lines were served that don't end it, with the count of bytes written
--     IsCut          the write of a reply ended the session
--     ServesFront    the lines of bytes were served but for what is unended
use Rattle.std.specs.Prelude.{◌≡◌, ℕ, ◌+◌, ◌<◌, ◌≤◌, true, false, List, length, take, Option, Some, None}
use Rattle.byte_edges.specs.Counts.{raised}
use Rattle.byte_edges.specs.Writing.{Took}
use Rattle.desk_core.specs.declared.event.Event.{Event}
use Rattle.desk_core.specs.declared.reply.Reply.{Reply}
use Rattle.desk_core.specs.declared.performing.Command.{Command}
use Rattle.desk_core.specs.declared.performing.Command.TheVariants.{Quit, Stop}
use Rattle.session_lines.specs.declared.ends.SessionEnd.{SessionEnd}
use Rattle.session_lines.specs.declared.ends.SessionEnd.TheVariants.{Ended, LongLine, ReadFault, WriteFault, Spent, NoMemory}
use Rattle.session_lines.specs.Feeds.{HasNoFeed, IsParted}
use Rattle.session_lines.specs.Readings.{most_line_bytes, Reading, reading}
use Rattle.session_lines.specs.Sessions.{GoesOn, BreaksOff}

abbrev pub ending_stop : Command → Option SessionEnd
ending_stop Quit = Some (Ended false)
ending_stop Stop = Some (Ended true)
ending_stop _ = None

pub record GoesOnFrom {D : Type 0} (asked : D → Event → Reply → D → Type 0) (limit hops : ℕ) (lines : Reading) (before after : D) (had has : Option (List ℕ)) (earlier written : ℕ) : Type 0 where
  pub text : List ℕ
  pub goes_on : GoesOn asked limit hops lines before after had has text
  pub counted : written ≡ raised earlier (length text)

pub record IsPartOf (had has : Option (List ℕ)) (text : List ℕ) (count : ℕ) : Type 0 where
  pub within : count ≤ length text
  pub took : Took had has (take count text)

abbrev pub IsCut : Option (List ℕ) → Option (List ℕ) → List ℕ → ℕ → SessionEnd → Type 0
IsCut had has text earlier (WriteFault written) = (count : ℕ) × (count < length text) × IsPartOf had has text count × (written ≡ raised earlier count)
IsCut had has text earlier NoMemory = (count : ℕ) × IsPartOf had has text count
IsCut had has text earlier (Ended stop) = ⊥
IsCut had has text earlier (LongLine line) = ⊥
IsCut had has text earlier ReadFault = ⊥
IsCut had has text earlier Spent = ⊥

-- these are `served` bytes
pub record ServesFront {D : Type 0} (asked : D → Event → Reply → D → Type 0) (limit hops : ℕ) (bytes : List ℕ) (number : ℕ) (before after : D) (had has : Option (List ℕ)) (earlier written : ℕ) (served now : ℕ) : Type 0 where
  pub lines : List (List ℕ)
  pub rest : List ℕ
  pub parted : IsParted bytes lines rest
  pub unended : HasNoFeed rest
  pub served_are : served + length rest ≡ length bytes
  pub short : length rest ≤ most_line_bytes
  pub goes_on : GoesOnFrom asked limit hops (reading (number + 1) lines) before after had has earlier written
  pub counted : now ≡ number + length lines

-- the last line either ends the session, or it is served and the session ends after it
pub data IsLast {D : Type 0} (asked : D → Event → Reply → D → Type 0) (limit hops : ℕ) (lines : Reading) (earlier : ℕ) (before after : D) (had has : Option (List ℕ)) (end : SessionEnd) : Type 0 where
  BreaksAt : BreaksOff asked limit hops lines earlier before after had has end → IsLast asked limit hops lines earlier before after had has end
  GoesTo : (written : ℕ) → GoesOnFrom asked limit hops lines before after had has earlier written → end ≡ Ended false → IsLast asked limit hops lines earlier before after had has end
