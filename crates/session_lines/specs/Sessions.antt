-- A session, and its ends by their causes.
--     GoesOn        lines were served that don't end the session, and all their replies were written
--     EndsWithin    how an end comes within lines
--     BreaksOff     lines were served up to the end of the session
--     IsTaken       the bytes that a source gave, and whether it is at its end
--     EndsSo        how an end comes after bytes
--     IsSession     all of this
use Rattle.std.specs.Prelude.{◌≡◌, ℕ, ◌<◌, ◌≤◌, ◌⊎◌, Bool, true, false, List, [], ◌++◌, length, take, Option, Some, None, IfSome, if◌then◌else◌}
use Rattle.byte_edges.specs.Counts.{raised}
use Rattle.byte_edges.specs.Reading.{Gave}
use Rattle.byte_edges.specs.Writing.{Took}
use Rattle.desk_core.specs.declared.event.Event.{Event}
use Rattle.desk_core.specs.declared.reply.Reply.{Reply}
use Rattle.session_lines.specs.declared.ends.SessionEnd.{SessionEnd}
use Rattle.session_lines.specs.declared.ends.SessionEnd.TheVariants.{Ended, LongLine, ReadFault, WriteFault, Spent, NoMemory}
use Rattle.session_lines.specs.Readings.{most_line_bytes, Stop, Quitting, Stopping, TooLong, Said, Reading, reading, whole_lines, unended, lines_read}
use Rattle.session_lines.specs.Serving.{Serves}
use Rattle.text_words.specs.Words.{lines_of}

-- how many bytes a session takes at most
abbrev pub most_bytes : ℕ
most_bytes = 1099511627776

-- a sink that had taken some bytes took the whole text
pub record GoesOn {D : Type 0} (asked : D → Event → Reply → D → Type 0) (limit hops : ℕ) (lines : Reading) (before after : D) (had has : Option (List ℕ)) (text : List ℕ) : Type 0 where
  pub on : lines.stop ≡ None
  pub serves : Serves asked limit hops lines.said before after text
  pub took : Took had has text

abbrev pub stop_with : Bool → Stop
stop_with true = Stopping
stop_with false = Quitting

abbrev pub IsFront : List Said → List Said → Type 0
IsFront front whole = (more : List Said) × (whole ≡ front ++ more)

-- Of the text of what was served the first `count` bytes were written, after `earlier` others.
abbrev pub EndsWithin : Reading → List Said → List ℕ → ℕ → ℕ → SessionEnd → Type 0
EndsWithin lines served text count earlier (Ended stop) = (lines.stop ≡ Some (stop_with stop)) × (served ≡ lines.said) × (count ≡ length text)
EndsWithin lines served text count earlier (LongLine line) = (lines.stop ≡ Some (TooLong line)) × (served ≡ lines.said) × (count ≡ length text)
EndsWithin lines served text count earlier (WriteFault written) = IsFront served lines.said × (count < length text) × (written ≡ raised earlier count)
EndsWithin lines served text count earlier NoMemory = IsFront served lines.said × (count ≤ length text)
EndsWithin lines served text count earlier ReadFault = ⊥
EndsWithin lines served text count earlier Spent = ⊥

pub record BreaksOff {D : Type 0} (asked : D → Event → Reply → D → Type 0) (limit hops : ℕ) (lines : Reading) (earlier : ℕ) (before after : D) (had has : Option (List ℕ)) (end : SessionEnd) : Type 0 where
  pub served : List Said
  pub text : List ℕ
  pub count : ℕ
  pub serves : Serves asked limit hops served before after text
  pub took : Took had has (take count text)
  pub so : EndsWithin lines served text count earlier end

-- The end is told once for some room, so it isn't told where no more bytes may be taken.
pub record IsTaken {S : Type 0} (left : S → Option (List ℕ)) (given ends : S → ℕ) (before after : S) (bytes : List ℕ) (at_end : Bool) : Type 0 where
  pub gave : Gave left given before after bytes
  pub within : length bytes ≤ most_bytes
  pub ended : ends after ≡ raised (ends before) (if at_end then 1 else 0)
  pub nothing_left : at_end ≡ true → IfSome (left after) (λ told. told ≡ [])
  pub room : at_end ≡ true → length bytes < most_bytes

-- a line is long also where its line feed wasn't read
abbrev pub lines_for : SessionEnd → Bool → List ℕ → List (List ℕ)
lines_for (LongLine line) at_end bytes = lines_of bytes
lines_for end at_end bytes = lines_read at_end bytes

-- all whole lines were served, and no line is too long
pub record ServesWhole {D : Type 0} (asked : D → Event → Reply → D → Type 0) (limit hops : ℕ) (bytes : List ℕ) (before after : D) (had has : Option (List ℕ)) : Type 0 where
  pub text : List ℕ
  pub goes_on : GoesOn asked limit hops (reading 1 (whole_lines bytes)) before after had has text
  pub short : length (unended bytes) ≤ most_line_bytes

-- all lines were served at the end of the bytes
pub record ServesAll {D : Type 0} (asked : D → Event → Reply → D → Type 0) (limit hops : ℕ) (bytes : List ℕ) (before after : D) (had has : Option (List ℕ)) : Type 0 where
  pub text : List ℕ
  pub goes_on : GoesOn asked limit hops (reading 1 (lines_of bytes)) before after had has text

abbrev pub EndsSo : {D : Type 0} → (D → Event → Reply → D → Type 0) → ℕ → ℕ → List ℕ → Bool → D → D → Option (List ℕ) → Option (List ℕ) → SessionEnd → Type 0
EndsSo asked limit hops bytes at_end before after had has (Ended stop) =
    BreaksOff asked limit hops (reading 1 (lines_read at_end bytes)) 0 before after had has (Ended stop)
    ⊎ ((stop ≡ false) × (at_end ≡ true) × ServesAll asked limit hops bytes before after had has)
EndsSo asked limit hops bytes at_end before after had has ReadFault = ServesWhole asked limit hops bytes before after had has
EndsSo asked limit hops bytes at_end before after had has Spent =
    ServesWhole asked limit hops bytes before after had has × (length bytes ≡ most_bytes)
EndsSo asked limit hops bytes at_end before after had has end =
    BreaksOff asked limit hops (reading 1 (lines_for end at_end bytes)) 0 before after had has end

pub record IsSession {D S : Type 0} (asked : D → Event → Reply → D → Type 0) (left : S → Option (List ℕ)) (given ends : S → ℕ) (taken : S → Option (List ℕ)) (limit hops : ℕ) (before after : D) (line_before line_after : S) (end : SessionEnd) : Type 0 where
  pub bytes : List ℕ
  pub at_end : Bool
  pub source : IsTaken left given ends line_before line_after bytes at_end
  pub so : EndsSo asked limit hops bytes at_end before after (taken line_before) (taken line_after) end
