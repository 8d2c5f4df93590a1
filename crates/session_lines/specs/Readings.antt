-- The lines of session bytes, read in order until one ends the session.
--     most_line_bytes    how many bytes a line may have without its line feed
--     Stop               how a line ends a session
--     Reading            what the lines ask for, each a command or a fault, and how the session ends within them, if it does
--     line_reading       of one line, by its number
--     reading            of lines, the first of which has that number
--     whole_lines        the lines of bytes that are ended by a line feed
--     unended            what follows the last line feed
--     lines_read         these lines, and what follows them too where the bytes are at their end
use Rattle.std.specs.Prelude.{ℕ, ◌+◌, ◌-◌, nat_lt, Bool, true, false, List, [], ◌∷◌, ◌++◌, length, take, slice_get, unwrap_or, Option, Some, None, Result, Ok, Err, if◌then◌else◌}
use Rattle.desk_core.specs.declared.performing.Command.{Command}
use Rattle.desk_core.specs.declared.performing.Command.TheVariants as commands
use Rattle.session_lines.specs.declared.fault.LineFault.{LineFault}
use Rattle.session_lines.specs.Commands.{command_of}
use Rattle.text_words.specs.Words.{lines_of}

abbrev pub most_line_bytes : ℕ
most_line_bytes = 4096

pub data Stop : Type 0 where
  Quitting : Stop
  Stopping : Stop
  TooLong : (line : ℕ) → Stop

abbrev pub Said : Type 0
Said = Result Command LineFault

pub record Reading : Type 0 where
  pub said : List Said
  pub stop : Option Stop

-- a line without a word asks for nothing
abbrev pub asks : Result (Option Command) LineFault → List Said
asks (Err fault) = Err fault ∷ []
asks (Ok None) = []
asks (Ok (Some command)) = Ok command ∷ []

abbrev pub command_stop : Command → Option Stop
command_stop commands.Quit = Some Quitting
command_stop commands.Stop = Some Stopping
command_stop _ = None

abbrev pub stop_at : Result (Option Command) LineFault → Option Stop
stop_at (Ok (Some command)) = command_stop command
stop_at _ = None

abbrev pub too_long : ℕ → Reading
too_long number = record { said = []; stop = Some (TooLong number) }

-- of a line that says this command
abbrev pub command_reading : Command → Reading
command_reading command = record { said = Ok command ∷ []; stop = command_stop command }

abbrev pub line_reading : ℕ → List ℕ → Reading
line_reading number line =
    if nat_lt most_line_bytes (length line) then too_long number
    else record { said = asks (command_of line); stop = stop_at (command_of line) }

abbrev pub with_rest : List Said → Option Stop → Reading → Reading
with_rest said None rest = record { said = said ++ rest.said; stop = rest.stop }
with_rest said (Some stop) rest = record { said = said; stop = Some stop }

-- what follows is read unless the session ends before
abbrev pub then_reading : Reading → Reading → Reading
then_reading first rest = with_rest first.said first.stop rest

abbrev pub reading : ℕ → List (List ℕ) → Reading
reading number [] = record { said = []; stop = None }
reading number (line ∷ lines) = then_reading (line_reading number line) (reading (number + 1) lines)

abbrev pub whole_lines : List ℕ → List (List ℕ)
whole_lines bytes = take (length (lines_of bytes) - 1) (lines_of bytes)

abbrev pub unended : List ℕ → List ℕ
unended bytes = unwrap_or (slice_get (lines_of bytes) (length (lines_of bytes) - 1)) []

abbrev pub lines_read : Bool → List ℕ → List (List ℕ)
lines_read true bytes = lines_of bytes
lines_read false bytes = whole_lines bytes
