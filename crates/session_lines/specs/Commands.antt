-- What a line of a session says.
--     LineFault      of the code: why a line is none
--     rule_said      the rule of the words after `add`, or their first fault
--     command        the command of the first word of a line and the words after it, or their first fault
--     command_of     the command of a line; none where the line has no word
use Rattle.std.specs.Prelude.{ℕ, ◌^◌, ◌-◌, List, [], ◌∷◌, Option, Some, None, Result, Ok, Err, codes, if◌then◌else◌}
use Rattle.std.specs.Str.{bytes_eq}
use Rattle.network_model.specs.Network as model
use Rattle.net_types.specs.declared.rule.InPort.{InPort}
use Rattle.net_types.specs.declared.rule.InPort.TheVariants.{Any, One}
use Rattle.net_types.specs.declared.rule.Action.{Action}
use Rattle.net_types.specs.declared.rule.Action.TheVariants.{Drop, Out}
use Rattle.net_types.specs.declared.rule.Rule.{Rule}
use Rattle.net_text.specs.declared.fault.TextFault.{TextFault}
use Rattle.net_text.specs.declared.fault.TextFault.TheVariants as text
use Rattle.net_text.specs.Declarations.{Outcome, Good, Bad, rule_alone}
use Rattle.net_versions.specs.declared.change.Change.TheVariants.{Add, Cut}
use Rattle.suspect_book.specs.declared.verdict.Verdict.{Verdict}
use Rattle.suspect_book.specs.declared.verdict.Verdict.TheVariants.{Pass, Fail}
use Rattle.desk_core.specs.declared.event.Event.TheVariants.{Change, OpenRound, Depart, Arrive, Locate, Close, Current}
use Rattle.desk_core.specs.declared.performing.Command.{Command}
use Rattle.desk_core.specs.declared.performing.Command.TheVariants.{Ask, Plan, Quit, Stop}
use Rattle.session_lines.specs.declared.fault.LineFault.{LineFault}
use Rattle.session_lines.specs.declared.fault.LineFault.TheVariants.{Words, Number, Letters}
use Rattle.text_words.specs.Numbers.{number_upto}
use Rattle.text_words.specs.Words.{words_of}

abbrev pub and_then : {A B : Type 0} → Result A LineFault → (A → Result B LineFault) → Result B LineFault
and_then (Err fault) go_on = Err fault
and_then (Ok a) go_on = go_on a

abbrev pub number_or_fault : Option ℕ → Result ℕ LineFault
number_or_fault None = Err Number
number_or_fault (Some n) = Ok n

abbrev pub numeral : List ℕ → Result ℕ LineFault
numeral word = number_or_fault (number_upto (2 ^ 32 - 1) word)

abbrev pub in_port : model.InPort → InPort
in_port model.AnyPort = Any
in_port (model.OnePort port) = One port

abbrev pub action : model.Action → Action
action model.Drop = Drop
action (model.Out port moves) = Out port moves

-- a rule with its number, as the code has it
abbrev pub rule_of : model.Numbered → Rule
rule_of r = record { id = r.0; «at» = r.1.at; priority = r.1.priority; inp = in_port r.1.inp; pattern = r.1.pattern; action = action r.1.action }

abbrev pub line_fault : TextFault → LineFault
line_fault text.Number = Number
line_fault text.Letters = Letters
line_fault _ = Words

abbrev pub rule_said : Outcome model.Numbered → Result Rule LineFault
rule_said (Good rule) = Ok (rule_of rule)
rule_said (Bad fault) = Err (line_fault fault)

abbrev pub added : List (List ℕ) → Result Command LineFault
added words = and_then (rule_said (rule_alone words)) (λ rule. Ok (Ask (Change (Add rule))))

abbrev pub alone : Command → List (List ℕ) → Result Command LineFault
alone command [] = Ok command
alone command (word ∷ words) = Err Words

abbrev pub only_number : List (List ℕ) → Result ℕ LineFault
only_number (a ∷ []) = numeral a
only_number other = Err Words

abbrev pub one_number : (ℕ → Command) → List (List ℕ) → Result Command LineFault
one_number make words = and_then (only_number words) (λ a. Ok (make a))

abbrev pub two_numbers : (ℕ → ℕ → Command) → List (List ℕ) → Result Command LineFault
two_numbers make (a ∷ b ∷ []) = and_then (numeral a) (λ a. and_then (numeral b) (λ b. Ok (make a b)))
two_numbers make other = Err Words

abbrev pub verdict : List ℕ → Result Verdict LineFault
verdict word = if bytes_eq word (codes "pass") then Ok Pass else (if bytes_eq word (codes "fail") then Ok Fail else Err Words)

abbrev pub arrived : List (List ℕ) → Result Command LineFault
arrived (round ∷ entry ∷ word ∷ []) =
    and_then (numeral round) (λ round. and_then (numeral entry) (λ entry. and_then (verdict word) (λ verdict.
    Ok (Ask (Arrive round entry verdict)))))
arrived other = Err Words

-- without a rule
abbrev pub short_command : List ℕ → List (List ℕ) → Result Command LineFault
short_command first rest =
    if bytes_eq first (codes "cut") then one_number (λ rule. Ask (Change (Cut rule))) rest
    else (if bytes_eq first (codes "open") then alone (Ask OpenRound) rest
    else (if bytes_eq first (codes "plan") then one_number Plan rest
    else (if bytes_eq first (codes "depart") then two_numbers (λ round entry. Ask (Depart round entry)) rest
    else (if bytes_eq first (codes "arrive") then arrived rest
    else (if bytes_eq first (codes "locate") then one_number (λ round. Ask (Locate round)) rest
    else (if bytes_eq first (codes "close") then one_number (λ round. Ask (Close round)) rest
    else (if bytes_eq first (codes "current") then alone (Ask Current) rest
    else (if bytes_eq first (codes "quit") then alone Quit rest
    else (if bytes_eq first (codes "stop") then alone Stop rest
    else Err Words)))))))))

abbrev pub command : List ℕ → List (List ℕ) → Result Command LineFault
command first rest = if bytes_eq first (codes "add") then added rest else short_command first rest

abbrev pub said : List (List ℕ) → Result (Option Command) LineFault
said [] = Ok None
said (first ∷ rest) = and_then (command first rest) (λ command. Ok (Some command))

abbrev pub command_of : List ℕ → Result (Option Command) LineFault
command_of line = said (words_of line)
