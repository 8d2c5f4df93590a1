-- The texts of a session.
--     refusal_text     of a refusal
--     reply_text       of a desk's reply to an event that names that round and entry
--     answer_text      of an answer to a command that names them
--     text_of          of an answer to a command
--     bad_line_text    of a line that says no command
use Rattle.std.specs.Prelude.{ℕ, List, [], ◌∷◌, ◌++◌, Option, Some, None, codes}
use Rattle.std.specs.Arc.{arc_value}
use Rattle.std.specs.Fmt.{decimal}
use Rattle.net_types.specs.declared.fault.NetFault.{NetFault}
use Rattle.net_types.specs.declared.fault.NetFault.TheVariants as faults
use Rattle.rule_cover.specs.PlanValue.{PlanValue}
use Rattle.suspect_book.specs.declared.verdict.Verdict.{Verdict}
use Rattle.suspect_book.specs.declared.verdict.Verdict.TheVariants.{Pass, Fail}
use Rattle.suspect_book.specs.declared.report.Report.{Report}
use Rattle.desk_core.specs.declared.event.Event.{Event}
use Rattle.desk_core.specs.declared.event.Event.TheVariants as events
use Rattle.desk_core.specs.declared.reply.Refusal.{Refusal}
use Rattle.desk_core.specs.declared.reply.Refusal.TheVariants as refusals
use Rattle.desk_core.specs.declared.reply.Reply.{Reply}
use Rattle.desk_core.specs.declared.reply.Reply.TheVariants as replies
use Rattle.desk_core.specs.declared.performing.Command.{Command}
use Rattle.desk_core.specs.declared.performing.Command.TheVariants as commands
use Rattle.desk_core.specs.declared.performing.Answer.{Answer}
use Rattle.desk_core.specs.declared.performing.Answer.TheVariants as answers
use Rattle.plan_text.specs.PlanText.{plan_text}
use Rattle.session_lines.specs.declared.fault.LineFault.{LineFault}
use Rattle.session_lines.specs.declared.fault.LineFault.TheVariants as line
use Rattle.text_lines.specs.Lines as lines
use Rattle.text_lines.specs.Lines.{number_line, number_list}

abbrev pub verdict_word : Verdict → List ℕ
verdict_word Pass = codes "pass"
verdict_word Fail = codes "fail"

abbrev pub optional_number : Option ℕ → List ℕ
optional_number None = codes "-"
optional_number (Some n) = decimal n

abbrev pub report_line : List ℕ → ℕ → Report → List ℕ
report_line name round r = lines.line (
    name ∷ decimal round ∷ codes "suspects" ∷ number_list r.suspects ∷ codes "guilty" ∷ number_list r.guilty
    ∷ codes "odd" ∷ optional_number r.odd ∷ codes "next" ∷ optional_number r.next ∷ [])

-- A desk refuses no change for a port, a link or a terminal, so these have no word.
abbrev pub fault_text : NetFault → List ℕ
fault_text faults.Twice = codes "no twice\n"
fault_text faults.Unknown = codes "no unknown\n"
fault_text faults.Limit = codes "no limit\n"
fault_text faults.Width = codes "no width\n"
fault_text _ = []

abbrev pub refusal_text : Refusal → List ℕ
refusal_text (refusals.LogFull place) = number_line (codes "no log-full") (place ∷ [])
refusal_text (refusals.NoRound round) = number_line (codes "no round") (round ∷ [])
refusal_text (refusals.NoPlan round) = number_line (codes "no plan") (round ∷ [])
refusal_text (refusals.AlreadyPosted round) = number_line (codes "no already-posted") (round ∷ [])
refusal_text (refusals.WrongSnapshot round) = number_line (codes "no wrong-snapshot") (round ∷ [])
refusal_text (refusals.NoEntry entry) = number_line (codes "no entry") (entry ∷ [])
refusal_text (refusals.Moved pinned now) = number_line (codes "no moved") (pinned ∷ now ∷ [])
refusal_text (refusals.AlreadyCounted verdict) = lines.line (codes "no already-counted" ∷ verdict_word verdict ∷ [])
refusal_text refusals.NotSent = codes "no not-sent\n"
refusal_text refusals.RoundsFull = codes "no rounds-full\n"
refusal_text (refusals.Rule fault) = fault_text fault

-- No line asks for a network or posts a plan alone, so these replies have no text.
abbrev pub reply_text : ℕ → ℕ → Reply → List ℕ
reply_text round entry (replies.Changed version) = number_line (codes "version") (version ∷ [])
reply_text round entry (replies.Opened opened version) = number_line (codes "opened") (opened ∷ version ∷ [])
reply_text round entry (replies.Pinned version net) = []
reply_text round entry (replies.Posted entries) = []
reply_text round entry replies.Departed = number_line (codes "departed") (round ∷ entry ∷ [])
reply_text round entry (replies.Counted verdict) = lines.line (codes "counted" ∷ decimal round ∷ decimal entry ∷ verdict_word verdict ∷ [])
reply_text round entry (replies.Located report) = report_line (codes "found") round report
reply_text round entry (replies.Closed report) = report_line (codes "closed") round report
reply_text round entry (replies.Now version) = number_line (codes "current") (version ∷ [])
reply_text round entry (replies.Refused refusal) = refusal_text refusal
reply_text round entry replies.NoMemory = codes "no memory\n"
reply_text round entry replies.Unkept = codes "no journal\n"

abbrev pub planned_text : ℕ → ℕ → PlanValue → List ℕ
planned_text round version p = number_line (codes "planned") (round ∷ version ∷ []) ++ plan_text p.net p.hops p.plan

abbrev pub answer_text : ℕ → ℕ → Answer → List ℕ
answer_text round entry (answers.Replied reply) = reply_text round entry reply
answer_text round entry (answers.Planned of version plan) = planned_text of version (arc_value plan)
answer_text round entry (answers.TableFull limit) = number_line (codes "no table-full") (limit ∷ [])
answer_text round entry answers.NoMemory = codes "no memory\n"
answer_text round entry answers.Bye = codes "bye\n"

-- the round that an event names, or 0
abbrev pub event_round : Event → ℕ
event_round (events.Change change) = 0
event_round events.OpenRound = 0
event_round (events.Pin round) = round
event_round (events.Post round plan) = round
event_round (events.Depart round entry) = round
event_round (events.Arrive round entry verdict) = round
event_round (events.Locate round) = round
event_round (events.Close round) = round
event_round events.Current = 0

-- the entry that it names, or 0
abbrev pub event_entry : Event → ℕ
event_entry (events.Depart round entry) = entry
event_entry (events.Arrive round entry verdict) = entry
event_entry _ = 0

abbrev pub text_of : Command → Answer → List ℕ
text_of (commands.Ask event) answer = answer_text (event_round event) (event_entry event) answer
text_of (commands.Plan round) answer = answer_text round 0 answer
text_of commands.Quit answer = answer_text 0 0 answer
text_of commands.Stop answer = answer_text 0 0 answer

abbrev pub bad_line_text : LineFault → List ℕ
bad_line_text line.Words = codes "no bad-line words\n"
bad_line_text line.Number = codes "no bad-line number\n"
bad_line_text line.Letters = codes "no bad-line letters\n"
