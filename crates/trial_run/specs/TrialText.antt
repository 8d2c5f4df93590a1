-- The text of a trial, version 1.
--     verdict_word    the word of a verdict
--     sent_line       the line of a packet that was sent
--     list_line       a line of a word and a list of numbers
--     trial_lines     a line for each packet in the order sent; the suspects; the guilty rules; how many packets were sent, and
--                     how many of them failed
--     trial_text      the text of the plan, and then these lines
use Rattle.std.specs.Prelude.{ℕ, List, [], ◌∷◌, ◌++◌, length, codes}
use Rattle.std.specs.List.{flat_map}
use Rattle.std.specs.Fmt.{decimal}
use Rattle.network_model.specs.Network.{Network}
use Rattle.network_model.specs.Plan.{Plan}
use Rattle.fault_model.specs.Outcomes.{Verdict, Pass, Fail, Outcome, failed}
use Rattle.plan_text.specs.PlanText.{plan_text}
use Rattle.text_lines.specs.Lines.{line, number_line, number_list}

abbrev pub verdict_word : Verdict → List ℕ
verdict_word Pass = codes "pass"
verdict_word Fail = codes "fail"

abbrev pub sent_line : Outcome → List ℕ
sent_line o = line (codes "sent" ∷ decimal o.entry ∷ verdict_word o.verdict ∷ [])

abbrev pub list_line : List ℕ → List ℕ → List ℕ
list_line name numbers = line (name ∷ number_list numbers ∷ [])

abbrev pub done_line : List Outcome → List ℕ
done_line outcomes = number_line (codes "done") (length outcomes ∷ length (failed outcomes) ∷ [])

abbrev pub trial_lines : List Outcome → List ℕ → List ℕ → List ℕ
trial_lines outcomes suspects guilty =
    flat_map sent_line outcomes ++ (list_line (codes "suspects") suspects ++ (list_line (codes "guilty") guilty ++ done_line outcomes))

abbrev pub trial_text : Network → ℕ → Plan → List Outcome → List ℕ → List ℕ → List ℕ
trial_text net hops plan outcomes suspects guilty = plan_text net hops plan ++ trial_lines outcomes suspects guilty
