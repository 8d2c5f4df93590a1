use Rattle.std.proofs.Common.{◌≡◌, ◌++◌, drop}
use Rattle.std.specs.List.{flat_map}
use Rattle.trial_run.specs.Trial.{outcomes_of}
use Rattle.trial_run.specs.TrialText.{sent_line}
use Rattle.trial_run.proofs.printing.put_sent_lines.Given as goal

-- with the lines of the packets that are left, the text has them all
abbrev pub invariant-loop-entry : goal.invariant-loop-entry
invariant-loop-entry l = l.text.items ++ flat_map sent_line (outcomes_of (drop l.entry-index l.sent)) ≡ l.fn.text.items ++ flat_map sent_line (outcomes_of l.sent)
