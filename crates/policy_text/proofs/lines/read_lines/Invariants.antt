use Rattle.std.proofs.Common.{◌≡◌, ◌+◌, length, drop}
use Rattle.std.specs.Prelude.{All}
use Rattle.text_words.specs.Words.{lines_of}
use Rattle.policy_text.specs.Lines.{policies_from}
use Rattle.policy_text.proofs.Readings.{behind}
use Rattle.policy_text.proofs.lines.read_lines.Given as goal

abbrev pub invariant-loop-line : goal.invariant-loop-line
invariant-loop-line l = record {
  counted : l.number ≡ length l.yielded;
  so_far : policies_from l.net (lines_of l.part) 1 ≡ behind l.policies.items (policies_from l.net (drop l.number (lines_of l.part)) (l.number + 1));
  widths : All (λ policy. length policy.pattern ≡ l.net.width) l.policies.items;
}
