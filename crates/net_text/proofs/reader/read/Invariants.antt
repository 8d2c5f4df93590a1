use Rattle.std.proofs.Common.{◌≡◌, ◌+◌, ◌≤◌, None, length}
use Rattle.std.specs.Option.{option_map}
use Rattle.text_words.specs.Words.{lines_of}
use Rattle.net_text.specs.Building.{built_from}
use Rattle.net_text.specs.Lines.{lines_left, most_left}
use Rattle.net_text.proofs.reader.read.Given as goal

abbrev pub invariant-loop-left : goal.invariant-loop-left
invariant-loop-left l = record {
  counted : l.number + most_left (option_map (λ rest. rest.now) l.left) ≤ length l.bytes + 1;
  rest : built_from (lines_of l.bytes) 1 None ≡ built_from (lines_left (option_map (λ rest. rest.now) l.left)) (l.number + 1) l.text;
}

abbrev pub decreases-loop-left : goal.decreases-loop-left
decreases-loop-left l = most_left (option_map (λ rest. rest.now) l.left)
