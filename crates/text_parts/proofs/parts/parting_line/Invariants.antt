use Rattle.std.proofs.Common.{◌≡◌, false, length, take}
use Rattle.std.specs.List.{list_any}
use Rattle.text_words.specs.Words.{lines_of}
use Rattle.text_parts.specs.Parts.{ended}
use Rattle.text_parts.proofs.Cuts.{parts_at}
use Rattle.text_parts.proofs.parts.parting_line.Given as goal

abbrev pub invariant-loop-line : goal.invariant-loop-line
invariant-loop-line l = record {
  begins : l.start ≡ length (ended (take (length l.yielded) (lines_of l.text)));
  before : list_any (parts_at l.name) (take (length l.yielded) (lines_of l.text)) ≡ false;
}
