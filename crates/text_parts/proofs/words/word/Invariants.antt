use Rattle.std.proofs.Common.{◌≡◌, ◌==◌, ◌≤◌, length}
use Rattle.std.specs.List.{before_first, slice_split}
use Rattle.text_words.specs.Words.{is_blank}
use Rattle.text_parts.proofs.LineWords.{words_before}
use Rattle.text_parts.proofs.words.word.Given as goal

abbrev pub invariant-loop-part : goal.invariant-loop-part
invariant-loop-part l = record {
  count : l.before ≡ words_before (slice_split is_blank (before_first (λ b. b == 35) l.line)) (length l.yielded);
  few : l.before ≤ l.place;
}
