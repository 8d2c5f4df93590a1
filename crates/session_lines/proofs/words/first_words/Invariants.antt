use Rattle.std.proofs.Common.{◌≡◌, ◌==◌, length, map, take}
use Rattle.std.specs.List.{before_first, slice_split}
use Rattle.text_words.specs.Words.{is_blank}
use Rattle.text_words.proofs.FirstWords.{first_words}
use Rattle.session_lines.proofs.words.first_words.Given as goal

abbrev pub invariant-loop-part : goal.invariant-loop-part
invariant-loop-part l =
    map (λ w. w.now) l.words.items ≡ first_words 9 (take (length l.yielded) (slice_split is_blank (before_first (λ b. b == 35) l.line)))
