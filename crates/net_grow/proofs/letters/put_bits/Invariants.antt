use Rattle.std.proofs.Common.{◌≡◌, ℕ, ◌-◌, ◌<◌, length, get_or}
use Rattle.ternary_bits.specs.Letters.{bit_letter}
use Rattle.ternary_bits.specs.Words.{is_one}
use Rattle.net_grow.proofs.letters.put_bits.Given as goal

abbrev pub invariant-loop-place : goal.invariant-loop-place
invariant-loop-place l =
    record {
      count : l.count ≡ length l.letters;
      written : (k : ℕ) → k < l.place → get_or l.letters k 0 ≡ bit_letter (is_one l.word (l.count - 1 - k));
    }
