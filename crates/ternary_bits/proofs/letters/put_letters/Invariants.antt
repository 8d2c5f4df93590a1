use Rattle.std.proofs.Common.{◌≡◌, length, map, take}
use Rattle.ternary_bits.specs.Places.{place_text}
use Rattle.ternary_bits.proofs.letters.put_letters.Given as goal

abbrev pub invariant-loop-before : goal.invariant-loop-before
invariant-loop-before l =
    record {
      width : l.bits ≡ length l.pattern;
      size : length l.letters ≡ 128;
      written : take l.before l.letters ≡ take l.before (map (place_text l.blank) l.pattern);
    }
