use Rattle.std.proofs.Common.{◌≡◌, ◌-◌, ◌*◌, ◌^◌, ◌/◌, length, drop}
use Rattle.ternary_bits.specs.Letters.{header_text}
use Rattle.ternary_bits.specs.Words.{header_of}
use Rattle.ternary_bits.proofs.letters.put_bits.Given as goal

-- the last letters are those of so many bytes, and the rest is what stands above them
abbrev pub invariant-loop-bytes : goal.invariant-loop-bytes
invariant-loop-bytes l =
    record {
      size : length l.letters ≡ 128;
      rest : l.rest ≡ l.word / 2 ^ (8 * l.bytes);
      written : drop (128 - 8 * l.bytes) l.letters ≡ header_text (header_of (8 * l.bytes) l.word);
    }
