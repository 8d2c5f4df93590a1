-- Bytes that a source gave, piece by piece.
use Rattle.std.proofs.Common.{◌≡◌, ℕ, ◌+◌, List, [], ◌++◌, length, Option, None, Some, refl, sym, ap, arith, ◌∙◌, append_assoc, length-append}
use Rattle.std.specs.Io.KnownBytes.{prepend_known}
use Rattle.byte_edges.specs.Counts.{raised}
use Rattle.byte_edges.specs.Reading.{Gave}

prepend_none : (told : Option (List ℕ)) → told ≡ prepend_known [] told
prepend_none None = refl
prepend_none (Some bytes) = refl

prepend_both : (xs ys : List ℕ) (told : Option (List ℕ)) → prepend_known xs (prepend_known ys told) ≡ prepend_known (xs ++ ys) told
prepend_both xs ys None = refl
prepend_both xs ys (Some rest) = ap (λ (bytes : List ℕ). Some bytes) (sym (append_assoc xs ys rest))

pub raised_none : (count : ℕ) → count ≡ raised count 0
raised_none count = omega arith

pub raised_both : (count m n : ℕ) → raised (raised count m) n ≡ raised count (m + n)
raised_both count m n = omega arith

module _ {S : Type 0} (left : S → Option (List ℕ)) (given : S → ℕ) where
  -- no bytes, where nothing was read
  pub gave_none : (source : S) → Gave left given source source []
  gave_none source = record { front = prepend_none (left source); counted = raised_none (given source) }

  -- some bytes, and then more
  pub gave_both : (before between after : S) (xs ys : List ℕ) → Gave left given before between xs → Gave left given between after ys → Gave left given before after (xs ++ ys)
  gave_both before between after xs ys first second = record {
    front = first.front ∙ ap (λ (told : Option (List ℕ)). prepend_known xs told) second.front ∙ prepend_both xs ys (left after);
    counted = second.counted ∙ ap (λ (count : ℕ). raised count (length ys)) first.counted ∙ raised_both (given before) (length xs) (length ys) ∙ ap (λ (n : ℕ). raised (given before) n) (sym (length-append xs ys));
  }
