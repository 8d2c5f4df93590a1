-- Bytes that a sink took, piece by piece.
use Rattle.std.proofs.Common.{◌≡◌, ℕ, ◌+◌, List, ◌++◌, take, drop, Option, None, Some, refl, ap, arith, ◌∙◌, append_assoc}
use Rattle.std.proofs.lemmas.Grind.{common_steps}
use Rattle.std.proofs.lemmas.List.{take-append-drop, drop-take}
use Rattle.byte_edges.specs.Writing.{Took}

-- of no bytes
pub took_none : (before : Option (List ℕ)) (bytes : List ℕ) → Took before before (take 0 bytes)
took_none None bytes = refl
took_none (Some taken) bytes = ap (λ (xs : List ℕ). Some xs) (grind (arith, common_steps))

next_piece : (bytes : List ℕ) (written n : ℕ) → take written bytes ++ take n (drop written bytes) ≡ take (written + n) bytes
next_piece bytes written n =
    let shorter : take written (take (written + n) bytes) ≡ take written bytes = grind (arith, common_steps) in
    let parts : take written (take (written + n) bytes) ++ drop written (take (written + n) bytes) ≡ take (written + n) bytes = take-append-drop written (take (written + n) bytes) in
    rw (shorter, drop-take written n bytes) at parts

-- of the first bytes, and then of some of those behind them
pub took_more : (before between after : Option (List ℕ)) (bytes : List ℕ) (written n : ℕ) → Took before between (take written bytes) → Took between after (take n (drop written bytes)) → Took before after (take (written + n) bytes)
took_more None between after bytes written n first second = rw first at second
took_more (Some taken) between after bytes written n first second =
    let both : after ≡ Some ((taken ++ take written bytes) ++ take n (drop written bytes)) = rw first at second in
    both ∙ ap (λ (xs : List ℕ). Some xs) (append_assoc taken (take written bytes) (take n (drop written bytes)) ∙ ap (λ (xs : List ℕ). taken ++ xs) (next_piece bytes written n))
