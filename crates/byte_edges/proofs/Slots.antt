-- The lines that were given back, where one more slot stands at the end.
use Rattle.std.proofs.Common.{◌≡◌, ◌-◌, List, [], ◌∷◌, ◌++◌, Option, None, Some, length, take, refl, ap, arith, length-append}
use Rattle.std.proofs.Math.Seq.{take-append_seam}
use Rattle.byte_edges.specs.InMemory.{LineInMemory, given_back}

pub empty_slot : (slots : List (Option LineInMemory)) → given_back (slots ++ None ∷ []) ≡ given_back slots
empty_slot [] = refl
empty_slot (None ∷ slots) = empty_slot slots
empty_slot (Some line ∷ slots) = ap (λ (lines : List LineInMemory). line ∷ lines) (empty_slot slots)

pub filled_slot : (slots : List (Option LineInMemory)) (last : LineInMemory) → given_back (slots ++ Some last ∷ []) ≡ given_back slots ++ last ∷ []
filled_slot [] last = refl
filled_slot (None ∷ slots) last = filled_slot slots last
filled_slot (Some line ∷ slots) last = ap (λ (lines : List LineInMemory). line ∷ lines) (filled_slot slots last)

-- all slots but the last, which is empty
pub front_of : (slots before : List (Option LineInMemory)) → slots ≡ before ++ None ∷ [] → take (length slots - 1) slots ≡ before
front_of slots before is =
    let seam : take (length before) (before ++ None ∷ []) ≡ before = take-append_seam before (None ∷ []) in
    let shorter : length before ≡ length (before ++ None ∷ []) - 1 = omega (arith, length-append before (None ∷ [])) in
    rw is (rw shorter at seam)

-- the last slot filled
pub refilled_slot : (slots before : List (Option LineInMemory)) (last : LineInMemory) → slots ≡ before ++ None ∷ [] → given_back (take (length slots - 1) slots ++ Some last ∷ []) ≡ given_back slots ++ last ∷ []
refilled_slot slots before last is =
    let same : given_back slots ≡ given_back before = rw is (empty_slot before) in
    rw (front_of slots before is, same) (filled_slot before last)
