-- Rewrites that keep each bit, and so stand in no text.
use Rattle.std.proofs.Common.{◌≡◌, ℕ, zero, suc, ◌+◌, Bool, true, false, ◌&&◌, [], ◌∷◌, map, length, IsTrue, ◌↔◌, refl, sym, ap, ◌∙◌, eqb, inl, inr}
use Rattle.std.specs.List.{range_with_len}
use Rattle.std.proofs.lemmas.Bool.{eqb-true, eq-eqb, and_parts, cases_Bool, false≢true}
use Rattle.network_model.specs.Rewrites.{Rewrite, Set, Old, kept}
use Rattle.net_text.specs.Printing.{keeps_from}

keeps-kept : (place n : ℕ) → keeps_from place (map Old (range_with_len place n)) ≡ true
keeps-kept place zero = refl
keeps-kept place (suc n) = ap (λ b. b && keeps_from (place + 1) (map Old (range_with_len (place + 1) n))) (eq-eqb place place refl) ∙ keeps-kept (place + 1) n

kept-from : (place : ℕ) (moves : Rewrite) → keeps_from place moves ≡ true → moves ≡ map Old (range_with_len place (length moves))
kept-from place [] h = refl
kept-from place (Set bit ∷ moves) h = absurd (false≢true h)
kept-from place (Old old ∷ moves) h =
    let parts = and_parts (eqb old place) (keeps_from (place + 1) moves) h in
    let here : Old old ≡ Old place = ap Old (eqb-true old place parts.0) in
    let rest = kept-from (place + 1) moves parts.1 in
    cc

pub kept-from-keeps : (moves : Rewrite) → keeps_from 1 moves ≡ true → moves ≡ kept (length moves)
kept-from-keeps moves h = kept-from 1 moves h

pub keeps-same : (same : Bool) (moves : Rewrite) (n : ℕ) → n ≡ length moves → IsTrue same ↔ (moves ≡ kept n) → same ≡ keeps_from 1 moves
keeps-same true moves n width says = sym (ap (keeps_from 1) (says.0 refl) ∙ keeps-kept 1 n)
keeps-same false moves n width says = elim (cases_Bool (keeps_from 1 moves)) [
  | inl keeps ↦ absurd (false≢true (says.1 (kept-from-keeps moves keeps ∙ ap kept (sym width))))
  | inr not ↦ sym not
]
