-- Whether a box is among those of a list.
use Rattle.std.proofs.Common.{◌≡◌, ℕ, zero, suc, ◌+◌, ◌<◌, true, false, ◌||◌, List, [], ◌∷◌, length, take, get_or, Some, eqb, sym, ap, ◌∙◌, arith}
use Rattle.std.specs.List.{list_any, slice_get}
use Rattle.std.proofs.lemmas.Bool.{or_right, ne_eqb}
use Rattle.std.proofs.lemmas.Bool.Decides.{nat_tests}
use Rattle.std.proofs.lemmas.List.Folds.{list_any_more}
use Rattle.std.proofs.lemmas.Option.{get_or_from_slice_get}

pub box_there : (boxes : List ℕ) (place asked : ℕ) → Some asked ≡ slice_get boxes place → list_any (eqb asked) boxes ≡ true
box_there [] place asked e = cc
box_there (b ∷ bs) zero asked e =
    let same : b ≡ asked = cc in
    let here : eqb asked b ≡ true = grind (arith, nat_tests, same) in
    ap (λ t. t || list_any (eqb asked) bs) here
box_there (b ∷ bs) (suc place) asked e = or_right (eqb asked b) (list_any (eqb asked) bs) (box_there bs place asked e)

pub box_not_yet : (boxes : List ℕ) (place asked at : ℕ) → place < length boxes → Some at ≡ slice_get boxes place → (at ≡ asked → ⊥)
    → list_any (eqb asked) (take place boxes) ≡ false → list_any (eqb asked) (take (place + 1) boxes) ≡ false
box_not_yet boxes place asked at inside here other before =
    let own : get_or boxes place 0 ≡ at = get_or_from_slice_get boxes place at 0 (sym here) in
    let apart : eqb asked (get_or boxes place 0) ≡ false = ap (eqb asked) own ∙ ne_eqb asked at (λ e. other (sym e)) in
    list_any_more (eqb asked) boxes place 0 inside ∙ (ap (λ t. t || eqb asked (get_or boxes place 0)) before ∙ apart)
