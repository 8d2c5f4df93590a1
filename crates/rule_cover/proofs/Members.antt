-- Tests of numbers that tell which are listed.
use Rattle.std.specs.Prelude.{◌≡◌, ℕ, ◌+◌, ◌<◌, Bool, true, false, List, [], ◌∷◌, ◌++◌, length, take, replicate, nat_eq, slice_index_or}
use Rattle.std.specs.List.{list_any}
use Rattle.std.proofs.Common.{sym, ap, ◌∙◌, ⊎_elim, get_or}
use Rattle.std.proofs.lemmas.Bool.{cases_eq}
use Rattle.std.proofs.lemmas.List.{take_more, get_or-replicate}
use Rattle.rule_cover.proofs.PlaceLists.{any_last, any_other}

-- a test of the numbers from 1 up to most tells which are listed
abbrev pub AreFlagged : ℕ → List ℕ → List Bool → Type 0
AreFlagged most listed flags = (i : ℕ) → i < most → slice_index_or flags i false ≡ list_any (nat_eq (i + 1)) listed

pub none_flagged : (most : ℕ) (flags : List Bool) → flags ≡ replicate most false → AreFlagged most [] flags
none_flagged most flags is i inside = ap (λ (fs : List Bool). slice_index_or fs i false) is ∙ get_or-replicate most i false false inside

-- one number more is listed
pub flagged_more : (most : ℕ) (listed : List ℕ) (k number : ℕ) (old new : List Bool) → k < length listed → get_or listed k number ≡ number → AreFlagged most (take k listed) old
    → ((i : ℕ) → i < most → i + 1 ≡ number → slice_index_or new i false ≡ true) → ((i : ℕ) → i < most → (i + 1 ≡ number → ⊥) → slice_index_or new i false ≡ slice_index_or old i false)
    → AreFlagged most (take (k + 1) listed) new
flagged_more most listed k number old new inside at told here others i below =
    ⊎_elim (λ (e : i + 1 ≡ number). here i below e ∙ sym (ap (list_any (nat_eq (i + 1))) more ∙ any_last (take k listed) number (i + 1) e))
    (λ (ne : i + 1 ≡ number → ⊥). others i below ne ∙ (told i below ∙ sym (ap (list_any (nat_eq (i + 1))) more ∙ any_other (take k listed) number (i + 1) ne)))
    (cases_eq (i + 1) number)
  where
    more : take (k + 1) listed ≡ take k listed ++ number ∷ []
    more = take_more listed k number inside ∙ ap (λ n. take k listed ++ n ∷ []) at
