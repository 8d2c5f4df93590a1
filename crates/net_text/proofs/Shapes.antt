-- Slices of words with so many words.
use Rattle.std.proofs.Common.{◌≡◌, ◌<◌, ◌≤◌, List, [], ◌∷◌, length, get_or, drop, refl, arith}

pub two_words : {X : Type 0} (ws : List X) (d : X) → 2 ≤ length ws → length ws < 3 → ws ≡ get_or ws 0 d ∷ get_or ws 1 d ∷ []
two_words [] d h k = absurd (omega arith)
two_words (a ∷ []) d h k = absurd (omega arith)
two_words (a ∷ b ∷ []) d h k = refl
two_words (a ∷ b ∷ c ∷ ws) d h k = absurd (omega arith)

pub three_words : {X : Type 0} (ws : List X) (d : X) → 3 ≤ length ws → length ws < 4 → ws ≡ get_or ws 0 d ∷ get_or ws 1 d ∷ get_or ws 2 d ∷ []
three_words [] d h k = absurd (omega arith)
three_words (a ∷ []) d h k = absurd (omega arith)
three_words (a ∷ b ∷ []) d h k = absurd (omega arith)
three_words (a ∷ b ∷ c ∷ []) d h k = refl
three_words (a ∷ b ∷ c ∷ e ∷ ws) d h k = absurd (omega arith)

pub six_words : {X : Type 0} (ws : List X) (d : X) → 6 ≤ length ws
    → ws ≡ get_or ws 0 d ∷ get_or ws 1 d ∷ get_or ws 2 d ∷ get_or ws 3 d ∷ get_or ws 4 d ∷ get_or ws 5 d ∷ drop 6 ws
six_words [] d h = absurd (omega arith)
six_words (a ∷ []) d h = absurd (omega arith)
six_words (a ∷ b ∷ []) d h = absurd (omega arith)
six_words (a ∷ b ∷ c ∷ []) d h = absurd (omega arith)
six_words (a ∷ b ∷ c ∷ e ∷ []) d h = absurd (omega arith)
six_words (a ∷ b ∷ c ∷ e ∷ f ∷ []) d h = absurd (omega arith)
six_words (a ∷ b ∷ c ∷ e ∷ f ∷ g ∷ ws) d h = refl
