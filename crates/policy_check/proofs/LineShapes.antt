-- Lines of so many words.
use Rattle.std.proofs.Common.{◌≡◌, List, [], ◌∷◌, drop, Some, None, refl}
use Rattle.std.specs.List.{slice_get}

pub first_word : {X : Type 0} (ws : List X) (a : X) → Some a ≡ slice_get ws 0 → ws ≡ a ∷ drop 1 ws
first_word [] a e = cc
first_word (w ∷ ws) a e = cc

pub no_word : {X : Type 0} (ws : List X) → None ≡ slice_get ws 0 → ws ≡ []
no_word [] e = refl
no_word {X} (w ∷ ws) e = let wrong : None ≡ Some w = e in cc

pub three_words : {X : Type 0} (ws : List X) (a b c : X) → Some a ≡ slice_get ws 1 → Some b ≡ slice_get ws 2 → Some c ≡ slice_get ws 3 → None ≡ slice_get ws 4
    → drop 1 ws ≡ a ∷ b ∷ c ∷ []
three_words [] a b c ea eb ec none = cc
three_words (v ∷ []) a b c ea eb ec none = cc
three_words (v ∷ w ∷ []) a b c ea eb ec none = cc
three_words (v ∷ w ∷ x ∷ []) a b c ea eb ec none = cc
three_words (v ∷ w ∷ x ∷ y ∷ []) a b c ea eb ec none = cc
three_words (v ∷ w ∷ x ∷ y ∷ z ∷ ws) a b c ea eb ec none = cc

pub four_words : {X : Type 0} (ws : List X) (a b c d : X) → Some a ≡ slice_get ws 1 → Some b ≡ slice_get ws 2 → Some c ≡ slice_get ws 3 → Some d ≡ slice_get ws 4
    → None ≡ slice_get ws 5 → drop 1 ws ≡ a ∷ b ∷ c ∷ d ∷ []
four_words [] a b c d ea eb ec ed none = cc
four_words (u ∷ []) a b c d ea eb ec ed none = cc
four_words (u ∷ v ∷ []) a b c d ea eb ec ed none = cc
four_words (u ∷ v ∷ w ∷ []) a b c d ea eb ec ed none = cc
four_words (u ∷ v ∷ w ∷ x ∷ []) a b c d ea eb ec ed none = cc
four_words (u ∷ v ∷ w ∷ x ∷ y ∷ []) a b c d ea eb ec ed none = cc
four_words (u ∷ v ∷ w ∷ x ∷ y ∷ z ∷ ws) a b c d ea eb ec ed none = cc
