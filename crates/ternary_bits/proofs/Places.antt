-- Lists that a function of the place gives.
use Rattle.std.proofs.Common.{◌≡◌, ℕ, zero, suc, ◌+◌, ◌-◌, ◌<◌, List, [], ◌∷◌, ◌++◌, length, get_or, replicate, All, refl, sym, ap, subst, ◌∙◌, arith}
use Rattle.std.specs.List.{range_with_len}
use Rattle.std.proofs.lemmas.List.{same_lists, get_or_default}
use Rattle.ternary_bits.specs.Words.{places}
use Rattle.ternary_bits.specs.Inverses.{length-places, places-same, get_or-places}

-- a list as the function that reads it
pub places-of_list : {A : Type 0} (xs : List A) (d : A) → xs ≡ places (λ i. get_or xs (length xs - 1 - i) d) (length xs)
places-of_list xs d =
    same_lists _ _ (sym (length-places _ (length xs))) (λ k e l.
    let at : length xs - 1 - (length xs - 1 - k) ≡ k = omega arith in
    get_or_default xs k e d l ∙ ap (λ i. get_or xs i d) (sym at) ∙ sym (get_or-places (λ i. get_or xs (length xs - 1 - i) d) (length xs) k e l))

pub places-push : {A : Type 0} (f : ℕ → A) (w : ℕ) → places f (suc w) ≡ places (λ i. f (suc i)) w ++ f zero ∷ []
unfolding places
places-push f zero = refl
places-push f (suc w) = ap (λ rest. f (suc w) ∷ rest) (places-push f w)

pub places-replicate : {A : Type 0} (a : A) (w : ℕ) → places (λ _. a) w ≡ replicate w a
unfolding places
places-replicate a zero = refl
places-replicate a (suc w) = ap (λ rest. a ∷ rest) (places-replicate a w)

-- the numbers from a on, as what each place from the highest on gives
pub places-range : (a w : ℕ) → range_with_len a w ≡ places (λ i. a + w - 1 - i) w
unfolding places
places-range a zero = refl
places-range a (suc w) =
    let here : a ≡ a + suc w - 1 - w = omega arith in
    let below : range_with_len (a + 1) w ≡ places (λ i. a + suc w - 1 - i) w =
    places-range (a + 1) w ∙ places-same _ _ w (λ i l. omega arith)
    in
    cc

pub All-places : {A : Type 0} (P : A → Type 0) (f : ℕ → A) (w : ℕ) → ((i : ℕ) → i < w → P (f i)) → All P (places f w)
All-places P f w each k d l =
    let inside : k < w = omega (arith, length-places f w) in
    subst P (sym (get_or-places f w k d inside)) (each (w - 1 - k) (omega arith))
