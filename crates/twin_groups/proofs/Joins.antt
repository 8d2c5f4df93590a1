-- Pairs of twins and boxes that join others, one box and one twin after another.
use Rattle.std.proofs.Common.{◌≡◌, ◌↔◌, ◌⊎◌, ℕ, ◌+◌, ◌<◌, List, [], ◌∷◌, ◌++◌, length, take, get_or, Some, sym, ap, ◌∙◌, inl, inr, subst, ⊎_elim}
use Rattle.std.specs.Prelude.{slice_get}
use Rattle.std.specs.List.{Contains}
use Rattle.std.proofs.lemmas.List.{take_more}
use Rattle.std.proofs.lemmas.List.Elements.{Contains-append_left, Contains-push, Contains-push_cases}
use Rattle.list_laws.proofs.Members.{Contains-nil}
use Rattle.list_laws.proofs.Places.{take_next}
use Rattle.twin_laws.specs.Shared.{IsTwinBox}

abbrev pub HasBoxes : List (ℕ × ℕ) → List (ℕ × ℕ) → List (ℕ × ℕ) → ℕ → ℕ → List ℕ → Type 0
HasBoxes touched old new first other boxes =
    (terminal box : ℕ) → Contains new (terminal, box) ↔ (Contains old (terminal, box) ⊎ ((terminal ≡ other) × Contains touched (first, box) × Contains boxes box))

pub no_boxes : (touched old : List (ℕ × ℕ)) (first other : ℕ) → HasBoxes touched old old first other []
no_boxes touched old first other terminal box = (λ there. inl there, λ there. ⊎_elim (λ here. here) (λ here. absurd (Contains-nil box here.2)) there)

pub box_more : (touched old new newer : List (ℕ × ℕ)) (first other : ℕ) (boxes : List ℕ) (i at : ℕ) → slice_get boxes i ≡ Some at → HasBoxes touched old new first other (take i boxes)
    → ((terminal box : ℕ) → Contains newer (terminal, box) ↔ (Contains new (terminal, box) ⊎ ((terminal ≡ other) × Contains touched (first, at) × (box ≡ at))))
    → HasBoxes touched old newer first other (take (i + 1) boxes)
box_more touched old new newer first other boxes i at is one two terminal box = (
  (λ there. ⊎_elim
      (λ before. ⊎_elim
      (λ kept. inl kept)
      (λ joined. inr (joined.0, joined.1, subst (λ bs. Contains bs box) (sym took) (Contains-append_left (take i boxes) (at ∷ []) box joined.2)))
      ((one terminal box).0 before))
      (λ here. inr (
        here.0,
        subst (λ b. Contains touched (first, b)) (sym here.2) here.1,
        subst (λ b. Contains (take (i + 1) boxes) b) (sym here.2) (subst (λ bs. Contains bs at) (sym took) (Contains-push (take i boxes) at)),
      ))
      ((two terminal box).0 there)),
  (λ there. (two terminal box).1 (⊎_elim
      (λ kept. inl ((one terminal box).1 (inl kept)))
      (λ joined. ⊎_elim
      (λ earlier. inl ((one terminal box).1 (inr (joined.0, joined.1, earlier))))
      (λ same. inr (joined.0, subst (λ b. Contains touched (first, b)) (sym same) joined.1, sym same))
      (Contains-push_cases (take i boxes) at box (subst (λ bs. Contains bs box) took joined.2)))
      there)),
)
  where
    took : take (i + 1) boxes ≡ take i boxes ++ at ∷ []
    took = take_next boxes i at is

abbrev pub HasTwins : List (ℕ × ℕ) → List (ℕ × ℕ) → List ℕ → List (ℕ × ℕ) → Type 0
HasTwins touched all boxes twins = (terminal box : ℕ) → Contains all (terminal, box) ↔ (Contains touched (terminal, box) ⊎ (IsTwinBox twins touched terminal box × Contains boxes box))

pub no_twins : (touched : List (ℕ × ℕ)) (boxes : List ℕ) → HasTwins touched touched boxes []
no_twins touched boxes terminal box = (λ there. inl there, λ there. ⊎_elim (λ here. here) (λ here. absurd (Contains-nil (here.0.first, terminal) here.0.led)) there)

pub twin_more : (touched all more : List (ℕ × ℕ)) (boxes : List ℕ) (twins : List (ℕ × ℕ)) (i : ℕ) (twin : ℕ × ℕ) → i < length twins → get_or twins i twin ≡ twin
    → HasTwins touched all boxes (take i twins) → HasBoxes touched all more twin.0 twin.1 boxes → HasTwins touched more boxes (take (i + 1) twins)
twin_more touched all more boxes twins i twin inside at one two terminal box = (
  (λ there. ⊎_elim
      (λ before. ⊎_elim
      (λ kept. inl kept)
      (λ joined. inr (record { first = joined.0.first; led = subst (λ ts. Contains ts (joined.0.first, terminal)) (sym took) (Contains-append_left (take i twins) (twin ∷ []) (joined.0.first, terminal) joined.0.led); comes = joined.0.comes }, joined.1))
      ((one terminal box).0 before))
      (λ here.
      let last : Contains (take (i + 1) twins) twin = subst (λ ts. Contains ts twin) (sym took) (Contains-push (take i twins) twin) in
      inr (record { first = twin.0; led = subst (λ s. Contains (take (i + 1) twins) (twin.0, s)) (sym here.0) last; comes = here.1 }, here.2))
      ((two terminal box).0 there)),
  (λ there. (two terminal box).1 (⊎_elim
      (λ kept. inl ((one terminal box).1 (inl kept)))
      (λ joined. ⊎_elim
      (λ earlier. inl ((one terminal box).1 (inr (record { first = joined.0.first; led = earlier; comes = joined.0.comes }, joined.1))))
      (λ (same : twin ≡ (joined.0.first, terminal)).
      inr (sym (ap (λ (p : ℕ × ℕ). p.1) same), subst (λ s. Contains touched (s, box)) (sym (ap (λ (p : ℕ × ℕ). p.0) same)) joined.0.comes, joined.1))
      (Contains-push_cases (take i twins) twin (joined.0.first, terminal) (subst (λ ts. Contains ts (joined.0.first, terminal)) took joined.0.led)))
      there)),
)
  where
    took : take (i + 1) twins ≡ take i twins ++ twin ∷ []
    took = take_more twins i twin inside ∙ ap (λ t. take i twins ++ t ∷ []) at
