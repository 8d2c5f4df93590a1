-- Pairs of one terminal and some boxes that join others.
use Rattle.std.proofs.Common.{◌≡◌, ◌↔◌, ◌⊎◌, ℕ, ◌+◌, ◌<◌, List, [], ◌∷◌, ◌++◌, length, take, get_or, sym, ap, ◌∙◌, inl, inr, subst, ⊎_elim}
use Rattle.std.specs.List.{Contains}
use Rattle.std.proofs.lemmas.List.{take_more}
use Rattle.std.proofs.lemmas.List.Elements.{Contains-append_left, Contains-push, Contains-push_cases}
use Rattle.list_laws.proofs.Members.{Contains-nil}

abbrev pub HasJoined : List (ℕ × ℕ) → List (ℕ × ℕ) → ℕ → List ℕ → Type 0
HasJoined old new start boxes = (terminal box : ℕ) → Contains new (terminal, box) ↔ (Contains old (terminal, box) ⊎ ((terminal ≡ start) × Contains boxes box))

pub none_joined : (old : List (ℕ × ℕ)) (start : ℕ) → HasJoined old old start []
none_joined old start terminal box = (λ there. inl there, λ there. ⊎_elim (λ here. here) (λ here. absurd (Contains-nil box here.1)) there)

pub more_joined : (old new newer : List (ℕ × ℕ)) (start : ℕ) (boxes : List ℕ) (i at : ℕ) → i < length boxes → get_or boxes i at ≡ at → HasJoined old new start (take i boxes)
    → ((terminal box : ℕ) → Contains newer (terminal, box) ↔ (Contains new (terminal, box) ⊎ ((terminal ≡ start) × (box ≡ at))))
    → HasJoined old newer start (take (i + 1) boxes)
more_joined old new newer start boxes i at inside own one two terminal box = (
  (λ there. ⊎_elim
      (λ before. ⊎_elim
      (λ first. inl first)
      (λ joined. inr (joined.0, subst (λ bs. Contains bs box) (sym took) (Contains-append_left (take i boxes) (at ∷ []) box joined.1)))
      ((one terminal box).0 before))
      (λ here. inr (here.0, subst (λ b. Contains (take (i + 1) boxes) b) (sym here.1) (subst (λ bs. Contains bs at) (sym took) (Contains-push (take i boxes) at))))
      ((two terminal box).0 there)),
  (λ there. (two terminal box).1 (⊎_elim
      (λ first. inl ((one terminal box).1 (inl first)))
      (λ joined. ⊎_elim
      (λ earlier. inl ((one terminal box).1 (inr (joined.0, earlier))))
      (λ same. inr (joined.0, sym same))
      (Contains-push_cases (take i boxes) at box (subst (λ bs. Contains bs box) took joined.1)))
      there)),
)
  where
    took : take (i + 1) boxes ≡ take i boxes ++ at ∷ []
    took = take_more boxes i at inside ∙ ap (λ b. take i boxes ++ b ∷ []) own
