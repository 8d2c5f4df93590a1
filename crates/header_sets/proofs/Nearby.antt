-- The patterns of a list that meet one: no other of the list matches a header of it.
use Rattle.std.proofs.Common.{◌≡◌, ◌∙◌, ◌<◌, ℕ, zero, suc, Bool, true, false, not, ◌&&◌, inl, inr, List, [], ◌∷◌, get_or, length, Option, Some, None, refl, sym, ap, subst, arith}
use Rattle.std.specs.Prelude.{slice_get}
use Rattle.std.specs.Option.{IfSome}
use Rattle.std.specs.List.{All, Contains}
use Rattle.std.proofs.lemmas.Bool.{and_from, or_cases, or_left, or_right, cases_Bool, false≢true, true≢false}
use Rattle.std.proofs.lemmas.Option.{slice_get_within, get_or_from_slice_get}
use Rattle.network_model.specs.Bits.{Header, Pattern, matches}
use Rattle.ternary_bits.specs.Pieces.{meets}
use Rattle.ternary_bits.proofs.Meeting.{apart}
use Rattle.pattern_index.specs.Trees.{AddsAll}
use Rattle.header_sets.specs.Spaces.{any_matches}

any_at : (ps : List Pattern) (i : ℕ) (p : Pattern) (h : Header) → i < length ps → matches (get_or ps i p) h ≡ true → any_matches ps h ≡ true
any_at [] i p h inside e = absurd (omega arith)
any_at (q ∷ ps) zero p h inside e = or_left (matches q h) (any_matches ps h) e
any_at (q ∷ ps) (suc i) p h inside e = or_right (matches q h) (any_matches ps h) (any_at ps i p h (omega arith) e)

any_from : (ps : List Pattern) (p : Pattern) (h : Header) → Contains ps p → matches p h ≡ true → any_matches ps h ≡ true
any_from ps p h (i, inside, at) e = any_at ps i p h inside (ap (λ (q : Pattern). matches q h) at ∙ e)

any_found : (ps : List Pattern) (h : Header) → any_matches ps h ≡ true → (k : ℕ) × (p : Pattern) × (slice_get ps k ≡ Some p) × (matches p h ≡ true)
any_found [] h e = absurd (false≢true e)
any_found (p ∷ ps) h e = elim (or_cases (matches p h) (any_matches ps h) e) [
  | inl here ↦ (zero, p, refl, here)
  | inr below ↦ let (k, q, at, takes) = any_found ps h below in (suc k, q, at, takes)
]

-- those found among the patterns that meet one match the same of its headers as all together
pub near_match : (pattern : Pattern) (without near : List Pattern) (old places : List ℕ) → AddsAll without pattern old places → All (λ (p : Pattern). Contains without p) near
    → ((place : ℕ) (p : Pattern) → Contains places place → slice_get without place ≡ Some p → Contains near p) → (h : Header) → matches pattern h ≡ true → any_matches near h ≡ any_matches without h
near_match pattern without near old places added listed every h here = elim (cases_Bool (any_matches without h)) [
  | inl taken ↦
      let (k, p, at, takes) = any_found without h taken in
      let meeting : meets p pattern ≡ true = elim (cases_Bool (meets p pattern)) [
        | inl meeting ↦ meeting
        | inr none ↦ absurd (true≢false (sym (and_from (matches p h) (matches pattern h) takes here) ∙ apart p pattern none h))
      ] in
      any_from near p h (every k p (added.every k p at meeting) at) takes ∙ sym taken
  | inr free ↦ elim (cases_Bool (any_matches near h)) [
    | inl some ↦
        let (k, p, at, takes) = any_found near h some in
        let there : Contains without p = subst (λ (q : Pattern). Contains without q) (get_or_from_slice_get near k p p at) (listed k p (slice_get_within near k p at)) in
        absurd (true≢false (sym (any_from without p h there takes) ∙ free))
    | inr none ↦ none ∙ sym free
  ]
]

-- ---- a piece that is cut down by those near

pub cut_down : (m a b n w o : Bool) → m ≡ (a && b) → (m ≡ true → n ≡ w) → ((m && not n) && not o) ≡ ((a && not w) && (b && not o))
cut_down m true true n w o e same = let near : n ≡ w = same e in rw (e, near) refl
cut_down m true false n true o e same = rw e refl
cut_down m true false n false o e same = rw e refl
cut_down m false b n w o e same = rw e refl

pub some_weaker : {X : Type 0} (found : Option X) (P Q : X → Type 0) → ((x : X) → P x → Q x) → IfSome found P → IfSome found Q
some_weaker None P Q weaker is = is
some_weaker (Some x) P Q weaker is = weaker x is
