-- What a rewrite makes of the headers of a set, and which patterns it can't come to.
use Rattle.std.proofs.Common.{◌≡◌, ℕ, true, false, ◌&&◌, ◌||◌, ◌⊎◌, inl, inr, List, [], ◌∷◌, ◌++◌, length, Some, refl, sym, ◌∙◌}
use Rattle.std.specs.Prelude.{slice_get}
use Rattle.std.specs.List.{Contains}
use Rattle.std.proofs.lemmas.Bool.{and_from, or_cases, cases_Bool, false≢true, true≢false}
use Rattle.std.proofs.lemmas.List.Folds.{list_any-append}
use Rattle.network_model.specs.Bits.{Header, Pattern, matches}
use Rattle.network_model.specs.Rewrites.{Rewrite, rewritten}
use Rattle.ternary_bits.specs.Pieces.{meets}
use Rattle.ternary_bits.proofs.Meeting.{apart}
use Rattle.pattern_index.specs.Hulls.{IsWithin}
use Rattle.pattern_index.specs.Trees.{AddsAll}
use Rattle.header_sets.specs.Spaces.{SpaceValue, any_matches, holds}
use Rattle.header_sets.proofs.Halving.{covers}

pub within_has : (p hull : Pattern) → IsWithin p hull → (h : Header) → matches p h ≡ true → matches hull h ≡ true
within_has p hull is = covers p hull is.meeting is.asked

-- no header of the hulls, rewritten so far, matches the pattern
abbrev pub Misses : List Pattern → Rewrite → Pattern → Type 0
Misses hulls rewrite pattern = (h : Header) → length h ≡ length rewrite → any_matches hulls h ≡ true → matches pattern (rewritten rewrite h) ≡ false

-- the places are there of all patterns that headers of the hulls may come to
abbrev pub Reaches : List Pattern → Rewrite → List Pattern → List ℕ → Type 0
Reaches hulls rewrite patterns places = (place : ℕ) (pattern : Pattern) → slice_get patterns place ≡ Some pattern → Contains places place ⊎ Misses hulls rewrite pattern

pub reaches_none : (rewrite : Rewrite) (patterns : List Pattern) (places : List ℕ) → Reaches [] rewrite patterns places
reaches_none rewrite patterns places place pattern at = inr (λ h width e. absurd (false≢true e))

-- the image has what the rewrite makes of each header of the hull
abbrev pub IsImage : Pattern → Rewrite → Pattern → Type 0
IsImage hull rewrite image = (h : Header) → length h ≡ length rewrite → matches hull h ≡ true → matches image (rewritten rewrite h) ≡ true

misses_more : (hulls : List Pattern) (rewrite : Rewrite) (hull image pattern : Pattern) → IsImage hull rewrite image → Misses hulls rewrite pattern → meets pattern image ≡ false → Misses (hulls ++ hull ∷ []) rewrite pattern
misses_more hulls rewrite hull image pattern has so_far apart_so h width e =
    elim (or_cases (any_matches hulls h) (matches hull h || false) (sym (list_any-append (λ p. matches p h) hulls (hull ∷ [])) ∙ e)) as (λ _. matches pattern (rewritten rewrite h) ≡ false) [
      | inl before ↦ so_far h width before
      | inr here ↦ elim (or_cases (matches hull h) false here) as (λ _. matches pattern (rewritten rewrite h) ≡ false) [
        | inl own ↦ elim (cases_Bool (matches pattern (rewritten rewrite h))) [
          | inl takes ↦ absurd (true≢false (
              sym (and_from (matches pattern (rewritten rewrite h)) (matches image (rewritten rewrite h)) takes (has h width own))
              ∙ apart pattern image apart_so (rewritten rewrite h)))
          | inr fails ↦ fails
        ]
        | inr none ↦ absurd (false≢true none)
      ]
    ]

-- one more hull
pub reaches_more : (hulls : List Pattern) (rewrite : Rewrite) (patterns : List Pattern) (places : List ℕ) → Reaches hulls rewrite patterns places → (hull image : Pattern) → IsImage hull rewrite image
    → (more : List ℕ) → AddsAll patterns image places more → Reaches (hulls ++ hull ∷ []) rewrite patterns more
reaches_more hulls rewrite patterns places so_far hull image has more added place pattern at = elim (so_far place pattern at) [
  | inl there ↦ inl (added.kept place there)
  | inr misses ↦ elim (cases_Bool (meets pattern image)) [
    | inl meeting ↦ inl (added.every place pattern at meeting)
    | inr apart_so ↦ inr (misses_more hulls rewrite hull image pattern has misses apart_so)
  ]
]

-- a pattern that all hulls of a set miss takes none of its headers
pub none_taken : (space : SpaceValue) (hulls : List Pattern) (rewrite : Rewrite) (pattern : Pattern) → ((h : Header) → holds space h ≡ true → length h ≡ length rewrite)
    → ((h : Header) → holds space h ≡ true → any_matches hulls h ≡ true) → Misses hulls rewrite pattern → (h : Header) → (holds space h && matches pattern (rewritten rewrite h)) ≡ false
none_taken space hulls rewrite pattern wide has misses h = elim (cases_Bool (holds space h)) [
  | inl held ↦ rw (held, misses h (wide h held) (has h held)) refl
  | inr out ↦ rw out refl
]
