-- The others that a piece is cut down by, one after another, and a set less one pattern.
use Rattle.std.proofs.Common.{◌≡◌, ℕ, zero, suc, ◌+◌, ◌<◌, Bool, true, false, not, ◌&&◌, ◌||◌, List, [], ◌∷◌, ◌++◌, length, get_or, take, replicate, refl, sym, ap, ◌∙◌, arith}
use Rattle.std.proofs.lemmas.Bool.{false≢true}
use Rattle.std.proofs.lemmas.List.Folds.{list_any-append, list_any_more}
use Rattle.network_model.specs.Bits.{Header, Any, Pattern, matches}
use Rattle.ternary_bits.specs.Pieces.{meets}
use Rattle.ternary_bits.proofs.Meeting.{apart}
use Rattle.header_sets.specs.Spaces.{any_matches, is_left}

-- ---- one more of the others is looked at

abbrev pub Pushed : Pattern → List Pattern → List Pattern → List Pattern → Type 0
Pushed pattern before seen kept = (h : Header) → matches pattern h ≡ true → any_matches kept h ≡ (any_matches before h || any_matches seen h)

or_or : (a b m : Bool) → ((a || b) || (m || false)) ≡ (a || (b || m))
or_or true b m = refl
or_or false true m = refl
or_or false false true = refl
or_or false false false = refl

or_none : (a b m : Bool) → m ≡ false → (a || b) ≡ (a || (b || m))
or_none true b m e = refl
or_none false true m e = refl
or_none false false m e = sym e

seen_more : (others : List Pattern) (i : ℕ) (q : Pattern) (h : Header) → i < length others → q ≡ get_or others i q → (any_matches (take i others) h || matches q h) ≡ any_matches (take (i + 1) others) h
seen_more others i q h inside at =
    ap (λ (x : Pattern). any_matches (take i others) h || matches x h) at ∙ sym (list_any_more (λ x. matches x h) others i q inside)

pub pushed_more : (pattern : Pattern) (before others kept : List Pattern) (i : ℕ) (q : Pattern) → i < length others → q ≡ get_or others i q
    → Pushed pattern before (take i others) kept → Pushed pattern before (take (i + 1) others) (kept ++ q ∷ [])
pushed_more pattern before others kept i q inside at so_far h here =
    list_any-append (λ x. matches x h) kept (q ∷ [])
    ∙ ap (λ b. b || (matches q h || false)) (so_far h here)
    ∙ or_or (any_matches before h) (any_matches (take i others) h) (matches q h)
    ∙ ap (λ b. any_matches before h || b) (seen_more others i q h inside at)

other_half : (a b : Bool) → (a && b) ≡ false → a ≡ true → b ≡ false
other_half true b e here = e
other_half false b e here = absurd (false≢true here)

pub pushed_none : (pattern : Pattern) (before others kept : List Pattern) (i : ℕ) (q : Pattern) → i < length others → q ≡ get_or others i q → meets pattern q ≡ false
    → Pushed pattern before (take i others) kept → Pushed pattern before (take (i + 1) others) kept
pushed_none pattern before others kept i q inside at none so_far h here =
    so_far h here
    ∙ or_none (any_matches before h) (any_matches (take i others) h) (matches q h) (other_half (matches pattern h) (matches q h) (apart pattern q none h) here)
    ∙ ap (λ b. any_matches before h || b) (seen_more others i q h inside at)

-- ---- a pattern that all headers match

pub all_match : (w : ℕ) (h : Header) → length h ≡ w → matches (replicate w Any) h ≡ true
all_match zero [] e = refl
all_match zero (b ∷ h) e = absurd (omega arith)
all_match (suc w) [] e = absurd (omega arith)
all_match (suc w) (b ∷ h) e = all_match w h (omega arith)

without_any : (s a m : Bool) → (s ≡ true → a ≡ true) → (s && (a && not (m || false))) ≡ (s && not m)
without_any true true true all = refl
without_any true true false all = refl
without_any true false m all = absurd (false≢true (all refl))
without_any false a m all = refl

pub minus_set : (s : Bool) (w : ℕ) (p all : Pattern) (h : Header) → all ≡ replicate w Any → (s ≡ true → length h ≡ w) → (s && is_left all (p ∷ []) h) ≡ (s && not (matches p h))
minus_set s w p all h is width =
    without_any s (matches all h) (matches p h) (λ held. ap (λ (q : Pattern). matches q h) is ∙ all_match w h (width held))
