-- A loop over the places at which a word has a 1, from the lowest on.
use Rattle.std.proofs.Common.{◌≡◌, ◌≢◌, ℕ, ◌<◌, ◌≤◌, ◌^◌, true, false, eqb, inl, inr, sym, ap, subst, ◌∙◌, arith}
use Rattle.std.proofs.lemmas.Nat.Bits.{bit_at_above}
use Rattle.std.proofs.lemmas.Bool.{false≢true, cases_eq, cases_lt}
use Rattle.ternary_bits.specs.Words.{is_one, Takes}
use Rattle.ternary_bits.proofs.Words.{is_one-zero}

-- `left` has the places of `whole` that are still to come; at the others it is done
pub record Walks (whole left w : ℕ) (Done : ℕ → Type 0) : Type 0 where
  pub fits : left < 2 ^ w
  pub part : (i : ℕ) → i < w → is_one left i ≡ true → is_one whole i ≡ true
  pub done : (i : ℕ) → i < w → is_one left i ≡ false → Done i

pub walk_start : (whole w : ℕ) (Done : ℕ → Type 0) → whole < 2 ^ w → ((i : ℕ) → i < w → is_one whole i ≡ false → Done i) → Walks whole whole w Done
walk_start whole w Done fits still = record { fits = fits; part = λ i l one. one; done = still }

pub one_below : (word w i : ℕ) → word < 2 ^ w → is_one word i ≡ true → i < w
one_below word w i fits one =
    elim (cases_lt i w) as (λ _. i < w) [
      | inl l ↦ l
      | inr past ↦ absurd (false≢true (sym (ap (λ b. eqb b 1) (bit_at_above word w i fits past)) ∙ one))
    ]

pub walk_place : (whole left w place rest : ℕ) (Done : ℕ → Type 0) → Walks whole left w Done → Takes left place rest → (place < w) × (is_one whole place ≡ true)
walk_place whole left w place rest Done so_far takes =
    let l : place < w = one_below left w place so_far.fits takes.here in
    (l, so_far.part place l takes.here)

pub walk_step : (whole left w place rest : ℕ) (Done After : ℕ → Type 0) → w ≤ 128 → Walks whole left w Done → Takes left place rest
    → ((i : ℕ) → i < w → i ≢ place → Done i → After i) → After place → Walks whole rest w After
walk_step whole left w place rest Done After wide so_far takes kept here = record {
  fits = omega (arith, so_far.fits, takes.fewer);
  part = λ i l one.
      elim (cases_eq i place) as (λ _. is_one whole i ≡ true) [
        | inl same ↦ absurd (false≢true (sym takes.gone ∙ ap (is_one rest) (sym same) ∙ one))
        | inr apart ↦ so_far.part i l (sym (takes.others i (omega arith) apart) ∙ one)
      ];
  done = λ i l none.
      elim (cases_eq i place) as (λ _. After i) [
        | inl same ↦ subst After (sym same) here
        | inr apart ↦ kept i l apart (so_far.done i l (sym (takes.others i (omega arith) apart) ∙ none))
      ];
}

pub walk_end : (whole left w : ℕ) (Done : ℕ → Type 0) → Walks whole left w Done → left ≡ 0 → (i : ℕ) → i < w → Done i
walk_end whole left w Done so_far none i l = so_far.done i l (ap (λ word. is_one word i) none ∙ is_one-zero i)
