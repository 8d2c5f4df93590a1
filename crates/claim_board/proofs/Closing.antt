-- What the seat that knows all draws says of the numbers.
use Rattle.std.proofs.Common.{◌≡◌, ℕ, zero, suc, ◌<◌, ◌≤◌, min, cond, List, [], ◌∷◌, ◌++◌, get_or, true, Any, sum_by, count_by, All, IsPermutation, refl, sym, ap, ◌∙◌, subst, inl, inr, arith, append-nil}
use Rattle.std.proofs.lemmas.List.Sums.{sum_by-cons, sum_by_push, get_or-le-sum_by}
use Rattle.std.proofs.lemmas.List.Elements.{All-head, All-tail}
use Rattle.std.proofs.lemmas.List.Sorted.{IsPermutation-append_comm}
use Rattle.std.proofs.lemmas.List.Concat.{flat_map-append}
use mathlib.Core.Option.{some, some-ne-none, some-injective}
use lib.ListN.{get_elem?}
use Rattle.atomic_table.specs.Table.{Final, Seen}
use Rattle.claim_board.specs.Claims.{Claims, numbers_below, drawn_by}
use Rattle.claim_board.specs.declared.rule.Size.{Size}
use Rattle.claim_board.specs.declared.rule.Tally.{Tally}
use Rattle.claim_board.specs.Fair.{no_seat, seats_of, IsOf, FairAt, IsFair}
use Rattle.claim_board.proofs.Sums.{le_sum}
use Rattle.claim_board.proofs.Counts.{times, same_times, times_below}

module _ (of : Size) (f : Tally → ℕ) (nothing : f no_seat ≡ 0) where
  left_over : (v : Tally) → IsOf of v → v.seats ≡ 0 → f v ≡ 0
  left_over v (inl none) zero_seats = ap f none ∙ nothing
  left_over v (inr is) zero_seats = let some = is.0 in absurd (omega arith)

  all_left_over : (views : List Tally) → All (IsOf of) views → seats_of views ≡ 0 → sum_by f views ≡ 0
  all_left_over [] all none = refl
  all_left_over (v ∷ vs) all none =
      let seats = sum_by-cons (λ (t : Tally). t.seats) v vs in
      let here = left_over v (All-head (IsOf of) v vs all) (omega arith) in
      let rest = all_left_over vs (All-tail (IsOf of) v vs all) (omega arith) in
      omega (arith, sum_by-cons f v vs)

  -- where one tally stands for all seats, the others have nothing
  pub alone : (views : List Tally) (id : ℕ) (v : Tally) → All (IsOf of) views → get_elem? views id ≡ some v → seats_of views ≡ v.seats → sum_by f views ≡ f v
  alone [] id v all at whole = absurd (some-ne-none v (sym at))
  alone (w ∷ ws) zero v all at whole =
      let seats = sum_by-cons (λ (t : Tally). t.seats) w ws in
      let is : w ≡ v = some-injective w v at in let same : w.seats ≡ v.seats = ap (λ (t : Tally). t.seats) is in
      let rest = all_left_over ws (All-tail (IsOf of) w ws all) (omega arith) in
      let here : f w ≡ f v = ap f is in
      omega (arith, sum_by-cons f w ws)
  alone (w ∷ ws) (suc id) v all at whole =
      let seats = sum_by-cons (λ (t : Tally). t.seats) w ws in
      let most = le_sum (λ (t : Tally). t.seats) ws id v at in
      let here = left_over w (All-head (IsOf of) w ws all) (omega arith) in
      let rest = alone ws id v (All-tail (IsOf of) w ws all) at (omega arith) in
      omega (arith, sum_by-cons f w ws)

module _ (of : Size) (word : ℕ) (views : List Tally) (fair : FairAt of word views) (id : ℕ) (v : Tally) (at : get_elem? views id ≡ some v) (whole : v.seats ≡ of.seats) where
  all_seats : seats_of views ≡ v.seats
  all_seats = fair.all_seats ∙ sym whole

  pub drawn_once : IsPermutation (numbers_below (min word of.numbers)) v.drawn
  drawn_once = same_times (numbers_below (min word of.numbers)) v.drawn (λ x.
      times_below x (min word of.numbers) ∙ (sym (fair.each_once x) ∙ alone of (λ (t : Tally). times x t.drawn) refl views id v fair.each_of at all_seats))

  pub ended_at_all : 0 < v.ended → min word of.numbers ≡ of.numbers
  ended_at_all is_ended =
      let past = alone of (λ (t : Tally). t.ended) refl views id v fair.each_of at all_seats in
      let count = fair.count in let word_is = fair.word_is in
      omega arith

-- the same of the table once it is closed, where the word was last seen
pub at_close : {S : Type 0} (of : Size) (n next : ℕ) (words : List ℕ) (slots : List S) (id : ℕ) (v : Tally)
    → Final (Seen (λ s. IsFair of s.words s.views) id v) words slots → get_elem? words 0 ≡ some next → v.seats ≡ of.seats → of.numbers ≡ n
    → IsPermutation (numbers_below (min next n)) v.drawn × (0 < v.ended → min next n ≡ n)
at_close of n next words slots id v last found whole numbers =
    let s = last.0 in let kept = last.1.0 in let at = last.1.1 in
    let is : kept.0 ∷ [] ≡ words = sym kept.1 ∙ last.2 in
    let same : kept.0 ≡ next = some-injective kept.0 next (ap (λ (l : List ℕ). get_elem? l 0) is ∙ found) in
    let P : ℕ × ℕ → Type 0 = λ p. IsPermutation (numbers_below (min p.0 p.1)) v.drawn × (0 < v.ended → min p.0 p.1 ≡ p.1) in
    subst P (λ i. (same i, numbers i)) (drawn_once of kept.0 s.views kept.2 id v at whole, ended_at_all of kept.0 s.views kept.2 id v at whole)

-- the last seat may as well stand first
pub last_first : (last : Claims) (others : List Claims) → IsPermutation (drawn_by (last ∷ others)) (drawn_by (others ++ last ∷ []))
last_first last others =
    let same : drawn_by (others ++ last ∷ []) ≡ drawn_by others ++ last.drawn = flat_map-append (λ (s : Claims). s.drawn) others (last ∷ []) ∙ ap (λ (l : List ℕ). drawn_by others ++ l) (append-nil last.drawn) in
    subst (λ (l : List ℕ). IsPermutation (drawn_by (last ∷ others)) l) (sym same) (IsPermutation-append_comm last.drawn (drawn_by others))

pub some_spent : (last : Claims) (others : List Claims) → Any (λ s. s.spent ≡ true) (others ++ last ∷ []) → 0 < count_by (λ s. s.spent) (last ∷ others)
some_spent last others any =
    let f : Claims → ℕ = λ s. cond s.spent 1 0 in
    let s = any.1 in
    let one : f s ≡ 1 = ap (λ b. cond b 1 0) any.4 in
    let here : f (get_or (others ++ last ∷ []) any.0 s) ≤ sum_by f (others ++ last ∷ []) = get_or-le-sum_by f (others ++ last ∷ []) any.0 s any.2 in
    let is : f (get_or (others ++ last ∷ []) any.0 s) ≡ f s = ap f any.3 in
    omega (arith, sum_by_push f others last, sum_by-cons f last others)
