-- Each step on the word keeps the rule.
use Rattle.std.proofs.Common.{◌≡◌, ◌≢◌, ℕ, ◌+◌, ◌%◌, ◌^◌, ◌<◌, ◌≤◌, ◌==◌, min, Bool, true, false, cond, nat_lt, List, [], ◌∷◌, ◌++◌, length, get_or, set, refl, sym, ap, ◌∙◌, subst, inl, inr, ⊎_elim, arith, length-append}
use Rattle.std.specs.List.{All, count_by}
use Rattle.std.proofs.lemmas.List.Sums.{sum_by_push, sum_by-append, sum_by-cons, get_or-le-sum_by}
use Rattle.std.proofs.lemmas.List.Elements.{All-set, All-push, All-head, All-tail}
use Rattle.std.proofs.lemmas.Bool.Decides.{nat_tests}
use Rattle.std.proofs.Math.Nat.{mod-eq_of_lt}
use mathlib.Core.Option.{some}
use lib.ListN.{get_elem?}
use Rattle.claim_board.specs.Claims.{most_seats}
use Rattle.claim_board.specs.declared.rule.Size.{Size}
use Rattle.claim_board.specs.declared.rule.Tally.{Tally}
use Rattle.claim_board.specs.Fair.{no_seat, one_seat, one_less, together, with_number, with_end, times_drawn, draws_past, seats_of, IsOf, FairAt, IsFair, DrawsNext}
use Rattle.atomic_table.specs.Table.{Act, keeps, Valid, carried_after, Allows, Splits, Joins}
use Rattle.atomic_table.proofs.Lists.{at_set}
use Rattle.claim_board.proofs.Sums.{sum_set, le_sum, all_at}

-- the number at the word joins those below the lesser of the word and n
next_below : (x word n : ℕ) → word < n → cond (nat_lt x (min word n)) 1 0 + cond (word == x) 1 0 ≡ cond (nat_lt x (min (word + 1) n)) 1 0
next_below x word n room = grind (arith, nat_tests)

-- a seat that is not left over is of this board
pub seat_of : (of : Size) (v : Tally) → 0 < v.seats → IsOf of v → (v.ended ≤ v.seats) × (v.of ≡ of)
seat_of of v some_seat (inl none) = let zero_seats : v.seats ≡ 0 = ap (λ (t : Tally). t.seats) none in absurd (omega arith)
seat_of of v some_seat (inr is) = (is.1, is.2)

pub past_le_seats : (of : Size) (views : List Tally) → All (IsOf of) views → draws_past views ≤ seats_of views
past_le_seats of [] all = omega arith
past_le_seats of (v ∷ vs) all =
    let rest = past_le_seats of vs (All-tail (IsOf of) v vs all) in
    let here : v.ended ≤ v.seats = one (All-head (IsOf of) v vs all) in
    omega (arith, sum_by-cons (λ (t : Tally). t.ended) v vs, sum_by-cons (λ (t : Tally). t.seats) v vs)
  where
    one : IsOf of v → v.ended ≤ v.seats
    one (inl none) = let e : v.ended ≡ 0 = ap (λ (t : Tally). t.ended) none in omega arith
    one (inr is) = is.1

module _ (of : Size) (word : ℕ) (views : List Tally) (fair : FairAt of word views) (id : ℕ) (v : Tally) (at : get_elem? views id ≡ some v) where
  drawn_before : All (λ y. y < word) v.drawn
  drawn_before k d under =
      let y : ℕ = get_or v.drawn k d in
      let one : cond (y == y) 1 0 ≤ count_by (λ z. z == y) v.drawn = get_or-le-sum_by (λ (z : ℕ). cond (z == y) 1 0) v.drawn k d under in
      let all : count_by (λ z. z == y) v.drawn ≤ times_drawn y views = le_sum (λ (t : Tally). count_by (λ z. z == y) t.drawn) views id v at in
      below y (count_by (λ z. z == y) v.drawn) (times_drawn y views) one all (fair.each_once y)
    where
      below : (y a b : ℕ) → cond (y == y) 1 0 ≤ a → a ≤ b → b ≡ cond (nat_lt y (min word of.numbers)) 1 0 → y < word
      below y a b one all is = grind (arith, nat_tests)

  fewer_drawn : length v.drawn ≤ word
  fewer_drawn = let all = le_sum (λ (t : Tally). length t.drawn) views id v at in let count = fair.count in omega arith

  module _ (one : v.seats ≡ 1) (none : v.ended ≡ 0) where
    mine : v.of ≡ of
    mine = (seat_of of v (omega arith) (all_at (IsOf of) views id v fair.each_of at)).1

    drawn_below : word < of.numbers → FairAt of (word + 1) (set views id (with_number v word))
    drawn_below room =
        let w = with_number v word in
        let count = fair.count in let word_is = fair.word_is in let seats_are = fair.all_seats in
        let lengths = sum_set (λ (t : Tally). length t.drawn) views id v w at in
        let ends = sum_set (λ (t : Tally). t.ended) views id v w at in
        let seats = sum_set (λ (t : Tally). t.seats) views id v w at in
        let longer = length-append v.drawn (word ∷ []) in
        record {
          each_once = λ x.
              let times = sum_set (λ (t : Tally). count_by (λ y. y == x) t.drawn) views id v w at in
              let more = sum_by_push (λ (y : ℕ). cond (y == x) 1 0) v.drawn word in
              let was = fair.each_once x in
              let next = next_below x word of.numbers room in
              omega arith;
          count = omega arith;
          word_is = omega arith;
          all_seats = omega arith;
          each_of = All-set (IsOf of) views id w (inr (omega arith, omega arith, mine)) fair.each_of;
        }

    drawn_past : of.numbers ≤ word → FairAt of (word + 1) (set views id (with_end v))
    drawn_past past =
        let w = with_end v in
        let count = fair.count in let word_is = fair.word_is in let seats_are = fair.all_seats in
        let lengths = sum_set (λ (t : Tally). length t.drawn) views id v w at in
        let ends = sum_set (λ (t : Tally). t.ended) views id v w at in
        let seats = sum_set (λ (t : Tally). t.seats) views id v w at in
        let same : min (word + 1) of.numbers ≡ min word of.numbers = omega arith in
        record {
          each_once = λ x.
              let times = sum_set (λ (t : Tally). count_by (λ y. y == x) t.drawn) views id v w at in
              let kept : times_drawn x (set views id w) ≡ times_drawn x views = omega arith in
              kept ∙ fair.each_once x ∙ ap (λ (m : ℕ). cond (nat_lt x m) 1 0) (sym same);
          count = omega arith;
          word_is = omega arith;
          all_seats = omega arith;
          each_of = All-set (IsOf of) views id w (inr (omega arith, omega arith, mine)) fair.each_of;
        }

-- the word stays far below its limit
no_wrap : (of : Size) (word : ℕ) (views : List Tally) → FairAt of word views → of.numbers < 2 ^ 63 → of.seats ≤ most_seats → (word + 1) % 2 ^ 64 ≡ word + 1
no_wrap of word views fair small few =
    let ends = past_le_seats of views fair.each_of in
    let count = fair.count in let word_is = fair.word_is in let seats_are = fair.all_seats in
    let short : word + 1 < 2 ^ 64 = omega arith in
    mod-eq_of_lt short

module _ {S : Type 0} (of : Size) (id : ℕ) (v : Tally) (carried : List (ℕ × S)) where
  -- a draw by one seat that has not drawn past the last number
  pub draws : (slots : ℕ) → v.seats ≡ 1 → v.ended ≡ 0 → of.numbers < 2 ^ 63 → of.seats ≤ most_seats
      → Allows (λ s. IsFair of s.words s.views) slots id (v, carried) 0 (λ n. (n + 1) % 2 ^ 64) (λ found after. (after.1 ≡ carried) × DrawsNext v found after.0)
  draws slots one none small few s kept homes at under = subst Goes (sym kept.1) (go (nat_lt kept.0 of.numbers) refl)
    where
      Goes : List ℕ → Type 0
      Goes ws =
          (w : Tally) × (a : Act S) × Valid s.homes carried a × IsFair of (set ws 0 ((get_or ws 0 0 + 1) % 2 ^ 64)) (set s.views id w)
          × ((carried_after carried a ≡ carried) × DrawsNext v (get_or ws 0 0) w)

      fair : FairAt of kept.0 s.views
      fair = kept.2

      raised : ((kept.0 + 1) % 2 ^ 64) ∷ [] ≡ (kept.0 + 1) ∷ []
      raised = ap (λ (n : ℕ). n ∷ []) (no_wrap of kept.0 s.views fair small few)

      same : v.of.numbers ≡ of.numbers
      same = ap (λ (z : Size). z.numbers) (mine of kept.0 s.views fair id v at one none)

      go : (b : Bool) → nat_lt kept.0 of.numbers ≡ b → Goes (kept.0 ∷ [])
      go true is = let room : kept.0 < of.numbers = grind (arith, nat_tests) in (
        with_number v kept.0,
        keeps,
        tt,
        (kept.0 + 1, raised, drawn_below of kept.0 s.views fair id v at one none room),
        (refl, (drawn_before of kept.0 s.views fair id v at, fewer_drawn of kept.0 s.views fair id v at, (λ _. refl), λ (past : v.of.numbers ≤ kept.0). absurd (omega (arith, same)))),
      )
      go false is = let past : of.numbers ≤ kept.0 = grind (arith, nat_tests) in (
        with_end v,
        keeps,
        tt,
        (kept.0 + 1, raised, drawn_past of kept.0 s.views fair id v at one none past),
        (refl, (drawn_before of kept.0 s.views fair id v at, fewer_drawn of kept.0 s.views fair id v at, (λ (room : kept.0 < v.of.numbers). absurd (omega (arith, same))), λ _. refl)),
      )

-- the tally of several seats deals out one of them
pub deals : {S : Type 0} (of : Size) (id : ℕ) (v : Tally) → 1 < v.seats → v.ended ≡ 0 → Splits {S = S} (λ s. IsFair of s.words s.views) id v (one_less v) (one_seat v.of)
deals {S} of id v more none s kept at = (kept.0, kept.1, after)
  where
    fair : FairAt of kept.0 s.views
    fair = kept.2

    mine : v.of ≡ of
    mine = (seat_of of v (omega arith) (all_at (IsOf of) s.views id v fair.each_of at)).1

    after : FairAt of kept.0 (set s.views id (one_less v) ++ one_seat v.of ∷ [])
    after =
        let left = one_less v in let right = one_seat v.of in let views = s.views in let dealt = set views id left in
        let count = fair.count in let word_is = fair.word_is in let seats_are = fair.all_seats in
        let lengths = sum_set (λ (t : Tally). length t.drawn) views id v left at in
        let ends = sum_set (λ (t : Tally). t.ended) views id v left at in
        let seats = sum_set (λ (t : Tally). t.seats) views id v left at in
        let lengths' = sum_by_push (λ (t : Tally). length t.drawn) dealt right in
        let ends' = sum_by_push (λ (t : Tally). t.ended) dealt right in
        let seats' = sum_by_push (λ (t : Tally). t.seats) dealt right in
        record {
          each_once = λ x.
              let times = sum_set (λ (t : Tally). count_by (λ y. y == x) t.drawn) views id v left at in
              let times' = sum_by_push (λ (t : Tally). count_by (λ y. y == x) t.drawn) dealt right in
              let was = fair.each_once x in
              omega arith;
          count = omega arith;
          word_is = omega arith;
          all_seats = omega arith;
          each_of = All-push (IsOf of) dealt right (All-set (IsOf of) views id left (inr (omega arith, omega arith, mine)) fair.each_of) (inr (omega arith, omega arith, mine));
        }

-- a seat takes in what another one knows
pub gathers : {S : Type 0} (of : Size) (id : ℕ) (v : Tally) (other : ℕ) (u : Tally) → 0 < v.seats → Joins {S = S} (λ s. IsFair of s.words s.views) id v other u (together v u) no_seat
gathers {S} of id v other u some_seat s kept at apart there = (kept.0, kept.1, after)
  where
    fair : FairAt of kept.0 s.views
    fair = kept.2

    w : Tally
    w = together v u

    was_there : get_elem? s.views other ≡ some u
    was_there = ⊎_elim (λ (t : (other ≡ id) × (w ≡ u)). absurd (apart t.0)) (λ (t : (other ≢ id) × (get_elem? s.views other ≡ some u)). t.1) (at_set s.views id other w u there)

    fits : (v.ended ≤ v.seats) × (v.of ≡ of)
    fits = seat_of of v some_seat (all_at (IsOf of) s.views id v fair.each_of at)

    fewer : IsOf of u → u.ended ≤ u.seats
    fewer (inl none) = let e : u.ended ≡ 0 = ap (λ (t : Tally). t.ended) none in omega arith
    fewer (inr is) = is.1

    after : FairAt of kept.0 (set (set s.views id w) other no_seat)
    after =
        let views = s.views in let both = set views id w in
        let count = fair.count in let word_is = fair.word_is in let seats_are = fair.all_seats in
        let lengths = sum_set (λ (t : Tally). length t.drawn) views id v w at in
        let ends = sum_set (λ (t : Tally). t.ended) views id v w at in
        let seats = sum_set (λ (t : Tally). t.seats) views id v w at in
        let lengths' = sum_set (λ (t : Tally). length t.drawn) both other u no_seat there in
        let ends' = sum_set (λ (t : Tally). t.ended) both other u no_seat there in
        let seats' = sum_set (λ (t : Tally). t.seats) both other u no_seat there in
        let longer = length-append v.drawn u.drawn in
        let few = fewer (all_at (IsOf of) views other u fair.each_of was_there) in
        let few' = fits.0 in
        record {
          each_once = λ x.
              let times = sum_set (λ (t : Tally). count_by (λ y. y == x) t.drawn) views id v w at in
              let times' = sum_set (λ (t : Tally). count_by (λ y. y == x) t.drawn) both other u no_seat there in
              let more = sum_by-append (λ (y : ℕ). cond (y == x) 1 0) v.drawn u.drawn in
              let was = fair.each_once x in
              omega arith;
          count = omega arith;
          word_is = omega arith;
          all_seats = omega arith;
          each_of = All-set (IsOf of) both other no_seat (inl refl) (All-set (IsOf of) views id w (inr (omega arith, omega arith, fits.1)) fair.each_of);
        }
