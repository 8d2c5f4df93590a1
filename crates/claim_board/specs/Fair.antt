-- The rule of the table behind a board, and what its steps do to the tally of a seat. Here n is how many numbers the board has.
use Rattle.std.specs.Prelude.{◌≡◌, ℕ, ◌+◌, ◌-◌, ◌<◌, ◌≤◌, ◌==◌, ◌⊎◌, min, cond, nat_lt, List, [], ◌∷◌, ◌++◌, length}
use Rattle.std.specs.List.{All, sum_by, count_by}
use Rattle.claim_board.specs.declared.rule.Size.{Size}
use Rattle.claim_board.specs.declared.rule.Tally.{Tally}

-- all seats of a board that nothing was drawn from
abbrev pub opened : Size → Tally
opened of = record { of = of; seats = of.seats; ended = 0; drawn = [] }

-- one seat that has drawn nothing
abbrev pub one_seat : Size → Tally
one_seat of = record { of = of; seats = 1; ended = 0; drawn = [] }

-- what a seat of the table is left with once it was handed back
abbrev pub no_seat : Tally
no_seat = record { of = record { numbers = 0; seats = 0 }; seats = 0; ended = 0; drawn = [] }

abbrev pub one_less : Tally → Tally
one_less v = record { of = v.of; seats = v.seats - 1; ended = v.ended; drawn = v.drawn }

abbrev pub together : Tally → Tally → Tally
together v w = record { of = v.of; seats = v.seats + w.seats; ended = v.ended + w.ended; drawn = v.drawn ++ w.drawn }

abbrev pub with_number : Tally → ℕ → Tally
with_number v x = record { of = v.of; seats = v.seats; ended = v.ended; drawn = v.drawn ++ x ∷ [] }

abbrev pub with_end : Tally → Tally
with_end v = record { of = v.of; seats = v.seats; ended = v.ended + 1; drawn = v.drawn }

-- how often x was drawn, how many numbers were drawn, how many draws were past the last number, and how many seats there are, over all tallies
abbrev pub times_drawn : ℕ → List Tally → ℕ
times_drawn x views = sum_by (λ v. count_by (λ y. y == x) v.drawn) views

abbrev pub numbers_drawn : List Tally → ℕ
numbers_drawn views = sum_by (λ v. length v.drawn) views

abbrev pub draws_past : List Tally → ℕ
draws_past views = sum_by (λ v. v.ended) views

abbrev pub seats_of : List Tally → ℕ
seats_of views = sum_by (λ v. v.seats) views

-- a tally stands for no seat and has drawn nothing, or it is of this board and each of its seats has drawn at most once past the last number
abbrev pub IsOf : Size → Tally → Type 0
IsOf of v = (v ≡ no_seat) ⊎ ((0 < v.seats) × (v.ended ≤ v.seats) × (v.of ≡ of))

-- the numbers in all tallies are those below the lesser of the word and n, each once. The word is their number plus the draws past n,
-- and the tallies stand together for all seats of the board. So the word is at most n plus the seats, and never wraps
pub record FairAt (of : Size) (word : ℕ) (views : List Tally) : Type 0 where
  pub each_once : (x : ℕ) → times_drawn x views ≡ cond (nat_lt x (min word of.numbers)) 1 0
  pub count : numbers_drawn views ≡ min word of.numbers
  pub word_is : word ≡ numbers_drawn views + draws_past views
  pub all_seats : seats_of views ≡ of.seats
  pub each_of : All (IsOf of) views

abbrev pub IsFair : Size → List ℕ → List Tally → Type 0
IsFair of words views = (word : ℕ) × (words ≡ word ∷ []) × FairAt of word views

-- the number found is above each that the seat drew. It is the seat's if the board has it, and else the draw was past the last one
abbrev pub DrawsNext : Tally → ℕ → Tally → Type 0
DrawsNext v found w =
    All (λ y. y < found) v.drawn × (length v.drawn ≤ found)
    × (found < v.of.numbers → w ≡ with_number v found)
    × (v.of.numbers ≤ found → w ≡ with_end v)
