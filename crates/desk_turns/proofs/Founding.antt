-- How the desk comes into its slot: the first seat takes the vacant slot, and gives it back with the desk and the passes of all numbers.
use Rattle.std.proofs.Common.{◌≡◌, ℕ, zero, suc, ◌+◌, ◌<◌, ◌≤◌, ◌==◌, ◌&&◌, min, Bool, true, false, cond, nat_lt, nat_le, List, [], ◌∷◌, length, get_or, set, sum_by, refl, sym, ap, ◌∙◌, subst, inl, inr, arith}
use Rattle.std.specs.Prelude.{Some, None}
use Rattle.std.specs.List.{All}
use Rattle.std.proofs.Math.Seq.{drop-length}
use Rattle.std.proofs.lemmas.List.Sums.{sum_by-cons}
use Rattle.std.proofs.lemmas.List.Elements.{All-head}
use Rattle.std.proofs.lemmas.Bool.Decides.{nat_tests}
use mathlib.Core.Option as core
use mathlib.Core.Option.{some-ne-none, some-injective}
use lib.ListN.{get_elem?}
use Rattle.atomic_table.specs.Table.{State, Me, Act, takes, gives, Valid, homes_after, carried_after, Allows}
use Rattle.desk_core.specs.declared.event.Logged.{Logged}
use Rattle.desk_core.specs.Past.{past_of}
use Rattle.desk_core.specs.Legal.{IsLegal}
use Rattle.desk_turns.specs.declared.rule.Opened.{Opened}
use Rattle.desk_turns.specs.declared.rule.Known.{Known}
use Rattle.desk_turns.specs.Rule.{Slot, fresh_known, founder, opened, dealt, lifted, founded, count, is_some_at, is_past, total, IsTurns, Founds, Fits, Serves}
use Rattle.desk_turns.proofs.Sums.{all_at}
use Rattle.desk_turns.proofs.Turning.{begins_self}

numbered_founder : (of : Opened) (b : Bool) (history : List Logged) → Fits of history (founder of b) → ⊥
numbered_founder of b history fits = let n = fits.numbered in absurd (omega arith)

held : List Known → Bool
held [] = false
held (k ∷ ks) = k.holds

-- the first seat is the only one, so its view says how far it is
only_view : (of : Opened) (b c : Bool) (id : ℕ) → get_elem? ((founder of b ∷ []) ∷ []) id ≡ core.some (founder of c ∷ []) → (id ≡ 0) × (b ≡ c)
unfolding held
only_view of b c zero e = (refl, ap held (some-injective (founder of b ∷ []) (founder of c ∷ []) e))
only_view of b c (suc id) e = absurd (some-ne-none (founder of c ∷ []) (sym e))

founding : (of : Opened) (s : State Slot (List Known)) (id : ℕ) (c : Bool) → get_elem? s.views id ≡ core.some (founder of c ∷ []) → IsTurns of s → Founds of s
founding of s id c at (inl f) = f
founding of s id c at (inr t) =
    absurd (numbered_founder of c t.1 (All-head (Fits of t.1) (founder of c) [] (all_at (All (Fits of t.1)) s.views id (founder of c ∷ []) t.5.each at)))

-- what the table has before the desk is in it
abbrev Vacant : Opened → Bool → (List ℕ → List (core.Option Slot) → List (List Known) → ℕ → Type 0) → Type 0
Vacant of b Goes = Goes (length of.desk.log ∷ length of.desk.log ∷ []) (cond b core.none (core.some None) ∷ []) ((founder of b ∷ []) ∷ []) 0

at_vacant : (of : Opened) (s : State Slot (List Known)) (id : ℕ) (c : Bool) (Goes : List ℕ → List (core.Option Slot) → List (List Known) → ℕ → Type 0)
    → get_elem? s.views id ≡ core.some (founder of c ∷ []) → IsTurns of s → Vacant of c Goes → Goes s.words s.homes s.views id
at_vacant of s id c Goes at kept vacant =
    let f = founding of s id c at kept in
    let o = only_view of f.0 c id (subst (λ (vs : List (List Known)). get_elem? vs id ≡ core.some (founder of c ∷ [])) f.3 at) in
    subst (λ (ws : List ℕ). Goes ws s.homes s.views id) (sym f.1)
    (subst (λ (hs : List (core.Option Slot)). Goes (length of.desk.log ∷ length of.desk.log ∷ []) hs s.views id) (sym f.2)
    (subst (λ (vs : List (List Known)). Goes (length of.desk.log ∷ length of.desk.log ∷ []) (cond f.0 core.none (core.some None) ∷ []) vs id) (sym f.3)
    (subst (λ (i : ℕ). Goes (length of.desk.log ∷ length of.desk.log ∷ []) (cond f.0 core.none (core.some None) ∷ []) ((founder of f.0 ∷ []) ∷ []) i) (sym o.0)
    (subst (λ b. Vacant of b Goes) (sym o.1) vacant))))

pub lifts : (of : Opened) (id slots : ℕ) → Allows (IsTurns of) slots id (opened of, []) 0 (λ n. n) (λ found after. after ≡ (lifted (opened of), (0, None) ∷ []))
lifts of id slots s kept homes at under = at_vacant of s id false Goes at kept (
  founder of true ∷ [],
  takes 0 None,
  refl,
  inl (true, refl, refl, refl),
  refl,
)
  where
    IsMe : Me Slot (List Known) → Me Slot (List Known) → Type 0
    IsMe a b = a ≡ b

    Goes : List ℕ → List (core.Option Slot) → List (List Known) → ℕ → Type 0
    Goes ws hs vs i =
        (w : List Known) × (a : Act Slot) × Valid hs [] a
        × IsTurns of (record { words = set ws 0 (get_or ws 0 0); homes = homes_after hs [] a; views = set vs i w })
        × IsMe (w, carried_after [] a) (lifted (opened of), (0, None) ∷ [])

-- sums over what is known of numbers that have made no call
none_of : (f : Known → ℕ) (of : Opened) → ((x : ℕ) → f (fresh_known of x) ≡ 0) → (a n : ℕ) → sum_by f (dealt of a n) ≡ 0
none_of f of nothing a zero = refl
none_of f of nothing a (suc n) =
    let here = nothing a in
    let rest = none_of f of nothing (a + 1) n in
    omega (arith, sum_by-cons f (fresh_known of a) (dealt of (a + 1) n))

one_each : (of : Opened) (a n : ℕ) → sum_by (λ k. 1) (dealt of a n) ≡ n
one_each of a zero = refl
one_each of a (suc n) =
    let rest = one_each of (a + 1) n in
    omega (arith, sum_by-cons (λ (k : Known). 1) (fresh_known of a) (dealt of (a + 1) n))

keeps_none : (x a : ℕ) → 0 ≡ count (nat_le a x && nat_lt x (a + 0))
keeps_none x a = grind (arith, nat_tests)

keeps_more : (x a n s : ℕ) → s ≡ count (nat_le (a + 1) x && nat_lt x ((a + 1) + n)) → count (a == x) + s ≡ count (nat_le a x && nat_lt x (a + suc n))
keeps_more x a n s e = grind (arith, nat_tests)

keeps_each : (of : Opened) (x a n : ℕ) → sum_by (λ k. count (k.number == x)) (dealt of a n) ≡ count (nat_le a x && nat_lt x (a + n))
keeps_each of x a zero = keeps_none x a
keeps_each of x a (suc n) =
    sum_by-cons (λ (k : Known). count (k.number == x)) (fresh_known of a) (dealt of (a + 1) n)
    ∙ keeps_more x a n (sum_by (λ k. count (k.number == x)) (dealt of (a + 1) n)) (keeps_each of x (a + 1) n)

up_to : (x n : ℕ) → count (nat_le 1 x && nat_lt x (1 + n)) ≡ count (nat_le 1 x && nat_le x n)
up_to x n = grind (arith, nat_tests)

none_waits : (place n room : ℕ) → n ≤ room → 0 ≡ count (nat_le n place && nat_lt place (min n room))
none_waits place n room le = grind (arith, nat_tests)

all_cons : (P : Known → Type 0) (k : Known) (ks : List Known) → P k → All P ks → All P (k ∷ ks)
all_cons P k ks p all zero d under = p
all_cons P k ks p all (suc i) d under = all i d (omega arith)

fresh_fits : (of : Opened) (a n : ℕ) → 0 < a → All (Fits of of.desk.log) (dealt of a n)
fresh_fits of a zero some = λ i d under. absurd (omega arith)
fresh_fits of a (suc n) some =
    all_cons (Fits of of.desk.log) (fresh_known of a) (dealt of (a + 1) n)
    record { of_is = refl; numbered = some; seen = begins_self of.desk.log; own = refl; all_seen = λ held. refl }
    (fresh_fits of (a + 1) n (omega arith))

pub served_first : (of : Opened) → IsLegal (past_of of.desk.log) → length of.desk.log ≤ of.desk.room
    → Serves of (length of.desk.log) of.desk.log (core.some (Some of.desk)) (dealt of 1 of.seats ∷ [])
served_first of legal within =
    let sum : (f : Known → ℕ) → total f (dealt of 1 of.seats ∷ []) ≡ sum_by f (dealt of 1 of.seats) = λ f. omega (arith, sum_by-cons (λ (ks : List Known). sum_by f ks) (dealt of 1 of.seats) []) in
    let none : total (λ k. count k.holds) (dealt of 1 of.seats ∷ []) ≡ 0 = sum (λ k. count k.holds) ∙ none_of (λ k. count k.holds) of (λ x. refl) 1 of.seats in
    let ends : total (λ k. count (is_past k.past)) (dealt of 1 of.seats ∷ []) ≡ 0 = sum (λ k. count (is_past k.past)) ∙ none_of (λ k. count (is_past k.past)) of (λ x. refl) 1 of.seats in
    let low : length of.desk.log ≡ length of.desk.log + total (λ k. count k.holds) (dealt of 1 of.seats ∷ []) = omega arith in
    record {
      begins = begins_self of.desk.log;
      legal = legal;
      callers = subst (All (λ c. (1 ≤ c.caller) × (c.caller ≤ of.seats))) (sym (drop-length of.desk.log)) (λ i d under. absurd (omega arith));
      one_holder = omega arith;
      below = omega arith;
      within = omega arith;
      waits = λ place.
          sum (λ k. count (is_some_at k.waits place))
          ∙ (none_of (λ k. count (is_some_at k.waits place)) of (λ x. refl) 1 of.seats
          ∙ (none_waits place (length of.desk.log) of.desk.room within
          ∙ ap (λ (n : ℕ). count (nat_le n place && nat_lt place (min (length of.desk.log) of.desk.room))) low));
      at_home = λ zero_holders. refl;
      out = λ some. absurd (omega arith);
      each_once = λ x. sum (λ k. count (k.number == x)) ∙ (keeps_each of x 1 of.seats ∙ up_to x of.seats);
      all_numbers = sum (λ k. 1) ∙ one_each of 1 of.seats;
      none_past = λ some. absurd (omega arith);
      bound = omega arith;
      each = one_view (All (Fits of of.desk.log)) (dealt of 1 of.seats) (fresh_fits of 1 of.seats (omega arith));
    }
  where
    one_view : (P : List Known → Type 0) (ks : List Known) → P ks → All P (ks ∷ [])
    one_view P ks p zero d under = p
    one_view P ks p (suc i) d under = absurd (omega arith)

pub founds : (of : Opened) (id slots : ℕ) → IsLegal (past_of of.desk.log) → length of.desk.log ≤ of.desk.room
    → Allows (IsTurns of) slots id (lifted (opened of), (0, Some of.desk) ∷ []) 0 (λ n. n) (λ found after. after ≡ (founded (lifted (opened of)), []))
founds of id slots legal within s kept homes at under = at_vacant of s id true Goes at kept (
  dealt of 1 of.seats,
  gives,
  tt,
  inr (length of.desk.log, of.desk.log, core.some (Some of.desk), refl, refl, served_first of legal within),
  refl,
)
  where
    IsMe : Me Slot (List Known) → Me Slot (List Known) → Type 0
    IsMe a b = a ≡ b

    Goes : List ℕ → List (core.Option Slot) → List (List Known) → ℕ → Type 0
    Goes ws hs vs i =
        (w : List Known) × (a : Act Slot) × Valid hs ((0, Some of.desk) ∷ []) a
        × IsTurns of (record { words = set ws 0 (get_or ws 0 0); homes = homes_after hs ((0, Some of.desk) ∷ []) a; views = set vs i w })
        × IsMe (w, carried_after ((0, Some of.desk) ∷ []) a) (founded (lifted (opened of)), [])

-- the table as it is made
pub vacant : (of : Opened) (n : ℕ) → n ≡ length of.desk.log → IsTurns of (record { words = n ∷ n ∷ []; homes = core.some None ∷ []; views = opened of ∷ [] })
vacant of n is = inl (false, ap (λ (l : ℕ). l ∷ l ∷ []) is, refl, refl)
