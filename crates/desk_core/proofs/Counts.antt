-- Departures and arrivals when one entry more is past.
use Rattle.std.specs.Prelude.{◌≡◌, ◌≢◌, ℕ, zero, suc, ◌+◌, ◌-◌, ◌<◌, ◌≤◌, Bool, true, false, ◌&&◌, cond, List, ◌∷◌, map, reverse, slice_get, slice_set, Option, None, Some}
use Rattle.std.specs.List.{find, range_with_len}
use Rattle.std.specs.Option.{option_map, option_or, option_and_then}
use Rattle.std.proofs.Common.{refl, sym, ap, ◌∙◌, arith}
use Rattle.std.proofs.lemmas.Option.{none-some}
use Rattle.network_model.specs.Network.{Network}
use Rattle.suspect_book.specs.declared.verdict.Verdict.{Verdict}
use Rattle.suspect_book.specs.Verdicts.{inner, verdict_at}
use Rattle.desk_core.specs.declared.event.LoggedEvent.{LoggedEvent}
use Rattle.desk_core.specs.declared.event.LoggedEvent.TheVariants.{Change, OpenRound, Pin, Post, Depart, Arrive, Locate, Close, Current}
use Rattle.desk_core.specs.declared.event.Logged.{Logged}
use Rattle.desk_core.specs.Past.{Past, Moment, moments}
use Rattle.desk_core.specs.Events.{departs, arrives, is_arrival, event_verdict, verdict_in}
use Rattle.desk_core.specs.Counting.{is_live, sender, may_count, counted, verdicts}
use Rattle.desk_core.proofs.Items.{find-reverse, find-passes}

abbrev pub moment : Logged → Past → Moment
moment entry past = record { entry = entry; past = past }

pub sender-not : (opening : Network) (n : ℕ) (entry : Logged) (past : Past) (round e : ℕ) → (departs round e entry && is_live opening n past round e) ≡ false
    → sender opening n (entry ∷ past) round e ≡ sender opening n past round e
sender-not opening n entry past round e h =
    ap (λ b. option_map (λ (m : Moment). m.entry.caller) (cond b (Some (moment entry past)) (find (λ m. departs round e m.entry && is_live opening n m.past round e) (moments past)))) h

pub sender-noted : (opening : Network) (n : ℕ) (entry : Logged) (past : Past) (round e : ℕ) → (departs round e entry && is_live opening n past round e) ≡ true
    → sender opening n (entry ∷ past) round e ≡ Some entry.caller
sender-noted opening n entry past round e h =
    ap (λ b. option_map (λ (m : Moment). m.entry.caller) (cond b (Some (moment entry past)) (find (λ m. departs round e m.entry && is_live opening n m.past round e) (moments past)))) h

abbrev told_by : Option Moment → Option Verdict
told_by o = option_and_then (λ (m : Moment). verdict_in m.entry) o

-- what is counted after one entry more
counted-next : (opening : Network) (n : ℕ) (entry : Logged) (past : Past) (round e : ℕ) → counted opening n (entry ∷ past) round e
    ≡ told_by (option_or (find (may_count opening n round e) (reverse (moments past))) (cond (may_count opening n round e (moment entry past)) (Some (moment entry past)) None))
counted-next opening n entry past round e = ap told_by (find-reverse (may_count opening n round e) (moment entry past) (moments past))

option_or-none : {A : Type 0} (o : Option A) → option_or o None ≡ o
option_or-none None = refl
option_or-none (Some x) = refl

pub counted-not : (opening : Network) (n : ℕ) (entry : Logged) (past : Past) (round e : ℕ) → may_count opening n round e (moment entry past) ≡ false
    → counted opening n (entry ∷ past) round e ≡ counted opening n past round e
counted-not opening n entry past round e h =
    counted-next opening n entry past round e
    ∙ (ap (λ b. told_by (option_or (find (may_count opening n round e) (reverse (moments past))) (cond b (Some (moment entry past)) None))) h
    ∙ ap told_by (option_or-none (find (may_count opening n round e) (reverse (moments past)))))

given_stays : (o p : Option Moment) (v : Verdict) → told_by o ≡ Some v → told_by (option_or o p) ≡ Some v
given_stays None p v h = absurd (none-some v h)
given_stays (Some m) p v h = h

pub counted-given : (opening : Network) (n : ℕ) (entry : Logged) (past : Past) (round e : ℕ) (v : Verdict) → counted opening n past round e ≡ Some v
    → counted opening n (entry ∷ past) round e ≡ Some v
counted-given opening n entry past round e v h =
    counted-next opening n entry past round e
    ∙ given_stays (find (may_count opening n round e) (reverse (moments past))) (cond (may_count opening n round e (moment entry past)) (Some (moment entry past)) None) v h

event_told : (round e : ℕ) (event : LoggedEvent) → is_arrival round e event ≡ true → event_verdict event ≡ None → ⊥
event_told round e (Change change) h none = absurd (cc)
event_told round e OpenRound h none = absurd (cc)
event_told round e (Pin r) h none = absurd (cc)
event_told round e (Post r fits) h none = absurd (cc)
event_told round e (Depart r m) h none = absurd (cc)
event_told round e (Arrive r m verdict) h none = none-some verdict (sym none)
event_told round e (Locate r) h none = absurd (cc)
event_told round e (Close r) h none = absurd (cc)
event_told round e Current h none = absurd (cc)

pub and_right : (a b : Bool) → (a && b) ≡ true → b ≡ true
and_right true b h = h
and_right false b h = absurd (cc)

pub and_left : (a b : Bool) → (a && b) ≡ true → a ≡ true
and_left true b h = refl
and_left false b h = absurd (cc)

moment_told : (opening : Network) (n round e : ℕ) (m : Moment) → may_count opening n round e m ≡ true → verdict_in m.entry ≡ None → ⊥
moment_told opening n round e m h none =
    event_told round e m.entry.event (and_right m.entry.stored (is_arrival round e m.entry.event) (and_left (arrives round e m.entry) _ h)) none

first_told : (opening : Network) (n round e : ℕ) (ms : List Moment) (o p : Option Moment) → find (may_count opening n round e) ms ≡ o → told_by o ≡ None → told_by (option_or o p) ≡ told_by p
first_told opening n round e ms None p found none = refl
first_told opening n round e ms (Some m) p found none = absurd (moment_told opening n round e m (find-passes (may_count opening n round e) ms m found) none)

pub counted-first : (opening : Network) (n : ℕ) (entry : Logged) (past : Past) (round e : ℕ) → counted opening n past round e ≡ None → may_count opening n round e (moment entry past) ≡ true
    → counted opening n (entry ∷ past) round e ≡ verdict_in entry
counted-first opening n entry past round e none h =
    counted-next opening n entry past round e
    ∙ (first_told opening n round e (reverse (moments past)) (find (may_count opening n round e) (reverse (moments past))) (cond (may_count opening n round e (moment entry past)) (Some (moment entry past)) None) refl none
    ∙ ap (λ b. told_by (cond b (Some (moment entry past)) None)) h)

map-range : {X : Type 0} (f g : ℕ → X) (a n : ℕ) → ((k : ℕ) → f k ≡ g k) → map f (range_with_len a n) ≡ map g (range_with_len a n)
map-range f g a zero h = refl
map-range f g a (suc n) h = ap (λ x. x ∷ map f (range_with_len (a + 1) n)) (h a) ∙ ap (λ l. g a ∷ l) (map-range f g (a + 1) n h)

map-range-on : {X : Type 0} (f g : ℕ → X) (a n : ℕ) → ((k : ℕ) → a ≤ k → f k ≡ g k) → map f (range_with_len a n) ≡ map g (range_with_len a n)
map-range-on f g a zero h = refl
map-range-on f g a (suc n) h =
    ap (λ x. x ∷ map f (range_with_len (a + 1) n)) (h a (omega arith)) ∙ ap (λ l. g a ∷ l) (map-range-on f g (a + 1) n (λ k l. h k (omega (arith, l))))

pub verdicts-same : (opening : Network) (n : ℕ) (entry : Logged) (past : Past) (round : ℕ) → ((e : ℕ) → counted opening n (entry ∷ past) round e ≡ counted opening n past round e)
    → verdicts opening n (entry ∷ past) round ≡ verdicts opening n past round
verdicts-same opening n entry past round h = map-range (counted opening n (entry ∷ past) round) (counted opening n past round) 1 n h

-- maps that differ at one number differ at its place
map-range-set : {X : Type 0} (f g : ℕ → X) (a n k : ℕ) → k < n → ((j : ℕ) → j ≢ a + k → f j ≡ g j) → map f (range_with_len a n) ≡ slice_set (map g (range_with_len a n)) k (f (a + k))
map-range-set f g a zero k l h = let no : ⊥ = omega (arith, l) in absurd no
map-range-set f g a (suc n) zero l h =
    let e : a ≡ a + 0 = omega arith in
    ap (λ l. f a ∷ l) (map-range-on f g (a + 1) n (λ j above. h j (omega (arith, above)))) ∙ ap (λ x. f x ∷ map g (range_with_len (a + 1) n)) e
map-range-set f g a (suc n) (suc k) l h =
    let e : a + 1 + k ≡ a + suc k = omega arith in
    ap (λ x. x ∷ map f (range_with_len (a + 1) n)) (h a (omega arith))
    ∙ (ap (λ l. g a ∷ l) (map-range-set f g (a + 1) n k (omega (arith, l)) (λ j other. h j (λ same. other (same ∙ sym e))))
    ∙ ap (λ x. g a ∷ slice_set (map g (range_with_len (a + 1) n)) k (f x)) e)

pub verdicts-set : (opening : Network) (n : ℕ) (entry : Logged) (past : Past) (round e : ℕ) (v : Option Verdict) → 0 < e → e ≤ n
    → ((j : ℕ) → j ≢ e → counted opening n (entry ∷ past) round j ≡ counted opening n past round j) → counted opening n (entry ∷ past) round e ≡ v
    → verdicts opening n (entry ∷ past) round ≡ slice_set (verdicts opening n past round) (e - 1) v
verdicts-set opening n entry past round e v some inside others here =
    let at : 1 + (e - 1) ≡ e = omega (arith, some) in
    map-range-set (counted opening n (entry ∷ past) round) (counted opening n past round) 1 n (e - 1) (omega (arith, some, inside)) (λ j other. others j (λ same. other (same ∙ sym at)))
    ∙ ap (slice_set (verdicts opening n past round) (e - 1)) (ap (counted opening n (entry ∷ past) round) at ∙ here)

get-map-range : {X : Type 0} (f : ℕ → X) (a n k : ℕ) → k < n → slice_get (map f (range_with_len a n)) k ≡ Some (f (a + k))
get-map-range f a zero k l = let no : ⊥ = omega (arith, l) in absurd no
get-map-range f a (suc n) zero l = let e : a ≡ a + 0 = omega arith in ap (λ x. Some (f x)) e
get-map-range f a (suc n) (suc k) l = let e : a + 1 + k ≡ a + suc k = omega arith in get-map-range f (a + 1) n k (omega (arith, l)) ∙ ap (λ x. Some (f x)) e

pub verdict_at-verdicts : (opening : Network) (n : ℕ) (past : Past) (round e : ℕ) → 0 < e → e ≤ n → verdict_at (verdicts opening n past round) e ≡ counted opening n past round e
verdict_at-verdicts opening n past round zero some inside = let no : ⊥ = omega (arith, some) in absurd no
verdict_at-verdicts opening n past round (suc k) some inside =
    let at : 1 + k ≡ suc k = omega arith in
    ap inner (get-map-range (counted opening n past round) 1 n k (omega (arith, inside))) ∙ ap (counted opening n past round) at
