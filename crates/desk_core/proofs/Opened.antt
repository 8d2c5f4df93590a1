-- Rounds when one entry more is past.
use Rattle.std.specs.Prelude.{◌≡◌, ℕ, zero, suc, ◌+◌, ◌-◌, ◌<◌, ◌≤◌, ◌==◌, nat_lt, Bool, true, false, not, ◌&&◌, ◌||◌, cond, List, [], ◌∷◌, ◌++◌, length, take, Option, None, Some, slice_get, unwrap_or, if◌then◌else◌}
use Rattle.std.specs.List.{filter, list_any, range_with_len}
use Rattle.std.proofs.Common.{refl, sym, ap, ◌∙◌, ◌⊎◌, inl, inr, arith, ⊎_elim}
use Rattle.std.proofs.lemmas.Bool.{cases_lt}
use Rattle.std.proofs.lemmas.List.{length-append}
use Rattle.std.proofs.lemmas.List.Elements.{filter-append}
use Rattle.std.proofs.lemmas.Option.{slice_get_within, slice_get_past, none-some}
use Rattle.network_model.specs.Network.{Network}
use Rattle.desk_core.specs.declared.event.Logged.{Logged}
use Rattle.desk_core.specs.Past.{Past}
use Rattle.desk_core.specs.Events.{opens, closes}
use Rattle.desk_core.specs.Versions.{now}
use Rattle.desk_core.specs.Rounds.{most_open, opening_of, since, is_still_open, is_open_of, open_of, openings, is_open, open_rounds, at_opening}
use Rattle.desk_core.proofs.Items.{slice_get-old, slice_get-last, filter-range, filter-both, filter-same, range-last}

pub opening-old : (opened : List Past) (p : Past) (round : ℕ) → round ≤ length opened → opening_of (opened ++ p ∷ []) round ≡ opening_of opened round
opening-old opened p zero h = refl
opening-old opened p (suc k) h = slice_get-old opened p k (omega (arith, h))

pub opening-new : (opened : List Past) (p : Past) → opening_of (opened ++ p ∷ []) (suc (length opened)) ≡ Some p
opening-new opened p = slice_get-last opened p

pub opening_inside : (opened : List Past) (round : ℕ) (p : Past) → opening_of opened round ≡ Some p → (0 < round) × (round ≤ length opened)
opening_inside opened zero p h = absurd (none-some p h)
opening_inside opened (suc k) p h = let l = slice_get_within opened k p h in (omega arith, omega (arith, l))

pub opening_past : (opened : List Past) (p : Past) (round : ℕ) → length opened < round → (opening_of (opened ++ p ∷ []) round ≡ None) ⊎ ((round ≡ suc (length opened)) × (opening_of (opened ++ p ∷ []) round ≡ Some p))
opening_past opened p zero h = let no : ⊥ = omega (arith, h) in absurd no
opening_past opened p (suc k) h = ⊎_elim
    (λ (far : length opened < k). let l : length (opened ++ p ∷ []) ≤ k = omega (arith, far, length-append opened (p ∷ [])) in inl (slice_get_past (opened ++ p ∷ []) k l))
    (λ (near : k ≤ length opened). let e : k ≡ length opened = omega (arith, near, h) in inr (ap suc e, ap (slice_get (opened ++ p ∷ [])) e ∙ slice_get-last opened p))
    (cases_lt (length opened) k)

-- what was before a round was opened is no longer than what is past now
short_of : (b : Bool) (opened : List Past) (past : Past) → ((round : ℕ) (before : Past) → opening_of opened round ≡ Some before → length before ≤ length past)
    → (round : ℕ) (before : Past) → opening_of (if b then opened ++ past ∷ [] else opened) round ≡ Some before → length before ≤ suc (length past)
short_of false opened past each round before h = let l = each round before h in omega (arith, l)
short_of true opened past each round before h = ⊎_elim
    (λ (later : length opened < round). ⊎_elim
    (λ none. absurd (none-some before (sym none ∙ h)))
    (λ new. let same : past ≡ before = cc in let l : length past ≡ length before = ap length same in omega (arith, l))
    (opening_past opened past round later))
    (λ (old : round ≤ length opened). let l = each round before (sym (opening-old opened past round old) ∙ h) in omega (arith, l))
    (cases_lt (length opened) round)

pub opening_short : (past : Past) (round : ℕ) (before : Past) → opening_of (openings past) round ≡ Some before → length before ≤ length past
opening_short [] zero before h = absurd (none-some before h)
opening_short [] (suc k) before h = absurd (none-some before h)
opening_short (entry ∷ past) round before h =
    short_of (opens entry && nat_lt (length (open_rounds past)) most_open) (openings past) past (opening_short past) round before h

-- the rounds that were opened, after one entry more
pub openings_same : (entry : Logged) (past : Past) → opens entry ≡ false → openings (entry ∷ past) ≡ openings past
openings_same entry past h =
    ap (λ b. if b && nat_lt (length (open_rounds past)) most_open then openings past ++ past ∷ [] else openings past) h

pub openings_full : (entry : Logged) (past : Past) → opens entry ≡ true → nat_lt (length (open_rounds past)) most_open ≡ false → openings (entry ∷ past) ≡ openings past
openings_full entry past h full =
    ap (λ b. if b && nat_lt (length (open_rounds past)) most_open then openings past ++ past ∷ [] else openings past) h
    ∙ ap (λ b. if b then openings past ++ past ∷ [] else openings past) full

pub openings_more : (entry : Logged) (past : Past) → opens entry ≡ true → nat_lt (length (open_rounds past)) most_open ≡ true → openings (entry ∷ past) ≡ openings past ++ past ∷ []
openings_more entry past h few =
    ap (λ b. if b && nat_lt (length (open_rounds past)) most_open then openings past ++ past ∷ [] else openings past) h
    ∙ ap (λ b. if b then openings past ++ past ∷ [] else openings past) few

not_or : (a b : Bool) → not (a || b) ≡ (not b && not a)
not_or true true = refl
not_or true false = refl
not_or false true = refl
not_or false false = refl

still_open_next : (o : Option Past) (entry : Logged) (past : Past) (round : ℕ) → ((before : Past) → o ≡ Some before → length before ≤ length past)
    → is_still_open o (entry ∷ past) round ≡ (is_still_open o past round && not (closes round entry))
still_open_next None entry past round short = refl
still_open_next (Some before) entry past round short =
    let l = short before refl in
    let count : suc (length past) - length before ≡ suc (length past - length before) = omega (arith, l) in
    ap (λ n. not (list_any (closes round) (take n (entry ∷ past)))) count
    ∙ not_or (closes round entry) (list_any (closes round) (since before past))

-- a round stays open unless it is closed
pub open_next : (entry : Logged) (past : Past) (round : ℕ) → is_open_of (openings past) (entry ∷ past) round ≡ (is_open past round && not (closes round entry))
open_next entry past round = still_open_next (opening_of (openings past) round) entry past round (opening_short past round)

pub is_open_same : (entry : Logged) (past : Past) (round : ℕ) → openings (entry ∷ past) ≡ openings past → is_open (entry ∷ past) round ≡ (is_open past round && not (closes round entry))
is_open_same entry past round e = ap (λ opened. is_open_of opened (entry ∷ past) round) e ∙ open_next entry past round

and_true : (a b : Bool) → b ≡ false → (a && not b) ≡ a
and_true true b h = ap not h
and_true false b h = refl

and_kept : (a b : Bool) → (a ≡ true → b ≡ false) → (a && not b) ≡ a
and_kept true b h = ap not (h refl)
and_kept false b h = refl

pub open_rounds_same : (entry : Logged) (past : Past) → openings (entry ∷ past) ≡ openings past → ((round : ℕ) → is_open past round ≡ true → closes round entry ≡ false) → open_rounds (entry ∷ past) ≡ open_rounds past
open_rounds_same entry past e quiet =
    ap (λ opened. open_of opened (entry ∷ past)) e
    ∙ filter-same (is_open_of (openings past) (entry ∷ past)) (is_open past) (λ round. open_next entry past round ∙ and_kept (is_open past round) (closes round entry) (quiet round)) (range_with_len 1 (length (openings past)))

pub open_rounds_closed : (entry : Logged) (past : Past) (closed : ℕ) → openings (entry ∷ past) ≡ openings past → ((round : ℕ) → closes round entry ≡ (closed == round))
    → open_rounds (entry ∷ past) ≡ filter (λ round. not (closed == round)) (open_rounds past)
open_rounds_closed entry past closed e at =
    ap (λ opened. open_of opened (entry ∷ past)) e
    ∙ (filter-same (is_open_of (openings past) (entry ∷ past)) (λ round. is_open past round && not (closed == round))
    (λ round. open_next entry past round ∙ ap (λ b. is_open past round && not b) (at round)) (range_with_len 1 (length (openings past)))
    ∙ filter-both (is_open past) (λ round. not (closed == round)) (range_with_len 1 (length (openings past))))

take_one : (n : ℕ) → suc n - n ≡ 1
take_one n = omega arith

open_at_once : (entry : Logged) (past : Past) (round : ℕ) → closes round entry ≡ false → is_still_open (Some past) (entry ∷ past) round ≡ true
open_at_once entry past round h =
    ap (λ n. not (list_any (closes round) (take n (entry ∷ past)))) (take_one (length past)) ∙ ap (λ b. not (b || false)) h

pub open_rounds_more : (entry : Logged) (past : Past) → openings (entry ∷ past) ≡ openings past ++ past ∷ [] → ((round : ℕ) → closes round entry ≡ false)
    → open_rounds (entry ∷ past) ≡ open_rounds past ++ suc (length (openings past)) ∷ []
open_rounds_more entry past e quiet =
    let opened = openings past in
    let n = length opened in
    let test = is_open_of (opened ++ past ∷ []) (entry ∷ past) in
    let long : length (opened ++ past ∷ []) ≡ suc n = omega (arith, length-append opened (past ∷ [])) in
    let old : filter test (range_with_len 1 n) ≡ open_rounds past = filter-range test (is_open past) 1 n
    (λ round above below. ap (λ o. is_still_open o (entry ∷ past) round) (opening-old opened past round (omega (arith, below)))
    ∙ (open_next entry past round ∙ and_true (is_open past round) (closes round entry) (quiet round))) in
    let new : test (1 + n) ≡ true =
    let e : 1 + n ≡ suc n = omega arith in
    ap test e ∙ (ap (λ o. is_still_open o (entry ∷ past) (suc n)) (opening-new opened past) ∙ open_at_once entry past (suc n) (quiet (suc n))) in
    let one : 1 + n ≡ suc n = omega arith in
    ap (λ opened. open_of opened (entry ∷ past)) e
    ∙ (ap (λ n. filter test (range_with_len 1 n)) long
    ∙ (ap (filter test) (range-last 1 n)
    ∙ (filter-append test (range_with_len 1 n) ((1 + n) ∷ [])
    ∙ (ap (λ l. l ++ cond (test (1 + n)) ((1 + n) ∷ []) []) old
    ∙ (ap (λ b. open_rounds past ++ cond b ((1 + n) ∷ []) []) new
    ∙ ap (λ m. open_rounds past ++ m ∷ []) one)))))

kept_opening : (b : Bool) (opened : List Past) (past : Past) (round : ℕ) → round ≤ length opened → opening_of (if b then opened ++ past ∷ [] else opened) round ≡ opening_of opened round
kept_opening true opened past round h = opening-old opened past round h
kept_opening false opened past round h = refl

-- what was before a round was opened doesn't change
pub opening_stays : (entry : Logged) (past : Past) (round : ℕ) → round ≤ length (openings past) → opening_of (openings (entry ∷ past)) round ≡ opening_of (openings past) round
opening_stays entry past round h = kept_opening (opens entry && nat_lt (length (open_rounds past)) most_open) (openings past) past round h

pub at_opening_stays : (opening : Network) (entry : Logged) (past : Past) (round : ℕ) → round ≤ length (openings past) → at_opening opening (entry ∷ past) round ≡ at_opening opening past round
at_opening_stays opening entry past round h = ap (λ o. now opening (unwrap_or o [])) (opening_stays entry past round h)

inside_of : (o : Option Past) (opened : List Past) (past : Past) (round : ℕ) → opening_of opened round ≡ o → is_still_open o past round ≡ true → (0 < round) × (round ≤ length opened)
inside_of None opened past round e h = absurd (cc)
inside_of (Some before) opened past round e h = opening_inside opened round before e

pub open_inside : (past : Past) (round : ℕ) → is_open past round ≡ true → (0 < round) × (round ≤ length (openings past))
open_inside past round h = inside_of (opening_of (openings past) round) (openings past) past round refl h
