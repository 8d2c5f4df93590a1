-- What is kept of all rounds when one entry more is past.
use Rattle.std.specs.Prelude.{◌≡◌, ◌≢◌, ℕ, zero, suc, ◌+◌, ◌<◌, ◌≤◌, ◌==◌, nat_lt, Bool, true, false, not, ◌&&◌, List, [], ◌∷◌, ◌++◌, length, map, remove, slice_set, slice_index, slice_index_or, unwrap_or, Option, None, if◌then◌else◌}
use Rattle.std.specs.List.{filter}
use Rattle.std.proofs.Common.{refl, sym, ap, ◌∙◌, arith, ⊎_elim, subst}
use Rattle.std.proofs.lemmas.Bool.{cases_eq, cases_lt, false_from_ne_true}
use Rattle.std.proofs.lemmas.List.{length-append, length-map, length-set, map-append, get_or-map, get_or-set_same, get_or-set_other}
use Rattle.std.proofs.lemmas.List.Edits.{get_or-remove_below, get_or-remove_above, length-remove}
use Rattle.std.proofs.Math.Seq.{map-set_same}
use Rattle.network_model.specs.Network.{Network}
use Rattle.net_versions.specs.VersionsValue.{VersionsValue}
use Rattle.desk_core.specs.declared.event.Logged.{Logged}
use Rattle.desk_core.specs.Past.{Past}
use Rattle.desk_core.specs.Events.{opens, closes, posts}
use Rattle.desk_core.specs.Versions.{now}
use Rattle.desk_core.specs.Rounds.{most_open, opening_of, openings, is_open, open_rounds, at_opening, is_posted}
use Rattle.desk_core.specs.RoundsValue.{PostedValue, RoundValue, RoundsValue}
use Rattle.desk_core.specs.Keeping.{IsPlanned, IsRound, Mirrors}
use Rattle.desk_core.proofs.Found.{number_of, kept_open, number_contained}
use Rattle.desk_core.proofs.Kept.{IsQuiet, round_quiet, unposted_stays, and_false, and_false_right}
use Rattle.desk_core.proofs.Opened.{open_rounds_same, open_rounds_closed, open_rounds_more, open_inside, opening-new}
use Rattle.desk_core.proofs.Rising.{Above, above_filter, above_distinct, remove-above}

-- a round that is kept is open
pub kept_there : (opening : Network) (hops : ℕ) (past : Past) (v : RoundsValue) → Mirrors opening hops past v → (i : ℕ) (d : RoundValue) → i < length v.open_rounds
    → is_open past (slice_index_or v.open_rounds i d).number ≡ true
kept_there opening hops past v m i d l = kept_open past v.open_rounds m.numbers (slice_index_or v.open_rounds i d).number (number_contained v.open_rounds i d l)

pub mirrors_same : (opening : Network) (hops : ℕ) (entry : Logged) (past : Past) (v : RoundsValue) → Mirrors opening hops past v
    → now opening (entry ∷ past) ≡ now opening past → openings (entry ∷ past) ≡ openings past → ((round : ℕ) → is_open past round ≡ true → closes round entry ≡ false)
    → ((i : ℕ) (d : RoundValue) → i < length v.open_rounds → IsRound opening hops (entry ∷ past) (slice_index_or v.open_rounds i d))
    → Mirrors opening hops (entry ∷ past) v
mirrors_same opening hops entry past v m now_same openings_same none each = record {
  now_is = m.now_is ∙ sym now_same;
  opened_are = m.opened_are ∙ sym (ap length openings_same);
  numbers = m.numbers ∙ sym (open_rounds_same entry past openings_same none);
  each = each;
}

pub mirrors_quiet : (opening : Network) (hops : ℕ) (entry : Logged) (past : Past) (v : RoundsValue) → Mirrors opening hops past v
    → now opening (entry ∷ past) ≡ now opening past → openings (entry ∷ past) ≡ openings past → ((round : ℕ) → is_open past round ≡ true → closes round entry ≡ false)
    → ((round : ℕ) → is_open past round ≡ true → IsQuiet entry round)
    → Mirrors opening hops (entry ∷ past) v
mirrors_quiet opening hops entry past v m now_same openings_same none quiet =
    mirrors_same opening hops entry past v m now_same openings_same none
    (λ i d l. let there = kept_there opening hops past v m i d l in
    round_quiet opening hops entry past (slice_index_or v.open_rounds i d) there (quiet (slice_index_or v.open_rounds i d).number there) (m.each i d l))

pub number_at : (kept : List RoundValue) (i : ℕ) (d : RoundValue) → i < length kept → slice_index (map number_of kept) i ≡ (slice_index_or kept i d).number
number_at kept i d l = get_or-map number_of kept i d 0 l

rising : (opening : Network) (hops : ℕ) (past : Past) (v : RoundsValue) → Mirrors opening hops past v → Above 1 (map number_of v.open_rounds)
rising opening hops past v m = let P : List ℕ → Type 0 = λ l. Above 1 l in subst P (sym m.numbers) (above_filter (is_open past) 1 (length (openings past)))

-- no two rounds have the same number
pub numbers_differ : (opening : Network) (hops : ℕ) (past : Past) (v : RoundsValue) → Mirrors opening hops past v → (i j : ℕ) (d : RoundValue) → i < length v.open_rounds → j < length v.open_rounds
    → (slice_index_or v.open_rounds i d).number ≡ (slice_index_or v.open_rounds j d).number → i ≡ j
numbers_differ opening hops past v m i j d li lj e =
    let ni : i < length (map number_of v.open_rounds) = omega (arith, li, length-map v.open_rounds number_of) in
    let nj : j < length (map number_of v.open_rounds) = omega (arith, lj, length-map v.open_rounds number_of) in
    above_distinct 1 (map number_of v.open_rounds) (rising opening hops past v m) i j ni nj
    (number_at v.open_rounds i d li ∙ (e ∙ sym (number_at v.open_rounds j d lj)))

-- one round is kept otherwise
pub mirrors_put : (opening : Network) (hops : ℕ) (entry : Logged) (past : Past) (v : RoundsValue) → Mirrors opening hops past v
    → now opening (entry ∷ past) ≡ now opening past → openings (entry ∷ past) ≡ openings past → ((round : ℕ) → is_open past round ≡ true → closes round entry ≡ false)
    → (i : ℕ) (r r' : RoundValue) → i < length v.open_rounds → ((d : RoundValue) → slice_index_or v.open_rounds i d ≡ r) → r'.number ≡ r.number → IsRound opening hops (entry ∷ past) r'
    → ((round : ℕ) → round ≢ r.number → IsQuiet entry round)
    → Mirrors opening hops (entry ∷ past) (record v { open_rounds = slice_set v.open_rounds i r' })
mirrors_put opening hops entry past v m now_same openings_same none i r r' l at number is quiet = record {
  now_is = m.now_is ∙ sym now_same;
  opened_are = m.opened_are ∙ sym (ap length openings_same);
  numbers = map-set_same number_of v.open_rounds i r' r (number ∙ sym (ap number_of (at r))) ∙ (m.numbers ∙ sym (open_rounds_same entry past openings_same none));
  each = λ j d lj.
      let inside : j < length v.open_rounds = omega (arith, lj, length-set v.open_rounds i r') in
      ⊎_elim
      (λ (same : j ≡ i).
      let P : RoundValue → Type 0 = λ s. IsRound opening hops (entry ∷ past) s in
      let e : slice_index_or (slice_set v.open_rounds i r') j d ≡ r' = ap (λ k. slice_index_or (slice_set v.open_rounds i r') k d) same ∙ rw get_or-set_same refl in
      subst P (sym e) is)
      (λ (other : j ≢ i).
      let P : RoundValue → Type 0 = λ s. IsRound opening hops (entry ∷ past) s in
      let e : slice_index_or (slice_set v.open_rounds i r') j d ≡ slice_index_or v.open_rounds j d = rw get_or-set_other refl in
      let there = kept_there opening hops past v m j d inside in
      let differs : (slice_index_or v.open_rounds j d).number ≢ r.number =
      λ same. other (numbers_differ opening hops past v m j i d inside l (same ∙ sym (ap number_of (at d)))) in
      subst P (sym e) (round_quiet opening hops entry past (slice_index_or v.open_rounds j d) there (quiet (slice_index_or v.open_rounds j d).number differs) (m.each j d inside)))
      (cases_eq j i);
}

map-remove : {X Y : Type 0} (f : X → Y) (xs : List X) (i : ℕ) → map f (remove xs i) ≡ remove (map f xs) i
map-remove f [] zero = refl
map-remove f [] (suc i) = refl
map-remove f (x ∷ xs) zero = refl
map-remove f (x ∷ xs) (suc i) = ap (λ l. f x ∷ l) (map-remove f xs i)

pub closed_numbers : (opening : Network) (hops : ℕ) (past : Past) (v : RoundsValue) → Mirrors opening hops past v → (i closed : ℕ) → i < length v.open_rounds → slice_index (map number_of v.open_rounds) i ≡ closed
    → map number_of (remove v.open_rounds i) ≡ filter (λ x. not (closed == x)) (open_rounds past)
closed_numbers opening hops past v m i closed l at =
    let inside : i < length (map number_of v.open_rounds) = omega (arith, l, length-map v.open_rounds number_of) in
    map-remove number_of v.open_rounds i
    ∙ (remove-above 1 (map number_of v.open_rounds) (rising opening hops past v m) i inside
    ∙ (ap (λ n. filter (λ x. not (n == x)) (map number_of v.open_rounds)) at
    ∙ ap (filter (λ x. not (closed == x))) m.numbers))

-- a round is kept no more
pub mirrors_closed : (opening : Network) (hops : ℕ) (entry : Logged) (past : Past) (v : RoundsValue) → Mirrors opening hops past v
    → now opening (entry ∷ past) ≡ now opening past → openings (entry ∷ past) ≡ openings past
    → (i : ℕ) (r : RoundValue) → i < length v.open_rounds → ((d : RoundValue) → slice_index_or v.open_rounds i d ≡ r) → ((round : ℕ) → closes round entry ≡ (r.number == round))
    → ((round : ℕ) → IsQuiet entry round)
    → Mirrors opening hops (entry ∷ past) (record v { open_rounds = remove v.open_rounds i })
mirrors_closed opening hops entry past v m now_same openings_same i r l at closing quiet = record {
  now_is = m.now_is ∙ sym now_same;
  opened_are = m.opened_are ∙ sym (ap length openings_same);
  numbers = closed_numbers opening hops past v m i r.number l (number_at v.open_rounds i r l ∙ ap number_of (at r)) ∙ sym (open_rounds_closed entry past r.number openings_same closing);
  each = λ j d lj.
      let count = length-remove v.open_rounds i l in
      let P : RoundValue → Type 0 = λ s. IsRound opening hops (entry ∷ past) s in
      let old = λ (k : ℕ) (lk : k < length v.open_rounds).
      round_quiet opening hops entry past (slice_index_or v.open_rounds k d) (kept_there opening hops past v m k d lk) (quiet (slice_index_or v.open_rounds k d).number) (m.each k d lk) in
      ⊎_elim
      (λ (below : j < i). subst P (sym (get_or-remove_below v.open_rounds i d j below l)) (old j (omega (arith, below, l))))
      (λ (above : i ≤ j). subst P (sym (get_or-remove_above v.open_rounds i d j above l)) (old (j + 1) (omega (arith, lj, count))))
      (cases_lt j i);
}

-- the network has changed
pub mirrors_changed : (opening : Network) (hops : ℕ) (entry : Logged) (past : Past) (v : RoundsValue) (w : VersionsValue) → Mirrors opening hops past v
    → now opening (entry ∷ past) ≡ w → openings (entry ∷ past) ≡ openings past → ((round : ℕ) → closes round entry ≡ false) → ((round : ℕ) → IsQuiet entry round)
    → Mirrors opening hops (entry ∷ past) (record v { now = w })
mirrors_changed opening hops entry past v w m now_is openings_same none quiet = record {
  now_is = sym now_is;
  opened_are = m.opened_are ∙ sym (ap length openings_same);
  numbers = m.numbers ∙ sym (open_rounds_same entry past openings_same (λ round there. none round));
  each = λ i d l.
      round_quiet opening hops entry past (slice_index_or v.open_rounds i d) (kept_there opening hops past v m i d l) (quiet (slice_index_or v.open_rounds i d).number) (m.each i d l);
}

get_or-old : {X : Type 0} (xs : List X) (y d : X) (k : ℕ) → k < length xs → slice_index_or (xs ++ y ∷ []) k d ≡ slice_index_or xs k d
get_or-old [] y d k h = let no : ⊥ = omega (arith, h) in absurd no
get_or-old (x ∷ xs) y d zero h = refl
get_or-old (x ∷ xs) y d (suc k) h = get_or-old xs y d k (omega (arith, h))

get_or-last : {X : Type 0} (xs : List X) (y d : X) → slice_index_or (xs ++ y ∷ []) (length xs) d ≡ y
get_or-last [] y d = refl
get_or-last (x ∷ xs) y d = get_or-last xs y d

grown : (b : Bool) (opened : List Past) (past : Past) → length opened ≤ length (if b then opened ++ past ∷ [] else opened)
grown true opened past = omega (arith, length-append opened (past ∷ []))
grown false opened past = omega arith

-- a round that was not opened has no plan
pub unopened : (past : Past) (round : ℕ) → length (openings past) < round → is_posted past round ≡ false
unopened [] round h = refl
unopened (entry ∷ past) round h =
    let more = grown (opens entry && nat_lt (length (open_rounds past)) most_open) (openings past) past in
    let before : length (openings past) < round = omega (arith, more, h) in
    let shut : is_open past round ≡ false = false_from_ne_true (is_open past round) (λ there. let inside = (open_inside past round there).1 in let no : ⊥ = omega (arith, inside, before) in no) in
    unposted_stays entry past round (and_false_right (posts round entry) (is_open past round) shut) (unopened past round before)

-- one round more
pub mirrors_opened : (opening : Network) (hops : ℕ) (entry : Logged) (past : Past) (v : RoundsValue) (r : RoundValue) → Mirrors opening hops past v
    → now opening (entry ∷ past) ≡ now opening past → openings (entry ∷ past) ≡ openings past ++ past ∷ [] → ((round : ℕ) → closes round entry ≡ false) → ((round : ℕ) → IsQuiet entry round)
    → r.number ≡ suc v.opened → r.pinned ≡ v.now → r.posted ≡ None
    → Mirrors opening hops (entry ∷ past) (record { now = v.now; opened = suc v.opened; open_rounds = v.open_rounds ++ r ∷ [] })
mirrors_opened opening hops entry past v r m now_same more none quiet number pinned unposted =
    let n = length (openings past) in
    let same : r.number ≡ suc n = number ∙ ap suc m.opened_are in
    record {
      now_is = m.now_is ∙ sym now_same;
      opened_are = ap suc m.opened_are ∙ (let e : suc n ≡ length (openings past ++ past ∷ []) = omega (arith, length-append (openings past) (past ∷ [])) in e ∙ sym (ap length more));
      numbers = map-append number_of v.open_rounds (r ∷ []) ∙ (ap (λ l. l ++ r.number ∷ []) m.numbers ∙ (ap (λ k. open_rounds past ++ k ∷ []) same ∙ sym (open_rounds_more entry past more none)));
      each = λ i d l.
          let P : RoundValue → Type 0 = λ s. IsRound opening hops (entry ∷ past) s in
          ⊎_elim
          (λ (old : i < length v.open_rounds). subst P (sym (get_or-old v.open_rounds r d i old))
          (round_quiet opening hops entry past (slice_index_or v.open_rounds i d) (kept_there opening hops past v m i d old) (quiet (slice_index_or v.open_rounds i d).number) (m.each i d old)))
          (λ (past_old : length v.open_rounds ≤ i).
          let at : i ≡ length v.open_rounds = omega (arith, past_old, l, length-append v.open_rounds (r ∷ [])) in
          let e : slice_index_or (v.open_rounds ++ r ∷ []) i d ≡ r = ap (λ k. slice_index_or (v.open_rounds ++ r ∷ []) k d) at ∙ get_or-last v.open_rounds r d in
          subst P (sym e) (record {
            pinned_is = pinned ∙ (m.now_is ∙ sym (ap (λ k. at_opening opening (entry ∷ past) k) same ∙ (ap (λ opened. now opening (unwrap_or (opening_of opened (suc n)) [])) more ∙ ap (λ o. now opening (unwrap_or o [])) (opening-new (openings past) past))));
            planned =
                let Q : Option PostedValue → Type 0 = λ o. IsPlanned opening hops (entry ∷ past) r.number o in
                let shut : is_posted (entry ∷ past) (suc n) ≡ false =
                unposted_stays entry past (suc n) (and_false (posts (suc n) entry) (is_open past (suc n)) ((quiet (suc n)).no_post)) (unopened past (suc n) (omega arith)) in
                subst Q (sym unposted) (ap (is_posted (entry ∷ past)) same ∙ shut);
          }))
          (cases_lt i (length v.open_rounds));
    }
