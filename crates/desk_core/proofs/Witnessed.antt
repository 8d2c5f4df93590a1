-- Behind each outcome that counts stand the opening of its round, a departure and an arrival, with no change between the first and the last.
use Rattle.std.specs.Prelude.{◌≡◌, ℕ, zero, suc, ◌+◌, ◌<◌, ◌≤◌, ◌==◌, nat_lt, Bool, true, false, not, ◌&&◌, cond, List, [], ◌∷◌, ◌++◌, length, map, reverse, Option, None, Some, Contains, IsTrue, unwrap_or, if◌then◌else◌}
use Rattle.std.specs.List.{find, range_with_len}
use Rattle.std.specs.Option.{option_map, option_or, option_and_then}
use Rattle.std.proofs.Common.{refl, sym, ap, ◌∙◌, subst, arith, ⊎_elim}
use Rattle.std.proofs.lemmas.Bool.{cases_lt, eqb-true, ltb-true, true≢false, false_from_ne_true}
use Rattle.std.proofs.lemmas.List.{append_assoc, length-append}
use Rattle.std.proofs.lemmas.Option.{none-some}
use Rattle.list_laws.proofs.Members.{Contains-nil, Contains-cons_cases}
use Rattle.network_model.specs.Network.{Network}
use Rattle.net_types.specs.Refusals.{Refusal}
use Rattle.net_versions.specs.declared.change.Change.{Change as Changing}
use Rattle.net_versions.specs.Changes.{change_refusal}
use Rattle.net_versions.specs.VersionsValue.{VersionsValue}
use Rattle.fault_model.specs.Outcomes.{Outcome}
use Rattle.suspect_book.specs.declared.verdict.Verdict.{Verdict}
use Rattle.suspect_book.specs.Verdicts.{meaning, outcomes_from}
use Rattle.desk_core.specs.declared.event.Logged.{Logged}
use Rattle.desk_core.specs.Past.{Past, Moment, moments}
use Rattle.desk_core.specs.Events.{change_of, opens, departs, arrives, verdict_in}
use Rattle.desk_core.specs.Versions.{now, changed_by, unless_refused}
use Rattle.desk_core.specs.Rounds.{most_open, opening_of, is_still_open, openings, is_open, open_rounds, is_posted, at_opening, is_current}
use Rattle.desk_core.specs.Counting.{is_entry, is_live, is_caller, sender, may_count, counted, outcomes}
use Rattle.desk_core.specs.Witnesses.{Place, is_free, takes, is_accepted, IsOpening, IsWitnessed, AreWitnessed}
use Rattle.desk_core.proofs.Items.{find-reverse}
use Rattle.desk_core.proofs.Opened.{opening-old, opening_inside, opening_past, opening_stays}
use Rattle.desk_core.proofs.Counts.{moment, and_left, and_right}

-- what was before a place of a history
record Ends (past before : Past) : Type 0 where
  pub later : Past
  pub whole : past ≡ later ++ before

ends_trans : (a b c : Past) → Ends a b → Ends b c → Ends a c
ends_trans a b c p q = record {
  later = p.later ++ q.later;
  whole = p.whole ∙ (ap (λ l. p.later ++ l) q.whole ∙ sym (append_assoc p.later q.later c));
}

place_ends : (past : Past) (p : Place past) → Ends past p.before
place_ends past p = record {
  later = p.later ++ p.entry ∷ [];
  whole = p.whole ∙ sym (append_assoc p.later (p.entry ∷ []) p.before);
}

place_after : (past : Past) (p : Place past) → Ends past (p.entry ∷ p.before)
place_after past p = record { later = p.later; whole = p.whole }

place_short : (past : Past) (p : Place past) → length p.before < length past
place_short past p = let l = ap length p.whole in omega (arith, l, length-append p.later (p.entry ∷ p.before))

-- of two such the longer has the shorter at its end
ends_within : (la a lb b : Past) → la ++ a ≡ lb ++ b → length a ≤ length b → Ends b a
ends_within la a [] b e l = record { later = la; whole = sym e }
ends_within [] a (y ∷ ys) b e l = let n = ap length e in absurd (omega (arith, n, l, length-append ys b))
ends_within (x ∷ xs) a (y ∷ ys) b e l = let rest : xs ++ a ≡ ys ++ b = cc in ends_within xs a ys b rest l

-- versions

accepted_more : (v : VersionsValue) (change : Changing) (o : Option Refusal) → is_free o ≡ true → (unless_refused v change o).version ≡ suc v.version
accepted_more v change None h = omega arith
accepted_more v change (Some why) h = absurd (cc)

taken_more : (v : VersionsValue) (o : Option Changing) → takes v.net o ≡ true → (changed_by v o).version ≡ suc v.version
taken_more v None h = absurd (cc)
taken_more v (Some change) h = accepted_more v change (change_refusal v.net change) h

unless_no_fall : (v : VersionsValue) (change : Changing) (o : Option Refusal) → v.version ≤ (unless_refused v change o).version
unless_no_fall v change None = omega arith
unless_no_fall v change (Some why) = omega arith

change_no_fall : (v : VersionsValue) (o : Option Changing) → v.version ≤ (changed_by v o).version
change_no_fall v None = omega arith
change_no_fall v (Some change) = unless_no_fall v change (change_refusal v.net change)

version_grown : (opening : Network) (later before : Past) → (now opening before).version ≤ (now opening (later ++ before)).version
version_grown opening [] before = omega arith
version_grown opening (x ∷ later) before =
    let l = version_grown opening later before in
    let s = change_no_fall (now opening (later ++ before)) (change_of x) in
    omega (arith, l, s)

version_ends : (opening : Network) (past before : Past) → Ends past before → (now opening before).version ≤ (now opening past).version
version_ends opening past before e =
    let l = version_grown opening e.later before in
    let same : (now opening past).version ≡ (now opening (e.later ++ before)).version = ap (λ p. (now opening p).version) e.whole in
    omega (arith, l, same)

-- where the version is that of an earlier place, no change since was accepted
no_change : (opening : Network) (past before : Past) → Ends past before → (now opening before).version ≡ (now opening past).version
    → (other : Place past) → length before ≤ length other.before → is_accepted opening other.before other.entry ≡ false
no_change opening past before ended same other later =
    false_from_ne_true (is_accepted opening other.before other.entry) (λ taken.
    let first = place_ends past other in
    let within = ends_within ended.later before first.later other.before (sym ended.whole ∙ first.whole) later in
    let up = version_ends opening other.before before within in
    let on = version_ends opening past (other.entry ∷ other.before) (place_after past other) in
    let more : (now opening (other.entry ∷ other.before)).version ≡ suc (now opening other.before).version = taken_more (now opening other.before) (change_of other.entry) taken in
    omega (arith, up, on, more, same))

-- the opening of a round

record Opened (past : Past) (round : ℕ) (before : Past) : Type 0 where
  pub entry : Logged
  pub later : Past
  pub whole : past ≡ later ++ entry ∷ before
  pub opens_it : IsOpening before entry round

opened_earlier : (x : Logged) (past : Past) (round : ℕ) (before : Past) → Opened past round before → Opened (x ∷ past) round before
opened_earlier x past round before o = record {
  entry = o.entry;
  later = x ∷ o.later;
  whole = ap (λ l. x ∷ l) o.whole;
  opens_it = o.opens_it;
}

opened_now : (x : Logged) (past : Past) (round : ℕ) → (opens x && nat_lt (length (open_rounds past)) most_open) ≡ true → round ≡ suc (length (openings past)) → Opened (x ∷ past) round past
opened_now x past round both number = record {
  entry = x;
  later = [];
  whole = refl;
  opens_it = record {
    asked = and_left (opens x) (nat_lt (length (open_rounds past)) most_open) both;
    few = ltb-true (length (open_rounds past)) most_open (and_right (opens x) (nat_lt (length (open_rounds past)) most_open) both);
    number = number;
  };
}

opened_case : (x : Logged) (past : Past) (round : ℕ) (before : Past) → (opening_of (openings past) round ≡ Some before → Opened past round before)
    → (b : Bool) → (opens x && nat_lt (length (open_rounds past)) most_open) ≡ b
    → opening_of (if b then openings past ++ past ∷ [] else openings past) round ≡ Some before → Opened (x ∷ past) round before
opened_case x past round before each false e h = opened_earlier x past round before (each h)
opened_case x past round before each true e h = ⊎_elim
    (λ (later : length (openings past) < round). ⊎_elim
    (λ none. absurd (none-some before (sym none ∙ h)))
    (λ new. let same : past ≡ before = cc in subst (Opened (x ∷ past) round) same (opened_now x past round e new.0))
    (opening_past (openings past) past round later))
    (λ (old : round ≤ length (openings past)). opened_earlier x past round before (each (sym (opening-old (openings past) past round old) ∙ h)))
    (cases_lt (length (openings past)) round)

opened_there : (past : Past) (round : ℕ) (before : Past) → opening_of (openings past) round ≡ Some before → Opened past round before
opened_there [] zero before h = absurd (none-some before h)
opened_there [] (suc k) before h = absurd (none-some before h)
opened_there (x ∷ past) round before h =
    opened_case x past round before (opened_there past round before) (opens x && nat_lt (length (open_rounds past)) most_open) refl h

opening_kept : (later past : Past) (round : ℕ) (before : Past) → opening_of (openings past) round ≡ Some before → opening_of (openings (later ++ past)) round ≡ Some before
opening_kept [] past round before h = h
opening_kept (x ∷ later) past round before h =
    let there = opening_kept later past round before h in
    opening_stays x (later ++ past) round (opening_inside (openings (later ++ past)) round before there).1 ∙ there

record HasOpening (past : Past) (round : ℕ) : Type 0 where
  pub before : Past
  pub is : opening_of (openings past) round ≡ Some before

has_opening : (o : Option Past) (past : Past) (round : ℕ) → opening_of (openings past) round ≡ o → is_still_open o past round ≡ true → HasOpening past round
has_opening None past round e h = absurd (cc)
has_opening (Some before) past round e h = record { before = before; is = e }

-- the latest moment that passes a test

record Latest (p : Moment → Bool) (past : Past) (m : Moment) : Type 0 where
  pub later : Past
  pub whole : past ≡ later ++ m.entry ∷ m.past
  pub passes : p m ≡ true
  pub last : (other : Place past) → p (moment other.entry other.before) ≡ true → length other.before ≤ length m.past

no_later : (p : Moment → Bool) (x : Logged) (past : Past) (m : Moment) → p (moment x past) ≡ false
    → ((other : Place past) → p (moment other.entry other.before) ≡ true → length other.before ≤ length m.past)
    → (later : Past) (entry : Logged) (before : Past) → x ∷ past ≡ later ++ entry ∷ before → p (moment entry before) ≡ true → length before ≤ length m.past
no_later p x past m fails last [] entry before e h =
    let entry_is : x ≡ entry = cc in
    let before_is : past ≡ before = cc in
    absurd (true≢false (sym h ∙ (sym (ap (λ y. p (moment y before)) entry_is) ∙ (sym (ap (λ b. p (moment x b)) before_is) ∙ fails))))
no_later p x past m fails last (y ∷ ys) entry before e h =
    let rest : past ≡ ys ++ entry ∷ before = cc in
    last (record { later = ys; entry = entry; before = before; whole = rest }) h

latest_here : (p : Moment → Bool) (x : Logged) (past : Past) → p (moment x past) ≡ true → Latest p (x ∷ past) (moment x past)
latest_here p x past h = record {
  later = [];
  whole = refl;
  passes = h;
  last = λ other passes. let l = place_short (x ∷ past) other in omega (arith, l);
}

latest_case : (p : Moment → Bool) (x : Logged) (past : Past) (m : Moment) → (find p (moments past) ≡ Some m → Latest p past m)
    → (b : Bool) → p (moment x past) ≡ b → cond b (Some (moment x past)) (find p (moments past)) ≡ Some m → Latest p (x ∷ past) m
latest_case p x past m each true e h = let same : moment x past ≡ m = cc in subst (Latest p (x ∷ past)) same (latest_here p x past e)
latest_case p x past m each false e h =
    let l = each h in
    record {
      later = x ∷ l.later;
      whole = ap (λ r. x ∷ r) l.whole;
      passes = l.passes;
      last = λ other passes. no_later p x past m e l.last other.later other.entry other.before other.whole passes;
    }

find_latest : (p : Moment → Bool) (past : Past) (m : Moment) → find p (moments past) ≡ Some m → Latest p past m
find_latest p [] m h = absurd (none-some m h)
find_latest p (x ∷ past) m h = latest_case p x past m (find_latest p past m) (p (moment x past)) refl h

-- a moment that passes a test

record Found (p : Moment → Bool) (past : Past) (m : Moment) : Type 0 where
  pub later : Past
  pub whole : past ≡ later ++ m.entry ∷ m.past
  pub passes : p m ≡ true

found_here : (p : Moment → Bool) (x : Logged) (past : Past) (m : Moment) (b : Bool) → p (moment x past) ≡ b → cond b (Some (moment x past)) None ≡ Some m → Found p (x ∷ past) m
found_here p x past m false e h = absurd (none-some m h)
found_here p x past m true e h = let same : moment x past ≡ m = cc in subst (Found p (x ∷ past)) same (record { later = []; whole = refl; passes = e })

found_case : (p : Moment → Bool) (x : Logged) (past : Past) (m : Moment) → (find p (reverse (moments past)) ≡ Some m → Found p past m)
    → (o : Option Moment) → find p (reverse (moments past)) ≡ o → option_or o (cond (p (moment x past)) (Some (moment x past)) None) ≡ Some m → Found p (x ∷ past) m
found_case p x past m each None e h = found_here p x past m (p (moment x past)) refl h
found_case p x past m each (Some n) e h =
    let f = each (e ∙ h) in
    record { later = x ∷ f.later; whole = ap (λ r. x ∷ r) f.whole; passes = f.passes }

find_first : (p : Moment → Bool) (past : Past) (m : Moment) → find p (reverse (moments past)) ≡ Some m → Found p past m
find_first p [] m h = absurd (none-some m h)
find_first p (x ∷ past) m h =
    found_case p x past m (find_first p past m) (find p (reverse (moments past))) refl (sym (find-reverse p (moment x past) (moments past)) ∙ h)

-- who noted the departure

record Noted (q : Moment → Bool) (past : Past) (caller : ℕ) : Type 0 where
  pub at : Moment
  pub is : find q (moments past) ≡ Some at
  pub by : at.entry.caller ≡ caller

noted_by : (q : Moment → Bool) (past : Past) (caller : ℕ) (o : Option Moment) → find q (moments past) ≡ o
    → is_caller (option_map (λ (m : Moment). m.entry.caller) o) caller ≡ true → Noted q past caller
noted_by q past caller None e h = absurd (cc)
noted_by q past caller (Some m) e h = record { at = m; is = e; by = eqb-true m.entry.caller caller h }

-- the arrival that counts

record Arrived (p : Moment → Bool) (past : Past) (v : Verdict) : Type 0 where
  pub at : Moment
  pub is : find p (reverse (moments past)) ≡ Some at
  pub told : verdict_in at.entry ≡ Some v

arrived_with : (p : Moment → Bool) (past : Past) (v : Verdict) (o : Option Moment) → find p (reverse (moments past)) ≡ o
    → option_and_then (λ (m : Moment). verdict_in m.entry) o ≡ Some v → Arrived p past v
arrived_with p past v None e h = absurd (none-some v h)
arrived_with p past v (Some m) e h = record { at = m; is = e; told = h }

-- an outcome is of an entry that has a verdict

record Told (f : ℕ → Option Verdict) (o : Outcome) : Type 0 where
  pub verdict : Verdict
  pub is : f o.entry ≡ Some verdict
  pub means : meaning verdict ≡ o.verdict

told_here : (f : ℕ → Option Verdict) (a : ℕ) (v : Verdict) → f a ≡ Some v → Told f (record { entry = a; verdict = meaning v })
told_here f a v e = record { verdict = v; is = e; means = refl }

told_case : (f : ℕ → Option Verdict) (a : ℕ) (rest : List (Option Verdict)) (o : Outcome) → (Contains (outcomes_from (suc a) rest) o → Told f o)
    → (w : Option Verdict) → f a ≡ w → Contains (outcomes_from a (w ∷ rest)) o → Told f o
told_case f a rest o each None e c = each c
told_case f a rest o each (Some v) e c = ⊎_elim
    (λ same. subst (Told f) same (told_here f a v e))
    each
    (Contains-cons_cases (record { entry = a; verdict = meaning v }) o (outcomes_from (suc a) rest) c)

told_of : (f : ℕ → Option Verdict) (a n : ℕ) (o : Outcome) → Contains (outcomes_from a (map f (range_with_len a n))) o → Told f o
told_of f a zero o c = absurd (Contains-nil o c)
told_of f a (suc n) o c =
    let next : suc a ≡ a + 1 = omega arith in
    told_case f a (map f (range_with_len (a + 1) n)) o
    (λ later. told_of f (a + 1) n o (subst (λ k. Contains (outcomes_from k (map f (range_with_len (a + 1) n))) o) next later)) (f a) refl c

-- a live place

record Live (opening : Network) (n : ℕ) (past : Past) (round e : ℕ) : Type 0 where
  pub open_there : is_open past round ≡ true
  pub current : is_current opening past round ≡ true

live_parts : (opening : Network) (n : ℕ) (past : Past) (round e : ℕ) → is_live opening n past round e ≡ true → Live opening n past round e
live_parts opening n past round e h =
    let rest = and_right (is_open past round) (is_posted past round && (is_current opening past round && is_entry n e)) h in
    record {
      open_there = and_left (is_open past round) (is_posted past round && (is_current opening past round && is_entry n e)) h;
      current = and_left (is_current opening past round) (is_entry n e) (and_right (is_posted past round) (is_current opening past round && is_entry n e) rest);
    }

current_version : (opening : Network) (past : Past) (round : ℕ) (before : Past) → opening_of (openings past) round ≡ Some before → is_current opening past round ≡ true
    → (now opening before).version ≡ (now opening past).version
current_version opening past round before e h =
    sym (ap (λ o. (now opening (unwrap_or o [])).version) e)
    ∙ eqb-true (at_opening opening past round).version (now opening past).version h

-- the whole of it, from what is found
witnessed_at : (opening : Network) (n : ℕ) (past : Past) (round : ℕ) (o : Outcome) (v : Verdict) → meaning v ≡ o.verdict
    → (m : Moment) → verdict_in m.entry ≡ Some v → Found (may_count opening n round o.entry) past m
    → (d : Moment) → d.entry.caller ≡ m.entry.caller → Latest (λ k. departs round o.entry k.entry && is_live opening n k.past round o.entry) m.past d
    → (before : Past) → opening_of (openings d.past) round ≡ Some before → Opened d.past round before
    → IsWitnessed opening n past round o
witnessed_at opening n past round o v means m told found d by sent before is opened =
    let arrival : Place past = record { later = found.later; entry = m.entry; before = m.past; whole = found.whole } in
    let departure : Place m.past = record { later = sent.later; entry = d.entry; before = d.past; whole = sent.whole } in
    let opened_at : Place d.past = record { later = opened.later; entry = opened.entry; before = before; whole = opened.whole } in
    let up = place_ends m.past departure in
    let ended = ends_trans m.past d.past before up (place_ends d.past opened_at) in
    let live = and_left (is_live opening n m.past round o.entry) (is_caller (sender opening n m.past round o.entry) m.entry.caller)
    (and_right (arrives round o.entry m.entry) (is_live opening n m.past round o.entry && is_caller (sender opening n m.past round o.entry) m.entry.caller) found.passes) in
    let there : opening_of (openings m.past) round ≡ Some before =
    ap (λ p. opening_of (openings p) round) up.whole ∙ opening_kept up.later d.past round before is in
    let same = current_version opening m.past round before there (live_parts opening n m.past round o.entry live).current in
    record {
      arrival = arrival;
      departure = departure;
      opened = opened_at;
      opens_it = opened.opens_it;
      one_caller = by;
      departed = and_left (departs round o.entry d.entry) (is_live opening n d.past round o.entry) sent.passes;
      arrived = and_left (arrives round o.entry m.entry) (is_live opening n m.past round o.entry && is_caller (sender opening n m.past round o.entry) m.entry.caller) found.passes;
      verdict = ap (option_map meaning) told ∙ ap (λ w. Some w) means;
      live_departure = and_right (departs round o.entry d.entry) (is_live opening n d.past round o.entry) sent.passes;
      live_arrival = live;
      latest = λ other departed alive. sent.last other (ap (λ b. b && is_live opening n other.before round o.entry) departed ∙ alive);
      unchanged = no_change opening m.past before ended same;
    }

pub witnessed : (opening : Network) (n : ℕ) (past : Past) (round : ℕ) → AreWitnessed opening n past round
witnessed opening n past round o c =
    let told = told_of (counted opening n past round) 1 n o c in
    let p = may_count opening n round o.entry in
    let arrived = arrived_with p past told.verdict (find p (reverse (moments past))) refl told.is in
    let m = arrived.at in
    let found = find_first p past m arrived.is in
    let rest = and_right (arrives round o.entry m.entry) (is_live opening n m.past round o.entry && is_caller (sender opening n m.past round o.entry) m.entry.caller) found.passes in
    let q = λ (k : Moment). departs round o.entry k.entry && is_live opening n k.past round o.entry in
    let noted = noted_by q m.past m.entry.caller (find q (moments m.past)) refl
    (and_right (is_live opening n m.past round o.entry) (is_caller (sender opening n m.past round o.entry) m.entry.caller) rest) in
    let d = noted.at in
    let sent = find_latest q m.past d noted.is in
    let live = live_parts opening n d.past round o.entry (and_right (departs round o.entry d.entry) (is_live opening n d.past round o.entry) sent.passes) in
    let opening_is = has_opening (opening_of (openings d.past) round) d.past round refl live.open_there in
    witnessed_at opening n past round o told.verdict told.means m arrived.told found d noted.by sent opening_is.before opening_is.is
    (opened_there d.past round opening_is.before opening_is.is)
