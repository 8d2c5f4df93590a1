-- Each event's step: its reply is that of the past, and what is kept then is that of the past with its entry.
use Rattle.std.specs.Prelude.{◌≡◌, ◌≢◌, ℕ, ◌<◌, ◌≤◌, ◌==◌, Bool, true, false, ◌&&◌, ◌||◌, [], ◌∷◌, length, slice_set, slice_index_or, Option, None, Some, IsTrue, if◌then◌else◌}
use Rattle.std.specs.Option.{option_map}
use Rattle.std.proofs.Common.{refl, sym, ap, ◌∙◌, subst, ⊎_elim}
use Rattle.std.proofs.lemmas.Bool.{true≢false, false_from_ne_true, cases_eq}
use Rattle.std.proofs.lemmas.Option.{none-some}
use Rattle.network_model.specs.Network.{Network}
use Rattle.network_model.specs.Plan.{Plan, IsPlan}
use Rattle.suspect_book.specs.declared.verdict.Verdict.{Verdict}
use Rattle.desk_core.specs.declared.event.LoggedEvent.{LoggedEvent}
use Rattle.desk_core.specs.declared.event.LoggedEvent.TheVariants.{Depart, Arrive}
use Rattle.desk_core.specs.declared.event.Logged.{Logged}
use Rattle.desk_core.specs.declared.reply.Refusal.{Refusal}
use Rattle.desk_core.specs.declared.reply.Refusal.TheVariants.{NotSent}
use Rattle.desk_core.specs.Past.{Past}
use Rattle.desk_core.specs.Events.{posts, departs, arrives}
use Rattle.desk_core.specs.Rounds.{openings, is_open, is_posted, is_current, at_opening}
use Rattle.desk_core.specs.Counting.{is_entry, is_live, is_caller, sender, counted}
use Rattle.desk_core.specs.Refusals.{refusal, not_sent}
use Rattle.desk_core.specs.Replies.{ReplyValue, Departed, Counted, Refused, NoMemory, is_kept, reply_of, unless_refused, granted}
use Rattle.desk_core.specs.Legal.{may_lack_memory}
use Rattle.desk_core.specs.Applying.{IsPlanOf, round_of}
use Rattle.desk_core.specs.RoundsValue.{PostedValue, RoundValue, RoundsValue}
use Rattle.desk_core.specs.Posting.{with_sender, with_verdict}
use Rattle.desk_core.specs.Keeping.{IsPlanned, IsRound, Mirrors, Stepped, depart_refusal, arrive_refusal}
use Rattle.desk_core.proofs.Counts.{and_left, and_right, counted-not, counted-given}
use Rattle.desk_core.proofs.Kept.{IsQuiet, and_false, and_false_right, posted_after, unposted_stays, pinned_stays, posted_sent, posted_counted, may_count-not}
use Rattle.desk_core.proofs.Mirrored.{kept_there, mirrors_quiet, mirrors_put}
use Rattle.desk_core.proofs.Opened.{open_inside}
use Rattle.desk_core.proofs.Refused.{packet_free, packet_granted, plan_of, depart_same, arrive_same, passed, not_when, first_none}
use Rattle.desk_core.proofs.Rising.{differ}

abbrev pub logged : ℕ → LoggedEvent → Bool → Logged
logged caller event stored = record { caller = caller; event = event; stored = stored }

-- a plan for rounds that have none
abbrev pub no_plan_yet : Plan
no_plan_yet = record { table = []; probes = [] }

-- of an event whose round is not open no plan is asked
pub no_plan_of : (opening : Network) (hops : ℕ) (past : Past) (entry : Logged) (plan : Plan) → is_open past (round_of entry.event) ≡ false → IsPlanOf opening hops past entry plan
no_plan_of opening hops past entry plan shut = λ there posted. absurd (true≢false (sym there ∙ shut))

posted_before : (b : Bool) (c : Bool) → b ≡ false → (b || c) ≡ true → c ≡ true
posted_before true c h e = absurd (true≢false h)
posted_before false c h e = e

-- the plan of a round that is kept
pub plan_planned : (opening : Network) (hops : ℕ) (past : Past) (round : ℕ) (posted : Option PostedValue) → IsPlanned opening hops past round posted → is_posted past round ≡ true
    → IsPlan (at_opening opening past round).net hops (plan_of posted)
plan_planned opening hops past round None k h = absurd (true≢false (sym h ∙ k))
plan_planned opening hops past round (Some p) k h =
    let P : Network → Type 0 = λ net. IsPlan net p.plan.hops p.plan.plan in
    let Q : ℕ → Type 0 = λ hops. IsPlan (at_opening opening past round).net hops p.plan.plan in
    subst Q k.hops_are (subst P k.net k.is_plan)

pub plan_kept : (opening : Network) (hops : ℕ) (past : Past) (entry : Logged) (posted : Option PostedValue) → IsPlanned opening hops past (round_of entry.event) posted
    → (posts (round_of entry.event) entry && is_open past (round_of entry.event)) ≡ false → IsPlanOf opening hops past entry (plan_of posted)
plan_kept opening hops past entry posted k quiet = λ there after.
    plan_planned opening hops past (round_of entry.event) posted k (posted_before (posts (round_of entry.event) entry && is_open past (round_of entry.event)) (is_posted past (round_of entry.event)) quiet after)

-- a refused event whose entry changes nothing
pub step_refused : (opening : Network) (hops : ℕ) (past : Past) (caller : ℕ) (event : LoggedEvent) (why : Refusal) (plan : Plan) (v : RoundsValue)
    → refusal opening (length plan.table) past caller event ≡ Some why → IsPlanOf opening hops past (logged caller event true) plan → Mirrors opening hops (logged caller event true ∷ past) v
    → Stepped opening hops past caller event (Refused why) v
step_refused opening hops past caller event why plan v refused planned m = record {
  plan = plan;
  planned = planned;
  replied = sym (ap (λ o. unless_refused o (granted opening plan past event)) refused);
  kept = refl;
  mirrors = m;
}

-- an event that is granted, whose reply is not that memory lacked
pub step_granted : (opening : Network) (hops : ℕ) (past : Past) (caller : ℕ) (event : LoggedEvent) (reply : ReplyValue) (plan : Plan) (v : RoundsValue) → is_kept reply ≡ true
    → refusal opening (length plan.table) past caller event ≡ None → granted opening plan past event ≡ reply → IsPlanOf opening hops past (logged caller event true) plan
    → Mirrors opening hops (logged caller event true ∷ past) v → Stepped opening hops past caller event reply v
step_granted opening hops past caller event reply plan v kept free same planned m =
    let P : Bool → Type 0 = λ b. IsPlanOf opening hops past (logged caller event b) plan in
    let Q : Bool → Type 0 = λ b. Mirrors opening hops (logged caller event b ∷ past) v in
    let R : Bool → Type 0 = λ b. reply ≡ (if b then reply_of opening plan past caller event else NoMemory) in
    let S : Bool → Type 0 = λ b. IsTrue (b || may_lack_memory event) in
    record {
      plan = plan;
      planned = subst P (sym kept) planned;
      replied = subst R (sym kept) (sym (ap (λ o. unless_refused o (granted opening plan past event)) free ∙ same));
      kept = subst S (sym kept) refl;
      mirrors = subst Q (sym kept) m;
    }

unstored_quiet : (caller : ℕ) (event : LoggedEvent) (round : ℕ) → IsQuiet (logged caller event false) round
unstored_quiet caller event round = record { no_post = refl; no_departure = λ e. refl; no_arrival = λ e. refl }

-- an entry that is not stored changes nothing
pub mirrors_unstored : (opening : Network) (hops : ℕ) (past : Past) (caller : ℕ) (event : LoggedEvent) (v : RoundsValue) → Mirrors opening hops past v → Mirrors opening hops (logged caller event false ∷ past) v
mirrors_unstored opening hops past caller event v m =
    mirrors_quiet opening hops (logged caller event false) past v m refl refl (λ round there. refl) (λ round there. unstored_quiet caller event round)

pub step_unstored : (opening : Network) (hops : ℕ) (past : Past) (caller : ℕ) (event : LoggedEvent) (plan : Plan) (v : RoundsValue) → IsTrue (may_lack_memory event)
    → IsPlanOf opening hops past (logged caller event false) plan → Mirrors opening hops past v → Stepped opening hops past caller event NoMemory v
step_unstored opening hops past caller event plan v may planned m = record {
  plan = plan;
  planned = planned;
  replied = refl;
  kept = may;
  mirrors = mirrors_unstored opening hops past caller event v m;
}

-- the round that is found
pub record IsAt (v : RoundsValue) (i : ℕ) (r : RoundValue) : Type 0 where
  pub inside : i < length v.open_rounds
  pub at : (d : RoundValue) → slice_index_or v.open_rounds i d ≡ r

pub round_at : (opening : Network) (hops : ℕ) (past : Past) (v : RoundsValue) → Mirrors opening hops past v → (i : ℕ) (r : RoundValue) → IsAt v i r → IsRound opening hops past r
round_at opening hops past v m i r a = let P : RoundValue → Type 0 = λ s. IsRound opening hops past s in subst P (a.at r) (m.each i r a.inside)

pub there_at : (opening : Network) (hops : ℕ) (past : Past) (v : RoundsValue) → Mirrors opening hops past v → (i : ℕ) (r : RoundValue) → IsAt v i r → is_open past r.number ≡ true
there_at opening hops past v m i r a = sym (ap (λ (s : RoundValue). is_open past s.number) (a.at r)) ∙ kept_there opening hops past v m i r a.inside

other_departure : (caller round e other : ℕ) → other ≢ round → IsQuiet (logged caller (Depart round e) true) other
other_departure caller round e other h = record {
  no_post = refl;
  no_departure = λ m. and_false (round == other) (e == m) (differ round other (λ same. h (sym same)));
  no_arrival = λ m. refl;
}

other_arrival : (caller round e other : ℕ) (v : Verdict) → other ≢ round → IsQuiet (logged caller (Arrive round e v) true) other
other_arrival caller round e other v h = record {
  no_post = refl;
  no_departure = λ m. refl;
  no_arrival = λ m. and_false (round == other) (e == m) (differ round other (λ same. h (sym same)));
}

-- a departure that is refused
refused_departure : (opening : Network) (hops : ℕ) (past : Past) (caller round e : ℕ) (why : Refusal) (posted : Option PostedValue) → round ≤ length (openings past) → IsPlanned opening hops past round posted
    → refusal opening (length (plan_of posted).table) past caller (Depart round e) ≡ Some why → IsPlanned opening hops (logged caller (Depart round e) true ∷ past) round posted
refused_departure opening hops past caller round e why None inside k h = unposted_stays (logged caller (Depart round e) true) past round refl k
refused_departure opening hops past caller round e why (Some p) inside k h =
    let n = length p.plan.plan.table in
    let entry = logged caller (Depart round e) true in
    posted_after opening hops entry past round p inside
    (λ m none. ⊎_elim
    (λ (same : m ≡ e).
    let dead : is_live opening n past round m ≡ false = false_from_ne_true (is_live opening n past round m)
    (λ live.
    let live' : is_live opening n past round e ≡ true = sym (ap (is_live opening n past round) same) ∙ live in
    let none' : counted opening n past round e ≡ None = sym (ap (counted opening n past round) same) ∙ none in
    none-some why (sym (packet_granted opening n past round e [] live' none') ∙ h)) in
    and_false_right (departs round m entry) (is_live opening n past round m) dead)
    (λ (other : m ≢ e). and_false (departs round m entry) (is_live opening n past round m) (and_false_right (round == round) (e == m) (differ e m (λ same. other (sym same)))))
    (cases_eq m e))
    (λ m. counted-not opening n entry past round m refl) k

entry_live : (opening : Network) (n : ℕ) (past : Past) (round e : ℕ) → is_live opening n past round e ≡ true → is_entry n e ≡ true
entry_live opening n past round e live =
    and_right (is_current opening past round) (is_entry n e)
    (and_right (is_posted past round) (is_current opening past round && is_entry n e)
    (and_right (is_open past round) (is_posted past round && (is_current opening past round && is_entry n e)) live))

granted_departure : (opening : Network) (hops : ℕ) (past : Past) (caller round e : ℕ) (posted : Option PostedValue) → round ≤ length (openings past) → IsPlanned opening hops past round posted
    → is_live opening (length (plan_of posted).table) past round e ≡ true → IsPlanned opening hops (logged caller (Depart round e) true ∷ past) round (option_map (with_sender e caller) posted)
granted_departure opening hops past caller round e None inside k live = unposted_stays (logged caller (Depart round e) true) past round refl k
granted_departure opening hops past caller round e (Some p) inside k live =
    posted_sent opening hops caller past round e p inside (entry_live opening (length p.plan.plan.table) past round e live) live k

depart_by : (opening : Network) (hops : ℕ) (past : Past) (caller : ℕ) (v : RoundsValue) → Mirrors opening hops past v → (i : ℕ) (r : RoundValue) → IsAt v i r → (e : ℕ) (r' : RoundValue) (reply : ReplyValue)
    → (o : Option Refusal) → depart_refusal r v.now.version e ≡ o
    → reply ≡ unless_refused o Departed → ((why : Refusal) → o ≡ Some why → r' ≡ r) → (o ≡ None → r' ≡ record r { posted = option_map (with_sender e caller) r.posted })
    → Stepped opening hops past caller (Depart r.number e) reply (record v { open_rounds = slice_set v.open_rounds i r' })
depart_by opening hops past caller v m i r a e r' reply (Some why) is replied refused noted =
    let entry = logged caller (Depart r.number e) true in
    let k = round_at opening hops past v m i r a in
    let there = there_at opening hops past v m i r a in
    let inside = (open_inside past r.number there).1 in
    let same : refusal opening (length (plan_of r.posted).table) past caller (Depart r.number e) ≡ Some why =
    depart_same opening hops past caller r.number r.pinned r.posted e there k.pinned_is k.planned ∙ (sym (ap (λ w. depart_refusal r w.version e) m.now_is) ∙ is) in
    let R : ReplyValue → Type 0 = λ x. Stepped opening hops past caller (Depart r.number e) x (record v { open_rounds = slice_set v.open_rounds i r' }) in
    let P : RoundValue → Type 0 = λ s. Mirrors opening hops (entry ∷ past) (record v { open_rounds = slice_set v.open_rounds i s }) in
    let put = mirrors_put opening hops entry past v m refl refl (λ round there. refl) i r r a.inside a.at refl
    (record { pinned_is = pinned_stays opening hops entry past r inside k; planned = refused_departure opening hops past caller r.number e why r.posted inside k.planned same })
    (λ round other. other_departure caller r.number e round other) in
    subst R (sym replied) (step_refused opening hops past caller (Depart r.number e) why (plan_of r.posted) (record v { open_rounds = slice_set v.open_rounds i r' })
    same (plan_kept opening hops past entry r.posted k.planned refl) (subst P (sym (refused why refl)) put))
depart_by opening hops past caller v m i r a e r' reply None is replied refused noted =
    let entry = logged caller (Depart r.number e) true in
    let k = round_at opening hops past v m i r a in
    let there = there_at opening hops past v m i r a in
    let inside = (open_inside past r.number there).1 in
    let same : refusal opening (length (plan_of r.posted).table) past caller (Depart r.number e) ≡ None =
    depart_same opening hops past caller r.number r.pinned r.posted e there k.pinned_is k.planned ∙ (sym (ap (λ w. depart_refusal r w.version e) m.now_is) ∙ is) in
    let live = (packet_free opening (length (plan_of r.posted).table) past r.number e [] same).0 in
    let new : RoundValue = record r { posted = option_map (with_sender e caller) r.posted } in
    let R : ReplyValue → Type 0 = λ x. Stepped opening hops past caller (Depart r.number e) x (record v { open_rounds = slice_set v.open_rounds i r' }) in
    let P : RoundValue → Type 0 = λ s. Mirrors opening hops (entry ∷ past) (record v { open_rounds = slice_set v.open_rounds i s }) in
    let put = mirrors_put opening hops entry past v m refl refl (λ round there. refl) i r new a.inside a.at refl
    (record { pinned_is = pinned_stays opening hops entry past r inside k; planned = granted_departure opening hops past caller r.number e r.posted inside k.planned live })
    (λ round other. other_departure caller r.number e round other) in
    subst R (sym replied) (step_granted opening hops past caller (Depart r.number e) Departed (plan_of r.posted) (record v { open_rounds = slice_set v.open_rounds i r' }) refl
    same refl (plan_kept opening hops past entry r.posted k.planned refl) (subst P (sym (noted refl)) put))

pub step_depart : (opening : Network) (hops : ℕ) (past : Past) (caller : ℕ) (v : RoundsValue) → Mirrors opening hops past v → (i : ℕ) (r : RoundValue) → IsAt v i r → (e : ℕ) (r' : RoundValue) (reply : ReplyValue) (version : ℕ) → version ≡ v.now.version
    → reply ≡ unless_refused (depart_refusal r version e) Departed → ((why : Refusal) → depart_refusal r version e ≡ Some why → r' ≡ r)
    → (depart_refusal r version e ≡ None → r' ≡ record r { posted = option_map (with_sender e caller) r.posted })
    → (round : ℕ) → r.number ≡ round → Stepped opening hops past caller (Depart round e) reply (record v { open_rounds = slice_set v.open_rounds i r' })
step_depart opening hops past caller v m i r a e r' reply version at_version replied refused noted round number =
    let P : ℕ → Type 0 = λ k. Stepped opening hops past caller (Depart k e) reply (record v { open_rounds = slice_set v.open_rounds i r' }) in
    subst P number (depart_by opening hops past caller v m i r a e r' reply (depart_refusal r version e) (sym (ap (λ k. depart_refusal r k e) at_version)) replied refused noted)

-- it counts nothing
not_counted : (opening : Network) (n : ℕ) (past : Past) (caller round e : ℕ) (verdict : Verdict) (why : Refusal) → refusal opening n past caller (Arrive round e verdict) ≡ Some why
    → (o : Option Verdict) → counted opening n past round e ≡ o → counted opening n (logged caller (Arrive round e verdict) true ∷ past) round e ≡ counted opening n past round e
not_counted opening n past caller round e verdict why h (Some given) is =
    counted-given opening n (logged caller (Arrive round e verdict) true) past round e given is ∙ sym is
not_counted opening n past caller round e verdict why h None is =
    let entry = logged caller (Arrive round e verdict) true in
    let by = is_caller (sender opening n past round e) caller in
    let dead : (is_live opening n past round e && by) ≡ false = false_from_ne_true (is_live opening n past round e && by)
    (λ both.
    let live = and_left (is_live opening n past round e) by both in
    let sent = and_right (is_live opening n past round e) by both in
    none-some why (sym (packet_granted opening n past round e (not_sent opening n past caller round e ∷ []) live is ∙ passed by NotSent [] sent) ∙ h)) in
    counted-not opening n entry past round e (and_false_right (arrives round e entry) (is_live opening n past round e && by) dead)

-- an arrival that is refused
refused_arrival : (opening : Network) (hops : ℕ) (past : Past) (caller round e : ℕ) (verdict : Verdict) (why : Refusal) (posted : Option PostedValue) → round ≤ length (openings past) → IsPlanned opening hops past round posted
    → refusal opening (length (plan_of posted).table) past caller (Arrive round e verdict) ≡ Some why → IsPlanned opening hops (logged caller (Arrive round e verdict) true ∷ past) round posted
refused_arrival opening hops past caller round e verdict why None inside k h = unposted_stays (logged caller (Arrive round e verdict) true) past round refl k
refused_arrival opening hops past caller round e verdict why (Some p) inside k h =
    let n = length p.plan.plan.table in
    let entry = logged caller (Arrive round e verdict) true in
    posted_after opening hops entry past round p inside
    (λ m none. refl)
    (λ m. ⊎_elim
    (λ (same : m ≡ e). ap (counted opening n (entry ∷ past) round) same ∙ (not_counted opening n past caller round e verdict why h (counted opening n past round e) refl ∙ sym (ap (counted opening n past round) same)))
    (λ (other : m ≢ e). counted-not opening n entry past round m (may_count-not opening n round m entry past (and_false_right (round == round) (e == m) (differ e m (λ same. other (sym same))))))
    (cases_eq m e)) k

granted_arrival : (opening : Network) (hops : ℕ) (past : Past) (caller round e : ℕ) (verdict : Verdict) (posted : Option PostedValue) → round ≤ length (openings past) → IsPlanned opening hops past round posted
    → is_live opening (length (plan_of posted).table) past round e ≡ true → counted opening (length (plan_of posted).table) past round e ≡ None
    → is_caller (sender opening (length (plan_of posted).table) past round e) caller ≡ true
    → IsPlanned opening hops (logged caller (Arrive round e verdict) true ∷ past) round (option_map (with_verdict e verdict) posted)
granted_arrival opening hops past caller round e verdict None inside k live none by = unposted_stays (logged caller (Arrive round e verdict) true) past round refl k
granted_arrival opening hops past caller round e verdict (Some p) inside k live none by =
    posted_counted opening hops caller past round e verdict p inside (entry_live opening (length p.plan.plan.table) past round e live) live none by k

arrive_by : (opening : Network) (hops : ℕ) (past : Past) (caller : ℕ) (v : RoundsValue) → Mirrors opening hops past v → (i : ℕ) (r : RoundValue) → IsAt v i r → (e : ℕ) (verdict : Verdict) (r' : RoundValue) (reply : ReplyValue)
    → (o : Option Refusal) → arrive_refusal r v.now.version caller e ≡ o
    → reply ≡ unless_refused o (Counted verdict) → ((why : Refusal) → o ≡ Some why → r' ≡ r) → (o ≡ None → r' ≡ record r { posted = option_map (with_verdict e verdict) r.posted })
    → Stepped opening hops past caller (Arrive r.number e verdict) reply (record v { open_rounds = slice_set v.open_rounds i r' })
arrive_by opening hops past caller v m i r a e verdict r' reply (Some why) is replied refused noted =
    let entry = logged caller (Arrive r.number e verdict) true in
    let k = round_at opening hops past v m i r a in
    let there = there_at opening hops past v m i r a in
    let inside = (open_inside past r.number there).1 in
    let same : refusal opening (length (plan_of r.posted).table) past caller (Arrive r.number e verdict) ≡ Some why =
    arrive_same opening hops past caller r.number r.pinned r.posted e verdict there k.pinned_is k.planned ∙ (sym (ap (λ w. arrive_refusal r w.version caller e) m.now_is) ∙ is) in
    let R : ReplyValue → Type 0 = λ x. Stepped opening hops past caller (Arrive r.number e verdict) x (record v { open_rounds = slice_set v.open_rounds i r' }) in
    let P : RoundValue → Type 0 = λ s. Mirrors opening hops (entry ∷ past) (record v { open_rounds = slice_set v.open_rounds i s }) in
    let put = mirrors_put opening hops entry past v m refl refl (λ round there. refl) i r r a.inside a.at refl
    (record { pinned_is = pinned_stays opening hops entry past r inside k; planned = refused_arrival opening hops past caller r.number e verdict why r.posted inside k.planned same })
    (λ round other. other_arrival caller r.number e round verdict other) in
    subst R (sym replied) (step_refused opening hops past caller (Arrive r.number e verdict) why (plan_of r.posted) (record v { open_rounds = slice_set v.open_rounds i r' })
    same (plan_kept opening hops past entry r.posted k.planned refl) (subst P (sym (refused why refl)) put))
arrive_by opening hops past caller v m i r a e verdict r' reply None is replied refused noted =
    let n = length (plan_of r.posted).table in
    let entry = logged caller (Arrive r.number e verdict) true in
    let k = round_at opening hops past v m i r a in
    let there = there_at opening hops past v m i r a in
    let inside = (open_inside past r.number there).1 in
    let same : refusal opening n past caller (Arrive r.number e verdict) ≡ None =
    arrive_same opening hops past caller r.number r.pinned r.posted e verdict there k.pinned_is k.planned ∙ (sym (ap (λ w. arrive_refusal r w.version caller e) m.now_is) ∙ is) in
    let free = packet_free opening n past r.number e (not_sent opening n past caller r.number e ∷ []) same in
    let by = not_when (is_caller (sender opening n past r.number e) caller) NotSent (first_none (not_sent opening n past caller r.number e) [] free.2).0 in
    let new : RoundValue = record r { posted = option_map (with_verdict e verdict) r.posted } in
    let R : ReplyValue → Type 0 = λ x. Stepped opening hops past caller (Arrive r.number e verdict) x (record v { open_rounds = slice_set v.open_rounds i r' }) in
    let P : RoundValue → Type 0 = λ s. Mirrors opening hops (entry ∷ past) (record v { open_rounds = slice_set v.open_rounds i s }) in
    let put = mirrors_put opening hops entry past v m refl refl (λ round there. refl) i r new a.inside a.at refl
    (record { pinned_is = pinned_stays opening hops entry past r inside k; planned = granted_arrival opening hops past caller r.number e verdict r.posted inside k.planned free.0 free.1 by })
    (λ round other. other_arrival caller r.number e round verdict other) in
    subst R (sym replied) (step_granted opening hops past caller (Arrive r.number e verdict) (Counted verdict) (plan_of r.posted) (record v { open_rounds = slice_set v.open_rounds i r' }) refl
    same refl (plan_kept opening hops past entry r.posted k.planned refl) (subst P (sym (noted refl)) put))

pub step_arrive : (opening : Network) (hops : ℕ) (past : Past) (caller : ℕ) (v : RoundsValue) → Mirrors opening hops past v → (i : ℕ) (r : RoundValue) → IsAt v i r → (e : ℕ) (verdict : Verdict) (r' : RoundValue) (reply : ReplyValue) (version : ℕ) → version ≡ v.now.version
    → reply ≡ unless_refused (arrive_refusal r version caller e) (Counted verdict) → ((why : Refusal) → arrive_refusal r version caller e ≡ Some why → r' ≡ r)
    → (arrive_refusal r version caller e ≡ None → r' ≡ record r { posted = option_map (with_verdict e verdict) r.posted })
    → (round : ℕ) → r.number ≡ round → Stepped opening hops past caller (Arrive round e verdict) reply (record v { open_rounds = slice_set v.open_rounds i r' })
step_arrive opening hops past caller v m i r a e verdict r' reply version at_version replied refused noted round number =
    let P : ℕ → Type 0 = λ k. Stepped opening hops past caller (Arrive k e verdict) reply (record v { open_rounds = slice_set v.open_rounds i r' }) in
    subst P number (arrive_by opening hops past caller v m i r a e verdict r' reply (arrive_refusal r version caller e) (sym (ap (λ k. arrive_refusal r k caller e) at_version)) replied refused noted)
