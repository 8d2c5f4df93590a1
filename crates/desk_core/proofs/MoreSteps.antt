-- Each event's step, of the events that are not packets'.
use Rattle.std.specs.Prelude.{◌≡◌, ◌≢◌, ℕ, suc, ◌+◌, ◌<◌, ◌≤◌, ◌==◌, ◌↔◌, nat_lt, nat_le, Bool, true, false, not, ◌&&◌, ◌||◌, ◌⊎◌, [], ◌∷◌, ◌++◌, length, remove, slice_set, Option, None, Some, IsTrue, if◌then◌else◌}
use Rattle.std.specs.Option.{option_map}
use Rattle.std.proofs.Common.{refl, sym, ap, ◌∙◌, arith, subst, ⊎_elim}
use Rattle.std.proofs.lemmas.Bool.{true≢false, false_from_ne_true, eq-eqb, le-leb, leb-true, lt-ltb, ltb-true}
use Rattle.std.proofs.lemmas.List.{length-map, length-replicate}
use Rattle.network_model.specs.Network.{Network}
use Rattle.network_model.specs.Plan.{IsPlan}
use Rattle.fault_model.specs.Findings.{Findings, findings}
use Rattle.rule_cover.specs.PlanValue.{PlanValue}
use Rattle.net_types.specs.Refusals as parts
use Rattle.net_types.specs.declared.fault.NetFault.{NetFault}
use Rattle.net_types.specs.declared.fault.NetFault.TheVariants as faults
use Rattle.net_versions.specs.declared.change.Change.{Change as Changing}
use Rattle.net_versions.specs.Changes.{change_refusal, changed}
use Rattle.net_versions.specs.VersionsValue.{VersionsValue}
use Rattle.suspect_book.specs.Verdicts.{outcomes as outcomes_of}
use Rattle.desk_core.specs.declared.event.LoggedEvent.{LoggedEvent}
use Rattle.desk_core.specs.declared.event.LoggedEvent.TheVariants.{Change, OpenRound, Pin, Post, Depart, Arrive, Locate, Close, Current}
use Rattle.desk_core.specs.declared.reply.Refusal.{Refusal}
use Rattle.desk_core.specs.declared.reply.Refusal.TheVariants.{NoRound, NoPlan, AlreadyPosted, WrongSnapshot, RoundsFull, Rule}
use Rattle.desk_core.specs.Past.{Past}
use Rattle.desk_core.specs.Events.{posts, departs, arrives, closes}
use Rattle.desk_core.specs.Versions.{now, unless_refused as unless_refused_change}
use Rattle.desk_core.specs.Rounds.{most_open, openings, is_open, open_rounds, is_posted, at_opening}
use Rattle.desk_core.specs.Refusals.{when, first_of, refusal, no_round, no_plan, already_posted, wrong_snapshot, fault_of}
use Rattle.desk_core.specs.Replies.{ReplyValue, Changed, Opened, Posted, Located, Closed, Now, Refused, NoMemory, pinned, found, nothing_found}
use Rattle.desk_core.specs.Applying.{Fits, round_of}
use Rattle.desk_core.specs.RoundsValue.{PostedValue, RoundValue, RoundsValue}
use Rattle.desk_core.specs.Posting.{post_refusal, unsent, found_in}
use Rattle.desk_core.specs.Keeping.{IsPosted, IsPlanned, Mirrors, Stepped, no_posted, fault_reply}
use Rattle.desk_core.proofs.Counts.{counted-not, sender-not}
use Rattle.desk_core.proofs.Kept.{IsQuiet, round_quiet, and_false, and_false_right, posted_after, unposted_stays, pinned_stays}
use Rattle.desk_core.proofs.Mirrored.{mirrors_quiet, mirrors_put, mirrors_closed, mirrors_opened, mirrors_changed}
use Rattle.desk_core.proofs.Opened.{openings_full, openings_more, at_opening_stays, open_inside}
use Rattle.desk_core.proofs.Refused.{plan_of, passed, stopped}
use Rattle.desk_core.proofs.Rising.{differ}
use Rattle.desk_core.proofs.Never.{none_counted_yet, none_sent_yet, none-verdicts, none-sender}
use Rattle.desk_core.proofs.Steps.{logged, no_plan_yet, no_plan_of, plan_planned, plan_kept, step_refused, step_granted, step_unstored, IsAt, round_at, there_at}

-- an entry of one round is quiet of the others
quiet_other : (caller : ℕ) (event : LoggedEvent) (other : ℕ) → other ≢ round_of event → IsQuiet (logged caller event true) other
quiet_other caller (Change change) other h = record { no_post = refl; no_departure = λ e. refl; no_arrival = λ e. refl }
quiet_other caller OpenRound other h = record { no_post = refl; no_departure = λ e. refl; no_arrival = λ e. refl }
quiet_other caller (Pin round) other h = record { no_post = refl; no_departure = λ e. refl; no_arrival = λ e. refl }
quiet_other caller (Post round fits) other h = record { no_post = and_false (round == other) fits (differ round other (λ same. h (sym same))); no_departure = λ e. refl; no_arrival = λ e. refl }
quiet_other caller (Depart round entry) other h = record { no_post = refl; no_departure = λ e. and_false (round == other) (entry == e) (differ round other (λ same. h (sym same))); no_arrival = λ e. refl }
quiet_other caller (Arrive round entry v) other h = record { no_post = refl; no_departure = λ e. refl; no_arrival = λ e. and_false (round == other) (entry == e) (differ round other (λ same. h (sym same))) }
quiet_other caller (Locate round) other h = record { no_post = refl; no_departure = λ e. refl; no_arrival = λ e. refl }
quiet_other caller (Close round) other h = record { no_post = refl; no_departure = λ e. refl; no_arrival = λ e. refl }
quiet_other caller Current other h = record { no_post = refl; no_departure = λ e. refl; no_arrival = λ e. refl }

closes_other : (caller : ℕ) (event : LoggedEvent) (other : ℕ) → other ≢ round_of event → closes other (logged caller event true) ≡ false
closes_other caller (Change change) other h = refl
closes_other caller OpenRound other h = refl
closes_other caller (Pin round) other h = refl
closes_other caller (Post round fits) other h = refl
closes_other caller (Depart round entry) other h = refl
closes_other caller (Arrive round entry v) other h = refl
closes_other caller (Locate round) other h = refl
closes_other caller (Close round) other h = differ round other (λ same. h (sym same))
closes_other caller Current other h = refl

-- an event of a round that is not open
pub step_absent : (opening : Network) (hops : ℕ) (past : Past) (caller : ℕ) (event : LoggedEvent) (v : RoundsValue) → Mirrors opening hops past v → is_open past (round_of event) ≡ false
    → now opening (logged caller event true ∷ past) ≡ now opening past → openings (logged caller event true ∷ past) ≡ openings past
    → refusal opening 0 past caller event ≡ Some (NoRound (round_of event)) → Stepped opening hops past caller event (Refused (NoRound (round_of event))) v
step_absent opening hops past caller event v m shut now_same openings_same refused =
    let apart = λ (other : ℕ) (there : is_open past other ≡ true) (same : other ≡ round_of event). true≢false (sym there ∙ (ap (is_open past) same ∙ shut)) in
    step_refused opening hops past caller event (NoRound (round_of event)) no_plan_yet v refused (no_plan_of opening hops past (logged caller event true) no_plan_yet shut)
    (mirrors_quiet opening hops (logged caller event true) past v m now_same openings_same
    (λ other there. closes_other caller event other (apart other there)) (λ other there. quiet_other caller event other (apart other there)))

pub no_round_there : (past : Past) (round : ℕ) → is_open past round ≡ false → no_round past round ≡ Some (NoRound round)
no_round_there past round h = ap (λ b. when (not b) (NoRound round)) h

pub round_there : (past : Past) (round : ℕ) → is_open past round ≡ true → no_round past round ≡ None
round_there past round h = ap (λ b. when (not b) (NoRound round)) h

still : (opening : Network) (hops : ℕ) (past : Past) (caller : ℕ) (event : LoggedEvent) (v : RoundsValue) → Mirrors opening hops past v
    → now opening (logged caller event true ∷ past) ≡ now opening past → openings (logged caller event true ∷ past) ≡ openings past
    → ((round : ℕ) → closes round (logged caller event true) ≡ false) → ((round : ℕ) → IsQuiet (logged caller event true) round) → Mirrors opening hops (logged caller event true ∷ past) v
still opening hops past caller event v m now_same openings_same none quiet =
    mirrors_quiet opening hops (logged caller event true) past v m now_same openings_same (λ round there. none round) (λ round there. quiet round)

silent : (caller : ℕ) (event : LoggedEvent) → ((round : ℕ) → posts round (logged caller event true) ≡ false) → ((round e : ℕ) → departs round e (logged caller event true) ≡ false)
    → ((round e : ℕ) → arrives round e (logged caller event true) ≡ false) → (round : ℕ) → IsQuiet (logged caller event true) round
silent caller event p d a round = record { no_post = p round; no_departure = d round; no_arrival = a round }

pub step_current : (opening : Network) (hops : ℕ) (past : Past) (caller : ℕ) (v : RoundsValue) → Mirrors opening hops past v → (version : ℕ) → version ≡ v.now.version → Stepped opening hops past caller Current (Now version) v
step_current opening hops past caller v m version is =
    let e : (now opening past).version ≡ version = sym (is ∙ ap (λ (w : VersionsValue). w.version) m.now_is) in
    step_granted opening hops past caller Current (Now version) no_plan_yet v refl refl (ap Now e) (no_plan_of opening hops past (logged caller Current true) no_plan_yet refl)
    (still opening hops past caller Current v m refl refl (λ round. refl) (silent caller Current (λ round. refl) (λ round e. refl) (λ round e. refl)))

-- the network and version of a round
pub step_pin : (opening : Network) (hops : ℕ) (past : Past) (caller : ℕ) (v : RoundsValue) → Mirrors opening hops past v → (i : ℕ) (r : RoundValue) → IsAt v i r → (reply : ReplyValue)
    → (reply ≡ pinned r.pinned) ⊎ (reply ≡ NoMemory) → (round : ℕ) → r.number ≡ round → Stepped opening hops past caller (Pin round) reply v
step_pin opening hops past caller v m i r a reply one round number =
    let k = round_at opening hops past v m i r a in
    let there = there_at opening hops past v m i r a in
    let S : ReplyValue → ℕ → Type 0 = λ x n. Stepped opening hops past caller (Pin n) x v in
    let own : (x : ReplyValue) → reply ≡ x → S x r.number → S reply round = λ x e s. subst (λ n. S reply n) number (subst (λ y. S y r.number) (sym e) s) in
    ⊎_elim
    (λ told. own (pinned r.pinned) told
    (step_granted opening hops past caller (Pin r.number) (pinned r.pinned) (plan_of r.posted) v refl (round_there past r.number there) (ap pinned (sym k.pinned_is))
    (plan_kept opening hops past (logged caller (Pin r.number) true) r.posted k.planned refl)
    (still opening hops past caller (Pin r.number) v m refl refl (λ round. refl) (silent caller (Pin r.number) (λ round. refl) (λ round e. refl) (λ round e. refl)))))
    (λ lacked. own NoMemory lacked
    (step_unstored opening hops past caller (Pin r.number) (plan_of r.posted) v refl (plan_kept opening hops past (logged caller (Pin r.number) false) r.posted k.planned refl) m))
    one

-- what is found in what is kept
found_same : (opening : Network) (hops : ℕ) (past : Past) (round : ℕ) (p : PostedValue) → IsPosted opening hops past round p → found opening p.plan.plan past round ≡ found_in (Some p)
found_same opening hops past round p k = ap (λ l. findings p.plan.plan (outcomes_of l)) (sym k.verdicts_are)

locate_free : (opening : Network) (hops : ℕ) (past : Past) (caller : ℕ) (v : RoundsValue) → Mirrors opening hops past v → (round : ℕ) → is_open past round ≡ true → (posted : Option PostedValue) → IsPlanned opening hops past round posted
    → (pinned : VersionsValue) (reply : ReplyValue)
    → ((why : Refusal) → no_posted (record { number = round; pinned = pinned; posted = posted }) ≡ Some why → reply ≡ Refused why)
    → (no_posted (record { number = round; pinned = pinned; posted = posted }) ≡ None → (reply ≡ Located (found_in posted)) ⊎ (reply ≡ NoMemory))
    → Stepped opening hops past caller (Locate round) reply v
locate_free opening hops past caller v m round there None k pinned reply refused told =
    let S : ReplyValue → Type 0 = λ x. Stepped opening hops past caller (Locate round) x v in
    let h : refusal opening 0 past caller (Locate round) ≡ Some (NoPlan round) =
    passed (is_open past round) (NoRound round) (no_plan past round ∷ []) there ∙ stopped (is_posted past round) (NoPlan round) [] k in
    subst S (sym (refused (NoPlan round) refl))
    (step_refused opening hops past caller (Locate round) (NoPlan round) no_plan_yet v h (plan_kept opening hops past (logged caller (Locate round) true) None k refl)
    (still opening hops past caller (Locate round) v m refl refl (λ round. refl) (silent caller (Locate round) (λ round. refl) (λ round e. refl) (λ round e. refl))))
locate_free opening hops past caller v m round there (Some p) k pinned reply refused told =
    let S : ReplyValue → Type 0 = λ x. Stepped opening hops past caller (Locate round) x v in
    let h : refusal opening (length p.plan.plan.table) past caller (Locate round) ≡ None =
    passed (is_open past round) (NoRound round) (no_plan past round ∷ []) there ∙ passed (is_posted past round) (NoPlan round) [] k.there in
    ⊎_elim
    (λ is. subst S (sym is)
    (step_granted opening hops past caller (Locate round) (Located (found_in (Some p))) p.plan.plan v refl h (ap Located (found_same opening hops past round p k))
    (plan_kept opening hops past (logged caller (Locate round) true) (Some p) k refl)
    (still opening hops past caller (Locate round) v m refl refl (λ round. refl) (silent caller (Locate round) (λ round. refl) (λ round e. refl) (λ round e. refl)))))
    (λ lacked. subst S (sym lacked)
    (step_unstored opening hops past caller (Locate round) p.plan.plan v refl (plan_kept opening hops past (logged caller (Locate round) false) (Some p) k refl) m))
    (told refl)

pub step_locate : (opening : Network) (hops : ℕ) (past : Past) (caller : ℕ) (v : RoundsValue) → Mirrors opening hops past v → (i : ℕ) (r : RoundValue) → IsAt v i r → (reply : ReplyValue)
    → ((why : Refusal) → no_posted r ≡ Some why → reply ≡ Refused why) → (no_posted r ≡ None → (reply ≡ Located (found_in r.posted)) ⊎ (reply ≡ NoMemory))
    → (round : ℕ) → r.number ≡ round → Stepped opening hops past caller (Locate round) reply v
step_locate opening hops past caller v m i r a reply refused told round number =
    let k = round_at opening hops past v m i r a in
    let P : ℕ → Type 0 = λ n. Stepped opening hops past caller (Locate n) reply v in
    subst P number (locate_free opening hops past caller v m r.number (there_at opening hops past v m i r a) r.posted k.planned r.pinned reply refused told)

closed_found : (opening : Network) (hops : ℕ) (past : Past) (round : ℕ) (posted : Option PostedValue) → IsPlanned opening hops past round posted
    → (if is_posted past round then found opening (plan_of posted) past round else nothing_found) ≡ found_in posted
closed_found opening hops past round None k = ap (λ b. if b then found opening no_plan_yet past round else nothing_found) k
closed_found opening hops past round (Some p) k = ap (λ b. if b then found opening p.plan.plan past round else nothing_found) k.there ∙ found_same opening hops past round p k

pub step_close : (opening : Network) (hops : ℕ) (past : Past) (caller : ℕ) (v : RoundsValue) → Mirrors opening hops past v → (i : ℕ) (r : RoundValue) → IsAt v i r → (told : Findings) → told ≡ found_in r.posted
    → (round : ℕ) → r.number ≡ round → Stepped opening hops past caller (Close round) (Closed told) (record v { open_rounds = remove v.open_rounds i })
step_close opening hops past caller v m i r a told is round number =
    let k = round_at opening hops past v m i r a in
    let there = there_at opening hops past v m i r a in
    let entry = logged caller (Close r.number) true in
    let P : ℕ → Type 0 = λ n. Stepped opening hops past caller (Close n) (Closed told) (record v { open_rounds = remove v.open_rounds i }) in
    subst P number
    (step_granted opening hops past caller (Close r.number) (Closed told) (plan_of r.posted) (record v { open_rounds = remove v.open_rounds i }) refl
    (round_there past r.number there) (ap Closed (closed_found opening hops past r.number r.posted k.planned ∙ sym is)) (plan_kept opening hops past entry r.posted k.planned refl)
    (mirrors_closed opening hops entry past v m refl refl i r a.inside a.at (λ round. refl) (silent caller (Close r.number) (λ round. refl) (λ round e. refl) (λ round e. refl))))

pub step_close_lacking : (opening : Network) (hops : ℕ) (past : Past) (caller : ℕ) (v : RoundsValue) → Mirrors opening hops past v → (i : ℕ) (r : RoundValue) → IsAt v i r
    → (round : ℕ) → r.number ≡ round → Stepped opening hops past caller (Close round) NoMemory v
step_close_lacking opening hops past caller v m i r a round number =
    let k = round_at opening hops past v m i r a in
    let P : ℕ → Type 0 = λ n. Stepped opening hops past caller (Close n) NoMemory v in
    subst P number (step_unstored opening hops past caller (Close r.number) (plan_of r.posted) v refl (plan_kept opening hops past (logged caller (Close r.number) false) r.posted k.planned refl) m)

-- a plan that is posted
post_new : (opening : Network) (hops : ℕ) (past : Past) (caller round : ℕ) (plan : PlanValue) → is_open past round ≡ true → is_posted past round ≡ false → plan.net ≡ (at_opening opening past round).net → plan.hops ≡ hops
    → IsPlan plan.net plan.hops plan.plan → IsPosted opening hops (logged caller (Post round true) true ∷ past) round (unsent plan)
post_new opening hops past caller round plan there unposted net hops_are is_plan =
    let n = length plan.plan.table in
    let entry = logged caller (Post round true) true in
    let inside = (open_inside past round there).1 in
    record {
      there = ap (λ b. ((b && true) && is_open past round) || is_posted past round) (eq-eqb round round refl) ∙ ap (λ b. b || is_posted past round) there;
      net = net ∙ sym (ap (λ (w : VersionsValue). w.net) (at_opening_stays opening entry past round inside));
      hops_are = hops_are;
      is_plan = is_plan;
      verdicts_are = none-verdicts opening n (entry ∷ past) round (λ e. counted-not opening n entry past round e refl ∙ none_counted_yet opening n past round e unposted);
      room = length-replicate n None;
      senders_are = λ e some none. none-sender n e ∙ sym (sender-not opening n entry past round e refl ∙ none_sent_yet opening n past round e unposted);
    }

post_by : (opening : Network) (hops : ℕ) (past : Past) (caller : ℕ) (v : RoundsValue) → Mirrors opening hops past v → (i : ℕ) (r : RoundValue) → IsAt v i r → (plan : PlanValue) (fits : Bool)
    → (IsTrue fits ↔ Fits opening hops past r.number plan) → (reply : ReplyValue) (r' : RoundValue) → (posted : Option PostedValue) → r.posted ≡ posted
    → ((why : Refusal) → post_refusal (record { number = r.number; pinned = r.pinned; posted = posted }) fits ≡ Some why → (reply ≡ Refused why) × (r' ≡ r))
    → (post_refusal (record { number = r.number; pinned = r.pinned; posted = posted }) fits ≡ None →
    ((reply ≡ Posted (length plan.plan.table)) × (r' ≡ record r { posted = Some (unsent plan) }) × IsPlan plan.net plan.hops plan.plan) ⊎ ((reply ≡ NoMemory) × (r' ≡ r)))
    → Stepped opening hops past caller (Post r.number fits) reply (record v { open_rounds = slice_set v.open_rounds i r' })
post_by opening hops past caller v m i r a plan fits fit reply r' (Some p) is refused taken =
    let entry = logged caller (Post r.number fits) true in
    let k = round_at opening hops past v m i r a in
    let there = there_at opening hops past v m i r a in
    let inside = (open_inside past r.number there).1 in
    let Q : Option PostedValue → Type 0 = λ o. IsPlanned opening hops past r.number o in
    let Q' : Option PostedValue → Type 0 = λ o. IsPlanned opening hops (entry ∷ past) r.number o in
    let kept : IsPosted opening hops past r.number p = subst Q is k.planned in
    let after : IsPosted opening hops (entry ∷ past) r.number p = posted_after opening hops entry past r.number p inside (λ e none. refl) (λ e. counted-not opening (length p.plan.plan.table) entry past r.number e refl) kept in
    let h : refusal opening (length p.plan.plan.table) past caller (Post r.number fits) ≡ Some (AlreadyPosted r.number) =
    passed (is_open past r.number) (NoRound r.number) (already_posted past r.number ∷ wrong_snapshot r.number fits ∷ []) there
    ∙ ap (λ b. first_of (when b (AlreadyPosted r.number) ∷ wrong_snapshot r.number fits ∷ [])) kept.there in
    let answer = refused (AlreadyPosted r.number) refl in
    let R : ReplyValue → Type 0 = λ x. Stepped opening hops past caller (Post r.number fits) x (record v { open_rounds = slice_set v.open_rounds i r' }) in
    let P : RoundValue → Type 0 = λ s. Mirrors opening hops (entry ∷ past) (record v { open_rounds = slice_set v.open_rounds i s }) in
    let put = mirrors_put opening hops entry past v m refl refl (λ round there. refl) i r r a.inside a.at refl
    (record { pinned_is = pinned_stays opening hops entry past r inside k; planned = subst Q' (sym is) after })
    (λ round other. quiet_other caller (Post r.number fits) round other) in
    subst R (sym answer.0) (step_refused opening hops past caller (Post r.number fits) (AlreadyPosted r.number) p.plan.plan (record v { open_rounds = slice_set v.open_rounds i r' })
    h (λ open_there posted_there. plan_planned opening hops past r.number (Some p) kept kept.there) (subst P (sym answer.1) put))
post_by opening hops past caller v m i r a plan false fit reply r' None is refused taken =
    let entry = logged caller (Post r.number false) true in
    let k = round_at opening hops past v m i r a in
    let there = there_at opening hops past v m i r a in
    let inside = (open_inside past r.number there).1 in
    let Q : Option PostedValue → Type 0 = λ o. IsPlanned opening hops past r.number o in
    let Q' : Option PostedValue → Type 0 = λ o. IsPlanned opening hops (entry ∷ past) r.number o in
    let unposted : is_posted past r.number ≡ false = subst Q is k.planned in
    let no_post : (posts r.number entry && is_open past r.number) ≡ false = and_false (posts r.number entry) (is_open past r.number) (and_false_right (r.number == r.number) false refl) in
    let after : is_posted (entry ∷ past) r.number ≡ false = unposted_stays entry past r.number no_post unposted in
    let h : refusal opening 0 past caller (Post r.number false) ≡ Some (WrongSnapshot r.number) =
    passed (is_open past r.number) (NoRound r.number) (already_posted past r.number ∷ wrong_snapshot r.number false ∷ []) there
    ∙ ap (λ b. first_of (when b (AlreadyPosted r.number) ∷ wrong_snapshot r.number false ∷ [])) unposted in
    let answer = refused (WrongSnapshot r.number) refl in
    let R : ReplyValue → Type 0 = λ x. Stepped opening hops past caller (Post r.number false) x (record v { open_rounds = slice_set v.open_rounds i r' }) in
    let P : RoundValue → Type 0 = λ s. Mirrors opening hops (entry ∷ past) (record v { open_rounds = slice_set v.open_rounds i s }) in
    let put = mirrors_put opening hops entry past v m refl refl (λ round there. refl) i r r a.inside a.at refl
    (record { pinned_is = pinned_stays opening hops entry past r inside k; planned = subst Q' (sym is) after })
    (λ round other. quiet_other caller (Post r.number false) round other) in
    subst R (sym answer.0) (step_refused opening hops past caller (Post r.number false) (WrongSnapshot r.number) no_plan_yet (record v { open_rounds = slice_set v.open_rounds i r' })
    h (plan_kept opening hops past entry None unposted no_post) (subst P (sym answer.1) put))
post_by opening hops past caller v m i r a plan true fit reply r' None is refused taken =
    let entry = logged caller (Post r.number true) true in
    let lost = logged caller (Post r.number true) false in
    let k = round_at opening hops past v m i r a in
    let there = there_at opening hops past v m i r a in
    let inside = (open_inside past r.number there).1 in
    let Q : Option PostedValue → Type 0 = λ o. IsPlanned opening hops past r.number o in
    let unposted : is_posted past r.number ≡ false = subst Q is k.planned in
    let h : refusal opening (length plan.plan.table) past caller (Post r.number true) ≡ None =
    passed (is_open past r.number) (NoRound r.number) (already_posted past r.number ∷ wrong_snapshot r.number true ∷ []) there
    ∙ ap (λ b. first_of (when b (AlreadyPosted r.number) ∷ wrong_snapshot r.number true ∷ [])) unposted in
    let good : Fits opening hops past r.number plan = fit.0 refl in
    let new : RoundValue = record r { posted = Some (unsent plan) } in
    let R : ReplyValue → Type 0 = λ x. Stepped opening hops past caller (Post r.number true) x (record v { open_rounds = slice_set v.open_rounds i r' }) in
    let P : RoundValue → Type 0 = λ s. Mirrors opening hops (entry ∷ past) (record v { open_rounds = slice_set v.open_rounds i s }) in
    let L : RoundValue → Type 0 = λ s. Mirrors opening hops (lost ∷ past) (record v { open_rounds = slice_set v.open_rounds i s }) in
    ⊎_elim
    (λ told.
    let N : Network → Type 0 = λ net. IsPlan net plan.hops plan.plan in
    let H : ℕ → Type 0 = λ hops. IsPlan (at_opening opening past r.number).net hops plan.plan in
    let planned : IsPlan (at_opening opening past r.number).net hops plan.plan = subst H good.hops_are (subst N good.net_is told.2) in
    let put = mirrors_put opening hops entry past v m refl refl (λ round there. refl) i r new a.inside a.at refl
    (record { pinned_is = pinned_stays opening hops entry past r inside k; planned = post_new opening hops past caller r.number plan there unposted good.net_is good.hops_are told.2 })
    (λ round other. quiet_other caller (Post r.number true) round other) in
    subst R (sym told.0) (step_granted opening hops past caller (Post r.number true) (Posted (length plan.plan.table)) plan.plan (record v { open_rounds = slice_set v.open_rounds i r' }) refl
    h refl (λ open_there posted_there. planned) (subst P (sym told.1) put)))
    (λ lacked.
    let quiet : IsQuiet lost r.number = record { no_post = refl; no_departure = λ e. refl; no_arrival = λ e. refl } in
    let put = mirrors_put opening hops lost past v m refl refl (λ round there. refl) i r r a.inside a.at refl (round_quiet opening hops lost past r there quiet k)
    (λ round other. record { no_post = refl; no_departure = λ e. refl; no_arrival = λ e. refl }) in
    subst R (sym lacked.0) (record {
      plan = no_plan_yet;
      planned = plan_kept opening hops past lost None unposted refl;
      replied = refl;
      kept = refl;
      mirrors = subst L (sym lacked.1) put;
    }))
    (taken refl)

pub step_post : (opening : Network) (hops : ℕ) (past : Past) (caller : ℕ) (v : RoundsValue) → Mirrors opening hops past v → (i : ℕ) (r : RoundValue) → IsAt v i r → (plan : PlanValue) (fits : Bool)
    → (round : ℕ) → r.number ≡ round → (IsTrue fits ↔ Fits opening hops past round plan) → (reply : ReplyValue) (r' : RoundValue)
    → ((why : Refusal) → post_refusal r fits ≡ Some why → (reply ≡ Refused why) × (r' ≡ r))
    → (post_refusal r fits ≡ None →
    ((reply ≡ Posted (length plan.plan.table)) × (r' ≡ record r { posted = Some (unsent plan) }) × IsPlan plan.net plan.hops plan.plan) ⊎ ((reply ≡ NoMemory) × (r' ≡ r)))
    → Stepped opening hops past caller (Post round fits) reply (record v { open_rounds = slice_set v.open_rounds i r' })
step_post opening hops past caller v m i r a plan fits round number fit reply r' refused taken =
    let P : ℕ → Type 0 = λ n. (IsTrue fits ↔ Fits opening hops past n plan) → Stepped opening hops past caller (Post n fits) reply (record v { open_rounds = slice_set v.open_rounds i r' }) in
    let own : P r.number = λ fit. post_by opening hops past caller v m i r a plan fits fit reply r' r.posted refl refused taken in
    subst P number own fit

open_count : (opening : Network) (hops : ℕ) (past : Past) (v : RoundsValue) → Mirrors opening hops past v → length (open_rounds past) ≡ length v.open_rounds
open_count opening hops past v m = sym (ap length m.numbers) ∙ length-map v.open_rounds (λ (r : RoundValue). r.number)

pub step_full : (opening : Network) (hops : ℕ) (past : Past) (caller : ℕ) (v : RoundsValue) → Mirrors opening hops past v → 16 ≤ length v.open_rounds → Stepped opening hops past caller OpenRound (Refused RoundsFull) v
step_full opening hops past caller v m many =
    let count = open_count opening hops past v m in
    let n = length (open_rounds past) in
    let at_least : 16 ≤ n = omega (arith, many, count) in
    let not_fewer : nat_lt n most_open ≡ false = false_from_ne_true (nat_lt n most_open) (λ few. let l = ltb-true n most_open few in let no : ⊥ = omega (arith, l, at_least) in no) in
    let entry = logged caller OpenRound true in
    step_refused opening hops past caller OpenRound RoundsFull no_plan_yet v (ap (λ b. when b RoundsFull) (le-leb 16 n at_least)) (no_plan_of opening hops past entry no_plan_yet refl)
    (still opening hops past caller OpenRound v m refl (openings_full entry past refl not_fewer) (λ round. refl) (silent caller OpenRound (λ round. refl) (λ round e. refl) (λ round e. refl)))

pub step_open_lacking : (opening : Network) (hops : ℕ) (past : Past) (caller : ℕ) (v : RoundsValue) → Mirrors opening hops past v → Stepped opening hops past caller OpenRound NoMemory v
step_open_lacking opening hops past caller v m = step_unstored opening hops past caller OpenRound no_plan_yet v refl (no_plan_of opening hops past (logged caller OpenRound false) no_plan_yet refl) m

pub step_open : (opening : Network) (hops : ℕ) (past : Past) (caller : ℕ) (v : RoundsValue) → Mirrors opening hops past v → length v.open_rounds < 16 → (round version : ℕ) → round ≡ v.opened + 1 → version ≡ v.now.version
    → (r : RoundValue) → r.number ≡ round → r.pinned ≡ v.now → r.posted ≡ None
    → Stepped opening hops past caller OpenRound (Opened round version) (record { now = v.now; opened = round; open_rounds = v.open_rounds ++ r ∷ [] })
step_open opening hops past caller v m few round version next at_version r number pinned_is unposted =
    let count = open_count opening hops past v m in
    let n = length (open_rounds past) in
    let fewer : n < 16 = omega (arith, few, count) in
    let not_full : nat_le most_open n ≡ false = false_from_ne_true (nat_le most_open n) (λ full. let l = leb-true most_open n full in let no : ⊥ = omega (arith, l, fewer) in no) in
    let entry = logged caller OpenRound true in
    let as_suc : round ≡ suc v.opened = omega (arith, next) in
    let told : length (openings past) + 1 ≡ round = omega (arith, next, m.opened_are) in
    let now_version : (now opening past).version ≡ version = sym (at_version ∙ ap (λ (w : VersionsValue). w.version) m.now_is) in
    let P : ℕ → Type 0 = λ k. Mirrors opening hops (entry ∷ past) (record { now = v.now; opened = k; open_rounds = v.open_rounds ++ r ∷ [] }) in
    step_granted opening hops past caller OpenRound (Opened round version) no_plan_yet (record { now = v.now; opened = round; open_rounds = v.open_rounds ++ r ∷ [] }) refl
    (ap (λ b. when b RoundsFull) not_full) (ap (λ k. Opened k (now opening past).version) told ∙ ap (Opened round) now_version) (no_plan_of opening hops past entry no_plan_yet refl)
    (subst P (sym as_suc) (mirrors_opened opening hops entry past v r m refl (openings_more entry past refl (lt-ltb n most_open fewer)) (λ round. refl)
    (silent caller OpenRound (λ round. refl) (λ round e. refl) (λ round e. refl)) (number ∙ as_suc) pinned_is unposted))

pub step_changed : (opening : Network) (hops : ℕ) (past : Past) (caller : ℕ) (v : RoundsValue) → Mirrors opening hops past v → (change : Changing) (version : ℕ) (w : VersionsValue) → change_refusal v.now.net change ≡ None
    → version ≡ v.now.version + 1 → w ≡ record { version = version; net = changed v.now.net change } → Stepped opening hops past caller (Change change) (Changed version) (record v { now = w })
step_changed opening hops past caller v m change version w free next is =
    let n = now opening past in
    let entry = logged caller (Change change) true in
    let allowed : change_refusal n.net change ≡ None = sym (ap (λ (x : VersionsValue). change_refusal x.net change) m.now_is) ∙ free in
    let literal : w ≡ record { version = n.version + 1; net = changed n.net change } =
    is ∙ (ap (λ k. record { version = k; net = changed v.now.net change }) next ∙ ap (λ (x : VersionsValue). record { version = x.version + 1; net = changed x.net change }) m.now_is) in
    let new : now opening (entry ∷ past) ≡ w = ap (unless_refused_change n change) allowed ∙ sym literal in
    let told : (now opening (entry ∷ past)).version ≡ version = ap (λ (x : VersionsValue). x.version) new ∙ ap (λ (x : VersionsValue). x.version) is in
    step_granted opening hops past caller (Change change) (Changed version) no_plan_yet (record v { now = w }) refl
    (ap (option_map (λ why. Rule (fault_of why))) allowed) (ap Changed told) (no_plan_of opening hops past entry no_plan_yet refl)
    (mirrors_changed opening hops entry past v w m new refl (λ round. refl) (silent caller (Change change) (λ round. refl) (λ round e. refl) (λ round e. refl)))

pub step_change_lacking : (opening : Network) (hops : ℕ) (past : Past) (caller : ℕ) (v : RoundsValue) → Mirrors opening hops past v → (change : Changing) → Stepped opening hops past caller (Change change) NoMemory v
step_change_lacking opening hops past caller v m change = step_unstored opening hops past caller (Change change) no_plan_yet v refl (no_plan_of opening hops past (logged caller (Change change) false) no_plan_yet refl) m

fault_told : (fault : NetFault) (due : Option parts.Refusal) → fault ≢ faults.NoMemory → parts.FaultAnswers fault due → (why : parts.Refusal) × (due ≡ Some why) × (fault_of why ≡ fault)
fault_told faults.Twice due other h = (parts.Twice, h, refl)
fault_told faults.Unknown due other h = (parts.Unknown, h, refl)
fault_told faults.Limit due other h = (parts.Limit, h, refl)
fault_told faults.Width due other h = (parts.Width, h, refl)
fault_told faults.PortTaken due other h = (parts.PortTaken, h, refl)
fault_told faults.LinkTaken due other h = (parts.LinkTaken, h, refl)
fault_told faults.EdgeLinked due other h = (parts.EdgeLinked, h, refl)
fault_told faults.NoMemory due other h = absurd (other refl)

pub step_change_refused : (opening : Network) (hops : ℕ) (past : Past) (caller : ℕ) (v : RoundsValue) → Mirrors opening hops past v → (change : Changing) (fault : NetFault) → fault ≢ faults.NoMemory
    → parts.FaultAnswers fault (change_refusal v.now.net change) → Stepped opening hops past caller (Change change) (Refused (Rule fault)) v
step_change_refused opening hops past caller v m change fault other answers =
    let n = now opening past in
    let entry = logged caller (Change change) true in
    let told = fault_told fault (change_refusal v.now.net change) other answers in
    let due : change_refusal n.net change ≡ Some told.0 = sym (ap (λ (x : VersionsValue). change_refusal x.net change) m.now_is) ∙ told.1 in
    let same : now opening (entry ∷ past) ≡ n = ap (unless_refused_change n change) due in
    step_refused opening hops past caller (Change change) (Rule fault) no_plan_yet v
    (ap (option_map (λ why. Rule (fault_of why))) due ∙ ap (λ f. Some (Rule f)) told.2) (no_plan_of opening hops past entry no_plan_yet refl)
    (still opening hops past caller (Change change) v m same refl (λ round. refl) (silent caller (Change change) (λ round. refl) (λ round e. refl) (λ round e. refl)))

pub step_change_failed : (opening : Network) (hops : ℕ) (past : Past) (caller : ℕ) (v : RoundsValue) → Mirrors opening hops past v → (change : Changing) (fault : NetFault)
    → parts.FaultAnswers fault (change_refusal v.now.net change) → Stepped opening hops past caller (Change change) (fault_reply fault) v
step_change_failed opening hops past caller v m change faults.Twice answers = step_change_refused opening hops past caller v m change faults.Twice (λ e. cc) answers
step_change_failed opening hops past caller v m change faults.Unknown answers = step_change_refused opening hops past caller v m change faults.Unknown (λ e. cc) answers
step_change_failed opening hops past caller v m change faults.Limit answers = step_change_refused opening hops past caller v m change faults.Limit (λ e. cc) answers
step_change_failed opening hops past caller v m change faults.Width answers = step_change_refused opening hops past caller v m change faults.Width (λ e. cc) answers
step_change_failed opening hops past caller v m change faults.PortTaken answers = step_change_refused opening hops past caller v m change faults.PortTaken (λ e. cc) answers
step_change_failed opening hops past caller v m change faults.LinkTaken answers = step_change_refused opening hops past caller v m change faults.LinkTaken (λ e. cc) answers
step_change_failed opening hops past caller v m change faults.EdgeLinked answers = step_change_refused opening hops past caller v m change faults.EdgeLinked (λ e. cc) answers
step_change_failed opening hops past caller v m change faults.NoMemory answers = step_change_lacking opening hops past caller v m change
