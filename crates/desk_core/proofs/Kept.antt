-- What is kept of one round when one entry more is past.
use Rattle.std.specs.Prelude.{◌≡◌, ◌≢◌, ℕ, zero, suc, ◌-◌, ◌<◌, ◌≤◌, ◌==◌, nat_le, Bool, true, false, ◌&&◌, ◌||◌, List, ◌∷◌, length, slice_set, slice_index_or, Option, None, Some}
use Rattle.std.proofs.Common.{refl, sym, ap, ◌∙◌, arith, ⊎_elim}
use Rattle.std.proofs.lemmas.Bool.{cases_eq, eq-eqb, leb-true}
use Rattle.std.proofs.lemmas.List.{length-set, get_or-set_same, get_or-set_other}
use Rattle.std.proofs.lemmas.Option.{none-some}
use Rattle.network_model.specs.Network.{Network}
use Rattle.suspect_book.specs.declared.verdict.Verdict.{Verdict}
use Rattle.desk_core.specs.declared.event.LoggedEvent.TheVariants.{Depart, Arrive}
use Rattle.desk_core.specs.declared.event.Logged.{Logged}
use Rattle.desk_core.specs.Past.{Past}
use Rattle.desk_core.specs.Events.{posts, departs, arrives}
use Rattle.desk_core.specs.Rounds.{openings, is_open, is_posted, at_opening}
use Rattle.desk_core.specs.Counting.{is_entry, is_live, is_caller, sender, may_count, counted}
use Rattle.desk_core.specs.RoundsValue.{PostedValue, RoundValue, sender_at}
use Rattle.desk_core.specs.Posting.{with_sender, with_verdict}
use Rattle.desk_core.specs.Keeping.{IsPosted, IsPlanned, IsRound}
use Rattle.desk_core.proofs.Opened.{at_opening_stays, open_inside}
use Rattle.desk_core.proofs.Counts.{moment, sender-not, sender-noted, counted-not, counted-first, and_left, and_right, verdicts-same, verdicts-set}
use Rattle.desk_core.proofs.Rising.{differ}

-- an entry that says nothing of a round
pub record IsQuiet (entry : Logged) (round : ℕ) : Type 0 where
  pub no_post : posts round entry ≡ false
  pub no_departure : (e : ℕ) → departs round e entry ≡ false
  pub no_arrival : (e : ℕ) → arrives round e entry ≡ false

or_true : (b : Bool) → (b || true) ≡ true
or_true true = refl
or_true false = refl

pub and_false : (a b : Bool) → a ≡ false → (a && b) ≡ false
and_false true b h = absurd (cc)
and_false false b h = refl

pub and_false_right : (a b : Bool) → b ≡ false → (a && b) ≡ false
and_false_right true b h = h
and_false_right false b h = refl

pub posted_stays : (entry : Logged) (past : Past) (round : ℕ) → is_posted past round ≡ true → is_posted (entry ∷ past) round ≡ true
posted_stays entry past round h = ap (λ b. (posts round entry && is_open past round) || b) h ∙ or_true (posts round entry && is_open past round)

pub unposted_stays : (entry : Logged) (past : Past) (round : ℕ) → (posts round entry && is_open past round) ≡ false → is_posted past round ≡ false → is_posted (entry ∷ past) round ≡ false
unposted_stays entry past round quiet h = ap (λ b. b || is_posted past round) quiet ∙ h

-- where no departure matters and nothing more is counted, all stays
pub posted_after : (opening : Network) (hops : ℕ) (entry : Logged) (past : Past) (round : ℕ) (p : PostedValue) → round ≤ length (openings past)
    → ((e : ℕ) → counted opening (length p.plan.plan.table) past round e ≡ None → (departs round e entry && is_live opening (length p.plan.plan.table) past round e) ≡ false)
    → ((e : ℕ) → counted opening (length p.plan.plan.table) (entry ∷ past) round e ≡ counted opening (length p.plan.plan.table) past round e)
    → IsPosted opening hops past round p → IsPosted opening hops (entry ∷ past) round p
posted_after opening hops entry past round p inside sends counts k =
    let n = length p.plan.plan.table in
    record {
      there = posted_stays entry past round k.there;
      net = k.net ∙ sym (ap (λ v. v.net) (at_opening_stays opening entry past round inside));
      hops_are = k.hops_are;
      is_plan = k.is_plan;
      verdicts_are = k.verdicts_are ∙ sym (verdicts-same opening n entry past round counts);
      room = k.room;
      senders_are = λ e some none.
          let before : counted opening n past round e ≡ None = sym (counts e) ∙ none in
          k.senders_are e some before ∙ sym (sender-not opening n entry past round e (sends e before));
    }

pub may_count-not : (opening : Network) (n round e : ℕ) (entry : Logged) (past : Past) → arrives round e entry ≡ false → may_count opening n round e (moment entry past) ≡ false
may_count-not opening n round e entry past h = and_false (arrives round e entry) (is_live opening n past round e && is_caller (sender opening n past round e) entry.caller) h

planned_quiet : (opening : Network) (hops : ℕ) (entry : Logged) (past : Past) (round : ℕ) (posted : Option PostedValue) → round ≤ length (openings past) → IsQuiet entry round
    → IsPlanned opening hops past round posted → IsPlanned opening hops (entry ∷ past) round posted
planned_quiet opening hops entry past round None inside quiet k = unposted_stays entry past round (and_false (posts round entry) (is_open past round) quiet.no_post) k
planned_quiet opening hops entry past round (Some p) inside quiet k =
    let n = length p.plan.plan.table in
    posted_after opening hops entry past round p inside
    (λ e none. and_false (departs round e entry) (is_live opening n past round e) (quiet.no_departure e))
    (λ e. counted-not opening n entry past round e (may_count-not opening n round e entry past (quiet.no_arrival e))) k

pub pinned_stays : (opening : Network) (hops : ℕ) (entry : Logged) (past : Past) (r : RoundValue) → r.number ≤ length (openings past) → IsRound opening hops past r → r.pinned ≡ at_opening opening (entry ∷ past) r.number
pinned_stays opening hops entry past r inside k = k.pinned_is ∙ sym (at_opening_stays opening entry past r.number inside)

pub round_quiet : (opening : Network) (hops : ℕ) (entry : Logged) (past : Past) (r : RoundValue) → is_open past r.number ≡ true → IsQuiet entry r.number
    → IsRound opening hops past r → IsRound opening hops (entry ∷ past) r
round_quiet opening hops entry past r there quiet k =
    let inside = (open_inside past r.number there).1 in
    record {
      pinned_is = pinned_stays opening hops entry past r inside k;
      planned = planned_quiet opening hops entry past r.number r.posted inside quiet k.planned;
    }

sender_set-same : (senders : List (Option ℕ)) (e caller : ℕ) → 0 < e → e ≤ length senders → sender_at (slice_set senders (e - 1) (Some caller)) e ≡ Some caller
sender_set-same senders zero caller some inside = let no : ⊥ = omega (arith, some) in absurd no
sender_set-same senders (suc k) caller some inside =
    let e : suc k - 1 ≡ k = omega arith in
    let l : k < length senders = omega (arith, inside) in
    ap (λ i. slice_index_or (slice_set senders i (Some caller)) k None) e ∙ rw get_or-set_same refl

sender_set-other : (senders : List (Option ℕ)) (e other caller : ℕ) → 0 < e → other ≢ e → sender_at (slice_set senders (e - 1) (Some caller)) other ≡ sender_at senders other
sender_set-other senders e zero caller some differs = refl
sender_set-other senders e (suc k) caller some differs =
    let ne : k ≢ e - 1 = λ same. let all : suc k ≡ e = omega (arith, same, some) in differs all in
    rw get_or-set_other refl

pub entry_some : (n e : ℕ) → is_entry n e ≡ true → 0 < e
entry_some n e h = let l = leb-true 1 e (and_left (nat_le 1 e) (nat_le e n) h) in omega (arith, l)

pub entry_inside : (n e : ℕ) → is_entry n e ≡ true → e ≤ n
entry_inside n e h = leb-true e n (and_right (nat_le 1 e) (nat_le e n) h)

-- a departure is noted
pub posted_sent : (opening : Network) (hops caller : ℕ) (past : Past) (round e : ℕ) (p : PostedValue) → round ≤ length (openings past)
    → is_entry (length p.plan.plan.table) e ≡ true → is_live opening (length p.plan.plan.table) past round e ≡ true
    → IsPosted opening hops past round p → IsPosted opening hops (record { caller = caller; event = Depart round e; stored = true } ∷ past) round (with_sender e caller p)
posted_sent opening hops caller past round e p inside some live k =
    let n = length p.plan.plan.table in
    let entry : Logged = record { caller = caller; event = Depart round e; stored = true } in
    let counts = λ (m : ℕ). counted-not opening n entry past round m refl in
    record {
      there = posted_stays entry past round k.there;
      net = k.net ∙ sym (ap (λ v. v.net) (at_opening_stays opening entry past round inside));
      hops_are = k.hops_are;
      is_plan = k.is_plan;
      verdicts_are = k.verdicts_are ∙ sym (verdicts-same opening n entry past round counts);
      room = length-set p.senders (e - 1) (Some caller) ∙ k.room;
      senders_are = λ m one none. ⊎_elim
          (λ (same : m ≡ e).
          let own : (departs round e entry && is_live opening n past round e) ≡ true =
          ap (λ b. (b && (e == e)) && is_live opening n past round e) (eq-eqb round round refl) ∙ (ap (λ b. b && is_live opening n past round e) (eq-eqb e e refl) ∙ live) in
          ap (sender_at (slice_set p.senders (e - 1) (Some caller))) same
          ∙ (sender_set-same p.senders e caller (entry_some n e some) (let l = entry_inside n e some in omega (arith, l, k.room))
          ∙ (sym (sender-noted opening n entry past round e own) ∙ sym (ap (sender opening n (entry ∷ past) round) same))))
          (λ (other : m ≢ e).
          let not_own : (departs round m entry && is_live opening n past round m) ≡ false =
          and_false (departs round m entry) (is_live opening n past round m) (and_false_right (round == round) (e == m) (differ e m (λ same. other (sym same)))) in
          sender_set-other p.senders e m caller (entry_some n e some) other
          ∙ (k.senders_are m one (sym (counts m) ∙ none) ∙ sym (sender-not opening n entry past round m not_own)))
          (cases_eq m e);
    }

-- an arrival counts
pub posted_counted : (opening : Network) (hops caller : ℕ) (past : Past) (round e : ℕ) (v : Verdict) (p : PostedValue) → round ≤ length (openings past)
    → is_entry (length p.plan.plan.table) e ≡ true → is_live opening (length p.plan.plan.table) past round e ≡ true
    → counted opening (length p.plan.plan.table) past round e ≡ None → is_caller (sender opening (length p.plan.plan.table) past round e) caller ≡ true
    → IsPosted opening hops past round p → IsPosted opening hops (record { caller = caller; event = Arrive round e v; stored = true } ∷ past) round (with_verdict e v p)
posted_counted opening hops caller past round e v p inside some live none by k =
    let n = length p.plan.plan.table in
    let entry : Logged = record { caller = caller; event = Arrive round e v; stored = true } in
    let own : may_count opening n round e (moment entry past) ≡ true =
    ap (λ b. (b && (e == e)) && (is_live opening n past round e && is_caller (sender opening n past round e) caller)) (eq-eqb round round refl)
    ∙ (ap (λ b. b && (is_live opening n past round e && is_caller (sender opening n past round e) caller)) (eq-eqb e e refl)
    ∙ (ap (λ b. b && is_caller (sender opening n past round e) caller) live ∙ by)) in
    let here : counted opening n (entry ∷ past) round e ≡ Some v = counted-first opening n entry past round e none own in
    let others = λ (m : ℕ) (other : m ≢ e). counted-not opening n entry past round m
    (may_count-not opening n round m entry past (and_false_right (round == round) (e == m) (differ e m (λ same. other (sym same))))) in
    record {
      there = posted_stays entry past round k.there;
      net = k.net ∙ sym (ap (λ v. v.net) (at_opening_stays opening entry past round inside));
      hops_are = k.hops_are;
      is_plan = k.is_plan;
      verdicts_are = ap (λ l. slice_set l (e - 1) (Some v)) k.verdicts_are
          ∙ sym (verdicts-set opening n entry past round e (Some v) (entry_some n e some) (entry_inside n e some) others here);
      room = k.room;
      senders_are = λ m one not_yet. ⊎_elim
          (λ (same : m ≡ e). absurd (none-some v (sym not_yet ∙ (ap (counted opening n (entry ∷ past) round) same ∙ here))))
          (λ (other : m ≢ e). k.senders_are m one (sym (others m other) ∙ not_yet) ∙ sym (sender-not opening n entry past round m refl))
          (cases_eq m e);
    }
