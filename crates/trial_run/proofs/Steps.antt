-- Sending what tells, entry by entry.
use Rattle.std.specs.Prelude.{◌≡◌, ◌≢◌, ℕ, zero, suc, ◌+◌, ◌-◌, ◌<◌, ◌≤◌, Bool, true, false, not, List, [], ◌∷◌, ◌++◌, length, map, take, slice_get, slice_index_or, Option, None, Some, All, Contains}
use Rattle.std.proofs.Common.{refl, sym, ap, ◌∙◌, subst, arith}
use Rattle.std.proofs.lemmas.List.{length-map, length-append, map-append, get_or-map}
use Rattle.std.proofs.lemmas.List.Elements.{Contains-get_or}
use Rattle.network_model.specs.Network.{Network}
use Rattle.network_model.specs.Cover.{entry_at}
use Rattle.network_model.specs.Plan.{Plan, IsPlan, reserved}
use Rattle.fault_model.specs.Outcomes as model
use Rattle.fault_model.specs.Outcomes.{Outcome, entries_of}
use Rattle.fault_model.specs.Findings.{Findings, telling, findings}
use Rattle.fault_model.specs.Follow.{verdict_of, outcome_of, and_told, and_telling, follow}
use Rattle.fault_model.proofs.Followed.{reserved_number, probe_number}
use Rattle.fault_model.proofs.Listed.{not_in}
use Rattle.fault_model.proofs.Telling.{follow_ends, telling_reserved, telling_new}
use Rattle.rule_cover.specs.PlanValue.{PlanValue}
use Rattle.probe_agents.specs.declared.shot.Shot.{Shot}
use Rattle.probe_agents.specs.declared.shot.Shot.TheVariants.{Sure}
use Rattle.probe_agents.specs.Firing.{sure}
use Rattle.probe_agents.specs.Sharing.{AreSure}
use Rattle.network_model.specs.Table.{Entry}
use Rattle.suspect_book.specs.declared.verdict.Verdict.{Verdict}
use Rattle.suspect_book.specs.declared.verdict.Verdict.TheVariants.{Pass, Fail}
use Rattle.suspect_book.specs.BookValue.{BookValue}
use Rattle.suspect_book.specs.Reports.{findings_of}
use Rattle.suspect_book.specs.Verdicts.{meaning, verdict_at, outcomes}
use Rattle.suspect_book.specs.declared.report.Report.{Report}
use Rattle.trial_run.specs.Trial.{outcome, outcomes_of}
use Rattle.trial_run.specs.Underway.{IsNoted, left, IsFollowed}
use Rattle.trial_run.proofs.Noted.{noted_free}
use Rattle.trial_run.proofs.Probes.{entries_again, probe_new}
use Rattle.trial_run.proofs.SameFindings.{telling_same, findings_same}

module _ (plan : PlanValue) (bad : List ℕ) (sent : List (ℕ × Verdict)) where
  abbrev of : ℕ → Outcome
  of = outcome_of plan.net plan.hops bad plan.plan.table

  abbrev go_on : ℕ → List Outcome → List Outcome
  go_on = and_telling plan.net plan.hops plan.plan bad

  -- the probes were sent
  pub followed_start : outcomes_of sent ≡ map of plan.plan.probes → IsFollowed plan bad sent
  followed_start are =
      let count : length sent ≡ length plan.plan.probes = sym (length-map sent outcome) ∙ (ap length are ∙ length-map plan.plan.probes of) in
      let times : left plan sent ≡ length (reserved plan.plan) = omega arith in
      ap (λ (n : ℕ). go_on n (outcomes_of sent)) times ∙ ap (go_on (length (reserved plan.plan))) are

  -- none tells
  pub followed_end : IsFollowed plan bad sent → telling plan.plan (outcomes_of sent) ≡ None → outcomes_of sent ≡ follow plan.net plan.hops plan.plan bad
  followed_end goes none = by_times (left plan sent) goes
    where
      by_times : (times : ℕ) → go_on times (outcomes_of sent) ≡ follow plan.net plan.hops plan.plan bad → outcomes_of sent ≡ follow plan.net plan.hops plan.plan bad
      by_times zero is = is
      by_times (suc times) is = sym (ap (and_told plan.net plan.hops plan.plan bad (go_on times) (outcomes_of sent)) none) ∙ is

  -- one tells, and is sent
  pub followed_more : (now : List (ℕ × Verdict)) (n : ℕ) (v : Verdict) → IsFollowed plan bad sent → telling plan.plan (outcomes_of sent) ≡ Some n
      → meaning v ≡ verdict_of plan.net plan.hops bad (entry_at plan.plan.table n) → now ≡ sent ++ (n, v) ∷ [] → IsFollowed plan bad now × (left plan now < left plan sent)
  followed_more now n v goes tells means now_is = by_times (left plan sent) refl goes
    where
      count : length now ≡ suc (length sent)
      count = let two = length-append sent ((n, v) ∷ []) in ap length now_is ∙ omega (arith, two)

      own : outcome (n, v) ≡ of n
      own = λ i. record { entry = n; verdict = means i }

      longer : outcomes_of now ≡ outcomes_of sent ++ of n ∷ []
      longer = ap outcomes_of now_is ∙ (map-append outcome sent ((n, v) ∷ []) ∙ ap (λ (o : Outcome). outcomes_of sent ++ o ∷ []) own)

      by_times : (times : ℕ) → left plan sent ≡ times → go_on times (outcomes_of sent) ≡ follow plan.net plan.hops plan.plan bad → IsFollowed plan bad now × (left plan now < left plan sent)
      by_times zero none is =
          let ends : telling plan.plan (outcomes_of sent) ≡ None = ap (telling plan.plan) is ∙ follow_ends plan.net plan.hops plan.plan bad in
          absurd (cc)
      by_times (suc times) some is =
          let fewer : left plan now ≡ times = omega (arith, count, some) in (
            ap (λ (k : ℕ). go_on k (outcomes_of now)) fewer
                ∙ (ap (go_on times) longer ∙ (sym (ap (and_told plan.net plan.hops plan.plan bad (go_on times) (outcomes_of sent)) tells) ∙ is)),
            omega (arith, fewer, some),
          )

-- what the book tells is what the packets tell
pub book_telling : (plan : PlanValue) (book : BookValue) (sent : List (ℕ × Verdict)) → IsNoted plan book sent → (answer : Option ℕ) → answer ≡ telling book.plan.plan (outcomes book.verdicts)
    → answer ≡ telling plan.plan (outcomes_of sent)
book_telling plan book sent noted answer is =
    is ∙ (ap (λ (p : PlanValue). telling p.plan (outcomes book.verdicts)) noted.plan_is ∙ sym (telling_same plan.plan (outcomes_of sent) (outcomes book.verdicts) noted.same))

pub book_findings : (plan : PlanValue) (book : BookValue) (sent : List (ℕ × Verdict)) (report : Report) → IsNoted plan book sent → findings_of report ≡ findings book.plan.plan (outcomes book.verdicts)
    → findings_of report ≡ findings plan.plan (outcomes_of sent)
book_findings plan book sent report noted is =
    is ∙ (ap (λ (p : PlanValue). findings p.plan (outcomes book.verdicts)) noted.plan_is ∙ sym (findings_same plan.plan (outcomes_of sent) (outcomes book.verdicts) noted.same))

-- an entry that tells is one of the table that has no verdict
pub telling_number : (plan : PlanValue) (sent : List (ℕ × Verdict)) (n : ℕ) → telling plan.plan (outcomes_of sent) ≡ Some n → (0 < n) × (n ≤ length plan.plan.table)
telling_number plan sent n tells = reserved_number plan.plan n (telling_reserved plan.plan (outcomes_of sent) n tells)

pub telling_free : (plan : PlanValue) (book : BookValue) (sent : List (ℕ × Verdict)) (n : ℕ) → IsNoted plan book sent → telling plan.plan (outcomes_of sent) ≡ Some n → verdict_at book.verdicts n ≡ None
telling_free plan book sent n noted tells =
    noted_free plan book sent n noted (not_in (entries_of (outcomes_of sent)) n (telling_new plan.plan (outcomes_of sent) n tells))

-- and so is a probe that was not sent
pub probes_inside : (plan : PlanValue) (probes : List ℕ) → IsPlan plan.net plan.hops plan.plan → probes ≡ plan.plan.probes → All (λ n. (0 < n) × (n ≤ length plan.plan.table)) probes
probes_inside plan probes is are k d inside =
    let n : ℕ = slice_index_or probes k d in
    probe_number plan.plan.table plan.plan.probes is.probes n (subst (λ (l : List ℕ). Contains l n) are (Contains-get_or probes k d inside))

pub probe_free : (plan : PlanValue) (book : BookValue) (sent : List (ℕ × Verdict)) (bad : List ℕ) (i n : ℕ) → IsPlan plan.net plan.hops plan.plan → IsNoted plan book sent
    → outcomes_of sent ≡ map (outcome_of plan.net plan.hops bad plan.plan.table) (take i plan.plan.probes) → slice_get plan.plan.probes i ≡ Some n → verdict_at book.verdicts n ≡ None
probe_free plan book sent bad i n is noted are at =
    let same : entries_of (outcomes_of sent) ≡ take i plan.plan.probes = ap entries_of are ∙ entries_again plan.net plan.hops plan.plan bad (take i plan.plan.probes) in
    noted_free plan book sent n noted (λ c. probe_new plan.net plan.hops plan.plan is i n at (subst (λ (l : List ℕ). Contains l n) same c))

pub report_told : (plan other : PlanValue) (book : BookValue) (sent : List (ℕ × Verdict)) (bad : List ℕ) (report : Report) → other ≡ plan → IsNoted other book sent
    → outcomes_of sent ≡ follow other.net other.hops other.plan bad → findings_of report ≡ findings book.plan.plan (outcomes book.verdicts)
    → findings_of report ≡ findings plan.plan (follow plan.net plan.hops plan.plan bad)
report_told plan other book sent bad report same noted are is =
    subst (λ (p : PlanValue). findings_of report ≡ findings p.plan (follow p.net p.hops p.plan bad)) same
    (book_findings other book sent report noted is ∙ ap (λ (os : List Outcome). findings other.plan os) are)

-- after following none tells
pub none_left : (net : Network) (hops : ℕ) (plan : Plan) (bad : List ℕ) (report : Report) → findings_of report ≡ findings plan (follow net hops plan bad) → report.next ≡ None
none_left net hops plan bad report is = ap (λ (f : Findings). f.next) is ∙ follow_ends net hops plan bad

-- a shot that is sure, and its verdict
pub sure_is : (wanted : model.Verdict) → (v : Verdict) × (sure wanted ≡ Sure v)
sure_is model.Pass = (Pass, refl)
sure_is model.Fail = (Fail, refl)

pub sure_means : (wanted : model.Verdict) (v : Verdict) → Sure v ≡ sure wanted → meaning v ≡ wanted
sure_means model.Pass v is = let same : v ≡ Pass = cc in ap meaning same
sure_means model.Fail v is = let same : v ≡ Fail = cc in ap meaning same

pub shot_is : (shot : Shot) (wanted : model.Verdict) → shot ≡ sure wanted → (v : Verdict) × (shot ≡ Sure v)
shot_is shot wanted is = let named = sure_is wanted in (named.0, is ∙ named.1)

pub shot_at : (net : Network) (hops : ℕ) (bad : List ℕ) (table : List Entry) (probes : List ℕ) (shots : List Shot) (i : ℕ) (d : Shot) → AreSure net hops bad table probes shots → i < length probes
    → slice_index_or shots i d ≡ sure (verdict_of net hops bad (entry_at table (slice_index_or probes i 0)))
shot_at net hops bad table probes shots i d are inside =
    ap (λ (l : List Shot). slice_index_or l i d) are ∙ get_or-map (λ (n : ℕ). sure (verdict_of net hops bad (entry_at table n))) probes i 0 d inside
