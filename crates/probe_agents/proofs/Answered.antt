-- Probes fired one after another over one link.
use Rattle.std.proofs.Common.{◌≡◌, ◌≢◌, ℕ, ◌+◌, ◌-◌, ◌^◌, ◌<◌, ◌≤◌, List, [], ◌∷◌, ◌++◌, refl, sym, ap, ◌∙◌, subst, arith, count_by, Some, cond}
use Rattle.std.proofs.lemmas.List.{map-append}
use Rattle.std.proofs.lemmas.List.Sums.{sum_by-cons, sum_by-append}
use Rattle.byte_edges.specs.Counts.{Rose}
use Rattle.network_model.specs.Table.{Entry}
use Rattle.network_model.specs.Cover.{entry_at}
use Rattle.fault_model.specs.Follow.{verdict_of}
use Rattle.rule_cover.specs.PlanValue.{PlanValue}
use Rattle.probe_wire.specs.declared.probe.ProbeId.{ProbeId}
use Rattle.probe_agents.specs.declared.shot.Shot.{Shot}
use Rattle.probe_agents.specs.declared.shot.Shot.TheVariants.{Sure, Faulted, Strays}
use Rattle.probe_agents.specs.Seeing.{Seen}
use Rattle.probe_agents.specs.Firing.{FiresEntry, is_faulted, sure}
use Rattle.probe_agents.specs.Sharing.{FiresAll, IsKept, IsField}
use Rattle.probe_agents.specs.Slots.{SureAll}
use Rattle.probe_agents.proofs.Kept.{FiresFor-kept}

pub fires_one_more : (table : List Entry) (id : ProbeId) (ns : List ℕ) (shots : List Shot) (n : ℕ) (shot : Shot) (before between after : Seen)
    → FiresAll table id ns shots before between → FiresEntry table id n between after shot → FiresAll table id (ns ++ n ∷ []) (shots ++ shot ∷ []) before after
fires_one_more table id [] [] n shot before between after fired next = (after, subst (λ (s : Seen). FiresEntry table id n s after shot) fired next, refl)
fires_one_more table id [] (s ∷ shots) n shot before between after fired next = absurd fired
fires_one_more table id (m ∷ ns) [] n shot before between after fired next = absurd fired
fires_one_more table id (m ∷ ns) (s ∷ shots) n shot before between after fired next = (fired.0, fired.1, fires_one_more table id ns shots n shot fired.0 between after fired.2 next)

count-cons : (shot : Shot) (shots : List Shot) → count_by is_faulted (shot ∷ shots) ≡ cond (is_faulted shot) 1 0 + count_by is_faulted shots
count-cons shot shots = sum_by-cons (λ (s : Shot). cond (is_faulted s) 1 0) shot shots

pub count-append : (xs ys : List Shot) → count_by is_faulted (xs ++ ys) ≡ count_by is_faulted xs + count_by is_faulted ys
count-append xs ys = sum_by-append (λ (s : Shot). cond (is_faulted s) 1 0) xs ys

none_faulted : (shot : Shot) → count_by is_faulted (shot ∷ []) ≡ 0 → shot ≢ Faulted
none_faulted (Sure v) e same = absurd (cc)
none_faulted Faulted e same = absurd (omega (arith, count-cons Faulted []))
none_faulted Strays e same = absurd (cc)

pub sure_none : (plan : PlanValue) (link : Seen) → SureAll plan [] [] link link
sure_none plan link = λ bad tells none. (refl, tells)

pub sure_one_more : (plan : PlanValue) (ns : List ℕ) (shots : List Shot) (n : ℕ) (shot : Shot) (before between after : Seen) → SureAll plan ns shots before between → IsKept between after
    → ((bad : List ℕ) → IsField plan.net plan.hops bad between → shot ≢ Faulted → (shot ≡ sure (verdict_of plan.net plan.hops bad (entry_at plan.plan.table n))) × (after.waiting ≡ Some []))
    → SureAll plan (ns ++ n ∷ []) (shots ++ shot ∷ []) before after
sure_one_more plan ns shots n shot before between after so_far kept next = λ bad tells none.
    let both = count-append shots (shot ∷ []) in
    let earlier = so_far bad tells (omega arith) in
    let last = next bad earlier.1 (none_faulted shot (omega arith)) in
    let of : ℕ → Shot = λ m. sure (verdict_of plan.net plan.hops bad (entry_at plan.plan.table m)) in
    ((λ i. earlier.0 i ++ last.0 i ∷ []) ∙ sym (map-append of ns (n ∷ [])), record { waiting = last.1; adds = kept.adds ∙ earlier.1.adds })

pub kept_itself : (link : Seen) → IsKept link link
kept_itself link = record { adds = refl; faults = omega arith }

pub kept_both : (before between after : Seen) → IsKept before between → IsKept between after → IsKept before after
kept_both before between after one two = record { adds = two.adds ∙ one.adds; faults = omega (arith, one.faults, two.faults) }

-- the count of faults rises by each faulted shot, unless it comes to its last value
pub faults_rise : (table : List Entry) (id : ProbeId) (ns : List ℕ) (shots : List Shot) (before after : Seen) → FiresAll table id ns shots before after → after.faults < 2 ^ 64 - 1
    → (count_by is_faulted shots + before.faults ≤ after.faults) × (before.faults ≤ after.faults)
faults_rise table id [] [] before after fired below = let same : after.faults ≡ before.faults = ap (λ (s : Seen). s.faults) fired in (omega (arith, same), omega (arith, same))
faults_rise table id [] (s ∷ shots) before after fired below = absurd fired
faults_rise table id (n ∷ ns) [] before after fired below = absurd fired
faults_rise table id (n ∷ ns) (s ∷ shots) before after fired below =
    let rest = faults_rise table id ns shots fired.0 after fired.2 below in
    let kept = FiresFor-kept id n before fired.0 s (entry_at table n) fired.1 in
    let one : cond (is_faulted s) 1 0 + before.faults ≤ fired.0.faults = rise s kept (omega (arith, below, rest.1)) in
    (omega (arith, count-cons s shots, one, rest.0), omega (arith, rest.1, kept.1))
  where
    rise : (s : Shot) → ((fired.0.adds ≡ before.adds) × (before.faults ≤ fired.0.faults) × (s ≡ Faulted → Rose before.faults fired.0.faults)) → fired.0.faults < 2 ^ 64 - 1 → cond (is_faulted s) 1 0 + before.faults ≤ fired.0.faults
    rise (Sure v) kept short = omega (arith, kept.1)
    rise Faulted kept short = let rose = kept.2 refl in omega (arith, rose, short)
    rise Strays kept short = omega (arith, kept.1)

-- all of it, after some entries
pub record HasAnswered (plan : PlanValue) (id : ProbeId) (ns : List ℕ) (shots : List Shot) (before after : Seen) : Type 0 where
  pub fires : FiresAll plan.plan.table id ns shots before after
  pub sure_all : SureAll plan ns shots before after
  pub kept : IsKept before after

pub answered_none : (plan : PlanValue) (id : ProbeId) (link : Seen) → HasAnswered plan id [] [] link link
answered_none plan id link = record { fires = refl; sure_all = sure_none plan link; kept = kept_itself link }

pub answered_more : (plan : PlanValue) (id : ProbeId) (ns : List ℕ) (shots : List Shot) (n : ℕ) (shot : Shot) (before between after : Seen) → HasAnswered plan id ns shots before between
    → FiresEntry plan.plan.table id n between after shot → IsKept between after
    → ((bad : List ℕ) → IsField plan.net plan.hops bad between → shot ≢ Faulted → (shot ≡ sure (verdict_of plan.net plan.hops bad (entry_at plan.plan.table n))) × (after.waiting ≡ Some []))
    → HasAnswered plan id (ns ++ n ∷ []) (shots ++ shot ∷ []) before after
answered_more plan id ns shots n shot before between after so_far fires kept next = record {
  fires = fires_one_more plan.plan.table id ns shots n shot before between after so_far.fires fires;
  sure_all = sure_one_more plan ns shots n shot before between after so_far.sure_all kept next;
  kept = kept_both before between after so_far.kept kept;
}
