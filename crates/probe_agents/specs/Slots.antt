-- Links with their shares of the entries.
--     share        the entries of a slot
--     IsReady      a slot has a share and no shots yet
--     HandsOut     the last links went into slots, each with the last entries that were left; the last slot has the first of them
--     SureAll      in a field, answers of which none is faulted are what the bad rules make of the entries
--     HasDone      a slot fired its share, unless memory was wanted
--     Ends         what comes of all links and shots
--     MovesBack    the last slots gave their links and shots back, in the order of the links
use Rattle.std.specs.Prelude.{◌≡◌, ℕ, ◌+◌, ◌-◌, ◌^◌, ◌<◌, ◌≤◌, Bool, true, false, List, [], ◌++◌, Some, length, map, reverse, drop, count_by, sum_by, All, slice_range}
use Rattle.std.specs.List.{AllZip, flat_map}
use Rattle.rule_cover.specs.PlanValue.{PlanValue}
use Rattle.probe_wire.specs.declared.probe.ProbeId.{ProbeId}
use Rattle.probe_agents.specs.declared.shot.Shot.{Shot}
use Rattle.probe_agents.specs.declared.shares.Slot.{Slot}
use Rattle.probe_agents.specs.Seeing.{Seen}
use Rattle.probe_agents.specs.Firing.{is_faulted}
use Rattle.probe_agents.specs.Sharing.{FiresAll, SharesOut, IsKept, IsField, AreSure}

abbrev pub share : {L : Type 0} → List ℕ → Slot L → List ℕ
share entries slot = slice_range entries slot.first slot.end

pub record IsReady {L : Type 0} (entries : List ℕ) (slot : Slot L) : Type 0 where
  pub first : slot.first ≤ slot.end
  pub end : slot.end ≤ length entries
  pub shots : slot.shots.items ≡ []

pub record HandsOut {L : Type 0} (all : List L) (entries : List ℕ) (links : List L) (end : ℕ) (slots : List (Slot L)) : Type 0 where
  pub links_are : all ≡ links ++ map (λ (s : Slot L). s.link) (reverse slots)
  pub entries_are : drop end entries ≡ flat_map (share entries) (reverse slots)
  pub ready : All (IsReady entries) slots
  pub within : end ≤ length entries

abbrev pub SureAll : PlanValue → List ℕ → List Shot → Seen → Seen → Type 0
SureAll plan entries shots before after =
    (bad : List ℕ) → IsField plan.net plan.hops bad before → count_by is_faulted shots ≡ 0
    → AreSure plan.net plan.hops bad plan.plan.table entries shots × IsField plan.net plan.hops bad after

pub record HasDone {L : Type 0} (see : L → Seen) (plan : PlanValue) (id : ProbeId) (entries : List ℕ) (before after : Slot L) : Type 0 where
  pub kept : IsKept (see before.link) (see after.link)
  pub fires : after.wanting ≡ false → FiresAll plan.plan.table id (share entries before) after.shots.items (see before.link) (see after.link)
  pub sure : after.wanting ≡ false → SureAll plan (share entries before) after.shots.items (see before.link) (see after.link)

pub record MovesBack {L : Type 0} (all left : List (Slot L)) (links now_links : List L) (shots now_shots : List Shot) (enough : Bool) : Type 0 where
  pub done : List (Slot L)
  pub all_are : reverse all ≡ done ++ reverse left
  pub links_are : now_links ≡ links ++ map (λ (s : Slot L). s.link) done
  pub shots_are : enough ≡ true → now_shots ≡ shots ++ flat_map (λ (s : Slot L). s.shots.items) done
  pub none_wanting : enough ≡ true → All (λ (s : Slot L). s.wanting ≡ false) done

pub record Ends {L : Type 0} (see : L → Seen) (plan : PlanValue) (id : ProbeId) (entries : List ℕ) (befores afters : List L) (shots : List Shot) (enough : Bool) : Type 0 where
  pub kept : AllZip IsKept (map see befores) (map see afters)
  pub shares : enough ≡ true → SharesOut plan.plan.table id entries shots (map see befores) (map see afters)
  pub faulted : enough ≡ true → All (λ link. (see link).faults < 2 ^ 64 - 1) afters → count_by is_faulted shots + sum_by (λ link. (see link).faults) befores ≤ sum_by (λ link. (see link).faults) afters
  pub fields : enough ≡ true → (bad : List ℕ) → All (λ link. IsField plan.net plan.hops bad (see link)) befores → count_by is_faulted shots ≡ 0
      → AreSure plan.net plan.hops bad plan.plan.table entries shots × All (λ link. (see link).waiting ≡ Some []) afters
