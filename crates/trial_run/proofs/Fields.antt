-- Fields as links that never fail.
use Rattle.std.specs.Prelude.{◌≡◌, ℕ, ◌+◌, ◌<◌, ◌≤◌, ◌-◌, ◌^◌, List, [], ◌∷◌, length, map, Result, Ok, Err, IfOk, Option, Some, All, sum_by, count_by, slice_index_or}
use Rattle.std.proofs.Common.{Vec, Global, refl, sym, ap, ◌∙◌, subst, arith}
use Rattle.network_model.specs.Network.{Network}
use Rattle.probe_wire.specs.Carrying.{added}
use Rattle.field_sim.specs.FieldValue.{FieldValue}
use Rattle.no_memory.specs.declared.NoMemory.{NoMemory}
use Rattle.network_model.specs.Table.{Entry}
use Rattle.probe_agents.specs.declared.shot.Shot.{Shot}
use Rattle.probe_agents.specs.Firing.{is_faulted}
use Rattle.probe_agents.specs.Seeing.{Seen, seen}
use Rattle.probe_agents.specs.Sharing.{IsField, AreSure}
use Rattle.trial_run.specs.Underway.{IsFieldOf}

-- what a field shows as a link
abbrev pub shown : FieldValue → Seen
shown = seen (λ f. Some f.waiting) (λ f. added f.net f.hops f.bad) (λ f. 0) (λ f. f.sent) (λ f. f.given) (λ f. f.dry)

pub shown_field : (net : Network) (hops : ℕ) (bad : List ℕ) (field : FieldValue) → IsFieldOf net hops bad field → IsField net hops bad (shown field)
shown_field net hops bad field is = record { waiting = ap Some is.waiting; adds = is.adds }

pub shown_fields : (net : Network) (hops : ℕ) (bad : List ℕ) (fields : List FieldValue) → All (IsFieldOf net hops bad) fields → All (λ (f : FieldValue). IsField net hops bad (shown f)) fields
shown_fields net hops bad fields are k d inside = shown_field net hops bad (slice_index_or fields k d) (are k d inside)

pub no_faults : (fields : List FieldValue) → All (λ (f : FieldValue). 0 < 2 ^ 64 - 1) fields
no_faults fields k d inside = omega arith

nothing : (fields : List FieldValue) → sum_by (λ (f : FieldValue). 0) fields ≡ 0
nothing [] = refl
nothing (f ∷ fields) = nothing fields

pub none_faulted : (count : ℕ) (before after : List FieldValue) → count + sum_by (λ (f : FieldValue). 0) before ≤ sum_by (λ (f : FieldValue). 0) after → count ≡ 0
none_faulted count before after few = omega (arith, nothing before, nothing after)

-- none of the shots over fields is faulted, so that all are sure
pub all_sure : (net : Network) (hops : ℕ) (bad : List ℕ) (table : List Entry) (entries : List ℕ) (before after : List FieldValue) (r : Result (Vec Shot Global) NoMemory) → All (IsFieldOf net hops bad) before
    → IfOk r (λ shots. All (λ (f : FieldValue). 0 < 2 ^ 64 - 1) after → count_by is_faulted shots.items + sum_by (λ (f : FieldValue). 0) before ≤ sum_by (λ (f : FieldValue). 0) after)
    → ((other : List ℕ) → All (λ (f : FieldValue). IsField net hops other (shown f)) before
    → IfOk r (λ shots. count_by is_faulted shots.items ≡ 0 → AreSure net hops other table entries shots.items × All (λ (f : FieldValue). Some f.waiting ≡ Some []) after))
    → IfOk r (λ shots. AreSure net hops bad table entries shots.items)
all_sure net hops bad table entries before after (Ok shots) are few sure =
    (sure bad (shown_fields net hops bad before are) (none_faulted (count_by is_faulted shots.items) before after (few (no_faults after)))).0
all_sure net hops bad table entries before after (Err e) are few sure = tt
