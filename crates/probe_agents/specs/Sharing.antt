-- Probes that are shared out over links.
--     FiresAll     one link fired the probes of these entries, one after another, with these answers
--     SharesOut    each link in turn fired the next of the entries
--     IsKept       a link has its rule still, and its count of faults did not fall
--     IsField      a link tells that it is the field of a network with these bad rules, and that nothing waits
--     AreSure      the answers are what the bad rules make of the entries
use Rattle.std.specs.Prelude.{◌≡◌, ℕ, ◌≤◌, List, [], ◌∷◌, ◌++◌, Some, map}
use Rattle.network_model.specs.Network.{Network}
use Rattle.network_model.specs.Table.{Entry}
use Rattle.network_model.specs.Cover.{entry_at}
use Rattle.fault_model.specs.Follow.{verdict_of}
use Rattle.probe_wire.specs.declared.probe.ProbeId.{ProbeId}
use Rattle.probe_wire.specs.Carrying.{added}
use Rattle.probe_agents.specs.declared.shot.Shot.{Shot}
use Rattle.probe_agents.specs.Seeing.{Seen}
use Rattle.probe_agents.specs.Firing.{FiresEntry, sure}

abbrev pub FiresAll : List Entry → ProbeId → List ℕ → List Shot → Seen → Seen → Type 0
FiresAll table id [] [] before after = after ≡ before
FiresAll table id [] (shot ∷ shots) before after = ⊥
FiresAll table id (n ∷ ns) [] before after = ⊥
FiresAll table id (n ∷ ns) (shot ∷ shots) before after =
    (between : Seen) × FiresEntry table id n before between shot × FiresAll table id ns shots between after

-- one link fired the first of these entries, and left the rest
pub record FiresShare (table : List Entry) (id : ProbeId) (entries rest_entries : List ℕ) (shots rest_shots : List Shot) (before after : Seen) : Type 0 where
  pub share : List ℕ
  pub answers : List Shot
  pub entries_are : entries ≡ share ++ rest_entries
  pub shots_are : shots ≡ answers ++ rest_shots
  pub fired : FiresAll table id share answers before after

abbrev pub SharesOut : List Entry → ProbeId → List ℕ → List Shot → List Seen → List Seen → Type 0
SharesOut table id entries shots [] [] = (entries ≡ []) × (shots ≡ [])
SharesOut table id entries shots [] (after ∷ afters) = ⊥
SharesOut table id entries shots (before ∷ befores) [] = ⊥
SharesOut table id entries shots (before ∷ befores) (after ∷ afters) =
    (rest_entries : List ℕ) × (rest_shots : List Shot) × FiresShare table id entries rest_entries shots rest_shots before after
    × SharesOut table id rest_entries rest_shots befores afters

pub record IsKept (before after : Seen) : Type 0 where
  pub adds : after.adds ≡ before.adds
  pub faults : before.faults ≤ after.faults

pub record IsField (net : Network) (hops : ℕ) (bad : List ℕ) (link : Seen) : Type 0 where
  pub waiting : link.waiting ≡ Some []
  pub adds : link.adds ≡ added net hops bad

abbrev pub AreSure : Network → ℕ → List ℕ → List Entry → List ℕ → List Shot → Type 0
AreSure net hops bad table entries shots = shots ≡ map (λ n. sure (verdict_of net hops bad (entry_at table n))) entries
