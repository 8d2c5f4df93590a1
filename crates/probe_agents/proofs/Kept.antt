-- What every firing keeps: the rule of the link, and its count of faults unless it failed.
use Rattle.std.specs.Prelude.{Result, Ok, Err, IfOk, OnErr}
use Rattle.std.proofs.Common.{◌≡◌, inl, inr, ℕ, ◌≤◌, List, [], ◌∷◌, length, ap, ◌∙◌, arith}
use Rattle.byte_edges.specs.Counts.{Rose}
use Rattle.suspect_book.specs.declared.verdict.Verdict.TheVariants.{Pass, Fail}
use Rattle.probe_agents.specs.declared.shot.Shot.{Shot}
use Rattle.probe_agents.specs.declared.shot.Shot.TheVariants.{Sure, Faulted, Strays}
use Rattle.probe_agents.specs.Seeing.{Seen}
use Rattle.probe_agents.specs.Firing.{GaveAll, EndsAs, HasFired, Fires, GivesUp, FiresFor, GivesUpFor}
use Rattle.probe_agents.specs.Sharing.{IsKept}
use Rattle.network_model.specs.Table.{Entry}
use Rattle.probe_wire.specs.declared.probe.ProbeId.{ProbeId}
use Rattle.std.specs.Prelude.{Option, None, Some}

GaveAll-kept : (term : ℕ) (taken : List (List ℕ)) (before after : Seen) → GaveAll term taken before after → (after.adds ≡ before.adds) × (after.faults ≡ before.faults)
GaveAll-kept term [] before after same = (ap (λ (s : Seen). s.adds) same, ap (λ (s : Seen). s.faults) same)
GaveAll-kept term (bytes ∷ rest) before after gave =
    let later = GaveAll-kept term rest gave.0 after gave.2 in
    (later.0 ∙ gave.1.adds, later.1 ∙ gave.1.faults)

-- what an end keeps, and that the count of faults rises where it is faulted
abbrev Keeps : Seen → Seen → Shot → Type 0
Keeps before after shot = (after.adds ≡ before.adds) × (before.faults ≤ after.faults) × (shot ≡ Faulted → Rose before.faults after.faults)

EndsAs-kept : (term : ℕ) (awaited : List ℕ) (count : ℕ) (before after : Seen) (shot : Shot) → EndsAs term awaited count before after shot → Keeps before after shot
EndsAs-kept term awaited count before after (Sure Pass) ends = (ends.1.adds, omega (arith, ends.1.faults), λ e. absurd (cc))
EndsAs-kept term awaited count before after (Sure Fail) ends = (ends.1.adds, omega (arith, ends.1.faults), λ e. absurd (cc))
EndsAs-kept term awaited count before after Faulted ends = (ends.1.adds, ends.1.no_fall, λ _. ends.1.faults)
EndsAs-kept term awaited count before after Strays ends =
    let faults : after.faults ≡ before.faults = ap (λ (s : Seen). s.faults) ends.1 in
    (ap (λ (s : Seen). s.adds) ends.1, omega (arith, faults), λ e. absurd (cc))

HasFired-kept : (sender receiver : ℕ) (bytes awaited : List ℕ) (before after : Seen) (shot : Shot) → HasFired sender receiver bytes awaited before after shot → Keeps before after shot
HasFired-kept sender receiver bytes awaited before after shot fired =
    let w = fired.waited in
    let took = GaveAll-kept receiver w.strays fired.flying w.then_ w.took in
    let ends = EndsAs-kept receiver awaited (length w.strays) w.then_ after shot w.ends in
    let faults : w.then_.faults ≡ before.faults = took.1 ∙ fired.sent.faults in
    (ends.0 ∙ took.0 ∙ fired.sent.adds, omega (arith, faults, ends.1), λ e. let rose = ends.2 e in omega (arith, faults, rose))

pub Fires-kept : (sender receiver : ℕ) (bytes awaited : List ℕ) (before after : Seen) (shot : Shot) → Fires sender receiver bytes awaited before after shot → Keeps before after shot
Fires-kept sender receiver bytes awaited before after shot (inl fired) = HasFired-kept sender receiver bytes awaited before after shot fired
Fires-kept sender receiver bytes awaited before after shot (inr failed) = (failed.1.adds, failed.1.no_fall, λ _. failed.1.faults)

pub FiresFor-kept : (id : ProbeId) (n : ℕ) (before after : Seen) (shot : Shot) (o : Option Entry) → FiresFor id n before after shot o → Keeps before after shot
FiresFor-kept id n before after shot None none = absurd none
FiresFor-kept id n before after shot (Some e) fires = Fires-kept _ _ _ _ before after shot fires

GivesUp-kept : (sender receiver : ℕ) (bytes awaited : List ℕ) (before after : Seen) → GivesUp sender receiver bytes awaited before after → IsKept before after
GivesUp-kept sender receiver bytes awaited before after (inl same) =
    let faults : after.faults ≡ before.faults = ap (λ (s : Seen). s.faults) same in
    record { adds = ap (λ (s : Seen). s.adds) same; faults = omega (arith, faults) }
GivesUp-kept sender receiver bytes awaited before after (inr left) =
    let took = GaveAll-kept receiver left.taken.strays left.flying after left.taken.took in
    let faults : after.faults ≡ before.faults = took.1 ∙ left.sent.faults in
    record { adds = took.0 ∙ left.sent.adds; faults = omega (arith, faults) }

GivesUpFor-kept : (id : ProbeId) (n : ℕ) (before after : Seen) (o : Option Entry) → GivesUpFor id n before after o → IsKept before after
GivesUpFor-kept id n before after None none = absurd none
GivesUpFor-kept id n before after (Some e) gives_up = GivesUp-kept _ _ _ _ before after gives_up

-- after every answer
pub kept_either : {E : Type 0} (id : ProbeId) (n : ℕ) (before after : Seen) (o : Option Entry) (result : Result Shot E)
    → IfOk result (λ shot. FiresFor id n before after shot o) → OnErr result (GivesUpFor id n before after o) → IsKept before after
kept_either id n before after o (Ok shot) fires gives_up = let kept = FiresFor-kept id n before after shot o fires in record { adds = kept.0; faults = kept.1 }
kept_either id n before after o (Err e) fires gives_up = GivesUpFor-kept id n before after o gives_up

pub rose_faulted : {E : Type 0} (id : ProbeId) (n : ℕ) (before after : Seen) (o : Option Entry) (result : Result Shot E)
    → IfOk result (λ shot. FiresFor id n before after shot o) → IfOk result (λ shot. shot ≡ Faulted → Rose before.faults after.faults)
rose_faulted id n before after o (Ok shot) fires = (FiresFor-kept id n before after shot o fires).2
rose_faulted id n before after o (Err e) fires = tt
