-- The parts of one edge more, each as the builder's call gives it: what the call answers is that it takes the part, and what it makes
-- is the next network.
use Rattle.std.proofs.Common.{◌≡◌, ℕ, ◌+◌, ◌<◌, Result, Ok, None, subst, ◌∙◌}
use Rattle.std.specs.Result.{OnOk}
use Rattle.std.proofs.lemmas.Result.{IfOk-at_ok}
use Rattle.network_model.specs.Bits.{Pattern}
use Rattle.network_model.specs.Building.{with_box, with_port, with_link, with_terminal, with_permit}
use Rattle.network_model.specs.Network.{Network, Both}
use Rattle.net_types.specs.declared.fault.NetFault.{NetFault}
use Rattle.net_types.specs.Refusals.{Answers, box_refusal, port_refusal, link_refusal, terminal_refusal, permit_refusal}
use Rattle.net_grow.specs.Places.{any_header, places}
use Rattle.net_grow.proofs.Begin.{with_own_box, with_outer, with_inner, with_far, with_joined, with_placed, own_box_taken, outer_taken, inner_taken, far_taken, link_taken, terminal_taken, permit_taken, edge_made}

-- what a call that gave its value made
made_by : {X : Type 0} (answer : Result X NetFault) (value : X) (new made : Network) → answer ≡ Ok value → OnOk answer (new ≡ made) → new ≡ made
made_by answer value new made is ok = IfOk-at_ok (λ _. new ≡ made) is ok

pub own_box_due : (e a : ℕ) (net : Network) (answer : Result (Unit {0}) NetFault) → e < 16 → a ≡ e → net ≡ places e
    → Answers answer (box_refusal net a) → Answers answer None
own_box_due e a net answer l is-a before due = subst (λ d. Answers answer d) ((λ i. box_refusal (before i) (is-a i)) ∙ own_box_taken e l) due

pub own_box_made : (e a : ℕ) (net new : Network) (answer : Result (Unit {0}) NetFault) (value : Unit {0}) → a ≡ e → net ≡ places e
    → answer ≡ Ok value → OnOk answer (new ≡ with_box a net) → new ≡ with_own_box e (places e)
own_box_made e a net new answer value is-a before is ok = made_by answer value new (with_box a net) is ok ∙ (λ i. with_box (is-a i) (before i))

pub outer_due : (e a b : ℕ) (net : Network) (answer : Result (Unit {0}) NetFault) → e < 16 → a ≡ 100 + e → b ≡ e → net ≡ with_own_box e (places e)
    → Answers answer (port_refusal net a b) → Answers answer None
outer_due e a b net answer l is-a is-b before due = subst (λ d. Answers answer d) ((λ i. port_refusal (before i) (is-a i) (is-b i)) ∙ outer_taken e l) due

pub outer_made : (e a b : ℕ) (net new : Network) (answer : Result (Unit {0}) NetFault) (value : Unit {0}) → a ≡ 100 + e → b ≡ e → net ≡ with_own_box e (places e)
    → answer ≡ Ok value → OnOk answer (new ≡ with_port a b net) → new ≡ with_outer e (places e)
outer_made e a b net new answer value is-a is-b before is ok = made_by answer value new (with_port a b net) is ok ∙ (λ i. with_port (is-a i) (is-b i) (before i))

pub inner_due : (e a b : ℕ) (net : Network) (answer : Result (Unit {0}) NetFault) → e < 16 → a ≡ 200 + e → b ≡ e → net ≡ with_outer e (places e)
    → Answers answer (port_refusal net a b) → Answers answer None
inner_due e a b net answer l is-a is-b before due = subst (λ d. Answers answer d) ((λ i. port_refusal (before i) (is-a i) (is-b i)) ∙ inner_taken e l) due

pub inner_made : (e a b : ℕ) (net new : Network) (answer : Result (Unit {0}) NetFault) (value : Unit {0}) → a ≡ 200 + e → b ≡ e → net ≡ with_outer e (places e)
    → answer ≡ Ok value → OnOk answer (new ≡ with_port a b net) → new ≡ with_inner e (places e)
inner_made e a b net new answer value is-a is-b before is ok = made_by answer value new (with_port a b net) is ok ∙ (λ i. with_port (is-a i) (is-b i) (before i))

pub far_due : (e a b : ℕ) (net : Network) (answer : Result (Unit {0}) NetFault) → e < 16 → a ≡ 300 + e → b ≡ 16 → net ≡ with_inner e (places e)
    → Answers answer (port_refusal net a b) → Answers answer None
far_due e a b net answer l is-a is-b before due = subst (λ d. Answers answer d) ((λ i. port_refusal (before i) (is-a i) (is-b i)) ∙ far_taken e l) due

pub far_made : (e a b : ℕ) (net new : Network) (answer : Result (Unit {0}) NetFault) (value : Unit {0}) → a ≡ 300 + e → b ≡ 16 → net ≡ with_inner e (places e)
    → answer ≡ Ok value → OnOk answer (new ≡ with_port a b net) → new ≡ with_far e (places e)
far_made e a b net new answer value is-a is-b before is ok = made_by answer value new (with_port a b net) is ok ∙ (λ i. with_port (is-a i) (is-b i) (before i))

pub joined_due : (e a b : ℕ) (net : Network) (answer : Result (Unit {0}) NetFault) → e < 16 → a ≡ 200 + e → b ≡ 300 + e → net ≡ with_far e (places e)
    → Answers answer (link_refusal net a b) → Answers answer None
joined_due e a b net answer l is-a is-b before due = subst (λ d. Answers answer d) ((λ i. link_refusal (before i) (is-a i) (is-b i)) ∙ link_taken e l) due

pub joined_made : (e a b : ℕ) (net new : Network) (answer : Result (Unit {0}) NetFault) (value : Unit {0}) → a ≡ 200 + e → b ≡ 300 + e → net ≡ with_far e (places e)
    → answer ≡ Ok value → OnOk answer (new ≡ with_link a b net) → new ≡ with_joined e (places e)
joined_made e a b net new answer value is-a is-b before is ok = made_by answer value new (with_link a b net) is ok ∙ (λ i. with_link (is-a i) (is-b i) (before i))

pub placed_due : (e a b : ℕ) (net : Network) (answer : Result (Unit {0}) NetFault) → e < 16 → a ≡ e → b ≡ 100 + e → net ≡ with_joined e (places e)
    → Answers answer (terminal_refusal net a b) → Answers answer None
placed_due e a b net answer l is-a is-b before due = subst (λ d. Answers answer d) ((λ i. terminal_refusal (before i) (is-a i) (is-b i)) ∙ terminal_taken e l) due

pub placed_made : (e a b : ℕ) (net new : Network) (answer : Result (Unit {0}) NetFault) (value : Unit {0}) → a ≡ e → b ≡ 100 + e → net ≡ with_joined e (places e)
    → answer ≡ Ok value → OnOk answer (new ≡ with_terminal a b Both net) → new ≡ with_placed e (places e)
placed_made e a b net new answer value is-a is-b before is ok = made_by answer value new (with_terminal a b Both net) is ok ∙ (λ i. with_terminal (is-a i) (is-b i) Both (before i))

pub permitted_due : (e a : ℕ) (b : Pattern) (net : Network) (answer : Result (Unit {0}) NetFault) → e < 16 → a ≡ e → b ≡ any_header → net ≡ with_placed e (places e)
    → Answers answer (permit_refusal net a b) → Answers answer None
permitted_due e a b net answer l is-a is-b before due = subst (λ d. Answers answer d) ((λ i. permit_refusal (before i) (is-a i) (is-b i)) ∙ permit_taken e l) due

-- the permit ends the edge
pub edge_done : (e a : ℕ) (b : Pattern) (net new : Network) → e < 16 → a ≡ e → b ≡ any_header → net ≡ with_placed e (places e) → new ≡ with_permit a b net
    → new ≡ places (e + 1)
edge_done e a b net new l is-a is-b before made = made ∙ (λ i. with_permit (is-a i) (is-b i) (before i)) ∙ edge_made e l
