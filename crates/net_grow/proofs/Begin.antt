-- The places of the generated network, edge by edge: each part is taken, and one edge more gives the next places. A fact of
-- each of the 16 edges is one equation of lists, which computes.
use Rattle.std.proofs.Common.{◌≡◌, ℕ, ◌+◌, ◌<◌, [], map, get_or, None, true, refl, sym, ap, ◌∙◌, arith}
use Rattle.std.specs.List.{range_with_len}
use Rattle.std.proofs.lemmas.List.FromFn.{get_or-map-range_with_len}
use Rattle.network_model.specs.Building.{empty, with_box, with_port, with_link, with_terminal, with_permit}
use Rattle.network_model.specs.Network.{Network, Both}
use Rattle.net_types.specs.Refusals.{box_refusal, port_refusal, link_refusal, terminal_refusal, permit_refusal, has_box, has_port_at}
use Rattle.net_grow.specs.Places.{any_header, places}

-- what computes to the same at each edge is the same at an edge
at_edge : {A : Type 0} (f g : ℕ → A) → map f (range_with_len 0 16) ≡ map g (range_with_len 0 16) → (e : ℕ) → e < 16 → f e ≡ g e
at_edge f g same e l =
    sym (get_or-map-range_with_len f 0 16 e e (f e) l (omega arith))
    ∙ ap (λ xs. get_or xs e (f e)) same
    ∙ get_or-map-range_with_len g 0 16 e e (f e) l (omega arith)

abbrev pub with_own_box : ℕ → Network → Network
with_own_box e net = with_box e net

abbrev pub with_outer : ℕ → Network → Network
with_outer e net = with_port (100 + e) e (with_own_box e net)

abbrev pub with_inner : ℕ → Network → Network
with_inner e net = with_port (200 + e) e (with_outer e net)

abbrev pub with_far : ℕ → Network → Network
with_far e net = with_port (300 + e) 16 (with_inner e net)

abbrev pub with_joined : ℕ → Network → Network
with_joined e net = with_link (200 + e) (300 + e) (with_far e net)

abbrev pub with_placed : ℕ → Network → Network
with_placed e net = with_terminal e (100 + e) Both (with_joined e net)

abbrev pub with_edge : ℕ → Network → Network
with_edge e net = with_permit e any_header (with_placed e net)

pub start : with_box 16 (empty 128) ≡ places 0
unfolding places
start = refl

pub own_box_taken : (e : ℕ) → e < 16 → box_refusal (places e) e ≡ None
unfolding places
own_box_taken e l = at_edge (λ k. box_refusal (places k) k) (λ _. None) refl e l

pub outer_taken : (e : ℕ) → e < 16 → port_refusal (with_own_box e (places e)) (100 + e) e ≡ None
unfolding places
outer_taken e l = at_edge (λ k. port_refusal (with_own_box k (places k)) (100 + k) k) (λ _. None) refl e l

pub inner_taken : (e : ℕ) → e < 16 → port_refusal (with_outer e (places e)) (200 + e) e ≡ None
unfolding places
inner_taken e l = at_edge (λ k. port_refusal (with_outer k (places k)) (200 + k) k) (λ _. None) refl e l

pub far_taken : (e : ℕ) → e < 16 → port_refusal (with_inner e (places e)) (300 + e) 16 ≡ None
unfolding places
far_taken e l = at_edge (λ k. port_refusal (with_inner k (places k)) (300 + k) 16) (λ _. None) refl e l

pub link_taken : (e : ℕ) → e < 16 → link_refusal (with_far e (places e)) (200 + e) (300 + e) ≡ None
unfolding places
link_taken e l = at_edge (λ k. link_refusal (with_far k (places k)) (200 + k) (300 + k)) (λ _. None) refl e l

pub terminal_taken : (e : ℕ) → e < 16 → terminal_refusal (with_joined e (places e)) e (100 + e) ≡ None
unfolding places
terminal_taken e l = at_edge (λ k. terminal_refusal (with_joined k (places k)) k (100 + k)) (λ _. None) refl e l

pub permit_taken : (e : ℕ) → e < 16 → permit_refusal (with_placed e (places e)) e any_header ≡ None
unfolding places any_header
permit_taken e l = at_edge (λ k. permit_refusal (with_placed k (places k)) k any_header) (λ _. None) refl e l

pub edge_made : (e : ℕ) → e < 16 → with_edge e (places e) ≡ places (e + 1)
unfolding places
edge_made e l = at_edge (λ k. with_edge k (places k)) (λ k. places (k + 1)) refl e l

-- ---- what is there in the end
pub box_there : (e : ℕ) → e < 16 → has_box (places 16) e ≡ true
unfolding places
box_there e l = at_edge (λ k. has_box (places 16) k) (λ _. true) refl e l

pub core_there : has_box (places 16) 16 ≡ true
unfolding places
core_there = refl

pub outer_there : (e : ℕ) → e < 16 → has_port_at (places 16) e (100 + e) ≡ true
unfolding places
outer_there e l = at_edge (λ k. has_port_at (places 16) k (100 + k)) (λ _. true) refl e l

pub inner_there : (e : ℕ) → e < 16 → has_port_at (places 16) e (200 + e) ≡ true
unfolding places
inner_there e l = at_edge (λ k. has_port_at (places 16) k (200 + k)) (λ _. true) refl e l

pub far_there : (e : ℕ) → e < 16 → has_port_at (places 16) 16 (300 + e) ≡ true
unfolding places
far_there e l = at_edge (λ k. has_port_at (places 16) 16 (300 + k)) (λ _. true) refl e l

pub width_there : (places 16).width ≡ 128
unfolding places
width_there = refl

pub no_rules : (places 16).rules ≡ []
unfolding places
no_rules = refl
