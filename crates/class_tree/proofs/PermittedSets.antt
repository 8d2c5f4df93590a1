-- The headers that match some permit of a terminal and none of its forbidden patterns.
use Rattle.std.specs.Prelude.{◌≡◌, ℕ, ◌+◌, ◌<◌, Bool, true, false, not, ◌&&◌, ◌||◌, List, [], ◌∷◌, length, take, Option, Some, None, All, cond}
use Rattle.std.proofs.Common.{get_or, refl, sym, ap, ◌∙◌}
use Rattle.std.proofs.lemmas.List.{take_more}
use Rattle.std.proofs.lemmas.List.Elements.{All-nil}
use Rattle.std.proofs.lemmas.List.Folds.{list_any-append}
use Rattle.network_model.proofs.SomeClass.{at_value}
use Rattle.network_model.specs.Bits.{Header, Pattern, matches}
use Rattle.network_model.specs.Network.{value_at, Network, Terminal}
use Rattle.network_model.specs.Classes.{permits, terminal_permits, sends}
use Rattle.network_model.specs.WellFormed.{IsWellFormed}
use Rattle.header_sets.specs.Spaces.{any_matches}
use Rattle.class_tree.specs.Permitted.{permits_of, forbids_of, may_send, permits_by, forbids_by, sent_by, sends_at}

-- the patterns of a terminal are as wide as the network
pub permit_widths : (net : Network) → IsWellFormed net → (t : ℕ) → All (λ (q : Pattern). length q ≡ net.width) (permits_by net t)
permit_widths net fits t = at_value (λ o. All (λ (q : Pattern). length q ≡ net.width) (permits_of o)) (All-nil _) net.terminals t (λ k d inside. (fits.placed k d inside).permits)

pub sent_widths : (net : Network) → IsWellFormed net → (t : ℕ) → All (λ (q : Pattern). length q ≡ net.width) (sent_by net t)
sent_widths net fits t = elim (sends_at net t) as (λ b. All (λ (q : Pattern). length q ≡ net.width) (cond b (permits_by net t) [])) [ true ↦ permit_widths net fits t | false ↦ All-nil _ ]

pub forbid_widths : (net : Network) → IsWellFormed net → (t : ℕ) → All (λ (q : Pattern). length q ≡ net.width) (forbids_by net t)
forbid_widths net fits t = at_value (λ o. All (λ (q : Pattern). length q ≡ net.width) (forbids_of o)) (All-nil _) net.terminals t (λ k d inside. (fits.placed k d inside).forbids)

-- one more forbidden pattern
or_none : (b : Bool) → b || false ≡ b
or_none true = refl
or_none false = refl

not_either : (a b c : Bool) → (a && not b) && not c ≡ a && not (b || c)
not_either false b c = refl
not_either true true c = refl
not_either true false c = refl

pub without_next : (permits forbids : List Pattern) (i : ℕ) (p : Pattern) (h : Header) → i < length forbids → p ≡ get_or forbids i p →
    (any_matches permits h && not (any_matches (take i forbids) h)) && not (matches p h) ≡ any_matches permits h && not (any_matches (take (i + 1) forbids) h)
without_next permits forbids i p h inside at =
    let more : any_matches (take (i + 1) forbids) h ≡ any_matches (take i forbids) h || matches p h =
    ap (λ l. any_matches l h) (take_more forbids i p inside) ∙ list_any-append (λ q. matches q h) (take i forbids) (get_or forbids i p ∷ [])
    ∙ ap (λ q. any_matches (take i forbids) h || (matches q h || false)) (sym at) ∙ ap (λ b. any_matches (take i forbids) h || b) (or_none (matches p h)) in
    not_either (any_matches permits h) (any_matches (take i forbids) h) (matches p h) ∙ ap (λ b. any_matches permits h && not b) (sym more)

-- all of them
pub without_all : (net : Network) (t : ℕ) (h : Header) → any_matches (sent_by net t) h && not (any_matches (forbids_by net t) h) ≡ permits net t h
without_all net t h = by_terminal (value_at net.terminals t)
  where
    by_terminal : (o : Option Terminal) → any_matches (cond (may_send o) (permits_of o) []) h && not (any_matches (forbids_of o) h) ≡ terminal_permits o h
    by_terminal None = refl
    by_terminal (Some t) = elim (sends t.role) as (λ b. any_matches (cond b t.permits []) h && not (any_matches t.forbids h) ≡ b && (any_matches t.permits h && not (any_matches t.forbids h))) [ true ↦ refl | false ↦ refl ]
