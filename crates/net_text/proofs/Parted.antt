-- The parts of a network as they are looked up one after another, and what each declares.
--     entry_at      what stands at a place of a list of numbered things, by the number there and what is at that number
--     is_there      a place within a list has something
--     stands_at     a terminal by its port and its role
--     links-lower   a link is declared by its lower port, and by the other not
--     as_wide       what a rule writes is as wide as its pattern
use Rattle.std.proofs.Common.{◌≡◌, ℕ, zero, suc, ◌<◌, ◌≤◌, cond, List, [], ◌∷◌, length, map, Option, Some, None, IsSome, refl, sym, ap, ◌∙◌, eqb, inl, inr}
use Rattle.std.specs.Prelude.{nat_lt}
use Rattle.std.specs.List.{filter, slice_get}
use Rattle.std.specs.Option.{option_map}
use Rattle.std.proofs.lemmas.Bool.{eqb-true, cases_Bool, eq-eqb, lt-ltb, le-ltb, false≢true}
use Rattle.network_model.specs.Network.{Network, Terminal, Role, Numbered, Rule, Action, Drop, Out, value_at}
use Rattle.network_model.specs.WellFormed.{Rises, FitsRule, FitsOut}
use Rattle.net_types.specs.declared.terminal.Role as code
use Rattle.net_types.specs.Terminals.{place_of, answered_place}
use Rattle.model_laws.proofs.Numbered.{absent_later, rises_tail}
use Rattle.net_text.specs.Declarations.{Declaration, DeclarePort, DeclareLink, DeclareTerminal, DeclareRule}
use Rattle.net_text.specs.Printing.{links_of}
use Rattle.net_types.specs.Rules.{IsAsWide}

abbrev pub port_declared : ℕ × ℕ → Declaration
port_declared port = DeclarePort port.0 port.1

abbrev pub link_declared : ℕ × ℕ → Declaration
link_declared link = DeclareLink link.0 link.1

abbrev pub terminal_declared : ℕ × Terminal → Declaration
terminal_declared t = DeclareTerminal t.0 t.1.port t.1.role

abbrev pub rule_declared : Numbered → Declaration
rule_declared rule = DeclareRule rule.0 rule.1

abbrev numbers : {A : Type 0} → Option (ℕ × A) → Option ℕ
numbers e = option_map (λ e. e.0) e

none_there : {A : Type 0} (e : Option (ℕ × A)) (k : ℕ) → e ≡ None → numbers e ≡ Some k → ⊥
none_there e k none is = let gone : numbers e ≡ None = ap numbers none in cc

pub entry_at : {A : Type 0} (es : List (ℕ × A)) (i k : ℕ) → Rises es → Some k ≡ numbers (slice_get es i) → slice_get es i ≡ option_map (λ v. (k, v)) (value_at es k)
entry_at [] i k rises found = absurd cc
entry_at (e ∷ es) zero k rises found =
    let same : k ≡ e.0 = cc in
    sym (ap (λ b. option_map (λ v. (k, v)) (cond b (Some e.1) (value_at es k))) (eq-eqb e.0 k (sym same)) ∙ ap (λ n. Some (n, e.1)) same)
entry_at {A} (e ∷ es) (suc i) k rises found =
    let rest : slice_get es i ≡ option_map (λ v. (k, v)) (value_at es k) = entry_at es i k (rises_tail e es rises) found in
    elim (cases_Bool (eqb e.0 k)) [
      | inl same ↦
          let later : value_at es k ≡ None = ap (value_at es) (sym (eqb-true e.0 k same)) ∙ absent_later e es rises in
          absurd (none_there (slice_get es i) k (rest ∙ ap (option_map (λ v. (k, v))) later) (sym found))
      | inr other ↦ rest ∙ sym (ap (λ b. option_map (λ v. (k, v)) (cond b (Some e.1) (value_at es k))) other)
    ]

some_of : {A : Type 0} (value : Option A) (e : Option (ℕ × A)) (k : ℕ) → e ≡ option_map (λ v. (k, v)) value → Some k ≡ numbers e → IsSome value
some_of None e k is found = absurd (none_there e k is (sym found))
some_of (Some v) e k is found = refl

-- the number at a place has something
pub value_there : {A : Type 0} (es : List (ℕ × A)) (i k : ℕ) → Rises es → Some k ≡ numbers (slice_get es i) → IsSome (value_at es k)
value_there es i k rises found = some_of (value_at es k) (slice_get es i) k (entry_at es i k rises found) found

pub some_value : {A : Type 0} (value : Option A) → IsSome value → (v : A) × (value ≡ Some v)
some_value None is = absurd (false≢true is)
some_value (Some v) is = (v, refl)

pub none_mapped : {X Y : Type 0} (f : X → Y) (o : Option X) → None ≡ option_map f o → o ≡ None
none_mapped f None is = refl
none_mapped f (Some x) is = cc

-- ---- where a terminal stands

pub record StandsAt (value : Option Terminal) (port : ℕ) (role : Role) : Type 0 where
  pub terminal : Terminal
  pub there : value ≡ Some terminal
  pub same_port : terminal.port ≡ port
  pub same_role : terminal.role ≡ role

pub stands_at : (value : Option Terminal) (port : ℕ) (role : Role) → Some (port, role) ≡ place_of value → StandsAt value port role
stands_at None port role is = absurd cc
stands_at (Some t) port role is =
    let own : ℕ × Role = (t.port, t.role) in
    let asked : ℕ × Role = (port, role) in
    let place : own ≡ asked = cc in
    record { terminal = t; there = refl; same_port = ap (λ p. p.0) place; same_role = ap (λ p. p.1) place }

pub place_there : (answer : Option (ℕ × code.Role)) (value : Option Terminal) → answered_place answer ≡ place_of value → IsSome value → IsSome answer
place_there None None is there = absurd (false≢true there)
place_there None (Some t) is there = absurd cc
place_there (Some place) value is there = refl

-- ---- links by their lower port

pub links-lower : (link : ℕ × ℕ) (links : List (ℕ × ℕ)) → link.0 < link.1 → links_of (link ∷ links) ≡ DeclareLink link.0 link.1 ∷ links_of links
links-lower link links lower = ap (λ b. map link_declared (cond b (link ∷ filter (λ l. nat_lt l.0 l.1) links) (filter (λ l. nat_lt l.0 l.1) links))) (lt-ltb link.0 link.1 lower)

pub links-upper : (link : ℕ × ℕ) (links : List (ℕ × ℕ)) → link.1 ≤ link.0 → links_of (link ∷ links) ≡ links_of links
links-upper link links upper = ap (λ b. map link_declared (cond b (link ∷ filter (λ l. nat_lt l.0 l.1) links) (filter (λ l. nat_lt l.0 l.1) links))) (le-ltb link.0 link.1 upper)

-- ---- rules as wide as their patterns

pub as_wide : (net : Network) (rule : Rule) → FitsRule net rule → IsAsWide (length rule.pattern) rule.action
as_wide net rule fits = width rule.action fits.out
  where
    width : (action : Action) → FitsOut net rule.at action → IsAsWide (length rule.pattern) action
    width Drop out = tt
    width (Out port moves) out = out.1 ∙ sym fits.pattern
