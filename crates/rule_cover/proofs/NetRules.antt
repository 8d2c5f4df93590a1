-- The rules on the entries of a network's table are the network's.
use Rattle.std.specs.Prelude.{◌≡◌, ℕ, zero, suc, List, [], Option, None, Some, Contains}
use Rattle.std.proofs.Common.{refl, sym, subst, ⊎_elim}
use Rattle.std.proofs.lemmas.Bool.{eqb-true}
use Rattle.std.proofs.lemmas.Map.Views.{Contains-from_any, list_any-from_Contains}
use Rattle.std.proofs.lemmas.Cmp.{nat_eq_equiv}
use Rattle.list_laws.proofs.Members.{Contains-nil, Contains-map, Contains-cons_cases}
use Rattle.network_model.specs.Bits.{Header}
use Rattle.network_model.specs.Rewrites.{rewritten}
use Rattle.network_model.specs.Network.{Network, Numbered, Terminal, value_at, hit, Action, Drop, Out}
use Rattle.network_model.specs.Walk.{walk, Next, Term, Far, Nothing, next, leave, act, step}
use Rattle.network_model.specs.Classes.{walk_at}
use Rattle.network_model.specs.Table.{Entry, IsTable}
use Rattle.network_model.specs.Cover.{rules_at, entry_at}
use Rattle.network_model.proofs.PlanLaws.{exercised_at}
use Rattle.model_laws.proofs.RulesByNumber.{hit_contained}
use Rattle.rule_cover.specs.Places.{numbers_of}

-- rules of a walk, each one the network's
abbrev OfNet : Network → List ℕ → Type 0
OfNet net rules = (r : ℕ) → Contains rules r → Contains (numbers_of net) r

none_of : (net : Network) → OfNet net []
none_of net r c = absurd (Contains-nil r c)

walk_rules : (net : Network) (hops port : ℕ) (header : Header) → OfNet net (walk net hops port header).rules
walk_rules net zero port header = none_of net
walk_rules net (suc hops) port header = by_hit (walk_rules net hops) (hit net port header) refl
  where
    by_next : ((p : ℕ) (h : Header) → OfNet net (walk net hops p h).rules) → (n : Next) (p : ℕ) (h : Header) → OfNet net (leave (walk net hops) p h n).rules
    by_next go_on (Term terminal) p h = none_of net
    by_next go_on (Far far) p h = go_on far h
    by_next go_on Nothing p h = none_of net

    by_action : ((p : ℕ) (h : Header) → OfNet net (walk net hops p h).rules) → (rule : Numbered) → Contains net.rules rule → (a : Action)
        → OfNet net (act net (walk net hops) header rule.0 a).rules
    by_action go_on rule there Drop r c = none_of net r c
    by_action go_on rule there (Out out rewrite) r c =
        ⊎_elim (λ (e : rule.0 ≡ r). subst (Contains (numbers_of net)) e (Contains-map (λ (x : Numbered). x.0) net.rules rule there))
        (λ later. by_next go_on (next net out) out (rewritten rewrite header) r later)
        (Contains-cons_cases rule.0 r (leave (walk net hops) out (rewritten rewrite header) (next net out)).rules c)

    by_hit : ((p : ℕ) (h : Header) → OfNet net (walk net hops p h).rules) → (o : Option Numbered) → hit net port header ≡ o
        → OfNet net (step net (walk net hops) header o).rules
    by_hit go_on None is = none_of net
    by_hit go_on (Some rule) is = by_action go_on rule (hit_contained net port header rule is) rule.1.action

terminal_rules : (net : Network) (hops : ℕ) (o : Option Terminal) (header : Header) → OfNet net (walk_at net hops o header).rules
terminal_rules net hops None header = none_of net
terminal_rules net hops (Some t) header = walk_rules net hops t.port header

pub table_rules : (net : Network) (hops : ℕ) (table : List Entry) → IsTable net hops table → (n r : ℕ) → Contains (rules_at (entry_at table n)) r → Contains (numbers_of net) r
table_rules net hops table t n r c =
    let x = exercised_at net hops table t r n (list_any-from_Contains nat_eq_equiv r (rules_at (entry_at table n)) c) in
    let on : Contains x.rules r = Contains-from_any eqb-true r x.rules x.meets in
    terminal_rules net hops (value_at net.terminals x.from) x.header r (subst (λ (l : List ℕ). Contains l r) (sym x.travels.travels) on)
