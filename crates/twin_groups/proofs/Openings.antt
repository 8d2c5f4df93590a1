-- Where a terminal stands, and two that stand alike.
use Rattle.std.specs.Prelude.{IsTrue}
use Rattle.std.proofs.Common.{◌≡◌, ℕ, true, false, List, map, length, ◌<◌, get_or, Option, Some, None, refl, sym, ap, ◌∙◌, subst}
use Rattle.std.specs.List.{Contains}
use Rattle.std.specs.Option.{option_map}
use Rattle.std.proofs.lemmas.Bool.{eq-eqb}
use Rattle.list_laws.proofs.Members.{Contains-from_map}
use Rattle.network_model.specs.Network.{value_at, Network, Terminal, Numbered, Role, OnePort}
use Rattle.network_model.specs.Classes.{sends}
use Rattle.net_types.specs.Terminals.{place_of}
use Rattle.net_types.specs.declared.rule.Rule.{Rule}
use Rattle.net_types.specs.Rules.{in_port, numbered}
use Rattle.twin_laws.specs.Twins.{IsUnnamed, AreTwins}
use Rattle.twin_groups.specs.Splits.{names_port, IsOpenAt, AreAlike}

some_same : {A : Type 0} (a b : A) → Some a ≡ Some b → a ≡ b
some_same a b e = cc

pub opened : (net : Network) (terminal port box : ℕ) (role : Role) → Some (port, role) ≡ place_of (value_at net.terminals terminal) → IsTrue (sends role)
    → value_at net.ports port ≡ Some box → IsUnnamed net box port → IsOpenAt net box terminal
opened net terminal port box role at active inside unnamed = by_terminal (value_at net.terminals terminal) refl at
  where
    by_terminal : (o : Option Terminal) → value_at net.terminals terminal ≡ o → Some (port, role) ≡ place_of o → IsOpenAt net box terminal
    by_terminal None is e = let no : ⊥ = cc in absurd no
    by_terminal (Some t) is e =
        let both : (port, role) ≡ (t.port, t.role) = some_same (port, role) (t.port, t.role) e in
        let p : port ≡ t.port = ap (λ (x : ℕ × Role). x.0) both in
        let r : role ≡ t.role = ap (λ (x : ℕ × Role). x.1) both in record {
          placed = t;
          there = is;
          active = subst (λ x. IsTrue (sends x)) r active;
          inside = subst (λ x. value_at net.ports x ≡ Some box) p inside;
          unnamed = subst (λ x. IsUnnamed net box x) p unnamed;
        }

-- a box of which no rule names the port
pub none_names : (net : Network) (box port : ℕ) (rules : List Rule) → ((r : Numbered) → Contains net.rules r → r.1.at ≡ box → Contains (map numbered rules) r)
    → ((k : ℕ) (d : Rule) → k < length rules → names_port (in_port (get_or rules k d).inp) port ≡ false) → IsUnnamed net box port
none_names net box port rules all each r there at named =
    let source = Contains-from_map numbered rules r (all r there at) in
    let rule : Rule = source.0 in
    let place = source.1.0 in
    let no : names_port (in_port rule.inp) port ≡ false = subst (λ (x : Rule). names_port (in_port x.inp) port ≡ false) place.2 (each place.0 rule place.1) in
    let own : in_port rule.inp ≡ OnePort port = ap (λ (x : Numbered). x.1.inp) source.1.1 ∙ named in
    let yes : names_port (in_port rule.inp) port ≡ true = ap (λ i. names_port i port) own ∙ eq-eqb port port refl in
    cc

-- two that stand open at one box and send the same can't be told apart
pub twins_from : (net : Network) (box a b : ℕ) → IsOpenAt net box a → IsOpenAt net box b → AreAlike net a b → AreTwins net a b
twins_from net box a b open_a open_b alike = record {
  first = open_a.placed;
  first_there = open_a.there;
  first_sends = open_a.active;
  second = open_b.placed;
  second_there = open_b.there;
  second_sends = open_b.active;
  permits = some_same open_a.placed.permits open_b.placed.permits
      (ap (option_map (λ (t : Terminal). t.permits)) (sym open_a.there) ∙ (alike.permits ∙ ap (option_map (λ (t : Terminal). t.permits)) open_b.there));
  forbids = some_same open_a.placed.forbids open_b.placed.forbids
      (ap (option_map (λ (t : Terminal). t.forbids)) (sym open_a.there) ∙ (alike.forbids ∙ ap (option_map (λ (t : Terminal). t.forbids)) open_b.there));
  box = box;
  first_inside = open_a.inside;
  second_inside = open_b.inside;
  first_unnamed = open_a.unnamed;
  second_unnamed = open_b.unnamed;
}
