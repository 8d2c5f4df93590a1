-- The lists of rules that the walks of a terminal's headers meet: no rule, or some.
use Rattle.std.specs.Prelude.{IsTrue}
use Rattle.std.proofs.Common.{◌≡◌, ◌⊎◌, ℕ, zero, suc, ◌≤◌, List, [], ◌∷◌, length, Option, Some, None, refl, inl, inr, arith}
use Rattle.network_model.specs.Bits.{Header}
use Rattle.network_model.specs.Network.{value_at, Network, Numbered, Action, Drop, Out, Terminal, hit}
use Rattle.network_model.specs.Walk.{walk, step, act, Delivered}
use Rattle.network_model.specs.Classes.{permits, walk_at, walk_from, Member}
use Rattle.network_model.specs.Prefixes.{IsPrefix, IsFurther}
use Rattle.model_laws.proofs.WalkStands.{member_short}

-- a header that is delivered met a rule
some_rule : (net : Network) (hops start to : ℕ) (rules : List ℕ) (header arrives : Header) → Member net hops start rules to header arrives → 1 ≤ length rules
some_rule net hops start to (rule ∷ rules) header arrives m = omega arith
some_rule net hops start to [] header arrives m = absurd (by_terminal (value_at net.terminals start) m.travels m.delivered)
  where
    by_action : (left number : ℕ) (a : Action) → (act net (walk net left) header number a).rules ≡ []
        → (act net (walk net left) header number a).end ≡ Delivered to arrives → ⊥
    by_action left number Drop none end = cc
    by_action left number (Out port rewrite) none end = cc

    by_hit : (left : ℕ) (o : Option Numbered) → (step net (walk net left) header o).rules ≡ []
        → (step net (walk net left) header o).end ≡ Delivered to arrives → ⊥
    by_hit left None none end = cc
    by_hit left (Some r) none end = by_action left r.0 r.1.action none end

    by_walk : (left port : ℕ) → (walk net left port header).rules ≡ [] → (walk net left port header).end ≡ Delivered to arrives → ⊥
    by_walk zero port none end = cc
    by_walk (suc left) port none end = by_hit left (hit net port header) none end

    by_terminal : (o : Option Terminal) → (walk_at net hops o header).rules ≡ [] → (walk_at net hops o header).end ≡ Delivered to arrives → ⊥
    by_terminal None none end = cc
    by_terminal (Some t) none end = by_walk hops t.port none end

further : (hops : ℕ) (rules : List ℕ) → 1 ≤ length rules → length rules ≤ hops → IsFurther [] hops rules
further hops rules some few = record {
  count = length rules;
  some = some;
  most = few;
  extends = record { more = rules; begins = refl; long = refl };
}

-- the rules of a header that is delivered are some, within the hop limit
pub member_further : (net : Network) (hops start to : ℕ) (rules : List ℕ) (header arrives : Header) → Member net hops start rules to header arrives
    → IsFurther [] hops rules
member_further net hops start to rules header arrives m =
    further hops rules (some_rule net hops start to rules header arrives m) (member_short net hops start to rules header arrives m)

-- a list with which walks begin has no rule, or some within the hop limit
pub prefix_cases : (net : Network) (hops start : ℕ) (rules : List ℕ) → IsPrefix net hops start rules → ([] ≡ rules) ⊎ IsFurther [] hops rules
prefix_cases net hops start [] prefix = inl refl
prefix_cases net hops start (rule ∷ rules) prefix = inr (further hops (rule ∷ rules) (omega arith) prefix.few)

-- a walk of a permitted header begins with no rule
pub root_prefix : (net : Network) (hops start : ℕ) (header : Header) → IsTrue (permits net start header) → IsPrefix net hops start []
root_prefix net hops start header permitted = record {
  few = omega arith;
  header = header;
  permitted = permitted;
  rest = (walk_from net hops start header).rules;
  begins = refl;
}
