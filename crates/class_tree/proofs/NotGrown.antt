-- A class that hasn't grown yet.
use Rattle.std.proofs.Common.{◌≡◌, ℕ, zero, suc, ◌<◌, [], ◌∷◌, length, map, refl, sym, subst, arith, lit<, IsTrue}
use Rattle.std.specs.List.{All}
use Rattle.list_laws.proofs.Members.{Contains-nil}
use Rattle.network_model.specs.Bits.{Header}
use Rattle.network_model.specs.Network.{Network}
use Rattle.path_table.specs.Entries.{entry_of, AreEntries}
use Rattle.header_sets.specs.Spaces.{holds}
use Rattle.class_tree.specs.declared.class.Class.{Class}
use Rattle.class_tree.specs.declared.growth.Grown.{Grown}
use Rattle.class_tree.specs.Belonging.{Belongs}
use Rattle.network_model.specs.Prefixes.{Extends, Stands}
use Rattle.class_tree.specs.Growth.{GoesOnFrom, AreRest, AreTouched, IsGrown}
use Rattle.model_laws.proofs.RuleLists.{extends_itself, extends_nothing}

-- a state that hasn't grown has the class itself as its rest, where that goes on
pub not_grown : (net : Network) (hops : ℕ) (class : Class) (grown : Grown) → AreRest net hops class.«from» class.rules 0 grown.rest.items
    → grown.found.items ≡ [] → grown.made ≡ 0 → grown.touched.items ≡ [] → IsGrown net hops class 0 grown
not_grown net hops class grown rest no_found none_made no_touched = record {
  found = subst (λ es. AreEntries net hops (GoesOnFrom class 0) (map entry_of es)) (sym no_found) (record {
    each = λ k d inside. absurd (omega arith);
    apart = λ i j d less inside. absurd (omega arith);
    classes = λ k d inside. absurd (omega arith);
    complete = λ f to met header arrives far m. absurd (omega (arith, far.1.some, far.1.most));
  });
  rest = rest;
  made = record {
    lists = [];
    different = λ i j d less inside. absurd (omega arith);
    prefix = λ k d inside. absurd (omega arith);
    further = λ k d inside. absurd (omega arith);
    complete = λ met prefix f. absurd (omega (arith, f.some, f.most));
    counted = none_made;
  };
  touched = subst (λ bs. AreTouched net hops class.«from» class.rules 0 bs) (sym no_touched) (record {
    rises = λ k inside. absurd (omega arith);
    exact = λ box. (λ there. absurd (Contains-nil box there), λ enters. absurd (omega (arith, enters.before)));
  });
}

-- the class itself
pub rest_itself : (net : Network) (hops : ℕ) (class : Class) → Belongs net class → length class.rules < hops → ((h : Header) × IsTrue (holds class.space h))
    → AreRest net hops class.«from» class.rules 0 (class ∷ [])
rest_itself net hops class belongs short some = record {
  starts = only (λ (c : Class). c.«from» ≡ class.«from») refl;
  further = only (λ (c : Class). Extends class.rules 0 c.rules) (extends_itself class.rules);
  short = only (λ (c : Class). length c.rules < hops) short;
  belong = only (Belongs net) belongs;
  inhabited = only (λ (c : Class). (h : Header) × Stands net class.«from» c.rules h) (some.0, (belongs.headers some.0).0 some.1);
  apart = λ i j d less inside. absurd (omega arith);
  complete = λ met header stands extends few. (class, (0, lit< tt, refl), sym (extends_nothing class.rules met extends));
}
  where
    only : (P : Class → Type 0) → P class → All P (class ∷ [])
    only P p zero d inside = p
    only P p (suc k) d inside = absurd (omega arith)

-- nothing, where no header of the class goes on before the hop limit
pub rest_nothing : (net : Network) (hops : ℕ) (class : Class) → ((h : Header) → Stands net class.«from» class.rules h → length class.rules < hops → ⊥)
    → AreRest net hops class.«from» class.rules 0 []
rest_nothing net hops class none = record {
  starts = λ k d inside. absurd (omega arith);
  further = λ k d inside. absurd (omega arith);
  short = λ k d inside. absurd (omega arith);
  belong = λ k d inside. absurd (omega arith);
  inhabited = λ k d inside. absurd (omega arith);
  apart = λ i j d less inside. absurd (omega arith);
  complete = λ met header stands extends few.
      let same = extends_nothing class.rules met extends in
      absurd (none header (subst (λ l. Stands net class.«from» l header) same stands) (subst (λ l. length l < hops) same few));
}
