-- A state with nothing left, and greater depths.
use Rattle.std.proofs.Common.{◌≡◌, ℕ, ◌-◌, ◌<◌, ◌≤◌, List, [], ◌∷◌, ◌++◌, length, map, get_or, sym, ◌∙◌, subst, ⊎_elim, arith}
use Rattle.std.specs.List.{Contains}
use Rattle.std.proofs.lemmas.Bool.{cases_lt}
use Rattle.std.proofs.lemmas.List.{append-nil, length-append}
use Rattle.list_laws.proofs.Members.{Contains-nil}
use Rattle.network_model.specs.Bits.{Header}
use Rattle.network_model.specs.Network.{Network}
use Rattle.network_model.specs.Classes.{Member}
use Rattle.network_model.specs.Prefixes.{IsPrefix, Extends, IsFurther, Stands}
use Rattle.path_table.specs.Entries.{entry_of}
use Rattle.class_tree.specs.declared.class.Class.{Class}
use Rattle.class_tree.specs.declared.growth.Grown.{Grown}
use Rattle.network_model.specs.Table.{Entry, HasMore}
use Rattle.class_tree.specs.Growth.{GoesOnFrom, AreRest, IsGrown}
use Rattle.model_laws.proofs.RuleLists.{extends_part, further_weaker}
use Rattle.model_laws.proofs.WalkStands.{stands_before, prefix_stands, member_short}

-- the walk of a member begins with its rules
pub member_prefix : (net : Network) (hops start to : ℕ) (rules : List ℕ) (header arrives : Header) → Member net hops start rules to header arrives → IsPrefix net hops start rules
member_prefix net hops start to rules header arrives m = record {
  few = member_short net hops start to rules header arrives m;
  header = header;
  permitted = m.permitted;
  rest = [];
  begins = m.travels ∙ sym (append-nil rules);
}

-- where nothing is left, no header stands so many rules further before the hop limit
none_stands : (net : Network) (hops : ℕ) (class : Class) (depth : ℕ) (grown : Grown) → IsGrown net hops class depth grown → grown.rest.items ≡ []
    → (met : List ℕ) (header : Header) → Stands net class.«from» met header → Extends class.rules depth met → length met < hops → ⊥
none_stands net hops class depth grown is empty met header stands extends few =
    let there = is.rest.complete met header stands extends few in
    Contains-nil there.0 (subst (λ cs. Contains cs there.0) empty there.1)

-- and no walk begins with more rules than those
no_further : (net : Network) (hops : ℕ) (class : Class) (depth : ℕ) (grown : Grown) → IsGrown net hops class depth grown → grown.rest.items ≡ []
    → (more : ℕ) (met : List ℕ) → IsPrefix net hops class.«from» met → IsFurther class.rules more met → IsFurther class.rules depth met
no_further net hops class depth grown is empty more met prefix further = ⊎_elim
    (λ (past : depth < further.count).
    let part = extends_part class.rules depth further.count met (omega arith) further.extends in
    let n : length part.1 ≡ further.count - depth = part.4 in
    absurd (longer_than part.0 part.1 part.2 part.3 (omega arith)))
    (λ (within : further.count ≤ depth). record { count = further.count; some = further.some; most = within; extends = further.extends })
    (cases_lt depth further.count)
  where
    longer_than : (front rest : List ℕ) → met ≡ front ++ rest → Extends class.rules depth front → 1 ≤ length rest → ⊥
    longer_than front [] e extends some = omega arith
    longer_than front (rule ∷ rules) e extends some =
        let prefix' : IsPrefix net hops class.«from» (front ++ rule ∷ rules) = subst (λ l. IsPrefix net hops class.«from» l) e prefix in
        let few : length front < hops = omega (arith, prefix'.few, length-append front (rule ∷ rules)) in
        none_stands net hops class depth grown is empty front prefix'.header (prefix_stands net hops class.from front rules rule prefix') extends few

-- a state with nothing left is as it would be at each greater depth
pub grown_out : (net : Network) (hops : ℕ) (class : Class) (depth more : ℕ) (grown : Grown) → IsGrown net hops class depth grown → grown.rest.items ≡ []
    → depth ≤ more → IsGrown net hops class more grown
grown_out net hops class depth more grown is empty le = record {
  found = record {
    each = λ k d inside. deeper (get_or (map entry_of grown.found.items) k d) (is.found.each k d inside);
    apart = is.found.apart;
    classes = is.found.classes;
    complete = λ f to met header arrives far m.
        is.found.complete f to met header arrives
        (far.0, no_further net hops class depth grown is empty more met (subst (λ s. IsPrefix net hops s met) far.0 (member_prefix net hops f to met header arrives m)) far.1) m;
  };
  rest = subst (λ cs. AreRest net hops class.«from» class.rules more cs) (sym empty) (record {
    starts = λ k d inside. absurd (omega arith);
    further = λ k d inside. absurd (omega arith);
    short = λ k d inside. absurd (omega arith);
    belong = λ k d inside. absurd (omega arith);
    inhabited = λ k d inside. absurd (omega arith);
    apart = λ i j d less inside. absurd (omega arith);
    complete = λ met header stands extends few. absurd (nowhere more met header stands extends few le);
  });
  made = record {
    lists = is.made.lists;
    different = is.made.different;
    prefix = is.made.prefix;
    further = λ k d inside. further_weaker class.rules depth more (get_or is.made.lists k d) le (is.made.further k d inside);
    complete = λ met prefix f. is.made.complete met prefix (no_further net hops class depth grown is empty more met prefix f);
    counted = is.made.counted;
  };
  touched = record {
    rises = is.touched.rises;
    exact = λ box. (
      (λ there.
          let e = (is.touched.exact box).0 there in
          record { header = e.header; met = e.met; stands = e.stands; count = e.count; extends = e.extends; before = omega (arith, e.before); within = e.within; inside = e.inside }),
      (λ e. ⊎_elim
          (λ (less : e.count < depth).
          (is.touched.exact box).1 (record { header = e.header; met = e.met; stands = e.stands; count = e.count; extends = e.extends; before = less; within = e.within; inside = e.inside }))
          (λ (past : depth ≤ e.count). absurd (nowhere e.count e.met e.header e.stands e.extends e.within past))
          (cases_lt e.count depth)),
    );
  };
}
  where
    deeper : (e : Entry) → GoesOnFrom class depth e.«from» e.rules → GoesOnFrom class more e.«from» e.rules
    deeper e far = (far.0, further_weaker class.rules depth more e.rules le far.1)

    nowhere : (count : ℕ) (met : List ℕ) (header : Header) → Stands net class.«from» met header → Extends class.rules count met → length met < hops → depth ≤ count → ⊥
    nowhere count met header stands extends few past =
        let part = extends_part class.rules depth count met past extends in
        let few' : length (part.0 ++ part.1) < hops = subst (λ l. length l < hops) part.2 few in
        none_stands net hops class depth grown is empty part.0 header
        (stands_before net class.from part.0 part.1 header (subst (λ l. Stands net class.«from» l header) part.2 stands)) part.3
        (omega (arith, length-append part.0 part.1))

-- more entries than the limit at a depth are more at each greater one
pub more_deeper : (net : Network) (hops : ℕ) (class : Class) (depth more limit : ℕ) → depth ≤ more → HasMore net hops (GoesOnFrom class depth) limit
    → HasMore net hops (GoesOnFrom class more) limit
more_deeper net hops class depth more limit le has = record {
  entries = has.entries;
  each = λ k d inside. let far = has.each k d inside in (far.0, further_weaker class.rules depth more (get_or has.entries k d).rules le far.1);
  apart = has.apart;
  classes = has.classes;
  more = has.more;
}
