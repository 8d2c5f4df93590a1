-- A state that grows from one depth to the next, class by class.
use Rattle.std.proofs.Common.{◌≡◌, ℕ, ◌+◌, ◌<◌, ◌≤◌, List, [], ◌∷◌, ◌++◌, length, map, take, get_or, Some, refl, sym, ap, ◌∙◌, subst, inl, inr, ⊎_elim, arith}
use Rattle.std.specs.List.{Contains}
use Rattle.std.proofs.lemmas.Bool.{cases_lt}
use Rattle.std.proofs.lemmas.List.{get_or_default, take_more, take_all}
use Rattle.std.proofs.lemmas.List.Elements.{All-contains, Contains-append_left, Contains-append_right, Contains-append_cases, Contains-push, Contains-push_cases}
use Rattle.list_laws.proofs.Places.{same_front}
use Rattle.list_laws.proofs.Members.{Contains-nil, Contains-map, Contains-from_map}
use Rattle.network_model.specs.Bits.{Header}
use Rattle.network_model.specs.Network.{value_at, Network}
use Rattle.network_model.specs.Prefixes.{IsPrefix, Extends, IsFurther, Stands, extended}
use Rattle.network_model.specs.Table as model
use Rattle.path_table.specs.Entries.{entry_of, AreEntries}
use Rattle.class_tree.specs.declared.class.Class.{Class}
use Rattle.class_tree.specs.declared.growth.Grown.{Grown}
use Rattle.class_tree.specs.Belonging.{Belongs}
use Rattle.class_tree.specs.Growth.{AreTouched, IsGrown}
use Rattle.class_tree.specs.Among.{IsListed, RestAmong, IsAmong, IsNext, HasTaken, HasJoined}
use Rattle.model_laws.proofs.RuleLists.{longer, extends_less, extends_length, further_weaker, further_cases, further_length}
use Rattle.model_laws.proofs.WalkStands.{prefix_stands, stands_prefix}
use Rattle.class_tree.proofs.GrownOut.{member_prefix}

-- the rules of a class that is delivered are ones with which walks begin
entry_prefix : (net : Network) (hops start : ℕ) (e : model.Entry) → e.«from» ≡ start → model.IsClass net hops e → IsPrefix net hops start e.rules
entry_prefix net hops start e from class =
    subst (λ s. IsPrefix net hops s e.rules) from (member_prefix net hops e.from e.to e.rules e.least e.arrives class.least)

-- between a depth and the next: the longer lists of the classes before a place are taken, and none of those from there on
pub record IsBetween (net : Network) (hops : ℕ) (base : Class) (depth : ℕ) (classes : List Class) (place : ℕ) (grown : Grown) : Type 0 where
  pub lists : List (List ℕ)
  pub among : IsAmong net hops base (depth + 1) lists grown
  pub before : (met : List ℕ) → IsPrefix net hops base.«from» met → IsFurther base.rules depth met → Contains lists met
  pub done : (i : ℕ) (d : Class) → i < place → i < length classes → (rule : ℕ) → IsPrefix net hops base.«from» (extended (get_or classes i d).rules rule)
      → Contains lists (extended (get_or classes i d).rules rule)
  pub left : (i : ℕ) (d : Class) → place ≤ i → i < length classes → (rule : ℕ) → Contains lists (extended (get_or classes i d).rules rule) → ⊥

-- a list with one rule more is too long for the depth
too_long : (base : List ℕ) (depth : ℕ) (met : List ℕ) → Extends base (depth + 1) met → IsFurther base depth met → ⊥
too_long base depth met extends further = omega (arith, extends_length base (depth + 1) met extends, further_length base depth met further)

-- before the first class
pub between_start : (net : Network) (hops : ℕ) (base : Class) (depth : ℕ) (old new : Grown) → IsGrown net hops base depth old
    → new.found.items ≡ old.found.items → new.rest.items ≡ [] → new.made ≡ old.made → IsBetween net hops base depth old.rest.items 0 new
between_start net hops base depth old new is same_found no_rest same_made = record {
  lists = is.made.lists;
  among = record {
    found = subst (λ es. AreEntries net hops (IsListed base.«from» is.made.lists) (map entry_of es)) (sym same_found) (record {
      each = λ k d inside.
          let e = get_or (map entry_of old.found.items) k d in
          let far = is.found.each k d inside in
          (far.0, is.made.complete e.rules (entry_prefix net hops base.from e far.0 (is.found.classes k d inside)) far.1);
      apart = is.found.apart;
      classes = is.found.classes;
      complete = λ f to met header arrives there m.
          is.found.complete f to met header arrives (there.0, All-contains (IsFurther base.rules depth) is.made.lists met is.made.further there.1) m;
    });
    rest = subst (λ cs. RestAmong net hops base.«from» base.rules (depth + 1) is.made.lists cs) (sym no_rest) (record {
      starts = λ k d inside. absurd (omega arith);
      further = λ k d inside. absurd (omega arith);
      short = λ k d inside. absurd (omega arith);
      belong = λ k d inside. absurd (omega arith);
      inhabited = λ k d inside. absurd (omega arith);
      listed = λ k d inside. absurd (omega arith);
      apart = λ i j d less inside. absurd (omega arith);
      complete = λ met header there stands extends few.
          absurd (too_long base.rules depth met extends (All-contains (IsFurther base.rules depth) is.made.lists met is.made.further there));
    });
    count = record {
      different = is.made.different;
      prefix = is.made.prefix;
      further = λ k d inside. further_weaker base.rules depth (depth + 1) (get_or is.made.lists k d) (omega arith) (is.made.further k d inside);
      counted = same_made ∙ is.made.counted;
    };
  };
  before = is.made.complete;
  done = λ i d less inside rule prefix. absurd (omega arith);
  left = λ i d le inside rule there.
      let own = (get_or old.rest.items i d).rules in
      omega (
        arith,
        longer own rule,
        extends_length base.rules depth own (is.rest.further i d inside),
        further_length base.rules depth (extended own rule) (All-contains (IsFurther base.rules depth) is.made.lists (extended own rule) is.made.further there),
      );
}

-- whichever boxes were touched
pub between_touching : (net : Network) (hops : ℕ) (base : Class) (depth : ℕ) (classes : List Class) (place : ℕ) (new newer : Grown) → newer.found ≡ new.found → newer.rest ≡ new.rest
    → newer.made ≡ new.made → IsBetween net hops base depth classes place new → IsBetween net hops base depth classes place newer
between_touching net hops base depth classes place new newer found rest made between = record {
  lists = between.lists;
  among = record {
    found = rw found between.among.found;
    rest = rw rest between.among.rest;
    count = rw made between.among.count;
  };
  before = between.before;
  done = between.done;
  left = between.left;
}

-- the class at the place is the next
pub between_next : (net : Network) (hops : ℕ) (base : Class) (depth : ℕ) (old : Grown) (place : ℕ) (class : Class) (new : Grown) → IsGrown net hops base depth old
    → place < length old.rest.items → class ≡ get_or old.rest.items place class → (between : IsBetween net hops base depth old.rest.items place new)
    → IsNext base depth between.lists class
between_next net hops base depth old place class new is inside at between = record {
  starts = subst (λ (c : Class). c.«from» ≡ base.«from») (sym at) (is.rest.starts place class inside);
  extends = subst (λ (c : Class). Extends base.rules depth c.rules) (sym at) (is.rest.further place class inside);
  fresh = λ rule there.
      between.left place class (omega arith) inside rule
      (subst (λ (c : Class). Contains between.lists (extended c.rules rule)) at there);
}

-- the class at the place is taken
pub between_more : (net : Network) (hops : ℕ) (base : Class) (depth : ℕ) (old : Grown) (place : ℕ) (class : Class) (new newer : Grown) → IsGrown net hops base depth old
    → place < length old.rest.items → class ≡ get_or old.rest.items place class → (between : IsBetween net hops base depth old.rest.items place new)
    → HasTaken net hops base (depth + 1) between.lists class newer → IsBetween net hops base depth old.rest.items (place + 1) newer
between_more net hops base depth old place class new newer is inside at between taken = record {
  lists = between.lists ++ added;
  among = taken.among;
  before = λ met prefix further. Contains-append_left between.lists added met (between.before met prefix further);
  done = λ i d less within rule prefix. ⊎_elim
      (λ (earlier : i < place).
      Contains-append_left between.lists added (extended (get_or classes i d).rules rule) (between.done i d earlier within rule prefix))
      (λ (later : place ≤ i).
      let same : place ≡ i = omega arith in
      let own : class ≡ get_or classes i d = at ∙ (get_or_default classes place class d inside ∙ ap (λ k. get_or classes k d) same) in
      Contains-append_right between.lists added (extended (get_or classes i d).rules rule)
      (subst (λ (c : Class). Contains added (extended c.rules rule)) own
      (Contains-map (extended class.rules) taken.rules rule
      (taken.all rule (subst (λ (c : Class). IsPrefix net hops base.«from» (extended c.rules rule)) (sym own) prefix)))))
      (cases_lt i place);
  left = λ i d le within rule there.
      let met = extended (get_or classes i d).rules rule in
      ⊎_elim
      (λ here. between.left i d (omega arith) within rule here)
      (λ here.
      let source = Contains-from_map (extended class.rules) taken.rules met here in
      let fronts : class.rules ≡ (get_or classes i d).rules = (same_front class.rules (get_or classes i d).rules source.0 rule source.1.1).0 in
      let own : class ≡ get_or classes place d = at ∙ get_or_default classes place class d inside in
      is.rest.apart place i d (omega arith) within (sym (ap (λ (c : Class). c.rules) own) ∙ fronts))
      (Contains-append_cases between.lists added met there);
}
  where
    classes : List Class
    classes = old.rest.items

    added : List (List ℕ)
    added = map (extended class.rules) taken.rules

-- after the last class each list is taken with which walks begin
all_taken : (net : Network) (hops : ℕ) (base : Class) (depth : ℕ) (old : Grown) (place : ℕ) (new : Grown) → IsGrown net hops base depth old → length old.rest.items ≤ place
    → (between : IsBetween net hops base depth old.rest.items place new) → (met : List ℕ) → IsPrefix net hops base.«from» met → IsFurther base.rules (depth + 1) met
    → Contains between.lists met
all_taken net hops base depth old place new is end between met prefix further = ⊎_elim
    (λ fewer. between.before met prefix fewer)
    (λ extends.
    let less = extends_less base.rules depth met extends in
    let front = less.0 in
    let rule = less.1 in
    let prefix' : IsPrefix net hops base.«from» (front ++ rule ∷ []) = subst (λ l. IsPrefix net hops base.«from» l) less.2 prefix in
    let few : length front < hops = omega (arith, prefix'.few, longer front rule) in
    let there = is.rest.complete front prefix'.header (prefix_stands net hops base.from front [] rule prefix') less.3 few in
    let class : Class = there.0 in
    let i = there.1.0 in
    let at : get_or old.rest.items i class ≡ class = there.1.2 in
    let inside : i < length old.rest.items = there.1.1 in
    let own : (get_or old.rest.items i class).rules ≡ front = ap (λ (c : Class). c.rules) at ∙ there.2 in
    subst (λ l. Contains between.lists l) (sym less.2)
    (subst (λ l. Contains between.lists (extended l rule)) own
    (between.done i class (omega arith) inside rule (subst (λ l. IsPrefix net hops base.«from» (extended l rule)) (sym own) prefix'))))
    (further_cases base.rules depth met further)

-- where the headers of a class stand
port_there : (net : Network) (class : Class) (start : ℕ) (met : List ℕ) (h : Header) → class.«from» ≡ start → class.rules ≡ met → Belongs net class
    → (s : Stands net start met h) → s.place.port ≡ class.port
port_there net class start met h from same belongs =
    subst (λ st. (s : Stands net st met h) → s.place.port ≡ class.port) from
    (subst (λ l. (s : Stands net class.«from» l h) → s.place.port ≡ class.port) same (belongs.port h))

-- the box of some class of a list
abbrev pub IsBoxOf : Network → List Class → ℕ → Type 0
IsBoxOf net classes box = (class : Class) × Contains classes class × (value_at net.ports class.port ≡ Some box)

touched_next : (net : Network) (hops : ℕ) (base : Class) (depth : ℕ) (old new : Grown) → IsGrown net hops base depth old
    → HasJoined (IsBoxOf net old.rest.items) old.touched.items new.touched.items → AreTouched net hops base.«from» base.rules (depth + 1) new.touched.items
touched_next net hops base depth old new is joined = record {
  rises = joined.rises is.touched.rises;
  exact = λ box. (
    (λ there. ⊎_elim
        (λ before.
        let e = (is.touched.exact box).0 before in
        record { header = e.header; met = e.met; stands = e.stands; count = e.count; extends = e.extends; before = omega (arith, e.before); within = e.within; inside = e.inside })
        (λ here.
        let class : Class = here.0 in
        let some = All-contains (λ (c : Class). (h : Header) × Stands net base.«from» c.rules h) old.rest.items class is.rest.inhabited here.1 in
        let from : class.«from» ≡ base.«from» = All-contains (λ (c : Class). c.«from» ≡ base.«from») old.rest.items class is.rest.starts here.1 in
        let belongs : Belongs net class = All-contains (Belongs net) old.rest.items class is.rest.belong here.1 in
        let port : some.1.place.port ≡ class.port = port_there net class base.from class.rules some.0 from refl belongs some.1 in
        record {
          header = some.0;
          met = class.rules;
          stands = some.1;
          count = depth;
          extends = All-contains (λ (c : Class). Extends base.rules depth c.rules) old.rest.items class is.rest.further here.1;
          before = omega arith;
          within = All-contains (λ (c : Class). length c.rules < hops) old.rest.items class is.rest.short here.1;
          inside = ap (value_at net.ports) port ∙ here.2;
        })
        ((joined.exact is.touched.rises box).0 there)),
    (λ e. (joined.exact is.touched.rises box).1 (⊎_elim
        (λ (less : e.count < depth).
        inl ((is.touched.exact box).1 (record { header = e.header; met = e.met; stands = e.stands; count = e.count; extends = e.extends; before = less; within = e.within; inside = e.inside })))
        (λ (past : depth ≤ e.count).
        let same : e.count ≡ depth = omega (arith, e.before) in
        let there = is.rest.complete e.met e.header e.stands (subst (λ k. Extends base.rules k e.met) same e.extends) e.within in
        let class : Class = there.0 in
        let from : class.«from» ≡ base.«from» = All-contains (λ (c : Class). c.«from» ≡ base.«from») old.rest.items class is.rest.starts there.1 in
        let belongs : Belongs net class = All-contains (Belongs net) old.rest.items class is.rest.belong there.1 in
        let port : e.stands.place.port ≡ class.port = port_there net class base.from e.met e.header from there.2 belongs e.stands in
        inr (class, there.1, sym (ap (value_at net.ports) port) ∙ e.inside))
        (cases_lt e.count depth))),
  );
}

-- after the last class the state is grown by one rule more
pub between_end : (net : Network) (hops : ℕ) (base : Class) (depth : ℕ) (old : Grown) (place : ℕ) (new : Grown) → IsGrown net hops base depth old → length old.rest.items ≤ place
    → IsBetween net hops base depth old.rest.items place new → HasJoined (IsBoxOf net (take place old.rest.items)) old.touched.items new.touched.items
    → IsGrown net hops base (depth + 1) new
between_end net hops base depth old place new is end between joined =
    let found = between.among.found in
    let rest = between.among.rest in
    let count = between.among.count in
    let all = all_taken net hops base depth old place new is end between in record {
      found = record {
        each = λ k d inside.
            let listed = found.each k d inside in
            (listed.0, All-contains (IsFurther base.rules (depth + 1)) between.lists (get_or (map entry_of new.found.items) k d).rules count.further listed.1);
        apart = found.apart;
        classes = found.classes;
        complete = λ f to met header arrives far m.
            let begun : IsPrefix net hops base.«from» met = subst (λ s. IsPrefix net hops s met) far.0 (member_prefix net hops f to met header arrives m) in
            found.complete f to met header arrives (far.0, all met begun far.1) m;
      };
      rest = record {
        starts = rest.starts;
        further = rest.further;
        short = rest.short;
        belong = rest.belong;
        inhabited = rest.inhabited;
        apart = rest.apart;
        complete = λ met header stands extends few.
            let few' : length met ≤ hops = omega arith in
            rest.complete met header
            (all met (stands_prefix net hops base.from met header stands few') (record { count = depth + 1; some = omega arith; most = omega arith; extends = extends }))
            stands extends few;
      };
      made = record { lists = between.lists; different = count.different; prefix = count.prefix; further = count.further; complete = all; counted = count.counted };
      touched = touched_next net hops base depth old new is
          (subst (λ cs. HasJoined (IsBoxOf net cs) old.touched.items new.touched.items) (take_all place old.rest.items end) joined);
    }

-- no box has joined yet
pub joined_start : (net : Network) (classes : List Class) (boxes : List ℕ) → HasJoined (IsBoxOf net (take 0 classes)) boxes boxes
joined_start net classes boxes = record {
  rises = λ rises. rises;
  exact = λ rises box. (λ there. inl there, λ there. ⊎_elim (λ here. here) (λ here. absurd (Contains-nil here.0 here.1)) there);
}

-- the box of one more class joins
pub joined_more : (net : Network) (classes : List Class) (place : ℕ) (class : Class) (old new newer : List ℕ) → place < length classes → class ≡ get_or classes place class
    → HasJoined (IsBoxOf net (take place classes)) old new → HasJoined (λ box. value_at net.ports class.port ≡ Some box) new newer
    → HasJoined (IsBoxOf net (take (place + 1) classes)) old newer
joined_more net classes place class old new newer inside at one two = record {
  rises = λ rises. two.rises (one.rises rises);
  exact = λ rises box. (
    (λ there. ⊎_elim
        (λ before. ⊎_elim
        (λ first. inl first)
        (λ boxed. inr (boxed.0, subst (λ cs. Contains cs boxed.0) (sym more) (Contains-append_left (take place classes) (class ∷ []) boxed.0 boxed.1), boxed.2))
        ((one.exact rises box).0 before))
        (λ own. inr (class, subst (λ cs. Contains cs class) (sym more) (Contains-push (take place classes) class), own))
        ((two.exact (one.rises rises) box).0 there)),
    (λ there. (two.exact (one.rises rises) box).1 (⊎_elim
        (λ first. inl ((one.exact rises box).1 (inl first)))
        (λ boxed. ⊎_elim
        (λ earlier. inl ((one.exact rises box).1 (inr (boxed.0, earlier, boxed.2))))
        (λ (same : class ≡ boxed.0). inr (ap (λ (c : Class). value_at net.ports c.port) same ∙ boxed.2))
        (Contains-push_cases (take place classes) class boxed.0 (subst (λ cs. Contains cs boxed.0) more boxed.1)))
        there)),
  );
}
  where
    more : take (place + 1) classes ≡ take place classes ++ class ∷ []
    more = take_more classes place class inside ∙ ap (λ (c : Class). take place classes ++ c ∷ []) (sym at)
