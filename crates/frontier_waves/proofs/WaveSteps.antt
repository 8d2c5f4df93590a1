-- A search from one wave to the next, class by class.
use Rattle.std.proofs.Common.{◌≡◌, ◌≢◌, ◌⊎◌, ◌↔◌, ℕ, ◌+◌, ◌-◌, ◌*◌, ◌^◌, ◌<◌, ◌≤◌, List, [], ◌∷◌, ◌++◌, length, map, min, take, get_or, refl, sym, ap, ◌∙◌, inl, inr, subst, ⊎_elim, arith}
use Rattle.std.specs.List.{All, AllPairs, Contains}
use Rattle.std.proofs.lemmas.List.{length-map, map-append, take_at}
use Rattle.std.proofs.lemmas.List.Elements.{All-append, All-map, All-weaker, All-contains, Contains-append_left, Contains-append_right, Contains-push, Contains-push_cases}
use Rattle.list_laws.proofs.Members.{Contains-nil, Contains-map}
use Rattle.list_laws.proofs.Pairs.{AllPairs-append, AllPairs-map}
use Rattle.network_model.specs.Bits.{Header}
use Rattle.network_model.specs.Network.{Network}
use Rattle.network_model.specs.Prefixes.{Extends, IsFurther, IsPrefix, Stands, Touches}
use Rattle.network_model.specs.Table.{Entry, HasMore}
use Rattle.model_laws.proofs.RuleLists.{extends_length}
use Rattle.twin_laws.specs.Shared.{weight_of, IsWeighed}
use Rattle.twin_laws.proofs.Weighed.{weighed_same, weighed_joined, total_of_one, capped_product}
use Rattle.path_table.specs.Entries.{entry_of, AreEntries}
use Rattle.path_table.proofs.JoinedEntries.{entries_same, entries_joined, more_joined}
use Rattle.class_tree.specs.declared.class.Class.{Class}
use Rattle.class_tree.specs.Belonging.{Belongs}
use Rattle.class_tree.specs.Growth.{GoesOnFrom, AreRest, IsMade, Enters}
use Rattle.class_tree.specs.Searched.{StartsAmong}
use Rattle.frontier_waves.specs.declared.frontier.Found.{Found}
use Rattle.frontier_waves.specs.declared.frontier.Frontier.{Frontier}
use Rattle.frontier_waves.specs.Waves.{Within, path_of, HasSearched, Takes}

-- a list that goes on from that of one of these classes by at most so many rules
abbrev pub Behind : ℕ → List Class → ℕ → List ℕ → Type 0
Behind stride classes start rules = (class : Class) × Contains classes class × GoesOnFrom class stride start rules

-- one that goes on by just so many
abbrev pub Ends : ℕ → List Class → ℕ → List ℕ → Type 0
Ends stride classes start rules = (class : Class) × Contains classes class × (start ≡ class.«from») × Extends class.rules stride rules

-- a list of so many rules at most, or one behind the classes that are taken
abbrev pub Partly : List ℕ → ℕ → ℕ → List Class → ℕ → List ℕ → Type 0
Partly terminals depth stride done start rules = Within terminals depth start rules ⊎ Behind stride done start rules

-- some class came to the box
abbrev pub IsBoxOf : Network → ℕ → ℕ → List Class → ℕ → ℕ → Type 0
IsBoxOf net hops stride done terminal box = (class : Class) × Contains done class × (terminal ≡ class.«from») × Enters net hops class.«from» class.rules stride box

-- the classes that go on behind those that are taken
pub record AreNext (net : Network) (hops stride : ℕ) (done next : List Class) : Type 0 where
  pub ends : All (λ (c : Class). Ends stride done c.«from» c.rules) next
  pub belong : All (Belongs net) next
  pub inhabited : All (λ (c : Class). (h : Header) × Stands net c.«from» c.rules h) next
  pub apart : AllPairs (λ (a b : Class). path_of a ≢ path_of b) next
  pub complete : (start : ℕ) (met : List ℕ) (header : Header) → Ends stride done start met → Stands net start met header → length met < hops →
      (class : Class) × Contains next class × (class.«from» ≡ start) × (class.rules ≡ met)

-- between two waves: the classes of the first that are taken have been added
pub record IsBetween (net : Network) (hops : ℕ) (twins : List (ℕ × ℕ)) (terminals : List ℕ) (depth stride : ℕ) (done : List Class) (found : Found) (classes : List Class) : Type 0 where
  pub entries : AreEntries net hops (Partly terminals depth stride done) (map entry_of found.entries.items)
  pub prefixes : IsWeighed net hops (Partly terminals depth stride done) twins found.classes
  pub touched : (terminal box : ℕ) → Contains found.touched (terminal, box)
      ↔ ((Contains terminals terminal × Touches net depth terminal box) ⊎ IsBoxOf net hops stride done terminal box)
  pub next : AreNext net hops stride done classes

-- ---- before the first class

within_alone : (terminals : List ℕ) (depth stride start : ℕ) (rules : List ℕ) → Partly terminals depth stride [] start rules → Within terminals depth start rules
within_alone terminals depth stride start rules there = ⊎_elim (λ w. w) (λ b. absurd (Contains-nil b.0 b.1)) there

pub between_start : (net : Network) (hops : ℕ) (twins : List (ℕ × ℕ)) (terminals : List ℕ) (depth stride : ℕ) (found : Found) (wave : List Class) → HasSearched net hops twins terminals depth found wave
    → IsBetween net hops twins terminals depth stride [] found []
between_start net hops twins terminals depth stride found wave is = record {
  entries = entries_same net hops (Within terminals depth) (Partly terminals depth stride []) (map entry_of found.entries.items) (λ start rules w. inl w)
      (λ start to rules header arrives there m. within_alone terminals depth stride start rules there) is.entries;
  prefixes = weighed_same net hops (Within terminals depth) (Partly terminals depth stride []) twins found.classes (λ start rules w. inl w)
      (λ start rules there begins. within_alone terminals depth stride start rules there) is.prefixes;
  touched = λ terminal box. (
    (λ there. inl ((is.touched terminal box).0 there)),
    (λ there. ⊎_elim (λ t. (is.touched terminal box).1 t) (λ b. absurd (Contains-nil b.0 b.1)) there),
  );
  next = record {
    ends = λ k d inside. absurd (omega arith);
    belong = λ k d inside. absurd (omega arith);
    inhabited = λ k d inside. absurd (omega arith);
    apart = λ i j d less inside. absurd (omega arith);
    complete = λ start met header b stands few. absurd (Contains-nil b.0 b.1);
  };
}

-- ---- one class more

-- the first rules of a list that goes on from another
front_of : (start rules : List ℕ) (stride depth : ℕ) → length start ≡ depth → IsFurther start stride rules → take depth rules ≡ start
front_of start rules stride depth long far = ap (take depth) far.extends.begins ∙ take_at start far.extends.more depth long

pub further_long : (start rules : List ℕ) (stride : ℕ) → IsFurther start stride rules → (length start < length rules) × (length rules ≤ length start + stride)
further_long start rules stride far =
    let n = extends_length start far.count rules far.extends in
    (omega (arith, far.some), omega (arith, far.most))

pub ends_behind : (stride : ℕ) (classes : List Class) (start : ℕ) (rules : List ℕ) → 1 ≤ stride → Ends stride classes start rules → Behind stride classes start rules
ends_behind stride classes start rules some e = (e.0, e.1, (e.2, record { count = stride; some = some; most = omega arith; extends = e.3 }))

-- the numbers of the lists that are made, each for all terminals for which the class's is searched
made_weighed : (net : Network) (hops stride : ℕ) (twins : List (ℕ × ℕ)) (class : Class) (made : ℕ) → IsMade net hops class.«from» class.rules stride made
    → IsWeighed net hops (GoesOnFrom class stride) twins (min (made * weight_of twins class.«from») (2 ^ 64 - 1))
made_weighed net hops stride twins class made is = record {
  pairs = map pair is.lists;
  are = record {
    different = AllPairs-map pair (λ (a b : ℕ × List ℕ). a ≢ b) is.lists (λ i j d less inside same. is.different i j d less inside (ap (λ (p : ℕ × List ℕ). p.1) same));
    sound = All-map (λ (p : ℕ × List ℕ). GoesOnFrom class stride p.0 p.1 × IsPrefix net hops p.0 p.1) pair is.lists
        (λ k d inside. ((refl, is.further k d inside), is.prefix k d inside));
    complete = λ start rules there begins.
        let own : IsPrefix net hops class.«from» rules = subst (λ s. IsPrefix net hops s rules) there.0 begins in
        subst (λ s. Contains (map pair is.lists) (s, rules)) (sym there.0) (Contains-map pair is.lists rules (is.complete rules own there.1));
  };
  weighed = capped_product made (length is.lists) (weight_of twins class.«from») (2 ^ 64 - 1) (omega arith) is.counted
      ∙ ap (λ n. min n (2 ^ 64 - 1)) (sym (total_of_one (weight_of twins) class.«from» is.lists));
}
  where
    pair : List ℕ → ℕ × List ℕ
    pair rules = (class.«from», rules)

-- one more class of the wave, that is not taken yet
pub record IsFresh (depth : ℕ) (done : List Class) (class : Class) : Type 0 where
  pub long : length class.rules ≡ depth
  pub all_long : All (λ (c : Class). length c.rules ≡ depth) done
  pub apart : (c : Class) → Contains done c → path_of c ≢ path_of class

module _ (net : Network) (hops : ℕ) (twins : List (ℕ × ℕ)) (terminals : List ℕ) (depth stride : ℕ) (some : 1 ≤ stride) (done : List Class) (class : Class) (fresh : IsFresh depth done class) where
  behind_other : (start : ℕ) (rules : List ℕ) → Behind stride done start rules → GoesOnFrom class stride start rules → ⊥
  behind_other start rules b far =
      let c : Class = b.0 in
      let long : length c.rules ≡ depth = All-contains (λ (c : Class). length c.rules ≡ depth) done c fresh.all_long b.1 in
      let fronts : c.rules ≡ class.rules = sym (front_of c.rules rules stride depth long b.2.1) ∙ front_of class.rules rules stride depth fresh.long far.1 in
      let starts : c.«from» ≡ class.«from» = sym b.2.0 ∙ far.0 in
      let pairs : path_of c ≡ path_of class = λ i. (starts i, fronts i) in
      fresh.apart c b.1 pairs

  pub excluded : (start : ℕ) (rules : List ℕ) → Partly terminals depth stride done start rules → GoesOnFrom class stride start rules → ⊥
  excluded start rules there far = ⊎_elim
      (λ w. let n = further_long class.rules rules stride far.1 in let m = w.1 in omega (arith, fresh.long, n.0))
      (λ b. behind_other start rules b far)
      there

  abbrev more : List Class
  more = done ++ class ∷ []

  abbrev Either : ℕ → List ℕ → Type 0
  Either start rules = Partly terminals depth stride done start rules ⊎ GoesOnFrom class stride start rules

  behind_more : (start : ℕ) (rules : List ℕ) → Behind stride done start rules → Behind stride more start rules
  behind_more start rules b = (b.0, Contains-append_left done (class ∷ []) b.0 b.1, b.2)

  behind_cases : (start : ℕ) (rules : List ℕ) → Behind stride more start rules → Behind stride done start rules ⊎ GoesOnFrom class stride start rules
  behind_cases start rules b = ⊎_elim
      (λ earlier. inl (b.0, earlier, b.2))
      (λ same. inr (subst (λ (c : Class). GoesOnFrom c stride start rules) (sym same) b.2))
      (Contains-push_cases done class b.0 b.1)

  ends_cases : (start : ℕ) (rules : List ℕ) → Ends stride more start rules → Ends stride done start rules ⊎ ((start ≡ class.«from») × Extends class.rules stride rules)
  ends_cases start rules e = ⊎_elim
      (λ earlier. inl (e.0, earlier, e.2, e.3))
      (λ same. inr (subst (λ (c : Class). (start ≡ c.«from») × Extends c.rules stride rules) (sym same) (e.2, e.3)))
      (Contains-push_cases done class e.0 e.1)

  onward : (start : ℕ) (rules : List ℕ) → Either start rules → Partly terminals depth stride more start rules
  onward start rules there = ⊎_elim
      (λ partly. ⊎_elim (λ w. inl w) (λ b. inr (behind_more start rules b)) partly)
      (λ far. inr (class, Contains-push done class, far))
      there

  back : (start : ℕ) (rules : List ℕ) → Partly terminals depth stride more start rules → Either start rules
  back start rules there = ⊎_elim
      (λ w. inl (inl w))
      (λ b. ⊎_elim (λ earlier. inl (inr earlier)) (λ far. inr far) (behind_cases start rules b))
      there

  goes_on : (c : Class) → c.«from» ≡ class.«from» → Extends class.rules stride c.rules → GoesOnFrom class stride c.«from» c.rules
  goes_on c from extends = (from, record { count = stride; some = some; most = omega arith; extends = extends })

  next_more : (next rest : List Class) → AreNext net hops stride done next → AreRest net hops class.«from» class.rules stride rest → AreNext net hops stride more (next ++ rest)
  next_more next rest is own = record {
    ends = All-append (λ (c : Class). Ends stride more c.«from» c.rules) next rest
        (All-weaker (λ (c : Class). Ends stride done c.«from» c.rules) (λ (c : Class). Ends stride more c.«from» c.rules)
        (λ c e. (e.0, Contains-append_left done (class ∷ []) e.0 e.1, e.2, e.3)) next is.ends)
        (λ k d inside. (class, Contains-push done class, own.starts k d inside, own.further k d inside));
    belong = All-append (Belongs net) next rest is.belong own.belong;
    inhabited = All-append (λ (c : Class). (h : Header) × Stands net c.«from» c.rules h) next rest is.inhabited
        (λ k d inside. let some = own.inhabited k d inside in (some.0, subst (λ s. Stands net s (get_or rest k d).rules some.0) (sym (own.starts k d inside)) some.1));
    apart = AllPairs-append (λ (a b : Class). path_of a ≢ path_of b) next rest is.apart
        (λ i j d less inside same. own.apart i j d less inside (ap (λ (p : ℕ × List ℕ). p.1) same))
        (λ a b in_a in_b same.
        let ends : Ends stride done a.«from» a.rules = All-contains (λ (c : Class). Ends stride done c.«from» c.rules) next a is.ends in_a in
        let behind : Behind stride done a.«from» a.rules = ends_behind stride done a.«from» a.rules some ends in
        let from : b.«from» ≡ class.«from» = All-contains (λ (c : Class). c.«from» ≡ class.«from») rest b own.starts in_b in
        let far : GoesOnFrom class stride b.«from» b.rules = goes_on b from (All-contains (λ (c : Class). Extends class.rules stride c.rules) rest b own.further in_b) in
        behind_other b.«from» b.rules (subst (λ (p : ℕ × List ℕ). Behind stride done p.0 p.1) same behind) far);
    complete = λ start met header b stands few. ⊎_elim
        (λ earlier. let c = is.complete start met header earlier stands few in (c.0, Contains-append_left next rest c.0 c.1, c.2, c.3))
        (λ far.
        let own_stands : Stands net class.«from» met header = subst (λ s. Stands net s met header) far.0 stands in
        let c = own.complete met header own_stands far.1 few in
        let from : c.0.«from» ≡ class.«from» = All-contains (λ (c : Class). c.«from» ≡ class.«from») rest c.0 own.starts c.1 in
        (c.0, Contains-append_right next rest c.0 c.1, from ∙ sym far.0, c.2))
        (ends_cases start met b);
  }

  pub between_more : (old new : Frontier) → IsBetween net hops twins terminals depth stride done old.found old.wave.items → Takes net hops twins stride class old new
      → IsBetween net hops twins terminals depth stride more new.found new.wave.items
  between_more old new is taken =
      let grown = taken.grown in
      let own = taken.is in
      let counted : ℕ = min (grown.made * weight_of twins class.«from») (2 ^ 64 - 1) in
      let all : List Entry = map entry_of old.found.entries.items in
      let added : List Entry = map entry_of grown.found.items in
      let list : map entry_of new.found.entries.items ≡ all ++ added = ap (map entry_of) taken.entries ∙ map-append entry_of old.found.entries.items grown.found.items in record {
        entries = subst (λ es. AreEntries net hops (Partly terminals depth stride more) es) (sym list)
            (entries_same net hops Either (Partly terminals depth stride more) (all ++ added) onward (λ start to rules header arrives there m. back start rules there)
            (entries_joined net hops (Partly terminals depth stride done) (GoesOnFrom class stride) all added excluded is.entries own.found));
        prefixes = subst (λ n. IsWeighed net hops (Partly terminals depth stride more) twins n) (sym taken.classes)
            (weighed_same net hops Either (Partly terminals depth stride more) twins (min (old.found.classes + counted) (2 ^ 64 - 1)) onward (λ start rules there begins. back start rules there)
            (weighed_joined net hops (Partly terminals depth stride done) (GoesOnFrom class stride) twins old.found.classes counted excluded is.prefixes (made_weighed net hops stride twins class grown.made own.made)));
        touched = λ terminal box. (
          (λ there. ⊎_elim
              (λ before. ⊎_elim
              (λ t. inl t)
              (λ b. inr (b.0, Contains-append_left done (class ∷ []) b.0 b.1, b.2, b.3))
              ((is.touched terminal box).0 before))
              (λ here. inr (class, Contains-push done class, here.0, (own.touched.exact box).0 here.1))
              ((taken.touched terminal box).0 there)),
          (λ there. (taken.touched terminal box).1 (⊎_elim
              (λ t. inl ((is.touched terminal box).1 (inl t)))
              (λ b. ⊎_elim
              (λ earlier. inl ((is.touched terminal box).1 (inr (b.0, earlier, b.2, b.3))))
              (λ (same : class ≡ b.0).
              let enters : Enters net hops class.«from» class.rules stride box = subst (λ (c : Class). Enters net hops c.«from» c.rules stride box) (sym same) b.3 in
              inr (b.2 ∙ ap (λ (c : Class). c.«from») (sym same), (own.touched.exact box).1 enters))
              (Contains-push_cases done class b.0 b.1))
              there)),
        );
        next = subst (λ cs. AreNext net hops stride more cs) (sym taken.wave) (next_more old.wave.items grown.rest.items is.next own.rest);
      }

  -- the class comes to more entries than are left
  pub between_full : (limit : ℕ) (found : Found) (next : List Class) → All (λ (c : Class). Contains terminals c.«from») done → Contains terminals class.«from»
      → IsBetween net hops twins terminals depth stride done found next → HasMore net hops (GoesOnFrom class stride) (limit - length found.entries.items) → HasMore net hops (StartsAmong terminals) limit
  between_full limit found next among own is has =
      more_joined net hops (Partly terminals depth stride done) (GoesOnFrom class stride) (StartsAmong terminals) (map entry_of found.entries.items) limit (limit - length found.entries.items) excluded
      (λ start rules there. ⊎_elim (λ w. w.0) (λ b. subst (λ s. Contains terminals s) (sym b.2.0) (All-contains (λ (c : Class). Contains terminals c.«from») done b.0 among b.1)) there)
      (λ start rules far. subst (λ s. Contains terminals s) (sym far.0) own)
      (omega (arith, length-map found.entries.items entry_of)) is.entries has
