-- A search before the first wave, after a wave, and after the last one.
use Rattle.std.specs.Prelude.{IsTrue}
use Rattle.std.proofs.Common.{◌≡◌, ◌≢◌, ℕ, zero, suc, ◌+◌, ◌-◌, ◌^◌, ◌<◌, ◌≤◌, true, List, [], ◌∷◌, ◌++◌, length, map, min, get_or, Option, Some, None, refl, sym, ap, ◌∙◌, inl, inr, subst, ⊎_elim, arith}
use Rattle.std.specs.List.{Contains}
use Rattle.std.proofs.lemmas.Bool.{cases_lt}
use Rattle.std.proofs.lemmas.List.{get_or_default, length-append}
use Rattle.std.proofs.lemmas.List.Elements.{All-map, All-contains}
use Rattle.list_laws.proofs.Members.{Contains-nil, Contains-map, Contains-from_map}
use Rattle.list_laws.proofs.Pairs.{AllPairs-map}
use Rattle.list_laws.proofs.Places.{empty}
use Rattle.network_model.specs.Bits.{Header}
use Rattle.network_model.specs.Network.{Network, Terminal, value_at}
use Rattle.network_model.specs.Walk.{Stand, stand}
use Rattle.network_model.specs.Classes.{permits, terminal_permits}
use Rattle.network_model.specs.Prefixes.{Extends, IsPrefix, stand_at, stand_from, Stands, Touches}
use Rattle.model_laws.proofs.RuleLists.{extends_length, extends_part}
use Rattle.model_laws.proofs.RootLists.{member_further, root_prefix}
use Rattle.model_laws.proofs.WalkStands.{stands_on, stands_before, prefix_stands, stands_prefix}
use Rattle.twin_laws.specs.Shared.{weight_of, total}
use Rattle.twin_laws.proofs.Weighed.{weighed_same}
use Rattle.path_table.specs.Entries.{entry_of, AreEntries}
use Rattle.path_table.proofs.JoinedEntries.{entries_same}
use Rattle.class_tree.specs.declared.class.Class.{Class}
use Rattle.class_tree.specs.Growth.{Enters}
use Rattle.class_tree.specs.Searched.{StartsAmong}
use Rattle.class_tree.proofs.GrownOut.{member_prefix}
use Rattle.frontier_waves.specs.declared.frontier.Found.{Found}
use Rattle.frontier_waves.specs.Starts.{starts_of, AreStarts}
use Rattle.frontier_waves.specs.Waves.{Within, TouchedBy, bare_path, AreWave, HasSearched, IsSearchedFor}
use Rattle.frontier_waves.proofs.WaveSteps.{Behind, Ends, Partly, IsBoxOf, IsBetween, further_long, ends_behind}

-- ---- where walks stand

one_stand : (a b : Stand) → Some a ≡ Some b → a ≡ b
one_stand a b e = cc

-- a walk stands after as many rules as it met
stand_long : (net : Network) (count port : ℕ) (header : Header) (place : Stand) → stand net count port header ≡ Some place → length place.rules ≡ count
stand_long net zero port header place e = sym (ap (λ (s : Stand). length s.rules) (one_stand (record { rules = []; port = port; header = header }) place e))
stand_long net (suc count) port header place e =
    let s = stands_on net count port header place e in
    let rest : length s.later.rules ≡ count = stand_long net count s.far s.after s.later s.there in
    let all : length (s.one.0 ∷ s.later.rules) ≡ length place.rules = ap length s.rules in
    omega arith

place_long : (net : Network) (count terminal : ℕ) (header : Header) (place : Stand) → stand_from net count terminal header ≡ Some place → length place.rules ≡ count
place_long net count terminal header place e = at (value_at net.terminals terminal) e
  where
    at : (o : Option Terminal) → stand_at net count o header ≡ Some place → length place.rules ≡ count
    at None e = cc
    at (Some t) e = stand_long net count t.port header place e

-- a header stands somewhere after its rules
placed_stands : (net : Network) (count terminal : ℕ) (header : Header) (place : Stand) → IsTrue (permits net terminal header)
    → stand_from net count terminal header ≡ Some place → Stands net terminal place.rules header
placed_stands net count terminal header place permitted e = record {
  permitted = permitted;
  place = place;
  stands = subst (λ n. stand_from net n terminal header ≡ Some place) (sym (place_long net count terminal header place e)) e;
  met = refl;
}

-- a header stands at its terminal's port
stands_first : (net : Network) (terminal : ℕ) (header : Header) → IsTrue (permits net terminal header) → Stands net terminal [] header
stands_first net terminal header permitted =
    let found = at (value_at net.terminals terminal) refl permitted in
    record { permitted = permitted; place = found.0; stands = found.1; met = found.2 }
  where
    at : (o : Option Terminal) → value_at net.terminals terminal ≡ o → terminal_permits o header ≡ true
        → (place : Stand) × (stand_from net 0 terminal header ≡ Some place) × (place.rules ≡ [])
    at None is allowed = let no : ⊥ = cc in absurd no
    at (Some t) is allowed = (record { rules = []; port = t.port; header = header }, ap (λ o. stand_at net 0 o header) is, refl)

-- ---- before the first wave

nothing_within : (rules : List ℕ) → length rules ≤ 0 → rules ≡ []
nothing_within rules short = empty rules (omega arith)

root_of : (net : Network) (classes : List Class) → AreStarts net classes → (start : ℕ) → Contains (starts_of classes) start
    → (class : Class) × Contains classes class × (class.«from» ≡ start)
root_of net classes starts start there =
    let source = Contains-from_map (λ (c : Class). c.«from») classes start there in (source.0, source.1.0, source.1.1)

pub begun : (net : Network) (hops : ℕ) (twins : List (ℕ × ℕ)) (classes : List Class) (found : Found) → AreStarts net classes → found.entries.items ≡ [] → found.classes ≡ min (total (weight_of twins) (map bare_path classes)) (2 ^ 64 - 1)
    → found.touched ≡ [] → HasSearched net hops twins (starts_of classes) 0 found classes
begun net hops twins classes found starts no_entries count no_pairs = record {
  entries = subst (λ es. AreEntries net hops (Within (starts_of classes) 0) (map entry_of es)) (sym no_entries) (record {
    each = λ k d inside. absurd (omega arith);
    apart = λ i j d less inside. absurd (omega arith);
    classes = λ k d inside. absurd (omega arith);
    complete = λ start to rules header arrives there m.
        let far = member_further net hops start to rules header arrives m in
        let n = extends_length [] far.count rules far.extends in
        absurd (omega (arith, there.1, far.some));
  });
  prefixes = record {
    pairs = map pair classes;
    are = record {
      different = AllPairs-map pair (λ (a b : ℕ × List ℕ). a ≢ b) classes (λ i j d less inside same. starts.apart i j d less inside (ap (λ (p : ℕ × List ℕ). p.0) same));
      sound = All-map (λ (p : ℕ × List ℕ). Within (starts_of classes) 0 p.0 p.1 × IsPrefix net hops p.0 p.1) pair classes
          (λ k d inside.
          let class = get_or classes k d in
          let some = (starts.each k d inside).some in
          ((Contains-map (λ (c : Class). c.«from») classes class (k, inside, at_place k d class inside), omega arith), root_prefix net hops class.«from» some.0 some.1));
      complete = λ start rules there begins.
          let none : rules ≡ [] = nothing_within rules there.1 in
          let root = root_of net classes starts start there.0 in
          let here : Contains (map pair classes) (pair root.0) = Contains-map pair classes root.0 root.1 in
          let same : pair root.0 ≡ (start, rules) = λ i. (root.2 i, sym none i) in
          subst (λ p. Contains (map pair classes) p) same here;
    };
    weighed = count;
  };
  touched = λ terminal box. (
    (λ there. absurd (Contains-nil (terminal, box) (subst (λ ps. Contains ps (terminal, box)) no_pairs there))),
    (λ there. absurd (let none = there.1.within in omega arith)),
  );
  wave = record {
    among = λ k d inside. let class = get_or classes k d in Contains-map (λ (c : Class). c.«from») classes class (k, inside, at_place k d class inside);
    long = λ k d inside. ap length (starts.each k d inside).empty;
    belong = λ k d inside. (starts.each k d inside).belongs;
    inhabited = λ k d inside.
        let class = get_or classes k d in
        let root = starts.each k d inside in
        (root.some.0, subst (λ l. Stands net class.«from» l root.some.0) (sym root.empty) (stands_first net class.«from» root.some.0 root.some.1));
    apart = λ i j d less inside same. starts.apart i j d less inside (ap (λ (p : ℕ × List ℕ). p.0) same);
    complete = λ start met header there stands long few.
        let none : met ≡ [] = nothing_within met (omega arith) in
        let root = root_of net classes starts start there in
        let is = All-contains (λ (c : Class). c.rules ≡ []) classes root.0 (λ k d inside. (starts.each k d inside).empty) root.1 in
        (root.0, root.1, root.2, is ∙ sym none);
  };
}
  where
    pair : Class → ℕ × List ℕ
    pair class = (class.«from», [])

    at_place : (k : ℕ) (d other : Class) → k < length classes → get_or classes k other ≡ get_or classes k d
    at_place k d other inside = get_or_default classes k other d inside

-- ---- after a wave

module _ (net : Network) (hops : ℕ) (twins : List (ℕ × ℕ)) (terminals : List ℕ) (depth stride : ℕ) (wave : List Class) (is : AreWave net hops terminals depth wave) (few : depth + stride ≤ hops) (some : 1 ≤ stride) where
  -- a list with which walks begin is behind the wave if it is longer, by at most so many rules
  reaches : (start : ℕ) (rules : List ℕ) → Contains terminals start → IsPrefix net hops start rules → depth < length rules → length rules ≤ depth + stride → Behind stride wave start rules
  reaches start rules there begins more most =
      let part = extends_part [] depth (length rules) rules (omega arith) (record { more = rules; begins = refl; long = refl }) in
      let long = extends_length [] depth part.0 part.3 in
      by_rest part.0 part.1 part.2 (omega arith) (omega (arith, part.4))
    where
      by_rest : (front rest : List ℕ) → rules ≡ front ++ rest → length front ≡ depth → 1 ≤ length rest → Behind stride wave start rules
      by_rest front [] e long any = absurd (omega arith)
      by_rest front (rule ∷ rest) e long any =
          let prefix' : IsPrefix net hops start (front ++ rule ∷ rest) = subst (λ l. IsPrefix net hops start l) e begins in
          let c = is.complete start front prefix'.header there (prefix_stands net hops start front rest rule prefix') long (omega arith) in
          let same : rules ≡ c.0.rules ++ rule ∷ rest = e ∙ ap (λ l. l ++ rule ∷ rest) (sym c.3) in
          let n : length rules ≡ length front + length (rule ∷ rest) = ap length e ∙ length-append front (rule ∷ rest) in
          (c.0, c.1, (sym c.2, record { count = length (rule ∷ rest); some = omega arith; most = omega arith; extends = record { more = rule ∷ rest; begins = same; long = refl } }))

  class_long : (class : Class) → Contains wave class → length class.rules ≡ depth
  class_long class there = All-contains (λ (c : Class). length c.rules ≡ depth) wave class is.long there

  -- where it is longer by just so many, it is at the end of a class's lists
  ends_there : (start : ℕ) (rules : List ℕ) → Contains terminals start → IsPrefix net hops start rules → length rules ≡ depth + stride → Ends stride wave start rules
  ends_there start rules there begins long =
      let b = reaches start rules there begins (omega arith) (omega arith) in
      let own = class_long b.0 b.1 in
      let n = extends_length b.0.rules b.2.1.count rules b.2.1.extends in
      let all : b.2.1.count ≡ stride = omega arith in
      (b.0, b.1, b.2.0, subst (λ k. Extends b.0.rules k rules) all b.2.1.extends)

  start_of : (start : ℕ) (rules : List ℕ) → Behind stride wave start rules → Contains terminals start
  start_of start rules b = subst (λ s. Contains terminals s) (sym b.2.0) (All-contains (λ (c : Class). Contains terminals c.«from») wave b.0 is.among b.1)

  ends_long : (start : ℕ) (rules : List ℕ) → Ends stride wave start rules → length rules ≡ depth + stride
  ends_long start rules e =
      let own = class_long e.0 e.1 in
      let n = extends_length e.0.rules stride rules e.3 in
      omega arith

  onward : (start : ℕ) (rules : List ℕ) → Partly terminals depth stride wave start rules → Within terminals (depth + stride) start rules
  onward start rules there = ⊎_elim
      (λ w. (w.0, let n = w.1 in omega arith))
      (λ b. (
        start_of start rules b,
        let own = class_long b.0 b.1 in
            let n = further_long b.0.rules rules stride b.2.1 in
            omega (arith, n.1),
      ))
      there

  back : (start : ℕ) (rules : List ℕ) → Within terminals (depth + stride) start rules → IsPrefix net hops start rules → Partly terminals depth stride wave start rules
  back start rules there begins = ⊎_elim
      (λ (more : depth < length rules). inr (reaches start rules there.0 begins more there.1))
      (λ (less : length rules ≤ depth). inl (there.0, less))
      (cases_lt depth (length rules))

  enters_touch : (terminal box : ℕ) → IsBoxOf net hops stride wave terminal box → Contains terminals terminal × Touches net (depth + stride) terminal box
  enters_touch terminal box b =
      let class : Class = b.0 in
      let e = b.3 in
      let own : length class.rules ≡ depth = class_long class b.1 in
      let n = extends_length class.rules e.count e.met e.extends in
      let touch : Touches net (depth + stride) class.«from» box = record {
        header = e.header;
        permitted = e.stands.permitted;
        count = length e.met;
        within = omega (arith, e.before);
        place = e.stands.place;
        stands = e.stands.stands;
        inside = e.inside;
      } in
      let there : Contains terminals class.«from» = All-contains (λ (c : Class). Contains terminals c.«from») wave class is.among b.1 in
      (subst (λ s. Contains terminals s) (sym b.2) there, subst (λ s. Touches net (depth + stride) s box) (sym b.2) touch)

  touch_enters : (terminal box : ℕ) → Contains terminals terminal → (t : Touches net (depth + stride) terminal box) → depth ≤ t.count → IsBoxOf net hops stride wave terminal box
  unfolding placed_stands
  touch_enters terminal box there t last =
      let met = t.place.rules in
      let n : length met ≡ t.count = place_long net t.count terminal t.header t.place t.stands in
      let stands : Stands net terminal met t.header = placed_stands net t.count terminal t.header t.place t.permitted t.stands in
      let part = extends_part [] depth (length met) met (omega arith) (record { more = met; begins = refl; long = refl }) in
      let long = extends_length [] depth part.0 part.3 in
      let before : Stands net terminal part.0 t.header = stands_before net terminal part.0 part.1 t.header (subst (λ l. Stands net terminal l t.header) part.2 stands) in
      let c = is.complete terminal part.0 t.header there before (omega arith) (omega arith) in
      let P : ℕ → Type 0 = λ s. Enters net hops s c.0.rules stride box in
      let enters : P terminal = record {
        header = t.header;
        met = met;
        stands = stands;
        count = length part.1;
        extends = record { more = part.1; begins = part.2 ∙ ap (λ l. l ++ part.1) (sym c.3); long = refl };
        before = omega (arith, part.4, t.within);
        within = omega (arith, t.within);
        inside = t.inside;
      } in
      (c.0, c.1, sym c.2, subst P (sym c.2) enters)

  pub between_end : (found : Found) (next : List Class) → IsBetween net hops twins terminals depth stride wave found next → HasSearched net hops twins terminals (depth + stride) found next
  between_end found next between = record {
    entries = entries_same net hops (Partly terminals depth stride wave) (Within terminals (depth + stride)) (map entry_of found.entries.items) onward
        (λ start to rules header arrives there m. back start rules there (member_prefix net hops start to rules header arrives m)) between.entries;
    prefixes = weighed_same net hops (Partly terminals depth stride wave) (Within terminals (depth + stride)) twins found.classes onward back between.prefixes;
    touched = λ terminal box. (
      (λ there. ⊎_elim
          (λ before. (
            before.0,
            record {
              header = before.1.header;
              permitted = before.1.permitted;
              count = before.1.count;
              within = omega (arith, before.1.within);
              place = before.1.place;
              stands = before.1.stands;
              inside = before.1.inside;
            },
          ))
          (λ b. enters_touch terminal box b)
          ((between.touched terminal box).0 there)),
      (λ there. (between.touched terminal box).1 (
          let t = there.1 in
          ⊎_elim
          (λ (less : t.count < depth).
          inl (there.0, record { header = t.header; permitted = t.permitted; count = t.count; within = less; place = t.place; stands = t.stands; inside = t.inside }))
          (λ (last : depth ≤ t.count). inr (touch_enters terminal box there.0 t last))
          (cases_lt t.count depth))),
    );
    wave = record {
      among = λ k d inside. let c = get_or next k d in start_of c.«from» c.rules (ends_behind stride wave c.«from» c.rules some (between.next.ends k d inside));
      long = λ k d inside. let c = get_or next k d in ends_long c.«from» c.rules (between.next.ends k d inside);
      belong = between.next.belong;
      inhabited = between.next.inhabited;
      apart = between.next.apart;
      complete = λ start met header there stands long short.
          between.next.complete start met header (ends_there start met there (stands_prefix net hops start met header stands (omega arith)) long) stands (omega arith);
    };
  }

-- ---- after the last wave

-- where no class goes on, no list is longer
module _ (net : Network) (hops : ℕ) (terminals : List ℕ) (depth : ℕ) (is : AreWave net hops terminals depth []) where
  none_longer : (start : ℕ) (rules : List ℕ) → Contains terminals start → IsPrefix net hops start rules → depth < length rules → ⊥
  none_longer start rules there begins more =
      let part = extends_part [] depth (length rules) rules (omega arith) (record { more = rules; begins = refl; long = refl }) in
      let long = extends_length [] depth part.0 part.3 in
      by_rest part.0 part.1 part.2 (omega arith) (omega (arith, part.4))
    where
      by_rest : (front rest : List ℕ) → rules ≡ front ++ rest → length front ≡ depth → 1 ≤ length rest → ⊥
      by_rest front [] e long some = omega arith
      by_rest front (rule ∷ rest) e long some =
          let prefix' : IsPrefix net hops start (front ++ rule ∷ rest) = subst (λ l. IsPrefix net hops start l) e begins in
          let few : depth < hops = omega (arith, begins.few) in
          let c = is.complete start front prefix'.header there (prefix_stands net hops start front rest rule prefix') long few in
          Contains-nil c.0 c.1

  none_stands : (start : ℕ) (rules : List ℕ) (header : Header) → Contains terminals start → Stands net start rules header → depth ≤ length rules → length rules < hops → ⊥
  none_stands start rules header there stands more few =
      let part = extends_part [] depth (length rules) rules more (record { more = rules; begins = refl; long = refl }) in
      let long = extends_length [] depth part.0 part.3 in
      let before : Stands net start part.0 header = stands_before net start part.0 part.1 header (subst (λ l. Stands net start l header) part.2 stands) in
      let c = is.complete start part.0 header there before (omega arith) (omega arith) in
      Contains-nil c.0 c.1

-- all lists are within the depth, and all boxes too
record IsWhole (net : Network) (hops : ℕ) (terminals : List ℕ) (depth : ℕ) : Type 0 where
  within : (start : ℕ) (rules : List ℕ) → Contains terminals start → IsPrefix net hops start rules → length rules ≤ depth
  touched : (terminal box : ℕ) → Contains terminals terminal → (t : Touches net hops terminal box) → t.count < depth

whole_search : (net : Network) (hops : ℕ) (twins : List (ℕ × ℕ)) (terminals : List ℕ) (depth : ℕ) (found : Found) (wave : List Class) → depth ≤ hops → IsWhole net hops terminals depth
    → HasSearched net hops twins terminals depth found wave → IsSearchedFor net hops terminals twins (map entry_of found.entries.items) found.classes × TouchedBy net hops terminals found.touched
whole_search net hops twins terminals depth found wave le whole is = (
  record {
    found = entries_same net hops (Within terminals depth) (StartsAmong terminals) (map entry_of found.entries.items) (λ start rules w. w.0)
        (λ start to rules header arrives there m. (there, whole.within start rules there (member_prefix net hops start to rules header arrives m))) is.entries;
    prefixes = weighed_same net hops (Within terminals depth) (StartsAmong terminals) twins found.classes (λ start rules w. w.0)
        (λ start rules there begins. (there, whole.within start rules there begins)) is.prefixes;
  },
  λ terminal box. (
    (λ there.
        let t = (is.touched terminal box).0 there in
        (t.0, record { header = t.1.header; permitted = t.1.permitted; count = t.1.count; within = omega (arith, t.1.within); place = t.1.place; stands = t.1.stands; inside = t.1.inside })),
    (λ there.
        let t = there.1 in
        (is.touched terminal box).1
        (there.0, record { header = t.header; permitted = t.permitted; count = t.count; within = whole.touched terminal box there.0 t; place = t.place; stands = t.stands; inside = t.inside })),
  ),
)

-- at the hop limit
pub ended_at_limit : (net : Network) (hops : ℕ) (twins : List (ℕ × ℕ)) (terminals : List ℕ) (depth : ℕ) (found : Found) (wave : List Class) → depth ≡ hops → HasSearched net hops twins terminals depth found wave
    → IsSearchedFor net hops terminals twins (map entry_of found.entries.items) found.classes × TouchedBy net hops terminals found.touched
ended_at_limit net hops twins terminals depth found wave last is = whole_search net hops twins terminals depth found wave (omega arith) (record {
  within = λ start rules there begins. omega (arith, begins.few);
  touched = λ terminal box there t. omega (arith, t.within);
}) is

-- or earlier, where nothing goes on
pub ended_early : (net : Network) (hops : ℕ) (twins : List (ℕ × ℕ)) (terminals : List ℕ) (depth : ℕ) (found : Found) (wave : List Class) → depth ≤ hops → wave ≡ [] → HasSearched net hops twins terminals depth found wave
    → IsSearchedFor net hops terminals twins (map entry_of found.entries.items) found.classes × TouchedBy net hops terminals found.touched
ended_early net hops twins terminals depth found wave le none is =
    let no_wave : AreWave net hops terminals depth [] = subst (λ cs. AreWave net hops terminals depth cs) none is.wave in
    whole_search net hops twins terminals depth found wave le (record {
      within = λ start rules there begins. ⊎_elim
          (λ (more : depth < length rules). absurd (none_longer net hops terminals depth no_wave start rules there begins more))
          (λ (less : length rules ≤ depth). less)
          (cases_lt depth (length rules));
      touched = λ terminal box there t. ⊎_elim
          (λ (less : t.count < depth). less)
          (λ (more : depth ≤ t.count).
          let n = place_long net t.count terminal t.header t.place t.stands in
          absurd (none_stands net hops terminals depth no_wave terminal t.place.rules t.header there
          (placed_stands net t.count terminal t.header t.place t.permitted t.stands) (omega arith) (omega (arith, t.within))))
          (cases_lt t.count depth);
    }) is
