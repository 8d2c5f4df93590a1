-- One more list of rules is taken into a state that grows.
use Rattle.std.proofs.Common.{◌≡◌, ◌≢◌, ℕ, ◌+◌, ◌-◌, ◌^◌, ◌<◌, ◌≤◌, Bool, true, false, cond, List, [], ◌∷◌, ◌++◌, length, map, min, get_or, refl, sym, ap, ◌∙◌, subst, ⊎_elim, arith, nat_lt}
use Rattle.std.specs.List.{All, Contains}
use Rattle.std.specs.declared.cmp.Ordering.TheVariants.{Equal}
use Rattle.std.proofs.lemmas.Bool.Decides.{nat_tests}
use Rattle.std.proofs.lemmas.List.{append-nil, map-append, length-append, length-map}
use Rattle.std.proofs.lemmas.List.Elements.{All-push, All-contains, Contains-push, Contains-push_cases, Contains-append_left, Contains-get_or}
use Rattle.std.proofs.lemmas.List.Quantifiers.{all_pairs_push}
use Rattle.path_table.proofs.JoinedEntries.{tied_rules}
use Rattle.network_model.specs.Bits.{Header}
use Rattle.network_model.specs.Network.{Network}
use Rattle.network_model.specs.Classes.{Member}
use Rattle.network_model.specs.Prefixes.{IsPrefix, Extends, IsFurther, Stands, extended}
use Rattle.network_model.specs.Table as model
use Rattle.path_table.specs.declared.entry.Entry.{Entry}
use Rattle.path_table.specs.Entries.{entry_of, AreEntries}
use Rattle.class_tree.specs.declared.class.Class.{Class}
use Rattle.class_tree.specs.declared.expansion.Behind.{Behind}
use Rattle.class_tree.specs.declared.expansion.Behind.TheVariants.{Arrival, Onward, Nothing}
use Rattle.class_tree.specs.declared.expansion.Step.{Step}
use Rattle.class_tree.specs.declared.growth.Grown.{Grown}
use Rattle.class_tree.specs.Belonging.{Belongs}
use Rattle.network_model.specs.Table.{HasMore, AreApart}
use Rattle.class_tree.specs.Growth.{GoesOnFrom}
use Rattle.class_tree.proofs.BranchSteps.{IsBehind, Leads}
use Rattle.class_tree.specs.Among.{arrivals, onwards, IsListed, RestAmong, IsCount, IsAmong}

-- what lies behind a list of rules with which walks begin
pub record IsNew (net : Network) (hops start : ℕ) (met : List ℕ) (behind : Behind) : Type 0 where
  pub prefix : IsPrefix net hops start met
  pub arrival : (e : Entry) → behind ≡ Arrival e → (e.«from» ≡ start) × (e.rules ≡ met) × model.IsClass net hops (entry_of e)
  pub onward : (next : Class) → behind ≡ Onward next → (next.«from» ≡ start) × (next.rules ≡ met) × Belongs net next × ((h : Header) × Stands net start met h)
  pub delivered : (to : ℕ) (header arrives : Header) → Member net hops start met to header arrives → (e : Entry) × (behind ≡ Arrival e) × (e.to ≡ to)
  pub goes_on : (header : Header) → Stands net start met header → (next : Class) × (behind ≡ Onward next)

-- what a step leads to is new where its list of rules is
pub leads_new : (net : Network) (hops start : ℕ) (class : Class) (step : Step) → class.«from» ≡ start → Leads net hops class step
    → IsNew net hops start (extended class.rules step.rule) step.behind
leads_new net hops start class step from leads = subst (λ s. IsNew net hops s (extended class.rules step.rule) step.behind) from (record {
  prefix = leads.prefix;
  arrival = λ e is.
      let sound : IsBehind net hops class step.rule (Arrival e) = subst (λ b. IsBehind net hops class step.rule b) is leads.sound in
      (sound.starts, sound.rules, sound.entry);
  onward = λ next is.
      let sound : IsBehind net hops class step.rule (Onward next) = subst (λ b. IsBehind net hops class step.rule b) is leads.sound in
      let some : (h : Header) × Stands net class.«from» next.rules h = sound.inhabited in
      (sound.starts, sound.rules, sound.belongs, (some.0, subst (λ l. Stands net class.«from» l some.0) sound.rules some.1));
  delivered = leads.delivered;
  goes_on = leads.onward;
})

-- no entry so far ties with one of a new list
pub apart_push : (lists : List (List ℕ)) (entries : List model.Entry) (e : model.Entry) → All (λ (x : model.Entry). Contains lists x.rules) entries → AreApart entries
    → (Contains lists e.rules → ⊥) → AreApart (entries ++ e ∷ [])
apart_push lists entries e listed apart fresh =
    all_pairs_push (λ (a b : model.Entry). model.entry_cmp a b ≢ Equal) entries e apart
    (λ k d inside tied. fresh (subst (λ l. Contains lists l) (tied_rules (get_or entries k d) e tied) (listed k d inside)))

-- what was among the lists is among them and one more
listed_more : (start : ℕ) (lists : List (List ℕ)) (met : List ℕ) (e : model.Entry) → IsListed start lists e.«from» e.rules
    → IsListed start (lists ++ met ∷ []) e.«from» e.rules
listed_more start lists met e listed = (listed.0, Contains-append_left lists (met ∷ []) e.rules listed.1)

-- a list is taken that is delivered
found_push : (net : Network) (hops start : ℕ) (lists : List (List ℕ)) (entries : List model.Entry) (met : List ℕ) (e : model.Entry)
    → AreEntries net hops (IsListed start lists) entries
    → (Contains lists met → ⊥) → e.«from» ≡ start → e.rules ≡ met → model.IsClass net hops e
    → ((to : ℕ) (header arrives : Header) → Member net hops start met to header arrives → e.to ≡ to)
    → AreEntries net hops (IsListed start (lists ++ met ∷ [])) (entries ++ e ∷ [])
found_push net hops start lists entries met e found fresh from rules class only = record {
  each = All-push (λ (x : model.Entry). IsListed start (lists ++ met ∷ []) x.«from» x.rules) entries e
      (λ k d inside. listed_more start lists met (get_or entries k d) (found.each k d inside))
      (from, subst (λ l. Contains (lists ++ met ∷ []) l) (sym rules) (Contains-push lists met));
  apart = apart_push lists entries e (λ k d inside. (found.each k d inside).1) found.apart (λ there. fresh (subst (λ l. Contains lists l) rules there));
  classes = All-push (model.IsClass net hops) entries e found.classes class;
  complete = λ f to other header arrives there m. ⊎_elim
      (λ here. let x = found.complete f to other header arrives (there.0, here) m in (x.0, Contains-append_left entries (e ∷ []) x.0 x.1, x.2, x.3, x.4))
      (λ (same : met ≡ other).
      let own : Member net hops start met to header arrives =
      subst (λ l. Member net hops start l to header arrives) (sym same) (subst (λ s. Member net hops s other to header arrives) there.0 m) in
      (e, Contains-push entries e, from ∙ sym there.0, only to header arrives own, rules ∙ same))
      (Contains-push_cases lists met other there.1);
}

-- a list is taken that isn't delivered
found_skip : (net : Network) (hops start : ℕ) (lists : List (List ℕ)) (entries : List model.Entry) (met : List ℕ) → AreEntries net hops (IsListed start lists) entries
    → ((to : ℕ) (header arrives : Header) → Member net hops start met to header arrives → ⊥) → AreEntries net hops (IsListed start (lists ++ met ∷ [])) entries
found_skip net hops start lists entries met found none = record {
  each = λ k d inside. listed_more start lists met (get_or entries k d) (found.each k d inside);
  apart = found.apart;
  classes = found.classes;
  complete = λ f to other header arrives there m. ⊎_elim
      (λ here. found.complete f to other header arrives (there.0, here) m)
      (λ (same : met ≡ other).
      let own : Member net hops start met to header arrives =
      subst (λ l. Member net hops start l to header arrives) (sym same) (subst (λ s. Member net hops s other to header arrives) there.0 m) in
      absurd (none to header arrives own))
      (Contains-push_cases lists met other there.1);
}

-- a list is taken whose headers go on
rest_push : (net : Network) (hops start : ℕ) (rules : List ℕ) (depth : ℕ) (lists : List (List ℕ)) (classes : List Class) (met : List ℕ) (next : Class)
    → RestAmong net hops start rules depth lists classes → (Contains lists met → ⊥) → next.«from» ≡ start → next.rules ≡ met → Extends rules depth met → length met < hops
    → Belongs net next → ((h : Header) × Stands net start met h) → RestAmong net hops start rules depth (lists ++ met ∷ []) (classes ++ next ∷ [])
rest_push net hops start rules depth lists classes met next rest fresh from same extends short belongs some = record {
  starts = All-push (λ (class : Class). class.«from» ≡ start) classes next rest.starts from;
  further = All-push (λ (class : Class). Extends rules depth class.rules) classes next rest.further (subst (λ l. Extends rules depth l) (sym same) extends);
  short = All-push (λ (class : Class). length class.rules < hops) classes next rest.short (subst (λ l. length l < hops) (sym same) short);
  belong = All-push (Belongs net) classes next rest.belong belongs;
  inhabited = All-push (λ (class : Class). (h : Header) × Stands net start class.rules h) classes next rest.inhabited
      (some.0, subst (λ l. Stands net start l some.0) (sym same) some.1);
  listed = All-push (λ (class : Class). Contains (lists ++ met ∷ []) class.rules) classes next
      (λ k d inside. Contains-append_left lists (met ∷ []) (get_or classes k d).rules (rest.listed k d inside))
      (subst (λ l. Contains (lists ++ met ∷ []) l) (sym same) (Contains-push lists met));
  apart = all_pairs_push (λ (a b : Class). a.rules ≢ b.rules) classes next rest.apart
      (λ k d inside tied. fresh (subst (λ l. Contains lists l) (tied ∙ same) (rest.listed k d inside)));
  complete = λ other header there stands further few. ⊎_elim
      (λ here. let x = rest.complete other header here stands further few in (x.0, Contains-append_left classes (next ∷ []) x.0 x.1, x.2))
      (λ (e : met ≡ other). (next, Contains-push classes next, same ∙ e))
      (Contains-push_cases lists met other there);
}

-- a list is taken whose headers don't go on before the hop limit
rest_skip : (net : Network) (hops start : ℕ) (rules : List ℕ) (depth : ℕ) (lists : List (List ℕ)) (classes : List Class) (met : List ℕ)
    → RestAmong net hops start rules depth lists classes → ((header : Header) → Stands net start met header → length met < hops → ⊥)
    → RestAmong net hops start rules depth (lists ++ met ∷ []) classes
rest_skip net hops start rules depth lists classes met rest none = record {
  starts = rest.starts;
  further = rest.further;
  short = rest.short;
  belong = rest.belong;
  inhabited = rest.inhabited;
  listed = λ k d inside. Contains-append_left lists (met ∷ []) (get_or classes k d).rules (rest.listed k d inside);
  apart = rest.apart;
  complete = λ other header there stands further few. ⊎_elim
      (λ here. rest.complete other header here stands further few)
      (λ (e : met ≡ other). absurd (none header (subst (λ l. Stands net start l header) (sym e) stands) (subst (λ l. length l < hops) (sym e) few)))
      (Contains-push_cases lists met other there);
}

count_push : (net : Network) (hops start : ℕ) (rules : List ℕ) (depth : ℕ) (lists : List (List ℕ)) (old new : ℕ) (met : List ℕ)
    → IsCount net hops start rules depth lists old → (Contains lists met → ⊥) → IsPrefix net hops start met → IsFurther rules depth met → new ≡ min (old + 1) (2 ^ 64 - 1)
    → IsCount net hops start rules depth (lists ++ met ∷ []) new
count_push net hops start rules depth lists old new met count fresh prefix further one_more = record {
  different = all_pairs_push (λ (a b : List ℕ). a ≢ b) lists met count.different
      (λ k d inside same. fresh (subst (λ l. Contains lists l) same (Contains-get_or lists k d inside)));
  prefix = All-push (IsPrefix net hops start) lists met count.prefix prefix;
  further = All-push (IsFurther rules depth) lists met count.further further;
  counted = one_more ∙ (ap (λ n. min (n + 1) (2 ^ 64 - 1)) count.counted ∙ (capped (length lists) (2 ^ 64 - 1) ∙ ap (λ n. min n (2 ^ 64 - 1)) (sym (length-append lists (met ∷ [])))));
}
  where
    capped : (n top : ℕ) → min (min n top + 1) top ≡ min (n + 1) top
    capped n top = omega arith

-- the last list of rules is taken that a step adds
pub step_taken : (net : Network) (hops : ℕ) (base : Class) (depth : ℕ) (lists : List (List ℕ)) (met : List ℕ) (behind : Behind) (old new : Grown)
    → IsAmong net hops base depth lists old → (Contains lists met → ⊥) → IsNew net hops base.«from» met behind → Extends base.rules depth met → 1 ≤ depth
    → new.made ≡ min (old.made + 1) (2 ^ 64 - 1) → new.found.items ≡ old.found.items ++ arrivals behind → new.rest.items ≡ old.rest.items ++ onwards hops behind
    → IsAmong net hops base depth (lists ++ met ∷ []) new
step_taken net hops base depth lists met behind old new among fresh is extends some made found_items rest_items = record {
  found = subst (λ es. AreEntries net hops (IsListed base.«from» (lists ++ met ∷ [])) es) (sym (ap (map entry_of) found_items)) (found behind refl);
  rest = subst (λ cs. RestAmong net hops base.«from» base.rules depth (lists ++ met ∷ []) cs) (sym rest_items) (rest behind refl);
  count = count_push net hops base.«from» base.rules depth lists old.made new.made met among.count fresh is.prefix
      (record { count = depth; some = some; most = omega arith; extends = extends }) made;
}
  where
    found : (b : Behind) → behind ≡ b → AreEntries net hops (IsListed base.«from» (lists ++ met ∷ [])) (map entry_of (old.found.items ++ arrivals b))
    found (Arrival e) same =
        let sound = is.arrival e same in
        subst (λ es. AreEntries net hops (IsListed base.«from» (lists ++ met ∷ [])) es) (sym (map-append entry_of old.found.items (e ∷ [])))
        (found_push net hops base.«from» lists (map entry_of old.found.items) met (entry_of e) among.found fresh sound.0 sound.1 sound.2
        (λ to header arrives m.
        let there = is.delivered to header arrives m in
        let twice : Arrival e ≡ Arrival there.0 = sym same ∙ there.1 in
        let one : e ≡ there.0 = cc in
        ap (λ (x : Entry). x.to) one ∙ there.2))
    found (Onward next) same =
        subst (λ es. AreEntries net hops (IsListed base.«from» (lists ++ met ∷ [])) (map entry_of es)) (sym (append-nil old.found.items))
        (found_skip net hops base.«from» lists (map entry_of old.found.items) met among.found
        (λ to header arrives m.
        let there = is.delivered to header arrives m in
        let twice : Onward next ≡ Arrival there.0 = sym same ∙ there.1 in
        cc))
    found Nothing same =
        subst (λ es. AreEntries net hops (IsListed base.«from» (lists ++ met ∷ [])) (map entry_of es)) (sym (append-nil old.found.items))
        (found_skip net hops base.«from» lists (map entry_of old.found.items) met among.found
        (λ to header arrives m.
        let there = is.delivered to header arrives m in
        let twice : Nothing ≡ Arrival there.0 = sym same ∙ there.1 in
        cc))

    skip : ((header : Header) → Stands net base.«from» met header → length met < hops → ⊥) → RestAmong net hops base.«from» base.rules depth (lists ++ met ∷ []) (old.rest.items ++ [])
    skip none =
        subst (λ cs. RestAmong net hops base.«from» base.rules depth (lists ++ met ∷ []) cs) (sym (append-nil old.rest.items))
        (rest_skip net hops base.«from» base.rules depth lists old.rest.items met among.rest none)

    onward : (next : Class) → behind ≡ Onward next → (b : Bool) → nat_lt (length next.rules) hops ≡ b
        → RestAmong net hops base.«from» base.rules depth (lists ++ met ∷ []) (old.rest.items ++ cond b (next ∷ []) [])
    onward next same true short =
        let sound = is.onward next same in
        let few : length next.rules < hops = grind (arith, nat_tests) in
        rest_push net hops base.«from» base.rules depth lists old.rest.items met next among.rest fresh sound.0 sound.1 extends (subst (λ l. length l < hops) sound.1 few) sound.2 sound.3
    onward next same false long =
        let sound = is.onward next same in
        let many : hops ≤ length next.rules = grind (arith, nat_tests) in
        let too_many : hops ≤ length met = subst (λ l. hops ≤ length l) sound.1 many in
        skip (λ header s few. omega arith)

    rest : (b : Behind) → behind ≡ b → RestAmong net hops base.«from» base.rules depth (lists ++ met ∷ []) (old.rest.items ++ onwards hops b)
    rest (Arrival e) same =
        skip (λ header s few.
        let there = is.goes_on header s in
        let twice : Arrival e ≡ Onward there.0 = sym same ∙ there.1 in
        cc)
    rest (Onward next) same = onward next same (nat_lt (length next.rules) hops) refl
    rest Nothing same =
        skip (λ header s few.
        let there = is.goes_on header s in
        let twice : Nothing ≡ Onward there.0 = sym same ∙ there.1 in
        cc)

-- an entry past the limit
pub more_there : (net : Network) (hops : ℕ) (base : Class) (depth limit : ℕ) (lists : List (List ℕ)) (met : List ℕ) (e : Entry) (old : Grown)
    → IsAmong net hops base depth lists old → (Contains lists met → ⊥) → IsNew net hops base.«from» met (Arrival e) → Extends base.rules depth met → 1 ≤ depth
    → limit ≤ length old.found.items → HasMore net hops (GoesOnFrom base depth) limit
more_there net hops base depth limit lists met e old among fresh is extends some full =
    let sound = is.arrival e refl in
    let found = among.found in
    let entries : List model.Entry = map entry_of old.found.items in
    let own : model.Entry = entry_of e in record {
      entries = entries ++ own ∷ [];
      each = All-push (λ (x : model.Entry). GoesOnFrom base depth x.«from» x.rules) entries own
          (λ k d inside.
          let listed = found.each k d inside in
          (listed.0, All-contains (IsFurther base.rules depth) lists (get_or entries k d).rules among.count.further listed.1))
          (sound.0, subst (λ l. IsFurther base.rules depth l) (sym sound.1) (record { count = depth; some = some; most = omega arith; extends = extends }));
      apart = apart_push lists entries own (λ k d inside. (found.each k d inside).1) found.apart (λ there. fresh (subst (λ l. Contains lists l) sound.1 there));
      classes = All-push (model.IsClass net hops) entries own found.classes sound.2;
      more = omega (arith, length-append entries (own ∷ []), length-map old.found.items entry_of);
    }
