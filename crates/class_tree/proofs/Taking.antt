-- The branches of a class are taken one by one.
use Rattle.std.proofs.Common.{◌≡◌, ◌≢◌, ℕ, ◌+◌, ◌-◌, ◌^◌, ◌<◌, ◌≤◌, List, [], ◌∷◌, ◌++◌, length, map, filter, min, get_or, Some, None, refl, sym, ap, ◌∙◌, subst, ⊎_elim, arith}
use Rattle.std.specs.List.{AllPairs, AllZip, Contains}
use Rattle.std.proofs.lemmas.List.{append-nil, append_assoc, map-append, length-append, get_or_at, get_or_append_left, get_or_default}
use Rattle.std.proofs.lemmas.List.Elements.{Contains-append_cases, Contains-push}
use Rattle.list_laws.proofs.Places.{same_front}
use Rattle.list_laws.proofs.Members.{Contains-from_map}
use Rattle.network_model.specs.Network.{Network}
use Rattle.network_model.specs.Walk.{next}
use Rattle.network_model.specs.Prefixes.{IsPrefix, extended}
use Rattle.network_model.specs.WellFormed.{IsWellFormed}
use Rattle.box_step.specs.declared.branches.Branch.{Branch}
use Rattle.box_step.specs.Branches.{IsSent}
use Rattle.path_table.specs.declared.entry.Entry.{Entry}
use Rattle.class_tree.specs.declared.class.Class.{Class}
use Rattle.class_tree.specs.declared.expansion.Behind.TheVariants.{Arrival}
use Rattle.class_tree.specs.declared.expansion.Step.{Step}
use Rattle.class_tree.specs.declared.growth.Grown.{Grown}
use Rattle.network_model.specs.Table.{HasMore}
use Rattle.class_tree.specs.Growth.{GoesOnFrom}
use Rattle.class_tree.specs.Belonging.{Belongs}
use Rattle.class_tree.specs.Following.{exit_of, LiesBehind}
use Rattle.class_tree.specs.Among.{arrivals, onwards, IsAmong, IsNext, HasTaken}
use Rattle.model_laws.proofs.RuleLists.{extends_more}
use Rattle.class_tree.proofs.BranchSteps.{Leads}
use Rattle.class_tree.proofs.Growing.{IsNew, leads_new, step_taken, more_there}
use Rattle.class_tree.proofs.Expanding.{IsStepOf, goes_out, step_pushed, step_skipped, step_leads, steps_apart, each_prefix}

abbrev pub rules_of : List Step → List ℕ
rules_of steps = map (λ (step : Step). step.rule) steps

-- the lists of rules of some steps of a class
abbrev pub lists_of : Class → List Step → List (List ℕ)
lists_of class steps = map (extended class.rules) (rules_of steps)

-- some of the branches of a class are taken, and the others are left
pub record IsMidway (net : Network) (hops : ℕ) (class : Class) (limit : ℕ) (branches taken left : List Branch) (old new : Grown) : Type 0 where
  pub parts : taken ++ left ≡ branches
  pub steps : List Step
  pub each : AllZip (IsStepOf net class) (filter (goes_out net) taken) steps
  pub touched : new.touched.items ≡ old.touched.items
  pub within : length old.found.items ≤ limit → length new.found.items ≤ limit
  pub among : (base : Class) (depth : ℕ) (lists : List (List ℕ)) → IsNext base depth lists class → IsAmong net hops base (depth + 1) lists old
      → IsAmong net hops base (depth + 1) (lists ++ lists_of class steps) new

pub midway_start : (net : Network) (hops : ℕ) (class : Class) (limit : ℕ) (branches : List Branch) (old : Grown)
    → IsMidway net hops class limit branches [] branches old old
midway_start net hops class limit branches old = record {
  parts = refl;
  steps = [];
  each = tt;
  touched = refl;
  within = λ h. h;
  among = λ base depth lists next among. subst (λ l. IsAmong net hops base (depth + 1) l old) (sym (append-nil lists)) among;
}

-- one more branch is taken, whose rule drops
pub midway_skip : (net : Network) (hops : ℕ) (class : Class) (limit : ℕ) (branches taken left : List Branch) (branch : Branch) (old new : Grown)
    → IsMidway net hops class limit branches taken (branch ∷ left) old new → exit_of net branch.rule ≡ None
    → IsMidway net hops class limit branches (taken ++ branch ∷ []) left old new
midway_skip net hops class limit branches taken left branch old new midway none = record {
  parts = append_assoc taken (branch ∷ []) left ∙ midway.parts;
  steps = midway.steps;
  each = step_skipped net class taken midway.steps branch midway.each none;
  touched = midway.touched;
  within = midway.within;
  among = midway.among;
}

-- the next branch is one of them
pub midway_there : (net : Network) (hops : ℕ) (class : Class) (limit : ℕ) (branches taken left : List Branch) (branch : Branch) (old new : Grown)
    → IsMidway net hops class limit branches taken (branch ∷ left) old new → Contains branches branch
midway_there net hops class limit branches taken left branch old new midway =
    subst (λ l. Contains l branch) midway.parts
    (length taken, omega (arith, length-append taken (branch ∷ left)), get_or_at taken branch left branch (length taken) refl)

module _ (net : Network) (fits : IsWellFormed net) (class : Class) (belongs : Belongs net class) (branches : List Branch)
    (split : IsSent net class.port class.space class.rewrite branches) (hops : ℕ) (few : length class.rules < hops) (limit : ℕ) where
  module _ (taken left : List Branch) (branch : Branch) (step : Step) (old new : Grown)
      (midway : IsMidway net hops class limit branches taken (branch ∷ left) old new) (port : ℕ) (exits : exit_of net branch.rule ≡ Some port)
      (number : step.rule ≡ branch.rule) (behind : LiesBehind class branch (next net port) step.behind) where
    parts : (taken ++ branch ∷ []) ++ left ≡ branches
    parts = append_assoc taken (branch ∷ []) left ∙ midway.parts

    abbrev steps : List Step
    steps = midway.steps ++ step ∷ []

    each : AllZip (IsStepOf net class) (filter (goes_out net) (taken ++ branch ∷ [])) steps
    each = step_pushed net class taken midway.steps branch step port midway.each exits number behind

    leads : Leads net hops class step
    leads = step_leads net fits class belongs branches split (taken ++ branch ∷ []) left parts steps each hops few step (Contains-push midway.steps step)

    different : AllPairs (λ (a b : Step). a.rule ≢ b.rule) steps
    different = steps_apart net fits class belongs branches split (taken ++ branch ∷ []) left parts steps each hops few

    -- its list of rules is none of those that are taken
    fresh : (base : Class) (depth : ℕ) (lists : List (List ℕ)) → IsNext base depth lists class
        → Contains (lists ++ lists_of class midway.steps) (extended class.rules step.rule) → ⊥
    fresh base depth lists next there = ⊎_elim
        (λ here. next.fresh step.rule here)
        (λ here.
        let list = Contains-from_map (extended class.rules) (rules_of midway.steps) (extended class.rules step.rule) here in
        let same : list.0 ≡ step.rule = (same_front class.rules class.rules list.0 step.rule list.1.1).1 in
        let earlier = Contains-from_map (λ (s : Step). s.rule) midway.steps list.0 list.1.0 in
        let j = earlier.1.0.0 in
        let before : j < length midway.steps = earlier.1.0.1 in
        let own : get_or steps j step ≡ earlier.0 =
        get_or_append_left midway.steps (step ∷ []) step j before ∙ (get_or_default midway.steps j step earlier.0 before ∙ earlier.1.0.2) in
        let at : get_or steps (length midway.steps) step ≡ step = get_or_at midway.steps step [] step (length midway.steps) refl in
        let tied : (get_or steps j step).rule ≡ (get_or steps (length midway.steps) step).rule =
        ap (λ (s : Step). s.rule) own ∙ (earlier.1.1 ∙ (same ∙ sym (ap (λ (s : Step). s.rule) at))) in
        different j (length midway.steps) step before (omega (arith, length-append midway.steps (step ∷ []))) tied)
        (Contains-append_cases lists (lists_of class midway.steps) (extended class.rules step.rule) there)

    is_new : (base : Class) (depth : ℕ) (lists : List (List ℕ)) → IsNext base depth lists class
        → IsNew net hops base.«from» (extended class.rules step.rule) step.behind
    is_new base depth lists next = leads_new net hops base.«from» class step next.starts leads

    longer : (lists : List (List ℕ)) → lists ++ lists_of class steps ≡ (lists ++ lists_of class midway.steps) ++ extended class.rules step.rule ∷ []
    longer lists =
        let rules : rules_of steps ≡ rules_of midway.steps ++ step.rule ∷ [] = map-append (λ (s : Step). s.rule) midway.steps (step ∷ []) in
        let mapped : lists_of class steps ≡ lists_of class midway.steps ++ extended class.rules step.rule ∷ [] =
        ap (map (extended class.rules)) rules ∙ map-append (extended class.rules) (rules_of midway.steps) (step.rule ∷ []) in
        ap (λ l. lists ++ l) mapped ∙ sym (append_assoc lists (lists_of class midway.steps) (extended class.rules step.rule ∷ []))

    -- one more branch is taken, whose rule sends its packets on
    pub midway_more : (newer : Grown) → newer.found.items ≡ new.found.items ++ arrivals step.behind
        → newer.rest.items ≡ new.rest.items ++ onwards hops step.behind → newer.made ≡ min (new.made + 1) (2 ^ 64 - 1) → newer.touched.items ≡ new.touched.items
        → (length new.found.items ≤ limit → length newer.found.items ≤ limit) → IsMidway net hops class limit branches (taken ++ branch ∷ []) left old newer
    midway_more newer found rest made touched within = record {
      parts = parts;
      steps = steps;
      each = each;
      touched = touched ∙ midway.touched;
      within = λ h. within (midway.within h);
      among = λ base depth lists next among.
          subst (λ l. IsAmong net hops base (depth + 1) l newer) (sym (longer lists))
          (step_taken net hops base (depth + 1) (lists ++ lists_of class midway.steps) (extended class.rules step.rule) step.behind new newer
          (midway.among base depth lists next among) (fresh base depth lists next) (is_new base depth lists next)
          (extends_more base.rules depth class.rules step.rule next.extends) (omega arith) made found rest);
    }

    -- its packets are delivered, and there is no more room
    pub midway_full : (e : Entry) → limit ≤ length new.found.items → step.behind ≡ Arrival e
        → (base : Class) (depth : ℕ) (lists : List (List ℕ)) → IsNext base depth lists class → IsAmong net hops base (depth + 1) lists old
        → HasMore net hops (GoesOnFrom base (depth + 1)) limit
    midway_full e full arrived base depth lists next among =
        more_there net hops base (depth + 1) limit (lists ++ lists_of class midway.steps) (extended class.rules step.rule) e new
        (midway.among base depth lists next among) (fresh base depth lists next)
        (subst (λ b. IsNew net hops base.«from» (extended class.rules step.rule) b) arrived (is_new base depth lists next))
        (extends_more base.rules depth class.rules step.rule next.extends) (omega arith) full

  -- all branches are taken
  pub midway_end : (taken : List Branch) (old new : Grown) → IsMidway net hops class limit branches taken [] old new
      → (base : Class) (depth : ℕ) (lists : List (List ℕ)) → IsNext base depth lists class → IsAmong net hops base (depth + 1) lists old
      → HasTaken net hops base (depth + 1) lists class new
  midway_end taken old new midway base depth lists next among = record {
    rules = rules_of midway.steps;
    among = midway.among base depth lists next among;
    all = λ rule prefix.
        let whole : taken ≡ branches = sym (append-nil taken) ∙ midway.parts in
        each_prefix net fits class belongs branches split midway.steps
        (subst (λ bs. AllZip (IsStepOf net class) (filter (goes_out net) bs) midway.steps) whole midway.each)
        hops rule (subst (λ s. IsPrefix net hops s (extended class.rules rule)) (sym next.starts) prefix);
  }
