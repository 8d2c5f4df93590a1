-- What a rule leads to tells how the walk of each packet that it takes meets the demand.
use Rattle.std.proofs.Common.{◌≡◌, ℕ, suc, Bool, true, false, not, ◌&&◌, ◌||◌, cond, ◌⊎◌, inl, inr, List, [], ◌∷◌, ◌++◌, length, Option, None, Some, IsTrue, IfSome, is_none, eqb, refl, sym, ap, subst, ◌∙◌, arith}
use Rattle.std.specs.List.{Contains}
use Rattle.std.proofs.lemmas.Bool.{true≢false, and_parts, and_from}
use Rattle.std.proofs.lemmas.Option.{IfSome_then}
use Rattle.std.proofs.lemmas.List.Elements.{All-contains, Contains-push_cases, Contains-append_left, Contains-push}
use Rattle.network_model.specs.Bits.{Header}
use Rattle.network_model.specs.Rewrites.{Rewrite, rewritten}
use Rattle.network_model.specs.Network.{value_at, Network, Numbered, Action, Drop, Out, hit}
use Rattle.network_model.specs.Walk.{Unmatched, Walk, walk, step, act, leave, after_rule, Next, Term, Far, Nothing, next}
use Rattle.network_model.specs.WellFormed.{IsWellFormed, FitsRule, FitsOut}
use Rattle.network_model.proofs.RewriteLaws.{rewritten-composed, length-composed}
use Rattle.model_laws.proofs.RulesByNumber.{rule_at_number, hit_contained}
use Rattle.header_sets.specs.Spaces.{SpaceValue, holds}
use Rattle.box_step.specs.declared.branches.Branch.{Branch}
use Rattle.box_step.specs.Branches.{onward, IsBranch, IsSplit}
use Rattle.class_tree.proofs.ZippedLists.{zip_left, zip_right}
use Rattle.policy_check.specs.declared.policy.Demand.{Demand}
use Rattle.policy_check.specs.declared.policy.Demand.TheVariants.{Never, Must, Via}
use Rattle.policy_check.specs.declared.policy.Policy.{Policy}
use Rattle.policy_check.specs.declared.outcome.Outcome.{Outcome}
use Rattle.policy_check.specs.declared.outcome.Outcome.TheVariants.{Obeys, Breaks, GoesOn}
use Rattle.policy_check.specs.declared.search.Part.{Part}
use Rattle.policy_check.specs.Policies.{is_delivered, is_at_box, passes, meets}
use Rattle.policy_check.specs.Outcomes.{BreaksFrom, IsUnmatchedBreach, undelivered, behind_port, behind_action, behind_rule, outcome_of, moved, rest_meets}
use Rattle.policy_check.specs.Narrowing.{IsUpTo, IsNarrowed}
use Rattle.policy_check.proofs.Narrowed.{narrowed_none, narrowed_twice, narrowed_same}

-- ---- one rule

module _ (net : Network) (to left rule : ℕ) (h : Header) where
  -- the walk of the header behind the port
  abbrev on : ℕ → Rewrite → Next → Walk
  on port rewrite n = leave (walk net left) port (rewritten rewrite h) n

  never_behind : (port : ℕ) (rewrite : Rewrite) (n : Next)
      → meets net Never to (after_rule rule (on port rewrite n)) ≡ rest_meets net Never to left (Out port rewrite) h (behind_port Never to n)
  never_behind port rewrite (Term t) =
      elim (eqb t to) as (λ b. not b ≡ rest_meets net Never to left (Out port rewrite) h (cond b Breaks Obeys)) [ true ↦ refl | false ↦ refl ]
  never_behind port rewrite (Far far) = refl
  never_behind port rewrite Nothing = refl

  must_behind : (port : ℕ) (rewrite : Rewrite) (n : Next)
      → meets net Must to (after_rule rule (on port rewrite n)) ≡ rest_meets net Must to left (Out port rewrite) h (behind_port Must to n)
  must_behind port rewrite (Term t) =
      elim (eqb t to) as (λ b. b ≡ rest_meets net Must to left (Out port rewrite) h (cond b Obeys Breaks)) [ true ↦ refl | false ↦ refl ]
  must_behind port rewrite (Far far) = refl
  must_behind port rewrite Nothing = refl

  past : (a b : Bool) → (a || (true || b)) ≡ true
  past true b = refl
  past false b = refl

  -- past the box that is asked for
  asked_behind : (box : ℕ) (w : Walk) → is_at_box (value_at net.rules rule) box ≡ true → meets net (Via box) to (after_rule rule w) ≡ true
  asked_behind box w is =
      ap (λ b. not (is_delivered w.end to) || (b || passes net box w.rules)) is ∙ past (not (is_delivered w.end to)) (passes net box w.rules)

  -- another box
  via_behind : (box port : ℕ) (rewrite : Rewrite) (n : Next) → is_at_box (value_at net.rules rule) box ≡ false
      → meets net (Via box) to (after_rule rule (on port rewrite n)) ≡ rest_meets net (Via box) to left (Out port rewrite) h (behind_port (Via box) to n)
  via_behind box port rewrite (Term t) is =
      ap (λ b. not (eqb t to) || (b || false)) is
      ∙ elim (eqb t to) as (λ b. (not b || (false || false)) ≡ rest_meets net (Via box) to left (Out port rewrite) h (cond b Breaks Obeys)) [ true ↦ refl | false ↦ refl ]
  via_behind box port rewrite (Far far) is =
      let w = walk net left far (rewritten rewrite h) in ap (λ b. not (is_delivered w.end to) || (b || passes net box w.rules)) is
  via_behind box port rewrite Nothing is = refl

  never_acts : (a : Action) → meets net Never to (act net (walk net left) h rule a) ≡ rest_meets net Never to left a h (behind_action net Never to a)
  never_acts Drop = refl
  never_acts (Out port rewrite) = never_behind port rewrite (next net port)

  must_acts : (a : Action) → meets net Must to (act net (walk net left) h rule a) ≡ rest_meets net Must to left a h (behind_action net Must to a)
  must_acts Drop = refl
  must_acts (Out port rewrite) = must_behind port rewrite (next net port)

  via_acts : (box : ℕ) (a : Action) → is_at_box (value_at net.rules rule) box ≡ false
      → meets net (Via box) to (act net (walk net left) h rule a) ≡ rest_meets net (Via box) to left a h (behind_action net (Via box) to a)
  via_acts box Drop is = refl
  via_acts box (Out port rewrite) is = via_behind box port rewrite (next net port) is

  asked_acts : (box : ℕ) (a : Action) → is_at_box (value_at net.rules rule) box ≡ true → meets net (Via box) to (act net (walk net left) h rule a) ≡ true
  asked_acts box Drop is = refl
  asked_acts box (Out port rewrite) is = asked_behind box (on port rewrite (next net port)) is

-- what a rule leads to tells how each walk behind it meets the demand
pub rule_tells : (net : Network) (demand : Demand) (to left : ℕ) (h : Header) (r : Numbered) → value_at net.rules r.0 ≡ Some r.1
    → meets net demand to (act net (walk net left) h r.0 r.1.action)
    ≡ rest_meets net demand to left r.1.action h (behind_rule net demand to (value_at net.rules r.0))
rule_tells net demand to left h r there = by_demand demand ∙ ap (λ o. rest_meets net demand to left r.1.action h (behind_rule net demand to o)) (sym there)
  where
    by_demand : (d : Demand) → meets net d to (act net (walk net left) h r.0 r.1.action) ≡ rest_meets net d to left r.1.action h (behind_rule net d to (Some r.1))
    by_demand Never = never_acts net to left r.0 h r.1.action
    by_demand Must = must_acts net to left r.0 h r.1.action
    by_demand (Via box) = by_box (eqb r.1.at box) (ap (λ o. is_at_box o box) there)
      where
        by_box : (b : Bool) → is_at_box (value_at net.rules r.0) box ≡ b → meets net (Via box) to (act net (walk net left) h r.0 r.1.action)
            ≡ rest_meets net (Via box) to left r.1.action h (cond b Obeys (behind_action net (Via box) to r.1.action))
        by_box true is = asked_acts net to left r.0 h box r.1.action is
        by_box false is = via_acts net to left r.0 h box r.1.action is

-- ---- packets that are delivered nowhere

-- they break a demand just where they have to be delivered
pub lost_breaks : (net : Network) (demand : Demand) (to : ℕ) (w : Walk) → is_delivered w.end to ≡ false → undelivered demand ≡ Breaks → meets net demand to w ≡ false
lost_breaks net Never to w lost e = cc
lost_breaks net Must to w lost e = lost
lost_breaks net (Via box) to w lost e = cc

pub breaks_lost : (net : Network) (demand : Demand) (to : ℕ) (w : Walk) → is_delivered w.end to ≡ false → meets net demand to w ≡ false → undelivered demand ≡ Breaks
breaks_lost net Never to w lost e = absurd (true≢false (sym (ap not lost) ∙ e))
breaks_lost net Must to w lost e = refl
breaks_lost net (Via box) to w lost e = absurd (true≢false (sym (ap (λ b. not b || passes net box w.rules) lost) ∙ e))

none_is : {X : Type 0} (o : Option X) → is_none o ≡ true → o ≡ None
none_is None e = refl
none_is (Some x) e = cc

-- the headers of a part that no rule takes, where they break the demand
pub unmatched_breaches : (net : Network) (demand : Demand) (part : Part) (rest : SpaceValue) → undelivered demand ≡ Breaks
    → ((h : Header) → holds rest h ≡ (holds part.space h && is_none (hit net part.port (rewritten part.rewrite h)))) → (old new : Option Header)
    → IsNarrowed (λ h. IsTrue (holds rest h)) old new → IsNarrowed (IsUnmatchedBreach net demand part) old new
unmatched_breaches net demand part rest breaks set old new =
    narrowed_same (λ h. IsTrue (holds rest h)) (IsUnmatchedBreach net demand part) old new
    (λ h held.
    let parts = and_parts (holds part.space h) (is_none (hit net part.port (rewritten part.rewrite h))) (sym (set h) ∙ held) in
    (parts.0, none_is (hit net part.port (rewritten part.rewrite h)) parts.1, breaks))
    (λ h p. set h ∙ and_from (holds part.space h) (is_none (hit net part.port (rewritten part.rewrite h))) p.0 (ap is_none p.1))

-- a width by another name
pub other_width : (o : Option Header) (v w : ℕ) → v ≡ w → IfSome o (λ h. length h ≡ v) → IfSome o (λ h. length h ≡ w)
other_width o v w same wide = IfSome_then o wide (λ h e. e ∙ same)

-- ---- one branch of a part

module _ (net : Network) (policy : Policy) (left : ℕ) (part : Part) where
  -- how the walk of a header meets the demand
  abbrev pub met : Header → Bool
  met h = meets net policy.demand policy.to (walk net (suc left) part.port (rewritten part.rewrite h))

  -- the headers of a branch that break the policy
  abbrev pub InBranch : Branch → Header → Type 0
  InBranch branch h = IsTrue (holds branch.space h) × (met h ≡ false)

  -- a header that breaks the policy, and that no rule takes, or that is of one of these branches
  abbrev pub IsDone : List Branch → Header → Type 0
  IsDone branches h = BreaksFrom net policy (suc left) part h
      × ((hit net part.port (rewritten part.rewrite h) ≡ None) ⊎ ((branch : Branch) × Contains branches branch × IsTrue (holds branch.space h)))

  -- no header of the branch is less than the one found
  pub branch_passed : (branch : Branch) (o : Option Header) → ((h : Header) → IsTrue (holds branch.space h) → IsUpTo o h) → IsNarrowed (InBranch branch) o o
  branch_passed branch o none = narrowed_none (InBranch branch) o (λ h p. none h p.0)

  module _ (fits : IsWellFormed net) (rule : Numbered) (branch : Branch) (is : IsBranch net part.port part.space part.rewrite rule branch)
      (first : Header) (member : IsTrue (holds branch.space first)) where
    rule_there : Contains net.rules rule
    rule_there = hit_contained net part.port (rewritten part.rewrite first) rule ((is.headers first).0 member).1

    -- its rewrite is as wide as the network
    pub branch_wide : length part.rewrite ≡ net.width → length branch.rewrite ≡ net.width
    branch_wide wide = ap length is.rewrites ∙ by_action rule.1.action (All-contains (λ (r : Numbered). FitsRule net r.1) net.rules rule fits.ruled rule_there).out
      where
        by_action : (a : Action) → FitsOut net rule.1.at a → length (onward part.rewrite a) ≡ net.width
        by_action Drop out = wide
        by_action (Out port rewrite) out = length-composed part.rewrite rewrite ∙ out.1

    -- what has become of its headers
    branch_moved : (h : Header) → moved rule.1.action (rewritten part.rewrite h) ≡ rewritten branch.rewrite h
    branch_moved h = by_action rule.1.action ∙ ap (λ (r : Rewrite). rewritten r h) (sym is.rewrites)
      where
        by_action : (a : Action) → moved a (rewritten part.rewrite h) ≡ rewritten (onward part.rewrite a) h
        by_action Drop = refl
        by_action (Out port rewrite) = sym (rewritten-composed part.rewrite rewrite h)

    branch_tells : (o : Outcome) → outcome_of net policy branch.rule ≡ o → (h : Header) → IsTrue (holds branch.space h)
        → met h ≡ rest_meets net policy.demand policy.to left rule.1.action (rewritten part.rewrite h) o
    branch_tells o leads h held =
        ap (λ hits. meets net policy.demand policy.to (step net (walk net left) (rewritten part.rewrite h) hits)) ((is.headers h).0 held).1
        ∙ rule_tells net policy.demand policy.to left (rewritten part.rewrite h) rule (rule_at_number net fits rule rule_there)
        ∙ ap (λ n. rest_meets net policy.demand policy.to left rule.1.action (rewritten part.rewrite h) (outcome_of net policy n)) (sym is.number)
        ∙ ap (rest_meets net policy.demand policy.to left rule.1.action (rewritten part.rewrite h)) leads

    pub branch_obeys : outcome_of net policy branch.rule ≡ Obeys → (o : Option Header) → IsNarrowed (InBranch branch) o o
    branch_obeys leads o = narrowed_none (InBranch branch) o (λ h p. absurd (true≢false (sym (branch_tells Obeys leads h p.0) ∙ p.1)))

    pub branch_breaks : outcome_of net policy branch.rule ≡ Breaks → (old new : Option Header) → IsNarrowed (λ h. IsTrue (holds branch.space h)) old new
        → IsNarrowed (InBranch branch) old new
    branch_breaks leads old new = narrowed_same (λ h. IsTrue (holds branch.space h)) (InBranch branch) old new
        (λ h held. (held, branch_tells Breaks leads h held)) (λ h p. p.0)

    pub branch_goes_on : (port : ℕ) → outcome_of net policy branch.rule ≡ GoesOn port → (old new : Option Header)
        → IsNarrowed (BreaksFrom net policy left (record { port = port; space = branch.space; rewrite = branch.rewrite })) old new → IsNarrowed (InBranch branch) old new
    branch_goes_on port leads old new = narrowed_same (BreaksFrom net policy left (record { port = port; space = branch.space; rewrite = branch.rewrite })) (InBranch branch) old new
        (λ h p. (p.0, same h p.0 ∙ p.1)) (λ h p. (p.0, sym (same h p.0) ∙ p.1))
      where
        same : (h : Header) → IsTrue (holds branch.space h) → met h ≡ meets net policy.demand policy.to (walk net left port (rewritten branch.rewrite h))
        same h held = branch_tells (GoesOn port) leads h held ∙ ap (λ g. meets net policy.demand policy.to (walk net left port g)) (branch_moved h)

  -- ---- one branch after another

  module _ (branches : List Branch) (split : IsSplit net part.port part.space part.rewrite branches) where
    pub record IsKnown (branch : Branch) : Type 0 where
      pub rule : Numbered
      pub is : IsBranch net part.port part.space part.rewrite rule branch
      pub first : Header
      pub member : IsTrue (holds branch.space first)

    pub known : (branch : Branch) → Contains branches branch → IsKnown branch
    known branch c =
        let (r, there, is) = zip_right (IsBranch net part.port part.space part.rewrite) split.rules branches branch split.each c in
        let (h, hits) = (split.exact r).0 there in
        record { rule = r; is = is; first = h; member = (is.headers h).1 hits }

    unmatched_met : (h : Header) → hit net part.port (rewritten part.rewrite h) ≡ None
        → met h ≡ meets net policy.demand policy.to (record { rules = []; end = Unmatched })
    unmatched_met h none = ap (λ hits. meets net policy.demand policy.to (step net (walk net left) (rewritten part.rewrite h) hits)) none

    pub done_none : (old new : Option Header) → IsNarrowed (IsUnmatchedBreach net policy.demand part) old new → IsNarrowed (IsDone []) old new
    done_none old new = narrowed_same (IsUnmatchedBreach net policy.demand part) (IsDone []) old new
        (λ h p. ((p.0, unmatched_met h p.1 ∙ lost_breaks net policy.demand policy.to (record { rules = []; end = Unmatched }) refl p.2), inl p.1))
        (λ h p. from h p.0 p.1)
      where
        from : (h : Header) → BreaksFrom net policy (suc left) part h
            → (hit net part.port (rewritten part.rewrite h) ≡ None) ⊎ ((branch : Branch) × Contains [] branch × IsTrue (holds branch.space h))
            → IsUnmatchedBreach net policy.demand part h
        from h breaks (inl none) = (breaks.0, none, breaks_lost net policy.demand policy.to (record { rules = []; end = Unmatched }) refl (sym (unmatched_met h none) ∙ breaks.1))
        from h breaks (inr (branch, c, held)) = absurd (omega (arith, c.1))

    pub done_more : (before : List Branch) (branch : Branch) → Contains branches branch → (a b c : Option Header)
        → IsNarrowed (IsDone before) a b → IsNarrowed (InBranch branch) b c → IsNarrowed (IsDone (before ++ branch ∷ [])) a c
    done_more before branch there a b c one other =
        narrowed_same (λ h. IsDone before h ⊎ InBranch branch h) (IsDone (before ++ branch ∷ [])) a c to back (narrowed_twice (IsDone before) (InBranch branch) a b c one other)
      where
        to : (h : Header) → IsDone before h ⊎ InBranch branch h → IsDone (before ++ branch ∷ []) h
        to h (inl (breaks, inl none)) = (breaks, inl none)
        to h (inl (breaks, inr (own, c, held))) = (breaks, inr (own, Contains-append_left before (branch ∷ []) own c, held))
        to h (inr (held, broken)) = (((((known branch there).is.headers h).0 held).0, broken), inr (branch, Contains-push before branch, held))

        back : (h : Header) → IsDone (before ++ branch ∷ []) h → IsDone before h ⊎ InBranch branch h
        back h (breaks, inl none) = inl (breaks, inl none)
        back h (breaks, inr (own, c, held)) = by_place (Contains-push_cases before branch own c)
          where
            by_place : Contains before own ⊎ (branch ≡ own) → IsDone before h ⊎ InBranch branch h
            by_place (inl d) = inl (breaks, inr (own, d, held))
            by_place (inr same) = inr (subst (λ (x : Branch). IsTrue (holds x.space h)) (sym same) held, breaks.1)

    pub done_all : (old new : Option Header) → IsNarrowed (IsDone branches) old new → IsNarrowed (BreaksFrom net policy (suc left) part) old new
    done_all old new = narrowed_same (IsDone branches) (BreaksFrom net policy (suc left) part) old new (λ h p. p.0) (λ h p. (p, by_hit h p (hit net part.port (rewritten part.rewrite h)) refl))
      where
        by_hit : (h : Header) → BreaksFrom net policy (suc left) part h → (o : Option Numbered) → hit net part.port (rewritten part.rewrite h) ≡ o
            → (hit net part.port (rewritten part.rewrite h) ≡ None) ⊎ ((branch : Branch) × Contains branches branch × IsTrue (holds branch.space h))
        by_hit h p None is = inl is
        by_hit h p (Some r) is =
            let (branch, there, of) = zip_left (IsBranch net part.port part.space part.rewrite) split.rules branches r split.each ((split.exact r).1 (h, (p.0, is))) in
            inr (branch, there, (of.headers h).1 (p.0, is))
