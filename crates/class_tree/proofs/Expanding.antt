-- The steps of a class: those of the branches of its headers whose rules send packets on, one branch after the other.
use Rattle.std.proofs.Common.{◌≡◌, ◌≢◌, ℕ, ◌<◌, Bool, cond, is_some, IsTrue, List, [], ◌∷◌, ◌++◌, map, filter, length, get_or, Some, None, refl, sym, ap, ◌∙◌, subst, arith, append_assoc, length-append}
use Rattle.std.specs.List.{AllPairs, AllZip, Contains}
use Rattle.std.proofs.lemmas.Bool.{false≢true}
use Rattle.std.proofs.lemmas.List.{append-nil, get_or_append_left}
use Rattle.std.proofs.lemmas.List.Elements.{filter-append, Contains-append_left}
use Rattle.std.proofs.lemmas.List.Kept.{AllPairs-filter}
use Rattle.std.proofs.lemmas.Slice.Zip.{all_zipped_more}
use Rattle.model_laws.proofs.Precedence.{not_itself}
use Rattle.list_laws.proofs.Members.{Contains-map, Contains-filter, Contains-from_filter}
use Rattle.network_model.specs.Bits.{Header}
use Rattle.network_model.specs.Rewrites.{rewritten}
use Rattle.network_model.specs.Network.{Network, Numbered, precedes, hit}
use Rattle.network_model.specs.Walk.{step, next}
use Rattle.network_model.specs.Prefixes.{IsPrefix, Stands, extended}
use Rattle.network_model.specs.WellFormed.{IsWellFormed}
use Rattle.network_model.proofs.LastRule.{rises_exact}
use Rattle.header_sets.specs.Spaces.{holds}
use Rattle.box_step.specs.declared.branches.Branch.{Branch}
use Rattle.box_step.specs.Branches.{IsBranch, IsSent, sends}
use Rattle.class_tree.specs.declared.class.Class.{Class}
use Rattle.class_tree.specs.declared.expansion.Step.{Step}
use Rattle.class_tree.specs.Belonging.{Belongs}
use Rattle.class_tree.specs.Following.{exit, exit_of, LiesBehind}
use Rattle.model_laws.proofs.WalkStands.{Sends, walks_on, stands_within}
use Rattle.model_laws.proofs.RulesByNumber.{hit_contained}
use Rattle.class_tree.proofs.BranchWalks.{exit_action, place_hit, branch_width, branch_exit}
use Rattle.class_tree.proofs.BranchSteps.{Leads, by_next}
use Rattle.class_tree.proofs.ZippedLists.{zip_left, zip_right, zip_with_left, zip_pairs}

-- the step of a branch
pub record IsStepOf (net : Network) (class : Class) (branch : Branch) (step : Step) : Type 0 where
  pub port : ℕ
  pub exits : exit_of net branch.rule ≡ Some port
  pub number : step.rule ≡ branch.rule
  pub behind : LiesBehind class branch (next net port) step.behind

-- the rule of a branch sends its packets on
abbrev pub goes_out : Network → Branch → Bool
goes_out net branch = is_some (exit_of net branch.rule)

-- one branch more, with the step of its rule
pub step_pushed : (net : Network) (class : Class) (before : List Branch) (steps : List Step) (branch : Branch) (step : Step) (port : ℕ)
    → AllZip (IsStepOf net class) (filter (goes_out net) before) steps → exit_of net branch.rule ≡ Some port → step.rule ≡ branch.rule
    → LiesBehind class branch (next net port) step.behind
    → AllZip (IsStepOf net class) (filter (goes_out net) (before ++ branch ∷ [])) (steps ++ step ∷ [])
step_pushed net class before steps branch step port each exits number behind =
    let passes : filter (goes_out net) (before ++ branch ∷ []) ≡ filter (goes_out net) before ++ branch ∷ [] =
    filter-append (goes_out net) before (branch ∷ [])
    ∙ ap (λ b. filter (goes_out net) before ++ cond b (branch ∷ []) []) (ap is_some exits) in
    subst (λ (bs : List Branch). AllZip (IsStepOf net class) bs (steps ++ step ∷ [])) (sym passes)
    (all_zipped_more (IsStepOf net class) (filter (goes_out net) before) steps branch step each
    (record { port = port; exits = exits; number = number; behind = behind }))

-- one branch more, whose rule drops
pub step_skipped : (net : Network) (class : Class) (before : List Branch) (steps : List Step) (branch : Branch)
    → AllZip (IsStepOf net class) (filter (goes_out net) before) steps → exit_of net branch.rule ≡ None
    → AllZip (IsStepOf net class) (filter (goes_out net) (before ++ branch ∷ [])) steps
step_skipped net class before steps branch each none =
    let fails : filter (goes_out net) (before ++ branch ∷ []) ≡ filter (goes_out net) before =
    filter-append (goes_out net) before (branch ∷ [])
    ∙ ap (λ b. filter (goes_out net) before ++ cond b (branch ∷ []) []) (ap is_some none)
    ∙ append-nil (filter (goes_out net) before) in
    subst (λ (bs : List Branch). AllZip (IsStepOf net class) bs steps) (sym fails) each

-- what holds of each two of a list holds of each two at its front
front_pairs : {A : Type 0} (R : A → A → Type 0) (xs ys : List A) → AllPairs R (xs ++ ys) → AllPairs R xs
front_pairs R xs ys pairs i j d less inside =
    let further : j < length (xs ++ ys) = omega (arith, length-append xs ys) in
    subst (λ a. R a (get_or xs j d)) (get_or_append_left xs ys d i (omega arith))
    (subst (λ b. R (get_or (xs ++ ys) i d) b) (get_or_append_left xs ys d j inside) (pairs i j d less further))

module _ (net : Network) (fits : IsWellFormed net) (class : Class) (belongs : Belongs net class) (branches : List Branch)
    (split : IsSent net class.port class.space class.rewrite branches) where
  -- a branch has a rule and a header
  record IsKnown (branch : Branch) : Type 0 where
    rule : Numbered
    there : Contains split.rules rule
    is : IsBranch net class.port class.space class.rewrite rule branch
    first : Header
    member : IsTrue (holds branch.space first)

  known : (branch : Branch) → Contains branches branch → IsKnown branch
  known branch c =
      let (r, there, is) = zip_right (IsBranch net class.port class.space class.rewrite) split.rules branches branch split.each c in
      let (h, hits) = ((split.exact r).0 there).1 in
      record { rule = r; there = there; is = is; first = h; member = (is.headers h).1 hits }

  pub some_member : (branch : Branch) → Contains branches branch → (h : Header) × IsTrue (holds branch.space h)
  some_member branch c = let k = known branch c in (k.first, k.member)

  pub as_wide : (branch : Branch) → Contains branches branch → length branch.rewrite ≡ branch.space.width
  as_wide branch c = let k = known branch c in branch_width net fits class belongs k.rule branch k.is k.first k.member ∙ sym k.is.width

  known_exit : (branch : Branch) (k : IsKnown branch) → exit_of net branch.rule ≡ exit k.rule.1.action
  known_exit branch k = branch_exit net fits class belongs k.rule branch k.is k.first k.member

  -- rules with one number are one, which does not precede itself
  apart : AllPairs (λ (a b : Branch). a.rule ≢ b.rule) branches
  apart = zip_pairs
      (λ r b. IsBranch net class.port class.space class.rewrite r b × Contains net.rules r)
      (λ r q. IsTrue (precedes r q))
      (λ a b. a.rule ≢ b.rule)
      (λ r q a b s t before same.
      let one : r ≡ q = rises_exact net.rules fits.rules r q s.1 t.1 (sym s.0.number ∙ same ∙ t.0.number) in
      false≢true (sym (not_itself q) ∙ ap (λ (x : Numbered). precedes x q) (sym one) ∙ before))
      split.rules branches
      (zip_with_left (IsBranch net class.port class.space class.rewrite) (Contains net.rules) split.rules branches split.each
      (λ r c. let (h, hits) = ((split.exact r).0 c).1 in hit_contained net class.port (rewritten class.rewrite h) r hits.1))
      split.order

  -- the steps of some of the branches, from the first
  module _ (before left : List Branch) (parts : before ++ left ≡ branches) (steps : List Step)
      (each : AllZip (IsStepOf net class) (filter (goes_out net) before) steps) (hops : ℕ) (few : length class.rules < hops) where
    pub step_leads : (step : Step) → Contains steps step → Leads net hops class step
    step_leads step c =
        let (branch, passing, of) = zip_right (IsStepOf net class) (filter (goes_out net) before) steps step each c in
        let early : Contains before branch = Contains-from_filter (goes_out net) before branch passing in
        let k = known branch (subst (λ l. Contains l branch) parts (Contains-append_left before left branch early)) in
        let (rewrite, acts) = exit_action k.rule.1.action of.port (sym (known_exit branch k) ∙ of.exits) in
        let own : Leads net hops class (record { rule = branch.rule; behind = step.behind }) =
        by_next net fits class belongs k.rule branch k.is k.first k.member of.port rewrite acts hops few (next net of.port) refl step.behind of.behind in
        subst (λ n. Leads net hops class (record { rule = n; behind = step.behind })) (sym of.number) own

    pub steps_apart : AllPairs (λ (a b : Step). a.rule ≢ b.rule) steps
    steps_apart = zip_pairs (IsStepOf net class) (λ a b. a.rule ≢ b.rule) (λ a b. a.rule ≢ b.rule)
        (λ a b s t of of' differ same. differ (sym of.number ∙ same ∙ of'.number)) (filter (goes_out net) before) steps each
        (AllPairs-filter (λ (a b : Branch). a.rule ≢ b.rule) (goes_out net) before
        (front_pairs (λ (a b : Branch). a.rule ≢ b.rule) before left (subst (AllPairs (λ (a b : Branch). a.rule ≢ b.rule)) (sym parts) apart)))

  -- the steps of all of them
  module _ (steps : List Step) (each : AllZip (IsStepOf net class) (filter (goes_out net) branches) steps) where
    branch_step : (branch : Branch) → Contains branches branch → (out : ℕ) → exit_of net branch.rule ≡ Some out → (n : ℕ) → branch.rule ≡ n
        → (step : Step) × Contains steps step × (step.rule ≡ n)
    branch_step branch c out leaves n number =
        let (step, d, of) = zip_left (IsStepOf net class) (filter (goes_out net) branches) steps branch each
        (Contains-filter (goes_out net) branches branch c (ap is_some leaves)) in
        (step, d, of.number ∙ number)

    -- a rule that some header of the class meets next has a step
    met_step : (h : Header) (s : Stands net class.«from» class.rules h) (one : Numbered) (out : ℕ) (after : Header)
        → Sends net s.place.port s.place.header one out after → (n : ℕ) → one.0 ≡ n → (step : Step) × Contains steps step × (step.rule ≡ n)
    met_step h s one out after sent n number =
        let hits : hit net class.port (rewritten class.rewrite h) ≡ Some one = sym (place_hit net class belongs h s) ∙ sent.hits in
        let there : Contains split.rules one = (split.exact one).1 (ap sends sent.action, (h, ((belongs.headers h).1 s, hits))) in
        let (branch, c, is) = zip_left (IsBranch net class.port class.space class.rewrite) split.rules branches one split.each there in
        let held : IsTrue (holds branch.space h) = (is.headers h).1 ((belongs.headers h).1 s, hits) in
        let leaves : exit_of net branch.rule ≡ Some out = branch_exit net fits class belongs one branch is h held ∙ ap exit sent.action in
        branch_step branch c out leaves n (is.number ∙ number)

    pub each_prefix : (hops n : ℕ) → IsPrefix net hops class.«from» (extended class.rules n) → Contains (map (λ (step : Step). step.rule) steps) n
    each_prefix hops n prefix =
        let within = stands_within net hops class.«from» prefix.header class.rules n prefix.rest prefix.permitted
        (prefix.begins ∙ append_assoc class.rules (n ∷ []) prefix.rest) in
        let s = within.stands in
        let on = walks_on net within.left s.place.port s.place.header n prefix.rest within.rest in
        let (step, c, number) = met_step prefix.header s on.one on.out on.after on.sends n on.number in
        subst (Contains (map (λ (s : Step). s.rule) steps)) number (Contains-map (λ (s : Step). s.rule) steps step c)
