-- Rule after rule takes its headers out of those that are left.
use Rattle.std.proofs.Common.{◌≡◌, ℕ, zero, suc, ◌+◌, ◌<◌, ◌≤◌, Bool, IsTrue, true, false, cond, not, ◌&&◌, ◌||◌, ◌⊎◌, inl, inr, List, [], ◌∷◌, ◌++◌, map, length, get_or, drop, Some, None, refl, sym, ap, ◌∙◌, subst, arith}
use Rattle.std.specs.List.{AllPairs, AllZip, Contains, find}
use Rattle.std.proofs.lemmas.Bool.{and_parts, and_from, cases_Bool, false≢true, true≢false, eq-eqb}
use Rattle.std.proofs.lemmas.List.{get_or-map, length-map}
use Rattle.std.proofs.lemmas.List.Elements.{Contains-get_or, Contains-append_left, Contains-push, Contains-push_cases}
use Rattle.std.proofs.lemmas.List.Folds.{list_any-append}
use Rattle.std.proofs.lemmas.List.Quantifiers.{all_pairs_push}
use Rattle.model_laws.proofs.Precedence.{not_itself}
use Rattle.network_model.specs.Bits.{Header, Pattern, matches}
use Rattle.network_model.specs.Rewrites.{Rewrite, rewritten}
use Rattle.network_model.specs.Network.{Network, Numbered, value_at, is_at, port_fits, takes, precedes, is_first, hit}
use Rattle.header_sets.specs.Spaces.{SpaceValue, any_matches, holds}
use Rattle.net_types.specs.declared.rule.Rule.{Rule}
use Rattle.net_types.specs.Rules.{numbered}
use Rattle.box_step.specs.declared.branches.Branch.{Branch}
use Rattle.box_step.specs.Branches.{onward, is_wanted, IsHit, IsBranch, IsSplit, IsSplitOf}
use Rattle.box_step.specs.Taking.{takes_sent, is_left, IsTaken}

-- ---- lists

found_passes : {X : Type 0} (p : X → Bool) (xs : List X) (x : X) → find p xs ≡ Some x → p x ≡ true
found_passes p [] x e = cc
found_passes {X} p (y ∷ xs) x e = head (λ found. found_passes p xs x found) (p y) refl e
  where
    head : (find p xs ≡ Some x → p x ≡ true) → (b : Bool) → p y ≡ b → cond b (Some y) (find p xs) ≡ Some x → p x ≡ true
    head below true passes found = let same : y ≡ x = cc in ap p (sym same) ∙ passes
    head below false fails found = below found

zip_push : {A B : Type 0} (R : A → B → Type 0) (xs : List A) (ys : List B) (x : A) (y : B) → AllZip R xs ys → R x y → AllZip R (xs ++ x ∷ []) (ys ++ y ∷ [])
zip_push R [] [] x y zip r = (r, tt)
zip_push R [] (b ∷ ys) x y zip r = absurd zip
zip_push R (a ∷ xs) [] x y zip r = absurd zip
zip_push R (a ∷ xs) (b ∷ ys) x y zip r = (zip.0, zip_push R xs ys x y zip.1 r)

zip_at : {A B : Type 0} (R : A → B → Type 0) (xs : List A) (ys : List B) (z : A) → AllZip R xs ys → (k : ℕ) → k < length xs → get_or xs k z ≡ z → (y : B) × R z y
zip_at R [] ys z zip k l at = absurd (omega arith)
zip_at R (x ∷ xs) [] z zip k l at = absurd zip
zip_at R (x ∷ xs) (y ∷ ys) z zip zero l at = (y, subst (λ a. R a y) at zip.0)
zip_at R (x ∷ xs) (y ∷ ys) z zip (suc k) l at = zip_at R xs ys z zip.1 k (omega arith) at

-- ---- what holds after some of the rules: those to come are the rest

-- the rule that takes a header was tried, and has a branch where those of its kind are kept
pub record Taken (net : Network) (port : ℕ) (rewrite : Rewrite) (keeps : Numbered → Bool) (rules rest : List Numbered) (header : Header) : Type 0 where
  pub by : Numbered
  pub hits : hit net port (rewritten rewrite header) ≡ Some by
  pub tried : (s : Numbered) → Contains rest s → precedes by s ≡ true
  pub listed : keeps by ≡ true → Contains rules by

pub record Progress (net : Network) (port : ℕ) (space : SpaceValue) (rewrite : Rewrite) (keeps : Numbered → Bool) (rest : List Numbered) (left : Header → Bool) (branches : List Branch) : Type 0 where
  pub rules : List Numbered
  pub each : AllZip (IsBranch net port space rewrite) rules branches
  pub kept : (r : Numbered) → Contains rules r → keeps r ≡ true
  pub some : (r : Numbered) → Contains rules r → (h : Header) × IsHit net port space rewrite r h
  pub order : AllPairs (λ a b. precedes a b ≡ true) rules
  pub coming : AllPairs (λ a b. precedes a b ≡ true) rest
  pub earlier : (r s : Numbered) → Contains rules r → Contains rest s → precedes r s ≡ true
  pub inside : (h : Header) → left h ≡ true → holds space h ≡ true
  pub hits : (h : Header) → left h ≡ true → hit net port (rewritten rewrite h) ≡ find (takes net port (rewritten rewrite h)) rest
  pub taken : (h : Header) → holds space h ≡ true → left h ≡ false → Taken net port rewrite keeps rules rest h

module _ (net : Network) (port : ℕ) (space : SpaceValue) (rewrite : Rewrite) (keeps : Numbered → Bool) where
  abbrev g : Header → Header
  g h = rewritten rewrite h

  pub begin : (rest : List Numbered) (left : Header → Bool) (branches : List Branch) → ((h : Header) → left h ≡ holds space h) → branches ≡ []
      → AllPairs (λ a b. precedes a b ≡ true) rest → ((h : Header) → hit net port (g h) ≡ find (takes net port (g h)) rest) → Progress net port space rewrite keeps rest left branches
  begin rest left branches same none coming hits = record {
    rules = [];
    each = subst (λ (bs : List Branch). AllZip (IsBranch net port space rewrite) [] bs) (sym none) tt;
    kept = λ r (k, l, at). absurd (omega arith);
    some = λ r (k, l, at). absurd (omega arith);
    order = λ i j d l m. absurd (omega arith);
    coming = coming;
    earlier = λ r s (k, l, at) c. absurd (omega arith);
    inside = λ h e. sym (same h) ∙ e;
    hits = λ h e. hits h;
    taken = λ h e f. absurd (true≢false (sym e ∙ sym (same h) ∙ f));
  }

  module _ (r : Numbered) (rest : List Numbered) (left : Header → Bool) (branches : List Branch) (before : Progress net port space rewrite keeps (r ∷ rest) left branches) where
    later : (s : Numbered) → Contains rest s → Contains (r ∷ rest) s
    later s (k, l, at) = (suc k, omega arith, at)

    coming_rest : AllPairs (λ a b. precedes a b ≡ true) rest
    coming_rest i j d l m = before.coming (suc i) (suc j) d (omega arith) (omega arith)

    head_precedes : (s : Numbered) → Contains rest s → precedes r s ≡ true
    head_precedes s (k, l, at) =
        ap (λ (q : Numbered). precedes r q) (sym at) ∙ before.coming zero (suc k) s (omega arith) (omega arith)

    not_taken : (h : Header) → left h ≡ true → takes net port (g h) r ≡ false → hit net port (g h) ≡ find (takes net port (g h)) rest
    not_taken h e none = before.hits h e ∙ ap (λ b. cond b (Some r) (find (takes net port (g h)) rest)) none

    is_taken : (h : Header) → left h ≡ true → takes net port (g h) r ≡ true → hit net port (g h) ≡ Some r
    is_taken h e here = before.hits h e ∙ ap (λ b. cond b (Some r) (find (takes net port (g h)) rest)) here

    -- what was taken before stays taken
    kept_on : {rules : List Numbered} (h : Header) → Taken net port rewrite keeps rules (r ∷ rest) h → Taken net port rewrite keeps rules rest h
    kept_on h t = record { by = t.by; hits = t.hits; tried = λ s d. t.tried s (later s d); listed = t.listed }

    pub skip : ((h : Header) → (left h && takes net port (g h) r) ≡ false) → Progress net port space rewrite keeps rest left branches
    skip none = record {
      rules = before.rules;
      each = before.each;
      kept = before.kept;
      some = before.some;
      order = before.order;
      coming = coming_rest;
      earlier = λ q s c d. before.earlier q s c (later s d);
      inside = before.inside;
      hits = λ h e. not_taken h e (sym (ap (λ b. b && takes net port (g h) r) e) ∙ none h);
      taken = λ h e f. kept_on h (before.taken h e f);
    }

    not_true : (b : Bool) → not b ≡ true → b ≡ false
    not_true true n = absurd (false≢true n)
    not_true false n = refl

    not_false : (b : Bool) → not b ≡ false → b ≡ true
    not_false true n = refl
    not_false false n = absurd (true≢false n)

    -- headers that are left no more were taken before or are now
    module _ (new : Header → Bool) (new_headers : (h : Header) → new h ≡ (left h && not (takes net port (g h) r))) where
      still_inside : (h : Header) → new h ≡ true → holds space h ≡ true
      still_inside h e = before.inside h (and_parts (left h) (not (takes net port (g h) r)) (sym (new_headers h) ∙ e)).0

      still_hits : (h : Header) → new h ≡ true → hit net port (g h) ≡ find (takes net port (g h)) rest
      still_hits h e =
          let parts = and_parts (left h) (not (takes net port (g h) r)) (sym (new_headers h) ∙ e) in
          not_taken h parts.0 (not_true _ parts.1)

      now_taken : (h : Header) → new h ≡ false → left h ≡ true → hit net port (g h) ≡ Some r
      now_taken h f here =
          let none : not (takes net port (g h) r) ≡ false = sym (ap (λ b. b && not (takes net port (g h) r)) here) ∙ sym (new_headers h) ∙ f in
          is_taken h here (not_false _ none)

      -- a rule of a kind that is not kept
      pub pass : keeps r ≡ false → Progress net port space rewrite keeps rest new branches
      pass unkept = record {
        rules = before.rules;
        each = before.each;
        kept = before.kept;
        some = before.some;
        order = before.order;
        coming = coming_rest;
        earlier = λ q s c d. before.earlier q s c (later s d);
        inside = still_inside;
        hits = still_hits;
        taken = λ h e f. gone h e f (cases_Bool (left h));
      }
        where
          gone : (h : Header) → holds space h ≡ true → new h ≡ false → (left h ≡ true) ⊎ (left h ≡ false) → Taken net port rewrite keeps before.rules rest h
          gone h e f (inl here) = record { by = r; hits = now_taken h f here; tried = head_precedes; listed = λ k. absurd (true≢false (sym k ∙ unkept)) }
          gone h e f (inr before_it) = kept_on h (before.taken h e before_it)

    module _ (branch : Branch) (new : Header → Bool) (number : branch.rule ≡ r.0) (width : branch.space.width ≡ net.width)
        (rewrites : branch.rewrite ≡ onward rewrite r.1.action)
        (headers : (h : Header) → holds branch.space h ≡ (left h && takes net port (g h) r))
        (new_headers : (h : Header) → new h ≡ (left h && not (takes net port (g h) r)))
        (member : (h : Header) × (holds branch.space h ≡ true)) (keep : keeps r ≡ true) where
      of_branch : (h : Header) → holds branch.space h ≡ true → IsHit net port space rewrite r h
      of_branch h e =
          let parts = and_parts (left h) (takes net port (g h) r) (sym (headers h) ∙ e) in
          (before.inside h parts.0, is_taken h parts.0 parts.1)

      to_branch : (h : Header) → IsHit net port space rewrite r h → holds branch.space h ≡ true
      to_branch h is = elim (cases_Bool (left h)) as (λ _. holds branch.space h ≡ true) [
        | inl here ↦ headers h ∙ and_from (left h) (takes net port (g h) r) here
            (found_passes (takes net port (g h)) (r ∷ rest) r (sym (before.hits h here) ∙ is.1))
        | inr gone ↦ earlier_one (before.taken h is.0 gone)
      ]
        where
          earlier_one : Taken net port rewrite keeps before.rules (r ∷ rest) h → holds branch.space h ≡ true
          earlier_one t =
              let both : Some t.by ≡ Some r = sym t.hits ∙ is.1 in
              let same : t.by ≡ r = cc in
              absurd (true≢false (sym (t.tried r (zero, omega arith, refl)) ∙ ap (λ (x : Numbered). precedes x r) same ∙ not_itself r))

      pub take : Progress net port space rewrite keeps rest new (branches ++ branch ∷ [])
      take = record {
        rules = before.rules ++ r ∷ [];
        each = zip_push (IsBranch net port space rewrite) before.rules branches r branch before.each
            (record { number = number; width = width; headers = λ h. (of_branch h, to_branch h); rewrites = rewrites });
        kept = λ q c. kept_by q (Contains-push_cases before.rules r q c);
        some = λ q c. hit_by q (Contains-push_cases before.rules r q c);
        order = all_pairs_push (λ a b. precedes a b ≡ true) before.rules r before.order
            (λ k d l. before.earlier (get_or before.rules k d) r (Contains-get_or before.rules k d l) (zero, omega arith, refl));
        coming = coming_rest;
        earlier = λ q s c d. ahead q s d (Contains-push_cases before.rules r q c);
        inside = still_inside new new_headers;
        hits = still_hits new new_headers;
        taken = λ h e f. gone h e f (cases_Bool (left h));
      }
        where
          kept_by : (q : Numbered) → Contains before.rules q ⊎ (r ≡ q) → keeps q ≡ true
          kept_by q (inl c) = before.kept q c
          kept_by q (inr same) = subst (λ (x : Numbered). keeps x ≡ true) same keep

          hit_by : (q : Numbered) → Contains before.rules q ⊎ (r ≡ q) → (h : Header) × IsHit net port space rewrite q h
          hit_by q (inl c) = before.some q c
          hit_by q (inr same) = subst (λ (x : Numbered). (h : Header) × IsHit net port space rewrite x h) same (member.0, of_branch member.0 member.1)

          ahead : (q s : Numbered) → Contains rest s → Contains before.rules q ⊎ (r ≡ q) → precedes q s ≡ true
          ahead q s d (inl c) = before.earlier q s c (later s d)
          ahead q s d (inr same) = subst (λ (x : Numbered). precedes x s ≡ true) same (head_precedes s d)

          gone : (h : Header) → holds space h ≡ true → new h ≡ false → (left h ≡ true) ⊎ (left h ≡ false) → Taken net port rewrite keeps (before.rules ++ r ∷ []) rest h
          gone h e f (inl here) = record { by = r; hits = now_taken new new_headers h f here; tried = head_precedes; listed = λ k. Contains-push before.rules r }
          gone h e f (inr before_it) =
              let old = before.taken h e before_it in
              record { by = old.by; hits = old.hits; tried = λ s d. old.tried s (later s d); listed = λ k. Contains-append_left before.rules (r ∷ []) old.by (old.listed k) }

  pub end : (rest : List Numbered) (left : Header → Bool) (branches : List Branch) → Progress net port space rewrite keeps rest left branches
      → ((h : Header) → left h ≡ true → find (takes net port (g h)) rest ≡ None) → IsSplitOf keeps net port space rewrite branches
  end rest left branches after none = record {
    rules = after.rules;
    each = after.each;
    exact = λ r. (λ c. (after.kept r c, after.some r c), λ (keep, hit_one). contained r keep hit_one.0 hit_one.1 (cases_Bool (left hit_one.0)));
    order = after.order;
  }
    where
      contained : (r : Numbered) → keeps r ≡ true → (h : Header) → IsHit net port space rewrite r h → (left h ≡ true) ⊎ (left h ≡ false) → Contains after.rules r
      contained r keep h is (inl here) =
          let nothing : None ≡ Some r = sym (none h here) ∙ sym (after.hits h here) ∙ is.1 in absurd (cc)
      contained r keep h is (inr gone) =
          let t = after.taken h is.0 gone in
          let both : Some t.by ≡ Some r = sym t.hits ∙ is.1 in
          let same : t.by ≡ r = cc in
          subst (λ (x : Numbered). Contains after.rules x) same (t.listed (ap keeps same ∙ keep))

-- all rules are wanted
pub all_of_them : (net : Network) (port : ℕ) (space : SpaceValue) (rewrite : Rewrite) (branches : List Branch) → IsSplitOf (is_wanted true) net port space rewrite branches → IsSplit net port space rewrite branches
all_of_them net port space rewrite branches of = record {
  rules = of.rules;
  each = of.each;
  exact = λ r. (λ c. ((of.exact r).0 c).1, λ some. (of.exact r).1 (refl, some));
  order = of.order;
}

-- ---- a port of no box

nothing_hits : (net : Network) (port : ℕ) (header : Header) (rules : List Numbered) → value_at net.ports port ≡ None → find (is_first net port header) rules ≡ None
nothing_hits net port header [] none = refl
nothing_hits net port header (r ∷ rules) none =
    let rest = nothing_hits net port header rules none in
    let fails : is_at (value_at net.ports port) r.1.at ≡ false = ap (λ o. is_at o r.1.at) none in
    grind (arith, rest, fails)

pub nowhere : (net : Network) (port : ℕ) (space : SpaceValue) (rewrite : Rewrite) (keeps : Numbered → Bool) (branches : List Branch) → value_at net.ports port ≡ None → branches ≡ []
    → IsSplitOf keeps net port space rewrite branches
nowhere net port space rewrite keeps branches none empty = record {
  rules = [];
  each = subst (λ (bs : List Branch). AllZip (IsBranch net port space rewrite) [] bs) (sym empty) tt;
  exact = λ r. (
    λ (k, l, at). absurd (omega arith),
    λ (keep, (h, is)).
        let nothing : None ≡ Some r = sym (nothing_hits net port (rewritten rewrite h) net.rules none) ∙ is.1 in absurd (cc),
  );
  order = λ i j d l m. absurd (omega arith);
}

-- ---- the rules of the port's box

pub takes_at : (net : Network) (port at : ℕ) (header : Header) (r : Numbered) → value_at net.ports port ≡ Some at → r.1.at ≡ at
    → takes net port header r ≡ (port_fits r.1.inp port && matches r.1.pattern header)
takes_at net port at header r here same =
    let is : is_at (value_at net.ports port) r.1.at ≡ true = ap (λ o. is_at o r.1.at) here ∙ eq-eqb at r.1.at (sym same) in
    ap (λ b. b && (port_fits r.1.inp port && matches r.1.pattern header)) is

pub pairs_numbered : (rules : List Rule) → AllPairs (λ a b. precedes (numbered a) (numbered b) ≡ true) rules → AllPairs (λ a b. precedes a b ≡ true) (map numbered rules)
pairs_numbered [] order i j d l m = absurd (omega arith)
pairs_numbered (x ∷ xs) order i j d l m =
    let inside : j < length (x ∷ xs) = omega (arith, length-map (x ∷ xs) numbered) in
    rw (get_or-map numbered (x ∷ xs) i x d (omega arith), get_or-map numbered (x ∷ xs) j x d inside) (order i j x l inside)

-- the rule at a place, and those after it
pub at_place : (rules : List Rule) (i : ℕ) (own : Rule) → i < length rules → own ≡ get_or rules i own → drop i (map numbered rules) ≡ numbered own ∷ drop (suc i) (map numbered rules)
at_place [] i own inside at = absurd (omega arith)
at_place (x ∷ xs) zero own inside at = ap (λ (q : Rule). numbered q ∷ map numbered xs) (sym at)
at_place (x ∷ xs) (suc i) own inside at = at_place xs i own (omega arith) at

pub contains_place : (rules : List Rule) (i : ℕ) (own : Rule) → i < length rules → own ≡ get_or rules i own → Contains (map numbered rules) (numbered own)
contains_place [] i own inside at = absurd (omega arith)
contains_place (x ∷ xs) zero own inside at = (zero, omega arith, ap numbered (sym at))
contains_place (x ∷ xs) (suc i) own inside at =
    let (k, l, e) = contains_place xs i own (omega arith) at in (suc k, omega arith, e)

pub past_all : (rules : List Rule) (i : ℕ) (p : Numbered → Bool) → length rules ≤ i → find p (drop i (map numbered rules)) ≡ None
past_all [] zero p all = refl
past_all [] (suc i) p all = refl
past_all (x ∷ xs) zero p all = absurd (omega arith)
past_all (x ∷ xs) (suc i) p all = past_all xs i p (omega arith)

-- ---- a step of the loop over them

one_less : (s a m t : Bool) → (s ≡ true → m ≡ t) → (s && not (a || (m || false))) ≡ ((s && not a) && not t)
one_less true true m t same = refl
one_less true false true t same = ap not (same refl)
one_less true false false t same = ap not (same refl)
one_less false a m t same = refl

pub nothing_taken : (space : SpaceValue) (earlier : List Pattern) → earlier ≡ [] → (h : Header) → is_left space earlier h ≡ holds space h
nothing_taken space earlier none h = ap (λ (ps : List Pattern). holds space h && not (any_matches ps h)) none ∙ and_true (holds space h)
  where
    and_true : (b : Bool) → (b && true) ≡ b
    and_true true = refl
    and_true false = refl

-- where a rule takes no header of the set, it takes none that is left
pub none_left : (space : SpaceValue) (earlier : List Pattern) (takes_it : Header → Bool) → ((h : Header) → IsTrue (holds space h) → takes_it h ≡ false)
    → (h : Header) → (is_left space earlier h && takes_it h) ≡ false
none_left space earlier takes_it none h = cases (holds space h) refl
  where
    and_false : (b : Bool) → (b && false) ≡ false
    and_false true = refl
    and_false false = refl

    cases : (b : Bool) → holds space h ≡ b → (is_left space earlier h && takes_it h) ≡ false
    cases true held = ap (λ t. is_left space earlier h && t) (none h held) ∙ and_false (is_left space earlier h)
    cases false outside = ap (λ b. (b && not (any_matches earlier h)) && takes_it h) outside

module _ (net : Network) (port : ℕ) (space : SpaceValue) (rewrite : Rewrite) (keeps : Numbered → Bool) (at : ℕ) (rules : List Rule) (i : ℕ) (own : Rule) (earlier : List Pattern) (branches : List Branch)
    (here : value_at net.ports port ≡ Some at) (same : own.«at» ≡ at) (inside : i < length rules) (place : own ≡ get_or rules i own)
    (before : Progress net port space rewrite keeps (drop i (map numbered rules)) (is_left space earlier) branches) where
  opened : Progress net port space rewrite keeps (numbered own ∷ drop (suc i) (map numbered rules)) (is_left space earlier) branches
  opened = subst (λ (rs : List Numbered). Progress net port space rewrite keeps rs (is_left space earlier) branches) (at_place rules i own inside place) before

  next : suc i ≡ i + 1
  next = omega arith

  takes_it : (h : Header) → takes net port (rewritten rewrite h) (numbered own) ≡ takes_sent port rewrite own h
  takes_it h = takes_at net port at (rewritten rewrite h) (numbered own) here same

  pub step_skipped : ((h : Header) → (is_left space earlier h && takes_sent port rewrite own h) ≡ false) → Progress net port space rewrite keeps (drop (i + 1) (map numbered rules)) (is_left space earlier) branches
  step_skipped none =
      subst (λ n. Progress net port space rewrite keeps (drop n (map numbered rules)) (is_left space earlier) branches) next
      (skip net port space rewrite keeps (numbered own) (drop (suc i) (map numbered rules)) (is_left space earlier) branches opened (λ h. ap (λ b. is_left space earlier h && b) (takes_it h) ∙ none h))

  -- what the headers that are left become where a rule takes those of a pattern
  fewer : (sources : Pattern) → ((h : Header) → IsTrue (holds space h) → matches sources h ≡ takes_sent port rewrite own h)
      → (h : Header) → is_left space (earlier ++ sources ∷ []) h ≡ (is_left space earlier h && not (takes net port (rewritten rewrite h) (numbered own)))
  fewer sources takes_so h =
      ap (λ b. holds space h && not b) (list_any-append (λ p. matches p h) earlier (sources ∷ []))
      ∙ one_less (holds space h) (any_matches earlier h) (matches sources h) (takes net port (rewritten rewrite h) (numbered own)) (λ held. takes_so h held ∙ sym (takes_it h))

  pub step_passed : (sources : Pattern) → ((h : Header) → IsTrue (holds space h) → matches sources h ≡ takes_sent port rewrite own h) → keeps (numbered own) ≡ false
      → Progress net port space rewrite keeps (drop (i + 1) (map numbered rules)) (is_left space (earlier ++ sources ∷ [])) branches
  step_passed sources takes_so unkept =
      subst (λ n. Progress net port space rewrite keeps (drop n (map numbered rules)) (is_left space (earlier ++ sources ∷ [])) branches) next
      (pass net port space rewrite keeps (numbered own) (drop (suc i) (map numbered rules)) (is_left space earlier) branches opened (is_left space (earlier ++ sources ∷ []))
      (fewer sources takes_so) unkept)

  pub step_taken : (branch : Branch) (sources : Pattern) → space.width ≡ net.width → IsTaken port rewrite own space earlier branch sources → keeps (numbered own) ≡ true
      → Progress net port space rewrite keeps (drop (i + 1) (map numbered rules)) (is_left space (earlier ++ sources ∷ [])) (branches ++ branch ∷ [])
  step_taken branch sources width is keep =
      subst (λ n. Progress net port space rewrite keeps (drop n (map numbered rules)) (is_left space (earlier ++ sources ∷ [])) (branches ++ branch ∷ [])) next
      (take net port space rewrite keeps (numbered own) (drop (suc i) (map numbered rules)) (is_left space earlier) branches opened branch (is_left space (earlier ++ sources ∷ []))
      is.number (is.width ∙ width) is.rewrites
      (λ h. is.headers h ∙ ap (λ b. is_left space earlier h && b) (sym (takes_it h)))
      (fewer sources is.takes)
      is.some keep)
