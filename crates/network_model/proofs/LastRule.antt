-- The last rule of a walk that is delivered fixes the terminal.
use Rattle.std.proofs.Common.{◌≡◌, ℕ, zero, suc, ◌<◌, Bool, true, false, cond, List, [], ◌∷◌, length, map, Option, Some, None, refl, sym, ap, ◌∙◌, inl, inr, ◌⊎◌, arith, get_or}
use Rattle.std.specs.List.{Contains, find}
use Rattle.std.proofs.lemmas.Bool.{cases_order}
use Rattle.std.proofs.lemmas.List.{get_or-map, get_or_default, length-map}
use Rattle.std.proofs.lemmas.List.Kept.{AllPairs-from_increasing}
use Rattle.network_model.specs.Bits.{Header}
use Rattle.network_model.specs.Rewrites.{Rewrite, rewritten}
use Rattle.network_model.specs.Network.{Network, Numbered, Action, Drop, Out, is_first, hit}
use Rattle.network_model.specs.Walk.{Next, Term, Far, Nothing, next, Delivered, Walk, walk, step, act, leave}
use Rattle.network_model.specs.WellFormed.{Rises, IsWellFormed}

-- what is found in a list stands there
pub find-contained : {A : Type 0} (p : A → Bool) (xs : List A) (x : A) → find p xs ≡ Some x → Contains xs x
find-contained p [] x h = cc
find-contained {A} p (y ∷ ys) x h = by_test (find-contained p ys x) (p y) h
  where
    by_test : (find p ys ≡ Some x → Contains ys x) → (b : Bool) → cond b (Some y) (find p ys) ≡ Some x → Contains (y ∷ ys) x
    by_test go_on true e = (0, omega arith, cc)
    by_test go_on false e = let later = go_on e in (suc later.0, omega arith, later.2)

-- the last of some numbers, or another where there is none
abbrev last_or : ℕ → List ℕ → ℕ
last_or d [] = d
last_or d (x ∷ xs) = last_or x xs

record EndsWith (net : Network) (rules : List ℕ) (to : ℕ) : Type 0 where
  rule : Numbered
  port : ℕ
  rewrite : Rewrite
  there : Contains net.rules rule
  last : (d : ℕ) → last_or d rules ≡ rule.0
  sends : rule.1.action ≡ Out port rewrite
  reaches : next net port ≡ Term to

-- the rule that leads to the terminal, where only the steps after the first are known
after_next : (net : Network) (go_on : ℕ → Header → Walk) (to : ℕ) (a : Header)
    → ((port : ℕ) (header : Header) → (go_on port header).end ≡ Delivered to a → EndsWith net (go_on port header).rules to) → (r : Numbered)
    → Contains net.rules r → (port : ℕ) (rewrite : Rewrite) (h : Header) → r.1.action ≡ Out port rewrite → (n : Next) → next net port ≡ n
    → (leave go_on port h n).end ≡ Delivered to a → EndsWith net (r.0 ∷ (leave go_on port h n).rules) to
after_next net go_on to a ih r there port rewrite h is (Term t) at e =
    record { rule = r; port = port; rewrite = rewrite; there = there; last = λ d. refl; sends = is; reaches = cc }
after_next net go_on to a ih r there port rewrite h is (Far far) at e =
    let rest = ih far h e in
    record {
      rule = rest.rule;
      port = rest.port;
      rewrite = rest.rewrite;
      there = rest.there;
      last = λ d. rest.last r.0;
      sends = rest.sends;
      reaches = rest.reaches;
    }
after_next net go_on to a ih r there port rewrite h is Nothing at e = cc

after_action : (net : Network) (go_on : ℕ → Header → Walk) (to : ℕ) (a : Header)
    → ((port : ℕ) (header : Header) → (go_on port header).end ≡ Delivered to a → EndsWith net (go_on port header).rules to) → (r : Numbered)
    → Contains net.rules r → (h : Header) (action : Action) → r.1.action ≡ action → (act net go_on h r.0 action).end ≡ Delivered to a
    → EndsWith net (act net go_on h r.0 action).rules to
after_action net go_on to a ih r there h Drop is e = cc
after_action net go_on to a ih r there h (Out port rewrite) is e =
    after_next net go_on to a ih r there port rewrite (rewritten rewrite h) is (next net port) refl e

after_hit : (net : Network) (go_on : ℕ → Header → Walk) (to : ℕ) (a : Header)
    → ((port : ℕ) (header : Header) → (go_on port header).end ≡ Delivered to a → EndsWith net (go_on port header).rules to)
    → (port : ℕ) (h : Header) (o : Option Numbered) → hit net port h ≡ o → (step net go_on h o).end ≡ Delivered to a
    → EndsWith net (step net go_on h o).rules to
after_hit net go_on to a ih port h None is e = cc
after_hit net go_on to a ih port h (Some r) is e =
    after_action net go_on to a ih r (find-contained (is_first net port h) net.rules r is) h r.1.action refl e

ends_with : (net : Network) (hops port : ℕ) (h a : Header) (to : ℕ) → (walk net hops port h).end ≡ Delivered to a
    → EndsWith net (walk net hops port h).rules to
ends_with net zero port h a to e = cc
ends_with net (suc k) port h a to e = after_hit net (walk net k) to a (λ p g. ends_with net k p g a to) port h (hit net port h) refl e

-- things with one number are one, where the numbers rise
pub rises_exact : {A : Type 0} (list : List (ℕ × A)) → Rises list → (x y : ℕ × A) → Contains list x → Contains list y → x.0 ≡ y.0 → x ≡ y
rises_exact {A} list rises x y in_x in_y same =
    let i = in_x.0 in
    let j = in_y.0 in
    let below : (k l : ℕ) → k < l → l < length list → (get_or list k x).0 < (get_or list l x).0 = λ k l h w.
    let n : length (map (λ (e : ℕ × A). e.0) list) ≡ length list = length-map list (λ (e : ℕ × A). e.0) in
    let p = AllPairs-from_increasing (map (λ (e : ℕ × A). e.0) list) rises k l 0 h (omega arith) in
    let a = get_or-map (λ (e : ℕ × A). e.0) list k x 0 (omega arith) in
    let b = get_or-map (λ (e : ℕ × A). e.0) list l x 0 w in
    omega arith in
    let at_x : get_or list i x ≡ x = in_x.2 in
    let at_y : get_or list j x ≡ y = get_or_default list j x y in_y.1 ∙ in_y.2 in
    let nx : (get_or list i x).0 ≡ x.0 = ap (λ (e : ℕ × A). e.0) at_x in
    let ny : (get_or list j x).0 ≡ y.0 = ap (λ (e : ℕ × A). e.0) at_y in
    by_order i j at_x at_y nx ny in_x.1 in_y.1 below (cases_order i j)
  where
    by_order : (i j : ℕ) → get_or list i x ≡ x → get_or list j x ≡ y → (get_or list i x).0 ≡ x.0 → (get_or list j x).0 ≡ y.0 → i < length list
        → j < length list → ((k l : ℕ) → k < l → l < length list → (get_or list k x).0 < (get_or list l x).0) → (i ≡ j) ⊎ ((i < j) ⊎ (j < i))
        → x ≡ y
    by_order i j at_x at_y nx ny wi wj below (inl e) = sym at_x ∙ (ap (λ k. get_or list k x) e ∙ at_y)
    by_order i j at_x at_y nx ny wi wj below (inr (inl h)) = let p = below i j h wj in absurd (omega arith)
    by_order i j at_x at_y nx ny wi wj below (inr (inr h)) = let p = below j i h wi in absurd (omega arith)

-- walks with one list of rules end at one terminal
pub same_rules_same_terminal : (net : Network) → IsWellFormed net → (hops p q : ℕ) (g h a b : Header) (to other : ℕ)
    → (walk net hops p g).end ≡ Delivered to a → (walk net hops q h).end ≡ Delivered other b → (walk net hops p g).rules ≡ (walk net hops q h).rules
    → to ≡ other
same_rules_same_terminal net fits hops p q g h a b to other d e same =
    let x = ends_with net hops p g a to d in
    let y = ends_with net hops q h b other e in
    let number : x.rule.0 ≡ y.rule.0 = sym (x.last 0) ∙ (ap (λ l. last_or 0 l) same ∙ y.last 0) in
    let rule : x.rule ≡ y.rule = rises_exact net.rules fits.rules x.rule y.rule x.there y.there number in
    let action : Out x.port x.rewrite ≡ Out y.port y.rewrite = sym x.sends ∙ (ap (λ (r : Numbered). r.1.action) rule ∙ y.sends) in
    let port : x.port ≡ y.port = cc in
    let reached : Term to ≡ Term other = sym x.reaches ∙ (ap (λ n. next net n) port ∙ y.reaches) in
    cc
