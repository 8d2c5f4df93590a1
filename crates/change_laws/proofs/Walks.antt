-- Walks go alike in two networks that act alike at the boxes where they stand.
use Rattle.std.specs.Prelude.{◌≡◌, ◌<◌, ℕ, zero, suc, true, [], ◌∷◌, Option, Some, None, IsSome}
use Rattle.std.proofs.Common.{refl, ap, ◌∙◌, subst, arith}
use Rattle.std.proofs.lemmas.Bool.Decides.{nat_tests}
use Rattle.std.proofs.lemmas.List.Elements.{All-contains}
use Rattle.network_model.specs.Bits.{Header}
use Rattle.network_model.specs.Rewrites.{rewritten}
use Rattle.network_model.specs.Network.{value_at, Network, Numbered, Action, Drop, Out, Terminal, takes, is_first, hit}
use Rattle.network_model.specs.Walk.{receiver_at, behind, walk, step, act, leave, after_rule, Next, Term, Far, Nothing, next, Stand, stand, step_stand, act_stand, enter, after_rule_stand}
use Rattle.network_model.specs.WellFormed.{FitsOut, FitsRule, IsWellFormed}
use Rattle.model_laws.proofs.RulesByNumber.{hit_contained}
use Rattle.net_types.proofs.Finds.{Nowhere, First, found}
use Rattle.net_types.proofs.Precedence.{first_takes}
use Rattle.model_laws.proofs.WalkStands.{stands_on}
use Rattle.change_laws.proofs.Alike.{ActAlike}

-- a rule that hits at a port of a box is one of that box
hits_at : (net : Network) (port : ℕ) (header : Header) (r : Numbered) (box : ℕ) → value_at net.ports port ≡ Some box → hit net port header ≡ Some r
    → r.1.at ≡ box
hits_at net port header r box inside is =
    elim (found (is_first net port header) net.rules) [
      | Nowhere none fail ↦ cc
      | First i x some there at passes fail ↦
          let same : x ≡ r = cc in
          let taken : takes net port header r ≡ true = first_takes net port header r (subst (λ y. is_first net port header y ≡ true) same passes) in
          let own = (rw inside at taken) in
          grind (arith, nat_tests, own)
    ]

-- so it sends on from a port of the box
sends_from : (net : Network) → IsWellFormed net → (port : ℕ) (header : Header) (r : Numbered) (box : ℕ) → value_at net.ports port ≡ Some box
    → hit net port header ≡ Some r → FitsOut net box r.1.action
sends_from net fits port header r box inside is =
    let fit = All-contains (λ (s : Numbered). FitsRule net s.1) net.rules r fits.ruled (hit_contained net port header r is) in
    subst (λ b. FitsOut net b r.1.action) (hits_at net port header r box inside is) fit.out

-- behind a port lies nothing but a port
port_behind : (net : Network) → IsWellFormed net → (port far : ℕ) → next net port ≡ Far far → IsSome (value_at net.ports far)
port_behind net fits port far leads = by_receiver (receiver_at net port) (value_at net.links port) refl leads
  where
    by_receiver : (o : Option (ℕ × Terminal)) (l : Option ℕ) → value_at net.links port ≡ l → behind o l ≡ Far far → IsSome (value_at net.ports far)
    by_receiver (Some t) l is e = cc
    by_receiver None (Some other) is e =
        let same : other ≡ far = cc in
        let there = fits.joined port far (is ∙ ap (λ p. Some p) same) in
        (fits.joined far port there.back).port
    by_receiver None None is e = cc

-- the networks act alike wherever the header stands within so many rules
abbrev pub Alike : Network → Network → ℕ → ℕ → Header → Type 0
Alike a b hops port header =
    (count : ℕ) (place : Stand) (box : ℕ) → count < hops → stand a count port header ≡ Some place → value_at a.ports place.port ≡ Some box → ActAlike a b box

-- a header that was sent on to this port
record IsSent (net : Network) (port : ℕ) (header : Header) (rule far : ℕ) (after : Header) : Type 0 where
  stands : (count : ℕ) → stand net (suc count) port header ≡ after_rule_stand rule (stand net count far after)

alike_behind : (a b : Network) (hops port : ℕ) (header : Header) (rule far : ℕ) (after : Header) → IsSent a port header rule far after
    → Alike a b (suc hops) port header → Alike a b hops far after
alike_behind a b hops port header rule far after sent alike count place box below stands inside =
    alike (suc count) (record { rules = rule ∷ place.rules; port = place.port; header = place.header }) box (omega (arith, below))
    (sent.stands count ∙ ap (λ o. after_rule_stand rule o) stands) inside

abbrev WalksLater : Network → Network → ℕ → Type 0
WalksLater a b hops =
    (far : ℕ) (after : Header) → IsSome (value_at a.ports far) → Alike a b hops far after → walk a hops far after ≡ walk b hops far after

abbrev StandsLater : Network → Network → ℕ → ℕ → Type 0
StandsLater a b hops count =
    (far : ℕ) (after : Header) → IsSome (value_at a.ports far) → Alike a b hops far after → stand a count far after ≡ stand b count far after

-- walks
pub same_walk : (a b : Network) → IsWellFormed a → (hops port : ℕ) (header : Header) → IsSome (value_at a.ports port)
    → Alike a b hops port header → walk a hops port header ≡ walk b hops port header
same_walk a b fits zero port header there alike = refl
same_walk a b fits (suc hops) port header there alike =
    by_box (value_at a.ports port) refl there (λ far after inside later. same_walk a b fits hops far after inside later)
  where
    by_next : WalksLater a b hops → (r : Numbered) (out : ℕ) (after : Header) → ((far : ℕ) → next a out ≡ Far far → IsSent a port header r.0 far after)
        → (n : Next) → next a out ≡ n → leave (walk a hops) out after n ≡ leave (walk b hops) out after n
    by_next go_on r out after sent (Term t) leads = refl
    by_next go_on r out after sent (Far far) leads =
        go_on far after (port_behind a fits out far leads) (alike_behind a b hops port header r.0 far after (sent far leads) alike)
    by_next go_on r out after sent Nothing leads = refl

    by_action : WalksLater a b hops → (box : ℕ) → ActAlike a b box → (r : Numbered) → hit a port header ≡ Some r → (action : Action) → r.1.action ≡ action
        → FitsOut a box action → act a (walk a hops) header r.0 action ≡ act b (walk b hops) header r.0 action
    by_action go_on box here r is Drop acts fit = refl
    by_action go_on box here r is (Out out rewrite) acts fit =
        ap (λ w. after_rule r.0 w)
        (by_next go_on r out (rewritten rewrite header)
        (λ far leads. record {
          stands = λ count.
              ap (λ o. step_stand a (stand a count) header o) is ∙ ap (λ x. act_stand a (stand a count) header r.0 x) acts
              ∙ ap (λ n. after_rule_stand r.0 (enter (stand a count) (rewritten rewrite header) n)) leads;
        })
        (next a out) refl
        ∙ ap (λ n. leave (walk b hops) out (rewritten rewrite header) n) (here.behind out fit.0))

    by_hit : WalksLater a b hops → (box : ℕ) → value_at a.ports port ≡ Some box → ActAlike a b box → (o : Option Numbered) → hit a port header ≡ o
        → step a (walk a hops) header o ≡ step b (walk b hops) header o
    by_hit go_on box inside here None is = refl
    by_hit go_on box inside here (Some r) is =
        by_action go_on box here r is r.1.action refl (sends_from a fits port header r box inside is)

    by_box : (o : Option ℕ) → value_at a.ports port ≡ o → IsSome o → WalksLater a b hops → walk a (suc hops) port header ≡ walk b (suc hops) port header
    by_box None inside some go_on = cc
    by_box (Some box) inside some go_on =
        let here = alike 0 (record { rules = []; port = port; header = header }) box (omega arith) refl inside in
        by_hit go_on box inside here (hit a port header) refl ∙ ap (λ o. step b (walk b hops) header o) (here.hits port header inside)

-- and places
pub same_stand : (a b : Network) → IsWellFormed a → (hops count port : ℕ) (header : Header) → count < hops → IsSome (value_at a.ports port)
    → Alike a b hops port header → stand a count port header ≡ stand b count port header
same_stand a b fits hops zero port header few there alike = refl
same_stand a b fits zero (suc count) port header few there alike = absurd (omega (arith, few))
same_stand a b fits (suc hops) (suc count) port header few there alike =
    by_box (value_at a.ports port) refl there (λ far after inside later. same_stand a b fits hops count far after (omega (arith, few)) inside later)
  where
    by_next : StandsLater a b hops count → (r : Numbered) (out : ℕ) (after : Header) → ((far : ℕ) → next a out ≡ Far far → IsSent a port header r.0 far after)
        → (n : Next) → next a out ≡ n → enter (stand a count) after n ≡ enter (stand b count) after n
    by_next go_on r out after sent (Term t) leads = refl
    by_next go_on r out after sent (Far far) leads =
        go_on far after (port_behind a fits out far leads) (alike_behind a b hops port header r.0 far after (sent far leads) alike)
    by_next go_on r out after sent Nothing leads = refl

    by_action : StandsLater a b hops count → (box : ℕ) → ActAlike a b box → (r : Numbered) → hit a port header ≡ Some r → (action : Action) → r.1.action ≡ action
        → FitsOut a box action → act_stand a (stand a count) header r.0 action ≡ act_stand b (stand b count) header r.0 action
    by_action go_on box here r is Drop acts fit = refl
    by_action go_on box here r is (Out out rewrite) acts fit =
        ap (λ o. after_rule_stand r.0 o)
        (by_next go_on r out (rewritten rewrite header)
        (λ far leads. record {
          stands = λ n.
              ap (λ o. step_stand a (stand a n) header o) is ∙ ap (λ x. act_stand a (stand a n) header r.0 x) acts
              ∙ ap (λ m. after_rule_stand r.0 (enter (stand a n) (rewritten rewrite header) m)) leads;
        })
        (next a out) refl
        ∙ ap (λ n. enter (stand b count) (rewritten rewrite header) n) (here.behind out fit.0))

    by_hit : StandsLater a b hops count → (box : ℕ) → value_at a.ports port ≡ Some box → ActAlike a b box → (o : Option Numbered) → hit a port header ≡ o
        → step_stand a (stand a count) header o ≡ step_stand b (stand b count) header o
    by_hit go_on box inside here None is = refl
    by_hit go_on box inside here (Some r) is =
        by_action go_on box here r is r.1.action refl (sends_from a fits port header r box inside is)

    by_box : (o : Option ℕ) → value_at a.ports port ≡ o → IsSome o → StandsLater a b hops count → stand a (suc count) port header ≡ stand b (suc count) port header
    by_box None inside some go_on = cc
    by_box (Some box) inside some go_on =
        let here = alike 0 (record { rules = []; port = port; header = header }) box (omega arith) refl inside in
        by_hit go_on box inside here (hit a port header) refl ∙ ap (λ o. step_stand b (stand b count) header o) (here.hits port header inside)

-- a header that stands somewhere stands at a port
pub stands_inside : (net : Network) → IsWellFormed net → (count port : ℕ) (header : Header) (place : Stand) → IsSome (value_at net.ports port)
    → stand net count port header ≡ Some place → IsSome (value_at net.ports place.port)
stands_inside net fits zero port header place there stands =
    let at : port ≡ place.port = ap (λ (o : Option Stand). at_or port o) stands in
    subst (λ p. IsSome (value_at net.ports p)) at there
  where
    at_or : ℕ → Option Stand → ℕ
    at_or p None = p
    at_or p (Some s) = s.port
stands_inside net fits (suc count) port header place there stands =
    let on = stands_on net count port header place stands in
    subst (λ p. IsSome (value_at net.ports p)) on.port_there
    (stands_inside net fits count on.far on.after on.later (port_behind net fits on.out on.far on.leads) on.there)
