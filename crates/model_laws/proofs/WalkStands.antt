-- Where walks stand: the first rules of a walk lead to a place, and the walk goes on from there.
use Rattle.std.specs.Prelude.{◌≡◌, ℕ, zero, suc, ◌+◌, ◌≤◌, List, [], ◌∷◌, ◌++◌, length, Option, Some, None, IsTrue}
use Rattle.std.proofs.Common.{refl, sym, ap, ◌∙◌, arith, append_assoc, length-append}
use Rattle.network_model.specs.Bits.{Header}
use Rattle.network_model.specs.Rewrites.{Rewrite, rewritten}
use Rattle.network_model.specs.Network.{value_at, Network, Numbered, Action, Drop, Out, Terminal, hit}
use Rattle.network_model.specs.Walk.{Walk, walk, step, act, leave, after_rule, Next, Term, Far, Nothing, next, Stand, stand, step_stand, act_stand, enter, after_rule_stand}
use Rattle.network_model.specs.Classes.{permits, walk_at, walk_from, Member}
use Rattle.network_model.specs.Prefixes.{stand_at, stand_from, IsPrefix, Stands}

-- ---- one rule

-- a rule takes the header at the port, and it leaves by the other port
pub record Sends (net : Network) (port : ℕ) (header : Header) (rule : Numbered) (out : ℕ) (after : Header) : Type 0 where
  pub hits : hit net port header ≡ Some rule
  pub rewrite : Rewrite
  pub action : rule.1.action ≡ Out out rewrite
  pub becomes : rewritten rewrite header ≡ after

-- a walk that is sent on goes on behind the port
pub walk_sent : (net : Network) (left port : ℕ) (header : Header) (rule : Numbered) (out : ℕ) (after : Header) → Sends net port header rule out after
    → walk net (suc left) port header ≡ after_rule rule.0 (leave (walk net left) out after (next net out))
walk_sent net left port header rule out after s =
    ap (λ o. step net (walk net left) header o) s.hits
    ∙ ap (λ a. act net (walk net left) header rule.0 a) s.action
    ∙ ap (λ h. after_rule rule.0 (leave (walk net left) out h (next net out))) s.becomes

-- so does its place
pub stand_sent : (net : Network) (count port : ℕ) (header : Header) (rule : Numbered) (out : ℕ) (after : Header) → Sends net port header rule out after
    → stand net (suc count) port header ≡ after_rule_stand rule.0 (enter (stand net count) after (next net out))
stand_sent net count port header rule out after s =
    ap (λ o. step_stand net (stand net count) header o) s.hits
    ∙ ap (λ a. act_stand net (stand net count) header rule.0 a) s.action
    ∙ ap (λ h. after_rule_stand rule.0 (enter (stand net count) h (next net out))) s.becomes

-- the place where a header stands that met these rules
abbrev pub place_at : List ℕ → ℕ → Header → Stand
place_at rules port header = record { rules = rules; port = port; header = header }

-- over a link both go on at its other end
walk_over : (net : Network) (left port : ℕ) (header : Header) (rule : Numbered) (out : ℕ) (after : Header) (far : ℕ)
    → Sends net port header rule out after → next net out ≡ Far far → walk net (suc left) port header ≡ after_rule rule.0 (walk net left far after)
walk_over net left port header rule out after far s leads =
    walk_sent net left port header rule out after s ∙ ap (λ n. after_rule rule.0 (leave (walk net left) out after n)) leads

stand_over : (net : Network) (count port : ℕ) (header : Header) (rule : Numbered) (out : ℕ) (after : Header) (far : ℕ) (number : ℕ) (rules : List ℕ)
    (at : ℕ) (here : Header) → Sends net port header rule out after → next net out ≡ Far far → rule.0 ≡ number
    → stand net count far after ≡ Some (place_at rules at here) → stand net (suc count) port header ≡ Some (place_at (number ∷ rules) at here)
stand_over net count port header rule out after far number rules at here s leads same there =
    stand_sent net count port header rule out after s
    ∙ ap (λ n. after_rule_stand rule.0 (enter (stand net count) after n)) leads
    ∙ ap (λ o. after_rule_stand rule.0 o) there ∙ ap (λ n. Some (place_at (n ∷ rules) at here)) same

-- a walk that meets a rule was sent on by it
pub record WalksOn (net : Network) (left port : ℕ) (header : Header) (rule : ℕ) (more : List ℕ) : Type 0 where
  pub one : Numbered
  pub out : ℕ
  pub after : Header
  pub sends : Sends net port header one out after
  pub number : one.0 ≡ rule
  pub rest : (leave (walk net left) out after (next net out)).rules ≡ more

pub walks_on : (net : Network) (left port : ℕ) (header : Header) (rule : ℕ) (more : List ℕ)
    → (walk net (suc left) port header).rules ≡ rule ∷ more → WalksOn net left port header rule more
walks_on net left port header rule more e = by_hit (hit net port header) refl e
  where
    by_action : (r : Numbered) → hit net port header ≡ Some r → (a : Action) → r.1.action ≡ a
        → (act net (walk net left) header r.0 a).rules ≡ rule ∷ more → WalksOn net left port header rule more
    by_action r is Drop acts e = cc
    by_action r is (Out out rewrite) acts e = record {
      one = r;
      out = out;
      after = rewritten rewrite header;
      sends = record { hits = is; rewrite = rewrite; action = acts; becomes = refl };
      number = cc;
      rest = cc;
    }

    by_hit : (o : Option Numbered) → hit net port header ≡ o → (step net (walk net left) header o).rules ≡ rule ∷ more
        → WalksOn net left port header rule more
    by_hit None is e = cc
    by_hit (Some r) is e = by_action r is r.1.action refl e

same_place : (s : Stand) (rules : List ℕ) (port : ℕ) (header : Header) → s.rules ≡ rules → s.port ≡ port → s.header ≡ header
    → s ≡ place_at rules port header
same_place s rules port header a b c = λ i. place_at (a i) (b i) (c i)

-- a walk that stands further on was sent on over a link
pub record StandsOn (net : Network) (count port : ℕ) (header : Header) (place : Stand) : Type 0 where
  pub one : Numbered
  pub out : ℕ
  pub after : Header
  pub far : ℕ
  pub sends : Sends net port header one out after
  pub leads : next net out ≡ Far far
  pub later : Stand
  pub there : stand net count far after ≡ Some later
  pub rules : one.0 ∷ later.rules ≡ place.rules
  pub port_there : later.port ≡ place.port
  pub header_there : later.header ≡ place.header

pub stands_on : (net : Network) (count port : ℕ) (header : Header) (place : Stand) → stand net (suc count) port header ≡ Some place
    → StandsOn net count port header place
stands_on net count port header place e = by_hit (hit net port header) refl e
  where
    by_place : (r : Numbered) (out : ℕ) (after : Header) → Sends net port header r out after → (far : ℕ) → next net out ≡ Far far
        → (s : Option Stand) → stand net count far after ≡ s → after_rule_stand r.0 s ≡ Some place → StandsOn net count port header place
    by_place r out after sends far leads None at e = cc
    by_place r out after sends far leads (Some s) at e =
        let same : place_at (r.0 ∷ s.rules) s.port s.header ≡ place = cc in
        record {
          one = r;
          out = out;
          after = after;
          far = far;
          sends = sends;
          leads = leads;
          later = s;
          there = at;
          rules = ap (λ (p : Stand). p.rules) same;
          port_there = ap (λ (p : Stand). p.port) same;
          header_there = ap (λ (p : Stand). p.header) same;
        }

    by_next : (r : Numbered) (out : ℕ) (after : Header) → Sends net port header r out after → (n : Next) → next net out ≡ n
        → after_rule_stand r.0 (enter (stand net count) after n) ≡ Some place → StandsOn net count port header place
    by_next r out after sends (Term t) leads e = cc
    by_next r out after sends (Far far) leads e = by_place r out after sends far leads (stand net count far after) refl e
    by_next r out after sends Nothing leads e = cc

    by_action : (r : Numbered) → hit net port header ≡ Some r → (a : Action) → r.1.action ≡ a
        → act_stand net (stand net count) header r.0 a ≡ Some place → StandsOn net count port header place
    by_action r is Drop acts e = cc
    by_action r is (Out out rewrite) acts e =
        by_next r out (rewritten rewrite header) (record { hits = is; rewrite = rewrite; action = acts; becomes = refl }) (next net out) refl e

    by_hit : (o : Option Numbered) → hit net port header ≡ o → step_stand net (stand net count) header o ≡ Some place
        → StandsOn net count port header place
    by_hit None is e = cc
    by_hit (Some r) is e = by_action r is r.1.action refl e

-- ---- some rules, from a port

-- no rules are not some
not_some : (rules : List ℕ) (rule : ℕ) (more : List ℕ) → [] ≡ rules ++ rule ∷ more → ⊥
not_some [] rule more e = cc
not_some (r ∷ rules) rule more e = cc

-- a walk that meets a further rule stands before it
record IsBefore (net : Network) (hops port : ℕ) (header : Header) (rules : List ℕ) (rule : ℕ) (more : List ℕ) : Type 0 where
  at : ℕ
  here : Header
  stands : stand net (length rules) port header ≡ Some (place_at rules at here)
  left : ℕ
  rest : (walk net (suc left) at here).rules ≡ rule ∷ more
  end : (walk net hops port header).end ≡ (walk net (suc left) at here).end

is_before : (net : Network) (rules : List ℕ) (hops port : ℕ) (header : Header) (rule : ℕ) (more : List ℕ)
    → (walk net hops port header).rules ≡ rules ++ rule ∷ more → IsBefore net hops port header rules rule more
is_before net [] zero port header rule more e = cc
is_before net [] (suc left) port header rule more e =
    record { at = port; here = header; stands = refl; left = left; rest = e; end = refl }
is_before net (r ∷ rules) zero port header rule more e = cc
is_before net (r ∷ rules) (suc hops) port header rule more e =
    by_next (λ far g w. is_before net rules hops far g rule more w) (walks_on net hops port header r (rules ++ rule ∷ more) e)
  where
    behind : (w : WalksOn net hops port header r (rules ++ rule ∷ more)) → (n : Next) → next net w.out ≡ n
        → ((far : ℕ) (g : Header) → (walk net hops far g).rules ≡ rules ++ rule ∷ more → IsBefore net hops far g rules rule more)
        → (leave (walk net hops) w.out w.after n).rules ≡ rules ++ rule ∷ more → IsBefore net (suc hops) port header (r ∷ rules) rule more
    behind w (Term t) leads go_on e = absurd (not_some rules rule more e)
    behind w (Far far) leads go_on e =
        let later = go_on far w.after e in
        let walked = walk_over net hops port header w.one w.out w.after far w.sends leads in
        record {
          at = later.at;
          here = later.here;
          stands = stand_over net (length rules) port header w.one w.out w.after far r rules later.at later.here w.sends leads w.number later.stands;
          left = later.left;
          rest = later.rest;
          end = ap (λ (v : Walk). v.end) walked ∙ later.end;
        }
    behind w Nothing leads go_on e = absurd (not_some rules rule more e)

    by_next : ((far : ℕ) (g : Header) → (walk net hops far g).rules ≡ rules ++ rule ∷ more → IsBefore net hops far g rules rule more)
        → WalksOn net hops port header r (rules ++ rule ∷ more) → IsBefore net (suc hops) port header (r ∷ rules) rule more
    by_next go_on w = behind w (next net w.out) refl go_on w.rest

-- a header that stands after some rules stood after fewer of them
record IsBetween (net : Network) (port : ℕ) (header : Header) (rules more : List ℕ) (to : ℕ) (then : Header) : Type 0 where
  at : ℕ
  here : Header
  stands : stand net (length rules) port header ≡ Some (place_at rules at here)
  rest : stand net (length more) at here ≡ Some (place_at more to then)

is_between : (net : Network) (rules more : List ℕ) (port : ℕ) (header : Header) (to : ℕ) (then : Header)
    → stand net (length (rules ++ more)) port header ≡ Some (place_at (rules ++ more) to then) → IsBetween net port header rules more to then
is_between net [] more port header to then e = record { at = port; here = header; stands = refl; rest = e }
is_between net (r ∷ rules) more port header to then e =
    let s = stands_on net (length (rules ++ more)) port header (place_at (r ∷ (rules ++ more)) to then) e in
    let met : s.one.0 ∷ s.later.rules ≡ r ∷ (rules ++ more) = s.rules in
    let number : s.one.0 ≡ r = cc in
    let behind : s.later.rules ≡ rules ++ more = cc in
    let same : s.later ≡ place_at (rules ++ more) to then = same_place s.later (rules ++ more) to then behind s.port_there s.header_there in
    let later = is_between net rules more s.far s.after to then (s.there ∙ ap (λ p. Some p) same) in
    record {
      at = later.at;
      here = later.here;
      stands = stand_over net (length rules) port header s.one s.out s.after s.far r rules later.at later.here s.sends s.leads number later.stands;
      rest = later.rest;
    }

-- a header that stands after some rules and then meets more stands after all of them
stand_joined : (net : Network) (rules more : List ℕ) (port : ℕ) (header : Header) (at : ℕ) (here : Header) (to : ℕ) (then : Header)
    → stand net (length rules) port header ≡ Some (place_at rules at here) → stand net (length more) at here ≡ Some (place_at more to then)
    → stand net (length (rules ++ more)) port header ≡ Some (place_at (rules ++ more) to then)
stand_joined net [] more port header at here to then e f =
    let same_start : place_at [] port header ≡ place_at [] at here = cc in
    let a : port ≡ at = ap (λ (p : Stand). p.port) same_start in
    let h : header ≡ here = ap (λ (p : Stand). p.header) same_start in
    ap (λ p. stand net (length more) p header) a ∙ ap (λ g. stand net (length more) at g) h ∙ f
stand_joined net (r ∷ rules) more port header at here to then e f =
    let s = stands_on net (length rules) port header (place_at (r ∷ rules) at here) e in
    let met : s.one.0 ∷ s.later.rules ≡ r ∷ rules = s.rules in
    let number : s.one.0 ≡ r = cc in
    let behind : s.later.rules ≡ rules = cc in
    let same : s.later ≡ place_at rules at here = same_place s.later rules at here behind s.port_there s.header_there in
    let later = stand_joined net rules more s.far s.after at here to then (s.there ∙ ap (λ p. Some p) same) f in
    stand_over net (length (rules ++ more)) port header s.one s.out s.after s.far r (rules ++ more) to then s.sends s.leads number later

-- the walk goes on where the header stands
record GoesOn (net : Network) (hops port : ℕ) (header : Header) (rules : List ℕ) (at : ℕ) (here : Header) : Type 0 where
  left : ℕ
  count : length rules + left ≡ hops
  meets : (walk net hops port header).rules ≡ rules ++ (walk net left at here).rules
  end : (walk net hops port header).end ≡ (walk net left at here).end

goes_on : (net : Network) (rules : List ℕ) (hops port : ℕ) (header : Header) (at : ℕ) (here : Header)
    → stand net (length rules) port header ≡ Some (place_at rules at here) → length rules ≤ hops → GoesOn net hops port header rules at here
goes_on net [] hops port header at here e few =
    let same_start : place_at [] port header ≡ place_at [] at here = cc in
    let a : port ≡ at = ap (λ (p : Stand). p.port) same_start in
    let h : header ≡ here = ap (λ (p : Stand). p.header) same_start in
    let same : walk net hops port header ≡ walk net hops at here = ap (λ p. walk net hops p header) a ∙ ap (λ g. walk net hops at g) h in
    record { left = hops; count = omega arith; meets = ap (λ (w : Walk). w.rules) same; end = ap (λ (w : Walk). w.end) same }
goes_on net (r ∷ rules) zero port header at here e few = absurd (omega arith)
goes_on net (r ∷ rules) (suc hops) port header at here e few =
    let s = stands_on net (length rules) port header (place_at (r ∷ rules) at here) e in
    let met : s.one.0 ∷ s.later.rules ≡ r ∷ rules = s.rules in
    let number : s.one.0 ≡ r = cc in
    let behind : s.later.rules ≡ rules = cc in
    let same : s.later ≡ place_at rules at here = same_place s.later rules at here behind s.port_there s.header_there in
    let later = goes_on net rules hops s.far s.after at here (s.there ∙ ap (λ p. Some p) same) (omega arith) in
    let walked = walk_over net hops port header s.one s.out s.after s.far s.sends s.leads in
    record {
      left = later.left;
      count = omega (arith, later.count);
      meets = ap (λ (w : Walk). w.rules) walked ∙ ap (λ n. n ∷ (walk net hops s.far s.after).rules) number ∙ ap (λ ns. r ∷ ns) later.meets;
      end = ap (λ (w : Walk). w.end) walked ∙ later.end;
    }

-- a walk meets no more rules than it may
short_walk : (net : Network) (hops port : ℕ) (header : Header) (rules : List ℕ) → (walk net hops port header).rules ≡ rules → length rules ≤ hops
short_walk net hops port header [] e = omega arith
short_walk net zero port header (r ∷ rules) e = cc
short_walk net (suc hops) port header (r ∷ rules) e =
    behind (walks_on net hops port header r rules e) (λ far g f. short_walk net hops far g rules f)
  where
    by_next : (out : ℕ) (after : Header) (n : Next) → ((far : ℕ) (g : Header) → (walk net hops far g).rules ≡ rules → length rules ≤ hops)
        → (leave (walk net hops) out after n).rules ≡ rules → length (r ∷ rules) ≤ suc hops
    by_next out after (Term t) go_on e = let none : length rules ≡ 0 = ap length (sym e) in omega arith
    by_next out after (Far far) go_on e = let few = go_on far after e in omega arith
    by_next out after Nothing go_on e = let none : length rules ≡ 0 = ap length (sym e) in omega arith

    behind : WalksOn net hops port header r rules → ((far : ℕ) (g : Header) → (walk net hops far g).rules ≡ rules → length rules ≤ hops)
        → length (r ∷ rules) ≤ suc hops
    behind w go_on = by_next w.out w.after (next net w.out) go_on w.rest

-- ---- some rules, from a terminal

-- the place of a header that stands after these rules
pub placed : (net : Network) (start : ℕ) (rules : List ℕ) (header : Header) (s : Stands net start rules header)
    → stand_from net (length rules) start header ≡ Some (place_at rules s.place.port s.place.header)
placed net start rules header s = s.stands ∙ ap (λ ns. Some (place_at ns s.place.port s.place.header)) s.met

-- a header stands at one place after some rules
pub stands_once : (net : Network) (start : ℕ) (rules : List ℕ) (header : Header) (a b : Stands net start rules header) → a.place ≡ b.place
stands_once net start rules header a b =
    let same : Some a.place ≡ Some b.place = sym a.stands ∙ b.stands in cc

-- a walk that stands after some rules stood after fewer of them, and stands at the later place from there
pub record StandsFurther (net : Network) (start : ℕ) (rules more : List ℕ) (header : Header) (place : Stand) : Type 0 where
  pub before : Stands net start rules header
  pub rest : stand net (length more) before.place.port before.place.header ≡ Some (place_at more place.port place.header)

pub stands_further : (net : Network) (start : ℕ) (rules more : List ℕ) (header : Header) (s : Stands net start (rules ++ more) header)
    → StandsFurther net start rules more header s.place
stands_further net start rules more header s =
    by_terminal (value_at net.terminals start) refl (placed net start (rules ++ more) header s)
  where
    by_terminal : (o : Option Terminal) → value_at net.terminals start ≡ o
        → stand_at net (length (rules ++ more)) o header ≡ Some (place_at (rules ++ more) s.place.port s.place.header)
        → StandsFurther net start rules more header s.place
    by_terminal None is e = cc
    by_terminal (Some t) is e =
        let b = is_between net rules more t.port header s.place.port s.place.header e in
        record {
          before = record {
            permitted = s.permitted;
            place = place_at rules b.at b.here;
            stands = ap (λ o. stand_at net (length rules) o header) is ∙ b.stands;
            met = refl;
          };
          rest = b.rest;
        }

pub stands_before : (net : Network) (start : ℕ) (rules more : List ℕ) (header : Header) → Stands net start (rules ++ more) header
    → Stands net start rules header
stands_before net start rules more header s = (stands_further net start rules more header s).before

-- a header that meets more rules where it stands stands after all of them
pub stands_joined : (net : Network) (start : ℕ) (rules more : List ℕ) (header : Header) (s : Stands net start rules header) (to : ℕ) (then : Header)
    → stand net (length more) s.place.port s.place.header ≡ Some (place_at more to then) → Stands net start (rules ++ more) header
stands_joined net start rules more header s to then f = record {
  permitted = s.permitted;
  place = place_at (rules ++ more) to then;
  stands = by_terminal (value_at net.terminals start) (placed net start rules header s);
  met = refl;
}
  where
    by_terminal : (o : Option Terminal) → stand_at net (length rules) o header ≡ Some (place_at rules s.place.port s.place.header)
        → stand_at net (length (rules ++ more)) o header ≡ Some (place_at (rules ++ more) to then)
    by_terminal None e = cc
    by_terminal (Some t) e = stand_joined net rules more t.port header s.place.port s.place.header to then e f

-- a walk that meets a further rule stands before it, and goes on from there
pub record StandsWithin (net : Network) (hops start : ℕ) (header : Header) (rules : List ℕ) (rule : ℕ) (more : List ℕ) : Type 0 where
  pub stands : Stands net start rules header
  pub left : ℕ
  pub rest : (walk net (suc left) stands.place.port stands.place.header).rules ≡ rule ∷ more
  pub end : (walk_from net hops start header).end ≡ (walk net (suc left) stands.place.port stands.place.header).end

pub stands_within : (net : Network) (hops start : ℕ) (header : Header) (rules : List ℕ) (rule : ℕ) (more : List ℕ) → IsTrue (permits net start header)
    → (walk_from net hops start header).rules ≡ rules ++ rule ∷ more → StandsWithin net hops start header rules rule more
stands_within net hops start header rules rule more permitted e = by_terminal (value_at net.terminals start) refl e
  where
    by_terminal : (o : Option Terminal) → value_at net.terminals start ≡ o → (walk_at net hops o header).rules ≡ rules ++ rule ∷ more
        → StandsWithin net hops start header rules rule more
    by_terminal None is e = absurd (not_some rules rule more e)
    by_terminal (Some t) is e =
        let b = is_before net rules hops t.port header rule more e in
        record {
          stands = record {
            permitted = permitted;
            place = place_at rules b.at b.here;
            stands = ap (λ o. stand_at net (length rules) o header) is ∙ b.stands;
            met = refl;
          };
          left = b.left;
          rest = b.rest;
          end = ap (λ o. (walk_at net hops o header).end) is ∙ b.end;
        }

-- a walk that begins with a further rule stood before it
pub prefix_stands : (net : Network) (hops start : ℕ) (rules more : List ℕ) (rule : ℕ) (prefix : IsPrefix net hops start (rules ++ rule ∷ more))
    → Stands net start rules prefix.header
prefix_stands net hops start rules more rule prefix =
    (stands_within net hops start prefix.header rules rule (more ++ prefix.rest) prefix.permitted
    (prefix.begins ∙ append_assoc rules (rule ∷ more) prefix.rest)).stands

-- so did one that was delivered
pub member_stands : (net : Network) (hops start to : ℕ) (rules more : List ℕ) (rule : ℕ) (header arrives : Header)
    → Member net hops start (rules ++ rule ∷ more) to header arrives → Stands net start rules header
member_stands net hops start to rules more rule header arrives m =
    (stands_within net hops start header rules rule more m.permitted m.travels).stands

-- a list that is longer than the hop limit is no walk's
pub member_short : (net : Network) (hops start to : ℕ) (rules : List ℕ) (header arrives : Header)
    → Member net hops start rules to header arrives → length rules ≤ hops
member_short net hops start to rules header arrives m = by_terminal (value_at net.terminals start) m.travels
  where
    by_terminal : (o : Option Terminal) → (walk_at net hops o header).rules ≡ rules → length rules ≤ hops
    by_terminal None e = let none : length rules ≡ 0 = ap length (sym e) in omega arith
    by_terminal (Some t) e = short_walk net hops t.port header rules e

-- the walk of a header that stands within the hop limit goes on from there
pub record WalksFurther (net : Network) (hops start : ℕ) (header : Header) (rules : List ℕ) (place : Stand) : Type 0 where
  pub left : ℕ
  pub count : length rules + left ≡ hops
  pub meets : (walk_from net hops start header).rules ≡ rules ++ (walk net left place.port place.header).rules
  pub end : (walk_from net hops start header).end ≡ (walk net left place.port place.header).end

pub walks_further : (net : Network) (hops start : ℕ) (rules : List ℕ) (header : Header) (s : Stands net start rules header) → length rules ≤ hops
    → WalksFurther net hops start header rules s.place
walks_further net hops start rules header s few =
    by_terminal (value_at net.terminals start) refl (placed net start rules header s)
  where
    by_terminal : (o : Option Terminal) → value_at net.terminals start ≡ o
        → stand_at net (length rules) o header ≡ Some (place_at rules s.place.port s.place.header) → WalksFurther net hops start header rules s.place
    by_terminal None is e = cc
    by_terminal (Some t) is e =
        let on = goes_on net rules hops t.port header s.place.port s.place.header e few in
        record {
          left = on.left;
          count = on.count;
          meets = ap (λ o. (walk_at net hops o header).rules) is ∙ on.meets;
          end = ap (λ o. (walk_at net hops o header).end) is ∙ on.end;
        }

-- a walk that stands within the hop limit begins with these rules
pub stands_prefix : (net : Network) (hops start : ℕ) (rules : List ℕ) (header : Header) → Stands net start rules header → length rules ≤ hops
    → IsPrefix net hops start rules
stands_prefix net hops start rules header s few =
    let on = walks_further net hops start rules header s few in
    record {
      few = few;
      header = header;
      permitted = s.permitted;
      rest = (walk net on.left s.place.port s.place.header).rules;
      begins = on.meets;
    }

-- a walk begins with each part of a list that it begins with
pub prefix_before : (net : Network) (hops start : ℕ) (rules more : List ℕ) → IsPrefix net hops start (rules ++ more) → IsPrefix net hops start rules
prefix_before net hops start rules more prefix = record {
  few = omega (arith, prefix.few, length-append rules more);
  header = prefix.header;
  permitted = prefix.permitted;
  rest = more ++ prefix.rest;
  begins = prefix.begins ∙ append_assoc rules more prefix.rest;
}
