-- How the headers of a branch walk on: by its rule, and behind the port by which they leave.
use Rattle.std.proofs.Common.{◌≡◌, ℕ, zero, suc, ◌+◌, ◌<◌, IsTrue, List, [], ◌∷◌, ◌++◌, length, Option, Some, None, sym, ap, ◌∙◌, arith, append_assoc, length-append, option_and_then}
use Rattle.std.specs.List.{Contains}
use Rattle.std.proofs.lemmas.List.Elements.{All-contains}
use Rattle.network_model.specs.Bits.{Header}
use Rattle.network_model.specs.Rewrites.{Rewrite, rewritten}
use Rattle.network_model.specs.Network.{Network, Rule, Numbered, Action, Drop, Out, hit}
use Rattle.network_model.specs.Walk.{Delivered, Walk, walk, leave, next, Stand, stand, enter, after_rule_stand}
use Rattle.network_model.specs.Classes.{walk_from, Member}
use Rattle.network_model.specs.Prefixes.{IsPrefix, Stands, extended}
use Rattle.network_model.specs.WellFormed.{IsWellFormed, FitsRule, FitsOut}
use Rattle.network_model.proofs.LastRule.{rises_exact}
use Rattle.network_model.proofs.RewriteLaws.{rewritten-composed, length-composed}
use Rattle.header_sets.specs.Spaces.{holds}
use Rattle.box_step.specs.declared.branches.Branch.{Branch}
use Rattle.box_step.specs.Branches.{onward, IsBranch}
use Rattle.class_tree.specs.declared.class.Class.{Class}
use Rattle.class_tree.specs.Belonging.{Belongs}
use Rattle.class_tree.specs.Following.{exit, exit_of}
use Rattle.model_laws.proofs.WalkStands.{Sends, walks_on, walk_sent, stands_on, stand_sent, place_at, stands_further, stands_within, WalksFurther, walks_further}
use Rattle.model_laws.proofs.RulesByNumber.{rule_at_number, hit_contained}

-- a rule with an exit sends packets on by it
pub exit_action : (a : Action) (port : ℕ) → exit a ≡ Some port → (rewrite : Rewrite) × (a ≡ Out port rewrite)
exit_action Drop port e = cc
exit_action (Out out rewrite) port e = let same : out ≡ port = cc in (rewrite, ap (λ p. Out p rewrite) same)

-- a header of the class is hit where it stands as at the class's port
pub place_hit : (net : Network) (class : Class) (belongs : Belongs net class) (h : Header) (s : Stands net class.«from» class.rules h)
    → hit net s.place.port s.place.header ≡ hit net class.port (rewritten class.rewrite h)
place_hit net class belongs h s = ap (λ p. hit net p s.place.header) (belongs.port h s) ∙ ap (λ g. hit net class.port g) (belongs.become h s)

module _ (net : Network) (fits : IsWellFormed net) (class : Class) (belongs : Belongs net class) (rule : Numbered) (branch : Branch)
    (is : IsBranch net class.port class.space class.rewrite rule branch) where
  -- its headers stood where the class stands
  pub branch_stands : (h : Header) → IsTrue (holds branch.space h) → Stands net class.«from» class.rules h
  branch_stands h held = (belongs.headers h).0 ((is.headers h).0 held).0

  held_hit : (h : Header) (held : IsTrue (holds branch.space h)) (s : Stands net class.«from» class.rules h)
      → hit net s.place.port s.place.header ≡ Some rule
  held_hit h held s = place_hit net class belongs h s ∙ ((is.headers h).0 held).1

  -- a header of the class that the rule hits is of the branch
  held_from : (h : Header) (s : Stands net class.«from» class.rules h) → hit net s.place.port s.place.header ≡ Some rule → IsTrue (holds branch.space h)
  held_from h s e = (is.headers h).1 ((belongs.headers h).1 s, sym (place_hit net class belongs h s) ∙ e)

  module _ (first : Header) (member : IsTrue (holds branch.space first)) where
    rule_there : Contains net.rules rule
    rule_there = let s = branch_stands first member in hit_contained net s.place.port s.place.header rule (held_hit first member s)

    -- the branch's rewrite is as wide as the network
    pub branch_width : length branch.rewrite ≡ net.width
    branch_width = ap length is.rewrites ∙ by_action rule.1.action (All-contains (λ (r : Numbered). FitsRule net r.1) net.rules rule fits.ruled rule_there).out
      where
        by_action : (a : Action) → FitsOut net rule.1.at a → length (onward class.rewrite a) ≡ net.width
        by_action Drop out = belongs.rewrite_width
        by_action (Out port rewrite) out = length-composed class.rewrite rewrite ∙ out.1

    -- a rule of its number is its rule
    same_rule : (port : ℕ) (header : Header) (one : Numbered) → hit net port header ≡ Some one → one.0 ≡ branch.rule → one ≡ rule
    same_rule port header one e number = rises_exact net.rules fits.rules one rule (hit_contained net port header one e) rule_there (number ∙ is.number)

    pub branch_exit : exit_of net branch.rule ≡ exit rule.1.action
    branch_exit =
        ap (λ n. exit_of net n) is.number
        ∙ ap (λ (o : Option Rule). option_and_then (λ (r : Rule). exit r.action) o) (rule_at_number net fits rule rule_there)

    module _ (port : ℕ) (rewrite : Rewrite) (acts : rule.1.action ≡ Out port rewrite) where
      -- what the rule does to a header of the branch
      pub held_sent : (h : Header) (held : IsTrue (holds branch.space h)) (s : Stands net class.«from» class.rules h)
          → Sends net s.place.port s.place.header rule port (rewritten branch.rewrite h)
      held_sent h held s = record {
        hits = held_hit h held s;
        rewrite = rewrite;
        action = acts;
        becomes = ap (rewritten rewrite) (belongs.become h s) ∙ sym (rewritten-composed class.rewrite rewrite h)
            ∙ sym (ap (λ (r : Rewrite). rewritten r h) (is.rewrites ∙ ap (onward class.rewrite) acts));
      }

      -- its walk
      pub record HeldWalk (hops : ℕ) (h : Header) : Type 0 where
        pub left : ℕ
        pub meets : (walk_from net hops class.«from» h).rules
            ≡ class.rules ++ branch.rule ∷ (leave (walk net left) port (rewritten branch.rewrite h) (next net port)).rules
        pub end : (walk_from net hops class.«from» h).end ≡ (leave (walk net left) port (rewritten branch.rewrite h) (next net port)).end

      pub held_walk : (hops : ℕ) → length class.rules < hops → (h : Header) → IsTrue (holds branch.space h) → HeldWalk hops h
      held_walk hops few h held = by_left on.left on.count on.meets on.end
        where
          s : Stands net class.«from» class.rules h
          s = branch_stands h held

          on : WalksFurther net hops class.«from» h class.rules s.place
          on = walks_further net hops class.«from» class.rules h s (omega arith)

          by_left : (left : ℕ) → length class.rules + left ≡ hops
              → (walk_from net hops class.«from» h).rules ≡ class.rules ++ (walk net left s.place.port s.place.header).rules
              → (walk_from net hops class.«from» h).end ≡ (walk net left s.place.port s.place.header).end → HeldWalk hops h
          by_left zero count meets end = absurd (omega arith)
          by_left (suc left) count meets end =
              let walked = walk_sent net left s.place.port s.place.header rule port (rewritten branch.rewrite h) (held_sent h held s) in
              let behind : List ℕ = (leave (walk net left) port (rewritten branch.rewrite h) (next net port)).rules in
              record {
                left = left;
                meets = meets ∙ ap (λ (w : Walk). class.rules ++ w.rules) walked ∙ ap (λ n. class.rules ++ n ∷ behind) (sym is.number);
                end = end ∙ ap (λ (w : Walk). w.end) walked;
              }

      -- the walks of its headers begin with its rule
      pub held_prefix : (hops : ℕ) → length class.rules < hops → IsPrefix net hops class.«from» (extended class.rules branch.rule)
      held_prefix hops few =
          let w = held_walk hops few first member in
          let behind : List ℕ = (leave (walk net w.left) port (rewritten branch.rewrite first) (next net port)).rules in
          record {
            few = omega (arith, few, length-append class.rules (branch.rule ∷ []));
            header = first;
            permitted = (branch_stands first member).permitted;
            rest = behind;
            begins = w.meets ∙ sym (append_assoc class.rules (branch.rule ∷ []) behind);
          }

      -- a delivered walk with its rule is that of one of its headers, and ends behind its port
      pub record IsDelivered (to : ℕ) (h arrives : Header) : Type 0 where
        pub held : IsTrue (holds branch.space h)
        pub left : ℕ
        pub meets : (leave (walk net left) port (rewritten branch.rewrite h) (next net port)).rules ≡ []
        pub ends : (leave (walk net left) port (rewritten branch.rewrite h) (next net port)).end ≡ Delivered to arrives

      pub delivered : (hops to : ℕ) (h arrives : Header) → Member net hops class.«from» (extended class.rules branch.rule) to h arrives → IsDelivered to h arrives
      delivered hops to h arrives m =
          let within = stands_within net hops class.«from» h class.rules branch.rule [] m.permitted m.travels in
          let s = within.stands in
          let on = walks_on net within.left s.place.port s.place.header branch.rule [] within.rest in
          let same : on.one ≡ rule = same_rule s.place.port s.place.header on.one on.sends.hits on.number in
          let held : IsTrue (holds branch.space h) = held_from h s (on.sends.hits ∙ ap (λ r. Some r) same) in
          let walked = walk_sent net within.left s.place.port s.place.header rule port (rewritten branch.rewrite h) (held_sent h held s) in
          let met : rule.0 ∷ (leave (walk net within.left) port (rewritten branch.rewrite h) (next net port)).rules ≡ branch.rule ∷ [] =
          sym (ap (λ (w : Walk). w.rules) walked) ∙ within.rest in
          record {
            held = held;
            left = within.left;
            meets = cc;
            ends = sym (ap (λ (w : Walk). w.end) walked) ∙ sym within.end ∙ m.delivered;
          }

      -- a header that stands behind its rule is one of its headers, and stands behind its port
      pub record IsPassed (h : Header) (place : Stand) : Type 0 where
        pub held : IsTrue (holds branch.space h)
        pub passes : enter (stand net zero) (rewritten branch.rewrite h) (next net port) ≡ Some (place_at [] place.port place.header)

      pub passed : (h : Header) (s : Stands net class.«from» (extended class.rules branch.rule) h) → IsPassed h s.place
      passed h s =
          let further = stands_further net class.«from» class.rules (branch.rule ∷ []) h s in
          let b = further.before in
          let on = stands_on net zero b.place.port b.place.header (place_at (branch.rule ∷ []) s.place.port s.place.header) further.rest in
          let met : on.one.0 ∷ on.later.rules ≡ branch.rule ∷ [] = on.rules in
          let number : on.one.0 ≡ branch.rule = cc in
          let same : on.one ≡ rule = same_rule b.place.port b.place.header on.one on.sends.hits number in
          let held : IsTrue (holds branch.space h) = held_from h b (on.sends.hits ∙ ap (λ r. Some r) same) in
          let stood = stand_sent net zero b.place.port b.place.header rule port (rewritten branch.rewrite h) (held_sent h held b) in
          record { held = held; passes = behind (enter (stand net zero) (rewritten branch.rewrite h) (next net port)) (sym stood ∙ further.rest) }
        where
          behind : (o : Option Stand) → after_rule_stand rule.0 o ≡ Some (place_at (branch.rule ∷ []) s.place.port s.place.header)
              → o ≡ Some (place_at [] s.place.port s.place.header)
          behind None e = cc
          behind (Some p) e =
              let same : place_at (rule.0 ∷ p.rules) p.port p.header ≡ place_at (branch.rule ∷ []) s.place.port s.place.header = cc in
              let rules : rule.0 ∷ p.rules ≡ branch.rule ∷ [] = ap (λ (q : Stand). q.rules) same in
              let none : p.rules ≡ [] = cc in
              let at : p.port ≡ s.place.port = ap (λ (q : Stand). q.port) same in
              let here : p.header ≡ s.place.header = ap (λ (q : Stand). q.header) same in
              λ i. Some (place_at (none i) (at i) (here i))
