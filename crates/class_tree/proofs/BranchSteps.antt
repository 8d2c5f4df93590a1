-- The step of a branch says just what its rule leads to.
use Rattle.std.proofs.Common.{◌≡◌, ◌≢◌, ℕ, zero, suc, ◌<◌, IsTrue, [], ◌∷◌, ◌++◌, length, Option, Some, None, refl, sym, ap, ◌∙◌, subst}
use Rattle.std.specs.declared.cmp.Ordering.TheVariants.{Less}
use Rattle.network_model.specs.Bits.{Header, header_cmp}
use Rattle.network_model.specs.Rewrites.{Rewrite, rewritten}
use Rattle.network_model.specs.Network.{Network, Numbered, Action, Drop, Out, hit}
use Rattle.network_model.specs.Walk.{Delivered, walk, step, act, leave, Next, Term, Far, Nothing, next, Stand, stand, enter, after_rule_stand}
use Rattle.network_model.specs.Classes.{Member}
use Rattle.network_model.specs.Prefixes.{IsPrefix, Stands, extended}
use Rattle.network_model.specs.Table.{IsClass}
use Rattle.network_model.specs.WellFormed.{IsWellFormed}
use Rattle.header_sets.specs.Spaces.{holds}
use Rattle.box_step.specs.declared.branches.Branch.{Branch}
use Rattle.box_step.specs.Branches.{IsBranch}
use Rattle.path_table.specs.declared.entry.Entry.{Entry}
use Rattle.path_table.specs.Entries.{entry_of}
use Rattle.class_tree.specs.declared.class.Class.{Class}
use Rattle.class_tree.specs.declared.expansion.Behind as code
use Rattle.class_tree.specs.declared.expansion.Behind.TheVariants as behinds
use Rattle.class_tree.specs.declared.expansion.Step.{Step}
use Rattle.class_tree.specs.Belonging.{Belongs}
use Rattle.class_tree.specs.Following.{class_behind, IsEntryOf, LiesBehind}
use Rattle.model_laws.proofs.WalkStands.{stand_sent, place_at, stands_joined}
use Rattle.class_tree.proofs.BranchWalks.{branch_stands, branch_width, held_sent, HeldWalk, held_walk, held_prefix, IsDelivered, delivered, IsPassed, passed}

-- a walk that meets no rule is not delivered
undelivered : (net : Network) (left port : ℕ) (header : Header) (to : ℕ) (arrives : Header) → (walk net left port header).rules ≡ []
    → (walk net left port header).end ≡ Delivered to arrives → ⊥
undelivered net zero port header to arrives meets ends = cc
undelivered net (suc left) port header to arrives meets ends = by_hit (hit net port header) meets ends
  where
    by_action : (r : ℕ) (a : Action) → (act net (walk net left) header r a).rules ≡ [] → (act net (walk net left) header r a).end ≡ Delivered to arrives → ⊥
    by_action r Drop meets ends = cc
    by_action r (Out port rewrite) meets ends = cc

    by_hit : (o : Option Numbered) → (step net (walk net left) header o).rules ≡ [] → (step net (walk net left) header o).end ≡ Delivered to arrives → ⊥
    by_hit None meets ends = cc
    by_hit (Some r) meets ends = by_action r.0 r.1.action meets ends

-- the entry of the packets that a rule sends to a terminal
pub record IsArrival (net : Network) (hops : ℕ) (class : Class) (rule : ℕ) (e : Entry) : Type 0 where
  pub starts : e.«from» ≡ class.«from»
  pub rules : e.rules ≡ extended class.rules rule
  pub entry : IsClass net hops (entry_of e)

-- the class of those that it sends over a link
pub record IsOnward (net : Network) (class : Class) (rule : ℕ) (next : Class) : Type 0 where
  pub starts : next.«from» ≡ class.«from»
  pub rules : next.rules ≡ extended class.rules rule
  pub belongs : Belongs net next
  pub inhabited : (h : Header) × Stands net class.«from» next.rules h

-- what is said to lie behind a rule is so
abbrev pub IsBehind : Network → ℕ → Class → ℕ → code.Behind → Type 0
IsBehind net hops class rule (behinds.Arrival e) = IsArrival net hops class rule e
IsBehind net hops class rule (behinds.Onward next) = IsOnward net class rule next
IsBehind net hops class rule behinds.Nothing = Unit {0}

-- what a step says is so, and it says all that its rule leads to
pub record Leads (net : Network) (hops : ℕ) (class : Class) (step : Step) : Type 0 where
  pub sound : IsBehind net hops class step.rule step.behind
  pub prefix : IsPrefix net hops class.«from» (extended class.rules step.rule)
  pub delivered : (to : ℕ) (header arrives : Header) → Member net hops class.«from» (extended class.rules step.rule) to header arrives
      → (e : Entry) × (step.behind ≡ behinds.Arrival e) × (e.to ≡ to)
  pub onward : (header : Header) → Stands net class.«from» (extended class.rules step.rule) header → (next : Class) × (step.behind ≡ behinds.Onward next)

module _ (net : Network) (fits : IsWellFormed net) (class : Class) (belongs : Belongs net class) (rule : Numbered) (branch : Branch)
    (is : IsBranch net class.port class.space class.rewrite rule branch) (first : Header) (member : IsTrue (holds branch.space first))
    (port : ℕ) (rewrite : Rewrite) (acts : rule.1.action ≡ Out port rewrite) (hops : ℕ) (few : length class.rules < hops) where
  -- the facts of the branch
  abbrev arrived : (to : ℕ) (h arrives : Header) → Member net hops class.«from» (extended class.rules branch.rule) to h arrives
      → IsDelivered net fits class belongs rule branch is first member port rewrite acts to h arrives
  arrived to h arrives m = delivered net fits class belongs rule branch is first member port rewrite acts hops to h arrives m

  abbrev stood : (h : Header) (s : Stands net class.«from» (extended class.rules branch.rule) h)
      → IsPassed net fits class belongs rule branch is first member port rewrite acts h s.place
  stood h s = passed net fits class belongs rule branch is first member port rewrite acts h s

  abbrev walked : (h : Header) → IsTrue (holds branch.space h) → HeldWalk net fits class belongs rule branch is first member port rewrite acts hops h
  walked h held = held_walk net fits class belongs rule branch is first member port rewrite acts hops few h held

  abbrev starts_at : (h : Header) → IsTrue (holds branch.space h) → Stands net class.«from» class.rules h
  starts_at h held = branch_stands net fits class belongs rule branch is h held

  begins : IsPrefix net hops class.«from» (extended class.rules branch.rule)
  begins = held_prefix net fits class belongs rule branch is first member port rewrite acts hops few

  -- at a terminal
  module _ (terminal : ℕ) (leads : next net port ≡ Term terminal) where
    held_member : (h : Header) → IsTrue (holds branch.space h)
        → Member net hops class.«from» (extended class.rules branch.rule) terminal h (rewritten branch.rewrite h)
    held_member h held =
        let w = walked h held in
        record {
          permitted = (starts_at h held).permitted;
          travels = w.meets ∙ ap (λ n. class.rules ++ branch.rule ∷ (leave (walk net w.left) port (rewritten branch.rewrite h) n).rules) leads;
          delivered = w.end ∙ ap (λ n. (leave (walk net w.left) port (rewritten branch.rewrite h) n).end) leads;
        }

    member_held : (to : ℕ) (h arrives : Header) → Member net hops class.«from» (extended class.rules branch.rule) to h arrives
        → IsTrue (holds branch.space h) × (terminal ≡ to)
    member_held to h arrives m =
        let d = arrived to h arrives m in
        let ends : Delivered terminal (rewritten branch.rewrite h) ≡ Delivered to arrives =
        sym (ap (λ n. (leave (walk net d.left) port (rewritten branch.rewrite h) n).end) leads) ∙ d.ends in
        (d.held, cc)

    module _ (least greatest : Header) (low : IsTrue (holds branch.space least)) (high : IsTrue (holds branch.space greatest))
        (between : (h : Header) → IsTrue (holds branch.space h) → (header_cmp h least ≢ Less) × (header_cmp greatest h ≢ Less)) where
      abbrev made : Entry
      made = record {
        «from» = class.«from»;
        to = terminal;
        rules = extended class.rules branch.rule;
        least = least;
        greatest = greatest;
        arrives = rewritten branch.rewrite least;
      }

      made_class : IsClass net hops (entry_of made)
      made_class = record {
        least = held_member least low;
        greatest = (rewritten branch.rewrite greatest, held_member greatest high);
        between = λ h a m. between h (member_held terminal h a m).0;
      }

      made_leads : Leads net hops class (record { rule = branch.rule; behind = behinds.Arrival made })
      made_leads = record {
        sound = record { starts = refl; rules = refl; entry = made_class };
        prefix = begins;
        delivered = λ to h a m. (made, refl, (member_held to h a m).1);
        onward = λ h s.
            let p = stood h s in
            let none : None ≡ Some (place_at [] s.place.port s.place.header) =
            sym (ap (λ n. enter (stand net zero) (rewritten branch.rewrite h) n) leads) ∙ p.passes in
            absurd (cc);
      }

    arrival_leads : (e : Entry) → IsEntryOf class branch terminal e → Leads net hops class (record { rule = branch.rule; behind = behinds.Arrival e })
    arrival_leads e of =
        let same : made e.least e.greatest of.least of.greatest of.between ≡ e = λ i. record {
          «from» = (sym of.starts) i;
          to = (sym of.arrives_at) i;
          rules = (sym of.rules) i;
          least = e.least;
          greatest = e.greatest;
          arrives = (sym of.becomes) i;
        } in
        subst (λ (x : Entry). Leads net hops class (record { rule = branch.rule; behind = behinds.Arrival x })) same
        (made_leads e.least e.greatest of.least of.greatest of.between)

  -- at the other end of a link
  module _ (far : ℕ) (leads : next net port ≡ Far far) where
    not_delivered : (to : ℕ) (h arrives : Header) → Member net hops class.«from» (extended class.rules branch.rule) to h arrives → ⊥
    not_delivered to h arrives m =
        let d = arrived to h arrives m in
        empty_walk d.left (rewritten branch.rewrite h)
        (sym (ap (λ n. (leave (walk net d.left) port (rewritten branch.rewrite h) n).rules) leads) ∙ d.meets)
        (sym (ap (λ n. (leave (walk net d.left) port (rewritten branch.rewrite h) n).end) leads) ∙ d.ends)
      where
        empty_walk : (left : ℕ) (g : Header) → (walk net left far g).rules ≡ [] → (walk net left far g).end ≡ Delivered to arrives → ⊥
        empty_walk left g meets ends = undelivered net left far g to arrives meets ends

    held_stands : (h : Header) (held : IsTrue (holds branch.space h)) → Stands net class.«from» (extended class.rules branch.rule) h
    held_stands h held =
        let s = starts_at h held in
        let stays = stand_sent net zero s.place.port s.place.header rule port (rewritten branch.rewrite h)
        (held_sent net fits class belongs rule branch is first member port rewrite acts h held s) in
        stands_joined net class.«from» class.rules (branch.rule ∷ []) h s far (rewritten branch.rewrite h)
        (stays ∙ ap (λ n. after_rule_stand rule.0 (enter (stand net zero) (rewritten branch.rewrite h) n)) leads
        ∙ ap (λ n. Some (place_at (n ∷ []) far (rewritten branch.rewrite h))) (sym is.number))

    stands_held : (h : Header) (s : Stands net class.«from» (extended class.rules branch.rule) h)
        → IsTrue (holds branch.space h) × (s.place.port ≡ far) × (s.place.header ≡ rewritten branch.rewrite h)
    stands_held h s =
        let p = stood h s in
        let there : Some (place_at [] far (rewritten branch.rewrite h)) ≡ Some (place_at [] s.place.port s.place.header) =
        sym (ap (λ n. enter (stand net zero) (rewritten branch.rewrite h) n) leads) ∙ p.passes in
        let same : place_at [] far (rewritten branch.rewrite h) ≡ place_at [] s.place.port s.place.header = cc in
        (p.held, sym (ap (λ (q : Stand). q.port) same), sym (ap (λ (q : Stand). q.header) same))

    behind_belongs : Belongs net (class_behind class branch far)
    behind_belongs = record {
      space_width = is.width;
      rewrite_width = branch_width net fits class belongs rule branch is first member;
      headers = λ h. (held_stands h, λ s. (stands_held h s).0);
      port = λ h s. (stands_held h s).1;
      become = λ h s. (stands_held h s).2;
    }

    behind_leads : Leads net hops class (record { rule = branch.rule; behind = behinds.Onward (class_behind class branch far) })
    behind_leads = record {
      sound = record { starts = refl; rules = refl; belongs = behind_belongs; inhabited = (first, held_stands first member) };
      prefix = begins;
      delivered = λ to h a m. absurd (not_delivered to h a m);
      onward = λ h s. (class_behind class branch far, refl);
    }

    onward_leads : (further : Class) → further ≡ class_behind class branch far
        → Leads net hops class (record { rule = branch.rule; behind = behinds.Onward further })
    onward_leads further same =
        subst (λ (x : Class). Leads net hops class (record { rule = branch.rule; behind = behinds.Onward x })) (sym same) behind_leads

  -- at a port with nothing behind it
  nothing_leads : next net port ≡ Nothing → Leads net hops class (record { rule = branch.rule; behind = behinds.Nothing })
  nothing_leads leads = record {
    sound = tt;
    prefix = begins;
    delivered = λ to h a m.
        let d = arrived to h a m in
        let ends : (leave (walk net d.left) port (rewritten branch.rewrite h) Nothing).end ≡ Delivered to a =
        sym (ap (λ n. (leave (walk net d.left) port (rewritten branch.rewrite h) n).end) leads) ∙ d.ends in
        absurd (cc);
    onward = λ h s.
        let p = stood h s in
        let none : None ≡ Some (place_at [] s.place.port s.place.header) =
        sym (ap (λ n. enter (stand net zero) (rewritten branch.rewrite h) n) leads) ∙ p.passes in
        absurd (cc);
  }

  pub by_next : (n : Next) → next net port ≡ n → (b : code.Behind) → LiesBehind class branch n b → Leads net hops class (record { rule = branch.rule; behind = b })
  by_next (Term terminal) leads (behinds.Arrival e) lies = arrival_leads terminal leads e lies
  by_next (Term terminal) leads (behinds.Onward further) lies = absurd lies
  by_next (Term terminal) leads behinds.Nothing lies = absurd lies
  by_next (Far far) leads (behinds.Arrival e) lies = absurd lies
  by_next (Far far) leads (behinds.Onward further) lies = onward_leads far leads further lies
  by_next (Far far) leads behinds.Nothing lies = absurd lies
  by_next Nothing leads (behinds.Arrival e) lies = absurd lies
  by_next Nothing leads (behinds.Onward further) lies = absurd lies
  by_next Nothing leads behinds.Nothing lies = nothing_leads leads
