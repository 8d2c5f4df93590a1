-- A well-formed network stays so with one more part that fits.
use Rattle.std.proofs.Common.{◌≡◌, ℕ, ◌≤◌, true, false, cond, ◌&&◌, eqb, List, [], ◌∷◌, length, get_or, Option, Some, None, sym, refl, ap, ◌∙◌, subst, ⊎_elim, arith}
use Rattle.std.specs.Prelude.{◌≢◌, IsSome, IsNone, nat_eq}
use Rattle.std.specs.List.{All, Contains, list_any}
use Rattle.std.proofs.lemmas.Bool.{cond_both, cases_eq, and_parts, or_parts, eqb-true, eqb-false, cond-true, cond-false, ne_eqb, eq-eqb}
use Rattle.std.proofs.lemmas.List.Elements.{All-nil, All-cons, All-weaker, All-push}
use Rattle.std.proofs.lemmas.Map.Views.{Contains-from_any, exact_unsigned_eq}
use Rattle.network_model.specs.Bits.{Pattern}
use Rattle.network_model.specs.Rewrites.{AreWithin}
use Rattle.network_model.specs.Network.{value_at, is_at, Network, Terminal, Rule, Role, Numbered, InPort, AnyPort, OnePort, Action, Drop, Out}
use Rattle.network_model.specs.Building.{empty, put, with_box, with_port, with_link, with_terminal, with_permit, with_forbid, with_rule, change_at, permitting, forbidding}
use Rattle.network_model.specs.WellFormed.{IsWellFormed, FitsIn, FitsOut, FitsRule, FitsTerminal, FitsLink}
use Rattle.net_types.specs.Refusals.{has_box, known_in, known_out, moves_fit}
use Rattle.net_types.specs.Rules.{TakesWithin}
use Rattle.model_laws.proofs.Numbered.{All-put, AllPairs-put, rises_put, rising_put_number, value_at-put, value_at-kept, Contains-put_number, rises_change_at, All-change_at, AllPairs-change_at, change}

-- next has the boxes and ports of net, and is as wide
record Grows (net next : Network) : Type 0 where
  width : next.width ≡ net.width
  boxes : (n : ℕ) → Contains net.boxes n → Contains next.boxes n
  ports : (p box : ℕ) → value_at net.ports p ≡ Some box → value_at next.ports p ≡ Some box

some_kept : (o p : Option ℕ) → ((n : ℕ) → o ≡ Some n → p ≡ Some n) → IsSome o → IsSome p
some_kept None p kept h = absurd (cc)
some_kept (Some n) p kept h = rw (kept n refl) h

in_kept : (net next : Network) (box : ℕ) (inp : InPort) → Grows net next → FitsIn net box inp → FitsIn next box inp
in_kept net next box AnyPort g h = h
in_kept net next box (OnePort port) g h = g.ports port box h

out_kept : (net next : Network) (box : ℕ) (action : Action) → Grows net next → FitsOut net box action → FitsOut next box action
out_kept net next box Drop g h = h
out_kept net next box (Out port rewrite) g h =
    (g.ports port box h.0, h.1 ∙ sym g.width, let Within : ℕ → Type 0 = λ width. AreWithin width rewrite in subst Within (sym g.width) h.2)

rule_kept : (net next : Network) (r : Rule) → Grows net next → FitsRule net r → FitsRule next r
rule_kept net next r g h = record {
  box = g.boxes r.at h.box;
  inp = in_kept net next r.at r.inp g h.inp;
  pattern = h.pattern ∙ sym g.width;
  out = out_kept net next r.at r.action g h.out;
}

as_wide : (net next : Network) (ps : List Pattern) → next.width ≡ net.width
    → All (λ (p : Pattern). length p ≡ net.width) ps → All (λ (p : Pattern). length p ≡ next.width) ps
as_wide net next ps same h =
    let Old : Pattern → Type 0 = λ p. length p ≡ net.width in
    let New : Pattern → Type 0 = λ p. length p ≡ next.width in
    All-weaker Old New (λ p wide. wide ∙ sym same) ps h

terminal_kept : (net next : Network) (t : Terminal) → Grows net next → IsNone (value_at next.links t.port) → FitsTerminal net t → FitsTerminal next t
terminal_kept net next t g unlinked h = record {
  port = some_kept (value_at net.ports t.port) (value_at next.ports t.port) (g.ports t.port) h.port;
  unlinked = unlinked;
  permits = as_wide net next t.permits g.width h.permits;
  forbids = as_wide net next t.forbids g.width h.forbids;
}

link_kept : (net next : Network) (a b : ℕ) → Grows net next → value_at next.links b ≡ Some a → FitsLink net a b → FitsLink next a b
link_kept net next a b g back h = record {
  port = some_kept (value_at net.ports a) (value_at next.ports a) (g.ports a) h.port;
  other = h.other;
  back = back;
}

rules_kept : (net next : Network) (rs : List Numbered) → Grows net next → All (λ (r : Numbered). FitsRule net r.1) rs → All (λ (r : Numbered). FitsRule next r.1) rs
rules_kept net next rs g h =
    let Old : Numbered → Type 0 = λ r. FitsRule net r.1 in
    let New : Numbered → Type 0 = λ r. FitsRule next r.1 in
    All-weaker Old New (λ r fits. rule_kept net next r.1 g fits) rs h

-- where the links are the same
terminals_kept : (net next : Network) (ts : List (ℕ × Terminal)) → Grows net next
    → ((t : Terminal) → FitsTerminal net t → IsNone (value_at next.links t.port))
    → All (λ (t : ℕ × Terminal). FitsTerminal net t.1) ts → All (λ (t : ℕ × Terminal). FitsTerminal next t.1) ts
terminals_kept net next ts g unlinked h =
    let Old : ℕ × Terminal → Type 0 = λ t. FitsTerminal net t.1 in
    let New : ℕ × Terminal → Type 0 = λ t. FitsTerminal next t.1 in
    All-weaker Old New (λ t fits. terminal_kept net next t.1 g (unlinked t.1 fits) fits) ts h

pub empty_fits : (width : ℕ) → 1 ≤ width → width ≤ 128 → IsWellFormed (empty width)
empty_fits width some most = record {
  width = (some, most);
  boxes = λ k within. absurd (omega arith);
  ports = λ k within. absurd (omega arith);
  links = λ k within. absurd (omega arith);
  terminals = λ k within. absurd (omega arith);
  rules = λ k within. absurd (omega arith);
  homes = λ k d within. absurd (omega arith);
  joined = λ a b here. absurd (cc);
  placed = λ k d within. absurd (omega arith);
  apart = λ i j d below within. absurd (omega arith);
  ruled = λ k d within. absurd (omega arith);
}

pub box_fits : (net : Network) (id : ℕ) → list_any (nat_eq id) net.boxes ≡ false → IsWellFormed net → IsWellFormed (with_box id net)
box_fits net id absent h =
    let g : Grows net (with_box id net) = record {
      width = refl;
      boxes = λ n there. Contains-put_number id net.boxes n there;
      ports = λ p box there. there;
    } in
    let Old : ℕ × ℕ → Type 0 = λ p. Contains net.boxes p.1 in
    let New : ℕ × ℕ → Type 0 = λ p. Contains (with_box id net).boxes p.1 in
    record {
      width = h.width;
      boxes = rising_put_number id net.boxes absent h.boxes;
      ports = h.ports;
      links = h.links;
      terminals = h.terminals;
      rules = h.rules;
      homes = All-weaker Old New (λ p there. g.boxes p.1 there) net.ports h.homes;
      joined = λ a b here. link_kept net (with_box id net) a b g (h.joined a b here).back (h.joined a b here);
      placed = terminals_kept net (with_box id net) net.terminals g (λ t fits. fits.unlinked) h.placed;
      apart = h.apart;
      ruled = rules_kept net (with_box id net) net.rules g h.ruled;
    }

pub port_fits : (net : Network) (id box : ℕ) → value_at net.ports id ≡ None → Contains net.boxes box → IsWellFormed net → IsWellFormed (with_port id box net)
port_fits net id box absent home h =
    let next = with_port id box net in
    let g : Grows net next = record {
      width = refl;
      boxes = λ n there. there;
      ports = λ p b there. value_at-kept id box net.ports p b absent there;
    } in
    let Home : ℕ × ℕ → Type 0 = λ p. Contains net.boxes p.1 in
    record {
      width = h.width;
      boxes = h.boxes;
      ports = rises_put id box net.ports absent h.ports;
      links = h.links;
      terminals = h.terminals;
      rules = h.rules;
      homes = All-put Home id box net.ports home h.homes;
      joined = λ a b here. link_kept net next a b g (h.joined a b here).back (h.joined a b here);
      placed = terminals_kept net next net.terminals g (λ t fits. fits.unlinked) h.placed;
      apart = h.apart;
      ruled = rules_kept net next net.rules g h.ruled;
    }

stands_at : (o : Option ℕ) (box : ℕ) → is_at o box ≡ true → o ≡ Some box
stands_at None box h = absurd (cc)
stands_at (Some own) box h = ap Some (eqb-true own box h)

fits_in : (net : Network) (box : ℕ) (inp : InPort) → known_in net box inp ≡ true → FitsIn net box inp
fits_in net box AnyPort known = tt
fits_in net box (OnePort port) known = stands_at (value_at net.ports port) box known

fits_out : (net : Network) (box : ℕ) (action : Action) → known_out net box action ≡ true → moves_fit net.width action ≡ true
    → TakesWithin net.width action → FitsOut net box action
fits_out net box Drop known fit within = tt
fits_out net box (Out port rewrite) known fit within =
    (stands_at (value_at net.ports port) box known, eqb-true (length rewrite) net.width fit, within)

-- what the tests of a rule say
pub fits_from_tests : (net : Network) (rule : Rule)
    → (has_box net rule.at && (known_in net rule.at rule.inp && known_out net rule.at rule.action)) ≡ true
    → (eqb (length rule.pattern) net.width && moves_fit net.width rule.action) ≡ true → TakesWithin net.width rule.action → FitsRule net rule
fits_from_tests net rule places wide within =
    let p = and_parts (has_box net rule.at) (known_in net rule.at rule.inp && known_out net rule.at rule.action) places in
    let q = and_parts (known_in net rule.at rule.inp) (known_out net rule.at rule.action) p.1 in
    let w = and_parts (eqb (length rule.pattern) net.width) (moves_fit net.width rule.action) wide in
    record {
      box = Contains-from_any exact_unsigned_eq rule.at net.boxes p.0;
      inp = fits_in net rule.at rule.inp q.0;
      pattern = eqb-true (length rule.pattern) net.width w.0;
      out = fits_out net rule.at rule.action q.1 w.1 within;
    }

pub rule_fits : (net : Network) (id : ℕ) (rule : Rule) → value_at net.rules id ≡ None → FitsRule net rule → IsWellFormed net → IsWellFormed (with_rule id rule net)
rule_fits net id rule absent fits h =
    let next = with_rule id rule net in
    let g : Grows net next = record { width = refl; boxes = λ n there. there; ports = λ p b there. there } in
    let Fits : Numbered → Type 0 = λ r. FitsRule next r.1 in
    record {
      width = h.width;
      boxes = h.boxes;
      ports = h.ports;
      links = h.links;
      terminals = h.terminals;
      rules = rises_put id rule net.rules absent h.rules;
      homes = h.homes;
      joined = λ a b here. link_kept net next a b g (h.joined a b here).back (h.joined a b here);
      placed = terminals_kept net next net.terminals g (λ t f. f.unlinked) h.placed;
      apart = h.apart;
      ruled = All-put Fits id rule net.rules (rule_kept net next rule g fits) (rules_kept net next net.rules g h.ruled);
    }

-- no terminal stands at the port
pub none_at : (port : ℕ) (ts : List (ℕ × Terminal)) → list_any (λ (t : ℕ × Terminal). eqb t.1.port port) ts ≡ false → All (λ (t : ℕ × Terminal). t.1.port ≢ port) ts
none_at port [] h = All-nil (λ (t : ℕ × Terminal). t.1.port ≢ port)
none_at port (t ∷ ts) h =
    let p = or_parts (eqb t.1.port port) (list_any (λ (x : ℕ × Terminal). eqb x.1.port port) ts) h in
    All-cons (λ (x : ℕ × Terminal). x.1.port ≢ port) t ts (eqb-false t.1.port port p.0) (none_at port ts p.1)

pub terminal_fits : (net : Network) (id port : ℕ) (role : Role) → value_at net.terminals id ≡ None → IsSome (value_at net.ports port)
    → list_any (λ (t : ℕ × Terminal). eqb t.1.port port) net.terminals ≡ false → IsNone (value_at net.links port)
    → IsWellFormed net → IsWellFormed (with_terminal id port role net)
terminal_fits net id port role absent there free unlinked h =
    let next = with_terminal id port role net in
    let new : Terminal = record { port = port; role = role; permits = []; forbids = [] } in
    let g : Grows net next = record { width = refl; boxes = λ n h. h; ports = λ p b h. h } in
    let Fits : ℕ × Terminal → Type 0 = λ t. FitsTerminal next t.1 in
    let fits : FitsTerminal next new = record {
      port = there;
      unlinked = unlinked;
      permits = All-nil (λ (p : Pattern). length p ≡ net.width);
      forbids = All-nil (λ (p : Pattern). length p ≡ net.width);
    } in
    let Apart : ℕ × Terminal → ℕ × Terminal → Type 0 = λ s t. s.1.port ≢ t.1.port in
    let Free : ℕ × Terminal → Type 0 = λ t. t.1.port ≢ port in
    let Both : ℕ × Terminal → Type 0 = λ t. (port ≢ t.1.port) × (t.1.port ≢ port) in
    record {
      width = h.width;
      boxes = h.boxes;
      ports = h.ports;
      links = h.links;
      terminals = rises_put id new net.terminals absent h.terminals;
      rules = h.rules;
      homes = h.homes;
      joined = λ a b here. link_kept net next a b g (h.joined a b here).back (h.joined a b here);
      placed = All-put Fits id new net.terminals fits (terminals_kept net next net.terminals g (λ t f. f.unlinked) h.placed);
      apart = AllPairs-put Apart id new net.terminals
          (All-weaker Free Both (λ t f. (λ same. f (sym same), f)) net.terminals (none_at port net.terminals free)) h.apart;
      ruled = rules_kept net next net.rules g h.ruled;
    }

-- ---- a terminal that changes and keeps its port
abbrev with_changed : ℕ → (Terminal → Terminal) → Network → Network
with_changed id f net = record net { terminals = change_at id f net.terminals }

changed_fits : (net : Network) (id : ℕ) (f : Terminal → Terminal) → ((t : Terminal) → (f t).port ≡ t.port)
    → ((t : Terminal) → FitsTerminal net t → FitsTerminal net (f t))
    → IsWellFormed net → IsWellFormed (with_changed id f net)
changed_fits net id f same fit h =
    let next = with_changed id f net in
    let g : Grows net next = record { width = refl; boxes = λ n h. h; ports = λ p b h. h } in
    let Fits : ℕ × Terminal → Type 0 = λ t. FitsTerminal net t.1 in
    let Apart : ℕ × Terminal → ℕ × Terminal → Type 0 = λ s t. s.1.port ≢ t.1.port in
    let port : (e : ℕ × Terminal) → (change id f e).1.port ≡ e.1.port =
    λ e. cond_both (eqb e.0 id) (e.0, f e.1) e (λ x. x.1.port ≡ e.1.port) (λ _. same e.1) (λ _. refl) in
    record {
      width = h.width;
      boxes = h.boxes;
      ports = h.ports;
      links = h.links;
      terminals = rises_change_at id f net.terminals h.terminals;
      rules = h.rules;
      homes = h.homes;
      joined = λ a b here. link_kept net next a b g (h.joined a b here).back (h.joined a b here);
      placed = terminals_kept net next next.terminals g (λ t fits. fits.unlinked)
          (All-change_at Fits id f net.terminals (λ t here fits. fit t fits) h.terminals h.placed);
      apart = AllPairs-change_at Apart id f net.terminals (λ d e apart same. apart (sym (port d) ∙ same ∙ port e)) h.apart;
      ruled = rules_kept net next net.rules g h.ruled;
    }

pub permit_fits : (net : Network) (id : ℕ) (p : Pattern) → length p ≡ net.width → IsWellFormed net → IsWellFormed (with_permit id p net)
permit_fits net id p wide h =
    changed_fits net id (permitting p) (λ t. refl)
    (λ t fits. record {
      port = fits.port;
      unlinked = fits.unlinked;
      permits = All-push (λ (q : Pattern). length q ≡ net.width) t.permits p fits.permits wide;
      forbids = fits.forbids;
    }) h

pub forbid_fits : (net : Network) (id : ℕ) (p : Pattern) → length p ≡ net.width → IsWellFormed net → IsWellFormed (with_forbid id p net)
forbid_fits net id p wide h =
    changed_fits net id (forbidding p) (λ t. refl)
    (λ t fits. record {
      port = fits.port;
      unlinked = fits.unlinked;
      permits = fits.permits;
      forbids = All-push (λ (q : Pattern). length q ≡ net.width) t.forbids p fits.forbids wide;
    }) h

-- ---- one more link
-- the links with both directions of one between a and b
abbrev linked : ℕ → ℕ → List (ℕ × ℕ) → List (ℕ × ℕ)
linked a b links = put a b (put b a links)

pub second_absent : (a b : ℕ) (links : List (ℕ × ℕ)) → a ≢ b → value_at links a ≡ None → value_at links b ≡ None → value_at (put b a links) a ≡ None
second_absent a b links apart no_a no_b =
    value_at-put b a links a no_b
    ∙ cond-false (eqb b a) (Some a) (value_at links a) (ne_eqb b a (λ same. apart (sym same))) ∙ no_a

value_at-linked : (a b : ℕ) (links : List (ℕ × ℕ)) (q : ℕ) → a ≢ b → value_at links a ≡ None → value_at links b ≡ None
    → value_at (linked a b links) q ≡ cond (eqb a q) (Some b) (cond (eqb b q) (Some a) (value_at links q))
value_at-linked a b links q apart no_a no_b =
    value_at-put a b (put b a links) q (second_absent a b links apart no_a no_b)
    ∙ ap (λ o. cond (eqb a q) (Some b) o) (value_at-put b a links q no_b)

linked_apart : (a b : ℕ) (links : List (ℕ × ℕ)) (q : ℕ) → a ≢ b → value_at links a ≡ None → value_at links b ≡ None
    → a ≢ q → b ≢ q → value_at (linked a b links) q ≡ value_at links q
linked_apart a b links q apart no_a no_b not_a not_b =
    value_at-linked a b links q apart no_a no_b
    ∙ cond-false (eqb a q) (Some b) (cond (eqb b q) (Some a) (value_at links q)) (ne_eqb a q not_a)
    ∙ cond-false (eqb b q) (Some a) (value_at links q) (ne_eqb b q not_b)

linked_first : (a b : ℕ) (links : List (ℕ × ℕ)) → a ≢ b → value_at links a ≡ None → value_at links b ≡ None → value_at (linked a b links) a ≡ Some b
linked_first a b links apart no_a no_b =
    value_at-linked a b links a apart no_a no_b
    ∙ cond-true (eqb a a) (Some b) (cond (eqb b a) (Some a) (value_at links a)) (eq-eqb a a refl)

linked_second : (a b : ℕ) (links : List (ℕ × ℕ)) → a ≢ b → value_at links a ≡ None → value_at links b ≡ None → value_at (linked a b links) b ≡ Some a
linked_second a b links apart no_a no_b =
    value_at-linked a b links b apart no_a no_b
    ∙ cond-false (eqb a b) (Some b) (cond (eqb b b) (Some a) (value_at links b)) (ne_eqb a b apart)
    ∙ cond-true (eqb b b) (Some a) (value_at links b) (eq-eqb b b refl)

-- no number leads to one that has nothing
not_from : (net : Network) (a q r : ℕ) → IsWellFormed net → value_at net.links a ≡ None → value_at net.links q ≡ Some r → a ≢ r
not_from net a q r h none here = λ same.
    let back : value_at net.links r ≡ Some q = (h.joined q r here).back in
    let n : value_at net.links r ≡ None = subst (λ x. value_at net.links x ≡ None) same none in
    let contra : Some q ≡ None = sym back ∙ n in cc

joined_by : (net : Network) (a b : ℕ) → IsSome (value_at net.ports a) → IsSome (value_at net.ports b) → a ≢ b
    → value_at net.links a ≡ None → value_at net.links b ≡ None → IsWellFormed net
    → (q r : ℕ) → value_at (linked a b net.links) q ≡ Some r → FitsLink (with_link a b net) q r
joined_by net a b has_a has_b apart no_a no_b h q r here =
    let links = net.links in
    let first : (a ≡ q) → FitsLink (with_link a b net) q r = λ at_a.
    let to : b ≡ r = let e : value_at (linked a b links) q ≡ Some b = subst (λ x. value_at (linked a b links) x ≡ Some b) at_a (linked_first a b links apart no_a no_b) in cc in
    let Fits : ℕ → ℕ → Type 0 = λ x y. FitsLink (with_link a b net) x y in
    let f : Fits a b = record { port = has_a; other = apart; back = linked_second a b links apart no_a no_b } in
    subst (λ x. Fits x r) at_a (subst (λ y. Fits a y) to f) in
    let second : (b ≡ q) → FitsLink (with_link a b net) q r = λ at_b.
    let to : a ≡ r = let e : value_at (linked a b links) q ≡ Some a = subst (λ x. value_at (linked a b links) x ≡ Some a) at_b (linked_second a b links apart no_a no_b) in cc in
    let Fits : ℕ → ℕ → Type 0 = λ x y. FitsLink (with_link a b net) x y in
    let f : Fits b a = record { port = has_b; other = λ same. apart (sym same); back = linked_first a b links apart no_a no_b } in
    subst (λ x. Fits x r) at_b (subst (λ y. Fits b y) to f) in
    let old : (a ≢ q) → (b ≢ q) → FitsLink (with_link a b net) q r = λ not_a not_b.
    let was : value_at links q ≡ Some r = sym (linked_apart a b links q apart no_a no_b not_a not_b) ∙ here in
    let fits : FitsLink net q r = h.joined q r was in
    record {
      port = fits.port;
      other = fits.other;
      back = linked_apart a b links r apart no_a no_b (not_from net a q r h no_a was) (not_from net b q r h no_b was) ∙ fits.back;
    } in
    ⊎_elim first (λ not_a. ⊎_elim second (λ not_b. old not_a not_b) (cases_eq b q)) (cases_eq a q)

placed_by : (net : Network) (a b : ℕ) → a ≢ b → value_at net.links a ≡ None → value_at net.links b ≡ None
    → (ts : List (ℕ × Terminal)) → All (λ (t : ℕ × Terminal). t.1.port ≢ a) ts → All (λ (t : ℕ × Terminal). t.1.port ≢ b) ts
    → All (λ (t : ℕ × Terminal). FitsTerminal net t.1) ts → All (λ (t : ℕ × Terminal). FitsTerminal (with_link a b net) t.1) ts
placed_by net a b apart no_a no_b ts free_a free_b h = λ k d within.
    let t = get_or ts k d in
    let fits : FitsTerminal net t.1 = h k d within in
    record {
      port = fits.port;
      unlinked = rw (linked_apart a b net.links t.1.port apart no_a no_b (λ same. free_a k d within (sym same)) (λ same. free_b k d within (sym same))) fits.unlinked;
      permits = fits.permits;
      forbids = fits.forbids;
    }

pub link_fits : (net : Network) (a b : ℕ) → IsSome (value_at net.ports a) → IsSome (value_at net.ports b) → a ≢ b
    → value_at net.links a ≡ None → value_at net.links b ≡ None
    → list_any (λ (t : ℕ × Terminal). eqb t.1.port a) net.terminals ≡ false
    → list_any (λ (t : ℕ × Terminal). eqb t.1.port b) net.terminals ≡ false
    → IsWellFormed net → IsWellFormed (with_link a b net)
link_fits net a b has_a has_b apart no_a no_b free_a free_b h =
    let next = with_link a b net in
    let g : Grows net next = record { width = refl; boxes = λ n h. h; ports = λ p b h. h } in
    record {
      width = h.width;
      boxes = h.boxes;
      ports = h.ports;
      links = rises_put a b (put b a net.links) (second_absent a b net.links apart no_a no_b) (rises_put b a net.links no_b h.links);
      terminals = h.terminals;
      rules = h.rules;
      homes = h.homes;
      joined = joined_by net a b has_a has_b apart no_a no_b h;
      placed = placed_by net a b apart no_a no_b net.terminals (none_at a net.terminals free_a) (none_at b net.terminals free_b) h.placed;
      apart = h.apart;
      ruled = rules_kept net next net.rules g h.ruled;
    }
