-- What a builder's maps and sets are after one more part: they still fit together, and show the network with that part.
use Rattle.std.proofs.Common.{◌≡◌, ℕ, ◌<◌, true, false, not, ◌||◌, eqb, List, [], ◌∷◌, ◌++◌, length, map, Option, Some, None, Result, Ok, Err, Vec, Global, sym, refl, ap, ◌∙◌, subst, arith, rules}
use Rattle.std.specs.Prelude.{nat_eq, nat_le, ◌==◌, ◌&&◌, is_some}
use Rattle.std.specs.Option.{option_map}
use Rattle.std.specs.Result.{OnOk, OnErr, is_err}
use Rattle.std.specs.Set.{remove_key}
use Rattle.std.proofs.lemmas.Bool.{eqb-true, eqb-false, leb-false, not-false}
use Rattle.std.specs.List.{All, Contains, list_any}
use Rattle.std.specs.Ordering.{nat_cmp}
use Rattle.std.specs.BTreeMap.{BTreeMap, insert_entry, is_at}
use Rattle.std.specs.BTreeSet.{BTreeSet, insert_key}
use Rattle.std.specs.Map.{set_value, remove_entry, values_of}
use Rattle.std.proofs.lemmas.List.Elements.{All-head, All-tail}
use Rattle.std.proofs.lemmas.Map.Views.{Contains-from_any, exact_unsigned_eq}
use Rattle.list_laws.proofs.Tests.{none_at, eqb_comm, passed_by}
use Rattle.network_model.specs.Bits.{Pattern, Letter}
use Rattle.network_model.specs.Network as model
use Rattle.network_model.specs.Network.{value_at, Network}
use Rattle.network_model.specs.Building.{put, with_box, with_port, with_link, with_terminal, with_permit, with_forbid, with_rule, change_at, permitting, forbidding}
use Rattle.network_model.specs.WellFormed.{IsWellFormed}
use Rattle.net_types.specs.declared.builder.NetBuilder.TheInside.{Inside}
use Rattle.net_types.specs.declared.fault.NetFault.{NetFault}
use Rattle.network_model.specs.Limits.{most_boxes, most_ports, most_terminals, most_rules, most_permits, most_forbids}
use Rattle.net_types.specs.declared.parts.Terminal.{Terminal}
use Rattle.net_types.specs.declared.rule.Rule.{Rule}
use Rattle.net_types.specs.Built.{built, IsBuilt, by_number, terminal_model}
use Rattle.net_types.specs.Refusals.{Limit, Width, Unknown, Answers, first_of, pattern_refusal, permit_refusal, permit_refusal_at, forbid_refusal, forbid_refusal_at, has_box, has_port, is_linked, is_edge, known_in, known_out, moves_fit}
use Rattle.network_model.specs.Within.{IsWithin}
use Rattle.net_types.specs.Parts.{port_of, link_of, terminal_of, port_at, link_at, network_of}
use Rattle.net_types.specs.declared.parts.Port.{Port}
use Rattle.net_types.specs.declared.parts.Link.{Link}
use Rattle.net_types.specs.Rules.{model_of, numbered, TakesWithin}
use Rattle.net_types.specs.Terminals.{role_of}
use Rattle.model_laws.proofs.Numbered.{All-put, list_any-put, list_any-put_number, list_any-change_at, change_at-same}
use Rattle.net_types.proofs.Maps.{insert_entry-put, insert_key-put_number, by_number-put, by_number-set_value, value_at-by_number, remove_entry-put, remove_key-put_number, All-value_at, All-set_value}
use Rattle.net_types.proofs.Fits.{box_fits, port_fits, link_fits, terminal_fits, permit_fits, forbid_fits, rule_fits, fits_from_tests, second_absent}
use Rattle.net_types.proofs.Within.{box_within, port_within, link_within, terminal_within, permit_within, forbid_within, rule_within}

none_under : {X Y : Type 0} (g : X → Y) (o : Option X) → option_map g o ≡ None → o ≡ None
none_under g None h = refl
none_under g (Some x) h = absurd (cc)

absent_under : {X Y : Type 0} (g : X → Y) (es : List (ℕ × X)) (k : ℕ) → value_at (by_number g es) k ≡ None → value_at es k ≡ None
absent_under g es k h = none_under g (value_at es k) (sym (value_at-by_number g es k) ∙ h)

length-by_number : {X Y : Type 0} (g : X → Y) (es : List (ℕ × X)) → length (by_number g es) ≡ length es
length-by_number g [] = refl
length-by_number g (e ∷ es) = omega (arith, length-by_number g es)

-- ---- a box
pub box_shown : (b : Inside) (net : Network) (id : ℕ) (boxes : BTreeSet ℕ) → built b ≡ net → has_box net id ≡ false
    → boxes.keys ≡ insert_key nat_cmp b.boxes.keys id
    → built (record b { boxes = boxes }) ≡ with_box id net
box_shown b net id boxes shown absent after =
    let with_keys : List ℕ → Network = λ ks. record (built b) { boxes = ks } in
    ap with_keys (after ∙ insert_key-put_number b.boxes.keys id (ap (λ n. has_box n id) shown ∙ absent))
    ∙ ap (with_box id) shown

pub box_built : (b : Inside) (net : Network) (id : ℕ) (boxes : BTreeSet ℕ) → built b ≡ net → has_box net id ≡ false
    → boxes.keys ≡ insert_key nat_cmp b.boxes.keys id → length b.boxes.keys < most_boxes
    → IsBuilt b → IsBuilt (record b { boxes = boxes })
box_built b net id boxes shown absent after room h =
    let free : has_box (built b) id ≡ false = ap (λ n. has_box n id) shown ∙ absent in
    let is = box_shown b (built b) id boxes refl free after in
    record {
      well_formed = rw is (box_fits (built b) id free h.well_formed);
      within = rw is (box_within (built b) id room h.within);
      edges = h.edges;
      terminals = h.terminals;
      rules = h.rules;
    }

-- ---- a port
pub port_shown : (b : Inside) (net : Network) (id home : ℕ) (ports : BTreeMap ℕ ℕ) → built b ≡ net → has_port net id ≡ false
    → ports.entries ≡ insert_entry nat_cmp b.ports.entries id home
    → built (record b { ports = ports }) ≡ with_port id home net
port_shown b net id home ports shown absent after =
    let free : value_at b.ports.entries id ≡ None = none_at (value_at b.ports.entries id) (ap (λ n. has_port n id) shown ∙ absent) in
    let with_entries : List (ℕ × ℕ) → Network = λ es. record (built b) { ports = es } in
    ap with_entries (after ∙ insert_entry-put b.ports.entries id home free) ∙ ap (with_port id home) shown

pub port_built : (b : Inside) (net : Network) (id home : ℕ) (ports : BTreeMap ℕ ℕ) → built b ≡ net → has_port net id ≡ false
    → ports.entries ≡ insert_entry nat_cmp b.ports.entries id home → has_box net home ≡ true → length b.ports.entries < most_ports
    → IsBuilt b → IsBuilt (record b { ports = ports })
port_built b net id home ports shown absent after there room h =
    let free : has_port (built b) id ≡ false = ap (λ n. has_port n id) shown ∙ absent in
    let is = port_shown b (built b) id home ports refl free after in
    let box : Contains b.boxes.keys home = Contains-from_any exact_unsigned_eq home b.boxes.keys (ap (λ n. has_box n home) shown ∙ there) in
    record {
      well_formed = rw is (port_fits (built b) id home (none_at (value_at b.ports.entries id) free) box h.well_formed);
      within = rw is (port_within (built b) id home room h.within);
      edges = h.edges;
      terminals = h.terminals;
      rules = h.rules;
    }

-- ---- a rule
rule_map_shown : (b : Inside) (id : ℕ) (rule : Rule) (rules : BTreeMap ℕ Rule) → value_at (built b).rules id ≡ None
    → rules.entries ≡ insert_entry nat_cmp b.rules.entries id rule
    → by_number model_of rules.entries ≡ put id (model_of rule) (built b).rules
rule_map_shown b id rule rules absent after =
    let free : value_at b.rules.entries id ≡ None = absent_under model_of b.rules.entries id absent in
    ap (by_number model_of) (after ∙ insert_entry-put b.rules.entries id rule free) ∙ by_number-put model_of b.rules.entries id rule

pub rule_shown : (b : Inside) (net : Network) (id : ℕ) (rule : Rule) (rules : BTreeMap ℕ Rule) → built b ≡ net
    → is_some (value_at net.rules id) ≡ false → rules.entries ≡ insert_entry nat_cmp b.rules.entries id rule
    → built (record b { rules = rules }) ≡ with_rule id (model_of rule) net
rule_shown b net id rule rules shown absent after =
    let free : value_at (built b).rules id ≡ None = none_at (value_at (built b).rules id) (ap (λ (n : Network). is_some (value_at n.rules id)) shown ∙ absent) in
    let with_rules : List model.Numbered → Network = λ es. record (built b) { rules = es } in
    ap with_rules (rule_map_shown b id rule rules free after) ∙ ap (with_rule id (model_of rule)) shown

pub rule_built : (b : Inside) (net : Network) (id : ℕ) (rule : Rule) (rules : BTreeMap ℕ Rule) → built b ≡ net
    → is_some (value_at net.rules id) ≡ false → rules.entries ≡ insert_entry nat_cmp b.rules.entries id rule
    → (has_box net (model_of rule).at && (known_in net (model_of rule).at (model_of rule).inp && known_out net (model_of rule).at (model_of rule).action)) ≡ true
    → ((length (model_of rule).pattern == net.width) && moves_fit net.width (model_of rule).action) ≡ true
    → TakesWithin net.width (model_of rule).action → rule.id ≡ id → length b.rules.entries < most_rules
    → IsBuilt b → IsBuilt (record b { rules = rules })
rule_built b net id rule rules shown absent after places wide taken own room h =
    let IsOwn : ℕ × Rule → Type 0 = λ e. e.1.id ≡ e.0 in
    let is : built (record b { rules = rules }) ≡ with_rule id (model_of rule) net = rule_shown b net id rule rules shown absent after in
    let fits = fits_from_tests net (model_of rule) places wide taken in
    let formed : IsWellFormed net = subst IsWellFormed shown h.well_formed in
    let within : IsWithin net = subst IsWithin shown h.within in
    let few : length net.rules < most_rules = subst (λ (n : Network). length n.rules < most_rules) shown (rw length-by_number room) in
    let gone : value_at b.rules.entries id ≡ None =
    absent_under model_of b.rules.entries id
    (none_at (value_at (built b).rules id) (ap (λ (n : Network). is_some (value_at n.rules id)) shown ∙ absent)) in
    record {
      well_formed = rw is (rule_fits net id (model_of rule) (none_at (value_at net.rules id) absent) fits formed);
      within = rw is (rule_within net id (model_of rule) few within);
      edges = h.edges;
      terminals = h.terminals;
      rules = rw (after ∙ insert_entry-put b.rules.entries id rule gone) (All-put IsOwn id rule b.rules.entries own h.rules);
    }

-- ---- a link
pub link_shown : (b : Inside) (net : Network) (p q : ℕ) (first links : BTreeMap ℕ ℕ) → built b ≡ net
    → (p == q) ≡ false → is_linked net p ≡ false → is_linked net q ≡ false
    → first.entries ≡ insert_entry nat_cmp b.links.entries q p → links.entries ≡ insert_entry nat_cmp first.entries p q
    → built (record b { links = links }) ≡ with_link p q net
link_shown b net p q first links shown apart free_p free_q one two =
    let no_p : value_at b.links.entries p ≡ None = none_at (value_at b.links.entries p) (ap (λ n. is_linked n p) shown ∙ free_p) in
    let no_q : value_at b.links.entries q ≡ None = none_at (value_at b.links.entries q) (ap (λ n. is_linked n q) shown ∙ free_q) in
    let put_one : first.entries ≡ put q p b.links.entries = one ∙ insert_entry-put b.links.entries q p no_q in
    let still : value_at first.entries p ≡ None =
    rw put_one (second_absent p q b.links.entries (eqb-false p q apart) no_p no_q) in
    let put_two : links.entries ≡ put p q (put q p b.links.entries) =
    two ∙ insert_entry-put first.entries p q still ∙ ap (put p q) put_one in
    let with_links : List (ℕ × ℕ) → Network = λ es. record (built b) { links = es } in
    ap with_links put_two ∙ ap (with_link p q) shown

pub link_built : (b : Inside) (net : Network) (p q : ℕ) (first links : BTreeMap ℕ ℕ) → built b ≡ net
    → (p == q) ≡ false → is_linked net p ≡ false → is_linked net q ≡ false
    → first.entries ≡ insert_entry nat_cmp b.links.entries q p → links.entries ≡ insert_entry nat_cmp first.entries p q
    → has_port net p ≡ true → has_port net q ≡ true → is_edge net p ≡ false → is_edge net q ≡ false
    → IsBuilt b → IsBuilt (record b { links = links })
link_built b net p q first links shown apart free_p free_q one two has_p has_q bare_p bare_q h =
    let is : built (record b { links = links }) ≡ with_link p q net = link_shown b net p q first links shown apart free_p free_q one two in
    let formed : IsWellFormed net = subst IsWellFormed shown h.well_formed in
    let within : IsWithin net = subst IsWithin shown h.within in
    record {
      well_formed = rw is (link_fits net p q has_p has_q (eqb-false p q apart)
          (none_at (value_at net.links p) free_p) (none_at (value_at net.links q) free_q) bare_p bare_q formed);
      within = rw is (link_within net p q within);
      edges = h.edges;
      terminals = h.terminals;
      rules = h.rules;
    }

-- links as they were
pub same_links : (b : Inside) (links : BTreeMap ℕ ℕ) → links.entries ≡ b.links.entries → built (record b { links = links }) ≡ built b
same_links b links same =
    let with_links : List (ℕ × ℕ) → Network = λ es. record (built b) { links = es } in
    ap with_links same

pub same_links_built : (b : Inside) (links : BTreeMap ℕ ℕ) → links.entries ≡ b.links.entries → IsBuilt b → IsBuilt (record b { links = links })
same_links_built b links same h = record {
  well_formed = rw (same_links b links same) h.well_formed;
  within = rw (same_links b links same) h.within;
  edges = h.edges;
  terminals = h.terminals;
  rules = h.rules;
}

-- one direction that is put and taken out again
pub link_undone : (b : Inside) (net : Network) (p q : ℕ) (first second last : BTreeMap ℕ ℕ) → built b ≡ net → is_linked net q ≡ false
    → first.entries ≡ insert_entry nat_cmp b.links.entries q p → second.entries ≡ first.entries
    → last.entries ≡ remove_entry (is_at (nat_cmp q)) second.entries → last.entries ≡ b.links.entries
link_undone b net p q first second last shown free one same taken =
    let no_q : value_at b.links.entries q ≡ None = none_at (value_at b.links.entries q) (ap (λ n. is_linked n q) shown ∙ free) in
    taken ∙ ap (remove_entry (is_at (nat_cmp q))) (same ∙ one ∙ insert_entry-put b.links.entries q p no_q) ∙ remove_entry-put b.links.entries q p no_q

-- ---- what a call ensures, by what `is_err` said of its result
pub after_ok : {T E : Type 0} (r : Result T E) (P : Type 0) → is_err r ≡ false → OnOk r P → P
after_ok (Ok x) P good h = h
after_ok (Err e) P good h = absurd (cc)

pub after_err : {T E : Type 0} (r : Result T E) (P : Type 0) → is_err r ≡ true → OnErr r P → P
after_err (Ok x) P bad h = absurd (cc)
after_err (Err e) P bad h = h

-- ---- a terminal
terminal_map_shown : (b : Inside) (id : ℕ) (t : Terminal) (terminals : BTreeMap ℕ Terminal) → value_at (built b).terminals id ≡ None
    → terminals.entries ≡ insert_entry nat_cmp b.terminals.entries id t
    → by_number terminal_model terminals.entries ≡ put id (terminal_model t) (built b).terminals
terminal_map_shown b id t terminals absent after =
    let free : value_at b.terminals.entries id ≡ None = absent_under terminal_model b.terminals.entries id absent in
    ap (by_number terminal_model) (after ∙ insert_entry-put b.terminals.entries id t free) ∙ by_number-put terminal_model b.terminals.entries id t

pub terminal_shown : (b : Inside) (net : Network) (id port : ℕ) (t : Terminal) (terminals : BTreeMap ℕ Terminal) (edges : BTreeSet ℕ) → built b ≡ net
    → is_some (value_at net.terminals id) ≡ false → terminals.entries ≡ insert_entry nat_cmp b.terminals.entries id t
    → t.port ≡ port → t.permits.items ≡ [] → t.forbids.items ≡ []
    → built (record b { terminals = terminals; edges = edges }) ≡ with_terminal id port (role_of t.role) net
terminal_shown b net id port t terminals edges shown absent after stands no_permits no_forbids =
    let free : value_at (built b).terminals id ≡ None =
    none_at (value_at (built b).terminals id) (ap (λ (n : Network). is_some (value_at n.terminals id)) shown ∙ absent) in
    let with_terminals : List (ℕ × model.Terminal) → Network = λ es. record (built b) { terminals = es } in
    let as_new : ℕ → List Pattern → List Pattern → model.Terminal =
    λ p permits forbids. record { port = p; role = role_of t.role; permits = permits; forbids = forbids } in
    let new : terminal_model t ≡ as_new port [] [] =
    ap (λ p. as_new p t.permits.items t.forbids.items) stands
    ∙ ap (λ ps. as_new port ps t.forbids.items) no_permits ∙ ap (λ ps. as_new port [] ps) no_forbids in
    ap with_terminals (terminal_map_shown b id t terminals free after ∙ ap (λ x. put id x (built b).terminals) new)
    ∙ ap (with_terminal id port (role_of t.role)) shown

edge_added : (b : Inside) (net : Network) (id port : ℕ) (role : model.Role) (edges : BTreeSet ℕ) (p : ℕ) → built b ≡ net
    → edges.keys ≡ insert_key nat_cmp b.edges.keys port → is_edge net port ≡ false
    → ((q : ℕ) → list_any (nat_eq q) b.edges.keys ≡ is_edge (built b) q)
    → list_any (nat_eq p) edges.keys ≡ is_edge (with_terminal id port role net) p
edge_added b net id port role edges p shown edged bare old =
    let new : model.Terminal = record { port = port; role = role; permits = []; forbids = [] } in
    let same : (q : ℕ) → list_any (nat_eq q) b.edges.keys ≡ is_edge net q = λ q. old q ∙ ap (λ n. is_edge n q) shown in
    ap (list_any (nat_eq p)) (edged ∙ insert_key-put_number b.edges.keys port (same port ∙ bare))
    ∙ list_any-put_number (nat_eq p) port b.edges.keys
    ∙ ap (λ x. x || list_any (nat_eq p) b.edges.keys) (eqb_comm p port)
    ∙ ap (λ x. eqb port p || x) (same p)
    ∙ sym (list_any-put (λ (t : ℕ × model.Terminal). eqb t.1.port p) id new net.terminals)

pub terminal_built : (b : Inside) (net : Network) (id port : ℕ) (t : Terminal) (terminals : BTreeMap ℕ Terminal) (edges : BTreeSet ℕ) → built b ≡ net
    → is_some (value_at net.terminals id) ≡ false → terminals.entries ≡ insert_entry nat_cmp b.terminals.entries id t
    → t.port ≡ port → t.permits.items ≡ [] → t.forbids.items ≡ []
    → edges.keys ≡ insert_key nat_cmp b.edges.keys port → t.id ≡ id
    → has_port net port ≡ true → is_edge net port ≡ false → is_linked net port ≡ false → length b.terminals.entries < most_terminals
    → IsBuilt b → IsBuilt (record b { terminals = terminals; edges = edges })
terminal_built b net id port t terminals edges shown absent after stands no_permits no_forbids edged own there bare unlinked room h =
    let is : built (record b { terminals = terminals; edges = edges }) ≡ with_terminal id port (role_of t.role) net =
    terminal_shown b net id port t terminals edges shown absent after stands no_permits no_forbids in
    let formed : IsWellFormed net = subst IsWellFormed shown h.well_formed in
    let within : IsWithin net = subst IsWithin shown h.within in
    let few : length net.terminals < most_terminals =
    subst (λ (n : Network). length n.terminals < most_terminals) shown (rw length-by_number room) in
    let IsOwn : ℕ × Terminal → Type 0 = λ e. e.1.id ≡ e.0 in
    let gone : value_at b.terminals.entries id ≡ None =
    absent_under terminal_model b.terminals.entries id
    (none_at (value_at (built b).terminals id) (ap (λ (n : Network). is_some (value_at n.terminals id)) shown ∙ absent)) in
    record {
      well_formed = rw is (terminal_fits net id port (role_of t.role) (none_at (value_at net.terminals id) absent) there bare unlinked formed);
      within = rw is (terminal_within net id port (role_of t.role) few within);
      edges = λ p. edge_added b net id port (role_of t.role) edges p shown edged bare h.edges ∙ sym (ap (λ n. is_edge n p) is);
      terminals = rw (after ∙ insert_entry-put b.terminals.entries id t gone) (All-put IsOwn id t b.terminals.entries own h.terminals);
      rules = h.rules;
    }

-- terminals and edges as they were
pub same_terminals : (b : Inside) (terminals : BTreeMap ℕ Terminal) (edges : BTreeSet ℕ) → terminals.entries ≡ b.terminals.entries
    → built (record b { terminals = terminals; edges = edges }) ≡ built b
same_terminals b terminals edges same =
    let with_terminals : List (ℕ × Terminal) → Network = λ es. record (built b) { terminals = by_number terminal_model es } in
    ap with_terminals same

pub same_terminals_built : (b : Inside) (terminals : BTreeMap ℕ Terminal) (edges : BTreeSet ℕ) → terminals.entries ≡ b.terminals.entries
    → edges.keys ≡ b.edges.keys → IsBuilt b → IsBuilt (record b { terminals = terminals; edges = edges })
same_terminals_built b terminals edges same edged h =
    let is = same_terminals b terminals edges same in
    record {
      well_formed = rw is h.well_formed;
      within = rw is h.within;
      edges = λ p. ap (list_any (nat_eq p)) edged ∙ h.edges p ∙ sym (ap (λ n. is_edge n p) is);
      terminals = rw same h.terminals;
      rules = h.rules;
    }

-- an edge that is put and taken out again
pub edge_undone : (b : Inside) (net : Network) (port : ℕ) (first last : BTreeSet ℕ) → built b ≡ net → is_edge net port ≡ false
    → first.keys ≡ insert_key nat_cmp b.edges.keys port → last.keys ≡ remove_key (is_at (nat_cmp port)) first.keys
    → IsBuilt b → last.keys ≡ b.edges.keys
edge_undone b net port first last shown bare one taken h =
    let free : list_any (nat_eq port) b.edges.keys ≡ false = h.edges port ∙ ap (λ n. is_edge n port) shown ∙ bare in
    taken ∙ ap (remove_key (is_at (nat_cmp port))) (one ∙ insert_key-put_number b.edges.keys port free) ∙ remove_key-put_number b.edges.keys port free

-- ---- a terminal that changes
pub changed_shown : (b : Inside) (net : Network) (id : ℕ) (f : model.Terminal → model.Terminal) (v w : Terminal) (terminals : BTreeMap ℕ Terminal) → built b ≡ net
    → IsBuilt b → value_at b.terminals.entries id ≡ Some v → terminals.entries ≡ set_value (is_at (nat_cmp id)) b.terminals.entries w
    → terminal_model w ≡ f (terminal_model v)
    → built (record b { terminals = terminals }) ≡ record net { terminals = change_at id f net.terminals }
changed_shown b net id f v w terminals shown h here after same =
    let with_terminals : List (ℕ × model.Terminal) → Network = λ es. record (built b) { terminals = es } in
    let changed : Network → Network = λ n. record n { terminals = change_at id f n.terminals } in
    ap with_terminals (ap (by_number terminal_model) after ∙ by_number-set_value terminal_model f b.terminals.entries id v w h.well_formed.terminals here same)
    ∙ ap changed shown

changed_built : (b : Inside) (net next : Network) (id : ℕ) (f : model.Terminal → model.Terminal) (v w : Terminal) (terminals : BTreeMap ℕ Terminal) → built b ≡ net
    → IsBuilt b → value_at b.terminals.entries id ≡ Some v → terminals.entries ≡ set_value (is_at (nat_cmp id)) b.terminals.entries w
    → ((t : model.Terminal) → (f t).port ≡ t.port) → w.id ≡ v.id
    → next ≡ record net { terminals = change_at id f net.terminals } → built (record b { terminals = terminals }) ≡ next → IsWellFormed next → IsWithin next
    → IsBuilt (record b { terminals = terminals })
changed_built b net next id f v w terminals shown h here after port own made is formed within =
    let IsOwn : ℕ × Terminal → Type 0 = λ e. e.1.id ≡ e.0 in
    record {
      well_formed = rw is formed;
      within = rw is within;
      edges = λ p.
          h.edges p ∙ ap (λ n. is_edge n p) shown
          ∙ sym (list_any-change_at (λ (t : ℕ × model.Terminal). eqb t.1.port p) id f net.terminals (λ e. ap (λ q. eqb q p) (port e.1)))
          ∙ sym (ap (λ n. is_edge n p) (is ∙ made));
      terminals = rw after (All-set_value IsOwn b.terminals.entries id w (own ∙ All-value_at IsOwn b.terminals.entries id v h.terminals here) h.terminals);
      rules = h.rules;
    }

-- what it says that no refusal is due
room_and_width : (most had width : ℕ) (p : Pattern) → pattern_refusal most had width p ≡ None → (had < most) × (length p ≡ width)
room_and_width most had width p due =
    let full = passed_by (nat_le most had) Limit (first_of ((not (length p == width), Width) ∷ [])) due in
    let wide = passed_by (not (length p == width)) Width None full.1 in
    (leb-false most had full.0, eqb-true (length p) width (not-false (length p == width) wide.0))

-- a terminal with the same patterns as before
pub kept_shown : (b : Inside) (net : Network) (id : ℕ) (v w : Terminal) (terminals : BTreeMap ℕ Terminal) → built b ≡ net
    → IsBuilt b → value_at b.terminals.entries id ≡ Some v → terminals.entries ≡ set_value (is_at (nat_cmp id)) b.terminals.entries w
    → terminal_model w ≡ terminal_model v → built (record b { terminals = terminals }) ≡ net
kept_shown b net id v w terminals shown h here after same =
    let with_terminals : List (ℕ × model.Terminal) → Network = λ es. record net { terminals = es } in
    changed_shown b net id (λ t. t) v w terminals shown h here after same ∙ ap with_terminals (change_at-same id net.terminals)

pub kept_built : (b : Inside) (net : Network) (id : ℕ) (v w : Terminal) (terminals : BTreeMap ℕ Terminal) → built b ≡ net
    → IsBuilt b → value_at b.terminals.entries id ≡ Some v → terminals.entries ≡ set_value (is_at (nat_cmp id)) b.terminals.entries w
    → terminal_model w ≡ terminal_model v → w.id ≡ v.id → IsBuilt (record b { terminals = terminals })
kept_built b net id v w terminals shown h here after same own =
    let with_terminals : List (ℕ × model.Terminal) → Network = λ es. record net { terminals = es } in
    changed_built b net net id (λ t. t) v w terminals shown h here after (λ t. refl) own
    (sym (ap with_terminals (change_at-same id net.terminals))) (kept_shown b net id v w terminals shown h here after same)
    (subst IsWellFormed shown h.well_formed) (subst IsWithin shown h.within)

-- the terminal that stands under the number
pub model_at : (b : Inside) (net : Network) (id : ℕ) (v : Terminal) → built b ≡ net → value_at b.terminals.entries id ≡ Some v
    → value_at net.terminals id ≡ Some (terminal_model v)
model_at b net id v shown here =
    sym (ap (λ (n : Network). value_at n.terminals id) shown)
    ∙ value_at-by_number terminal_model b.terminals.entries id ∙ ap (option_map terminal_model) here

-- ---- a permit
abbrev pub with_permits : Terminal → Vec (List Letter) Global → Terminal
with_permits v ps = record v { permits = ps }

permit_built : (b : Inside) (net : Network) (id : ℕ) (p : Pattern) (v : Terminal) (ps : Vec (List Letter) Global) (terminals : BTreeMap ℕ Terminal) → built b ≡ net
    → IsBuilt b → value_at b.terminals.entries id ≡ Some v → terminals.entries ≡ set_value (is_at (nat_cmp id)) b.terminals.entries (with_permits v ps)
    → ps.items ≡ v.permits.items ++ p ∷ [] → pattern_refusal most_permits (length v.permits.items) b.bits p ≡ None
    → IsBuilt (record b { terminals = terminals })
permit_built b net id p v ps terminals shown h here after more due =
    let w = with_permits v ps in
    let fits = room_and_width most_permits (length v.permits.items) b.bits p due in
    let formed : IsWellFormed net = subst IsWellFormed shown h.well_formed in
    let within : IsWithin net = subst IsWithin shown h.within in
    let with_list : List Pattern → model.Terminal = λ xs. record (terminal_model v) { permits = xs } in
    let same : terminal_model w ≡ permitting p (terminal_model v) = ap with_list more in
    changed_built b net (with_permit id p net) id (permitting p) v w terminals shown h here after (λ t. refl) refl refl
    (changed_shown b net id (permitting p) v w terminals shown h here after same)
    (permit_fits net id p (fits.1 ∙ ap (λ (n : Network). n.width) shown) formed)
    (permit_within net id p (terminal_model v) formed.terminals (model_at b net id v shown here) fits.0 within)

-- what is due, where the terminal is there
pub permit_due : (b : Inside) (net : Network) (id : ℕ) (p : Pattern) (v : Terminal) → built b ≡ net → value_at b.terminals.entries id ≡ Some v
    → permit_refusal net id p ≡ pattern_refusal most_permits (length v.permits.items) b.bits p
permit_due b net id p v shown here =
    ap (λ o. permit_refusal_at net.width o p) (model_at b net id v shown here)
    ∙ ap (λ n. pattern_refusal most_permits (length v.permits.items) n p) (sym (ap (λ (n : Network). n.width) shown))

pub permit_unknown : (b : Inside) (net : Network) (id : ℕ) (p : Pattern) → built b ≡ net → value_at b.terminals.entries id ≡ None
    → permit_refusal net id p ≡ Some Unknown
permit_unknown b net id p shown gone =
    ap (λ o. permit_refusal_at net.width o p)
    (sym (ap (λ (n : Network). value_at n.terminals id) shown)
    ∙ value_at-by_number terminal_model b.terminals.entries id ∙ ap (option_map terminal_model) gone)

-- the answer r is Ok or a refusal, and the list grew or stayed
pub permit_step_built : (b : Inside) (net : Network) (id : ℕ) (p : Pattern) (v : Terminal) (ps : Vec (List Letter) Global) (terminals : BTreeMap ℕ Terminal)
    (r : Result (Unit {0}) NetFault) → built b ≡ net
    → IsBuilt b → value_at b.terminals.entries id ≡ Some v → terminals.entries ≡ set_value (is_at (nat_cmp id)) b.terminals.entries (with_permits v ps)
    → Answers r (pattern_refusal most_permits (length v.permits.items) b.bits p)
    → OnOk r (ps.items ≡ v.permits.items ++ p ∷ []) → OnErr r (ps.items ≡ v.permits.items)
    → IsBuilt (record b { terminals = terminals })
permit_step_built b net id p v ps terminals (Ok x) shown h here after answer ok err = permit_built b net id p v ps terminals shown h here after ok answer
permit_step_built b net id p v ps terminals (Err fault) shown h here after answer ok err =
    let with_list : List Pattern → model.Terminal = λ xs. record (terminal_model v) { permits = xs } in
    kept_built b net id v (with_permits v ps) terminals shown h here after (ap with_list err) refl

pub permit_step_ok : (b : Inside) (net : Network) (id : ℕ) (p : Pattern) (v : Terminal) (ps : Vec (List Letter) Global) (terminals : BTreeMap ℕ Terminal)
    (r : Result (Unit {0}) NetFault) → built b ≡ net
    → IsBuilt b → value_at b.terminals.entries id ≡ Some v → terminals.entries ≡ set_value (is_at (nat_cmp id)) b.terminals.entries (with_permits v ps)
    → OnOk r (ps.items ≡ v.permits.items ++ p ∷ []) → OnOk r (built (record b { terminals = terminals }) ≡ with_permit id p net)
permit_step_ok b net id p v ps terminals (Ok x) shown h here after ok =
    let with_list : List Pattern → model.Terminal = λ xs. record (terminal_model v) { permits = xs } in
    changed_shown b net id (permitting p) v (with_permits v ps) terminals shown h here after (ap with_list ok)
permit_step_ok b net id p v ps terminals (Err fault) shown h here after ok = tt

pub permit_step_err : (b : Inside) (net : Network) (id : ℕ) (p : Pattern) (v : Terminal) (ps : Vec (List Letter) Global) (terminals : BTreeMap ℕ Terminal)
    (r : Result (Unit {0}) NetFault) → built b ≡ net
    → IsBuilt b → value_at b.terminals.entries id ≡ Some v → terminals.entries ≡ set_value (is_at (nat_cmp id)) b.terminals.entries (with_permits v ps)
    → OnErr r (ps.items ≡ v.permits.items) → OnErr r (built (record b { terminals = terminals }) ≡ net)
permit_step_err b net id p v ps terminals (Ok x) shown h here after err = tt
permit_step_err b net id p v ps terminals (Err fault) shown h here after err =
    let with_list : List Pattern → model.Terminal = λ xs. record (terminal_model v) { permits = xs } in
    kept_shown b net id v (with_permits v ps) terminals shown h here after (ap with_list err)

-- ---- a forbidden pattern
abbrev pub with_forbids : Terminal → Vec (List Letter) Global → Terminal
with_forbids v ps = record v { forbids = ps }

forbid_built : (b : Inside) (net : Network) (id : ℕ) (p : Pattern) (v : Terminal) (ps : Vec (List Letter) Global) (terminals : BTreeMap ℕ Terminal) → built b ≡ net
    → IsBuilt b → value_at b.terminals.entries id ≡ Some v → terminals.entries ≡ set_value (is_at (nat_cmp id)) b.terminals.entries (with_forbids v ps)
    → ps.items ≡ v.forbids.items ++ p ∷ [] → pattern_refusal most_forbids (length v.forbids.items) b.bits p ≡ None
    → IsBuilt (record b { terminals = terminals })
forbid_built b net id p v ps terminals shown h here after more due =
    let w = with_forbids v ps in
    let fits = room_and_width most_forbids (length v.forbids.items) b.bits p due in
    let formed : IsWellFormed net = subst IsWellFormed shown h.well_formed in
    let within : IsWithin net = subst IsWithin shown h.within in
    let with_list : List Pattern → model.Terminal = λ xs. record (terminal_model v) { forbids = xs } in
    let same : terminal_model w ≡ forbidding p (terminal_model v) = ap with_list more in
    changed_built b net (with_forbid id p net) id (forbidding p) v w terminals shown h here after (λ t. refl) refl refl
    (changed_shown b net id (forbidding p) v w terminals shown h here after same)
    (forbid_fits net id p (fits.1 ∙ ap (λ (n : Network). n.width) shown) formed)
    (forbid_within net id p (terminal_model v) formed.terminals (model_at b net id v shown here) fits.0 within)

-- what is due, where the terminal is there
pub forbid_due : (b : Inside) (net : Network) (id : ℕ) (p : Pattern) (v : Terminal) → built b ≡ net → value_at b.terminals.entries id ≡ Some v
    → forbid_refusal net id p ≡ pattern_refusal most_forbids (length v.forbids.items) b.bits p
forbid_due b net id p v shown here =
    ap (λ o. forbid_refusal_at net.width o p) (model_at b net id v shown here)
    ∙ ap (λ n. pattern_refusal most_forbids (length v.forbids.items) n p) (sym (ap (λ (n : Network). n.width) shown))

pub forbid_unknown : (b : Inside) (net : Network) (id : ℕ) (p : Pattern) → built b ≡ net → value_at b.terminals.entries id ≡ None
    → forbid_refusal net id p ≡ Some Unknown
forbid_unknown b net id p shown gone =
    ap (λ o. forbid_refusal_at net.width o p)
    (sym (ap (λ (n : Network). value_at n.terminals id) shown)
    ∙ value_at-by_number terminal_model b.terminals.entries id ∙ ap (option_map terminal_model) gone)

-- the answer r is Ok or a refusal, and the list grew or stayed
pub forbid_step_built : (b : Inside) (net : Network) (id : ℕ) (p : Pattern) (v : Terminal) (ps : Vec (List Letter) Global) (terminals : BTreeMap ℕ Terminal)
    (r : Result (Unit {0}) NetFault) → built b ≡ net
    → IsBuilt b → value_at b.terminals.entries id ≡ Some v → terminals.entries ≡ set_value (is_at (nat_cmp id)) b.terminals.entries (with_forbids v ps)
    → Answers r (pattern_refusal most_forbids (length v.forbids.items) b.bits p)
    → OnOk r (ps.items ≡ v.forbids.items ++ p ∷ []) → OnErr r (ps.items ≡ v.forbids.items)
    → IsBuilt (record b { terminals = terminals })
forbid_step_built b net id p v ps terminals (Ok x) shown h here after answer ok err = forbid_built b net id p v ps terminals shown h here after ok answer
forbid_step_built b net id p v ps terminals (Err fault) shown h here after answer ok err =
    let with_list : List Pattern → model.Terminal = λ xs. record (terminal_model v) { forbids = xs } in
    kept_built b net id v (with_forbids v ps) terminals shown h here after (ap with_list err) refl

pub forbid_step_ok : (b : Inside) (net : Network) (id : ℕ) (p : Pattern) (v : Terminal) (ps : Vec (List Letter) Global) (terminals : BTreeMap ℕ Terminal)
    (r : Result (Unit {0}) NetFault) → built b ≡ net
    → IsBuilt b → value_at b.terminals.entries id ≡ Some v → terminals.entries ≡ set_value (is_at (nat_cmp id)) b.terminals.entries (with_forbids v ps)
    → OnOk r (ps.items ≡ v.forbids.items ++ p ∷ []) → OnOk r (built (record b { terminals = terminals }) ≡ with_forbid id p net)
forbid_step_ok b net id p v ps terminals (Ok x) shown h here after ok =
    let with_list : List Pattern → model.Terminal = λ xs. record (terminal_model v) { forbids = xs } in
    changed_shown b net id (forbidding p) v (with_forbids v ps) terminals shown h here after (ap with_list ok)
forbid_step_ok b net id p v ps terminals (Err fault) shown h here after ok = tt

pub forbid_step_err : (b : Inside) (net : Network) (id : ℕ) (p : Pattern) (v : Terminal) (ps : Vec (List Letter) Global) (terminals : BTreeMap ℕ Terminal)
    (r : Result (Unit {0}) NetFault) → built b ≡ net
    → IsBuilt b → value_at b.terminals.entries id ≡ Some v → terminals.entries ≡ set_value (is_at (nat_cmp id)) b.terminals.entries (with_forbids v ps)
    → OnErr r (ps.items ≡ v.forbids.items) → OnErr r (built (record b { terminals = terminals }) ≡ net)
forbid_step_err b net id p v ps terminals (Ok x) shown h here after err = tt
forbid_step_err b net id p v ps terminals (Err fault) shown h here after err =
    let with_list : List Pattern → model.Terminal = λ xs. record (terminal_model v) { forbids = xs } in
    kept_shown b net id v (with_forbids v ps) terminals shown h here after (ap with_list err)

-- ---- all parts, as lists
ports_listed : (es : List (ℕ × ℕ)) → map port_of (map port_at es) ≡ es
ports_listed [] = refl
ports_listed (e ∷ es) = ap (λ xs. e ∷ xs) (ports_listed es)

links_listed : (es : List (ℕ × ℕ)) → map link_of (map link_at es) ≡ es
links_listed [] = refl
links_listed (e ∷ es) = ap (λ xs. e ∷ xs) (links_listed es)

terminals_listed : (es : List (ℕ × Terminal)) → All (λ (e : ℕ × Terminal). e.1.id ≡ e.0) es → map terminal_of (values_of es) ≡ by_number terminal_model es
terminals_listed [] h = refl
terminals_listed (e ∷ es) h =
    let IsOwn : ℕ × Terminal → Type 0 = λ e. e.1.id ≡ e.0 in
    let rest = by_number terminal_model es in
    let with_number : ℕ → List (ℕ × model.Terminal) = λ n. (n, terminal_model e.1) ∷ rest in
    ap (λ xs. terminal_of e.1 ∷ xs) (terminals_listed es (All-tail IsOwn e es h)) ∙ ap with_number (All-head IsOwn e es h)

rules_listed : (es : List (ℕ × Rule)) → All (λ (e : ℕ × Rule). e.1.id ≡ e.0) es → map numbered (values_of es) ≡ by_number model_of es
rules_listed [] h = refl
rules_listed (e ∷ es) h =
    let IsOwn : ℕ × Rule → Type 0 = λ e. e.1.id ≡ e.0 in
    let rest = by_number model_of es in
    let with_number : ℕ → List model.Numbered = λ n. (n, model_of e.1) ∷ rest in
    ap (λ xs. numbered e.1 ∷ xs) (rules_listed es (All-tail IsOwn e es h)) ∙ ap with_number (All-head IsOwn e es h)

pub listed : (b : Inside) (boxes : Vec ℕ Global) (ports : Vec Port Global) (links : Vec Link Global) (terminals : Vec Terminal Global) (rules : Vec Rule Global)
    → IsBuilt b → boxes.items ≡ b.boxes.keys → ports.items ≡ map port_at b.ports.entries → links.items ≡ map link_at b.links.entries
    → terminals.items ≡ values_of b.terminals.entries → rules.items ≡ values_of b.rules.entries
    → network_of (record { bits = b.bits; boxes = boxes; ports = ports; links = links; terminals = terminals }) rules.items ≡ built b
listed b boxes ports links terminals rules h as_boxes as_ports as_links as_terminals as_rules =
    let p = ap (map port_of) as_ports ∙ ports_listed b.ports.entries in
    let l = ap (map link_of) as_links ∙ links_listed b.links.entries in
    let t = ap (map terminal_of) as_terminals ∙ terminals_listed b.terminals.entries h.terminals in
    let r = ap (map numbered) as_rules ∙ rules_listed b.rules.entries h.rules in
    cc
