-- The declarations so far and the network so far answer each test alike, so they refuse the same.
--     Agrees          each test of the declarations has the answer of the network
--     Agrees-empty    without declarations
--     Agrees-more     with one more that the network takes
--     refusal-due     both refuse a declaration alike
use Rattle.std.proofs.Common.{◌≡◌, ℕ, ◌+◌, Bool, true, false, cond, not, ◌||◌, ◌&&◌, List, [], ◌∷◌, ◌++◌, length, Option, Some, None, sym, ap, ◌∙◌, refl, add-zero, arith, eqb, leb}
use Rattle.std.specs.List.{list_any, count_by}
use Rattle.std.specs.Option.{is_some}
use Rattle.std.proofs.lemmas.Bool.{eqb-true, false≢true, or_parts}
use Rattle.std.proofs.lemmas.List.{length_push}
use Rattle.std.proofs.Math.Bool.{or_comm, or-false}
use Rattle.model_laws.proofs.Numbered.{list_any-put_number, length-put_number, list_any-put, length-put, length-change_at}
use Rattle.list_laws.proofs.Tests.{passed_by, none_at, eqb_comm}
use Rattle.network_model.specs.Bits.{Pattern}
use Rattle.network_model.specs.Network.{Network, Terminal, Rule, InPort, AnyPort, OnePort, Action, Drop, Out, Role, value_at, is_at}
use Rattle.network_model.specs.Building.{empty, put, permitting, forbidding}
use Rattle.network_model.specs.Limits.{most_permits, most_forbids}
use Rattle.net_types.specs.Refusals.{Refusal, Unknown, Limit, Width, first_of, has_box, has_port, has_port_at, is_linked, is_edge, permit_refusal_at, forbid_refusal_at, known_in, known_out}
use Rattle.net_text.specs.Declarations as text
use Rattle.net_text.specs.Declarations.{Declaration, DeclareBox, DeclarePort, DeclareLink, DeclareTerminal, DeclarePermit, DeclareForbid, DeclareRule, is_any_box, is_box, is_any_port, is_port, is_port_at, links, is_any_terminal, is_terminal, permits_at, forbids_at, is_any_rule, is_rule, refusal}
use Rattle.net_text.specs.Text.{declare}
use Rattle.net_text.specs.Building.{due}
use Rattle.net_text.proofs.Parts.{any_push, count_push, value_at_put, changed, value_at_change, any_change}

-- how many patterns the terminal has, of those that are counted
abbrev count_in : (Terminal → ℕ) → Option Terminal → ℕ
count_in patterns None = 0
count_in patterns (Some t) = patterns t

abbrev pub permit_count : Option Terminal → ℕ
permit_count at = count_in (λ t. length t.permits) at

abbrev pub forbid_count : Option Terminal → ℕ
forbid_count at = count_in (λ t. length t.forbids) at

pub record Agrees (width : ℕ) (before : List Declaration) (net : Network) : Type 0 where
  pub bits : net.width ≡ width
  pub boxes : (id : ℕ) → has_box net id ≡ list_any (is_box id) before
  pub box_count : length net.boxes ≡ count_by is_any_box before
  pub ports : (id : ℕ) → has_port net id ≡ list_any (is_port id) before
  pub places : (box id : ℕ) → has_port_at net box id ≡ list_any (is_port_at box id) before
  pub port_count : length net.ports ≡ count_by is_any_port before
  pub linked : (port : ℕ) → is_linked net port ≡ list_any (links port) before
  pub edges : (port : ℕ) → is_edge net port ≡ list_any (text.is_edge port) before
  pub terminals : (id : ℕ) → is_some (value_at net.terminals id) ≡ list_any (is_terminal id) before
  pub terminal_count : length net.terminals ≡ count_by is_any_terminal before
  pub permits : (id : ℕ) → permit_count (value_at net.terminals id) ≡ count_by (permits_at id) before
  pub forbids : (id : ℕ) → forbid_count (value_at net.terminals id) ≡ count_by (forbids_at id) before
  pub rules : (id : ℕ) → is_some (value_at net.rules id) ≡ list_any (is_rule id) before
  pub rule_count : length net.rules ≡ count_by is_any_rule before

pub Agrees-empty : (width : ℕ) → Agrees width [] (empty width)
Agrees-empty width = record {
  bits = refl;
  boxes = λ id. refl;
  box_count = refl;
  ports = λ id. refl;
  places = λ box id. refl;
  port_count = refl;
  linked = λ port. refl;
  edges = λ port. refl;
  terminals = λ id. refl;
  terminal_count = refl;
  permits = λ id. refl;
  forbids = λ id. refl;
  rules = λ id. refl;
  rule_count = refl;
}

-- the same refusals

known_in-same : (width : ℕ) (before : List Declaration) (net : Network) → Agrees width before net → (box : ℕ) (inp : InPort) → known_in net box inp ≡ text.known_in before box inp
known_in-same width before net agrees box AnyPort = refl
known_in-same width before net agrees box (OnePort port) = agrees.places box port

known_out-same : (width : ℕ) (before : List Declaration) (net : Network) → Agrees width before net → (box : ℕ) (action : Action) → known_out net box action ≡ text.known_out before box action
known_out-same width before net agrees box Drop = refl
known_out-same width before net agrees box (Out port moves) = agrees.places box port

permit_due : (width : ℕ) (at : Option Terminal) (pattern : Pattern) →
    permit_refusal_at width at pattern ≡ first_of ((not (is_some at), Unknown) ∷ (leb most_permits (permit_count at), Limit) ∷ (not (eqb (length pattern) width), Width) ∷ [])
permit_due width None pattern = refl
permit_due width (Some t) pattern = refl

forbid_due : (width : ℕ) (at : Option Terminal) (pattern : Pattern) →
    forbid_refusal_at width at pattern ≡ first_of ((not (is_some at), Unknown) ∷ (leb most_forbids (forbid_count at), Limit) ∷ (not (eqb (length pattern) width), Width) ∷ [])
forbid_due width None pattern = refl
forbid_due width (Some t) pattern = refl

pub refusal-due : (width : ℕ) (before : List Declaration) (net : Network) → Agrees width before net → (d : Declaration) → due net d ≡ refusal width before d
refusal-due width before net agrees (DeclareBox id) = cc (agrees.boxes id, agrees.box_count)
refusal-due width before net agrees (DeclarePort id box) = cc (agrees.ports id, agrees.boxes box, agrees.port_count)
refusal-due width before net agrees (DeclareLink a b) = cc (agrees.ports a, agrees.ports b, agrees.linked a, agrees.linked b, agrees.edges a, agrees.edges b)
refusal-due width before net agrees (DeclareTerminal id port role) = cc (agrees.terminals id, agrees.ports port, agrees.terminal_count, agrees.edges port, agrees.linked port)
refusal-due width before net agrees (DeclarePermit terminal pattern) =
    let at_net = permit_due net.width (value_at net.terminals terminal) pattern in
    cc (at_net, agrees.terminals terminal, agrees.permits terminal, agrees.bits)
refusal-due width before net agrees (DeclareForbid terminal pattern) =
    let at_net = forbid_due net.width (value_at net.terminals terminal) pattern in
    cc (at_net, agrees.terminals terminal, agrees.forbids terminal, agrees.bits)
refusal-due width before net agrees (DeclareRule id rule) =
    let inp = known_in-same width before net agrees rule.at rule.inp in
    let out = known_out-same width before net agrees rule.at rule.action in
    cc (agrees.rules id, agrees.boxes rule.at, inp, out, agrees.rule_count, agrees.bits)

-- one more declaration, taken

keeps : (p : Declaration → Bool) (before : List Declaration) (d : Declaration) (b : Bool) → p d ≡ false → b ≡ list_any p before → b ≡ list_any p (before ++ d ∷ [])
keeps p before d b none h = h ∙ sym (or-false (list_any p before)) ∙ ap (λ t. list_any p before || t) (sym none) ∙ sym (any_push p before d)

keeps_count : (p : Declaration → Bool) (before : List Declaration) (d : Declaration) (n : ℕ) → p d ≡ false → n ≡ count_by p before → n ≡ count_by p (before ++ d ∷ [])
keeps_count p before d n none h =
    h ∙ sym (add-zero (count_by p before)) ∙ ap (λ t. count_by p before + cond t 1 0) (sym none) ∙ sym (count_push p before d)

-- what comes first in the network comes last in the text
more : (p : Declaration → Bool) (before : List Declaration) (d : Declaration) (own : Bool) (b old : Bool) → b ≡ (own || old) → own ≡ p d → old ≡ list_any p before → b ≡ list_any p (before ++ d ∷ [])
more p before d own b old h this had = h ∙ or_comm own old ∙ ap (λ t. t || own) had ∙ ap (λ t. list_any p before || t) this ∙ sym (any_push p before d)

more_count : (p : Declaration → Bool) (before : List Declaration) (d : Declaration) (n old : ℕ) → p d ≡ true → n ≡ old + 1 → old ≡ count_by p before → n ≡ count_by p (before ++ d ∷ [])
more_count p before d n old this h had =
    h ∙ ap (λ k. k + 1) had ∙ ap (λ t. count_by p before + cond t 1 0) (sym this) ∙ sym (count_push p before d)

some_more : {A : Type 0} (own : Bool) (value : A) (old : Option A) → is_some (cond own (Some value) old) ≡ (own || is_some old)
some_more true value old = refl
some_more false value old = refl

at_more : (own : Bool) (home box : ℕ) (old : Option ℕ) → (own ≡ true → old ≡ None) → is_at (cond own (Some home) old) box ≡ ((own && eqb home box) || is_at old box)
at_more true home box old absent = sym (ap (λ (o : Option ℕ). eqb home box || is_at o box) (absent refl) ∙ or-false (eqb home box))
at_more false home box old absent = refl

-- at the number that is new, nothing was
absent_at : {A : Type 0} (es : List (ℕ × A)) (id q : ℕ) → value_at es id ≡ None → eqb id q ≡ true → value_at es q ≡ None
absent_at es id q absent same = ap (λ n. value_at es n) (sym (eqb-true id q same)) ∙ absent

put_known : {A : Type 0} (id : ℕ) (value : A) (es : List (ℕ × A)) → value_at es id ≡ None → (q : ℕ) → is_some (value_at (put id value es) q) ≡ (eqb id q || is_some (value_at es q))
put_known id value es absent q = ap is_some (value_at_put id value es absent q) ∙ some_more (eqb id q) value (value_at es q)

more_box : (width : ℕ) (before : List Declaration) (net : Network) → Agrees width before net → (id : ℕ) → Agrees width (before ++ DeclareBox id ∷ []) (declare net (DeclareBox id))
more_box width before net agrees id = let d = DeclareBox id in record {
  bits = agrees.bits;
  boxes = λ q. more (is_box q) before d (eqb q id) _ (has_box net q) (list_any-put_number (eqb q) id net.boxes) (eqb_comm q id) (agrees.boxes q);
  box_count = more_count is_any_box before d _ (length net.boxes) refl (length-put_number id net.boxes) agrees.box_count;
  ports = λ q. keeps (is_port q) before d _ refl (agrees.ports q);
  places = λ box q. keeps (is_port_at box q) before d _ refl (agrees.places box q);
  port_count = keeps_count is_any_port before d _ refl agrees.port_count;
  linked = λ q. keeps (links q) before d _ refl (agrees.linked q);
  edges = λ q. keeps (text.is_edge q) before d _ refl (agrees.edges q);
  terminals = λ q. keeps (is_terminal q) before d _ refl (agrees.terminals q);
  terminal_count = keeps_count is_any_terminal before d _ refl agrees.terminal_count;
  permits = λ q. keeps_count (permits_at q) before d _ refl (agrees.permits q);
  forbids = λ q. keeps_count (forbids_at q) before d _ refl (agrees.forbids q);
  rules = λ q. keeps (is_rule q) before d _ refl (agrees.rules q);
  rule_count = keeps_count is_any_rule before d _ refl agrees.rule_count;
}

more_port : (width : ℕ) (before : List Declaration) (net : Network) → Agrees width before net → (id box : ℕ) → value_at net.ports id ≡ None
    → Agrees width (before ++ DeclarePort id box ∷ []) (declare net (DeclarePort id box))
more_port width before net agrees id box absent = let d = DeclarePort id box in record {
  bits = agrees.bits;
  boxes = λ q. keeps (is_box q) before d _ refl (agrees.boxes q);
  box_count = keeps_count is_any_box before d _ refl agrees.box_count;
  ports = λ q. more (is_port q) before d (eqb id q) _ (has_port net q) (put_known id box net.ports absent q) refl (agrees.ports q);
  places = λ home q. more (is_port_at home q) before d (eqb id q && eqb box home) _ (has_port_at net home q)
      (ap (λ o. is_at o home) (value_at_put id box net.ports absent q) ∙ at_more (eqb id q) box home (value_at net.ports q) (absent_at net.ports id q absent))
      refl (agrees.places home q);
  port_count = more_count is_any_port before d _ (length net.ports) refl (length-put id box net.ports) agrees.port_count;
  linked = λ q. keeps (links q) before d _ refl (agrees.linked q);
  edges = λ q. keeps (text.is_edge q) before d _ refl (agrees.edges q);
  terminals = λ q. keeps (is_terminal q) before d _ refl (agrees.terminals q);
  terminal_count = keeps_count is_any_terminal before d _ refl agrees.terminal_count;
  permits = λ q. keeps_count (permits_at q) before d _ refl (agrees.permits q);
  forbids = λ q. keeps_count (forbids_at q) before d _ refl (agrees.forbids q);
  rules = λ q. keeps (is_rule q) before d _ refl (agrees.rules q);
  rule_count = keeps_count is_any_rule before d _ refl agrees.rule_count;
}

or_assoc : (a b c : Bool) → (a || (b || c)) ≡ ((a || b) || c)
or_assoc true b c = refl
or_assoc false b c = refl

-- a link stands at both its ports
put_both : (a b : ℕ) (es : List (ℕ × ℕ)) → eqb a b ≡ false → value_at es a ≡ None → value_at es b ≡ None → (q : ℕ) →
    is_some (value_at (put a b (put b a es)) q) ≡ ((eqb a q || eqb b q) || is_some (value_at es q))
put_both a b es apart no_a no_b q =
    let inner : value_at (put b a es) a ≡ None = value_at_put b a es no_b a ∙ ap (λ t. cond t (Some a) (value_at es a)) (eqb_comm b a ∙ apart) ∙ no_a in
    put_known a b (put b a es) inner q ∙ ap (λ t. eqb a q || t) (put_known b a es no_b q) ∙ or_assoc (eqb a q) (eqb b q) (is_some (value_at es q))

more_link : (width : ℕ) (before : List Declaration) (net : Network) → Agrees width before net → (a b : ℕ) → eqb a b ≡ false → value_at net.links a ≡ None → value_at net.links b ≡ None
    → Agrees width (before ++ DeclareLink a b ∷ []) (declare net (DeclareLink a b))
more_link width before net agrees a b apart no_a no_b = let d = DeclareLink a b in record {
  bits = agrees.bits;
  boxes = λ q. keeps (is_box q) before d _ refl (agrees.boxes q);
  box_count = keeps_count is_any_box before d _ refl agrees.box_count;
  ports = λ q. keeps (is_port q) before d _ refl (agrees.ports q);
  places = λ box q. keeps (is_port_at box q) before d _ refl (agrees.places box q);
  port_count = keeps_count is_any_port before d _ refl agrees.port_count;
  linked = λ q. more (links q) before d (eqb a q || eqb b q) _ (is_linked net q) (put_both a b net.links apart no_a no_b q) refl (agrees.linked q);
  edges = λ q. keeps (text.is_edge q) before d _ refl (agrees.edges q);
  terminals = λ q. keeps (is_terminal q) before d _ refl (agrees.terminals q);
  terminal_count = keeps_count is_any_terminal before d _ refl agrees.terminal_count;
  permits = λ q. keeps_count (permits_at q) before d _ refl (agrees.permits q);
  forbids = λ q. keeps_count (forbids_at q) before d _ refl (agrees.forbids q);
  rules = λ q. keeps (is_rule q) before d _ refl (agrees.rules q);
  rule_count = keeps_count is_any_rule before d _ refl agrees.rule_count;
}

-- a new terminal has no patterns, as its number had none
none_in : (patterns : Terminal → ℕ) (own : Bool) (t : Terminal) (old : Option Terminal) → patterns t ≡ 0 → (own ≡ true → old ≡ None)
    → count_in patterns (cond own (Some t) old) ≡ count_in patterns old
none_in patterns true t old bare absent = bare ∙ sym (ap (count_in patterns) (absent refl))
none_in patterns false t old bare absent = refl

more_terminal : (width : ℕ) (before : List Declaration) (net : Network) → Agrees width before net → (id port : ℕ) (role : Role) → value_at net.terminals id ≡ None
    → Agrees width (before ++ DeclareTerminal id port role ∷ []) (declare net (DeclareTerminal id port role))
more_terminal width before net agrees id port role absent =
    let d = DeclareTerminal id port role in
    let t : Terminal = record { port = port; role = role; permits = []; forbids = [] } in record {
      bits = agrees.bits;
      boxes = λ q. keeps (is_box q) before d _ refl (agrees.boxes q);
      box_count = keeps_count is_any_box before d _ refl agrees.box_count;
      ports = λ q. keeps (is_port q) before d _ refl (agrees.ports q);
      places = λ box q. keeps (is_port_at box q) before d _ refl (agrees.places box q);
      port_count = keeps_count is_any_port before d _ refl agrees.port_count;
      linked = λ q. keeps (links q) before d _ refl (agrees.linked q);
      edges = λ q. more (text.is_edge q) before d (eqb port q) _ (is_edge net q) (list_any-put (λ e. eqb e.1.port q) id t net.terminals) refl (agrees.edges q);
      terminals = λ q. more (is_terminal q) before d (eqb id q) _ (is_some (value_at net.terminals q)) (put_known id t net.terminals absent q) refl (agrees.terminals q);
      terminal_count = more_count is_any_terminal before d _ (length net.terminals) refl (length-put id t net.terminals) agrees.terminal_count;
      permits = λ q. keeps_count (permits_at q) before d _ refl
          (ap permit_count (value_at_put id t net.terminals absent q)
          ∙ none_in (λ t. length t.permits) (eqb id q) t (value_at net.terminals q) refl (absent_at net.terminals id q absent) ∙ agrees.permits q);
      forbids = λ q. keeps_count (forbids_at q) before d _ refl
          (ap forbid_count (value_at_put id t net.terminals absent q)
          ∙ none_in (λ t. length t.forbids) (eqb id q) t (value_at net.terminals q) refl (absent_at net.terminals id q absent) ∙ agrees.forbids q);
      rules = λ q. keeps (is_rule q) before d _ refl (agrees.rules q);
      rule_count = keeps_count is_any_rule before d _ refl agrees.rule_count;
    }

some_changed : {A : Type 0} (here : Bool) (change : A → A) (old : Option A) → is_some (changed here change old) ≡ is_some old
some_changed here change None = refl
some_changed here change (Some a) = refl

-- what adds a pattern adds one at its terminal
one_in : (patterns : Terminal → ℕ) (here : Bool) (change : Terminal → Terminal) (old : Option Terminal) → ((t : Terminal) → patterns (change t) ≡ patterns t + 1)
    → (here ≡ true → is_some old ≡ true) → count_in patterns (changed here change old) ≡ count_in patterns old + cond here 1 0
one_in patterns true change None adds known = absurd (false≢true (known refl))
one_in patterns false change None adds known = refl
one_in patterns true change (Some t) adds known = adds t
one_in patterns false change (Some t) adds known = omega arith

-- and leaves those of the other kind
same_in : (patterns : Terminal → ℕ) (here : Bool) (change : Terminal → Terminal) (old : Option Terminal) → ((t : Terminal) → patterns (change t) ≡ patterns t)
    → count_in patterns (changed here change old) ≡ count_in patterns old
same_in patterns here change None same = refl
same_in patterns true change (Some t) same = same t
same_in patterns false change (Some t) same = refl

more_permit : (width : ℕ) (before : List Declaration) (net : Network) → Agrees width before net → (id : ℕ) (pattern : Pattern) → is_some (value_at net.terminals id) ≡ true
    → Agrees width (before ++ DeclarePermit id pattern ∷ []) (declare net (DeclarePermit id pattern))
more_permit width before net agrees id pattern known =
    let d = DeclarePermit id pattern in
    let there : (q : ℕ) → eqb id q ≡ true → is_some (value_at net.terminals q) ≡ true = λ q same. ap (λ n. is_some (value_at net.terminals n)) (sym (eqb-true id q same)) ∙ known in record {
      bits = agrees.bits;
      boxes = λ q. keeps (is_box q) before d _ refl (agrees.boxes q);
      box_count = keeps_count is_any_box before d _ refl agrees.box_count;
      ports = λ q. keeps (is_port q) before d _ refl (agrees.ports q);
      places = λ box q. keeps (is_port_at box q) before d _ refl (agrees.places box q);
      port_count = keeps_count is_any_port before d _ refl agrees.port_count;
      linked = λ q. keeps (links q) before d _ refl (agrees.linked q);
      edges = λ q. keeps (text.is_edge q) before d _ refl (any_change (λ e. eqb e.1.port q) id (permitting pattern) (λ n t. refl) net.terminals ∙ agrees.edges q);
      terminals = λ q. keeps (is_terminal q) before d _ refl
          (ap is_some (value_at_change id (permitting pattern) net.terminals q) ∙ some_changed (eqb id q) (permitting pattern) (value_at net.terminals q) ∙ agrees.terminals q);
      terminal_count = keeps_count is_any_terminal before d _ refl (length-change_at id (permitting pattern) net.terminals ∙ agrees.terminal_count);
      permits = λ q. ap permit_count (value_at_change id (permitting pattern) net.terminals q)
          ∙ one_in (λ t. length t.permits) (eqb id q) (permitting pattern) (value_at net.terminals q) (λ t. length_push t.permits pattern) (there q) ∙ ap (λ n. n + cond (eqb id q) 1 0) (agrees.permits q) ∙ sym (count_push (permits_at q) before d);
      forbids = λ q. keeps_count (forbids_at q) before d _ refl
          (ap forbid_count (value_at_change id (permitting pattern) net.terminals q)
          ∙ same_in (λ t. length t.forbids) (eqb id q) (permitting pattern) (value_at net.terminals q) (λ t. refl) ∙ agrees.forbids q);
      rules = λ q. keeps (is_rule q) before d _ refl (agrees.rules q);
      rule_count = keeps_count is_any_rule before d _ refl agrees.rule_count;
    }

more_forbid : (width : ℕ) (before : List Declaration) (net : Network) → Agrees width before net → (id : ℕ) (pattern : Pattern) → is_some (value_at net.terminals id) ≡ true
    → Agrees width (before ++ DeclareForbid id pattern ∷ []) (declare net (DeclareForbid id pattern))
more_forbid width before net agrees id pattern known =
    let d = DeclareForbid id pattern in
    let there : (q : ℕ) → eqb id q ≡ true → is_some (value_at net.terminals q) ≡ true = λ q same. ap (λ n. is_some (value_at net.terminals n)) (sym (eqb-true id q same)) ∙ known in record {
      bits = agrees.bits;
      boxes = λ q. keeps (is_box q) before d _ refl (agrees.boxes q);
      box_count = keeps_count is_any_box before d _ refl agrees.box_count;
      ports = λ q. keeps (is_port q) before d _ refl (agrees.ports q);
      places = λ box q. keeps (is_port_at box q) before d _ refl (agrees.places box q);
      port_count = keeps_count is_any_port before d _ refl agrees.port_count;
      linked = λ q. keeps (links q) before d _ refl (agrees.linked q);
      edges = λ q. keeps (text.is_edge q) before d _ refl (any_change (λ e. eqb e.1.port q) id (forbidding pattern) (λ n t. refl) net.terminals ∙ agrees.edges q);
      terminals = λ q. keeps (is_terminal q) before d _ refl
          (ap is_some (value_at_change id (forbidding pattern) net.terminals q) ∙ some_changed (eqb id q) (forbidding pattern) (value_at net.terminals q) ∙ agrees.terminals q);
      terminal_count = keeps_count is_any_terminal before d _ refl (length-change_at id (forbidding pattern) net.terminals ∙ agrees.terminal_count);
      permits = λ q. keeps_count (permits_at q) before d _ refl
          (ap permit_count (value_at_change id (forbidding pattern) net.terminals q)
          ∙ same_in (λ t. length t.permits) (eqb id q) (forbidding pattern) (value_at net.terminals q) (λ t. refl) ∙ agrees.permits q);
      forbids = λ q. ap forbid_count (value_at_change id (forbidding pattern) net.terminals q)
          ∙ one_in (λ t. length t.forbids) (eqb id q) (forbidding pattern) (value_at net.terminals q) (λ t. length_push t.forbids pattern) (there q) ∙ ap (λ n. n + cond (eqb id q) 1 0) (agrees.forbids q) ∙ sym (count_push (forbids_at q) before d);
      rules = λ q. keeps (is_rule q) before d _ refl (agrees.rules q);
      rule_count = keeps_count is_any_rule before d _ refl agrees.rule_count;
    }

more_rule : (width : ℕ) (before : List Declaration) (net : Network) → Agrees width before net → (id : ℕ) (rule : Rule) → value_at net.rules id ≡ None
    → Agrees width (before ++ DeclareRule id rule ∷ []) (declare net (DeclareRule id rule))
more_rule width before net agrees id rule absent = let d = DeclareRule id rule in record {
  bits = agrees.bits;
  boxes = λ q. keeps (is_box q) before d _ refl (agrees.boxes q);
  box_count = keeps_count is_any_box before d _ refl agrees.box_count;
  ports = λ q. keeps (is_port q) before d _ refl (agrees.ports q);
  places = λ box q. keeps (is_port_at box q) before d _ refl (agrees.places box q);
  port_count = keeps_count is_any_port before d _ refl agrees.port_count;
  linked = λ q. keeps (links q) before d _ refl (agrees.linked q);
  edges = λ q. keeps (text.is_edge q) before d _ refl (agrees.edges q);
  terminals = λ q. keeps (is_terminal q) before d _ refl (agrees.terminals q);
  terminal_count = keeps_count is_any_terminal before d _ refl agrees.terminal_count;
  permits = λ q. keeps_count (permits_at q) before d _ refl (agrees.permits q);
  forbids = λ q. keeps_count (forbids_at q) before d _ refl (agrees.forbids q);
  rules = λ q. more (is_rule q) before d (eqb id q) _ (is_some (value_at net.rules q)) (put_known id rule net.rules absent q) refl (agrees.rules q);
  rule_count = more_count is_any_rule before d _ (length net.rules) refl (length-put id rule net.rules) agrees.rule_count;
}

-- the first test of a refusal failed
absent_first : {A : Type 0} (o : Option A) (r : Refusal) (rest : Option Refusal) → cond (is_some o) (Some r) rest ≡ None → o ≡ None
absent_first o r rest h = none_at o (passed_by (is_some o) r rest h).0

permit_known : (width : ℕ) (at : Option Terminal) (pattern : Pattern) → permit_refusal_at width at pattern ≡ None → is_some at ≡ true
permit_known width None pattern h = cc
permit_known width (Some t) pattern h = refl

forbid_known : (width : ℕ) (at : Option Terminal) (pattern : Pattern) → forbid_refusal_at width at pattern ≡ None → is_some at ≡ true
forbid_known width None pattern h = cc
forbid_known width (Some t) pattern h = refl

pub Agrees-more : (width : ℕ) (before : List Declaration) (net : Network) → Agrees width before net → (d : Declaration) → due net d ≡ None → Agrees width (before ++ d ∷ []) (declare net d)
Agrees-more width before net agrees (DeclareBox id) taken = more_box width before net agrees id
Agrees-more width before net agrees (DeclarePort id box) taken = more_port width before net agrees id box (absent_first (value_at net.ports id) _ _ taken)
Agrees-more width before net agrees (DeclareLink a b) taken =
    let unlinked = is_linked net a || is_linked net b in
    let free = or_parts (eqb a b) unlinked (passed_by (eqb a b || unlinked) _ _ (passed_by (not (has_port net a && has_port net b)) _ _ taken).1).0 in
    let apart = or_parts (is_linked net a) (is_linked net b) free.1 in
    more_link width before net agrees a b free.0 (none_at (value_at net.links a) apart.0) (none_at (value_at net.links b) apart.1)
Agrees-more width before net agrees (DeclareTerminal id port role) taken = more_terminal width before net agrees id port role (absent_first (value_at net.terminals id) _ _ taken)
Agrees-more width before net agrees (DeclarePermit terminal pattern) taken =
    more_permit width before net agrees terminal pattern (permit_known net.width (value_at net.terminals terminal) pattern taken)
Agrees-more width before net agrees (DeclareForbid terminal pattern) taken =
    more_forbid width before net agrees terminal pattern (forbid_known net.width (value_at net.terminals terminal) pattern taken)
Agrees-more width before net agrees (DeclareRule id rule) taken = more_rule width before net agrees id rule (absent_first (value_at net.rules id) _ _ taken)
