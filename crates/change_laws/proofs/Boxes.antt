-- Networks that have the same box act alike at it.
use Rattle.std.specs.Prelude.{◌≡◌, ◌≢◌, ◌==◌, ◌&&◌, ◌↔◌, ℕ, Bool, true, false, List, [], ◌∷◌, Option, Some, None, All, AllPairs, Contains}
use Rattle.std.proofs.Common.{refl, sym, ap, ◌∙◌, arith, cond, eqb, get_or}
use Rattle.std.specs.List.{find}
use Rattle.std.specs.Option.{option_map}
use Rattle.std.proofs.lemmas.Bool.Decides.{nat_tests}
use Rattle.std.proofs.lemmas.List.Elements.{Contains-get_or}
use Rattle.network_model.specs.Bits.{Header}
use Rattle.network_model.specs.Network.{value_at, Network, Numbered, Role, Terminal, takes, is_first, hit}
use Rattle.network_model.specs.Walk.{receives, receiver_at, behind, Next, Term, Far, Nothing, next}
use Rattle.network_model.specs.WellFormed.{IsWellFormed}
use Rattle.model_laws.proofs.Numbered.{AllPairs-heads, AllPairs-tail}
use Rattle.net_types.specs.SameParts.{terminal_at, IsSamePort, IsSameBox}
use Rattle.net_types.proofs.Finds.{Nowhere, First, found, find_only, find_nothing}
use Rattle.net_types.proofs.Precedence.{neither, first_takes, first_preceded, is_first_from}
use Rattle.net_types.proofs.Rows.{one_place}
use Rattle.change_laws.proofs.Alike.{ActAlike}

-- ---- which rule hits

-- a rule that takes a header at a port of the box is of the box
taken_there : (net : Network) (port : ℕ) (header : Header) (box : ℕ) (r : Numbered) → value_at net.ports port ≡ Some box
    → takes net port header r ≡ true → r.1.at ≡ box
taken_there net port header box r inside taken = (let own = (rw inside at taken) in grind (arith, nat_tests, own))

module _ (a b : Network) (port : ℕ) (header : Header) (box : ℕ) (in_a : value_at a.ports port ≡ Some box) (in_b : value_at b.ports port ≡ Some box)
    (rules : (r : Numbered) → r.1.at ≡ box → Contains a.rules r ↔ Contains b.rules r) where
  same_takes : (r : Numbered) → takes a port header r ≡ takes b port header r
  same_takes r = rw (in_a, in_b) refl

  -- the first of the one is the first of the other
  first_of_both : (r : Numbered) → is_first a port header r ≡ true → is_first b port header r ≡ true
  first_of_both r first =
      is_first_from b port header r (sym (same_takes r) ∙ first_takes a port header r first)
      (λ other there taken. first_preceded a port header r other first
      ((rules other (taken_there b port header box other in_b taken)).1 there) (same_takes other ∙ taken))

  found_in_both : (r : Numbered) → Contains a.rules r → is_first a port header r ≡ true → Contains b.rules r
  found_in_both r there first = (rules r (taken_there a port header box r in_a (first_takes a port header r first))).0 there

flipped : (a b : Network) (box : ℕ) → ((r : Numbered) → r.1.at ≡ box → Contains a.rules r ↔ Contains b.rules r)
    → (r : Numbered) → r.1.at ≡ box → Contains b.rules r ↔ Contains a.rules r
flipped a b box rules r at = let both = rules r at in (both.1, both.0)

-- a first rule is the only one
one_first : (net : Network) → IsWellFormed net → (port : ℕ) (header : Header) (x r : Numbered) → Contains net.rules x → Contains net.rules r
    → is_first net port header x ≡ true → is_first net port header r ≡ true → x ≡ r
one_first net fits port header x r x_in r_in x_first r_first =
    one_place (λ (e : Numbered). e.0) net.rules fits.rules x r x_in r_in
    (neither x r
    (first_preceded net port header r x r_first x_in (first_takes net port header x x_first))
    (first_preceded net port header x r x_first r_in (first_takes net port header r r_first)))

same_hits : (a b : Network) → IsWellFormed b → (box : ℕ) → ((r : Numbered) → r.1.at ≡ box → Contains a.rules r ↔ Contains b.rules r)
    → (port : ℕ) (header : Header) → value_at a.ports port ≡ Some box → value_at b.ports port ≡ Some box → hit a port header ≡ hit b port header
same_hits a b fits box rules port header in_a in_b =
    elim (found (is_first a port header) a.rules) [
      | Nowhere none fail ↦ none ∙ sym (find_nothing (is_first b port header) b.rules
          (λ j d below. never fail (get_or b.rules j d) (Contains-get_or b.rules j d below) (is_first b port header (get_or b.rules j d)) refl))
      | First i r some inside is passes fail ↦ some ∙ sym (by_first r (i, inside, is r) passes)
    ]
  where
    never : ((x : Numbered) → Contains a.rules x → is_first a port header x ≡ false) → (x : Numbered) → Contains b.rules x
        → (c : Bool) → is_first b port header x ≡ c → is_first b port header x ≡ false
    never fail x there false is = is
    never fail x there true is =
        let first = first_of_both b a port header box in_b in_a (flipped a b box rules) x is in
        let fails = fail x (found_in_both b a port header box in_b in_a (flipped a b box rules) x there is) in
        cc

    by_first : (r : Numbered) → Contains a.rules r → is_first a port header r ≡ true → hit b port header ≡ Some r
    by_first r there first =
        let r_in = found_in_both a b port header box in_a in_b rules r there first in
        let r_first = first_of_both a b port header box in_a in_b rules r first in
        find_only (is_first b port header) b.rules r r_in r_first
        (λ x x_in x_first. one_first b fits port header x r x_in r_in x_first r_first)

-- ---- what lies behind a port

-- of what stands at a port the number, where it receives
abbrev receiving : Option (ℕ × Role) → Option ℕ
receiving None = None
receiving (Some (number, role)) = cond (receives role) (Some number) None

abbrev number_behind : Option ℕ → Option ℕ → Next
number_behind (Some number) far = Term number
number_behind None (Some port) = Far port
number_behind None None = Nothing

abbrev at_port : ℕ → ℕ × Terminal → Bool
at_port port t = t.1.port == port

abbrev receives_at : ℕ → ℕ × Terminal → Bool
receives_at port t = (t.1.port == port) && receives t.1.role

abbrev numbered_role : ℕ × Terminal → ℕ × Role
numbered_role t = (t.0, t.1.role)

-- behind a port lies the number alone
only_number : (o : Option (ℕ × Terminal)) (far : Option ℕ) → behind o far ≡ number_behind (option_map (λ t. t.0) o) far
only_number None None = refl
only_number None (Some far) = refl
only_number (Some t) far = refl

-- at most one terminal stands at a port
one_terminal : (ts : List (ℕ × Terminal)) → AllPairs (λ (s t : ℕ × Terminal). s.1.port ≢ t.1.port) ts → (port : ℕ)
    → option_map (λ (t : ℕ × Terminal). t.0) (find (receives_at port) ts) ≡ receiving (option_map numbered_role (find (at_port port) ts))
one_terminal [] apart port = refl
one_terminal (t ∷ ts) apart port =
    by_port (eqb t.1.port port) refl (receives t.1.role) refl (one_terminal ts (AllPairs-tail (λ (s t : ℕ × Terminal). s.1.port ≢ t.1.port) t ts apart) port)
  where
    others : All (λ (s : ℕ × Terminal). t.1.port ≢ s.1.port) ts
    others = AllPairs-heads (λ (s t : ℕ × Terminal). s.1.port ≢ t.1.port) t ts apart

    elsewhere : eqb t.1.port port ≡ true → find (receives_at port) ts ≡ None
    elsewhere here = find_nothing (receives_at port) ts (λ j d below. not_there (get_or ts j d) (others j d below))
      where
        not_there : (s : ℕ × Terminal) → t.1.port ≢ s.1.port → receives_at port s ≡ false
        not_there s other = by_test (eqb s.1.port port) refl
          where
            by_test : (c : Bool) → eqb s.1.port port ≡ c → receives_at port s ≡ false
            by_test true is = absurd (other (grind (arith, nat_tests, here, is)))
            by_test false is = rw is refl

    by_port : (c : Bool) → eqb t.1.port port ≡ c → (d : Bool) → receives t.1.role ≡ d
        → option_map (λ (t : ℕ × Terminal). t.0) (find (receives_at port) ts) ≡ receiving (option_map numbered_role (find (at_port port) ts))
        → option_map (λ (t : ℕ × Terminal). t.0) (find (receives_at port) (t ∷ ts)) ≡ receiving (option_map numbered_role (find (at_port port) (t ∷ ts)))
    by_port false is d role rest = rw is rest
    by_port true is true role rest = rw (is, role) refl
    by_port true is false role rest = rw (is, role, elsewhere is) refl

same_behind : (a b : Network) → IsWellFormed a → IsWellFormed b → (port : ℕ) → IsSamePort a b port → next a port ≡ next b port
same_behind a b fits_a fits_b port same =
    only_number (receiver_at a port) (value_at a.links port)
    ∙ ap (λ o. number_behind o (value_at a.links port)) (one_terminal a.terminals fits_a.apart port)
    ∙ ap (λ o. number_behind (receiving o) (value_at a.links port)) same.terminal
    ∙ ap (λ o. number_behind (receiving (terminal_at b port)) o) same.link
    ∙ ap (λ o. number_behind o (value_at b.links port)) (sym (one_terminal b.terminals fits_b.apart port))
    ∙ sym (only_number (receiver_at b port) (value_at b.links port))

-- ---- both

pub same_box : (a b : Network) → IsWellFormed a → IsWellFormed b → (box : ℕ) → IsSameBox a b box → ActAlike a b box
same_box a b fits_a fits_b box same = record {
  ports = same.ports;
  hits = λ port header inside. same_hits a b fits_b box same.rules port header inside ((same.ports port).0 inside);
  behind = λ port inside. same_behind a b fits_a fits_b port (same.behind port inside);
}
