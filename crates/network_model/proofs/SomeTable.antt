-- A well-formed network and a hop limit have a table.
use Rattle.std.specs.Prelude.{◌≡◌, ℕ, zero, ◌+◌, ◌<◌, Bool, true, false, cond, List, [], ◌∷◌, ◌++◌, length, map, slice_index_or, Option, Some, None, IsSome, Contains, nat_eq}
use Rattle.std.proofs.Common.{refl, sym, ap, ◌∙◌, subst, ⊎_elim, arith}
use Rattle.std.specs.List.{AllByRecursion}
use Rattle.std.specs.List.Sorted.{IsStrictlySortedBy}
use Rattle.std.specs.Ordering.{nat_cmp, ordering_then, ordering_reverse, match_ordering}
use Rattle.std.specs.Cmp.Lexicographic.{slice_cmp}
use Rattle.std.specs.declared.cmp.Ordering.{Ordering}
use Rattle.std.specs.declared.cmp.Ordering.TheVariants.{Less, Equal, Greater}
use Rattle.std.proofs.lemmas.Bool.{eqb-true}
use Rattle.std.proofs.lemmas.List.Elements.{All-from_recursion, Contains-append_left, Contains-append_right}
use Rattle.std.proofs.lemmas.Map.Keys.{Less-from_sorted}
use Rattle.std.proofs.lemmas.Map.Lookups.{exact_bytes, exact_unsigned}
use Rattle.std.proofs.lemmas.Option.{slice_get_within, get_or_from_slice_get}
use Rattle.list_laws.proofs.Orders.{then_first, then_second}
use Rattle.list_laws.proofs.Members.{Contains-cons_same, Contains-cons_later, Contains-cons_cases, Contains-nil, Contains-map}
use Rattle.network_model.specs.Bits.{Header}
use Rattle.network_model.specs.Network.{Network, Terminal, value_at}
use Rattle.network_model.specs.Walk.{End, Delivered, Unmatched, Dropped, Lost, Overlong}
use Rattle.network_model.specs.Classes.{terminal_permits, permits, walk_from, Member}
use Rattle.network_model.specs.Table.{Entry, entry_cmp, IsClass, IsTable}
use Rattle.network_model.specs.WellFormed.{IsWellFormed}
use Rattle.network_model.proofs.EveryHeader.{headers_of, headers_of-complete}
use Rattle.network_model.proofs.SomeClass.{permitted_width, same_terminal, one_class, class_of}
use Rattle.network_model.proofs.TableLaws.{entry_cmp_total}

-- an entry at its place, unless one with its terminal and rules is there
abbrev placed : Entry → List Entry → List Entry
placed e [] = e ∷ []
placed e (x ∷ xs) = match_ordering (entry_cmp e x) (e ∷ x ∷ xs) (x ∷ xs) (x ∷ placed e xs)

-- an entry of the list has these terminals and rules
abbrev HasEntry : List Entry → ℕ → ℕ → List ℕ → Type 0
HasEntry entries start to rules = (e : Entry) × Contains entries e × (e.from ≡ start) × (e.to ≡ to) × (e.rules ≡ rules)

-- a fact of what placing may give
at_place : (Q : List Entry → Type 0) (e x : Entry) (xs : List Entry) → (entry_cmp e x ≡ Less → Q (e ∷ x ∷ xs))
    → (entry_cmp e x ≡ Equal → Q (x ∷ xs)) → (entry_cmp e x ≡ Greater → Q (x ∷ placed e xs)) → Q (placed e (x ∷ xs))
at_place Q e x xs less equal greater = by_order (entry_cmp e x) refl
  where
    by_order : (o : Ordering) → entry_cmp e x ≡ o → Q (match_ordering o (e ∷ x ∷ xs) (x ∷ xs) (x ∷ placed e xs))
    by_order Less is = less is
    by_order Equal is = equal is
    by_order Greater is = greater is

-- what holds of an entry and of all of a list holds of all once it is placed
all_placed : (P : Entry → Type 0) (e : Entry) (xs : List Entry) → P e → AllByRecursion P xs → AllByRecursion P (placed e xs)
all_placed P e [] p all = (p, all)
all_placed P e (x ∷ xs) p all = at_place (AllByRecursion P) e x xs (λ _. (p, all)) (λ _. all) (λ _. (all.0, all_placed P e xs p all.1))

-- what is below the first of some that rise is below all of them
all_below : (e x : Entry) (xs : List Entry) → entry_cmp e x ≡ Less → AllByRecursion (λ y. entry_cmp x y ≡ Less) xs
    → AllByRecursion (λ y. entry_cmp e y ≡ Less) xs
all_below e x [] less all = all
all_below e x (y ∷ ys) less all = (entry_cmp_total.trans e x y less all.0, all_below e x ys less all.1)

-- entries that rise still do once one is placed
sorted_placed : (e : Entry) (xs : List Entry) → IsStrictlySortedBy entry_cmp xs → IsStrictlySortedBy entry_cmp (placed e xs)
unfolding IsStrictlySortedBy
sorted_placed e [] sorted = (tt, tt)
sorted_placed e (x ∷ xs) sorted =
    at_place (λ l. IsStrictlySortedBy entry_cmp l) e x xs
    (λ is. ((is, all_below e x xs is sorted.0), sorted))
    (λ is. sorted)
    (λ is.
    let above : entry_cmp x e ≡ Less = entry_cmp_total.antisymm x e ∙ ap ordering_reverse is in
    (all_placed (λ y. entry_cmp x y ≡ Less) e xs above sorted.0, sorted_placed e xs sorted.1))

-- the entries before are still there
contains_kept : (e y : Entry) (xs : List Entry) → Contains xs y → Contains (placed e xs) y
contains_kept e y [] c = absurd (Contains-nil y c)
contains_kept e y (x ∷ xs) c =
    at_place (λ l. Contains l y) e x xs
    (λ _. Contains-cons_later e y (x ∷ xs) c)
    (λ _. c)
    (λ _. ⊎_elim
    (λ same. subst (λ w. Contains (x ∷ placed e xs) w) same (Contains-cons_same x (placed e xs)))
    (λ later. Contains-cons_later x y (placed e xs) (contains_kept e y xs later))
    (Contains-cons_cases x y xs c))

-- classes that tie have the same terminals and rules
tied_classes : (net : Network) → IsWellFormed net → (hops : ℕ) (e x : Entry) → IsClass net hops e → IsClass net hops x → entry_cmp e x ≡ Equal
    → (x.from ≡ e.from) × (x.to ≡ e.to) × (x.rules ≡ e.rules)
tied_classes net fits hops e x c d tied =
    let start : e.from ≡ x.from = exact_unsigned e.from x.from (then_first (nat_cmp e.from x.from) (slice_cmp nat_cmp e.rules x.rules) tied) in
    let rules : e.rules ≡ x.rules = exact_bytes e.rules x.rules (then_second (nat_cmp e.from x.from) (slice_cmp nat_cmp e.rules x.rules) tied) in
    let moved : Member net hops x.from x.rules e.to e.least e.arrives =
    subst (λ s. Member net hops s x.rules e.to e.least e.arrives) start
    (subst (λ w. Member net hops e.from w e.to e.least e.arrives) rules c.least) in
    (sym start, same_terminal net fits hops x.from x.rules x.to e.to x.least e.least x.arrives e.arrives d.least moved, sym rules)

-- once a class is placed, an entry has its terminals and rules
has_placed : (net : Network) → IsWellFormed net → (hops : ℕ) (e : Entry) (xs : List Entry) → IsClass net hops e
    → AllByRecursion (IsClass net hops) xs → HasEntry (placed e xs) e.from e.to e.rules
has_placed net fits hops e [] c all = (e, Contains-cons_same e [], refl, refl, refl)
has_placed net fits hops e (x ∷ xs) c all =
    at_place (λ l. HasEntry l e.from e.to e.rules) e x xs
    (λ _. (e, Contains-cons_same e (x ∷ xs), refl, refl, refl))
    (λ is. let same = tied_classes net fits hops e x c all.0 is in (x, Contains-cons_same x xs, same.0, same.1, same.2))
    (λ _. let h = has_placed net fits hops e xs c all.1 in (h.0, Contains-cons_later x h.0 (placed e xs) h.1, h.2, h.3, h.4))

-- entries in order, each a class, and among them those of some headers that terminals may send
record IsCovering (net : Network) (hops : ℕ) (pairs : List (ℕ × Header)) (entries : List Entry) : Type 0 where
  sorted : IsStrictlySortedBy entry_cmp entries
  classes : AllByRecursion (IsClass net hops) entries
  complete : (start to : ℕ) (rules : List ℕ) (header arrives : Header) → Contains pairs (start, header)
      → Member net hops start rules to header arrives → HasEntry entries start to rules

-- one more header
covering_more : (net : Network) (hops : ℕ) (p : ℕ × Header) (pairs : List (ℕ × Header)) (old new : List Entry)
    → IsStrictlySortedBy entry_cmp new → AllByRecursion (IsClass net hops) new → ((e : Entry) → Contains old e → Contains new e)
    → ((to : ℕ) (rules : List ℕ) (arrives : Header) → Member net hops p.0 rules to p.1 arrives → HasEntry new p.0 to rules)
    → IsCovering net hops pairs old → IsCovering net hops (p ∷ pairs) new
covering_more net hops p pairs old new sorted classes kept found covering = record {
  sorted = sorted;
  classes = classes;
  complete = λ start to rules header arrives there m. ⊎_elim
      (λ e. subst (λ (w : ℕ × Header). Member net hops w.0 rules to w.1 arrives → HasEntry new w.0 to rules) e (found to rules arrives) m)
      (λ later. let h = covering.complete start to rules header arrives later m in (h.0, kept h.0 h.1, h.2, h.3, h.4))
      (Contains-cons_cases p (start, header) pairs there);
}

-- a header that isn't delivered changes nothing
covering_skip : (net : Network) (hops : ℕ) (p : ℕ × Header) (pairs : List (ℕ × Header)) (entries : List Entry)
    → ((to : ℕ) (rules : List ℕ) (arrives : Header) → Member net hops p.0 rules to p.1 arrives → ⊥) → IsCovering net hops pairs entries
    → IsCovering net hops (p ∷ pairs) entries
covering_skip net hops p pairs entries none covering =
    covering_more net hops p pairs entries entries covering.sorted covering.classes
    (λ e c. c) (λ to rules arrives m. absurd (none to rules arrives m)) covering

-- the class of a header that is delivered is placed
covering_placed : (net : Network) → IsWellFormed net
    → (hops : ℕ) (p : ℕ × Header) (pairs : List (ℕ × Header)) (entries : List Entry) (to : ℕ) (rules : List ℕ) (arrives : Header)
    → Member net hops p.0 rules to p.1 arrives → IsCovering net hops pairs entries → (more : List Entry) × IsCovering net hops (p ∷ pairs) more
covering_placed net fits hops p pairs entries to rules arrives m covering =
    let class = class_of net fits hops p.0 rules to p.1 arrives m in
    let e : Entry = class.0 in (
      placed e entries,
      covering_more net hops p pairs entries (placed e entries)
          (sorted_placed e entries covering.sorted)
          (all_placed (IsClass net hops) e entries class.1 covering.classes)
          (λ x c. contains_kept e x entries c)
          (λ other q b n.
          let same = one_class net hops p.0 rules q to other p.1 arrives b m n in
          let has = has_placed net fits hops e entries class.1 covering.classes in
          (has.0, has.1, has.2 ∙ class.2, has.3 ∙ (class.3 ∙ same.1), has.4 ∙ (class.4 ∙ same.0)))
          covering,
    )

-- one more header, delivered or not
covering_next : (net : Network) → IsWellFormed net → (hops : ℕ) (p : ℕ × Header) (pairs : List (ℕ × Header)) (entries : List Entry)
    → IsCovering net hops pairs entries → (more : List Entry) × IsCovering net hops (p ∷ pairs) more
covering_next net fits hops p pairs entries covering = by_permit (permits net p.0 p.1) refl
  where
    undelivered : (end : End) → (walk_from net hops p.0 p.1).end ≡ end → ((to : ℕ) (arrives : Header) → end ≡ Delivered to arrives → ⊥)
        → (more : List Entry) × IsCovering net hops (p ∷ pairs) more
    undelivered end is none =
        (entries, covering_skip net hops p pairs entries (λ to rules arrives m. none to arrives (sym is ∙ m.delivered)) covering)

    by_end : permits net p.0 p.1 ≡ true → (end : End) → (walk_from net hops p.0 p.1).end ≡ end
        → (more : List Entry) × IsCovering net hops (p ∷ pairs) more
    by_end sent (Delivered to arrives) is =
        covering_placed net fits hops p pairs entries to (walk_from net hops p.0 p.1).rules arrives
        (record { permitted = sent; travels = refl; delivered = is }) covering
    by_end sent Unmatched is = undelivered Unmatched is (λ to arrives e. cc)
    by_end sent (Dropped rule) is = undelivered (Dropped rule) is (λ to arrives e. cc)
    by_end sent (Lost port) is = undelivered (Lost port) is (λ to arrives e. cc)
    by_end sent Overlong is = undelivered Overlong is (λ to arrives e. cc)

    by_permit : (b : Bool) → permits net p.0 p.1 ≡ b → (more : List Entry) × IsCovering net hops (p ∷ pairs) more
    by_permit true sent = by_end sent (walk_from net hops p.0 p.1).end refl
    by_permit false refused = (entries, covering_skip net hops p pairs entries (λ to rules arrives m. let sent = m.permitted in cc) covering)

-- the entries of some headers
covered : (net : Network) → IsWellFormed net → (hops : ℕ) (pairs : List (ℕ × Header)) → (entries : List Entry) × IsCovering net hops pairs entries
unfolding IsStrictlySortedBy
covered net fits hops [] = (
  [],
  record {
    sorted = tt;
    classes = tt;
    complete = λ start to rules header arrives there m. absurd (Contains-nil (start, header) there);
  },
)
covered net fits hops (p ∷ pairs) = let before = covered net fits hops pairs in covering_next net fits hops p pairs before.0 before.1

-- each of some numbers with each of some headers
abbrev paired : List ℕ → List Header → List (ℕ × Header)
paired [] hs = []
paired (t ∷ ts) hs = map (λ (h : Header). (t, h)) hs ++ paired ts hs

-- each such pair is among them
paired-complete : (ts : List ℕ) (hs : List Header) (t : ℕ) (h : Header) → Contains ts t → Contains hs h → Contains (paired ts hs) (t, h)
paired-complete [] hs t h c d = absurd (Contains-nil t c)
paired-complete (s ∷ ts) hs t h c d = ⊎_elim
    (λ e. Contains-append_left (map (λ (g : Header). (s, g)) hs) (paired ts hs) (t, h)
    (subst (λ (w : ℕ). Contains {X = ℕ × Header} (map (λ (g : Header). (s, g)) hs) (w, h)) e (Contains-map (λ (g : Header). (s, g)) hs h d)))
    (λ later. Contains-append_right (map (λ (g : Header). (s, g)) hs) (paired ts hs) (t, h) (paired-complete ts hs t h later d))
    (Contains-cons_cases s t ts c)

-- a number that has a value is listed
pub value_there : {A : Type 0} (list : List (ℕ × A)) (id : ℕ) → IsSome (value_at list id) → Contains (map (λ (e : ℕ × A). e.0) list) id
value_there [] id h = cc
value_there {A} (e ∷ es) id h = by_test (value_there es id) (nat_eq e.0 id) refl h
  where
    by_test : (IsSome (value_at es id) → Contains (map (λ (x : ℕ × A). x.0) es) id) → (b : Bool) → nat_eq e.0 id ≡ b
        → IsSome (cond b (Some e.1) (value_at es id)) → Contains (map (λ (x : ℕ × A). x.0) (e ∷ es)) id
    by_test go_on true same w = (zero, omega arith, eqb-true e.0 id same)
    by_test go_on false other w = Contains-cons_later e.0 id (map (λ (x : ℕ × A). x.0) es) (go_on w)

-- a terminal that may send is one of the network
pub permitted_there : (net : Network) (start : ℕ) (header : Header) → permits net start header ≡ true → IsSome (value_at net.terminals start)
permitted_there net start header h = at (value_at net.terminals start) h
  where
    at : (o : Option Terminal) → terminal_permits o header ≡ true → IsSome o
    at None e = cc
    at (Some t) e = refl

-- the entries of every header that some terminal may send are a table
table_from_covering : (net : Network) (hops : ℕ) (pairs : List (ℕ × Header)) (entries : List Entry)
    → ((start : ℕ) (header : Header) → permits net start header ≡ true → Contains pairs (start, header)) → IsCovering net hops pairs entries
    → IsTable net hops entries
table_from_covering net hops pairs entries all covering = record {
  rises = λ i a b at_a at_b.
      let inside : i + 1 < length entries = slice_get_within entries (i + 1) b at_b in
      let rises : entry_cmp (slice_index_or entries i a) (slice_index_or entries (i + 1) a) ≡ Less =
      Less-from_sorted entry_cmp entries i (i + 1) a covering.sorted (omega arith) inside in
      subst (λ w. entry_cmp w b ≡ Less) (get_or_from_slice_get entries i a a at_a)
      (subst (λ w. entry_cmp (slice_index_or entries i a) w ≡ Less) (get_or_from_slice_get entries (i + 1) b a at_b) rises);
  classes = All-from_recursion (IsClass net hops) entries covering.classes;
  complete = λ start to rules header arrives m. covering.complete start to rules header arrives (all start header m.permitted) m;
}

-- a well-formed network and a hop limit have a table
pub table_of : (net : Network) (hops : ℕ) → IsWellFormed net → (table : List Entry) × IsTable net hops table
table_of net hops fits =
    let starts : List ℕ = map (λ (t : ℕ × Terminal). t.0) net.terminals in
    let pairs : List (ℕ × Header) = paired starts (headers_of net.width) in
    let found = covered net fits hops pairs in
    let all : (start : ℕ) (header : Header) → permits net start header ≡ true → Contains pairs (start, header) = λ start header yes.
    let wide : length header ≡ net.width = permitted_width net fits start header yes in
    paired-complete starts (headers_of net.width) start header
    (value_there net.terminals start (permitted_there net start header yes))
    (subst (λ w. Contains (headers_of w) header) wide (headers_of-complete header)) in
    (found.0, table_from_covering net hops pairs found.0 all found.1)
