-- The entries of a map with numbers as keys, as a list of numbered things.
use Rattle.std.proofs.Common.{◌≡◌, ℕ, true, false, cond, eqb, ltb, List, [], ◌∷◌, Option, Some, None, sym, refl, ap, ◌∙◌, subst, ⊎_elim, arith}
use Rattle.std.specs.Prelude.{nat_eq}
use Rattle.std.specs.List.{All, list_any}
use Rattle.std.specs.Option.{option_map, is_some}
use Rattle.std.specs.Ordering.{nat_cmp, match_ordering}
use Rattle.std.specs.Map.{lookup, remove_entry, set_value}
use Rattle.std.specs.Set.{remove_key}
use Rattle.std.specs.BTreeMap.{is_at, insert_entry}
use Rattle.std.specs.BTreeSet.{insert_key}
use Rattle.std.proofs.lemmas.Bool.{cond_both, cases_order, cases_Bool, or_parts, eqb-true, eqb-false, cond-true, cond-false, ne_eqb, eq-eqb, le-ltb, lt-ltb}
use Rattle.std.proofs.lemmas.Bool.Decides.{nat_tests}
use Rattle.std.proofs.lemmas.List.Elements.{All-cons, All-head, All-tail}
use Rattle.list_laws.proofs.Tests.{passed_by}
use Rattle.network_model.specs.Network.{value_at}
use Rattle.network_model.specs.Building.{put, put_number, change_at}
use Rattle.network_model.specs.WellFormed.{Rises}
use Rattle.net_types.specs.Built.{by_number}
use Rattle.model_laws.proofs.Numbered.{absent_later, rises_tail, change_at-absent}

at_number : (k n : ℕ) → is_at (nat_cmp k) n ≡ eqb n k
at_number k n = grind (arith, nat_tests)

-- the same at plain entries
pub lookup_entries : {X : Type 0} (es : List (ℕ × X)) (k : ℕ) → lookup (is_at (nat_cmp k)) es ≡ value_at es k
lookup_entries [] k = refl
lookup_entries (e ∷ es) k =
    ap (λ b. cond b (Some e.1) (lookup (is_at (nat_cmp k)) es)) (at_number k e.0)
    ∙ ap (λ o. cond (eqb e.0 k) (Some e.1) o) (lookup_entries es k)

pub value_at-by_number : {X Y : Type 0} (g : X → Y) (es : List (ℕ × X)) (k : ℕ) → value_at (by_number g es) k ≡ option_map g (value_at es k)
value_at-by_number g [] k = refl
value_at-by_number g (e ∷ es) k =
    elim (eqb e.0 k) as (λ b. cond b (Some (g e.1)) (value_at (by_number g es) k) ≡ option_map g (cond b (Some e.1) (value_at es k))) [
      | true ↦ refl
      | false ↦ value_at-by_number g es k
    ]

some_mapped : {X Y : Type 0} (g : X → Y) (o : Option X) → is_some (option_map g o) ≡ is_some o
some_mapped g None = refl
some_mapped g (Some x) = refl

-- whether there is one at k
pub lookup_in : {X Y : Type 0} (g : X → Y) (es : List (ℕ × X)) (k : ℕ) → is_some (value_at (by_number g es) k) ≡ is_some (lookup (is_at (nat_cmp k)) es)
lookup_in g es k =
    ap is_some (value_at-by_number g es k) ∙ some_mapped g (value_at es k) ∙ sym (ap is_some (lookup_entries es k))

-- one more key
insert_step : {X : Type 0} (k n : ℕ) (a b c : X) → eqb n k ≡ false → match_ordering (nat_cmp k n) a b c ≡ cond (ltb k n) a c
insert_step k n a b c apart =
    ⊎_elim (λ same. absurd (eqb-false n k apart (sym same)))
    (λ other. ⊎_elim
    (λ less. rw (lt-ltb k n less) refl)
    (λ more. rw (le-ltb k n (omega arith), ne_eqb k n (λ same. omega arith)) refl) other)
    (cases_order k n)

pub insert_entry-put : {X : Type 0} (es : List (ℕ × X)) (k : ℕ) (v : X) → value_at es k ≡ None → insert_entry nat_cmp es k v ≡ put k v es
insert_entry-put [] k v absent = refl
insert_entry-put (e ∷ es) k v absent =
    let p = passed_by (eqb e.0 k) e.1 (value_at es k) absent in
    insert_step k e.0 ((k, v) ∷ e ∷ es) ((e.0, v) ∷ es) (e ∷ insert_entry nat_cmp es k v) p.0
    ∙ ap (λ xs. cond (ltb k e.0) ((k, v) ∷ e ∷ es) (e ∷ xs)) (insert_entry-put es k v p.1)

pub by_number-put : {X Y : Type 0} (g : X → Y) (es : List (ℕ × X)) (k : ℕ) (v : X) → by_number g (put k v es) ≡ put k (g v) (by_number g es)
by_number-put g [] k v = refl
by_number-put g (e ∷ es) k v =
    elim (ltb k e.0) as (λ b. by_number g (cond b ((k, v) ∷ e ∷ es) (e ∷ put k v es)) ≡ cond b ((k, g v) ∷ (e.0, g e.1) ∷ by_number g es) ((e.0, g e.1) ∷ put k (g v) (by_number g es))) [
      | true ↦ refl
      | false ↦ ap (λ xs. (e.0, g e.1) ∷ xs) (by_number-put g es k v)
    ]

pub insert_key-put_number : (ns : List ℕ) (k : ℕ) → list_any (nat_eq k) ns ≡ false → insert_key nat_cmp ns k ≡ put_number k ns
insert_key-put_number [] k absent = refl
insert_key-put_number (n ∷ ns) k absent =
    let p : (eqb k n ≡ false) × (list_any (eqb k) ns ≡ false) = or_parts (eqb k n) (list_any (eqb k) ns) absent in
    insert_step k n (k ∷ n ∷ ns) (n ∷ ns) (n ∷ insert_key nat_cmp ns k) (grind (arith, nat_tests, p.0))
    ∙ ap (λ xs. cond (ltb k n) (k ∷ n ∷ ns) (n ∷ xs)) (insert_key-put_number ns k p.1)

-- a key that is taken out again
pub remove_entry-put : {X : Type 0} (es : List (ℕ × X)) (k : ℕ) (v : X) → value_at es k ≡ None → remove_entry (is_at (nat_cmp k)) (put k v es) ≡ es
remove_entry-put [] k v absent = rw (at_number k k, eq-eqb k k refl) refl
remove_entry-put (e ∷ es) k v absent =
    let p = passed_by (eqb e.0 k) e.1 (value_at es k) absent in
    cond_both (ltb k e.0) ((k, v) ∷ e ∷ es) (e ∷ put k v es) (λ xs. remove_entry (is_at (nat_cmp k)) xs ≡ e ∷ es)
    (λ _. rw (at_number k k, eq-eqb k k refl) refl)
    (λ _. rw (at_number k e.0, p.0) (ap (λ xs. e ∷ xs) (remove_entry-put es k v p.1)))

pub remove_key-put_number : (ns : List ℕ) (k : ℕ) → list_any (nat_eq k) ns ≡ false → remove_key (is_at (nat_cmp k)) (put_number k ns) ≡ ns
remove_key-put_number [] k absent = rw (at_number k k, eq-eqb k k refl) refl
remove_key-put_number (n ∷ ns) k absent =
    let p : (eqb k n ≡ false) × (list_any (eqb k) ns ≡ false) = or_parts (eqb k n) (list_any (eqb k) ns) absent in
    let apart : eqb n k ≡ false = grind (arith, nat_tests, p.0) in
    cond_both (ltb k n) (k ∷ n ∷ ns) (n ∷ put_number k ns) (λ xs. remove_key (is_at (nat_cmp k)) xs ≡ n ∷ ns)
    (λ _. rw (at_number k k, eq-eqb k k refl) refl)
    (λ _. rw (at_number k n, apart) (ap (λ xs. n ∷ xs) (remove_key-put_number ns k p.1)))

-- a value that is written back
pub by_number-set_value : {X Y : Type 0} (g : X → Y) (f : Y → Y) (es : List (ℕ × X)) (k : ℕ) (v w : X)
    → Rises (by_number g es) → value_at es k ≡ Some v → g w ≡ f (g v)
    → by_number g (set_value (is_at (nat_cmp k)) es w) ≡ change_at k f (by_number g es)
by_number-set_value g f [] k v w rises here same = refl
by_number-set_value {X} {Y} g f (e ∷ es) k v w rises here same =
    let rest = by_number g es in
    let later : value_at rest e.0 ≡ None = absent_later (e.0, g e.1) rest rises in
    let none : eqb e.0 k ≡ true → value_at rest k ≡ None =
    λ at. subst (λ n. value_at rest n ≡ None) (eqb-true e.0 k at) later in
    let more : value_at es k ≡ Some v → by_number g (set_value (is_at (nat_cmp k)) es w) ≡ change_at k f rest =
    λ there. by_number-set_value g f es k v w (rises_tail (e.0, g e.1) rest rises) there same in
    ap (λ b. by_number g (cond b ((e.0, w) ∷ es) (e ∷ set_value (is_at (nat_cmp k)) es w))) (at_number k e.0)
    ∙ (elim (eqb e.0 k) as (λ b. (b ≡ true → value_at rest k ≡ None) → cond b (Some e.1) (value_at es k) ≡ Some v
    → by_number g (cond b ((e.0, w) ∷ es) (e ∷ set_value (is_at (nat_cmp k)) es w)) ≡ (cond b (e.0, f (g e.1)) (e.0, g e.1)) ∷ change_at k f rest) [
      | true ↦ λ gone at. let old : e.1 ≡ v = cc in rw (old, same, change_at-absent k f rest (gone refl)) refl
      | false ↦ λ gone at. ap (λ xs. (e.0, g e.1) ∷ xs) (more at)
    ]) none here

-- ---- what holds of each entry
pub All-value_at : {X : Type 0} (P : ℕ × X → Type 0) (es : List (ℕ × X)) (k : ℕ) (v : X) → All P es → value_at es k ≡ Some v → P (k, v)
All-value_at P [] k v h here = absurd (cc)
All-value_at {X} P (e ∷ es) k v h here =
    let there : value_at es k ≡ Some v → P (k, v) = λ later. All-value_at P es k v (All-tail P e es h) later in
    let found : eqb e.0 k ≡ true → cond (eqb e.0 k) (Some e.1) (value_at es k) ≡ Some v → P (k, v) =
    λ same at.
    let here' : Some e.1 ≡ Some v = sym (cond-true (eqb e.0 k) (Some e.1) (value_at es k) same) ∙ at in
    let value : e.1 ≡ v = cc in
    let Q : ℕ → Type 0 = λ n. P (n, v) in
    let R : X → Type 0 = λ x. P (e.0, x) in
    subst Q (eqb-true e.0 k same) (subst R value (All-head P e es h)) in
    ⊎_elim (λ same. found same here)
    (λ other. there (sym (cond-false (eqb e.0 k) (Some e.1) (value_at es k) other) ∙ here))
    (cases_Bool (eqb e.0 k))

pub All-set_value : {X : Type 0} (P : ℕ × X → Type 0) (es : List (ℕ × X)) (k : ℕ) (w : X) → P (k, w) → All P es → All P (set_value (is_at (nat_cmp k)) es w)
All-set_value P [] k w p h = h
All-set_value {X} P (e ∷ es) k w p h =
    cond_both (is_at (nat_cmp k) e.0) ((e.0, w) ∷ es) (e ∷ set_value (is_at (nat_cmp k)) es w) (λ xs. All P xs)
    (λ same. let Q : ℕ → Type 0 = λ n. P (n, w) in
    let at : P (e.0, w) = subst Q (sym (eqb-true e.0 k (sym (at_number k e.0) ∙ same))) p in
    All-cons P (e.0, w) es at (All-tail P e es h))
    (λ _. All-cons P e (set_value (is_at (nat_cmp k)) es w) (All-head P e es h) (All-set_value P es k w p (All-tail P e es h)))
