-- Entries that are apart and sorted rise.
use Rattle.std.proofs.Common.{◌≡◌, ◌≢◌, ℕ, zero, suc, ◌+◌, ◌-◌, sub-one, ◌<◌, List, [], ◌∷◌, length, get_or, map, Some, refl, sym, ap, ◌∙◌, arith, false, Ordering, ⊎_elim}
use Rattle.std.proofs.lemmas.Cmp.{nat_list_cmp_total, nat_cmp_total, on_total, then_total}
use Rattle.std.proofs.lemmas.List.Edits.{swap_is}
use Rattle.std.proofs.lemmas.Bool.{cases_eq, cases_lt, true≢false}
use Rattle.std.proofs.lemmas.List.{get_or-set_other, get_or-map}
use Rattle.std.proofs.lemmas.Option.{get_or_from_slice_get, slice_get_within}
use Rattle.std.proofs.Math.ListN.{length-set, length-map, set}
use Rattle.std.proofs.lemmas.List.Sorted.{IsPermutation-keeps, IsPermutation-map, All-permutation, Contains-permutation}
use Rattle.std.proofs.lemmas.Grind.{get_or-set_at}
use Rattle.std.proofs.lemmas.Map.Keys.{Less-from_sorted}
use Rattle.std.specs.Cmp.{IsTotalOrder}
use Rattle.std.specs.List.{swap, AllPairs, slice_get}
use Rattle.std.specs.List.Sorted.{IsPermutation, IsSortedBy}
use Rattle.std.specs.Ordering.{is_lt, ordering_reverse}
use Rattle.std.specs.declared.cmp.Ordering.TheVariants.{Less, Equal, Greater}
use Rattle.network_model.specs.Table.{Entry, entry_cmp, IsClass, IsTable, AreApart}
use Rattle.network_model.proofs.TableLaws.{table_sorted}
use Rattle.network_model.specs.Cover.{entry_at}
use Rattle.network_model.specs.Network.{Network}
use Rattle.path_table.specs.Entries.{AreEntries, IsFound, IsInOrder}

pub entries_total : IsTotalOrder entry_cmp
entries_total = then_total (on_total (λ (e : Entry). e.«from») nat_cmp_total) (on_total (λ (e : Entry). e.rules) nat_list_cmp_total)

-- R holds of any two elements at different places
abbrev Apart : {X : Type 0} → (X → X → Type 0) → List X → Type 0
Apart {X} R xs = (i j : ℕ) (d : X) → i ≢ j → i < length xs → j < length xs → R (get_or xs i d) (get_or xs j d)

-- where the element that stands at k after the exchange of a and b stood before
data Moved (a b k : ℕ) : ℕ → Type 0 where
  to_b : k ≡ b → Moved a b k a
  to_a : k ≡ a → k ≢ b → Moved a b k b
  kept : k ≢ a → k ≢ b → Moved a b k k

moved : (a b k : ℕ) → (m : ℕ) × Moved a b k m
moved a b k = ⊎_elim (λ e. (a, to_b e)) (λ n. ⊎_elim (λ e. (b, to_a e n)) (λ m. (k, kept m n)) (cases_eq k a)) (cases_eq k b)

swap_read : {X : Type 0} (xs : List X) (a b k m : ℕ) (d : X) → a < length xs → b < length xs → Moved a b k m → get_or (swap xs a b) k d ≡ get_or xs m d
swap_read xs a b k m d ha hb (to_b e) = rw (← swap_is xs a b d ha hb) (get_or-set_at _ b k _ d e (omega (arith, length-set xs a (get_or xs b d))))
swap_read xs a b k m d ha hb (to_a e n) = rw (← swap_is xs a b d ha hb, get_or-set_other _ b k _ d n) (get_or-set_at xs a k _ d e ha)
swap_read xs a b k m d ha hb (kept p n) = rw (← swap_is xs a b d ha hb, get_or-set_other _ b k _ d n, get_or-set_other xs a k _ d p) refl

apart_moved : (a b i j m n : ℕ) → i ≢ j → Moved a b i m → Moved a b j n → m ≢ n
apart_moved a b i j m n h (to_b e) (to_b f) = omega arith
apart_moved a b i j m n h (to_b e) (to_a f g) = omega arith
apart_moved a b i j m n h (to_b e) (kept f g) = omega arith
apart_moved a b i j m n h (to_a e p) (to_b f) = omega arith
apart_moved a b i j m n h (to_a e p) (to_a f g) = omega arith
apart_moved a b i j m n h (to_a e p) (kept f g) = omega arith
apart_moved a b i j m n h (kept e p) (to_b f) = omega arith
apart_moved a b i j m n h (kept e p) (to_a f g) = omega arith
apart_moved a b i j m n h (kept e p) (kept f g) = omega arith

moved_within : (a b k m n : ℕ) → a < n → b < n → k < n → Moved a b k m → m < n
moved_within a b k m n ha hb hk (to_b e) = ha
moved_within a b k m n ha hb hk (to_a e p) = hb
moved_within a b k m n ha hb hk (kept e p) = hk

apart_swapped : {X : Type 0} (R : X → X → Type 0) (xs : List X) (a b : ℕ) → a < length xs → b < length xs → Apart R xs → Apart R (swap xs a b)
apart_swapped R xs a b ha hb h i j d ne hi hj =
    let n : length (swap xs a b) ≡ length xs = ap length (sym (swap_is xs a b d ha hb)) ∙ length-set (set xs a (get_or xs b d)) b (get_or xs a d) ∙ length-set xs a (get_or xs b d) in
    let p = moved a b i in
    let q = moved a b j in
    let hi' : i < length xs = omega (arith, n) in
    let hj' : j < length xs = omega (arith, n) in
    rw (swap_read xs a b i p.0 d ha hb p.1, swap_read xs a b j q.0 d ha hb q.1)
    (h p.0 q.0 d (apart_moved a b i j p.0 q.0 ne p.1 q.1) (moved_within a b i p.0 (length xs) ha hb hi' p.1) (moved_within a b j q.0 (length xs) ha hb hj' q.1))

apart_both : {X : Type 0} (R : X → X → Type 0) (xs : List X) → ((a b : X) → R a b → R b a) → AllPairs R xs → Apart R xs
apart_both R xs turned h i j d ne hi hj =
    ⊎_elim (λ lt. h i j d lt hj) (λ le. turned _ _ (h j i d (omega arith) hi)) (cases_lt i j)

-- different elements at all pairs of places, however they are moved
pub apart_permuted : {X : Type 0} (R : X → X → Type 0) (xs ys : List X) → ((a b : X) → R a b → R b a) → AllPairs R xs → IsPermutation xs ys → Apart R ys
apart_permuted R xs ys turned h p =
    IsPermutation-keeps xs (Apart R) (apart_both R xs turned h) (λ l i j hi hj k. apart_swapped R l i j hi hj k) ys p

turned_over : (a b : Entry) → (entry_cmp a b ≢ Equal) → (entry_cmp b a ≢ Equal)
turned_over a b h e = h (entries_total.antisymm a b ∙ ap ordering_reverse e)

rise_of : (r s : Ordering) → s ≡ ordering_reverse r → (r ≢ Equal) → is_lt s ≡ false → r ≡ Less
rise_of Less s e h k = refl
rise_of Equal s e h k = absurd (h refl)
rise_of Greater s e h k = absurd (true≢false (sym (ap is_lt e) ∙ k))

in_order_at : {E : Type 0} (f : E → Entry) (xs ys : List E) (d : E) → AllPairs (λ (a b : Entry). entry_cmp a b ≢ Equal) (map f xs) → IsPermutation xs ys → IsSortedBy (λ x y. is_lt (entry_cmp (f x) (f y))) ys → (i : ℕ) (a b : Entry) → slice_get (map f ys) i ≡ Some a → slice_get (map f ys) (i + 1) ≡ Some b → entry_cmp a b ≡ Less
in_order_at f xs ys d apart p sorted i a b ea eb =
    let hb : i + 1 < length (map f ys) = slice_get_within (map f ys) (i + 1) b eb in
    let n : length (map f ys) ≡ length ys = simp length-map in
    let hy : i + 1 < length ys = omega arith in
    let hi : i < length ys = omega arith in
    let far = apart_permuted (λ (a b : Entry). entry_cmp a b ≢ Equal) (map f xs) (map f ys) turned_over apart (IsPermutation-map f xs ys p) in
    let ne : entry_cmp (get_or (map f ys) i a) (get_or (map f ys) (i + 1) a) ≢ Equal = far i (i + 1) a (omega arith) (omega arith) hb in
    let ga : get_or (map f ys) i a ≡ a = get_or_from_slice_get (map f ys) i a a ea in
    let gb : get_or (map f ys) (i + 1) a ≡ b = get_or_from_slice_get (map f ys) (i + 1) b a eb in
    let ne' : entry_cmp a b ≢ Equal = rw (ga, gb) at ne in
    let fa : f (get_or ys i d) ≡ a = sym (get_or-map f ys i d a hi) ∙ ga in
    let fb : f (get_or ys (i + 1) d) ≡ b = sym (get_or-map f ys (i + 1) d a hy) ∙ gb in
    let up : is_lt (entry_cmp (f (get_or ys (i + 1) d)) (f (get_or ys i d))) ≡ false = sorted i d (omega arith) hy in
    rise_of (entry_cmp a b) (entry_cmp b a) (entries_total.antisymm b a) ne' (rw (fa, fb) at up)

-- entries that are apart rise once they are sorted
pub in_order : {E : Type 0} (f : E → Entry) (xs ys : List E) → AllPairs (λ (a b : Entry). entry_cmp a b ≢ Equal) (map f xs) → IsPermutation xs ys → IsSortedBy (λ x y. is_lt (entry_cmp (f x) (f y))) ys → (i : ℕ) (a b : Entry) → slice_get (map f ys) i ≡ Some a → slice_get (map f ys) (i + 1) ≡ Some b → entry_cmp a b ≡ Less
in_order f xs [] apart p sorted i a b ea eb = cc
in_order f xs (d ∷ ys) apart p sorted i a b ea eb = in_order_at f xs (d ∷ ys) d apart p sorted i a b ea eb

-- entries in another order
pub entries_permuted : (net : Network) (hops : ℕ) (P : ℕ → List ℕ → Type 0) (xs ys : List Entry) → IsPermutation xs ys → AreEntries net hops P xs → AreEntries net hops P ys
entries_permuted net hops P xs ys p are = record {
  each = All-permutation (λ (e : Entry). P e.«from» e.rules) xs ys p are.each;
  apart = λ i j d less inside. apart_permuted (λ (a b : Entry). entry_cmp a b ≢ Equal) xs ys turned_over are.apart p i j d (omega arith) (omega arith) inside;
  classes = All-permutation (IsClass net hops) xs ys p are.classes;
  complete = λ f to rules header arrives asked member.
      let e = are.complete f to rules header arrives asked member in
      (e.0, Contains-permutation xs ys e.0 p e.1, e.2, e.3, e.4);
}

-- the entries of a table in any order are the table once they are sorted
pub table_from_found : (net : Network) (hops : ℕ) (xs ys : List Entry) → IsFound net hops xs → IsPermutation xs ys → IsInOrder ys → IsTable net hops ys
table_from_found net hops xs ys found p order = record {
  rises = order;
  classes = All-permutation (IsClass net hops) xs ys p found.classes;
  complete = λ f to rules header arrives member.
      let e = found.complete f to rules header arrives tt member in
      (e.0, Contains-permutation xs ys e.0 p e.1, e.2, e.3, e.4);
}

-- the entries of a table have different terminals or rules
pub table_apart : (net : Network) (hops : ℕ) (table : List Entry) → IsTable net hops table → AreApart table
table_apart net hops table t i j d less inside tied =
    let first : entry_cmp (get_or table i d) (get_or table j d) ≡ Less = Less-from_sorted entry_cmp table i j d (table_sorted net hops table t) less inside in
    let both : Less ≡ Equal = sym first ∙ tied in
    cc

-- an entry's place is one less than its number
pub entry_at_place : (table : List Entry) (n : ℕ) → 0 < n → entry_at table n ≡ slice_get table (n - 1)
entry_at_place table zero h = absurd (omega arith)
entry_at_place table (suc n) h = rw sub-one refl
