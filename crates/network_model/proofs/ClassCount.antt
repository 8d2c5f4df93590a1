-- Different classes are no more than the entries of a table.
use Rattle.std.specs.Prelude.{◌≡◌, ◌≢◌, ◌↔◌, ℕ, ◌<◌, ◌≤◌, true, false, List, length, slice_index_or, All, AllPairs, Contains}
use Rattle.std.proofs.Common.{refl, sym, ap, ◌∙◌, subst, arith}
use Rattle.std.specs.List.{list_any}
use Rattle.std.specs.Ordering.{nat_cmp, ordering_then, is_eq, eq_by_cmp}
use Rattle.std.specs.Cmp.Lexicographic.{slice_cmp}
use Rattle.std.specs.declared.cmp.Ordering.{Ordering}
use Rattle.std.specs.declared.cmp.Ordering.TheVariants.{Less, Equal, Greater}
use Rattle.std.proofs.lemmas.Cmp.{eq_by_cmp_equiv}
use Rattle.std.proofs.lemmas.List.Elements.{All-contains}
use Rattle.std.proofs.lemmas.List.Folds.{Any-from_list_any, list_any_at}
use Rattle.std.proofs.lemmas.Map.Keys.{IsDistinct-from_apart, Less-from_sorted}
use Rattle.std.proofs.lemmas.Map.Made.{length-le_from_is_member}
use Rattle.network_model.specs.Network.{Network}
use Rattle.network_model.specs.Table.{Entry, entry_cmp, IsClass, AreApart, IsTable, IsOver}
use Rattle.network_model.proofs.TableLaws.{entry_cmp_total, table_sorted}

-- two that aren't equal don't tie
untied : (o : Ordering) → o ≢ Equal → is_eq o ≡ false
untied Less h = refl
untied Equal h = absurd (h refl)
untied Greater h = refl

-- an entry that ties with a class ties with the table's entry of that class
tied_there : (net : Network) (hops : ℕ) (table : List Entry) → IsTable net hops table → (q x : Entry) → IsClass net hops x
    → eq_by_cmp entry_cmp q x ≡ true → list_any (eq_by_cmp entry_cmp q) table ≡ true
tied_there net hops table t q x class tied =
    let found = t.complete x.from x.to x.rules x.least x.arrives class.least in
    let from : x.from ≡ found.0.from = sym found.2 in
    let rules : x.rules ≡ found.0.rules = sym found.4 in
    let moved : entry_cmp q x ≡ entry_cmp q found.0 = λ i. ordering_then (nat_cmp q.from (from i)) (slice_cmp nat_cmp q.rules (rules i)) in
    let place = found.1 in
    list_any_at (eq_by_cmp entry_cmp q) table place.0 found.0 place.1
    (subst (λ (e : Entry). eq_by_cmp entry_cmp q e ≡ true) (sym place.2) (sym (ap is_eq moved) ∙ tied))

-- each of some different classes has an entry of its own
pub different_classes_fit : (net : Network) (hops : ℕ) (table classes : List Entry) → IsTable net hops table
    → AllPairs (λ (a b : Entry). entry_cmp a b ≢ Equal) classes → All (IsClass net hops) classes → length classes ≤ length table
different_classes_fit net hops table classes t apart all =
    length-le_from_is_member {eq = eq_by_cmp entry_cmp} (eq_by_cmp_equiv entry_cmp_total) classes table
    (IsDistinct-from_apart (eq_by_cmp entry_cmp) classes (λ i j d less inside.
    untied (entry_cmp (slice_index_or classes i d) (slice_index_or classes j d)) (apart i j d less inside)))
    (λ q h.
    let any = Any-from_list_any (eq_by_cmp entry_cmp q) classes h in
    let there : Contains classes any.1 = (any.0, any.2, any.3) in
    tied_there net hops table t q any.1 (All-contains (IsClass net hops) classes any.1 all there) any.4)

-- the entries of a table have different terminals or rules
table_apart : (net : Network) (hops : ℕ) (table : List Entry) → IsTable net hops table → AreApart table
table_apart net hops table t i j d less inside tied =
    let first : entry_cmp (slice_index_or table i d) (slice_index_or table j d) ≡ Less = Less-from_sorted entry_cmp table i j d (table_sorted net hops table t) less inside in
    let both : Less ≡ Equal = sym first ∙ tied in
    cc

-- there are more entries than so many exactly where the table is longer
pub over_is_longer : (net : Network) (hops limit : ℕ) (table : List Entry) → IsTable net hops table → IsOver net hops limit ↔ (limit < length table)
over_is_longer net hops limit table t = (
  λ over. let fit = different_classes_fit net hops table over.entries t over.apart over.classes in omega (arith, fit, over.more),
  λ more. record { entries = table; each = λ k d inside. tt; apart = table_apart net hops table t; classes = t.classes; more = more },
)
