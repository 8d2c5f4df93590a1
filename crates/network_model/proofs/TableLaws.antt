-- A network and a hop limit have at most one table.
use Rattle.std.specs.Prelude.{◌≡◌, ℕ, ◌+◌, List, [], slice_index_or, All, Contains, IsTrue}
use Rattle.std.proofs.Common.{sym, ap, ◌∙◌, subst, arith}
use Rattle.std.proofs.lemmas.Cmp.{nat_cmp_total, nat_list_cmp_total, on_total, then_total}
use Rattle.std.proofs.lemmas.List.Elements.{All-contains}
use Rattle.std.proofs.lemmas.Map.Keys.{sorted_from_all_adjacent}
use Rattle.std.proofs.lemmas.Option.{slice_get-get_or}
use Rattle.std.specs.Cmp.{IsTotalOrder}
use Rattle.std.specs.List.Sorted.{IsStrictlySortedBy}
use Rattle.list_laws.proofs.SortedLists.{same_from_sorted}
use Rattle.network_model.specs.Bits.{Header}
use Rattle.network_model.specs.Network.{Network}
use Rattle.network_model.specs.Walk.{Delivered}
use Rattle.network_model.specs.Classes.{Member, permits, walk_from}
use Rattle.network_model.specs.Table.{Entry, entry_cmp, IsClass, IsTable}
use Rattle.network_model.proofs.HeaderOrder.{header_cmp_least}

-- entries are totally ordered by terminal and rules
pub entry_cmp_total : IsTotalOrder entry_cmp
entry_cmp_total = then_total (on_total (λ (e : Entry). e.from) nat_cmp_total) (on_total (λ (e : Entry). e.rules) nat_list_cmp_total)

-- what a lookup past the end of a table gives
pub no_entry : Entry
no_entry = record { from = 0; to = 0; rules = []; least = []; greatest = []; arrives = [] }

-- each entry of a table is below all later ones
pub table_sorted : (net : Network) (hops : ℕ) (table : List Entry) → IsTable net hops table → IsStrictlySortedBy entry_cmp table
table_sorted net hops table t =
    sorted_from_all_adjacent entry_cmp_total table no_entry (λ k h. t.rises k (slice_index_or table k no_entry) (slice_index_or table (k + 1) no_entry) (slice_get-get_or table k no_entry (omega arith)) (slice_get-get_or table (k + 1) no_entry h))

-- each entry of a table is a class with members
pub entry_class : (net : Network) (hops : ℕ) (table : List Entry) → IsTable net hops table → (e : Entry) → Contains table e → IsClass net hops e
entry_class net hops table t e c = All-contains (IsClass net hops) table e t.classes c

-- a member of a class is one of a class with the same terminals and rules
moved : (net : Network) (hops : ℕ) (e f : Entry) (header arrives : Header) → e.from ≡ f.from → e.to ≡ f.to → e.rules ≡ f.rules → Member net hops e.from e.rules e.to header arrives → Member net hops f.from f.rules f.to header arrives
moved net hops e f header arrives from to rules m =
    subst (λ (a : ℕ). Member net hops a f.rules f.to header arrives) from
    (subst (λ (b : ℕ). Member net hops e.from f.rules b header arrives) to
    (subst (λ (w : List ℕ). Member net hops e.from w e.to header arrives) rules m))

same_arrival : (net : Network) (hops : ℕ) (e f : Entry) → IsClass net hops e → IsClass net hops f → e.from ≡ f.from → e.least ≡ f.least → e.arrives ≡ f.arrives
same_arrival net hops e f c d from least =
    let one : (walk_from net hops e.from e.least).end ≡ Delivered e.to e.arrives = c.least.delivered in
    let other : (walk_from net hops f.from f.least).end ≡ Delivered f.to f.arrives = d.least.delivered in
    let same : (walk_from net hops e.from e.least).end ≡ (walk_from net hops f.from f.least).end = ap (λ (a : ℕ). (walk_from net hops a e.least).end) from ∙ ap (λ (h : Header). (walk_from net hops f.from h).end) least in
    let both : Delivered e.to e.arrives ≡ Delivered f.to f.arrives = sym one ∙ (same ∙ other) in
    cc

-- two classes with the same terminals and rules are one entry
pub same_class : (net : Network) (hops : ℕ) (e f : Entry) → IsClass net hops e → IsClass net hops f → e.from ≡ f.from → e.to ≡ f.to → e.rules ≡ f.rules → e ≡ f
same_class net hops e f c d from to rules =
    let fl : Member net hops e.from e.rules e.to f.least f.arrives = moved net hops f e f.least f.arrives (sym from) (sym to) (sym rules) d.least in
    let el : Member net hops f.from f.rules f.to e.least e.arrives = moved net hops e f e.least e.arrives from to rules c.least in
    let fg : Member net hops e.from e.rules e.to f.greatest d.greatest.0 = moved net hops f e f.greatest d.greatest.0 (sym from) (sym to) (sym rules) d.greatest.1 in
    let eg : Member net hops f.from f.rules f.to e.greatest c.greatest.0 = moved net hops e f e.greatest c.greatest.0 from to rules c.greatest.1 in
    let least : e.least ≡ f.least = header_cmp_least e.least f.least (d.between e.least e.arrives el).0 (c.between f.least f.arrives fl).0 in
    let greatest : e.greatest ≡ f.greatest = header_cmp_least e.greatest f.greatest (c.between f.greatest d.greatest.0 fg).1 (d.between e.greatest c.greatest.0 eg).1 in
    let arrives : e.arrives ≡ f.arrives = same_arrival net hops e f c d from least in
    λ i. record { from = from i; to = to i; rules = rules i; least = least i; greatest = greatest i; arrives = arrives i }

-- each entry of one table is one of the other
same_entries : (net : Network) (hops : ℕ) (a b : List Entry) → IsTable net hops a → IsTable net hops b → (e : Entry) → Contains a e → Contains b e
same_entries net hops a b s t e c =
    let class = entry_class net hops a s e c in
    let found = t.complete e.from e.to e.rules e.least e.arrives class.least in
    subst (Contains b) (same_class net hops found.0 e (entry_class net hops b t found.0 found.1) class found.2 found.3 found.4) found.1

-- two tables of one network and hop limit are equal
pub same_tables : (net : Network) (hops : ℕ) (a b : List Entry) → IsTable net hops a → IsTable net hops b → a ≡ b
same_tables net hops a b s t =
    same_from_sorted entry_cmp_total a b (table_sorted net hops a s) (table_sorted net hops b t) (same_entries net hops a b s t) (same_entries net hops b a t s)

-- the least header of an entry travels as the entry says
pub packet_travels : (net : Network) (hops : ℕ) (e : Entry) → IsClass net hops e → walk_from net hops e.from e.least ≡ record { rules = e.rules; end = Delivered e.to e.arrives }
packet_travels net hops e c = λ i. record { rules = c.least.travels i; end = c.least.delivered i }

-- each packet may be sent
pub packets_permitted : (net : Network) (hops : ℕ) (table : List Entry) → IsTable net hops table → All (λ (e : Entry). IsTrue (permits net e.from e.least)) table
packets_permitted net hops table t k d h = (t.classes k d h).least.permitted

-- each packet travels as its entry says
pub packets_travelled : (net : Network) (hops : ℕ) (table : List Entry) → IsTable net hops table → All (λ (e : Entry). walk_from net hops e.from e.least ≡ record { rules = e.rules; end = Delivered e.to e.arrives }) table
packets_travelled net hops table t k d h = packet_travels net hops (slice_index_or table k d) (t.classes k d h)
