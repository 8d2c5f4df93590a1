-- What is kept of an old plan, with what a search of the other terminals finds, is of the new network.
use Rattle.std.specs.Prelude.{IsTrue, Contains}
use Rattle.std.proofs.Common.{◌≡◌, ◌≢◌, ◌↔◌, ◌⊎◌, ℕ, ◌<◌, Bool, true, List, ◌++◌, length, map, get_or, inl, inr, ⊎_elim, sym, ap, ◌∙◌, subst}
use Rattle.std.specs.List.{filter}
use Rattle.std.proofs.lemmas.List.{map-append}
use Rattle.std.proofs.lemmas.List.Elements.{All-contains, Contains-get_or}
use Rattle.std.proofs.lemmas.List.Kept.{AllPairs-filter}
use Rattle.list_laws.proofs.Members.{Contains-filter, Contains-from_filter, passes_of}
use Rattle.network_model.specs.Bits.{Header}
use Rattle.network_model.specs.Network.{Network}
use Rattle.network_model.specs.Classes.{permits, Member}
use Rattle.network_model.specs.Prefixes.{Touches}
use Rattle.network_model.specs.Table.{Entry, IsClass, IsTable, IsOver, entry_cmp}
use Rattle.std.specs.declared.cmp.Ordering.TheVariants.{Equal}
use Rattle.network_model.specs.WellFormed.{IsWellFormed}
use Rattle.network_model.proofs.SomeTable.{value_there, permitted_there}
use Rattle.path_table.specs.Entries.{starts_among, AreEntries, IsFound}
use Rattle.path_table.specs.Touching.{AreTouched}
use Rattle.path_table.proofs.Among.{among}
use Rattle.path_table.proofs.Ordered.{table_apart}
use Rattle.path_table.proofs.JoinedEntries.{entries_joined, all_entries, more_joined}
use Rattle.rule_cover.specs.PlanValue.{PlanValue}
use Rattle.class_tree.specs.Searched.{StartsAmong, IsSearched}
use Rattle.frontier_waves.specs.Waves.{TouchedBy}
use Rattle.change_laws.proofs.Terminals.{undisturbed, member_after, member_before, touches_after, touches_before, class_after}
use Rattle.plan_build.specs.Keeping.{numbers_of, IsKept, AreParted, Overflows}

module _ (old : PlanValue) (new : Network) (hops : ℕ) (fits : IsWellFormed old.net) (fits_new : IsWellFormed new) (kept others : List ℕ)
    (parted : AreParted old new hops (numbers_of new) kept others) where
  kept_is : (terminal : ℕ) → Contains kept terminal → IsKept old new hops terminal
  kept_is terminal there = All-contains (IsKept old new hops) kept terminal parted.kept_are there

  -- no terminal is kept and searched again
  pub excluded : (start : ℕ) (rules : List ℕ) → StartsAmong kept start rules → StartsAmong others start rules → ⊥
  excluded start rules first second =
      All-contains (λ (terminal : ℕ). IsKept old new hops terminal → ⊥) others start parted.others_are second (kept_is start first)

  -- each that sends something is one of the two
  pub sending : (terminal : ℕ) (header : Header) → IsTrue (permits new terminal header) → Contains kept terminal ⊎ Contains others terminal
  sending terminal header permitted = parted.all terminal (value_there new.terminals terminal (permitted_there new terminal header permitted))

  -- the old entries of the terminals that are kept
  pub kept_entries : IsTable old.net old.hops old.plan.table → AreEntries new hops (StartsAmong kept) (filter (starts_among kept) old.plan.table)
  kept_entries t = record {
    each = λ k d inside. starts k d inside;
    apart = AllPairs-filter (λ (a b : Entry). entry_cmp a b ≢ Equal) test table (table_apart old.net old.hops table t);
    classes = λ k d inside.
        let e : Entry = get_or (filter test table) k d in
        let is = kept_is e.«from» (starts k d inside) in
        let class = All-contains (IsClass old.net old.hops) table e t.classes (Contains-from_filter test table e (Contains-get_or (filter test table) k d inside)) in
        class_after old.net new fits hops e (undisturbed old.net new fits fits_new hops e.«from» is.unchanged) (subst (λ n. IsClass old.net n e) is.hops_same class);
    complete = λ start to rules header arrives there m.
        let is = kept_is start there in
        let before = member_before old.net new fits hops start (undisturbed old.net new fits fits_new hops start is.unchanged) rules to header arrives m in
        let found = t.complete start to rules header arrives (subst (λ n. Member old.net n start rules to header arrives) (sym is.hops_same) before) in
        let e : Entry = found.0 in
        let passes : test e ≡ true = (among kept e.«from»).1 (subst (λ s. Contains kept s) (sym found.2) there) in
        (e, Contains-filter test table e found.1 passes, found.2, found.3, found.4);
  }
    where
      table : List Entry
      table = old.plan.table

      test : Entry → Bool
      test = starts_among kept

      starts : (k : ℕ) (d : Entry) → k < length (filter test table) → Contains kept (get_or (filter test table) k d).«from»
      starts k d inside =
          let e : Entry = get_or (filter test table) k d in
          (among kept e.«from»).0 (passes_of test table e (Contains-get_or (filter test table) k d inside))

  -- with those of the others they are all
  pub all_found : (mine more : List Entry) → AreEntries new hops (StartsAmong kept) mine → AreEntries new hops (StartsAmong others) more → IsFound new hops (mine ++ more)
  all_found mine more first second =
      all_entries new hops (λ start rules. StartsAmong kept start rules ⊎ StartsAmong others start rules) (mine ++ more)
      (λ start to rules header arrives m. sending start header m.permitted)
      (entries_joined new hops (StartsAmong kept) (StartsAmong others) mine more excluded first second)

  -- the kept entries and more of the others than are left
  pub over : (mine : List Entry) (limit : ℕ) → AreEntries new hops (StartsAmong kept) mine → Overflows new hops others (length mine) limit → IsOver new hops limit
  over mine limit first flows =
      more_joined new hops (StartsAmong kept) (StartsAmong others) (λ start rules. Unit {0}) mine limit flows.left excluded
      (λ start rules is. tt) (λ start rules is. tt) flows.bound first flows.more

  -- the old pairs of the terminals that are kept, and the pairs of the others
  pub all_touched : (pairs found all : List (ℕ × ℕ)) → AreTouched old.net old.hops old.touched → TouchedBy new hops others found
      → ((terminal box : ℕ) → Contains pairs (terminal, box) ↔ (Contains old.touched (terminal, box) × Contains kept terminal))
      → ((terminal box : ℕ) → Contains all (terminal, box) ↔ (Contains pairs (terminal, box) ⊎ Contains found (terminal, box)))
      → AreTouched new hops all
  all_touched pairs found all before is restricted united terminal box = (
    λ there. ⊎_elim
        (λ mine.
        let both = (restricted terminal box).0 mine in
        let kept_so = kept_is terminal both.1 in
        touches_after old.net new fits hops terminal (undisturbed old.net new fits fits_new hops terminal kept_so.unchanged) box
        (subst (λ n. Touches old.net n terminal box) kept_so.hops_same ((before terminal box).0 both.0)))
        (λ more. ((is terminal box).0 more).1)
        ((united terminal box).0 there),
    λ touches. (united terminal box).1 (⊎_elim
        (λ mine.
        let kept_so = kept_is terminal mine in
        let t = touches_before old.net new fits hops terminal (undisturbed old.net new fits fits_new hops terminal kept_so.unchanged) box touches in
        inl ((restricted terminal box).1 ((before terminal box).1 (subst (λ n. Touches old.net n terminal box) (sym kept_so.hops_same) t), mine)))
        (λ more. inr ((is terminal box).1 (more, touches)))
        (sending terminal touches.header touches.permitted)),
  )

pub record IsReady (old : PlanValue) (new : Network) (hops : ℕ) (kept others : List ℕ) : Type 0 where
  pub old_fits : IsWellFormed old.net
  pub new_fits : IsWellFormed new
  pub parted : AreParted old new hops (numbers_of new) kept others

-- the same of a network that is seen as another value
pub ready : (old : PlanValue) (seen new : Network) (hops : ℕ) (kept others : List ℕ) → seen ≡ new → IsWellFormed old.net → IsWellFormed seen
    → AreParted old seen hops (numbers_of seen) kept others → IsReady old new hops kept others
ready old seen new hops kept others same old_fits new_fits parted =
    subst (λ (n : Network). IsReady old n hops kept others) same (record { old_fits = old_fits; new_fits = new_fits; parted = parted })

pub kept_are : (old : PlanValue) (new : Network) (hops : ℕ) (kept others listed : List ℕ) (table entries : List Entry) → IsReady old new hops kept others
    → IsTable old.net old.hops old.plan.table → listed ≡ kept → table ≡ old.plan.table → entries ≡ filter (starts_among listed) table
    → AreEntries new hops (StartsAmong kept) entries
kept_are old new hops kept others listed table entries r t same_list same_table is =
    subst (λ (es : List Entry). AreEntries new hops (StartsAmong kept) es)
    (sym (is ∙ ap (λ (k : List ℕ). filter (starts_among k) table) same_list ∙ ap (λ (es : List Entry). filter (starts_among kept) es) same_table))
    (kept_entries old new hops r.old_fits r.new_fits kept others r.parted t)

pub others_are : (seen new : Network) (hops : ℕ) (listed others : List ℕ) (entries : List Entry) (classes : ℕ) → seen ≡ new → listed ≡ others
    → IsSearched seen hops listed entries classes → AreEntries new hops (StartsAmong others) entries
others_are seen new hops listed others entries classes same same_list is =
    subst (λ (n : Network). AreEntries n hops (StartsAmong others) entries) same
    (subst (λ (l : List ℕ). AreEntries seen hops (StartsAmong l) entries) same_list is.found)

pub pairs_are : (seen new : Network) (hops : ℕ) (listed others : List ℕ) (pairs : List (ℕ × ℕ)) → seen ≡ new → listed ≡ others → TouchedBy seen hops listed pairs
    → TouchedBy new hops others pairs
pairs_are seen new hops listed others pairs same same_list is =
    subst (λ (n : Network). TouchedBy n hops others pairs) same (subst (λ (l : List ℕ). TouchedBy seen hops l pairs) same_list is)

pub flows_over : (seen new : Network) (hops : ℕ) (listed others : List ℕ) (kept limit : ℕ) → seen ≡ new → listed ≡ others → Overflows seen hops listed kept limit
    → Overflows new hops others kept limit
flows_over seen new hops listed others kept limit same same_list is =
    subst (λ (n : Network). Overflows n hops others kept limit) same (subst (λ (l : List ℕ). Overflows seen hops l kept limit) same_list is)

-- more entries than so many are more than so many
pub over_all : (net : Network) (hops limit : ℕ) (entries : List Entry) → IsFound net hops entries → limit < length entries → IsOver net hops limit
over_all net hops limit entries found more =
    record { entries = entries; each = λ k d inside. tt; apart = found.apart; classes = found.classes; more = more }

pub found_are : {E : Type 0} (f : E → Entry) (old : PlanValue) (new : Network) (hops : ℕ) (kept others : List ℕ) (mine more : List E) → IsReady old new hops kept others
    → AreEntries new hops (StartsAmong kept) (map f mine) → AreEntries new hops (StartsAmong others) (map f more) → IsFound new hops (map f (mine ++ more))
found_are f old new hops kept others mine more r first second =
    subst (λ (es : List Entry). IsFound new hops es) (sym (map-append f mine more))
    (all_found old new hops r.old_fits r.new_fits kept others r.parted (map f mine) (map f more) first second)
