-- The entries of a table that meet one condition or another.
use Rattle.std.proofs.Common.{◌≡◌, ◌≢◌, ◌⊎◌, ℕ, ◌+◌, ◌≤◌, List, ◌++◌, length, inl, inr, subst, ⊎_elim, arith}
use Rattle.std.specs.List.{All}
use Rattle.std.specs.Ordering.{nat_cmp}
use Rattle.std.specs.Cmp.Lexicographic.{slice_cmp}
use Rattle.std.specs.declared.cmp.Ordering.TheVariants.{Equal}
use Rattle.std.proofs.lemmas.List.{length-append}
use Rattle.std.proofs.lemmas.List.Elements.{All-append, All-weaker, All-contains, Contains-append_left, Contains-append_right}
use Rattle.std.proofs.lemmas.Map.Lookups.{exact_unsigned, exact_bytes}
use Rattle.list_laws.proofs.Orders.{then_first, then_second}
use Rattle.list_laws.proofs.Pairs.{AllPairs-append}
use Rattle.network_model.specs.Bits.{Header}
use Rattle.network_model.specs.Network.{Network}
use Rattle.network_model.specs.Classes.{Member}
use Rattle.network_model.specs.Table.{Entry, IsClass, AreApart, HasMore, entry_cmp}
use Rattle.path_table.specs.Entries.{AreEntries, IsFound}

-- entries that tie begin at one terminal and have the same rules
pub tied_starts : (a b : Entry) → entry_cmp a b ≡ Equal → a.«from» ≡ b.«from»
tied_starts a b tied = exact_unsigned a.«from» b.«from» (then_first (nat_cmp a.«from» b.«from») (slice_cmp nat_cmp a.rules b.rules) tied)

pub tied_rules : (a b : Entry) → entry_cmp a b ≡ Equal → a.rules ≡ b.rules
tied_rules a b tied = exact_bytes a.rules b.rules (then_second (nat_cmp a.«from» b.«from») (slice_cmp nat_cmp a.rules b.rules) tied)

-- entries of which each meets a condition, as those of others meet one that excludes it
apart_joined : (P Q : ℕ → List ℕ → Type 0) (entries more : List Entry) → ((start : ℕ) (rules : List ℕ) → P start rules → Q start rules → ⊥)
    → All (λ (e : Entry). P e.«from» e.rules) entries → All (λ (e : Entry). Q e.«from» e.rules) more → AreApart entries → AreApart more → AreApart (entries ++ more)
apart_joined P Q entries more excluded own other apart apart_more =
    AllPairs-append (λ (a b : Entry). entry_cmp a b ≢ Equal) entries more apart apart_more (λ a b in_a in_b tied.
    let here : P a.«from» a.rules = All-contains (λ (e : Entry). P e.«from» e.rules) entries a own in_a in
    let there : Q b.«from» b.rules = All-contains (λ (e : Entry). Q e.«from» e.rules) more b other in_b in
    excluded b.«from» b.rules (subst (λ s. P s b.rules) (tied_starts a b tied) (subst (λ l. P a.«from» l) (tied_rules a b tied) here)) there)

-- under a condition that says the same of the lists that are delivered
pub entries_same : (net : Network) (hops : ℕ) (P Q : ℕ → List ℕ → Type 0) (entries : List Entry) → ((start : ℕ) (rules : List ℕ) → P start rules → Q start rules)
    → ((start to : ℕ) (rules : List ℕ) (header arrives : Header) → Q start rules → Member net hops start rules to header arrives → P start rules)
    → AreEntries net hops P entries → AreEntries net hops Q entries
entries_same net hops P Q entries onward back are = record {
  each = All-weaker (λ (e : Entry). P e.«from» e.rules) (λ (e : Entry). Q e.«from» e.rules) (λ e is. onward e.«from» e.rules is) entries are.each;
  apart = are.apart;
  classes = are.classes;
  complete = λ start to rules header arrives asked m. are.complete start to rules header arrives (back start to rules header arrives asked m) m;
}

-- of two conditions that exclude each other
pub entries_joined : (net : Network) (hops : ℕ) (P Q : ℕ → List ℕ → Type 0) (entries more : List Entry) → ((start : ℕ) (rules : List ℕ) → P start rules → Q start rules → ⊥)
    → AreEntries net hops P entries → AreEntries net hops Q more → AreEntries net hops (λ start rules. P start rules ⊎ Q start rules) (entries ++ more)
entries_joined net hops P Q entries more excluded first second = record {
  each = All-append Either entries more
      (All-weaker (λ (e : Entry). P e.«from» e.rules) Either (λ e is. inl is) entries first.each)
      (All-weaker (λ (e : Entry). Q e.«from» e.rules) Either (λ e is. inr is) more second.each);
  apart = apart_joined P Q entries more excluded first.each second.each first.apart second.apart;
  classes = All-append (IsClass net hops) entries more first.classes second.classes;
  complete = λ start to rules header arrives asked m. ⊎_elim
      (λ here. let e = first.complete start to rules header arrives here m in (e.0, Contains-append_left entries more e.0 e.1, e.2, e.3, e.4))
      (λ here. let e = second.complete start to rules header arrives here m in (e.0, Contains-append_right entries more e.0 e.1, e.2, e.3, e.4))
      asked;
}
  where
    Either : Entry → Type 0
    Either e = P e.«from» e.rules ⊎ Q e.«from» e.rules

-- where each list that is delivered meets the condition they are all entries of the table
pub all_entries : (net : Network) (hops : ℕ) (P : ℕ → List ℕ → Type 0) (entries : List Entry)
    → ((start to : ℕ) (rules : List ℕ) (header arrives : Header) → Member net hops start rules to header arrives → P start rules)
    → AreEntries net hops P entries → IsFound net hops entries
all_entries net hops P entries each are =
    entries_same net hops P (λ start rules. Unit {0}) entries (λ start rules is. tt) (λ start to rules header arrives any m. each start to rules header arrives m) are

-- what is known and more than is left of others are more than the limit
pub more_joined : (net : Network) (hops : ℕ) (P Q R : ℕ → List ℕ → Type 0) (entries : List Entry) (limit left : ℕ) → ((start : ℕ) (rules : List ℕ) → P start rules → Q start rules → ⊥)
    → ((start : ℕ) (rules : List ℕ) → P start rules → R start rules) → ((start : ℕ) (rules : List ℕ) → Q start rules → R start rules)
    → limit ≤ length entries + left → AreEntries net hops P entries → HasMore net hops Q left → HasMore net hops R limit
more_joined net hops P Q R entries limit left excluded first second bound are has = record {
  entries = entries ++ has.entries;
  each = All-append (λ (e : Entry). R e.«from» e.rules) entries has.entries
      (All-weaker (λ (e : Entry). P e.«from» e.rules) (λ (e : Entry). R e.«from» e.rules) (λ e is. first e.«from» e.rules is) entries are.each)
      (All-weaker (λ (e : Entry). Q e.«from» e.rules) (λ (e : Entry). R e.«from» e.rules) (λ e is. second e.«from» e.rules is) has.entries has.each);
  apart = apart_joined P Q entries has.entries excluded are.each has.each are.apart has.apart;
  classes = All-append (IsClass net hops) entries has.entries are.classes has.classes;
  more = omega (arith, length-append entries has.entries, has.more);
}
