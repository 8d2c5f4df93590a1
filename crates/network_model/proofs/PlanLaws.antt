-- A network and a hop limit have at most one plan, whose idle rules are those that are not exercised.
use Rattle.std.specs.Prelude.{◌≡◌, ℕ, zero, suc, ◌+◌, ◌<◌, ◌↔◌, true, false, not, List, [], ◌∷◌, map, length, slice_get, slice_index_or, Option, Some, Contains, nat_eq}
use Rattle.std.specs.List.{filter, list_any, range_with_len}
use Rattle.std.proofs.Common.{sym, ap, ◌∙◌, subst, ⊎_elim, arith}
use Rattle.std.proofs.lemmas.Bool.{cases_lt, eqb-true, true≢false, false_from_ne_true, or_cases, or_left, or_right, not-true, not_from_false}
use Rattle.std.proofs.lemmas.List.Folds.{list_any-append}
use Rattle.std.proofs.lemmas.List.FromFn.{length-range_with_len, get_or-range_with_len}
use Rattle.std.proofs.lemmas.List.Elements.{Contains-get_or, All-contains, All-filter, All-contains_itself, filter_passes}
use Rattle.std.proofs.lemmas.Map.Views.{Contains-from_any, list_any-from_Contains, any-filter_same}
use Rattle.std.proofs.lemmas.Cmp.{nat_eq_equiv}
use Rattle.std.proofs.lemmas.Option.{slice_get_past, slice_get-get_or}
use Rattle.list_laws.proofs.Members.{Contains-cons_cases}
use Rattle.network_model.specs.Network.{Network, Numbered}
use Rattle.network_model.specs.Table.{Entry, IsTable}
use Rattle.network_model.specs.Cover.{IsExercised, rules_at, entry_at, rules_of, IsGreedy}
use Rattle.network_model.specs.Plan.{Plan, idle, IsPlan}
use Rattle.network_model.proofs.TableLaws.{no_entry, same_tables, entry_class}
use Rattle.network_model.proofs.CoverLaws.{same_covers, exercised_entry}

-- two plans of one network and hop limit are equal
pub same_plans : (net : Network) (hops : ℕ) (a b : Plan) → IsPlan net hops a → IsPlan net hops b → a ≡ b
same_plans net hops a b p q =
    let table : a.table ≡ b.table = same_tables net hops a.table b.table p.table q.table in
    let probes : a.probes ≡ b.probes = same_covers b.table a.probes b.probes (subst (λ (t : List Entry). IsGreedy t a.probes) table p.probes) q.probes in
    λ i. record { table = table i; probes = probes i }

-- a rule on one of the entries is among their rules
pub any_rules_of : (table : List Entry) (r n : ℕ) → list_any (nat_eq r) (rules_at (entry_at table n)) ≡ true → (ns : List ℕ) → Contains ns n → list_any (nat_eq r) (rules_of table ns) ≡ true
any_rules_of table r n h [] c = absurd (omega arith)
any_rules_of table r n h (m ∷ ns) c =
    let own = list_any (nat_eq r) (rules_at (entry_at table m)) in
    let rest = list_any (nat_eq r) (rules_of table ns) in
    list_any-append (nat_eq r) (rules_at (entry_at table m)) (rules_of table ns)
    ∙ ⊎_elim (λ (e : m ≡ n). or_left own rest (subst (λ (k : ℕ). list_any (nat_eq r) (rules_at (entry_at table k)) ≡ true) (sym e) h))
    (λ later. or_right own rest (any_rules_of table r n h ns later)) (Contains-cons_cases m n ns c)

-- a rule among the rules of some entries is on one of them
pub place_of_rule : (table : List Entry) (r : ℕ) (ns : List ℕ) → list_any (nat_eq r) (rules_of table ns) ≡ true → (n : ℕ) × (list_any (nat_eq r) (rules_at (entry_at table n)) ≡ true)
place_of_rule table r [] h = absurd (true≢false (sym h))
place_of_rule table r (m ∷ ns) h =
    ⊎_elim (λ own. (m, own)) (λ rest. place_of_rule table r ns rest)
    (or_cases (list_any (nat_eq r) (rules_at (entry_at table m))) (list_any (nat_eq r) (rules_of table ns)) (sym (list_any-append (nat_eq r) (rules_at (entry_at table m)) (rules_of table ns)) ∙ h))

-- the rules of all entries of a table
abbrev pub rules_of_table : List Entry → List ℕ
rules_of_table table = rules_of table (range_with_len 1 (length table))

range_contains : (n k : ℕ) → k < n → Contains (range_with_len 1 n) (suc k)
range_contains n k h =
    let e : 1 + k ≡ suc k = omega arith in
    (k, omega (arith, length-range_with_len 1 n), get_or-range_with_len 1 n k (suc k) h ∙ e)

inside : (table : List Entry) (r k : ℕ) → list_any (nat_eq r) (rules_at (slice_get table k)) ≡ true → k < length table
inside table r k h =
    ⊎_elim (λ l. l) (λ past. absurd (true≢false (sym h ∙ ap (λ (o : Option Entry). list_any (nat_eq r) (rules_at o)) (slice_get_past table k past)))) (cases_lt k (length table))

-- a rule on some entry is among the rules of all
pub any_of_table : (table : List Entry) (r n : ℕ) → list_any (nat_eq r) (rules_at (entry_at table n)) ≡ true → list_any (nat_eq r) (rules_of_table table) ≡ true
any_of_table table r zero h = absurd (true≢false (sym h))
any_of_table table r (suc k) h = any_rules_of table r (suc k) h (range_with_len 1 (length table)) (range_contains (length table) k (inside table r k h))

-- a rule on an entry is exercised
pub exercised_at : (net : Network) (hops : ℕ) (table : List Entry) → IsTable net hops table → (r n : ℕ) → list_any (nat_eq r) (rules_at (entry_at table n)) ≡ true → IsExercised net hops r
exercised_at net hops table t r zero h = absurd (true≢false (sym h))
exercised_at net hops table t r (suc k) h =
    let l = inside table r k h in
    let e = slice_index_or table k no_entry in
    let class = entry_class net hops table t e (Contains-get_or table k no_entry l) in
    let at : slice_get table k ≡ Some e = slice_get-get_or table k no_entry l in
    record {
      from = e.from;
      to = e.to;
      rules = e.rules;
      header = e.least;
      arrives = e.arrives;
      travels = class.least;
      meets = sym (ap (λ (o : Option Entry). list_any (nat_eq r) (rules_at o)) at) ∙ h;
    }

-- an idle rule is a rule of the network that stands on no entry
pub idle_parts : (net : Network) (plan : Plan) (r : ℕ) → Contains (idle net plan) r → Contains (map (λ (rule : Numbered). rule.0) net.rules) r × (list_any (nat_eq r) (rules_of_table plan.table) ≡ false)
idle_parts net plan r c =
    let numbers = map (λ (rule : Numbered). rule.0) net.rules in
    let test = λ (n : ℕ). not (list_any (nat_eq n) (rules_of_table plan.table)) in
    let passes : not (list_any (nat_eq r) (rules_of_table plan.table)) ≡ true = All-contains (λ (n : ℕ). test n ≡ true) (filter test numbers) r (filter_passes test numbers) c in (
      All-contains (Contains numbers) (filter test numbers) r (All-filter test (Contains numbers) numbers (All-contains_itself numbers)) c,
      not-true (list_any (nat_eq r) (rules_of_table plan.table)) passes,
    )

-- a rule of the network that stands on no entry is idle
pub idle_from_parts : (net : Network) (plan : Plan) (r : ℕ) → Contains (map (λ (rule : Numbered). rule.0) net.rules) r → list_any (nat_eq r) (rules_of_table plan.table) ≡ false → Contains (idle net plan) r
idle_from_parts net plan r c none =
    let numbers = map (λ (rule : Numbered). rule.0) net.rules in
    let test = λ (n : ℕ). not (list_any (nat_eq n) (rules_of_table plan.table)) in
    let passes : test r ≡ true = not_from_false (list_any (nat_eq r) (rules_of_table plan.table)) none in
    let agree : (k : ℕ) → nat_eq r k ≡ true → test k ≡ true = λ k e. subst (λ (n : ℕ). test n ≡ true) (eqb-true r k e) passes in
    let kept : list_any (nat_eq r) (filter test numbers) ≡ true = any-filter_same (nat_eq r) test true agree numbers ∙ list_any-from_Contains nat_eq_equiv r numbers c in
    Contains-from_any eqb-true r (filter test numbers) kept

-- an idle rule is on no entry of the table
pub idle_on_none : (net : Network) (plan : Plan) (r : ℕ) → Contains (idle net plan) r → (n : ℕ) → Contains (rules_at (entry_at plan.table n)) r → ⊥
idle_on_none net plan r c n d =
    let on : list_any (nat_eq r) (rules_at (entry_at plan.table n)) ≡ true = list_any-from_Contains nat_eq_equiv r (rules_at (entry_at plan.table n)) d in
    true≢false (sym (any_of_table plan.table r n on) ∙ (idle_parts net plan r c).1)

-- an idle rule is not exercised
pub idle_not_exercised : (net : Network) (hops : ℕ) (plan : Plan) → IsTable net hops plan.table → (r : ℕ) → Contains (idle net plan) r → IsExercised net hops r → ⊥
idle_not_exercised net hops plan t r c x =
    let place = exercised_entry net hops plan.table t r x in
    true≢false (sym (any_of_table plan.table r (suc place.0) place.2) ∙ (idle_parts net plan r c).1)

-- a rule of the network that is not exercised is idle
pub idle_from_not_exercised : (net : Network) (hops : ℕ) (plan : Plan) → IsTable net hops plan.table → (r : ℕ) → Contains (map (λ (rule : Numbered). rule.0) net.rules) r → (IsExercised net hops r → ⊥) → Contains (idle net plan) r
idle_from_not_exercised net hops plan t r c never =
    let place = λ (h : list_any (nat_eq r) (rules_of_table plan.table) ≡ true). place_of_rule plan.table r (range_with_len 1 (length plan.table)) h in
    idle_from_parts net plan r c (false_from_ne_true (list_any (nat_eq r) (rules_of_table plan.table)) (λ h. never (exercised_at net hops plan.table t r (place h).0 (place h).1)))

-- the idle rules are the rules of the network that are not exercised
pub idle_iff : (net : Network) (hops : ℕ) (plan : Plan) → IsTable net hops plan.table → (r : ℕ) → Contains (idle net plan) r ↔ (Contains (map (λ (rule : Numbered). rule.0) net.rules) r × (IsExercised net hops r → ⊥))
idle_iff net hops plan t r = (λ c. ((idle_parts net plan r c).0, idle_not_exercised net hops plan t r c), λ h. idle_from_not_exercised net hops plan t r h.0 h.1)
