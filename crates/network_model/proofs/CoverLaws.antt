-- A table has at most one greedy cover, and the cover has each exercised rule.
use Rattle.std.specs.Prelude.{◌≡◌, ℕ, suc, ◌<◌, Bool, true, cond, List, [], ◌∷◌, ◌++◌, length, take, slice_get, Option, Some, Contains, nat_eq}
use Rattle.std.specs.List.{list_any}
use Rattle.std.proofs.Common.{refl, sym, ap, ◌∙◌, subst, ⊎_elim, append_assoc, arith}
use Rattle.std.proofs.lemmas.Bool.{cases_Bool, cases_order, eqb-true, true≢false, or_cases}
use Rattle.std.proofs.lemmas.List.{append-nil, take_at}
use Rattle.std.proofs.lemmas.Map.Views.{Contains-from_any}
use Rattle.std.proofs.lemmas.Option.{slice_get-get_or}
use Rattle.network_model.specs.Network.{Network}
use Rattle.network_model.specs.Table.{Entry, IsTable}
use Rattle.network_model.specs.Cover.{IsExercised, fresh, rules_at, entry_at, rules_of, gain, IsBest, IsGreedy}

-- the first number with the greatest gain
pub same_best : (table : List Entry) (chosen : List ℕ) (m n : ℕ) → IsBest table chosen m → IsBest table chosen n → m ≡ n
same_best table chosen m n b c =
    ⊎_elim (λ e. e) (λ apart. ⊎_elim
    (λ less. absurd (omega (arith, b.greatest n, c.first m less)))
    (λ more. absurd (omega (arith, c.greatest m, b.first n more))) apart) (cases_order m n)

at_seam : (chosen : List ℕ) (n : ℕ) (rest : List ℕ) → slice_get (chosen ++ n ∷ rest) (length chosen) ≡ Some n
at_seam [] n rest = refl
at_seam (m ∷ chosen) n rest = at_seam chosen n rest

best_next : (table : List Entry) (probes chosen : List ℕ) (n : ℕ) (rest : List ℕ) → IsGreedy table probes → probes ≡ chosen ++ n ∷ rest → IsBest table chosen n
best_next table probes chosen n rest g e =
    let at : slice_get probes (length chosen) ≡ Some n = ap (λ (l : List ℕ). slice_get l (length chosen)) e ∙ at_seam chosen n rest in
    let front : take (length chosen) probes ≡ chosen = ap (λ (l : List ℕ). take (length chosen) l) e ∙ take_at chosen (n ∷ rest) (length chosen) refl in
    subst (λ (l : List ℕ). IsBest table l n) front (g.each (length chosen) n at)

-- a cover ends where nothing more is gained
never_more : (table : List Entry) (short long chosen : List ℕ) (n : ℕ) (rest : List ℕ) → IsGreedy table short → IsGreedy table long → short ≡ chosen ++ [] → long ≡ chosen ++ n ∷ rest → ⊥
never_more table short long chosen n rest g h e f =
    let none : gain table chosen n ≡ 0 = subst (λ (l : List ℕ). gain table l n ≡ 0) (e ∙ append-nil chosen) (g.done n) in
    let best = best_next table long chosen n rest h f in
    let some : 0 < gain table chosen n = best.positive in
    omega arith

one_more : (chosen : List ℕ) (n : ℕ) (rest : List ℕ) → chosen ++ n ∷ rest ≡ (chosen ++ n ∷ []) ++ rest
one_more chosen n rest = sym (append_assoc chosen (n ∷ []) rest)

same_rests : (table : List Entry) (p q chosen rest other : List ℕ) → IsGreedy table p → IsGreedy table q → p ≡ chosen ++ rest → q ≡ chosen ++ other → rest ≡ other
same_rests table p q chosen [] [] g h e f = refl
same_rests table p q chosen [] (n ∷ other) g h e f = absurd (never_more table p q chosen n other g h e f)
same_rests table p q chosen (m ∷ rest) [] g h e f = absurd (never_more table q p chosen m rest h g f e)
same_rests table p q chosen (m ∷ rest) (n ∷ other) g h e f =
    let same : m ≡ n = same_best table chosen m n (best_next table p chosen m rest g e) (best_next table q chosen n other h f) in
    let more : q ≡ (chosen ++ m ∷ []) ++ other = f ∙ (ap (λ (k : ℕ). chosen ++ k ∷ other) (sym same) ∙ one_more chosen m other) in
    let rests : rest ≡ other = same_rests table p q (chosen ++ m ∷ []) rest other g h (e ∙ one_more chosen m rest) more in
    cc

-- two greedy covers of one table are equal
pub same_covers : (table : List Entry) (p q : List ℕ) → IsGreedy table p → IsGreedy table q → p ≡ q
same_covers table p q g h = same_rests table p q [] p q g h refl refl

-- where a list adds nothing, each of its numbers was seen
pub seen_from_fresh : (seen rules : List ℕ) → fresh seen rules ≡ 0 → (r : ℕ) → list_any (nat_eq r) rules ≡ true → list_any (nat_eq r) seen ≡ true
seen_from_fresh seen [] none r h = absurd (true≢false (sym h))
seen_from_fresh seen (x ∷ rules) none r h =
    let first : list_any (nat_eq x) seen ≡ true = ⊎_elim (λ e. e) (λ e. let one : cond {A = ℕ} (list_any (nat_eq x) seen) 0 1 ≡ 1 = ap {B = ℕ} (λ (b : Bool). cond {A = ℕ} b 0 1) e in absurd (omega arith)) (cases_Bool (list_any (nat_eq x) seen)) in
    let rest : fresh (x ∷ seen) rules ≡ 0 = omega arith in
    let same = λ (e : nat_eq r x ≡ true). subst (λ (y : ℕ). list_any (nat_eq y) seen ≡ true) (sym (eqb-true r x e)) first in
    ⊎_elim same
    (λ later. ⊎_elim same (λ s. s) (or_cases (nat_eq r x) (list_any (nat_eq r) seen) (seen_from_fresh (x ∷ seen) rules rest r later)))
    (or_cases (nat_eq r x) (list_any (nat_eq r) rules) h)

-- an entry of a table has a number
pub entry_number : (table : List Entry) (e : Entry) → Contains table e → (n : ℕ) × (n < length table) × (entry_at table (suc n) ≡ Some e)
entry_number table e c = (c.0, c.1, slice_get-get_or table c.0 e c.1 ∙ ap Some c.2)

-- an exercised rule is on an entry of the table
pub exercised_entry : (net : Network) (hops : ℕ) (table : List Entry) → IsTable net hops table → (r : ℕ) → IsExercised net hops r → (n : ℕ) × (n < length table) × (list_any (nat_eq r) (rules_at (entry_at table (suc n))) ≡ true)
exercised_entry net hops table t r x =
    let found = t.complete x.from x.to x.rules x.header x.arrives x.travels in
    let place = entry_number table found.0 found.1 in
    (place.0, place.1, ap (λ (o : Option Entry). list_any (nat_eq r) (rules_at o)) place.2 ∙ (ap (λ (w : List ℕ). list_any (nat_eq r) w) found.4 ∙ x.meets))

-- an exercised rule is on a probe
pub exercised_covered : (net : Network) (hops : ℕ) (table : List Entry) (probes : List ℕ) → IsTable net hops table → IsGreedy table probes → (r : ℕ) → IsExercised net hops r → Contains (rules_of table probes) r
exercised_covered net hops table probes t g r x =
    let place = exercised_entry net hops table t r x in
    Contains-from_any eqb-true r (rules_of table probes) (seen_from_fresh (rules_of table probes) (rules_at (entry_at table (suc place.0))) (g.done (suc place.0)) r place.2)
