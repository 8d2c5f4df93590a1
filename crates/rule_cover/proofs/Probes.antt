-- One more probe.
use Rattle.std.specs.Prelude.{◌≡◌, ℕ, zero, suc, ◌<◌, ◌≤◌, Bool, true, false, List, [], ◌∷◌, ◌++◌, length, take, nat_eq, slice_get, Option, Some}
use Rattle.std.specs.List.{list_any, range_with_len}
use Rattle.std.proofs.Common.{refl, sym, ap, ◌∙◌, subst, arith, ⊎_elim, append_assoc}
use Rattle.std.proofs.lemmas.Bool.{cases_lt}
use Rattle.std.proofs.lemmas.List.{append-nil, take-append-le}
use Rattle.std.proofs.lemmas.Option.{slice_get_past, same_Some}
use Rattle.network_model.specs.Table.{Entry}
use Rattle.network_model.specs.Cover.{fresh, rules_at, entry_at, rules_of, gain, IsBest, IsGreedy}
use Rattle.network_model.proofs.CoverLaws.{seen_from_fresh}
use Rattle.network_model.proofs.PlanLaws.{place_of_rule, any_of_table, rules_of_table}

-- nothing stands past the table
pub gain_past : (table : List Entry) (chosen : List ℕ) (m : ℕ) → length table < m → gain table chosen m ≡ 0
gain_past table chosen zero l = refl
gain_past table chosen (suc k) l = ap (λ (o : Option Entry). fresh (rules_of table chosen) (rules_at o)) (slice_get_past table k (omega arith))

-- the rules on one more entry
pub rules_of-push : (table : List Entry) (chosen : List ℕ) (n : ℕ) → rules_of table (chosen ++ n ∷ []) ≡ rules_of table chosen ++ rules_at (entry_at table n)
rules_of-push table [] n = append-nil (rules_at (entry_at table n))
rules_of-push table (m ∷ chosen) n = ap (λ (l : List ℕ). rules_at (entry_at table m) ++ l) (rules_of-push table chosen n) ∙ sym (append_assoc (rules_at (entry_at table m)) (rules_of table chosen) (rules_at (entry_at table n)))

-- each probe is the best after those before it
abbrev pub EachBest : List Entry → List ℕ → Type 0
EachBest table probes = (i n : ℕ) → slice_get probes i ≡ Some n → IsBest table (take i probes) n

push_before : (probes : List ℕ) (n i m : ℕ) → i < length probes → slice_get (probes ++ n ∷ []) i ≡ Some m → slice_get probes i ≡ Some m
push_before [] n i m l e = absurd (omega arith)
push_before (p ∷ probes) n zero m l e = e
push_before (p ∷ probes) n (suc i) m l e = push_before probes n i m (omega arith) e

push_last : (probes : List ℕ) (n i m : ℕ) → length probes ≤ i → slice_get (probes ++ n ∷ []) i ≡ Some m → (n ≡ m) × (take i (probes ++ n ∷ []) ≡ probes)
push_last [] n zero m l e = (same_Some n m e, refl)
push_last [] n (suc i) m l e = cc
push_last (p ∷ probes) n zero m l e = absurd (omega arith)
push_last (p ∷ probes) n (suc i) m l e = let rest = push_last probes n i m (omega arith) e in (rest.0, ap (λ (q : List ℕ). p ∷ q) rest.1)

pub each_push : (table : List Entry) (probes : List ℕ) (n : ℕ) → EachBest table probes → IsBest table probes n → EachBest table (probes ++ n ∷ [])
each_push table probes n h b i m e =
    ⊎_elim (λ (l : i < length probes). subst (λ (q : List ℕ). IsBest table q m) (sym (take-append-le i probes (n ∷ []) (omega arith))) (h i m (push_before probes n i m l e)))
    (λ (l : length probes ≤ i). let last = push_last probes n i m l e in
    subst (λ (q : List ℕ). IsBest table q m) (sym last.1) (subst (λ (k : ℕ). IsBest table probes k) last.0 b))
    (cases_lt i (length probes))

alike : (a b : Bool) → (a ≡ true → b ≡ true) → (b ≡ true → a ≡ true) → a ≡ b
alike true b f g = sym (f refl)
alike false true f g = g refl
alike false false f g = refl

-- a rule on an entry is on a probe
pub probes_have_all : (table : List Entry) (probes : List ℕ) → IsGreedy table probes → (r : ℕ) → list_any (nat_eq r) (rules_of table probes) ≡ list_any (nat_eq r) (rules_of_table table)
probes_have_all table probes g r =
    alike (list_any (nat_eq r) (rules_of table probes)) (list_any (nat_eq r) (rules_of_table table))
    (λ (on : list_any (nat_eq r) (rules_of table probes) ≡ true). let place = place_of_rule table r probes on in any_of_table table r place.0 place.1)
    (λ (on : list_any (nat_eq r) (rules_of_table table) ≡ true). let place = place_of_rule table r (range_with_len 1 (length table)) on in
    seen_from_fresh (rules_of table probes) (rules_at (entry_at table place.0)) (g.done place.0) r place.1)
