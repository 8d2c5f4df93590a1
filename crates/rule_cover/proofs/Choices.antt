-- Choosing probes: the start, an entry that keeps a lower gain, one more probe, and the end.
use Rattle.std.specs.Prelude.{◌≡◌, ℕ, zero, suc, ◌<◌, ◌≤◌, Bool, false, List, [], ◌∷◌, ◌++◌, length, map, nat_eq, slice_index, slice_index_or, slice_get, slice_set}
use Rattle.std.specs.List.{list_any}
use Rattle.std.proofs.Common.{refl, sym, ap, ◌∙◌, subst, arith, ⊎_elim}
use Rattle.std.proofs.lemmas.Bool.{cases_lt, cases_eq, or_left, or_right}
use Rattle.std.proofs.lemmas.List.{length-map, length-set, get_or-set_same, get_or-set_other, get_or-map}
use Rattle.std.proofs.lemmas.List.Folds.{list_any-append}
use Rattle.network_model.specs.Table.{Entry}
use Rattle.network_model.specs.Cover.{fresh, rules_at, rules_of, gain, IsBest, IsGreedy}
use Rattle.rule_cover.specs.Places.{rules_there, AreLists, Tells}
use Rattle.rule_cover.specs.Choices.{IsUnderway}
use Rattle.rule_cover.proofs.Gains.{Within, fresh_fewer, fresh_none}
use Rattle.rule_cover.proofs.PlaceLists.{adds_most}
use Rattle.rule_cover.proofs.Probes.{each_push, rules_of-push, gain_past}

-- each entry keeps the number of its rules
pub underway_start : (numbers : List ℕ) (table : List Entry) (lists : List (List ℕ)) (covered : List Bool) (kept : List ℕ) → AreLists numbers table lists
    → length covered ≡ length numbers → ((p : ℕ) → p < length numbers → slice_index_or covered p false ≡ false) → kept ≡ map length lists
    → IsUnderway numbers table [] covered kept
underway_start numbers table lists covered kept a size none e =
    let count : length kept ≡ length table = ap length e ∙ (length-map lists length ∙ a.count) in
    record {
      each = λ i n at. cc;
      flags = size;
      told = none;
      count = count;
      bound = λ k. ⊎_elim (λ (l : k < length table).
          let own = a.each k l in
          let here : slice_index kept k ≡ length (slice_index_or lists k []) = ap (λ (ks : List ℕ). slice_index ks k) e ∙ get_or-map length lists k [] 0 (omega (arith, a.count)) in
          let most = adds_most [] (rules_there numbers (slice_index_or lists k [])) in
          let same = own.adds [] in
          let size = length-map (slice_index_or lists k []) (slice_index numbers) in
          omega arith)
          (λ (l : length table ≤ k). let none = gain_past table [] (suc k) (omega arith) in omega arith)
          (cases_lt k (length table));
    }

-- an entry keeps what it gains now
pub keeps_less : (numbers : List ℕ) (table : List Entry) (probes : List ℕ) (covered : List Bool) (kept : List ℕ) (row now : ℕ) → IsUnderway numbers table probes covered kept → row < length table
    → now ≡ gain table probes (suc row) → IsUnderway numbers table probes covered (slice_set kept row now)
keeps_less numbers table probes covered kept row now u l e = record {
  each = u.each;
  flags = u.flags;
  told = u.told;
  count = length-set kept row now ∙ u.count;
  bound = λ k. ⊎_elim (λ (s : k ≡ row).
      let here : slice_index (slice_set kept row now) k ≡ now = ap (slice_index (slice_set kept row now)) s ∙ get_or-set_same kept row now 0 (omega (arith, u.count)) in
      let same : gain table probes (suc k) ≡ gain table probes (suc row) = ap (λ (n : ℕ). gain table probes (suc n)) s in
      omega arith)
      (λ (ne : k ≡ row → ⊥).
      let there : slice_index (slice_set kept row now) k ≡ slice_index kept k = get_or-set_other kept row k now 0 ne in
      let before = u.bound k in
      omega arith)
      (cases_eq k row);
}

-- an entry that still gains the greatest gain that is kept, and before which no other keeps as much
pub is_best : (numbers : List ℕ) (table : List Entry) (probes : List ℕ) (covered : List Bool) (kept : List ℕ) (row : ℕ) → IsUnderway numbers table probes covered kept → row < length table
    → 0 < slice_index kept row → ((k : ℕ) → slice_index kept k ≤ slice_index kept row) → ((k : ℕ) → k < row → slice_index kept k < slice_index kept row) → slice_index kept row ≤ gain table probes (suc row)
    → IsBest table probes (suc row)
is_best numbers table probes covered kept row u l positive greatest first still = record {
  inside = (omega arith, omega arith);
  positive = omega arith;
  greatest = no_greater;
  first = earlier;
}
  where
    no_greater : (m : ℕ) → gain table probes m ≤ gain table probes (suc row)
    no_greater zero = omega arith
    no_greater (suc k) = let own = u.bound k in let most = greatest k in omega arith

    earlier : (m : ℕ) → m < suc row → gain table probes m < gain table probes (suc row)
    earlier zero b = omega arith
    earlier (suc k) b = let own = u.bound k in let less = first k (omega arith) in omega arith

-- it is the next probe, and gains nothing more
pub one_more_probe : (numbers : List ℕ) (table : List Entry) (probes : List ℕ) (covered more : List Bool) (kept : List ℕ) (row : ℕ) → IsUnderway numbers table probes covered kept → row < length table
    → IsBest table probes (suc row) → length more ≡ length numbers → Tells numbers (rules_of table probes ++ rules_at (slice_get table row)) (λ p. slice_index_or more p false)
    → IsUnderway numbers table (probes ++ suc row ∷ []) more (slice_set kept row 0)
one_more_probe numbers table probes covered more kept row u l best size told =
    let known = rules_of table probes in
    let own = rules_at (slice_get table row) in
    let grown : rules_of table (probes ++ suc row ∷ []) ≡ known ++ own = rules_of-push table probes (suc row) in
    let has_more : Within known (known ++ own) = λ r e. list_any-append (nat_eq r) known own ∙ or_left (list_any (nat_eq r) known) (list_any (nat_eq r) own) e in
    let has_own : Within own (known ++ own) = λ r e. list_any-append (nat_eq r) known own ∙ or_right (list_any (nat_eq r) known) (list_any (nat_eq r) own) e in
    record {
      each = each_push table probes (suc row) u.each best;
      flags = size;
      told = subst (λ (rules : List ℕ). Tells numbers rules (λ p. slice_index_or more p false)) (sym grown) told;
      count = length-set kept row 0 ∙ u.count;
      bound = λ k.
          let now : gain table (probes ++ suc row ∷ []) (suc k) ≡ fresh (known ++ own) (rules_at (slice_get table k)) = ap (λ (rules : List ℕ). fresh rules (rules_at (slice_get table k))) grown in
          ⊎_elim (λ (s : k ≡ row).
          let none : fresh (known ++ own) (rules_at (slice_get table k)) ≡ 0 = subst (λ (n : ℕ). fresh (known ++ own) (rules_at (slice_get table n)) ≡ 0) (sym s) (fresh_none (known ++ own) own has_own) in
          omega arith)
          (λ (ne : k ≡ row → ⊥).
          let there : slice_index (slice_set kept row 0) k ≡ slice_index kept k = get_or-set_other kept row k 0 0 ne in
          let fewer = fresh_fewer known (known ++ own) (rules_at (slice_get table k)) has_more in
          let before : fresh known (rules_at (slice_get table k)) ≤ slice_index kept k = u.bound k in
          omega arith)
          (cases_eq k row);
    }

-- where nothing is kept, the probes are a greedy cover
pub greedy_cover : (numbers : List ℕ) (table : List Entry) (probes : List ℕ) (covered : List Bool) (kept : List ℕ) → IsUnderway numbers table probes covered kept → ((k : ℕ) → slice_index kept k ≤ 0) → IsGreedy table probes
greedy_cover numbers table probes covered kept u none = record { each = u.each; done = no_gain }
  where
    no_gain : (m : ℕ) → gain table probes m ≡ 0
    no_gain zero = refl
    no_gain (suc k) = let own = u.bound k in let kept_none = none k in omega arith
