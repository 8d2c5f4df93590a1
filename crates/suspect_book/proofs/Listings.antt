-- The entries on which rules stand, with one entry more, or one rule of it.
use Rattle.std.specs.Prelude.{◌≡◌, ℕ, zero, suc, ◌+◌, ◌<◌, ◌≤◌, Bool, true, false, ◌&&◌, ◌||◌, List, [], ◌∷◌, ◌++◌, length, replicate, nat_eq, nat_lt, slice_get, slice_index, slice_index_or, slice_set, Option, None}
use Rattle.std.specs.List.Sorted.{IsStrictlyIncreasing}
use Rattle.std.proofs.Common.{refl, sym, ap, ◌∙◌, subst, ⊎_elim, arith}
use Rattle.std.proofs.lemmas.Bool.{cases_eq, cases_lt, eq-eqb, ne_eqb, lt-ltb, le-ltb}
use Rattle.std.proofs.lemmas.List.{length-set, length-replicate, get_or-set_same, get_or-set_other}
use Rattle.network_model.specs.Table.{Entry}
use Rattle.network_model.specs.Cover.{rules_at, entry_at}
use Rattle.fault_model.specs.Outcomes.{has}
use Rattle.suspect_book.specs.Standings.{AreRising, AreBelow, AreUpTo, AreStandings}
use Rattle.suspect_book.proofs.Marking.{apart, has_last, has_other}

module _ (numbers : List ℕ) (lists first : List (List ℕ)) (known : List ℕ) (at place r : ℕ) (list : List ℕ) (rises : IsStrictlyIncreasing numbers) (room : length lists ≡ length numbers)
    (inside : at < length numbers) (found : slice_index numbers at ≡ r) where
  there : slice_index_or (slice_set lists at list) at [] ≡ list
  there = get_or-set_same lists at list [] (omega arith)

  pub rising_more : IsStrictlyIncreasing list → AreRising lists → AreRising (slice_set lists at list)
  rising_more rise all p l =
      ⊎_elim (λ (same : p ≡ at). subst (λ (q : ℕ). IsStrictlyIncreasing (slice_index_or (slice_set lists at list) q [])) (sym same) (subst IsStrictlyIncreasing (sym there) rise))
      (λ (other : p ≡ at → ⊥). subst IsStrictlyIncreasing (sym (get_or-set_other lists at p list [] other)) (all p (omega (arith, length-set lists at list))))
      (cases_eq p at)

  pub below_more : ((i : ℕ) → i < length list → slice_index list i ≤ place) → AreBelow (suc place) lists → AreBelow (suc place) (slice_set lists at list)
  below_more below all p i l m =
      ⊎_elim (λ (same : p ≡ at).
      let own : slice_index_or (slice_set lists at list) p [] ≡ list = ap (λ (q : ℕ). slice_index_or (slice_set lists at list) q []) same ∙ there in
      subst (λ (xs : List ℕ). slice_index xs i < suc place) (sym own) (let low = below i (subst (λ (xs : List ℕ). i < length xs) own m) in omega arith))
      (λ (other : p ≡ at → ⊥).
      let own : slice_index_or (slice_set lists at list) p [] ≡ slice_index_or lists p [] = get_or-set_other lists at p list [] other in
      subst (λ (xs : List ℕ). slice_index xs i < suc place) (sym own) (all p i (omega (arith, length-set lists at list)) (subst (λ (xs : List ℕ). i < length xs) own m)))
      (cases_eq p at)

  pub has_more : ((k : ℕ) → has list k ≡ (nat_eq k place || has (slice_index_or lists at []) k))
      → ((p k : ℕ) → p < length numbers → has (slice_index_or lists p []) k ≡ ((nat_eq k place && has known (slice_index numbers p)) || has (slice_index_or first p []) k))
      → (p k : ℕ) → p < length numbers
      → has (slice_index_or (slice_set lists at list) p []) k ≡ ((nat_eq k place && has (known ++ r ∷ []) (slice_index numbers p)) || has (slice_index_or first p []) k)
  has_more new all p k l =
      ⊎_elim (λ (same : p ≡ at).
      let own : slice_index_or (slice_set lists at list) p [] ≡ list = ap (λ (q : ℕ). slice_index_or (slice_set lists at list) q []) same ∙ there in
      let old = has (slice_index_or first p []) k in
      ap (λ (xs : List ℕ). has xs k) own ∙ (new k ∙ (ap (λ (q : ℕ). nat_eq k place || has (slice_index_or lists q []) k) (sym same)
      ∙ (ap (λ (b : Bool). nat_eq k place || b) (all p k l) ∙ (swallowed (nat_eq k place) (has known (slice_index numbers p)) old
      ∙ sym (ap (λ (b : Bool). (nat_eq k place && b) || old) (has_last known r (slice_index numbers p) (ap (slice_index numbers) same ∙ found))))))))
      (λ (other : p ≡ at → ⊥).
      let apart_it : slice_index numbers p ≡ r → ⊥ = λ e. apart numbers rises p at l inside other (e ∙ sym found) in
      ap (λ (xs : List ℕ). has xs k) (get_or-set_other lists at p list [] other) ∙ (all p k l
      ∙ sym (ap (λ (b : Bool). (nat_eq k place && b) || has (slice_index_or first p []) k) (has_other known r (slice_index numbers p) apart_it))))
      (cases_eq p at)
    where
      swallowed : (a b c : Bool) → (a || ((a && b) || c)) ≡ ((a && true) || c)
      swallowed true b c = refl
      swallowed false b c = refl

-- no entry
empty_at : (n p : ℕ) → slice_index_or (replicate {A = List ℕ} n []) p [] ≡ []
empty_at zero p = refl
empty_at (suc n) zero = refl
empty_at (suc n) (suc p) = empty_at n p

pub up_none : (numbers : List ℕ) (table : List Entry) (lists : List (List ℕ)) → lists ≡ replicate (length numbers) [] → AreUpTo 0 numbers table lists
up_none numbers table lists none =
    let nothing : (p : ℕ) → slice_index_or lists p [] ≡ [] = λ p. ap (λ (l : List (List ℕ)). slice_index_or l p []) none ∙ empty_at (length numbers) p in
    record {
      count = ap length none ∙ length-replicate {A = List ℕ} (length numbers) [];
      rising = λ p l. subst IsStrictlyIncreasing (sym (nothing p)) (λ k m. absurd (omega arith));
      below = λ p i l m. let short : i < 0 = subst (λ (xs : List ℕ). i < length xs) (nothing p) m in absurd (omega arith);
      each = λ p k l. ap (λ (xs : List ℕ). has xs k) (nothing p) ∙ sym (ap (λ (b : Bool). b && has (rules_at (entry_at table (suc k))) (slice_index numbers p)) (le-ltb k 0 (omega arith)));
    }

-- one entry more
pub up_more : (row : ℕ) (numbers : List ℕ) (table : List Entry) (lists new : List (List ℕ)) (rules : List ℕ) → AreUpTo row numbers table lists → rules ≡ rules_at (entry_at table (suc row))
    → length new ≡ length lists → AreRising new → AreBelow (suc row) new
    → ((p k : ℕ) → p < length numbers → has (slice_index_or new p []) k ≡ ((nat_eq k row && has rules (slice_index numbers p)) || has (slice_index_or lists p []) k))
    → AreUpTo (row + 1) numbers table new
up_more row numbers table lists new rules upto own room rising below each = record {
  count = room ∙ upto.count;
  rising = rising;
  below = λ p i l m. let low = below p i l m in omega arith;
  each = λ p k l.
      let there : ℕ → Bool = λ j. has (rules_at (entry_at table (suc j))) (slice_index numbers p) in
      each p k l ∙ (ap (λ (b : Bool). (nat_eq k row && has rules (slice_index numbers p)) || b) (upto.each p k l)
      ∙ (ap (λ (xs : List ℕ). (nat_eq k row && has xs (slice_index numbers p)) || (nat_lt k row && there k)) own ∙ one_more k there));
}
  where
    one_more : (k : ℕ) (there : ℕ → Bool) → ((nat_eq k row && there row) || (nat_lt k row && there k)) ≡ (nat_lt k (row + 1) && there k)
    one_more k there =
        ⊎_elim (λ (same : k ≡ row).
        ap (λ (b : Bool). (b && there row) || (nat_lt k row && there k)) (eq-eqb k row same)
        ∙ (ap (λ (b : Bool). there row || (b && there k)) (le-ltb k row (omega arith)) ∙ (or_false (there row)
        ∙ (ap there (sym same) ∙ sym (ap (λ (b : Bool). b && there k) (lt-ltb k (row + 1) (omega arith)))))))
        (λ (other : k ≡ row → ⊥).
        ap (λ (b : Bool). (b && there row) || (nat_lt k row && there k)) (ne_eqb k row other)
        ∙ ap (λ (b : Bool). b && there k) (⊎_elim (λ (less : k < row). lt-ltb k row less ∙ sym (lt-ltb k (row + 1) (omega arith)))
        (λ (more : row ≤ k). le-ltb k row more ∙ sym (le-ltb k (row + 1) (omega arith))) (cases_lt k row)))
        (cases_eq k row)
      where
        or_false : (b : Bool) → (b || false) ≡ b
        or_false true = refl
        or_false false = refl

-- all entries
pub up_all : (row : ℕ) (numbers : List ℕ) (table : List Entry) (lists : List (List ℕ)) → AreUpTo row numbers table lists → row ≡ length table → AreStandings numbers table lists
up_all row numbers table lists upto end = record {
  count = upto.count;
  rising = upto.rising;
  below = subst (λ (n : ℕ). AreBelow n lists) end upto.below;
  each = λ p k l. upto.each p k l ∙ ⊎_elim (λ (less : k < row). ap (λ (b : Bool). b && has (rules_at (entry_at table (suc k))) (slice_index numbers p)) (lt-ltb k row less))
      (λ (more : row ≤ k). ap (λ (b : Bool). b && has (rules_at (entry_at table (suc k))) (slice_index numbers p)) (le-ltb k row more)
      ∙ sym (ap (λ (o : Option Entry). has (rules_at o) (slice_index numbers p)) (past table k (omega (arith, end, more))))) (cases_lt k row);
}
  where
    past : (xs : List Entry) (k : ℕ) → length xs ≤ k → slice_get xs k ≡ None
    past [] k l = refl
    past (x ∷ xs) zero l = absurd (omega arith)
    past (x ∷ xs) (suc k) l = past xs k (omega arith)

-- an entry more among those that are reserved
pub row_more : (rows : List Bool) (known : List ℕ) (entry row : ℕ) → entry ≡ suc row → row < length rows → (n : ℕ)
    → ((k : ℕ) → k < n → slice_index_or rows k false ≡ has known (suc k)) → (k : ℕ) → k < n → slice_index_or (slice_set rows row true) k false ≡ has (known ++ entry ∷ []) (suc k)
row_more rows known entry row number inside n told k l =
    ⊎_elim (λ (same : k ≡ row).
    ap (λ (j : ℕ). slice_index_or (slice_set rows row true) j false) same ∙ (get_or-set_same rows row true false inside ∙ sym (has_last known entry (suc k) (ap suc same ∙ sym number))))
    (λ (other : k ≡ row → ⊥). get_or-set_other rows row k true false other ∙ (told k l ∙ sym (has_other known entry (suc k) (λ e. absurd (other (omega (arith, e, number)))))))
    (cases_eq k row)
