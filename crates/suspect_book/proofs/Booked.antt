-- What a book keeps beside its marks, with one verdict more, and the telling entry.
use Rattle.std.specs.Prelude.{◌≡◌, ◌==◌, ℕ, zero, suc, ◌+◌, ◌<◌, ◌≤◌, Bool, true, false, not, ◌&&◌, ◌||◌, cond, List, [], ◌∷◌, length, nat_eq, replicate, slice_index, slice_index_or, slice_set, Option, None, Some, option_map, Contains}
use Rattle.std.specs.List.{list_any, range_with_len}
use Rattle.std.specs.List.Sorted.{IsStrictlyIncreasing}
use Rattle.std.proofs.Common.{refl, sym, ap, ◌∙◌, subst, ⊎_elim, arith}
use Rattle.std.proofs.lemmas.Bool.{cases_eq}
use Rattle.std.proofs.lemmas.List.{length-set, get_or-set_same, get_or-set_other}
use Rattle.std.proofs.lemmas.List.Kept.{AllPairs-from_increasing}
use Rattle.list_laws.proofs.Members.{Contains-filter, passes_of}
use Rattle.network_model.specs.Table.{Entry}
use Rattle.network_model.specs.Cover.{rules_at, entry_at}
use Rattle.network_model.specs.Plan.{IsPlan, reserved}
use Rattle.rule_cover.specs.Places.{numbers_of}
use Rattle.rule_cover.specs.PlanValue.{PlanValue}
use Rattle.rule_cover.proofs.NetRules.{table_rules}
use Rattle.fault_model.specs.Outcomes.{failed, has}
use Rattle.fault_model.specs.Findings.{suspects, suspects_on, has_one, has_verdict, tells, telling}
use Rattle.fault_model.proofs.Explained.{range_has}
use Rattle.fault_model.proofs.Listed.{has-true, has-from}
use Rattle.suspect_book.specs.declared.verdict.Verdict.{Verdict}
use Rattle.suspect_book.specs.declared.verdict.Verdict.TheVariants.{Pass, Fail}
use Rattle.suspect_book.specs.BookValue.{IsKept, IsBook, is_free}
use Rattle.suspect_book.specs.Flagged.{IsFirst}
use Rattle.suspect_book.specs.Marked.{Tells}
use Rattle.suspect_book.specs.Sheets.{SheetValue, tally}
use Rattle.suspect_book.specs.Standings.{AreStandings}
use Rattle.suspect_book.specs.Tallied.{times}
use Rattle.suspect_book.specs.Verdicts.{verdict_at, outcomes}
use Rattle.suspect_book.proofs.Kept.{kept_new, kept_pass, kept_fail, suspects_told}
use Rattle.suspect_book.proofs.Tallies.{times_has}
use Rattle.suspect_book.proofs.Telling.{find_kept, first_found, tally_counts, has_one_counts}
use Rattle.suspect_book.proofs.VerdictLists.{same_test, at_same, at_other, has_verdict_at, no_verdict_at}

module _ (plan : PlanValue) (numbers : List ℕ) (vs : List (Option Verdict)) (sheet : SheetValue) (book : IsBook plan numbers vs sheet)
    (n k : ℕ) (rules : List ℕ) (v : Verdict) (closed new : SheetValue) (number : n ≡ suc k) (inside : n ≤ length plan.plan.table) (free : verdict_at vs n ≡ None)
    (own : rules ≡ rules_at (entry_at plan.plan.table n)) (shut : closed ≡ record sheet { opens = slice_set sheet.opens k false }) where
  opens_after : (j : ℕ) → j < length plan.plan.table
      → slice_index_or (slice_set sheet.opens k false) j false ≡ (has (reserved plan.plan) (suc j) && is_free (verdict_at (slice_set vs k (Some v)) (suc j)))
  opens_after j l =
      ⊎_elim (λ (same : j ≡ k).
      ap (λ (i : ℕ). slice_index_or (slice_set sheet.opens k false) i false) same
      ∙ (get_or-set_same sheet.opens k false false (omega (arith, book.opens_room)) ∙ sym (ap (λ (o : Option Verdict). has (reserved plan.plan) (suc j) && is_free o)
      (ap (λ (i : ℕ). verdict_at (slice_set vs k (Some v)) (suc i)) same ∙ at_same vs k v (omega (arith, book.kept.each))) ∙ never (has (reserved plan.plan) (suc j)))))
      (λ (other : j ≡ k → ⊥).
      get_or-set_other sheet.opens k j false false other ∙ (book.opens_are j l
      ∙ sym (ap (λ (o : Option Verdict). has (reserved plan.plan) (suc j) && is_free o) (at_other vs k (suc j) v (λ e. other (omega (arith, e)))))))
      (cases_eq j k)
    where
      never : (b : Bool) → (b && false) ≡ false
      never true = refl
      never false = refl

  with_kept : (passed failed : List Bool) → new.passed ≡ passed → new.failed ≡ failed → new.lists ≡ closed.lists → new.opens ≡ closed.opens → IsKept plan numbers (slice_set vs k (Some v)) passed failed
      → IsBook plan numbers (slice_set vs k (Some v)) new
  with_kept passed failed ps fs ls os kept =
      let opens : new.opens ≡ slice_set sheet.opens k false = os ∙ ap (λ (s : SheetValue). s.opens) shut in
      record {
        kept = subst (λ (l : List Bool). IsKept plan numbers (slice_set vs k (Some v)) l new.failed) (sym ps) (subst (IsKept plan numbers (slice_set vs k (Some v)) passed) (sym fs) kept);
        standings = subst (AreStandings numbers plan.plan.table) (sym (ls ∙ ap (λ (s : SheetValue). s.lists) shut)) book.standings;
        opens_room = ap length opens ∙ (length-set sheet.opens k false ∙ book.opens_room);
        opens_are = λ j l. ap (λ (o : List Bool). slice_index_or o j false) opens ∙ opens_after j l;
      }

  pub book_pass : v ≡ Pass → ((test : ℕ → Bool) → Tells numbers test closed.passed → Tells numbers (λ r. has rules r || test r) new.passed) → length new.passed ≡ length closed.passed
      → new ≡ record closed { passed = new.passed } → IsBook plan numbers (slice_set vs k (Some v)) new
  book_pass is marks room stays =
      let before : closed.passed ≡ sheet.passed = ap (λ (s : SheetValue). s.passed) shut in
      with_kept new.passed sheet.failed refl (ap (λ (s : SheetValue). s.failed) stays ∙ ap (λ (s : SheetValue). s.failed) shut) (ap (λ (s : SheetValue). s.lists) stays) (ap (λ (s : SheetValue). s.opens) stays)
      (kept_pass plan numbers vs sheet.passed sheet.failed book.kept n k rules v new.passed number inside free own (room ∙ (ap length before ∙ book.kept.passed_room)) is
      (λ test told. marks test (subst (Tells numbers test) (sym before) told)))

  pub book_fail : v ≡ Fail → ((test : ℕ → Bool) → Tells numbers test closed.failed → Tells numbers (λ r. has rules r || test r) new.failed) → length new.failed ≡ length closed.failed
      → new ≡ record closed { failed = new.failed } → IsBook plan numbers (slice_set vs k (Some v)) new
  book_fail is marks room stays =
      let before : closed.failed ≡ sheet.failed = ap (λ (s : SheetValue). s.failed) shut in
      with_kept sheet.passed new.failed (ap (λ (s : SheetValue). s.passed) stays ∙ ap (λ (s : SheetValue). s.passed) shut) refl (ap (λ (s : SheetValue). s.lists) stays) (ap (λ (s : SheetValue). s.opens) stays)
      (kept_fail plan numbers vs sheet.passed sheet.failed book.kept n k rules v new.failed number inside free own (room ∙ (ap length before ∙ book.kept.failed_room)) is
      (λ test told. marks test (subst (Tells numbers test) (sym before) told)))

-- a book with no verdict
free_at : (count k : ℕ) → is_free (verdict_at (replicate count None) (suc k)) ≡ true
free_at zero k = refl
free_at (suc count) zero = refl
free_at (suc count) (suc k) = free_at count k

pub book_new : (plan : PlanValue) (numbers : List ℕ) (vs : List (Option Verdict)) (sheet : SheetValue) (lists : List (List ℕ)) (opens : List Bool)
    → IsPlan plan.net plan.hops plan.plan → numbers ≡ numbers_of plan.net → IsStrictlyIncreasing numbers → vs ≡ replicate (length plan.plan.table) None
    → AreStandings numbers plan.plan.table lists → length opens ≡ length plan.plan.table → ((k : ℕ) → k < length plan.plan.table → slice_index_or opens k false ≡ has (reserved plan.plan) (suc k))
    → sheet ≡ record { lists = lists; failed = replicate (length lists) false; passed = replicate (length lists) false; opens = opens }
    → IsBook plan numbers vs sheet
book_new plan numbers vs sheet lists opens planned are rises empty standings room told is =
    let os : sheet.opens ≡ opens = ap (λ (s : SheetValue). s.opens) is in
    let size = ap (λ (n : ℕ). replicate n false) standings.count in
    record {
      kept = kept_new plan numbers vs sheet.passed sheet.failed planned are rises empty (ap (λ (s : SheetValue). s.passed) is ∙ size) (ap (λ (s : SheetValue). s.failed) is ∙ size);
      standings = subst (AreStandings numbers plan.plan.table) (sym (ap (λ (s : SheetValue). s.lists) is)) standings;
      opens_room = ap length os ∙ room;
      opens_are = λ k l. ap (λ (o : List Bool). slice_index_or o k false) os ∙ (told k l
          ∙ sym (ap (λ (ws : List (Option Verdict)). has (reserved plan.plan) (suc k) && is_free (verdict_at ws (suc k))) empty
          ∙ (ap (λ (b : Bool). has (reserved plan.plan) (suc k) && b) (free_at (length plan.plan.table) k) ∙ always (has (reserved plan.plan) (suc k)))));
    }
  where
    always : (b : Bool) → (b && true) ≡ b
    always true = refl
    always false = refl

-- the first telling entry
first_same : (t u : ℕ → Bool) (n : ℕ) (r : Option ℕ) → ((k : ℕ) → k < n → t k ≡ u k) → IsFirst t n r → IsFirst u n r
first_same t u n None same fails = λ k l. sym (same k l) ∙ fails k l
first_same t u n (Some i) same (inside, passes, fails) = (inside, sym (same i inside) ∙ passes, λ k l. sym (same k (omega arith)) ∙ fails k l)

free_test : (vs : List (Option Verdict)) (n : ℕ) → is_free (verdict_at vs n) ≡ not (has_verdict (outcomes vs) n)
free_test vs n = by_verdict (verdict_at vs n) refl
  where
    by_verdict : (o : Option Verdict) → verdict_at vs n ≡ o → is_free o ≡ not (has_verdict (outcomes vs) n)
    by_verdict None is = sym (ap not (no_verdict_at vs n is))
    by_verdict (Some v) is = sym (ap not (has_verdict_at vs n v is))

module _ (plan : PlanValue) (numbers : List ℕ) (vs : List (Option Verdict)) (sheet : SheetValue) (book : IsBook plan numbers vs sheet) where
  one_suspect : (k : ℕ) → (tally sheet.failed sheet.passed sheet.lists k == 1) ≡ has_one (suspects_on plan.plan.table (outcomes vs) (suc k))
  one_suspect k =
      let rules : List ℕ = rules_at (entry_at plan.plan.table (suc k)) in
      let sus : ℕ → Bool = has (suspects plan.plan.table (outcomes vs)) in
      let test : ℕ → Bool = λ r. sus r && has rules r in
      let told = suspects_told plan numbers vs sheet.passed sheet.failed book.kept numbers sheet.failed sheet.passed refl refl refl in
      let same = tally_counts numbers sheet.failed sheet.passed sheet.lists test k book.kept.failed_room book.kept.passed_room book.standings.count (λ p l.
      let list : List ℕ = slice_index_or sheet.lists p [] in
      let rise = book.standings.rising p (omega (arith, book.standings.count)) in
      let once : times list k ≡ cond (has rules (slice_index numbers p)) 1 0 = times_has list (λ i j a b. AllPairs-from_increasing list rise i j 0 a b) k ∙ ap (λ (b : Bool). cond b 1 0) (book.standings.each p k l) in
      ap (λ (b : Bool). cond b (times list k) 0) (told p l) ∙ (ap (λ (m : ℕ). cond (sus (slice_index numbers p)) m 0) once ∙ both (sus (slice_index numbers p)) (has rules (slice_index numbers p)))) in
      ap (λ (m : ℕ). m == 1) same ∙ has_one_counts sus rules numbers book.kept.rises
      (λ r c. subst (λ (xs : List ℕ). Contains xs r) (sym book.kept.numbers_are) (table_rules plan.net plan.hops plan.plan.table book.kept.planned.table (suc k) r c))
    where
      both : (a b : Bool) → cond {A = ℕ} a (cond b 1 0) 0 ≡ cond (a && b) 1 0
      both true b = refl
      both false b = refl

  is_reserved : (k : ℕ) → k < length plan.plan.table → has (reserved plan.plan) (suc k) ≡ not (list_any (nat_eq (suc k)) plan.plan.probes)
  is_reserved k l =
      let q : ℕ → Bool = λ n. not (list_any (nat_eq n) plan.plan.probes) in
      let all : List ℕ = range_with_len 1 (length plan.plan.table) in
      same_test (has (reserved plan.plan) (suc k)) (q (suc k)) (λ h. passes_of q all (suc k) (has-true (reserved plan.plan) (suc k) h))
      (λ h. has-from (reserved plan.plan) (suc k) (Contains-filter q all (suc k) (range_has (length plan.plan.table) (suc k) (omega arith) (omega arith)) h))

  pub book_tells : (r : Option ℕ) → IsFirst (λ k. slice_index_or sheet.opens k false && (tally sheet.failed sheet.passed sheet.lists k == 1)) (length sheet.opens) r
      → telling plan.plan (outcomes vs) ≡ option_map (λ k. k + 1) r
  book_tells r first =
      let q : ℕ → Bool = λ n. not (list_any (nat_eq n) plan.plan.probes) in
      let p : ℕ → Bool = tells plan.plan.table (outcomes vs) in
      let u : ℕ → Bool = λ n. q n && p n in
      let t : ℕ → Bool = λ k. slice_index_or sheet.opens k false && (tally sheet.failed sheet.passed sheet.lists k == 1) in
      let here : IsFirst t (length plan.plan.table) r = subst (λ (n : ℕ). IsFirst t n r) book.opens_room first in
      find_kept p q (range_with_len 1 (length plan.plan.table)) ∙ first_found u (length plan.plan.table) r (first_same t (λ k. u (suc k)) (length plan.plan.table) r (λ k l.
      let one = has_one (suspects_on plan.plan.table (outcomes vs) (suc k)) in
      ap (λ (b : Bool). b && (tally sheet.failed sheet.passed sheet.lists k == 1)) (book.opens_are k l) ∙ (ap (λ (b : Bool). (has (reserved plan.plan) (suc k) && is_free (verdict_at vs (suc k))) && b) (one_suspect k)
      ∙ (ap (λ (b : Bool). (b && is_free (verdict_at vs (suc k))) && one) (is_reserved k l) ∙ (ap (λ (b : Bool). (q (suc k) && b) && one) (free_test vs (suc k))
      ∙ grouped (q (suc k)) (not (has_verdict (outcomes vs) (suc k))) one)))) here)
    where
      grouped : (a b c : Bool) → ((a && b) && c) ≡ (a && (b && c))
      grouped true b c = refl
      grouped false b c = refl

-- an entry of the table is there
pub entry_inside : (table : List Entry) (n : ℕ) → 0 < n → n ≤ length table → None ≡ entry_at table n → ⊥
entry_inside table zero some inside e = absurd (omega arith)
entry_inside [] (suc k) some inside e = absurd (omega arith)
entry_inside (x ∷ table) (suc zero) some inside e = cc
entry_inside (x ∷ table) (suc (suc k)) some inside e = entry_inside table (suc k) (omega arith) (omega arith) e
