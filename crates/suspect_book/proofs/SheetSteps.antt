-- What a sheet keeps, with one rule more that failed or passed.
use Rattle.std.specs.Prelude.{◌≡◌, ℕ, zero, suc, ◌+◌, ◌<◌, ◌≤◌, Bool, true, false, List, [], ◌∷◌, length, replicate, slice_index, slice_index_or, slice_set}
use Rattle.std.specs.List.Sorted.{IsStrictlyIncreasing}
use Rattle.std.proofs.Common.{refl, sym, ap, ◌∙◌, subst, arith}
use Rattle.std.proofs.lemmas.List.{length-set, length-replicate}
use Rattle.suspect_book.specs.Tallied.{times}
use Rattle.suspect_book.specs.Sheets.{tally, IsSheet}
use Rattle.suspect_book.proofs.Tallies.{times_once, tally_few, tally_failed, tally_failed_too, tally_passed, tally_passed_only}

-- no rule failed
zeros : (m k : ℕ) → slice_index (replicate m 0) k ≡ 0
zeros zero k = refl
zeros (suc m) zero = refl
zeros (suc m) (suc k) = zeros m k

none_failed : (n : ℕ) (ps : List Bool) (ls : List (List ℕ)) (k : ℕ) → tally (replicate n false) ps ls k ≡ 0
none_failed zero ps ls k = refl
none_failed (suc n) [] ls k = refl
none_failed (suc n) (p ∷ ps) [] k = refl
none_failed (suc n) (p ∷ ps) (l ∷ ls) k = let rest = none_failed n ps ls k in omega arith

pub sheet_new : (lists : List (List ℕ)) (failed passed opens : List Bool) (counts : List ℕ) → failed ≡ replicate (length lists) false → passed ≡ replicate (length lists) false
    → counts ≡ replicate (length opens) 0 → ((p : ℕ) → p < length lists → IsStrictlyIncreasing (slice_index_or lists p []))
    → ((p i : ℕ) → p < length lists → i < length (slice_index_or lists p []) → slice_index (slice_index_or lists p []) i < length opens)
    → IsSheet lists failed passed opens counts
sheet_new lists failed passed opens counts fs ps cs rises inside =
    let room : length counts ≡ length opens = ap length cs ∙ length-replicate (length opens) 0 in
    record {
      failed_room = ap length fs ∙ length-replicate (length lists) false;
      passed_room = ap length ps ∙ length-replicate (length lists) false;
      opens_room = sym room;
      rises = rises;
      inside = λ p i l m. subst (λ (n : ℕ). slice_index (slice_index_or lists p []) i < n) (sym room) (inside p i l m);
      counted = λ k. ap (λ (l : List ℕ). slice_index l k) cs ∙ (zeros (length opens) k
          ∙ sym (ap (λ (l : List Bool). tally l passed lists k) fs ∙ none_failed (length lists) passed lists k));
    }

module _ (lists : List (List ℕ)) (failed passed opens : List Bool) (counts : List ℕ) (sheet : IsSheet lists failed passed opens counts) (p : ℕ) where
  pub raised_fits : (list : List ℕ) → list ≡ slice_index_or lists p [] → p < length failed → slice_index_or failed p false ≡ false → slice_index_or passed p false ≡ false
      → (k : ℕ) → slice_index counts k + times list k ≤ length lists
  raised_fits list own within f g k =
      let more = tally_failed failed passed lists p k within (omega (arith, sheet.failed_room, sheet.passed_room)) (omega (arith, sheet.failed_room)) f g in
      let all = tally_few (slice_set failed p true) passed lists k (λ q l. times_once (slice_index_or lists q []) (sheet.rises q l) k) in
      let same : times list k ≡ times (slice_index_or lists p []) k = ap (λ (l : List ℕ). times l k) own in
      omega (arith, more, all, same, sheet.counted k)

  pub lowered_fits : (list : List ℕ) → list ≡ slice_index_or lists p [] → p < length passed → slice_index_or failed p false ≡ true → slice_index_or passed p false ≡ false
      → (k : ℕ) → times list k ≤ slice_index counts k
  lowered_fits list own within f g k =
      let more = tally_passed failed passed lists p k (omega (arith, sheet.failed_room, sheet.passed_room)) within (omega (arith, sheet.passed_room)) f g in
      let same : times list k ≡ times (slice_index_or lists p []) k = ap (λ (l : List ℕ). times l k) own in
      omega (arith, more, same, sheet.counted k)

  pub list_inside : (list : List ℕ) → list ≡ slice_index_or lists p [] → p < length lists → (i : ℕ) → i < length list → slice_index list i < length counts
  list_inside list own within i l =
      subst (λ (xs : List ℕ). slice_index xs i < length counts) (sym own) (sheet.inside p i within (subst (λ (xs : List ℕ). i < length xs) own l))

  pub sheet_raised : (list : List ℕ) (opens' : List Bool) (counts' : List ℕ) → list ≡ slice_index_or lists p [] → p < length failed → slice_index_or failed p false ≡ false → slice_index_or passed p false ≡ false
      → ((k : ℕ) → slice_index counts' k ≡ slice_index counts k + times list k) → length counts' ≡ length counts → opens' ≡ opens
      → IsSheet lists (slice_set failed p true) passed opens' counts'
  sheet_raised list opens' counts' own within f g new room same = record {
    failed_room = length-set failed p true ∙ sheet.failed_room;
    passed_room = sheet.passed_room;
    opens_room = ap length same ∙ (sheet.opens_room ∙ sym room);
    rises = sheet.rises;
    inside = λ q i l m. subst (λ (n : ℕ). slice_index (slice_index_or lists q []) i < n) (sym room) (sheet.inside q i l m);
    counted = λ k.
        let more = tally_failed failed passed lists p k within (omega (arith, sheet.failed_room, sheet.passed_room)) (omega (arith, sheet.failed_room)) f g in
        let it : times list k ≡ times (slice_index_or lists p []) k = ap (λ (l : List ℕ). times l k) own in
        omega (arith, more, it, sheet.counted k, new k);
  }

  pub sheet_failed_only : slice_index_or passed p false ≡ true → IsSheet lists (slice_set failed p true) passed opens counts
  sheet_failed_only g = record {
    failed_room = length-set failed p true ∙ sheet.failed_room;
    passed_room = sheet.passed_room;
    opens_room = sheet.opens_room;
    rises = sheet.rises;
    inside = sheet.inside;
    counted = λ k. sheet.counted k ∙ sym (tally_failed_too failed passed lists p k g);
  }

  pub sheet_lowered : (list : List ℕ) (opens' : List Bool) (counts' : List ℕ) → list ≡ slice_index_or lists p [] → p < length passed → slice_index_or failed p false ≡ true → slice_index_or passed p false ≡ false
      → ((k : ℕ) → slice_index counts' k + times list k ≡ slice_index counts k) → length counts' ≡ length counts → opens' ≡ opens
      → IsSheet lists failed (slice_set passed p true) opens' counts'
  sheet_lowered list opens' counts' own within f g new room same = record {
    failed_room = sheet.failed_room;
    passed_room = length-set passed p true ∙ sheet.passed_room;
    opens_room = ap length same ∙ (sheet.opens_room ∙ sym room);
    rises = sheet.rises;
    inside = λ q i l m. subst (λ (n : ℕ). slice_index (slice_index_or lists q []) i < n) (sym room) (sheet.inside q i l m);
    counted = λ k.
        let more = tally_passed failed passed lists p k (omega (arith, sheet.failed_room, sheet.passed_room)) within (omega (arith, sheet.passed_room)) f g in
        let it : times list k ≡ times (slice_index_or lists p []) k = ap (λ (l : List ℕ). times l k) own in
        omega (arith, more, it, sheet.counted k, new k);
  }

  pub sheet_passed_only : slice_index_or failed p false ≡ false → IsSheet lists failed (slice_set passed p true) opens counts
  sheet_passed_only f = record {
    failed_room = sheet.failed_room;
    passed_room = length-set passed p true ∙ sheet.passed_room;
    opens_room = sheet.opens_room;
    rises = sheet.rises;
    inside = sheet.inside;
    counted = λ k. sheet.counted k ∙ sym (tally_passed_only failed passed lists p k f);
  }
