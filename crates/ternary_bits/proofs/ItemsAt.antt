-- The item of one place, read from the words of a rewrite and written into them.
use Rattle.std.proofs.Common.{◌≡◌, ◌≢◌, ℕ, ◌-◌, ◌<◌, ◌≤◌, ◌^◌, Bool, true, false, not, ◌&&◌, if◌then◌else◌, eqb, List, length, get_or, inl, inr, refl, sym, ap, ◌∙◌, arith}
use Rattle.std.specs.Prelude.{slice_set}
use Rattle.std.proofs.lemmas.Nat.{and_le_l, and_le_r}
use Rattle.std.proofs.lemmas.Nat.Bits.{bit_at_above}
use Rattle.std.proofs.lemmas.Bool.{cases_eq, cases_lt, ne_eqb, false≢true}
use Rattle.std.proofs.lemmas.List.{same_lists, length-set, get_or-set_same, get_or-set_other}
use Rattle.network_model.specs.Rewrites.{Item, Set, Old, Rewrite, LiesWithin}
use Rattle.ternary_bits.specs.Words.{is_one, old_place, item_at, rewrite_of, AreRewrite, IsWritten}
use Rattle.ternary_bits.specs.Inverses.{is_one-and}
use Rattle.ternary_bits.proofs.Words.{same_words_below, within_at}
use Rattle.ternary_bits.proofs.Rewriting.{length-rewrite_of, get_or-rewrite_of}

-- ---- read

pub item_seen : (w s v : ℕ) (from : List ℕ) (r : Rewrite) (i : ℕ) → rewrite_of w s v from ≡ r → i < length r → get_or r (length r - 1 - i) (Set false) ≡ item_at w s v from i
item_seen w s v from r i view l =
    let width : length r ≡ w = length-rewrite_of w s v from r view in
    ap (λ n. get_or r (n - 1 - i) (Set false)) width ∙ get_or-rewrite_of w s v from r (Set false) i view (omega arith)

pub bit_seen : (w s v : ℕ) (from : List ℕ) (r : Rewrite) (i : ℕ) (bit : Bool) → rewrite_of w s v from ≡ r → i < length r → is_one s i ≡ true → is_one v i ≡ bit
    → Set bit ≡ get_or r (length r - 1 - i) (Set false)
bit_seen w s v from r i bit view l one is =
    sym (item_seen w s v from r i view l
    ∙ ap (λ b. if b then Set (is_one v i) else Old (old_place (w - i) (get_or from i 0))) one
    ∙ ap Set is)

pub old_seen : (w s v : ℕ) (from : List ℕ) (r : Rewrite) (i : ℕ) → rewrite_of w s v from ≡ r → i < length r → is_one s i ≡ false
    → Old (old_place (w - i) (get_or from i 0)) ≡ get_or r (length r - 1 - i) (Set false)
old_seen w s v from r i view l none =
    sym (item_seen w s v from r i view l ∙ ap (λ b. if b then Set (is_one v i) else Old (old_place (w - i) (get_or from i 0))) none)

pub stays_seen : (w s v : ℕ) (from : List ℕ) (r : Rewrite) (i : ℕ) → rewrite_of w s v from ≡ r → i < length r → is_one s i ≡ false → get_or from i 0 ≡ 0
    → Old (w - i) ≡ get_or r (length r - 1 - i) (Set false)
stays_seen w s v from r i view l none zero' = ap (λ n. Old (old_place (w - i) n)) (sym zero') ∙ old_seen w s v from r i view l none

pub moves_seen : (w s v : ℕ) (from : List ℕ) (r : Rewrite) (i : ℕ) → rewrite_of w s v from ≡ r → i < length r → is_one s i ≡ false → (get_or from i 0 ≡ 0 → ⊥)
    → Old (get_or from i 0) ≡ get_or r (length r - 1 - i) (Set false)
moves_seen w s v from r i view l none some =
    ap (λ b. Old (if b then w - i else get_or from i 0)) (sym (ne_eqb (get_or from i 0) 0 some)) ∙ old_seen w s v from r i view l none

-- ---- written

-- a word after its bit at a place was written
pub record Wrote (w word place after : ℕ) (bit : Bool) : Type 0 where
  pub here : is_one after place ≡ bit
  pub others : (i : ℕ) → i < 128 → i ≢ place → is_one after i ≡ is_one word i
  pub fits : after < 2 ^ w

others_all : (w word place after : ℕ) (bit : Bool) → w ≤ 128 → word < 2 ^ w → Wrote w word place after bit → (i : ℕ) → i ≢ place → is_one after i ≡ is_one word i
others_all w word place after bit wide fits wrote i apart =
    elim (cases_lt i 128) as (λ _. is_one after i ≡ is_one word i) [
      | inl l ↦ wrote.others i l apart
      | inr past ↦ ap (λ b. eqb b 1) (bit_at_above after w i wrote.fits (omega arith) ∙ sym (bit_at_above word w i fits (omega arith)))
    ]

chosen_within : (set value : Bool) → (set ≡ false → value ≡ false) → (value && set) ≡ value
chosen_within true true within = refl
chosen_within true false within = refl
chosen_within false true within = sym (within refl)
chosen_within false false within = refl

pub write_ok : (w s v m place s' v' m' source : ℕ) (from : List ℕ) (it : Item) (set value : Bool) → AreRewrite w s v m from → place < w → IsWritten w (w - place) it set value source
    → Wrote w s place s' set → Wrote w v place v' value → Wrote w m place m' (not (eqb source 0)) → AreRewrite w s' v' m' (slice_set from place source)
write_ok w s v m place s' v' m' source from it set value ok l chosen sets values moves =
    let small : v < 2 ^ w = omega (arith, and_le_r v s, ok.value_within, ok.set_fits) in
    let wide = ok.high in
    let size = ok.size in
    let there : place < length from = omega arith in
    let same : get_or (slice_set from place source) place 0 ≡ source = get_or-set_same from place source 0 there in
    let other : (i : ℕ) → i ≢ place → get_or (slice_set from place source) i 0 ≡ get_or from i 0 = λ i apart. get_or-set_other from place i source 0 apart in
    let value_fits = values.fits in
    record {
      low = ok.low;
      high = ok.high;
      set_fits = sets.fits;
      value_within =
          same_words_below w _ _ (omega (arith, and_le_l v' s')) values.fits (λ i k.
          is_one-and v' s' i
          ∙ elim (cases_eq i place) as (λ _. (is_one v' i && is_one s' i) ≡ is_one v' i) [
            | inl e ↦
                ap (λ x. x && is_one s' i) (ap (is_one v') e ∙ values.here)
                ∙ ap (λ x. value && x) (ap (is_one s') e ∙ sets.here)
                ∙ chosen_within set value chosen.within
                ∙ sym (ap (is_one v') e ∙ values.here)
            | inr apart ↦
                let kept : is_one v' i ≡ is_one v i = values.others i (omega arith) apart in
                ap (λ x. x && is_one s' i) kept
                ∙ ap (λ x. is_one v i && x) (sets.others i (omega arith) apart)
                ∙ within_at v s i ok.value_within
                ∙ sym kept
          ]);
      moved_fits = moves.fits;
      size = length-set from place source ∙ ok.size;
      marks = λ i. elim (cases_eq i place) as (λ _. is_one m' i ≡ not (eqb (get_or (slice_set from place source) i 0) 0)) [
        | inl e ↦ ap (is_one m') e ∙ moves.here ∙ ap (λ n. not (eqb n 0)) (sym (ap (λ k. get_or (slice_set from place source) k 0) e ∙ same))
        | inr apart ↦ others_all w m place m' _ ok.high ok.moved_fits moves i apart ∙ ok.marks i ∙ ap (λ n. not (eqb n 0)) (sym (other i apart))
      ];
      apart = λ i one. elim (cases_eq i place) as (λ _. get_or (slice_set from place source) i 0 ≡ 0) [
        | inl e ↦ ap (λ k. get_or (slice_set from place source) k 0) e ∙ same ∙ chosen.apart (sym sets.here ∙ ap (is_one s') (sym e) ∙ one)
        | inr apart ↦ other i apart ∙ ok.apart i (sym (others_all w s place s' set ok.high ok.set_fits sets i apart) ∙ one)
      ];
      within = λ i. elim (cases_eq i place) as (λ _. get_or (slice_set from place source) i 0 ≤ w) [
        | inl e ↦ let is : get_or (slice_set from place source) i 0 ≡ source = ap (λ k. get_or (slice_set from place source) k 0) e ∙ same in let inside = chosen.inside in omega arith
        | inr apart ↦ let is = other i apart in let inside = ok.within i in omega arith
      ];
      elsewhere = λ i k e'. elim (cases_eq i place) as (λ _. ⊥) [
        | inl e ↦ chosen.elsewhere (sym (ap (λ j. get_or (slice_set from place source) j 0) e ∙ same) ∙ e' ∙ ap (λ j. w - j) e)
        | inr apart ↦ ok.elsewhere i k (sym (other i apart) ∙ e')
      ];
    }

pub write_view : (w s v m place s' v' m' source : ℕ) (from : List ℕ) (r : Rewrite) (it : Item) (set value : Bool) → AreRewrite w s v m from → place < w → IsWritten w (w - place) it set value source
    → Wrote w s place s' set → Wrote w v place v' value → rewrite_of w s v from ≡ r → rewrite_of w s' v' (slice_set from place source) ≡ slice_set r (length r - 1 - place) it
write_view w s v m place s' v' m' source from r it set value ok l chosen sets values view =
    let width : length r ≡ w = length-rewrite_of w s v from r view in
    let wide = ok.high in
    let size = ok.size in
    let there : place < length from = omega arith in
    let width' = length-rewrite_of w s' v' (slice_set from place source) _ refl in
    same_lists _ _ (width' ∙ sym (length-set r (length r - 1 - place) it ∙ width)) (λ k d k_in.
    let inside : k < w = omega arith in
    let i : ℕ = w - 1 - k in
    let at : w - 1 - i ≡ k = omega arith in
    ap (λ j. get_or (rewrite_of w s' v' (slice_set from place source)) j d) (sym at)
    ∙ get_or-rewrite_of w s' v' (slice_set from place source) _ d i refl (omega arith)
    ∙ elim (cases_eq i place) as (λ _. item_at w s' v' (slice_set from place source) i ≡ get_or (slice_set r (length r - 1 - place) it) k d) [
      | inl e ↦
          let here : k ≡ length r - 1 - place = omega arith in
          ap (item_at w s' v' (slice_set from place source)) e
          ∙ ap (λ b. if b then Set (is_one v' place) else Old (old_place (w - place) (get_or (slice_set from place source) place 0))) sets.here
          ∙ ap (λ b. if set then Set b else Old (old_place (w - place) (get_or (slice_set from place source) place 0))) values.here
          ∙ ap (λ n. if set then Set value else Old (old_place (w - place) n)) (get_or-set_same from place source 0 there)
          ∙ sym chosen.is
          ∙ sym (ap (λ j. get_or (slice_set r (length r - 1 - place) it) j d) here ∙ get_or-set_same r (length r - 1 - place) it d (omega arith))
      | inr apart ↦
          let other : k ≢ length r - 1 - place = λ same. apart (omega arith) in
          ap (λ b. if b then Set (is_one v' i) else Old (old_place (w - i) (get_or (slice_set from place source) i 0))) (sets.others i (omega arith) apart)
          ∙ ap (λ b. if is_one s i then Set b else Old (old_place (w - i) (get_or (slice_set from place source) i 0))) (values.others i (omega arith) apart)
          ∙ ap (λ n. if is_one s i then Set (is_one v i) else Old (old_place (w - i) n)) (get_or-set_other from place i source 0 apart)
          ∙ sym (get_or-rewrite_of w s v from r d i view (omega arith))
          ∙ ap (λ j. get_or r j d) at
          ∙ sym (get_or-set_other r (length r - 1 - place) k it d other)
    ])

-- ---- the words of an item

pub written_bit : (w own : ℕ) (bit : Bool) → 1 ≤ own → IsWritten w own (Set bit) true bit 0
written_bit w own bit low = record { is = refl; within = λ none. absurd (false≢true (sym none)); apart = λ one. refl; inside = omega arith; elsewhere = λ e. omega arith }

pub written_own : (w own old : ℕ) → 1 ≤ own → old ≡ own → IsWritten w own (Old old) false false 0
written_own w own old low same = record { is = ap Old same; within = λ none. refl; apart = λ one. refl; inside = omega arith; elsewhere = λ e. omega arith }

pub written_old : (w own old : ℕ) → (old ≡ own → ⊥) → 1 ≤ old → old ≤ w → IsWritten w own (Old old) false false old
written_old w own old other low high =
    let some : old ≡ 0 → ⊥ = λ none. omega arith in
    record {
      is = ap (λ b. Old (if b then own else old)) (sym (ne_eqb old 0 some));
      within = λ none. refl;
      apart = λ one. absurd (false≢true one);
      inside = high;
      elsewhere = other;
    }

pub within_wider : (w x : ℕ) (it : Item) → w ≤ x → LiesWithin w it → LiesWithin x it
within_wider w x (Set bit) wider within = tt
within_wider w x (Old place) wider within = (within.0, omega arith)
