-- Where the lines of a text begin and end, and the parts of a text at one of them.
use Rattle.std.proofs.Common.{◌≡◌, ℕ, zero, suc, ◌+◌, ◌<◌, ◌≤◌, Bool, true, false, cond, ◌||◌, ◌⊎◌, inl, inr, List, [], ◌∷◌, ◌++◌, length, get_or, take, drop, Some, None, eqb, refl, sym, ap, ◌∙◌, arith}
use Rattle.std.specs.List.{list_any, onto_first}
use Rattle.std.proofs.lemmas.Bool.{or_parts, eqb-true}
use Rattle.std.proofs.lemmas.List.{length-append, take_more, get_or_default}
use Rattle.std.proofs.lemmas.List.Folds.{list_any_more}
use Rattle.std.proofs.lemmas.List.Splits.{slice_split-cons_yes, slice_split-cons_no}
use Rattle.text_words.specs.Words.{lines_of, words_of}
use Rattle.text_parts.specs.Parts.{is_only, with_line, parted, ended, IsParting}

-- ---- lists

take_past : (a c : List ℕ) (b n : ℕ) → take (length a + suc n) (a ++ b ∷ c) ≡ a ++ b ∷ take n c
take_past [] c b n = let e : 0 + suc n ≡ suc n = omega arith in ap (λ m. take m (b ∷ c)) e
take_past (x ∷ a) c b n =
    let e : length (x ∷ a) + suc n ≡ suc (length a + suc n) = omega arith in
    ap (λ m. take m (x ∷ a ++ b ∷ c)) e ∙ ap (λ l. x ∷ l) (take_past a c b n)

drop_past : (a c : List ℕ) (b n : ℕ) → drop (length a + suc n) (a ++ b ∷ c) ≡ drop n c
drop_past [] c b n = let e : 0 + suc n ≡ suc n = omega arith in ap (λ m. drop m (b ∷ c)) e
drop_past (x ∷ a) c b n =
    let e : length (x ∷ a) + suc n ≡ suc (length a + suc n) = omega arith in
    ap (λ m. drop m (x ∷ a ++ b ∷ c)) e ∙ drop_past a c b n

-- ---- the first line

record HasFeed (text : List ℕ) : Type 0 where
  first : List ℕ
  rest : List ℕ
  is : text ≡ first ++ 10 ∷ rest
  lines : lines_of text ≡ first ∷ lines_of rest

by_feed : (text : List ℕ) → HasFeed text ⊎ (lines_of text ≡ text ∷ [])
by_feed [] = inr refl
by_feed (b ∷ bs) = by_byte (eqb b 10) refl (by_feed bs)
  where
    by_byte : (t : Bool) → eqb b 10 ≡ t → HasFeed bs ⊎ (lines_of bs ≡ bs ∷ []) → HasFeed (b ∷ bs) ⊎ (lines_of (b ∷ bs) ≡ (b ∷ bs) ∷ [])
    by_byte true is later =
        inl (record { first = []; rest = bs; is = ap (λ c. c ∷ bs) (eqb-true b 10 is); lines = slice_split-cons_yes (λ c. eqb c 10) b bs is })
    by_byte false is (inl h) =
        inl (record { first = b ∷ h.first; rest = h.rest; is = ap (λ l. b ∷ l) h.is; lines = slice_split-cons_no (λ c. eqb c 10) b bs is ∙ ap (onto_first b) h.lines })
    by_byte false is (inr only) = inr (slice_split-cons_no (λ c. eqb c 10) b bs is ∙ ap (onto_first b) only)

-- ---- a line, with what stands before and after it

pub record IsCut (text : List ℕ) (ls : List (List ℕ)) (k : ℕ) : Type 0 where
  pub within : length (ended (take k ls)) + length (get_or ls k []) ≤ length text
  pub before : take (length (ended (take k ls))) text ≡ ended (take k ls)
  pub after : length (ended (take k ls)) + length (get_or ls k []) < length text
      → lines_of (drop (suc (length (ended (take k ls)) + length (get_or ls k []))) text) ≡ drop (suc k) ls
  pub last : length text ≤ length (ended (take k ls)) + length (get_or ls k []) → drop (suc k) ls ≡ []

cut_first : (text l : List ℕ) (ls : List (List ℕ)) → lines_of text ≡ l ∷ ls → IsCut text (l ∷ ls) zero
cut_first text l ls e = from (by_feed text)
  where
    from : HasFeed text ⊎ (lines_of text ≡ text ∷ []) → IsCut text (l ∷ ls) zero
    from (inl h) =
        let both : h.first ∷ lines_of h.rest ≡ l ∷ ls = sym h.lines ∙ e in
        let own : h.first ≡ l = cc in
        let later : lines_of h.rest ≡ ls = cc in
        let size : length text ≡ length l + suc (length h.rest) = ap length h.is ∙ length-append h.first (10 ∷ h.rest) ∙ ap (λ (f : List ℕ). length f + suc (length h.rest)) own in
        record {
          within = omega arith;
          before = refl;
          after = λ less.
              let place : suc (0 + length l) ≡ length h.first + suc 0 = omega (arith, ap length own) in
              ap (λ n. lines_of (drop n text)) place ∙ ap (λ t. lines_of (drop (length h.first + suc 0) t)) h.is ∙ ap lines_of (drop_past h.first h.rest 10 0) ∙ later;
          last = λ all. absurd (omega arith);
        }
    from (inr only) =
        let both : text ∷ [] ≡ l ∷ ls = sym only ∙ e in
        let own : text ≡ l = cc in
        let none : [] ≡ ls = cc in
        let size : length text ≡ length l = ap length own in
        record { within = omega arith; before = refl; after = λ less. absurd (omega arith); last = λ all. sym none }

pub cut : (k : ℕ) (text : List ℕ) (ls : List (List ℕ)) → lines_of text ≡ ls → k < length ls → IsCut text ls k
cut zero text [] e inside = absurd (omega arith)
cut zero text (l ∷ ls) e inside = cut_first text l ls e
cut (suc k) text [] e inside = absurd (omega arith)
cut (suc k) text (l ∷ ls) e inside = from (by_feed text) (λ rest same. cut k rest ls same (omega arith))
  where
    from : HasFeed text ⊎ (lines_of text ≡ text ∷ []) → ((rest : List ℕ) → lines_of rest ≡ ls → IsCut rest ls k) → IsCut text (l ∷ ls) (suc k)
    from (inl h) go_on =
        let both : h.first ∷ lines_of h.rest ≡ l ∷ ls = sym h.lines ∙ e in
        let own : h.first ≡ l = cc in
        let later : lines_of h.rest ≡ ls = cc in
        let r = go_on h.rest later in
        let s = length (ended (take k ls)) in
        let size : length text ≡ length l + suc (length h.rest) = ap length h.is ∙ length-append h.first (10 ∷ h.rest) ∙ ap (λ (f : List ℕ). length f + suc (length h.rest)) own in
        let start : length (l ++ 10 ∷ ended (take k ls)) ≡ length l + suc s = length-append l (10 ∷ ended (take k ls)) in
        let is : text ≡ l ++ 10 ∷ h.rest = h.is ∙ ap (λ f. f ++ 10 ∷ h.rest) own in
        record {
          within = omega (arith, r.within);
          before = ap (λ n. take n text) start ∙ ap (take (length l + suc s)) is ∙ take_past l h.rest 10 s ∙ ap (λ t. l ++ 10 ∷ t) r.before;
          after = λ less.
              let place : suc (length (l ++ 10 ∷ ended (take k ls)) + length (get_or ls k [])) ≡ length l + suc (suc (s + length (get_or ls k []))) = omega arith in
              ap (λ n. lines_of (drop n text)) place ∙ ap (λ t. lines_of (drop (length l + suc (suc (s + length (get_or ls k [])))) t)) is
              ∙ ap lines_of (drop_past l h.rest 10 (suc (s + length (get_or ls k [])))) ∙ r.after (omega arith);
          last = λ all. r.last (omega arith);
        }
    from (inr only) go_on =
        let both : text ∷ [] ≡ l ∷ ls = sym only ∙ e in
        let none : [] ≡ ls = cc in
        absurd (omega (arith, ap length none))

-- ---- the first line with that word alone

abbrev pub parts_at : List ℕ → List ℕ → Bool
parts_at name line = is_only name (words_of line)

first_parting : (name : List ℕ) (ls : List (List ℕ)) (k : ℕ) → list_any (parts_at name) (take k ls) ≡ false → k < length ls → parts_at name (get_or ls k []) ≡ true
    → parted name ls ≡ Some (record { before = take k ls; after = drop (suc k) ls })
first_parting name [] k none inside here = absurd (omega arith)
first_parting name (l ∷ ls) zero none inside here = ap (λ b. cond b (Some (record { before = []; after = ls })) (with_line l (parted name ls))) here
first_parting name (l ∷ ls) (suc k) none inside here =
    let apart = or_parts (parts_at name l) (list_any (parts_at name) (take k ls)) none in
    ap (λ b. cond b (Some (record { before = []; after = ls })) (with_line l (parted name ls))) apart.0
    ∙ ap (with_line l) (first_parting name ls k apart.1 (omega arith) here)

pub no_parting : (name : List ℕ) (ls : List (List ℕ)) → list_any (parts_at name) ls ≡ false → parted name ls ≡ None
no_parting name [] none = refl
no_parting name (l ∷ ls) none =
    let apart = or_parts (parts_at name l) (list_any (parts_at name) ls) none in
    ap (λ b. cond b (Some (record { before = []; after = ls })) (with_line l (parted name ls))) apart.0 ∙ ap (with_line l) (no_parting name ls apart.1)

ended-push : (ls : List (List ℕ)) (l : List ℕ) → length (ended (ls ++ l ∷ [])) ≡ length (ended ls) + length l + 1
ended-push [] l = omega (arith, length-append l (10 ∷ []))
ended-push (a ∷ ls) l = omega (arith, length-append a (10 ∷ ended (ls ++ l ∷ [])), length-append a (10 ∷ ended ls), ended-push ls l)

module _ (name text : List ℕ) (n : ℕ) (own : List ℕ) (start : ℕ) (inside : n < length (lines_of text)) (is : own ≡ get_or (lines_of text) n own)
    (begins : start ≡ length (ended (take n (lines_of text)))) where
  same : get_or (lines_of text) n [] ≡ own
  same = get_or_default (lines_of text) n [] own inside ∙ sym is

  at : IsCut text (lines_of text) n
  at = cut n text (lines_of text) refl inside

  size : length (ended (take n (lines_of text))) + length (get_or (lines_of text) n []) ≡ start + length own
  size = omega (arith, ap length same)

  pub line_within : start + length own ≤ length text
  line_within = omega (arith, at.within, size)

  pub next_start : (yielded : ℕ) → yielded ≡ n + 1 → start + length own + 1 ≡ length (ended (take yielded (lines_of text)))
  next_start yielded more =
      let longer : length (ended (take (n + 1) (lines_of text))) ≡ length (ended (take n (lines_of text))) + length (get_or (lines_of text) n []) + 1 =
      ap (λ ls. length (ended ls)) (take_more (lines_of text) n [] inside) ∙ ended-push (take n (lines_of text)) (get_or (lines_of text) n []) in
      omega (arith, size, longer) ∙ ap (λ k. length (ended (take k (lines_of text)))) (sym more)

  module _ (before : list_any (parts_at name) (take n (lines_of text)) ≡ false) where
    pub not_parted : (yielded : ℕ) → yielded ≡ n + 1 → parts_at name own ≡ false → list_any (parts_at name) (take yielded (lines_of text)) ≡ false
    not_parted yielded more other =
        ap (λ k. list_any (parts_at name) (take k (lines_of text))) more
        ∙ (list_any_more (parts_at name) (lines_of text) n [] inside
        ∙ (ap (λ b. b || parts_at name (get_or (lines_of text) n [])) before ∙ (ap (parts_at name) same ∙ other)))

    pub parting : (end : ℕ) → end ≡ start + length own → parts_at name own ≡ true → IsParting name text start end
    parting end ends here = record {
      parts = record { before = take n (lines_of text); after = drop (suc n) (lines_of text) };
      are = first_parting name (lines_of text) n before inside (ap (parts_at name) same ∙ here);
      order = omega arith;
      within = omega (arith, line_within);
      before = ap (λ k. take k text) begins ∙ at.before;
      after = λ less.
          let place : end + 1 ≡ suc (length (ended (take n (lines_of text))) + length (get_or (lines_of text) n [])) = omega (arith, size) in
          ap (λ k. lines_of (drop k text)) place ∙ at.after (omega (arith, size));
      last = λ all. at.last (omega (arith, size));
    }
