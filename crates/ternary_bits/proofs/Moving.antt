-- Moving words: which rewrites they are the words of, how they are read, and how they are put one item after another.
use Rattle.std.proofs.Common.{◌≡◌, ℕ, zero, suc, ◌+◌, ◌-◌, ◌<◌, ◌≤◌, ◌==◌, true, false, if◌then◌else◌, List, [], ◌∷◌, ◌++◌, length, get_or, take, drop, Option, Some, None, inl, inr, refl, sym, ap, ◌∙◌, arith, leb, add-one, drop-cons, take_all, append_assoc}
use Rattle.std.specs.Prelude.{slice_set}
use Rattle.std.specs.List.{join_with_byte}
use Rattle.std.proofs.lemmas.Nat.{pow_pos}
use Rattle.std.proofs.lemmas.Bool.{and_parts, and_from, eqb-true, eq-eqb, ne_eqb, false_from_ne_true, cases_Bool, cond-true, cond-false, le-leb, lt-leb}
use Rattle.std.proofs.lemmas.List.{append-nil, drop_all, take_more, take_more_set, length-set, length-take}
use Rattle.network_model.specs.Bits.{Bit, Any, Pattern}
use Rattle.network_model.specs.Rewrites.{Item, Set, Old, Rewrite}
use Rattle.ternary_bits.specs.Letters.{onto}
use Rattle.ternary_bits.specs.Moves.{moving_item, moving_items, joined_items, stays, item_text, item_texts}
use Rattle.ternary_bits.specs.Words.{is_one, rewrite_of, pattern_of, AreRewrite}
use Rattle.ternary_bits.proofs.Words.{same_words_below, is_one-zero}
use Rattle.ternary_bits.proofs.Rewriting.{length-rewrite_of, get_or-rewrite_of, moved_item}
use Rattle.ternary_bits.proofs.Reading.{items_from, rewrite_from_letters}

-- ---- which rewrites are of letters

stays-letters : (place : ℕ) (p : Pattern) → stays place (items_from place p) ≡ true
stays-letters place [] = refl
stays-letters place (Bit bit ∷ p) = stays-letters (place + 1) p
stays-letters place (Any ∷ p) = and_from _ _ (eq-eqb place place refl) (stays-letters (place + 1) p)

pub still_stays : (w s v m : ℕ) (from : List ℕ) (r : Rewrite) → AreRewrite w s v m from → rewrite_of w s v from ≡ r → m ≡ 0 → stays 1 r ≡ true
still_stays w s v m from r ok view none =
    ap (stays 1) (sym (rewrite_from_letters w s v m from (pattern_of w s v) ok none refl ∙ view)) ∙ stays-letters 1 (pattern_of w s v)

-- an old bit of a rewrite of letters is that of its own place
stays_at : (place : ℕ) (r : Rewrite) (k old : ℕ) (d : Item) → stays place r ≡ true → k < length r → get_or r k d ≡ Old old → old ≡ place + k
stays_at place [] k old d still l is = absurd (omega arith)
stays_at place (Set bit ∷ r) zero old d still l is = absurd cc
stays_at place (Old other ∷ r) zero old d still l is =
    let same : other ≡ old = cc in
    let own : other ≡ place = eqb-true other place (and_parts (other == place) (stays (place + 1) r) still).0 in
    omega arith
stays_at place (Set bit ∷ r) (suc k) old d still l is =
    let next : old ≡ place + 1 + k = stays_at (place + 1) r k old d still (omega arith) is in
    omega arith
stays_at place (Old other ∷ r) (suc k) old d still l is =
    let next : old ≡ place + 1 + k = stays_at (place + 1) r k old d (and_parts (other == place) (stays (place + 1) r) still).1 (omega arith) is in
    omega arith

none_moves : (w s v m : ℕ) (from : List ℕ) (r : Rewrite) → AreRewrite w s v m from → rewrite_of w s v from ≡ r → stays 1 r ≡ true → m ≡ 0
none_moves w s v m from r ok view still =
    same_words_below w m 0 ok.moved_fits (pow_pos w) (λ i l.
    elim (cases_Bool (is_one m i)) [
      | inr none ↦ none ∙ sym (is_one-zero i)
      | inl one ↦
          let width : length r ≡ w = length-rewrite_of w s v from r view in
          let is : get_or r (w - 1 - i) (Set false) ≡ Old (get_or from i 0) = get_or-rewrite_of w s v from r (Set false) i view l ∙ moved_item w s v m from i ok one in
          let own : get_or from i 0 ≡ 1 + (w - 1 - i) = stays_at 1 r (w - 1 - i) (get_or from i 0) (Set false) still (omega arith) is in
          absurd (ok.elsewhere i l (omega arith))
    ])

pub some_move : (w s v m : ℕ) (from : List ℕ) (r : Rewrite) → AreRewrite w s v m from → rewrite_of w s v from ≡ r → (m ≡ 0 → ⊥) → stays 1 r ≡ false
some_move w s v m from r ok view some = false_from_ne_true _ (λ still. some (none_moves w s v m from r ok view still))

-- ---- read

-- items before those of more words
abbrev after : Rewrite → Option Rewrite → Option Rewrite
after front None = None
after front (Some rest) = Some (front ++ rest)

after-nil : (o : Option Rewrite) → after [] o ≡ o
after-nil None = refl
after-nil (Some rest) = refl

-- with the items of the words that are left, the first ones are all
pub record HasTaken (count at : ℕ) (words : List (List ℕ)) (r : Rewrite) : Type 0 where
  pub width : length r ≡ count
  pub taken : after (take at r) (moving_items count (at + 1) (drop at words)) ≡ moving_items count 1 words

pub taken_none : (count : ℕ) (words : List (List ℕ)) (r : Rewrite) → length r ≡ count → HasTaken count 0 words r
taken_none count words r width = record { width = width; taken = after-nil (moving_items count 1 words) }

after_more : (front : Rewrite) (it : Item) (rest : Option Rewrite) → after front (onto (Some it) rest) ≡ after (front ++ it ∷ []) rest
after_more front it None = refl
after_more front it (Some rest) = ap Some (sym (append_assoc front (it ∷ []) rest))

drop_next : (words : List (List ℕ)) (i : ℕ) (d : List ℕ) → i < length words → drop i words ≡ get_or words i d ∷ drop (i + 1) words
drop_next words i d inside = drop-cons words i d inside ∙ rw add-one refl

turn : (count at : ℕ) (words : List (List ℕ)) (r : Rewrite) (word : List ℕ) (said : Option Item) → at < length words → word ≡ get_or words at word
    → moving_item count (at + 1) word ≡ said → HasTaken count at words r
    → after (take at r) (onto said (moving_items count (at + 1 + 1) (drop (at + 1) words))) ≡ moving_items count 1 words
turn count at words r word said inside is says had =
    ap (λ o. after (take at r) (onto o (moving_items count (at + 1 + 1) (drop (at + 1) words)))) (sym says ∙ ap (moving_item count (at + 1)) is)
    ∙ ap (λ ws. after (take at r) (moving_items count (at + 1) ws)) (sym (drop_next words at word inside))
    ∙ had.taken

pub taken_more : (count at : ℕ) (words : List (List ℕ)) (r : Rewrite) (word : List ℕ) (it : Item) → at < length words → at < count → word ≡ get_or words at word
    → moving_item count (at + 1) word ≡ Some it → HasTaken count at words r → HasTaken count (at + 1) words (slice_set r at it)
taken_more count at words r word it inside room is says had =
    let width = had.width in
    record {
      width = length-set r at it ∙ had.width;
      taken =
          ap (λ front. after front (moving_items count (at + 1 + 1) (drop (at + 1) words))) (take_more_set r at it (omega arith))
          ∙ sym (after_more (take at r) it (moving_items count (at + 1 + 1) (drop (at + 1) words)))
          ∙ turn count at words r word (Some it) inside is says had;
    }

pub taken_wrong : (count at : ℕ) (words : List (List ℕ)) (r : Rewrite) (word : List ℕ) → at < length words → word ≡ get_or words at word
    → moving_item count (at + 1) word ≡ None → HasTaken count at words r → moving_items count 1 words ≡ None
taken_wrong count at words r word inside is says had = sym (turn count at words r word None inside is says had)

pub taken_all : (count at : ℕ) (words : List (List ℕ)) (r : Rewrite) → length words ≤ at → count ≤ at → HasTaken count at words r → moving_items count 1 words ≡ Some r
taken_all count at words r ended whole had =
    let width = had.width in
    sym had.taken
    ∙ ap (λ ws. after (take at r) (moving_items count (at + 1) ws)) (drop_all at words ended)
    ∙ ap Some (append-nil (take at r) ∙ take_all at r (omega arith))

pub joined_few : (count : ℕ) (words : List (List ℕ)) → length words ≡ count → count ≤ 128 → joined_items words ≡ moving_items count 1 words
joined_few count words width few =
    cond-true (leb (length words) 128) _ None (le-leb (length words) 128 (omega arith)) ∙ ap (λ n. moving_items n 1 words) width

pub joined_many : (words : List (List ℕ)) → 128 < length words → joined_items words ≡ None
joined_many words many = cond-false (leb (length words) 128) _ None (lt-leb (length words) 128 many)

-- ---- put

-- the word of the first items; nothing where there is none
abbrev pub front_text : Rewrite → List ℕ
front_text [] = []
front_text (it ∷ items) = 64 ∷ join_with_byte 44 (item_texts 1 (it ∷ items))

item_texts-push : (place : ℕ) (items : Rewrite) (it : Item) → item_texts place (items ++ it ∷ []) ≡ item_texts place items ++ item_text (place + length items) it ∷ []
item_texts-push place [] it = let same : place ≡ place + 0 = omega arith in ap (λ k. item_text k it ∷ []) same
item_texts-push place (first ∷ items) it =
    let same : place + 1 + length items ≡ place + length (first ∷ items) = omega arith in
    ap (λ rest. item_text place first ∷ rest) (item_texts-push (place + 1) items it ∙ ap (λ k. item_texts (place + 1) items ++ item_text k it ∷ []) same)

join-push : (c : ℕ) (w : List ℕ) (ws : List (List ℕ)) (last : List ℕ) → join_with_byte c ((w ∷ ws) ++ last ∷ []) ≡ join_with_byte c (w ∷ ws) ++ (c ∷ last)
join-push c w [] last = refl
join-push c w (v ∷ ws) last = ap (λ rest. w ++ c ∷ rest) (join-push c v ws last) ∙ sym (append_assoc w (c ∷ join_with_byte c (v ∷ ws)) (c ∷ last))

front-push : (items : Rewrite) (it : Item) → front_text (items ++ it ∷ []) ≡ front_text items ++ ((if length items == 0 then 64 else 44) ∷ item_text (length items + 1) it)
front-push [] it = refl
front-push (first ∷ items) it =
    let at : 1 + length (first ∷ items) ≡ length (first ∷ items) + 1 = omega arith in
    let mark : (if length (first ∷ items) == 0 then 64 else 44) ≡ 44 = cond-false _ _ _ (ne_eqb (length (first ∷ items)) 0 (λ none. omega arith)) in
    ap (λ rest. 64 ∷ join_with_byte 44 rest) (item_texts-push 1 (first ∷ items) it ∙ ap (λ k. item_texts 1 (first ∷ items) ++ item_text k it ∷ []) at)
    ∙ ap (λ rest. 64 ∷ rest) (join-push 44 (item_text 1 first) (item_texts 2 items) (item_text (length (first ∷ items) + 1) it))
    ∙ ap (λ c. front_text (first ∷ items) ++ (c ∷ item_text (length (first ∷ items) + 1) it)) (sym mark)

-- one item more
pub put_more : (text : List ℕ) (r : Rewrite) (at : ℕ) (d : Item) → at < length r
    → ((text ++ front_text (take at r)) ++ (if at == 0 then 64 else 44) ∷ []) ++ item_text (at + 1) (get_or r at d) ≡ text ++ front_text (take (at + 1) r)
put_more text r at d inside =
    let width : length (take at r) ≡ at = omega (arith, length-take at r) in
    let mark : ℕ = if at == 0 then 64 else 44 in
    let word : List ℕ = item_text (at + 1) (get_or r at d) in
    append_assoc (text ++ front_text (take at r)) (mark ∷ []) word
    ∙ append_assoc text (front_text (take at r)) (mark ∷ word)
    ∙ ap (λ n. text ++ (front_text (take at r) ++ ((if n == 0 then 64 else 44) ∷ item_text (n + 1) (get_or r at d)))) (sym width)
    ∙ ap (λ rest. text ++ rest) (sym (front-push (take at r) (get_or r at d)))
    ∙ ap (λ items. text ++ front_text items) (sym (take_more r at d inside))

pub front_whole : (r : Rewrite) → 1 ≤ length r → front_text r ≡ 64 ∷ join_with_byte 44 (item_texts 1 r)
front_whole [] some = absurd (omega arith)
front_whole (it ∷ items) some = refl
