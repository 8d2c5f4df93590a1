-- Two rewrites, one after the other, in words of bits and as lists of items.
use Rattle.std.proofs.Common.{◌≡◌, ℕ, ◌-◌, ◌<◌, ◌≤◌, ◌^◌, Bool, true, false, not, ◌&&◌, ◌||◌, List, [], ◌∷◌, map, length, get_or, refl, sym, ap, subst, ◌∙◌, arith, bit_and, bit_or}
use Rattle.std.specs.Prelude.{slice_set}
use Rattle.std.proofs.Math.Nat.{pow-le-pow_right}
use Rattle.std.proofs.Math.ListN.{get_or-map}
use Rattle.std.proofs.lemmas.Nat.{and_le_l, and_le_r, or_lt}
use Rattle.std.proofs.lemmas.Bool.{false≢true, or_parts}
use Rattle.std.proofs.lemmas.List.{length-map, same_lists, get_or_default, get_or-set_same, get_or-set_other}
use Rattle.network_model.specs.Bits.{Header}
use Rattle.network_model.specs.Rewrites.{Item, Set, Old, Rewrite, bit_of, rewritten, item_after, composed}
use Rattle.ternary_bits.specs.Words.{is_one, rewrite_of, AreRewrite, Takes}
use Rattle.ternary_bits.specs.Inverses.{is_one-and}
use Rattle.ternary_bits.proofs.Walking.{Walks, walk_start, walk_step, walk_end, walk_place}
use Rattle.ternary_bits.proofs.Words.{is_one-or, same_words_below, within_at}
use Rattle.ternary_bits.proofs.Rewriting.{item, zeros, zeros_at, unmoved, unmoved_item, length-rewrite_of, get_or-rewrite_of, letters_ok, new_word, new_word-bit, new_word-lt}

bit_after : (a : Rewrite) (h : Header) (it : Item) → bit_of h (item_after a it) ≡ bit_of (rewritten a h) it
bit_after a h (Set bit) = refl
bit_after a h (Old place) = sym (get_or-map (bit_of h) a (place - 1) (Set false))

pub rewritten-composed : (a b : Rewrite) (h : Header) → rewritten (composed a b) h ≡ rewritten b (rewritten a h)
rewritten-composed a [] h = refl
rewritten-composed a (it ∷ b) h =
    let here = bit_after a h it in
    let below = rewritten-composed a b h in
    ap (λ x. x ∷ rewritten (composed a b) h) here ∙ ap (λ xs. bit_of (rewritten a h) it ∷ xs) below

item_then : (a : Rewrite) (s v t u : Bool) (place : ℕ) → get_or a (place - 1) (Set false) ≡ item s v place → (u && t) ≡ u
    → item (s || t) ((v && not t) || u) place ≡ item_after a (item t u place)
item_then a true true true u place at in_t = refl
item_then a true false true u place at in_t = refl
item_then a false true true u place at in_t = refl
item_then a false false true u place at in_t = refl
item_then a s v false true place at in_t = absurd (false≢true in_t)
item_then a true true false false place at in_t = sym at
item_then a true false false false place at in_t = sym at
item_then a false v false false place at in_t = sym at

then_within : (s v t u : Bool) → (v && s) ≡ v → (u && t) ≡ u → (((v && not t) || u) && (s || t)) ≡ ((v && not t) || u)
then_within true true true true in_s in_t = refl
then_within true true true false in_s in_t = refl
then_within true true false true in_s in_t = refl
then_within true true false false in_s in_t = refl
then_within true false true true in_s in_t = refl
then_within true false true false in_s in_t = refl
then_within true false false true in_s in_t = refl
then_within true false false false in_s in_t = refl
then_within false true t u in_s in_t = absurd (false≢true in_s)
then_within false false true true in_s in_t = refl
then_within false false true false in_s in_t = refl
then_within false false false true in_s in_t = absurd (false≢true in_t)
then_within false false false false in_s in_t = refl

then-within : (s v t u : ℕ) (w : ℕ) → w ≤ 128 → s < 2 ^ w → t < 2 ^ w → bit_and v s ≡ v → bit_and u t ≡ u
    → bit_and (new_word v t u) (bit_or s t) ≡ new_word v t u
then-within s v t u w wide fits fits' in_s in_t =
    let small : v < 2 ^ w = omega (arith, and_le_r v s) in
    let small' : u < 2 ^ w = omega (arith, and_le_r u t) in
    let made : new_word v t u < 2 ^ w = new_word-lt w v t u small small' in
    let wide_power : 2 ^ w ≤ 2 ^ 128 = pow-le-pow_right {n = 2} (omega arith) wide in
    same_words_below w _ _ (omega (arith, and_le_l (new_word v t u) (bit_or s t))) made (λ i l.
    let bit : is_one (new_word v t u) i ≡ ((is_one v i && not (is_one t i)) || is_one u i) = new_word-bit v t u i (omega arith) (omega arith) in
    is_one-and (new_word v t u) (bit_or s t) i
    ∙ ap (λ x. x && is_one (bit_or s t) i) bit
    ∙ ap (λ x. ((is_one v i && not (is_one t i)) || is_one u i) && x) (is_one-or s t i)
    ∙ then_within (is_one s i) (is_one v i) (is_one t i) (is_one u i) (within_at v s i in_s) (within_at u t i in_t)
    ∙ sym bit)

-- where no bit moves, a few operations on words are the two rewrites
pub unmoved_ok : (w s v m t u n : ℕ) (from upon : List ℕ) → AreRewrite w s v m from → AreRewrite w t u n upon → AreRewrite w (bit_or s t) (new_word v t u) 0 (zeros 128)
unmoved_ok w s v m t u n from upon ok ok' =
    letters_ok w (bit_or s t) (new_word v t u) ok.low ok.high (or_lt w s t ok.set_fits ok'.set_fits)
    (then-within s v t u w ok.high ok.set_fits ok'.set_fits ok.value_within ok'.value_within)

-- words of another rewrite of the same width
pub same_rewrite : (w s v w' t u n : ℕ) (from upon : List ℕ) (a b : Rewrite) → rewrite_of w s v from ≡ a → AreRewrite w' t u n upon → rewrite_of w' t u upon ≡ b → length a ≡ length b
    → AreRewrite w t u n upon × (rewrite_of w t u upon ≡ b)
same_rewrite w s v w' t u n from upon a b view ok view' widths =
    let same : w' ≡ w = sym (length-rewrite_of w' t u upon b view') ∙ sym widths ∙ length-rewrite_of w s v from a view in
    (subst (λ k. AreRewrite k t u n upon) same ok, ap (λ k. rewrite_of k t u upon) (sym same) ∙ view')

-- the items of the composition, so far
abbrev pub HasItem : ℕ → Rewrite → Rewrite → Rewrite → ℕ → Type 0
HasItem w a b both i = get_or both (w - 1 - i) (Set false) ≡ item_after a (get_or b (w - 1 - i) (Set false))

pub then_start : (w s v m t u n : ℕ) (from upon : List ℕ) (a b : Rewrite) → AreRewrite w s v m from → AreRewrite w t u n upon → rewrite_of w s v from ≡ a → rewrite_of w t u upon ≡ b
    → Walks (bit_or m n) (bit_or m n) w (HasItem w a b (rewrite_of w (bit_or s t) (new_word v t u) (zeros 128)))
then_start w s v m t u n from upon a b ok ok' view view' =
    let wide : 2 ^ w ≤ 2 ^ 128 = pow-le-pow_right {n = 2} (omega arith) ok.high in
    let fits = ok'.set_fits in
    let narrow = ok.high in
    walk_start (bit_or m n) w _ (or_lt w m n ok.moved_fits ok'.moved_fits) (λ i l none.
    let still : (is_one m i ≡ false) × (is_one n i ≡ false) = or_parts (is_one m i) (is_one n i) (sym (is_one-or m n i) ∙ none) in
    let at : w - i - 1 ≡ w - 1 - i = omega arith in
    let first : get_or a (w - i - 1) (Set false) ≡ item (is_one s i) (is_one v i) (w - i) =
    ap (λ k. get_or a k (Set false)) at
    ∙ get_or-rewrite_of w s v from a (Set false) i view l
    ∙ unmoved_item w s v from i (unmoved w s v m from i ok still.0)
    in
    let second : get_or b (w - 1 - i) (Set false) ≡ item (is_one t i) (is_one u i) (w - i) =
    get_or-rewrite_of w t u upon b (Set false) i view' l ∙ unmoved_item w t u upon i (unmoved w t u n upon i ok' still.1)
    in
    get_or-rewrite_of w (bit_or s t) (new_word v t u) (zeros 128) _ (Set false) i refl l
    ∙ unmoved_item w (bit_or s t) (new_word v t u) (zeros 128) i (zeros_at 128 i)
    ∙ ap (λ x. item x (is_one (new_word v t u) i) (w - i)) (is_one-or s t i)
    ∙ ap (λ x. item (is_one s i || is_one t i) x (w - i)) (new_word-bit v t u i (omega arith) (omega arith))
    ∙ item_then a (is_one s i) (is_one v i) (is_one t i) (is_one u i) (w - i) first (within_at u t i ok'.value_within)
    ∙ ap (item_after a) (sym second))

pub then_step : (w whole left place rest : ℕ) (a b both : Rewrite) (it : Item) → w ≤ 128 → length both ≡ w → Walks whole left w (HasItem w a b both) → Takes left place rest
    → it ≡ item_after a (get_or b (w - 1 - place) (Set false)) → Walks whole rest w (HasItem w a b (slice_set both (w - 1 - place) it))
then_step w whole left place rest a b both it wide width so_far takes is =
    let at = walk_place whole left w place rest (HasItem w a b both) so_far takes in
    walk_step whole left w place rest _ _ wide so_far takes
    (λ i l apart done. get_or-set_other both (w - 1 - place) (w - 1 - i) it (Set false) (λ same. apart (omega arith)) ∙ done)
    (get_or-set_same both (w - 1 - place) it (Set false) (omega (arith, at.0)) ∙ is)

pub then_end : (w whole left : ℕ) (a b both : Rewrite) → length both ≡ w → length b ≡ w → Walks whole left w (HasItem w a b both) → left ≡ 0 → both ≡ composed a b
then_end w whole left a b both width width' walk none =
    same_lists _ _ (width ∙ sym (length-map b (item_after a) ∙ width')) (λ k d l.
    let inside : k < w = omega arith in
    let at : w - 1 - (w - 1 - k) ≡ k = omega arith in
    let done : get_or both (w - 1 - (w - 1 - k)) (Set false) ≡ item_after a (get_or b (w - 1 - (w - 1 - k)) (Set false)) =
    walk_end whole left w _ walk none (w - 1 - k) (omega arith)
    in
    get_or_default both k d (Set false) l
    ∙ ap (λ j. get_or both j (Set false)) (sym at)
    ∙ done
    ∙ ap (λ j. item_after a (get_or b j (Set false))) at
    ∙ sym (get_or-map (item_after a) b k (Set false))
    ∙ get_or_default (map (item_after a) b) k _ d (omega (arith, length-map b (item_after a))))
