-- The letters that stand for patterns and rewrites that begin or end with the bits of a word.
use Rattle.std.proofs.Common.{◌≡◌, ℕ, zero, suc, ◌+◌, ◌-◌, ◌<◌, ◌≤◌, leb, ◌&&◌, true, false, List, [], ◌∷◌, ◌++◌, map, length, get_or, replicate, drop, Some, None, refl, sym, ap, ◌∙◌, arith}
use Rattle.std.specs.List.{between, range_with_len}
use Rattle.std.proofs.lemmas.Bool.{cond-true}
use borrow.Rule.Slice.PartMut.{put_mid}
use Rattle.std.proofs.lemmas.List.Edits.{length-between}
use Rattle.std.proofs.lemmas.List.{append-nil, append_assoc, drop-replicate, take-replicate, length-append, length-map, length-replicate, same_lists, get_or-map, get_or_default}
use Rattle.network_model.specs.Bits.{Header, Pattern, Bit, Any}
use Rattle.network_model.specs.Rewrites.{Set, Old, kept}
use Rattle.ternary_bits.specs.Inverses.{length-places, get_or-places}
use Rattle.ternary_bits.specs.Letters.{onto, has_width, bit_letter, header_text, pattern_text, pattern_word, rewrite_letters, rewrite_word}
use Rattle.ternary_bits.specs.Words.{is_one, header_of}
use Rattle.ternary_bits.proofs.Written.{pattern_word-written}
use Rattle.net_grow.specs.Rules.{beginning, last_byte}

pub length-header_of : (w word : ℕ) → length (header_of w word) ≡ w
length-header_of w word = length-places (is_one word) w

-- letters that are each the letter of a bit of the word, the most significant first
pub bits_written : (w word : ℕ) (letters : List ℕ) → length letters ≡ w
    → ((k : ℕ) → k < w → get_or letters k 0 ≡ bit_letter (is_one word (w - 1 - k))) → letters ≡ header_text (header_of w word)
bits_written w word letters width each =
    let bits : Header = header_of w word in
    let size : length (header_text bits) ≡ w = length-map bits bit_letter ∙ length-header_of w word in
    same_lists _ _ (width ∙ sym size) (λ k d l.
    let inside : k < w = omega arith in
    let within : k < length bits = omega (arith, length-header_of w word) in
    get_or_default letters k d 0 l
    ∙ each k inside
    ∙ sym (get_or-map bit_letter bits k false d within ∙ ap bit_letter (get_or-places (is_one word) w k false inside)))

-- ---- patterns
letters_of_bits : (bits : Header) (rest : Pattern) → pattern_text (map Bit bits ++ rest) ≡ header_text bits ++ pattern_text rest
letters_of_bits [] rest = refl
letters_of_bits (b ∷ bits) rest = ap (λ text. bit_letter b ∷ text) (letters_of_bits bits rest)

letters_of_any : (n : ℕ) → pattern_text (replicate n Any) ≡ replicate n 120
letters_of_any zero = refl
letters_of_any (suc n) = ap (λ text. 120 ∷ text) (letters_of_any n)

pub beginning_text : (bits : Header) → pattern_text (beginning bits) ≡ header_text bits ++ replicate (128 - length bits) 120
unfolding beginning
beginning_text bits =
    letters_of_bits bits (replicate (128 - length bits) Any) ∙ ap (λ text. header_text bits ++ text) (letters_of_any (128 - length bits))

pub length-beginning : (bits : Header) → length bits ≤ 128 → length (beginning bits) ≡ 128
unfolding beginning
length-beginning bits few =
    omega (arith, length-append (map Bit bits) (replicate (128 - length bits) Any), length-map bits Bit, length-replicate (128 - length bits) Any)

pub beginning_word : (bits : Header) (text : List ℕ) → length bits ≤ 128 → text ≡ header_text bits ++ replicate (128 - length bits) 120
    → pattern_word text ≡ Some (beginning bits)
beginning_word bits text few is =
    let width = length-beginning bits few in
    pattern_word-written (beginning bits) text (omega arith) (omega arith) (is ∙ sym (beginning_text bits))

-- ---- rewrites
items_of_bits : (place : ℕ) (bits : Header) → rewrite_letters place (header_text bits) ≡ Some (map Set bits)
items_of_bits place [] = refl
items_of_bits place (true ∷ bits) = ap (onto (Some (Set true))) (items_of_bits (place + 1) bits)
items_of_bits place (false ∷ bits) = ap (onto (Some (Set false))) (items_of_bits (place + 1) bits)

items_behind_kept : (place n : ℕ) (bits : Header) → rewrite_letters place (replicate n 45 ++ header_text bits) ≡ Some (map Old (range_with_len place n) ++ map Set bits)
items_behind_kept place zero bits = items_of_bits place bits
items_behind_kept place (suc n) bits = ap (onto (Some (Old place))) (items_behind_kept (place + 1) n bits)

pub length-last_byte : (word : ℕ) → length (last_byte word) ≡ 128
unfolding last_byte
length-last_byte word =
    let bits : Header = header_of 8 word in
    length-append (kept 120) (map Set bits) ∙ ap (λ n. 120 + n) (length-map bits Set ∙ length-header_of 8 word)

pub last_byte_word : (word : ℕ) (text : List ℕ) → text ≡ replicate 120 45 ++ header_text (header_of 8 word) → rewrite_word text ≡ Some (last_byte word)
unfolding last_byte
last_byte_word word text is =
    let bits : Header = header_of 8 word in
    let width : length (replicate 120 45 ++ header_text bits) ≡ 128 =
    omega (arith, length-append (replicate 120 45) (header_text bits), length-replicate {A = ℕ} 120 45, length-map bits bit_letter, length-header_of 8 word)
    in
    ap rewrite_word is
    ∙ cond-true (has_width (replicate 120 45 ++ header_text bits)) _ None (ap (λ n. leb 1 n && leb n 128) width)
    ∙ items_behind_kept 1 120 bits

-- ---- what the code writes
pub around : (blank at word size : ℕ) (written : List ℕ) → at + size ≤ 128
    → written ≡ header_text (header_of (length (between at (at + size) (replicate 128 blank))) word)
    → put_mid at (at + size - at) (replicate 128 blank) written
    ≡ replicate at blank ++ header_text (header_of size word) ++ replicate (128 - (at + size)) blank
around blank at word size written inside is =
    let whole : length (replicate 128 blank) ≡ 128 = length-replicate {A = ℕ} 128 blank in
    let front : at ≤ 128 = omega arith in
    let width : at + size - at ≡ size = omega arith in
    let part : length (between at (at + size) (replicate 128 blank)) ≡ size =
    length-between (replicate 128 blank) at (at + size) (omega (arith, whole)) ∙ width
    in
    let bits : written ≡ header_text (header_of size word) = is ∙ ap (λ n. header_text (header_of n word)) part in
    let left : 128 - at - (at + size - at) ≡ 128 - (at + size) = omega arith in
    let rest : drop (at + size - at) (drop at (replicate 128 blank)) ≡ replicate (128 - (at + size)) blank =
    ap (drop (at + size - at)) (drop-replicate at 128 blank) ∙ drop-replicate (at + size - at) (128 - at) blank ∙ ap (λ n. replicate n blank) left
    in
    ap (λ start. start ++ (written ++ drop (at + size - at) (drop at (replicate 128 blank)))) (take-replicate at 128 blank front)
    ∙ ap (λ end. replicate at blank ++ (written ++ end)) rest
    ∙ ap (λ mid. replicate at blank ++ (mid ++ replicate (128 - (at + size)) blank)) bits
    ∙ sym (append_assoc (replicate at blank) (header_text (header_of size word)) (replicate (128 - (at + size)) blank))

pub begun : (size word : ℕ) (text : List ℕ) → size ≤ 64
    → text ≡ replicate 0 120 ++ header_text (header_of size word) ++ replicate (128 - (0 + size)) 120 → pattern_word text ≡ Some (beginning (header_of size word))
begun size word text small is =
    let bits : Header = header_of size word in
    let width = length-header_of size word in
    let rest : 128 - (0 + size) ≡ 128 - length bits = omega arith in
    beginning_word bits text (omega arith) (is ∙ ap (λ n. header_text bits ++ replicate n 120) rest)

pub ended : (from word : ℕ) (text : List ℕ) → from ≡ word
    → text ≡ replicate 120 45 ++ header_text (header_of 8 from) ++ replicate (128 - (120 + 8)) 45 → rewrite_word text ≡ Some (last_byte word)
ended from word text same is =
    last_byte_word word text (is ∙ append-nil (replicate 120 45 ++ header_text (header_of 8 from)) ∙ ap (λ n. replicate 120 45 ++ header_text (header_of 8 n)) same)
