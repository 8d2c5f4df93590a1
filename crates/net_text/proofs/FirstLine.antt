-- The first line of a text, from the place of the first line feed.
use Rattle.std.proofs.Common.{◌≡◌, ◌==◌, ℕ, suc, ◌+◌, ◌-◌, ◌<◌, Bool, true, false, List, [], ◌∷◌, length, take, drop, get_or, Option, None, Some, refl, ap, ◌∙◌, arith, All, Bor, IfSome, ◌≤◌, inl, inr}
use Rattle.std.specs.Option.{option_map}
use Rattle.std.proofs.lemmas.Grind.{common_steps}
use Rattle.std.proofs.lemmas.Bool.{cases_Bool}
use Rattle.std.proofs.lemmas.List.{get_or-take, length-take-le}
use Rattle.std.proofs.lemmas.List.Elements.{All-from_get_or}
use Rattle.std.proofs.lemmas.List.Splits.{slice_split_at, slice_split_none}
use Rattle.std.proofs.Math.Seq.{split_at}
use Rattle.memchr.specs.Find.{IsFirstByte, is_byte}
use Rattle.text_words.specs.Words.{lines_of}
use Rattle.net_text.specs.Lines.{lines_left, most_left}

no_feed : (b : Bool) → (b ≡ true → ⊥) → b ≡ false
no_feed b not_so = elim (cases_Bool b) [ inl so ↦ absurd (not_so so) | inr other ↦ other ]

-- without a line feed there is one line
pub one_line : (text : List ℕ) → IsFirstByte (is_byte 10) text None → lines_of text ≡ text ∷ []
one_line text nowhere =
    slice_split_none (λ b. b == 10) text (All-from_get_or (λ b. (b == 10) ≡ false) text 0 (λ i inside. no_feed (get_or text i 0 == 10) (nowhere i (omega arith) inside)))

-- the line before the first line feed, and the lines behind it
pub line_before : (text : List ℕ) (end : ℕ) → IsFirstByte (is_byte 10) text (Some end) → lines_of text ≡ take end text ∷ lines_of (drop (end + 1) text)
line_before text end found =
    let inside : end < length text = found.0.high in
    let front : length (take end text) ≡ end = length-take-le end text (omega arith) in
    let without : All (λ b. (b == 10) ≡ false) (take end text) =
    All-from_get_or (λ b. (b == 10) ≡ false) (take end text) 0 (λ i i_in.
    let before : i < end = omega arith in
    ap (λ b. b == 10) (get_or-take end text i 0 before) ∙ no_feed (get_or text i 0 == 10) (found.0.before i (omega arith) before)) in
    let next : suc end ≡ end + 1 = omega arith in
    ap lines_of (split_at text end 0 inside) ∙ slice_split_at (λ b. b == 10) (take end text) (get_or text end 0) (drop (suc end) text) without found.1
    ∙ ap (λ k. take end text ∷ lines_of (drop k text)) next

-- what stands from a place on, as a slice to the end has it
pub to_the_end : (text : List ℕ) (at : ℕ) → take (length text - at) (drop at text) ≡ drop at text
to_the_end text at = grind (arith, common_steps)

-- no lines are left where nothing follows
pub none_left : (left : Option (Bor (List ℕ))) → ((rest : Bor (List ℕ)) → left ≡ Some rest → ⊥) → lines_left (option_map (λ rest. rest.now) left) ≡ []
none_left None none = refl
none_left (Some rest) none = absurd (none rest refl)

-- one line more was counted, and less is left
pub less_left : (counted size most : ℕ) (after : Option (Bor (List ℕ))) → counted + (size + 1) ≤ most → IfSome after (λ rest. length rest.now < size) → counted + 1 + most_left (option_map (λ rest. rest.now) after) ≤ most
less_left counted size most None within shorter = omega arith
less_left counted size most (Some rest) within shorter = omega arith
