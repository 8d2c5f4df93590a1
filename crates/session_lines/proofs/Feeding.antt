-- Lines with their line feeds, read back.
--     lines_of_feeds    the lines of bytes that begin with whole lines
--     whole_lines_of, unended_of    of bytes that are parted
--     more_lines        bytes may have more lines behind some whole ones
use Rattle.std.proofs.Common.{◌≡◌, ℕ, suc, ◌+◌, ◌-◌, ◌≤◌, ◌==◌, Bool, true, false, List, [], ◌∷◌, ◌++◌, length, take, drop, refl, sym, ap, ◌∙◌, arith, append_assoc, length-append}
use Rattle.std.specs.List.{slice_get}
use Rattle.std.specs.Prelude.{unwrap_or}
use Rattle.std.proofs.lemmas.Grind.{common_steps}
use Rattle.std.proofs.lemmas.List.Splits.{slice_split_none, slice_split_at, length-slice_split}
use Rattle.std.proofs.Math.Seq.{take-append-add, drop-append_seam}
use Rattle.session_lines.specs.declared.ends.SessionEnd.{SessionEnd}
use Rattle.session_lines.specs.declared.ends.SessionEnd.TheVariants.{Ended, LongLine, ReadFault, WriteFault, Spent, NoMemory}
use Rattle.session_lines.specs.Feeds.{HasNoFeed, with_feeds, HaveNoFeeds, IsParted}
use Rattle.session_lines.specs.Readings.{whole_lines, unended, lines_read}
use Rattle.session_lines.specs.Sessions.{lines_for}
use Rattle.text_words.specs.Words.{lines_of}

pub lines_of_feeds : (lines : List (List ℕ)) (rest : List ℕ) → HaveNoFeeds lines → lines_of (with_feeds lines ++ rest) ≡ lines ++ lines_of rest
lines_of_feeds [] rest each = refl
lines_of_feeds (line ∷ lines) rest each =
    ap lines_of (append_assoc line (10 ∷ with_feeds lines) rest)
    ∙ slice_split_at (λ b. b == 10) line 10 (with_feeds lines ++ rest) each.0 refl
    ∙ ap (λ ls. line ∷ ls) (lines_of_feeds lines rest each.1)

pub lines_of_parted : (bytes : List ℕ) (lines : List (List ℕ)) (rest : List ℕ) → IsParted bytes lines rest → lines_of bytes ≡ lines ++ lines_of rest
lines_of_parted bytes lines rest parted = ap lines_of parted.is ∙ lines_of_feeds lines rest parted.each

pub lines_of_rest : (rest : List ℕ) → HasNoFeed rest → lines_of rest ≡ rest ∷ []
lines_of_rest rest none = slice_split_none (λ b. b == 10) rest none

-- the lines of bytes whose rest has no line feed
pub all_lines : (bytes : List ℕ) (lines : List (List ℕ)) (rest : List ℕ) → IsParted bytes lines rest → HasNoFeed rest → lines_of bytes ≡ lines ++ rest ∷ []
all_lines bytes lines rest parted none = lines_of_parted bytes lines rest parted ∙ ap (λ ls. lines ++ ls) (lines_of_rest rest none)

some_lines : (bytes : List ℕ) → 1 ≤ length (lines_of bytes)
some_lines bytes = omega (arith, length-slice_split (λ b. b == 10) bytes)

but_last : {X : Type 0} (xs ys : List X) → 1 ≤ length ys → take (length (xs ++ ys) - 1) (xs ++ ys) ≡ xs ++ take (length ys - 1) ys
but_last xs ys some =
    let e : length (xs ++ ys) - 1 ≡ length xs + (length ys - 1) = omega (arith, length-append xs ys) in
    ap (λ n. take n (xs ++ ys)) e ∙ take-append-add xs ys (length ys - 1)

but_one : {X : Type 0} (xs : List X) (x : X) → take (length (xs ++ x ∷ []) - 1) (xs ++ x ∷ []) ≡ xs
but_one xs x = but_last xs (x ∷ []) (omega arith) ∙ grind (arith, common_steps)

pub whole_lines_parted : (bytes : List ℕ) (lines : List (List ℕ)) (rest : List ℕ) → IsParted bytes lines rest → whole_lines bytes ≡ lines ++ whole_lines rest
whole_lines_parted bytes lines rest parted =
    ap (λ ls. take (length ls - 1) ls) (lines_of_parted bytes lines rest parted) ∙ but_last lines (lines_of rest) (some_lines rest)

pub whole_lines_of : (bytes : List ℕ) (lines : List (List ℕ)) (rest : List ℕ) → IsParted bytes lines rest → HasNoFeed rest → whole_lines bytes ≡ lines
whole_lines_of bytes lines rest parted none =
    ap (λ ls. take (length ls - 1) ls) (all_lines bytes lines rest parted none) ∙ but_one lines rest

last_of : (ls : List (List ℕ)) (l : List ℕ) → unwrap_or (slice_get (ls ++ l ∷ []) (length (ls ++ l ∷ []) - 1)) [] ≡ l
last_of [] l = refl
last_of (k ∷ ls) l =
    let e : length (k ∷ (ls ++ l ∷ [])) - 1 ≡ suc (length (ls ++ l ∷ []) - 1) = omega (arith, length-append ls (l ∷ [])) in
    ap (λ n. unwrap_or (slice_get (k ∷ (ls ++ l ∷ [])) n) []) e ∙ last_of ls l

pub unended_of : (bytes : List ℕ) (lines : List (List ℕ)) (rest : List ℕ) → IsParted bytes lines rest → HasNoFeed rest → unended bytes ≡ rest
unended_of bytes lines rest parted none =
    ap (λ ls. unwrap_or (slice_get ls (length ls - 1)) []) (all_lines bytes lines rest parted none) ∙ last_of lines rest

-- a line more
HaveNoFeeds-append : (lines more : List (List ℕ)) → HaveNoFeeds lines → HaveNoFeeds more → HaveNoFeeds (lines ++ more)
HaveNoFeeds-append [] more each others = others
HaveNoFeeds-append (line ∷ lines) more each others = (each.0, HaveNoFeeds-append lines more each.1 others)

with_feeds-append : (lines more : List (List ℕ)) → with_feeds (lines ++ more) ≡ with_feeds lines ++ with_feeds more
with_feeds-append [] more = refl
with_feeds-append (line ∷ lines) more =
    ap (λ t. line ++ 10 ∷ t) (with_feeds-append lines more) ∙ sym (append_assoc line (10 ∷ with_feeds lines) (with_feeds more))

pub parted_more : (bytes : List ℕ) (lines more : List (List ℕ)) (rest last : List ℕ) → IsParted bytes lines rest → IsParted rest more last → IsParted bytes (lines ++ more) last
parted_more bytes lines more rest last first second = record {
  is = first.is ∙ ap (λ t. with_feeds lines ++ t) second.is ∙ sym (append_assoc (with_feeds lines) (with_feeds more) last) ∙ ap (λ t. t ++ last) (sym (with_feeds-append lines more));
  each = HaveNoFeeds-append lines more first.each second.each;
}

pub parted_line : (rest line last : List ℕ) → rest ≡ line ++ 10 ∷ last → HasNoFeed line → IsParted rest (line ∷ []) last
parted_line rest line last is none = record { is = is ∙ sym (append_assoc line (10 ∷ []) last); each = (none, tt) }

pub parted_none : (bytes : List ℕ) → IsParted bytes [] bytes
parted_none bytes = record { is = refl; each = tt }

-- bytes that were read behind the rest
pub parted_read : (bytes : List ℕ) (lines : List (List ℕ)) (rest piece : List ℕ) → IsParted bytes lines rest → IsParted (bytes ++ piece) lines (rest ++ piece)
parted_read bytes lines rest piece parted = record {
  is = ap (λ t. t ++ piece) parted.is ∙ append_assoc (with_feeds lines) rest piece;
  each = parted.each;
}

-- each line has a line feed
few_feeds : (lines : List (List ℕ)) → length lines ≤ length (with_feeds lines)
few_feeds [] = omega arith
few_feeds (line ∷ lines) = omega (arith, few_feeds lines, length-append line (10 ∷ with_feeds lines))

pub few_lines : (bytes : List ℕ) (lines : List (List ℕ)) (rest : List ℕ) → IsParted bytes lines rest → length lines + length rest ≤ length bytes
few_lines bytes lines rest parted = omega (arith, few_feeds lines, ap length parted.is, length-append (with_feeds lines) rest)

-- what follows some whole lines, of those that an end is said of
pub record MoreLines (end : SessionEnd) (at_end : Bool) (bytes : List ℕ) (lines : List (List ℕ)) : Type 0 where
  pub more : List (List ℕ)
  pub are : lines_for end at_end bytes ≡ lines ++ more

read_lines : (at_end : Bool) (bytes : List ℕ) (lines : List (List ℕ)) (rest : List ℕ) → IsParted bytes lines rest → (more : List (List ℕ)) × (lines_read at_end bytes ≡ lines ++ more)
read_lines true bytes lines rest parted = (lines_of rest, lines_of_parted bytes lines rest parted)
read_lines false bytes lines rest parted = (whole_lines rest, whole_lines_parted bytes lines rest parted)

pub more_lines : (end : SessionEnd) (at_end : Bool) (bytes : List ℕ) (lines : List (List ℕ)) (rest : List ℕ) → IsParted bytes lines rest → MoreLines end at_end bytes lines
more_lines (Ended stop) at_end bytes lines rest parted = let h = read_lines at_end bytes lines rest parted in record { more = h.0; are = h.1 }
more_lines (LongLine line) at_end bytes lines rest parted = record { more = lines_of rest; are = lines_of_parted bytes lines rest parted }
more_lines ReadFault at_end bytes lines rest parted = let h = read_lines at_end bytes lines rest parted in record { more = h.0; are = h.1 }
more_lines (WriteFault written) at_end bytes lines rest parted = let h = read_lines at_end bytes lines rest parted in record { more = h.0; are = h.1 }
more_lines Spent at_end bytes lines rest parted = let h = read_lines at_end bytes lines rest parted in record { more = h.0; are = h.1 }
more_lines NoMemory at_end bytes lines rest parted = let h = read_lines at_end bytes lines rest parted in record { more = h.0; are = h.1 }

-- the rest is what is left behind the bytes of whole lines
pub rest_left : (bytes : List ℕ) (lines : List (List ℕ)) (rest : List ℕ) (served : ℕ) → IsParted bytes lines rest → served + length rest ≡ length bytes → drop served bytes ≡ rest
rest_left bytes lines rest served parted h =
    let n : served ≡ length (with_feeds lines) = omega (arith, ap length parted.is, length-append (with_feeds lines) rest) in
    rw (n, parted.is) (drop-append_seam (with_feeds lines) rest)
