-- Lines of bytes that were read, and of all bytes.
--     split_of         the lines of some bytes, and those of these bytes with more behind them
--     same_reading     a line of the first that is too long is so in all of them
--     breaks_whole     a session that ended within the first of some bytes ended so within all of them
--     after_within     the lines after a line have no more bytes than all lines
use Rattle.std.proofs.Common.{◌≡◌, ℕ, ◌+◌, ◌-◌, ◌<◌, ◌≤◌, ◌==◌, Bool, true, false, List, [], ◌∷◌, ◌++◌, length, take, Option, Some, None, Result, Ok, Err, refl, sym, ap, ◌∙◌, subst, arith, append-nil, length-append}
use Rattle.std.specs.Prelude.{nat_lt, if◌then◌else◌}
use Rattle.std.specs.List.{onto_first, join_with_byte}
use Rattle.std.proofs.lemmas.Bool.{ltb-true, lt-ltb}
use Rattle.std.proofs.lemmas.List.Splits.{length-slice_split, slice_split-cons_yes, slice_split-cons_no, join_with_byte-slice_split}
use Rattle.std.proofs.Math.Seq.{take-append_seam}
use Rattle.desk_core.specs.declared.event.Event.{Event}
use Rattle.desk_core.specs.declared.reply.Reply.{Reply}
use Rattle.desk_core.specs.declared.performing.Command.{Command}
use Rattle.desk_core.specs.declared.performing.Command.TheVariants as commands
use Rattle.session_lines.specs.declared.fault.LineFault.{LineFault}
use Rattle.session_lines.specs.declared.ends.SessionEnd.{SessionEnd}
use Rattle.session_lines.specs.declared.ends.SessionEnd.TheVariants.{Ended, LongLine, ReadFault, WriteFault, Spent, NoMemory}
use Rattle.session_lines.specs.Commands.{command_of}
use Rattle.session_lines.specs.Readings.{most_line_bytes, Stop, TooLong, Said, Reading, asks, stop_at, too_long, line_reading, with_rest, then_reading, reading, whole_lines}
use Rattle.session_lines.specs.Sessions.{BreaksOff, lines_for}
use Rattle.session_lines.proofs.ReadOn.{reading_append, reading_one}
use Rattle.session_lines.proofs.ServeOn.{breaks_on}
use Rattle.text_words.specs.Words.{lines_of, words_of}
use Rattle.text_parts.specs.Parts.{Parts, is_only, parted, with_line, after_or_none, lines_after}

pub record Split (bytes piece : List ℕ) : Type 0 where
  pub lines : List (List ℕ)
  pub last : List ℕ
  pub on : List ℕ
  pub more : List (List ℕ)
  pub first : lines_of bytes ≡ lines ++ last ∷ []
  pub both : lines_of (bytes ++ piece) ≡ lines ++ (last ++ on) ∷ more

no_bytes : (piece : List ℕ) → Split [] piece
no_bytes piece = by_lines (lines_of piece) refl
  where
    by_lines : (lines : List (List ℕ)) → lines_of piece ≡ lines → Split [] piece
    by_lines [] is = absurd (omega (arith, length-slice_split (λ b. b == 10) piece, ap (λ (ls : List (List ℕ)). length ls) is))
    by_lines (line ∷ more) is = record { lines = []; last = []; on = line; more = more; first = refl; both = is }

split_feed : (b : ℕ) (bytes piece : List ℕ) → (b == 10) ≡ true → Split bytes piece → Split (b ∷ bytes) piece
split_feed b bytes piece is rest = record {
  lines = [] ∷ rest.lines;
  last = rest.last;
  on = rest.on;
  more = rest.more;
  first = slice_split-cons_yes (λ b. b == 10) b bytes is ∙ ap (λ (ls : List (List ℕ)). [] ∷ ls) rest.first;
  both = slice_split-cons_yes (λ b. b == 10) b (bytes ++ piece) is ∙ ap (λ (ls : List (List ℕ)). [] ∷ ls) rest.both;
}

split_other : (b : ℕ) (bytes piece : List ℕ) → (b == 10) ≡ false → Split bytes piece → Split (b ∷ bytes) piece
split_other b bytes piece is rest = by_lines rest.lines rest.first rest.both
  where
    by_lines : (lines : List (List ℕ)) → lines_of bytes ≡ lines ++ rest.last ∷ [] → lines_of (bytes ++ piece) ≡ lines ++ (rest.last ++ rest.on) ∷ rest.more → Split (b ∷ bytes) piece
    by_lines [] first both = record {
      lines = [];
      last = b ∷ rest.last;
      on = rest.on;
      more = rest.more;
      first = slice_split-cons_no (λ b. b == 10) b bytes is ∙ ap (λ (ls : List (List ℕ)). onto_first b ls) first;
      both = slice_split-cons_no (λ b. b == 10) b (bytes ++ piece) is ∙ ap (λ (ls : List (List ℕ)). onto_first b ls) both;
    }
    by_lines (line ∷ lines) first both = record {
      lines = (b ∷ line) ∷ lines;
      last = rest.last;
      on = rest.on;
      more = rest.more;
      first = slice_split-cons_no (λ b. b == 10) b bytes is ∙ ap (λ (ls : List (List ℕ)). onto_first b ls) first;
      both = slice_split-cons_no (λ b. b == 10) b (bytes ++ piece) is ∙ ap (λ (ls : List (List ℕ)). onto_first b ls) both;
    }

split_more : (is_feed : Bool) (b : ℕ) (bytes piece : List ℕ) → (b == 10) ≡ is_feed → Split bytes piece → Split (b ∷ bytes) piece
split_more true b bytes piece is rest = split_feed b bytes piece is rest
split_more false b bytes piece is rest = split_other b bytes piece is rest

pub split_of : (bytes piece : List ℕ) → Split bytes piece
split_of [] piece = no_bytes piece
split_of (b ∷ bytes) piece = split_more (b == 10) b bytes piece refl (split_of bytes piece)

-- the lines that are ended, of the first bytes
but_last : (lines : List (List ℕ)) (last : List ℕ) → take (length (lines ++ last ∷ []) - 1) (lines ++ last ∷ []) ≡ lines
but_last lines last =
    let n : length (lines ++ last ∷ []) - 1 ≡ length lines = omega (arith, length-append lines (last ∷ [])) in
    ap (λ n. take n (lines ++ last ∷ [])) n ∙ take-append_seam lines (last ∷ [])

whole_split : (bytes piece : List ℕ) (s : Split bytes piece) → whole_lines bytes ≡ s.lines
whole_split bytes piece s = ap (λ (ls : List (List ℕ)). take (length ls - 1) ls) s.first ∙ but_last s.lines s.last

-- what follows the ended lines
behind : (bytes piece : List ℕ) → Split bytes piece → Reading
behind bytes piece s = reading (1 + length s.lines) ((s.last ++ s.on) ∷ s.more)

reads_on : (bytes piece : List ℕ) (s : Split bytes piece) → reading 1 (lines_of (bytes ++ piece)) ≡ then_reading (reading 1 (whole_lines bytes)) (behind bytes piece s)
unfolding behind
reads_on bytes piece s =
    ap (λ (ls : List (List ℕ)). reading 1 ls) s.both
    ∙ reading_append 1 s.lines ((s.last ++ s.on) ∷ s.more)
    ∙ ap (λ (ls : List (List ℕ)). then_reading (reading 1 ls) (reading (1 + length s.lines) ((s.last ++ s.on) ∷ s.more))) (sym (whole_split bytes piece s))

-- no command is a line that is too long
not_long : (said : Result (Option Command) LineFault) (at : ℕ) → stop_at said ≡ Some (TooLong at) → ⊥
not_long (Err fault) at is = let e : None ≡ Some (TooLong at) = is in cc
not_long (Ok None) at is = let e : None ≡ Some (TooLong at) = is in cc
not_long (Ok (Some (commands.Ask event))) at is = let e : None ≡ Some (TooLong at) = is in cc
not_long (Ok (Some (commands.Plan round))) at is = let e : None ≡ Some (TooLong at) = is in cc
not_long (Ok (Some commands.Quit)) at is = cc
not_long (Ok (Some commands.Stop)) at is = cc

abbrev reading_if : Bool → ℕ → List ℕ → Reading
reading_if long number line = if long then too_long number else record { said = asks (command_of line); stop = stop_at (command_of line) }

is_long : (number : ℕ) (line : List ℕ) (at : ℕ) → (line_reading number line).stop ≡ Some (TooLong at) → nat_lt most_line_bytes (length line) ≡ true
is_long number line at stops = by_test (nat_lt most_line_bytes (length line)) refl
  where
    by_test : (long : Bool) → nat_lt most_line_bytes (length line) ≡ long → nat_lt most_line_bytes (length line) ≡ true
    by_test true is = is
    by_test false is = absurd (not_long (command_of line) at (subst (λ long. (reading_if long number line).stop ≡ Some (TooLong at)) is stops))

long_reads : (number : ℕ) (line : List ℕ) → nat_lt most_line_bytes (length line) ≡ true → line_reading number line ≡ too_long number
long_reads number line is = ap (λ long. reading_if long number line) is

longer : (line on : List ℕ) → nat_lt most_line_bytes (length line) ≡ true → nat_lt most_line_bytes (length (line ++ on)) ≡ true
longer line on is =
    let long : most_line_bytes < length line = ltb-true most_line_bytes (length line) is in
    lt-ltb most_line_bytes (length (line ++ on)) (omega (arith, length-append line on))

-- a line that is too long is so with more behind it
long_on : (number at : ℕ) (line on : List ℕ) (more : List (List ℕ)) → (line_reading number line).stop ≡ Some (TooLong at) → line_reading number line ≡ reading number ((line ++ on) ∷ more)
long_on number at line on more stops =
    let long = is_long number line at stops in
    long_reads number line long
    ∙ ap (λ (first : Reading). then_reading first (reading (number + 1) more)) (sym (long_reads number (line ++ on) (longer line on long)))

stops_same : (said : List Said) (stop : Option Stop) (a b : Reading) (at : ℕ) → (with_rest said stop a).stop ≡ Some (TooLong at) → (a.stop ≡ Some (TooLong at) → a ≡ b) → with_rest said stop a ≡ with_rest said stop b
stops_same said None a b at stops same = ap (λ (r : Reading). with_rest said None r) (same stops)
stops_same said (Some stop) a b at stops same = refl

first_reads : (bytes piece : List ℕ) (s : Split bytes piece) → reading 1 (lines_of bytes) ≡ then_reading (reading 1 s.lines) (line_reading (1 + length s.lines) s.last)
first_reads bytes piece s =
    ap (λ (ls : List (List ℕ)). reading 1 ls) s.first
    ∙ reading_append 1 s.lines (s.last ∷ [])
    ∙ ap (λ (r : Reading). then_reading (reading 1 s.lines) r) (reading_one (1 + length s.lines) s.last)

pub same_reading : (bytes piece : List ℕ) (at : ℕ) → (reading 1 (lines_of bytes)).stop ≡ Some (TooLong at) → reading 1 (lines_of bytes) ≡ reading 1 (lines_of (bytes ++ piece))
same_reading bytes piece at stops =
    let s = split_of bytes piece in
    let front = reading 1 s.lines in
    let n = 1 + length s.lines in
    let stopped : (then_reading front (line_reading n s.last)).stop ≡ Some (TooLong at) = subst (λ (r : Reading). r.stop ≡ Some (TooLong at)) (first_reads bytes piece s) stops in
    first_reads bytes piece s
    ∙ stops_same front.said front.stop (line_reading n s.last) (reading n ((s.last ++ s.on) ∷ s.more)) at stopped (λ here. long_on n at s.last s.on s.more here)
    ∙ sym (reading_append 1 s.lines ((s.last ++ s.on) ∷ s.more))
    ∙ ap (λ (ls : List (List ℕ)). reading 1 ls) (sym s.both)

all_lines : (end : SessionEnd) (bytes : List ℕ) → lines_for end true bytes ≡ lines_of bytes
all_lines (Ended stop) bytes = refl
all_lines (LongLine line) bytes = refl
all_lines ReadFault bytes = refl
all_lines (WriteFault written) bytes = refl
all_lines Spent bytes = refl
all_lines NoMemory bytes = refl

module _ {D : Type 0} (asked : D → Event → Reply → D → Type 0) (limit hops : ℕ) where
  -- a session that ended within the lines that are ended
  breaks_further : (bytes piece : List ℕ) (earlier : ℕ) (before after : D) (had has : Option (List ℕ)) (end : SessionEnd)
      → BreaksOff asked limit hops (reading 1 (whole_lines bytes)) earlier before after had has end → BreaksOff asked limit hops (reading 1 (lines_of (bytes ++ piece))) earlier before after had has end
  breaks_further bytes piece earlier before after had has end off =
      let s = split_of bytes piece in
      subst (λ (r : Reading). BreaksOff asked limit hops r earlier before after had has end) (sym (reads_on bytes piece s))
      (breaks_on asked limit hops (reading 1 (whole_lines bytes)) (behind bytes piece s) earlier before after had has end off)

  breaks_before : (end : SessionEnd) (bytes piece : List ℕ) (earlier : ℕ) (before after : D) (had has : Option (List ℕ))
      → BreaksOff asked limit hops (reading 1 (lines_for end false bytes)) earlier before after had has end → BreaksOff asked limit hops (reading 1 (lines_of (bytes ++ piece))) earlier before after had has end
  breaks_before (Ended stop) bytes piece earlier before after had has off = breaks_further bytes piece earlier before after had has (Ended stop) off
  breaks_before (LongLine line) bytes piece earlier before after had has off =
      subst (λ (r : Reading). BreaksOff asked limit hops r earlier before after had has (LongLine line)) (same_reading bytes piece line off.so.0) off
  breaks_before ReadFault bytes piece earlier before after had has off = breaks_further bytes piece earlier before after had has ReadFault off
  breaks_before (WriteFault written) bytes piece earlier before after had has off = breaks_further bytes piece earlier before after had has (WriteFault written) off
  breaks_before Spent bytes piece earlier before after had has off = breaks_further bytes piece earlier before after had has Spent off
  breaks_before NoMemory bytes piece earlier before after had has off = breaks_further bytes piece earlier before after had has NoMemory off

  pub breaks_whole : (end : SessionEnd) (at_end : Bool) (bytes piece : List ℕ) (earlier : ℕ) (before after : D) (had has : Option (List ℕ)) → (at_end ≡ true → piece ≡ [])
      → BreaksOff asked limit hops (reading 1 (lines_for end at_end bytes)) earlier before after had has end → BreaksOff asked limit hops (reading 1 (lines_of (bytes ++ piece))) earlier before after had has end
  breaks_whole end true bytes piece earlier before after had has last off =
      let all : bytes ++ piece ≡ bytes = ap (λ (p : List ℕ). bytes ++ p) (last refl) ∙ append-nil bytes in
      subst (λ (ls : List (List ℕ)). BreaksOff asked limit hops (reading 1 ls) earlier before after had has end) (all_lines end bytes ∙ ap (λ (b : List ℕ). lines_of b) (sym all)) off
  breaks_whole end false bytes piece earlier before after had has last off = breaks_before end bytes piece earlier before after had has off

-- a line more before some has bytes of its own
joined_more : (line : List ℕ) (lines : List (List ℕ)) → length (join_with_byte 10 lines) ≤ length (join_with_byte 10 (line ∷ lines))
joined_more line [] = omega arith
joined_more line (next ∷ lines) = omega (arith, length-append line (10 ∷ join_with_byte 10 (next ∷ lines)))

-- the parts at a line, by whether its only word is the given one
abbrev parts_if : List ℕ → List ℕ → List (List ℕ) → Bool → Option Parts
parts_if name line lines only = if only then Some (record { before = []; after = lines }) else with_line line (parted name lines)

with_line_within : (line : List ℕ) (lines : List (List ℕ)) (parts : Option Parts) → length (join_with_byte 10 (after_or_none parts)) ≤ length (join_with_byte 10 lines)
    → length (join_with_byte 10 (after_or_none (with_line line parts))) ≤ length (join_with_byte 10 (line ∷ lines))
with_line_within line lines None within = omega arith
with_line_within line lines (Some parts) within = omega (arith, within, joined_more line lines)

after_line : (name line : List ℕ) (lines : List (List ℕ)) (only : Bool) → length (join_with_byte 10 (after_or_none (parted name lines))) ≤ length (join_with_byte 10 lines)
    → length (join_with_byte 10 (after_or_none (parts_if name line lines only))) ≤ length (join_with_byte 10 (line ∷ lines))
after_line name line lines true within = joined_more line lines
after_line name line lines false within = with_line_within line lines (parted name lines) within

after_within : (name : List ℕ) (lines : List (List ℕ)) → length (join_with_byte 10 (after_or_none (parted name lines))) ≤ length (join_with_byte 10 lines)
after_within name [] = omega arith
after_within name (line ∷ lines) = after_line name line lines (is_only name (words_of line)) (after_within name lines)

-- what follows a line is no longer than all of the text
pub part_within : (name text part : List ℕ) → lines_of part ≡ lines_after name text → length part ≤ length text
part_within name text part is =
    let own : length (join_with_byte 10 (lines_of part)) ≡ length part = ap (λ (b : List ℕ). length b) (join_with_byte-slice_split 10 part) in
    let all : length (join_with_byte 10 (lines_of text)) ≡ length text = ap (λ (b : List ℕ). length b) (join_with_byte-slice_split 10 text) in
    let same : length (join_with_byte 10 (lines_of part)) ≡ length (join_with_byte 10 (lines_after name text)) = ap (λ (ls : List (List ℕ)). length (join_with_byte 10 ls)) is in
    omega (arith, own, all, same, after_within name (lines_of text))
