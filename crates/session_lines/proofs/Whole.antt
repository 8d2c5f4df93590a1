-- Lines that are served after others, by their numbers.
--     goes_more, goes_line        lines, or one, that don't end the session
--     breaks_more, breaks_line    lines, or one, that do
--     breaks_long                 what is unended is too long
--     ends_so                     the end of a session that a line ended
use Rattle.std.proofs.Common.{◌≡◌, ℕ, ◌+◌, ◌<◌, ◌≤◌, inl, inr, Bool, true, false, List, [], ◌∷◌, ◌++◌, length, Option, refl, sym, ap, ◌∙◌, subst, arith, append-nil}
use Rattle.std.proofs.lemmas.List.{take_all}
use Rattle.byte_edges.specs.Writing.{Took}
use Rattle.desk_core.specs.declared.event.Event.{Event}
use Rattle.desk_core.specs.declared.reply.Reply.{Reply}
use Rattle.session_lines.specs.declared.ends.SessionEnd.{SessionEnd}
use Rattle.session_lines.specs.declared.ends.SessionEnd.TheVariants.{Ended, LongLine, ReadFault, WriteFault, Spent, NoMemory}
use Rattle.session_lines.specs.Ending.{GoesOnFrom, IsLast, BreaksAt, GoesTo}
use Rattle.session_lines.specs.Feeds.{HasNoFeed, IsParted}
use Rattle.session_lines.specs.Readings.{most_line_bytes, line_reading, then_reading, reading}
use Rattle.session_lines.specs.Sessions.{GoesOn, BreaksOff, lines_for, ServesWhole, EndsSo}
use Rattle.session_lines.proofs.Feeding.{more_lines, all_lines, whole_lines_parted, whole_lines_of, unended_of, lines_of_parted}
use Rattle.session_lines.proofs.ReadOn.{reading_append, reading_one}
use Rattle.session_lines.proofs.ServeOn.{goes_both, breaks_after, breaks_on}
use Rattle.session_lines.proofs.ServeLine.{line_long, long_breaks}
use Rattle.text_words.specs.Words.{lines_of}

numbers : (n number : ℕ) (lines more : List (List ℕ)) → number ≡ n + length lines → then_reading (reading (n + 1) lines) (reading (number + 1) more) ≡ reading (n + 1) (lines ++ more)
numbers n number lines more e =
    let same : number + 1 ≡ n + 1 + length lines = omega arith in
    ap (λ k. then_reading (reading (n + 1) lines) (reading k more)) same ∙ sym (reading_append (n + 1) lines more)

one : (number : ℕ) (line : List ℕ) → line_reading (number + 1) line ≡ reading (number + 1) (line ∷ [])
one number line = sym (reading_one (number + 1) line)

-- the lines of bytes behind whole ones
lines_for_parted : (end : SessionEnd) (bytes : List ℕ) (lines : List (List ℕ)) (rest : List ℕ) → IsParted bytes lines rest → lines ++ lines_for end false rest ≡ lines_for end false bytes
lines_for_parted (Ended stop) bytes lines rest parted = sym (whole_lines_parted bytes lines rest parted)
lines_for_parted (LongLine line) bytes lines rest parted = sym (lines_of_parted bytes lines rest parted)
lines_for_parted ReadFault bytes lines rest parted = sym (whole_lines_parted bytes lines rest parted)
lines_for_parted (WriteFault written) bytes lines rest parted = sym (whole_lines_parted bytes lines rest parted)
lines_for_parted Spent bytes lines rest parted = sym (whole_lines_parted bytes lines rest parted)
lines_for_parted NoMemory bytes lines rest parted = sym (whole_lines_parted bytes lines rest parted)

lines_at_end : (end : SessionEnd) (bytes : List ℕ) → lines_for end true bytes ≡ lines_of bytes
lines_at_end (Ended stop) bytes = refl
lines_at_end (LongLine line) bytes = refl
lines_at_end ReadFault bytes = refl
lines_at_end (WriteFault written) bytes = refl
lines_at_end Spent bytes = refl
lines_at_end NoMemory bytes = refl

module _ {D : Type 0} (asked : D → Event → Reply → D → Type 0) (limit hops : ℕ) where
  pub goes_more : (n number : ℕ) (lines more : List (List ℕ)) (before between after : D) (had has now : Option (List ℕ)) (earlier middle written : ℕ) → number ≡ n + length lines
      → GoesOnFrom asked limit hops (reading (n + 1) lines) before between had has earlier middle → GoesOnFrom asked limit hops (reading (number + 1) more) between after has now middle written
      → GoesOnFrom asked limit hops (reading (n + 1) (lines ++ more)) before after had now earlier written
  goes_more n number lines more before between after had has now earlier middle written e first second =
      subst (λ r. GoesOnFrom asked limit hops r before after had now earlier written) (numbers n number lines more e)
      (goes_both asked limit hops (reading (n + 1) lines) (reading (number + 1) more) before between after had has now earlier middle written first second)

  pub goes_line : (n number : ℕ) (lines : List (List ℕ)) (line : List ℕ) (before between after : D) (had has now : Option (List ℕ)) (earlier middle written : ℕ) → number ≡ n + length lines
      → GoesOnFrom asked limit hops (reading (n + 1) lines) before between had has earlier middle → GoesOnFrom asked limit hops (line_reading (number + 1) line) between after has now middle written
      → GoesOnFrom asked limit hops (reading (n + 1) (lines ++ line ∷ [])) before after had now earlier written
  goes_line n number lines line before between after had has now earlier middle written e first second =
      goes_more n number lines (line ∷ []) before between after had has now earlier middle written e first
      (subst (λ r. GoesOnFrom asked limit hops r between after has now middle written) (one number line) second)

  breaks_more : (n number : ℕ) (lines more : List (List ℕ)) (before between after : D) (had has now : Option (List ℕ)) (earlier middle : ℕ) (end : SessionEnd) → number ≡ n + length lines
      → GoesOnFrom asked limit hops (reading (n + 1) lines) before between had has earlier middle → BreaksOff asked limit hops (reading (number + 1) more) middle between after has now end
      → BreaksOff asked limit hops (reading (n + 1) (lines ++ more)) earlier before after had now end
  breaks_more n number lines more before between after had has now earlier middle end e first second =
      subst (λ r. BreaksOff asked limit hops r earlier before after had now end) (numbers n number lines more e)
      (breaks_after asked limit hops (reading (n + 1) lines) (reading (number + 1) more) before between after had has now earlier middle end first second)

  -- the end within bytes that begin with lines before it
  pub breaks_rest : (n number : ℕ) (bytes : List ℕ) (lines : List (List ℕ)) (rest : List ℕ) (before between after : D) (had has now : Option (List ℕ)) (earlier middle : ℕ) (end : SessionEnd) → number ≡ n + length lines
      → IsParted bytes lines rest → GoesOnFrom asked limit hops (reading (n + 1) lines) before between had has earlier middle
      → BreaksOff asked limit hops (reading (number + 1) (lines_for end false rest)) middle between after has now end
      → BreaksOff asked limit hops (reading (n + 1) (lines_for end false bytes)) earlier before after had now end
  breaks_rest n number bytes lines rest before between after had has now earlier middle end e parted first second =
      subst (λ ls. BreaksOff asked limit hops (reading (n + 1) ls) earlier before after had now end) (lines_for_parted end bytes lines rest parted)
      (breaks_more n number lines (lines_for end false rest) before between after had has now earlier middle end e first second)

  further : (n : ℕ) (lines more : List (List ℕ)) (before after : D) (had has : Option (List ℕ)) (earlier : ℕ) (end : SessionEnd)
      → BreaksOff asked limit hops (reading (n + 1) lines) earlier before after had has end → BreaksOff asked limit hops (reading (n + 1) (lines ++ more)) earlier before after had has end
  further n lines more before after had has earlier end off =
      subst (λ r. BreaksOff asked limit hops r earlier before after had has end) (sym (reading_append (n + 1) lines more))
      (breaks_on asked limit hops (reading (n + 1) lines) (reading (n + 1 + length lines) more) earlier before after had has end off)

  pub breaks_line : (n number : ℕ) (bytes : List ℕ) (lines : List (List ℕ)) (line rest : List ℕ) (before between after : D) (had has now : Option (List ℕ)) (earlier middle : ℕ) (end : SessionEnd) → number ≡ n + length lines
      → IsParted bytes (lines ++ line ∷ []) rest → GoesOnFrom asked limit hops (reading (n + 1) lines) before between had has earlier middle
      → BreaksOff asked limit hops (line_reading (number + 1) line) middle between after has now end
      → BreaksOff asked limit hops (reading (n + 1) (lines_for end false bytes)) earlier before after had now end
  breaks_line n number bytes lines line rest before between after had has now earlier middle end e parted first second =
      let m = more_lines end false bytes (lines ++ line ∷ []) rest parted in
      subst (λ ls. BreaksOff asked limit hops (reading (n + 1) ls) earlier before after had now end) (sym m.are)
      (further n (lines ++ line ∷ []) m.more before after had now earlier end
      (breaks_more n number lines (line ∷ []) before between after had has now earlier middle end e first
      (subst (λ r. BreaksOff asked limit hops r middle between after has now end) (one number line) second)))

  -- the last line of bytes, without a line feed
  breaks_last : (n number : ℕ) (bytes : List ℕ) (lines : List (List ℕ)) (rest : List ℕ) (before between after : D) (had has now : Option (List ℕ)) (earlier middle : ℕ) (end : SessionEnd) → number ≡ n + length lines
      → IsParted bytes lines rest → HasNoFeed rest → GoesOnFrom asked limit hops (reading (n + 1) lines) before between had has earlier middle
      → BreaksOff asked limit hops (line_reading (number + 1) rest) middle between after has now end
      → BreaksOff asked limit hops (reading (n + 1) (lines_of bytes)) earlier before after had now end
  breaks_last n number bytes lines rest before between after had has now earlier middle end e parted none first second =
      subst (λ ls. BreaksOff asked limit hops (reading (n + 1) ls) earlier before after had now end) (sym (all_lines bytes lines rest parted none))
      (breaks_more n number lines (rest ∷ []) before between after had has now earlier middle end e first
      (subst (λ r. BreaksOff asked limit hops r middle between after has now end) (one number rest) second))

  pub breaks_long : (n number : ℕ) (bytes : List ℕ) (lines : List (List ℕ)) (rest : List ℕ) (before after : D) (had has : Option (List ℕ)) (earlier middle : ℕ) → number ≡ n + length lines
      → IsParted bytes lines rest → HasNoFeed rest → most_line_bytes < length rest → GoesOnFrom asked limit hops (reading (n + 1) lines) before after had has earlier middle
      → BreaksOff asked limit hops (reading (n + 1) (lines_of bytes)) earlier before after had has (LongLine (number + 1))
  breaks_long n number bytes lines rest before after had has earlier middle e parted none long first =
      breaks_last n number bytes lines rest before after after had has has earlier middle (LongLine (number + 1)) e parted none first
      (long_breaks asked limit hops (number + 1) (line_reading (number + 1) rest) after has middle (line_long (number + 1) rest long))

  pub ends_so : (end : SessionEnd) (bytes : List ℕ) (at_end : Bool) (before after : D) (had has : Option (List ℕ))
      → BreaksOff asked limit hops (reading 1 (lines_for end at_end bytes)) 0 before after had has end → EndsSo asked limit hops bytes at_end before after had has end
  ends_so (Ended stop) bytes at_end before after had has off = inl off
  ends_so (LongLine line) bytes at_end before after had has off = off
  ends_so ReadFault bytes at_end before after had has off = absurd off.so
  ends_so (WriteFault written) bytes at_end before after had has off = off
  ends_so Spent bytes at_end before after had has off = absurd off.so
  ends_so NoMemory bytes at_end before after had has off = off

  pub ends_last : (number : ℕ) (end : SessionEnd) (bytes : List ℕ) (lines : List (List ℕ)) (rest : List ℕ) (before between after : D) (had has now : Option (List ℕ)) (middle : ℕ) → number ≡ length lines
      → IsParted bytes lines rest → HasNoFeed rest → GoesOnFrom asked limit hops (reading 1 lines) before between had has 0 middle
      → IsLast asked limit hops (line_reading (number + 1) rest) middle between after has now end → EndsSo asked limit hops bytes true before after had now end
  ends_last number end bytes lines rest before between after had has now middle e parted none first (BreaksAt off) =
      let n : number ≡ 0 + length lines = omega arith in
      ends_so end bytes true before after had now
      (subst (λ ls. BreaksOff asked limit hops (reading 1 ls) 0 before after had now end) (sym (lines_at_end end bytes))
      (breaks_last 0 number bytes lines rest before between after had has now 0 middle end n parted none first off))
  ends_last number end bytes lines rest before between after had has now middle e parted none first (GoesTo written goes is) =
      let n : number ≡ 0 + length lines = omega arith in
      let all = goes_line 0 number lines rest before between after had has now 0 middle written n first goes in
      subst (λ e. EndsSo asked limit hops bytes true before after had now e) (sym is)
      (inr (
        refl,
        refl,
        record {
          text = all.text;
          goes_on = subst (λ ls. GoesOn asked limit hops (reading 1 ls) before after had now all.text) (sym (all_lines bytes lines rest parted none)) all.goes_on;
        },
      ))

  pub serves_whole : (bytes : List ℕ) (lines : List (List ℕ)) (rest : List ℕ) (before after : D) (had has : Option (List ℕ)) (written : ℕ) → IsParted bytes lines rest → HasNoFeed rest → length rest ≤ most_line_bytes
      → GoesOnFrom asked limit hops (reading 1 lines) before after had has 0 written → ServesWhole asked limit hops bytes before after had has
  serves_whole bytes lines rest before after had has written parted none short goes = record {
    text = goes.text;
    goes_on = subst (λ ls. GoesOn asked limit hops (reading 1 ls) before after had has goes.text) (sym (whole_lines_of bytes lines rest parted none)) goes.goes_on;
    short = subst (λ r. length r ≤ most_line_bytes) (sym (unended_of bytes lines rest parted none)) short;
  }

  -- memory was wanted between lines
  pub breaks_between : (bytes : List ℕ) (lines : List (List ℕ)) (rest : List ℕ) (before after : D) (had has : Option (List ℕ)) (written : ℕ) → IsParted bytes lines rest → HasNoFeed rest
      → GoesOnFrom asked limit hops (reading 1 lines) before after had has 0 written → EndsSo asked limit hops bytes false before after had has NoMemory
  breaks_between bytes lines rest before after had has written parted none goes =
      let off : BreaksOff asked limit hops (reading 1 lines) 0 before after had has NoMemory = record {
        served = (reading 1 lines).said;
        text = goes.text;
        count = length goes.text;
        serves = goes.goes_on.serves;
        took = subst (λ t. Took had has t) (sym (take_all (length goes.text) goes.text (omega arith))) goes.goes_on.took;
        so = (([], sym (append-nil (reading 1 lines).said)), omega arith);
      } in
      subst (λ ls. BreaksOff asked limit hops (reading 1 ls) 0 before after had has NoMemory) (sym (whole_lines_of bytes lines rest parted none)) off
