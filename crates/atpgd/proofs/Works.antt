-- Work that goes on and then goes on further.
use Rattle.std.specs.Prelude.{option_map}
use Rattle.std.proofs.Common.{◌≡◌, ◌≢◌, ◌∙◌, ℕ, ◌+◌, true, false, List, [], ◌∷◌, ◌++◌, map, length, Option, None, Some, IfSome, refl, sym, ap, subst, arith, append-nil, append_assoc, length-append}
use Rattle.std.proofs.lemmas.List.{map-append}
use Rattle.std.specs.List.{All}
use Rattle.std.proofs.lemmas.List.Elements.{All-append, All-push}
use Rattle.byte_edges.specs.Counts.{raised, Rose}
use Rattle.byte_edges.specs.Opening.{GivesFirst, with_last}
use Rattle.session_lines.specs.declared.ends.SessionEnd.{SessionEnd}
use Rattle.session_lines.specs.declared.ends.SessionEnd.TheVariants.{Ended}
use Rattle.session_lines.specs.declared.ends.SessionEnd.TheVariants as ended
use Rattle.atpgd.specs.declared.work_end.WorkEnd.{WorkEnd}
use Rattle.atpgd.specs.declared.work_end.WorkEnd.TheVariants.{Stopped, Shut, DoorFault, NoMemory}
use Rattle.atpgd.specs.Doors.{DoorSide, HasGiven}
use Rattle.atpgd.specs.Ends.{end_of}
use Rattle.atpgd.specs.Working.{Visit, AreVisits, AreNotStopped, LastStopped, IsQuiet, EndsBy, HasWorked}

raised_none : (count : ℕ) → count ≡ raised count 0
raised_none count = omega arith

raised_both : (count m n : ℕ) → raised (raised count m) n ≡ raised count (m + n)
raised_both count m n = omega arith

module _ {L : Type 0} where
  -- no line in front
  front_none : (left : Option (List L)) → left ≡ option_map (λ rest. [] ++ rest) left
  front_none None = refl
  front_none (Some rest) = refl

  front_both : (xs ys : List L) (left : Option (List L)) → option_map (λ rest. xs ++ rest) (option_map (λ rest. ys ++ rest) left) ≡ option_map (λ rest. (xs ++ ys) ++ rest) left
  front_both xs ys None = refl
  front_both xs ys (Some rest) = ap (λ (l : List L). Some l) (sym (append_assoc xs ys rest))

  back_none : (back : Option (List L)) → back ≡ option_map (λ earlier. earlier ++ []) back
  back_none None = refl
  back_none (Some earlier) = ap (λ (l : List L). Some l) (sym (append-nil earlier))

  back_both : (xs ys : List L) (back : Option (List L)) → option_map (λ earlier. earlier ++ ys) (option_map (λ earlier. earlier ++ xs) back) ≡ option_map (λ earlier. earlier ++ (xs ++ ys)) back
  back_both xs ys None = refl
  back_both xs ys (Some earlier) = ap (λ (l : List L). Some l) (append_assoc earlier xs ys)

  pub given_none : (door : DoorSide L) → HasGiven door door [] []
  given_none door = record { lines = front_none door.lines; back = back_none door.back; given = raised_none door.given }

  given_both : (before between after : DoorSide L) (came gone came' gone' : List L) → HasGiven before between came gone → HasGiven between after came' gone' → HasGiven before after (came ++ came') (gone ++ gone')
  given_both before between after came gone came' gone' first second = record {
    lines = first.lines ∙ ap (option_map (λ rest. came ++ rest)) second.lines ∙ front_both came came' after.lines;
    back = second.back ∙ ap (option_map (λ earlier. earlier ++ gone')) first.back ∙ back_both gone gone' before.back;
    given = second.given ∙ ap (λ (n : ℕ). raised n (length came')) first.given ∙ raised_both before.given (length came) (length came') ∙ ap (λ (n : ℕ). raised before.given n) (sym (length-append came came'));
  }

  -- one line was given first, and given back last
  front_one : (before after : Option (List L)) (line : L) → GivesFirst before after (Some line) → before ≡ option_map (λ rest. (line ∷ []) ++ rest) after
  front_one None after line gives = ap (option_map (λ rest. (line ∷ []) ++ rest)) (sym gives)
  front_one (Some left) after line gives = ap (λ (l : List L). Some l) gives.was ∙ ap (option_map (λ rest. (line ∷ []) ++ rest)) (sym gives.is)

  pub given_one : (before between after : DoorSide L) (line gone : L) → GivesFirst before.lines between.lines (Some line) → after.lines ≡ between.lines → between.back ≡ before.back → after.back ≡ with_last between.back gone
      → between.given ≡ raised before.given 1 → after.given ≡ between.given → HasGiven before after (line ∷ []) (gone ∷ [])
  given_one before between after line gone gives kept same back counted stays = record {
    lines = front_one before.lines between.lines line gives ∙ ap (option_map (λ rest. (line ∷ []) ++ rest)) (sym kept);
    back = back ∙ ap (option_map (λ earlier. earlier ++ gone ∷ [])) same;
    given = stays ∙ counted;
  }

  pub given_nothing : (before after : DoorSide L) → after.lines ≡ before.lines → after.back ≡ before.back → after.given ≡ before.given → HasGiven before after [] []
  given_nothing before after lines back given = record {
    lines = front_none before.lines ∙ ap (option_map (λ rest. [] ++ rest)) (sym lines);
    back = back ∙ back_none before.back;
    given = given ∙ raised_none before.given;
  }

  -- a door that is shut has nothing left, where it tells what is left
  pub shut_lines : (before after : Option (List L)) → GivesFirst before after None → after ≡ before
  shut_lines None after gives = gives
  shut_lines (Some left) after gives = gives.1 ∙ ap (λ (l : List L). Some l) (sym gives.0)

  pub shut_none : (before after : Option (List L)) → GivesFirst before after None → IfSome after (λ left. left ≡ [])
  shut_none None after gives = subst (λ (o : Option (List L)). IfSome o (λ left. left ≡ [])) (sym gives) tt
  shut_none (Some left) after gives = subst (λ (o : Option (List L)). IfSome o (λ left. left ≡ [])) (sym gives.1) refl

module _ {P L : Type 0} (serves : P → P → L → L → SessionEnd → Type 0) where
  visits_both : (before between after : P) (xs ys : List (Visit P L)) → AreVisits serves before xs between → AreVisits serves between ys after → AreVisits serves before (xs ++ ys) after
  visits_both before between after [] ys same second = subst (λ (p : P). AreVisits serves p ys after) (sym same) second
  visits_both before between after (x ∷ xs) ys first second = (first.0, visits_both x.after between after xs ys first.1 second)

  not_stopped_both : (xs ys : List (Visit P L)) → AreNotStopped xs → AreNotStopped ys → AreNotStopped (xs ++ ys)
  not_stopped_both xs ys first second = All-append (λ (visit : Visit P L). visit.end ≢ Ended true) xs ys first second

  last_both : (xs ys : List (Visit P L)) → AreNotStopped xs → LastStopped ys → LastStopped (xs ++ ys)
  last_both xs ys first second = record {
    earlier = xs ++ second.earlier;
    last = second.last;
    are = ap (λ (l : List (Visit P L)). xs ++ l) second.are ∙ sym (append_assoc xs second.earlier (second.last ∷ []));
    others = not_stopped_both xs second.earlier first second.others;
    stopped = second.stopped;
  }

  ends_both : (xs ys : List (Visit P L)) (before between after : DoorSide L) (ended : Option WorkEnd) → EndsBy xs before between None → EndsBy ys between after ended → EndsBy (xs ++ ys) before after ended
  ends_both xs ys before between after None first second = (not_stopped_both xs ys first.0 second.0, (second.1.0 ∙ first.1.0, second.1.1 ∙ first.1.1))
  ends_both xs ys before between after (Some Stopped) first second = (last_both xs ys first.0 second.0, (second.1.0 ∙ first.1.0, second.1.1 ∙ first.1.1))
  ends_both xs ys before between after (Some Shut) first second = (not_stopped_both xs ys first.0 second.0, second.1 ∙ first.1.0, second.2 ∙ ap (λ (n : ℕ). raised n 1) first.1.1, second.3)
  ends_both xs ys before between after (Some DoorFault) first second = (not_stopped_both xs ys first.0 second.0, subst (λ (n : ℕ). Rose n after.faults) first.1.0 second.1, second.2 ∙ first.1.1)
  ends_both xs ys before between after (Some NoMemory) first second = (not_stopped_both xs ys first.0 second.0, (second.1.0 ∙ first.1.0, second.1.1 ∙ first.1.1))

  pub worked_both : (door between door_after : DoorSide L) (pass pass_between pass_after : P) (ended : Option WorkEnd)
      → HasWorked serves door between pass pass_between None → HasWorked serves between door_after pass_between pass_after ended → HasWorked serves door door_after pass pass_after ended
  worked_both door between door_after pass pass_between pass_after ended first second =
      let came : Visit P L → L = λ visit. visit.came in
      let gone : Visit P L → L = λ visit. visit.gone in
      let both = given_both door between door_after (map came first.visits) (map gone first.visits) (map came second.visits) (map gone second.visits) first.given second.given in
      record {
        visits = first.visits ++ second.visits;
        served = visits_both pass pass_between pass_after first.visits second.visits first.served second.served;
        given =
            subst (λ (l : List L). HasGiven door door_after l (map gone (first.visits ++ second.visits))) (sym (map-append came first.visits second.visits))
            (subst (λ (l : List L). HasGiven door door_after (map came first.visits ++ map came second.visits) l) (sym (map-append gone first.visits second.visits)) both);
        ends = ends_both first.visits second.visits door between door_after ended first.ends second.ends;
      }

  -- before the first line
  pub worked_none : (door : DoorSide L) (pass : P) → HasWorked serves door door pass pass None
  worked_none door pass = record { visits = []; served = refl; given = given_none door; ends = (λ k d inside. absurd (omega arith), (refl, refl)) }

  one_not_stopped : (visit : Visit P L) → visit.end ≢ Ended true → AreNotStopped (visit ∷ [])
  one_not_stopped visit goes_on = All-push (λ (visit : Visit P L). visit.end ≢ Ended true) [] visit (λ k d inside. absurd (omega arith)) goes_on

  ends_one : (visit : Visit P L) (end : SessionEnd) (before after : DoorSide L) → visit.end ≡ end → IsQuiet before after → EndsBy (visit ∷ []) before after (end_of end)
  ends_one visit (ended.Ended true) before after is quiet = (record { earlier = []; last = visit; are = refl; others = (λ k d inside. absurd (omega arith)); stopped = is }, quiet)
  ends_one visit (ended.Ended false) before after is quiet = (one_not_stopped visit (λ stop. let both : ended.Ended false ≡ ended.Ended true = sym is ∙ stop in cc), quiet)
  ends_one visit (ended.LongLine line) before after is quiet = (one_not_stopped visit (λ stop. let both : ended.LongLine line ≡ ended.Ended true = sym is ∙ stop in cc), quiet)
  ends_one visit ended.ReadFault before after is quiet = (one_not_stopped visit (λ stop. let both : ended.ReadFault ≡ ended.Ended true = sym is ∙ stop in cc), quiet)
  ends_one visit (ended.WriteFault written) before after is quiet = (one_not_stopped visit (λ stop. let both : ended.WriteFault written ≡ ended.Ended true = sym is ∙ stop in cc), quiet)
  ends_one visit ended.Spent before after is quiet = (one_not_stopped visit (λ stop. let both : ended.Spent ≡ ended.Ended true = sym is ∙ stop in cc), quiet)
  ends_one visit ended.NoMemory before after is quiet = (one_not_stopped visit (λ stop. let both : ended.NoMemory ≡ ended.Ended true = sym is ∙ stop in cc), quiet)

  -- one line was accepted, served and given back
  pub worked_one : (before between after : DoorSide L) (pass pass_after : P) (line gone : L) (end : SessionEnd) → serves pass pass_after line gone end
      → GivesFirst before.lines between.lines (Some line) → after.lines ≡ between.lines → between.back ≡ before.back → after.back ≡ with_last between.back gone
      → between.given ≡ raised before.given 1 → after.given ≡ between.given → IsQuiet before between → IsQuiet between after → HasWorked serves before after pass pass_after (end_of end)
  worked_one before between after pass pass_after line gone end served gives kept same back counted stays quiet still =
      let visit : Visit P L = record { came = line; gone = gone; after = pass_after; end = end } in
      record {
        visits = visit ∷ [];
        served = (served, refl);
        given = given_one before between after line gone gives kept same back counted stays;
        ends = ends_one visit end before after refl (still.0 ∙ quiet.0, still.1 ∙ quiet.1);
      }

  none_visited : AreNotStopped {P = P} {L = L} []
  none_visited k d inside = absurd (omega arith)

  -- the door was shut, or it gave nothing since it failed or had no memory
  pub worked_shut : (before after : DoorSide L) (pass : P) → GivesFirst before.lines after.lines None → after.back ≡ before.back → after.given ≡ before.given → after.faults ≡ before.faults → after.shut ≡ raised before.shut 1
      → HasWorked serves before after pass pass (Some Shut)
  worked_shut before after pass gives back given faults shut = record {
    visits = [];
    served = refl;
    given = given_nothing before after (shut_lines before.lines after.lines gives) back given;
    ends = (none_visited, faults, shut, shut_none before.lines after.lines gives);
  }

  pub worked_fault : (before after : DoorSide L) (pass : P) → after.lines ≡ before.lines → after.back ≡ before.back → after.given ≡ before.given → Rose before.faults after.faults → after.shut ≡ before.shut
      → HasWorked serves before after pass pass (Some DoorFault)
  worked_fault before after pass lines back given rose shut = record {
    visits = [];
    served = refl;
    given = given_nothing before after lines back given;
    ends = (none_visited, rose, shut);
  }

  pub worked_no_memory : (before after : DoorSide L) (pass : P) → after.lines ≡ before.lines → after.back ≡ before.back → after.given ≡ before.given → after.faults ≡ before.faults → after.shut ≡ before.shut
      → HasWorked serves before after pass pass (Some NoMemory)
  worked_no_memory before after pass lines back given faults shut = record {
    visits = [];
    served = refl;
    given = given_nothing before after lines back given;
    ends = (none_visited, (faults, shut));
  }
