-- What is served after other lines.
--     serves_both     one after the other
--     goes_both       the same of lines that don't end the session
--     breaks_after    of lines that don't, and of lines that do
--     breaks_on       lines behind the end of a session don't matter
use Rattle.std.proofs.Common.{◌≡◌, ℕ, ◌+◌, List, [], ◌∷◌, ◌++◌, length, take, Option, Some, None, Ok, Err, sym, ap, ◌∙◌, subst, arith, append_assoc, length-append}
use Rattle.std.proofs.Math.Seq.{take-append-add}
use Rattle.byte_edges.specs.Counts.{raised}
use Rattle.byte_edges.specs.Writing.{Took}
use Rattle.desk_core.specs.declared.event.Event.{Event}
use Rattle.desk_core.specs.declared.reply.Reply.{Reply}
use Rattle.desk_core.specs.Asking.{Item, Leads}
use Rattle.session_lines.specs.declared.ends.SessionEnd.{SessionEnd}
use Rattle.session_lines.specs.declared.ends.SessionEnd.TheVariants.{Ended, LongLine, ReadFault, WriteFault, Spent, NoMemory}
use Rattle.session_lines.specs.Ending.{GoesOnFrom}
use Rattle.session_lines.specs.Readings.{Stop, Said, Reading, with_rest, then_reading}
use Rattle.session_lines.specs.ReplyTexts.{bad_line_text}
use Rattle.session_lines.specs.Serving.{AreServed, Serves}
use Rattle.session_lines.specs.Sessions.{GoesOn, EndsWithin, BreaksOff}
use Rattle.session_lines.proofs.ReadOn.{on_rest}

pub took_both : (before between after : Option (List ℕ)) (xs ys : List ℕ) → Took before between xs → Took between after ys → Took before after (xs ++ ys)
took_both None between after xs ys first second = rw first at second
took_both (Some taken) between after xs ys first second =
    let both : after ≡ Some ((taken ++ xs) ++ ys) = rw first at second in
    both ∙ ap (λ (bytes : List ℕ). Some bytes) (append_assoc taken xs ys)

module _ {D : Type 0} (asked : D → Event → Reply → D → Type 0) (limit hops : ℕ) where
  leads_both : (before between after : D) (xs ys : List (Item D)) → Leads asked before xs between → Leads asked between ys after → Leads asked before (xs ++ ys) after
  leads_both before between after [] ys first second = subst (λ d. Leads asked d ys after) (sym first) second
  leads_both before between after (x ∷ xs) ys first second = (first.0, leads_both x.after between after xs ys first.1 second)

  served_both : (said more : List Said) (items others : List (Item D)) (text rest : List ℕ) → AreServed limit hops said items text → AreServed limit hops more others rest → AreServed limit hops (said ++ more) (items ++ others) (text ++ rest)
  served_both [] more items others text rest first second = rw (first.0, first.1) second
  served_both (Err fault ∷ said) more items others text rest first second =
      (first.0 ++ rest, ap (λ t. t ++ rest) first.1 ∙ append_assoc (bad_line_text fault) first.0 rest, served_both said more items others first.0 rest first.2 second)
  served_both (Ok command ∷ said) more items others text rest first second = (
    first.0,
    first.1 ++ others,
    first.2,
    first.3 ++ rest,
    ap (λ xs. xs ++ others) first.4 ∙ append_assoc first.0 first.1 others,
    ap (λ t. t ++ rest) first.5 ∙ append_assoc first.2 first.3 rest,
    first.6,
    served_both said more first.1 others first.3 rest first.7 second,
  )

  pub serves_both : (said more : List Said) (before between after : D) (text rest : List ℕ) → Serves asked limit hops said before between text → Serves asked limit hops more between after rest → Serves asked limit hops (said ++ more) before after (text ++ rest)
  serves_both said more before between after text rest first second = record {
    items = first.items ++ second.items;
    leads = leads_both before between after first.items second.items first.leads second.leads;
    served = served_both said more first.items second.items text rest first.served second.served;
  }

  pub goes_both : (first next : Reading) (before between after : D) (had has now : Option (List ℕ)) (earlier middle written : ℕ)
      → GoesOnFrom asked limit hops first before between had has earlier middle → GoesOnFrom asked limit hops next between after has now middle written
      → GoesOnFrom asked limit hops (then_reading first next) before after had now earlier written
  goes_both first next before between after had has now earlier middle written one two = record {
    text = one.text ++ two.text;
    goes_on = subst (λ r. GoesOn asked limit hops r before after had now (one.text ++ two.text)) (sym (on_rest first next one.goes_on.on)) (record {
      on = two.goes_on.on;
      serves = serves_both first.said next.said before between after one.text two.text one.goes_on.serves two.goes_on.serves;
      took = took_both had has now one.text two.text one.goes_on.took two.goes_on.took;
    });
    counted = omega (arith, one.counted, two.counted, length-append one.text two.text);
  }

ends_after : (end : SessionEnd) (said : List Said) (next : Reading) (served : List Said) (x text : List ℕ) (count earlier middle : ℕ)
    → middle ≡ raised earlier (length x) → EndsWithin next served text count middle end
    → EndsWithin (record { said = said ++ next.said; stop = next.stop }) (said ++ served) (x ++ text) (length x + count) earlier end
ends_after (Ended stop) said next served x text count earlier middle e h =
    (h.0, ap (λ s. said ++ s) h.1, omega (arith, h.2, length-append x text))
ends_after (LongLine line) said next served x text count earlier middle e h =
    (h.0, ap (λ s. said ++ s) h.1, omega (arith, h.2, length-append x text))
ends_after ReadFault said next served x text count earlier middle e h = h
ends_after (WriteFault written) said next served x text count earlier middle e h =
    ((h.0.0, ap (λ s. said ++ s) h.0.1 ∙ sym (append_assoc said served h.0.0)), omega (arith, h.1, length-append x text), omega (arith, e, h.2))
ends_after Spent said next served x text count earlier middle e h = h
ends_after NoMemory said next served x text count earlier middle e h =
    ((h.0.0, ap (λ s. said ++ s) h.0.1 ∙ sym (append_assoc said served h.0.0)), omega (arith, h.1, length-append x text))

ends_on : (end : SessionEnd) (said : List Said) (stop : Option Stop) (more : Reading) (served : List Said) (text : List ℕ) (count earlier : ℕ)
    → EndsWithin (record { said = said; stop = stop }) served text count earlier end → EndsWithin (with_rest said stop more) served text count earlier end
ends_on end said (Some stop) more served text count earlier h = h
ends_on (Ended stop) said None more served text count earlier h = let e : None ≡ Some _ = h.0 in cc
ends_on (LongLine line) said None more served text count earlier h = let e : None ≡ Some _ = h.0 in cc
ends_on ReadFault said None more served text count earlier h = h
ends_on (WriteFault written) said None more served text count earlier h =
    ((h.0.0 ++ more.said, ap (λ s. s ++ more.said) h.0.1 ∙ append_assoc served h.0.0 more.said), h.1, h.2)
ends_on Spent said None more served text count earlier h = h
ends_on NoMemory said None more served text count earlier h =
    ((h.0.0 ++ more.said, ap (λ s. s ++ more.said) h.0.1 ∙ append_assoc served h.0.0 more.said), h.1)

module _ {D : Type 0} (asked : D → Event → Reply → D → Type 0) (limit hops : ℕ) where
  pub breaks_after : (first next : Reading) (before between after : D) (had has now : Option (List ℕ)) (earlier middle : ℕ) (end : SessionEnd)
      → GoesOnFrom asked limit hops first before between had has earlier middle → BreaksOff asked limit hops next middle between after has now end
      → BreaksOff asked limit hops (then_reading first next) earlier before after had now end
  breaks_after first next before between after had has now earlier middle end one two = record {
    served = first.said ++ two.served;
    text = one.text ++ two.text;
    count = length one.text + two.count;
    serves = serves_both asked limit hops first.said two.served before between after one.text two.text one.goes_on.serves two.serves;
    took = subst (λ t. Took had now t) (sym (take-append-add one.text two.text two.count)) (took_both had has now one.text (take two.count two.text) one.goes_on.took two.took);
    so = subst (λ r. EndsWithin r (first.said ++ two.served) (one.text ++ two.text) (length one.text + two.count) earlier end) (sym (on_rest first next one.goes_on.on))
        (ends_after end first.said next two.served one.text two.text two.count earlier middle one.counted two.so);
  }

  pub breaks_on : (first more : Reading) (earlier : ℕ) (before after : D) (had has : Option (List ℕ)) (end : SessionEnd)
      → BreaksOff asked limit hops first earlier before after had has end → BreaksOff asked limit hops (then_reading first more) earlier before after had has end
  breaks_on first more earlier before after had has end off = record {
    served = off.served;
    text = off.text;
    count = off.count;
    serves = off.serves;
    took = off.took;
    so = ends_on end first.said first.stop more off.served off.text off.count earlier off.so;
  }
