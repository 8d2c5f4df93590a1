-- What one line comes to.
--     serves_command, serves_fault, serves_nothing    by what the line says
--     text_named       the text of an answer, by what the command names
--     cut_breaks       the write of a reply ends the session
--     ends_at          the command ends it
--     line_says, line_long    how the line reads
use Rattle.std.proofs.Common.{◌≡◌, ℕ, ◌<◌, ◌≤◌, List, [], ◌∷◌, length, Option, Some, None, Result, Ok, Err, true, false, refl, sym, ap, ◌∙◌, subst, arith, append-nil}
use Rattle.std.specs.Arc.{arc_value}
use Rattle.std.proofs.lemmas.Bool.{cond-false, cond-true, lt-ltb, le-ltb}
use Rattle.std.proofs.lemmas.List.{take_all}
use Rattle.byte_edges.specs.Counts.{raised}
use Rattle.byte_edges.specs.Writing.{Took}
use Rattle.network_model.specs.Network.{Network}
use Rattle.desk_core.specs.declared.event.Event.{Event}
use Rattle.desk_core.specs.declared.event.Event.TheVariants.{Pin, Post}
use Rattle.desk_core.specs.declared.reply.Reply.{Reply}
use Rattle.desk_core.specs.declared.reply.Reply.TheVariants.{Pinned, Posted}
use Rattle.desk_core.specs.declared.performing.Command.{Command}
use Rattle.desk_core.specs.declared.performing.Command.TheVariants.{Ask, Plan, Quit, Stop}
use Rattle.desk_core.specs.declared.performing.Answer.{Answer}
use Rattle.desk_core.specs.declared.performing.Answer.TheVariants.{Replied, Planned, TableFull, NoMemory, Bye}
use Rattle.desk_core.specs.Asking.{Item, Leads}
use Rattle.desk_core.specs.Performing.{Planning, AfterPin, Performed}
use Rattle.session_lines.specs.declared.ends.SessionEnd.{SessionEnd}
use Rattle.session_lines.specs.declared.ends.SessionEnd.TheVariants as ends
use Rattle.session_lines.specs.declared.fault.LineFault.{LineFault}
use Rattle.session_lines.specs.declared.replies.Named.{Named}
use Rattle.session_lines.specs.Commands.{command_of}
use Rattle.session_lines.specs.Ending.{ending_stop, GoesOnFrom, IsCut}
use Rattle.session_lines.specs.Naming.{IsNamedBy}
use Rattle.session_lines.specs.Readings.{most_line_bytes, Said, Reading, asks, command_stop, stop_at, too_long, command_reading, line_reading}
use Rattle.session_lines.specs.ReplyTexts.{answer_text, text_of, bad_line_text}
use Rattle.session_lines.specs.Serving.{Posting, AfterPinning, Comes, Serves}
use Rattle.session_lines.specs.Sessions.{IsFront, EndsWithin, BreaksOff}

pub text_named : (command : Command) (named : Named) (answer : Answer) → IsNamedBy command named → answer_text named.round named.entry answer ≡ text_of command answer
text_named (Ask event) named answer h = rw (h.0, h.1) refl
text_named (Plan round) named answer h = rw (h.0, h.1) refl
text_named Quit named answer h = rw (h.0, h.1) refl
text_named Stop named answer h = rw (h.0, h.1) refl

pub took_none : (told : Option (List ℕ)) → Took told told []
took_none None = refl
took_none (Some bytes) = ap (λ (xs : List ℕ). Some xs) (sym (append-nil bytes))

module _ {D : Type 0} (asked : D → Event → Reply → D → Type 0) (limit hops : ℕ) where
  -- the items of a command
  record Done (before : D) (command : Command) (answer : Answer) (after : D) : Type 0 where
    items : List (Item D)
    leads : Leads asked before items after
    comes : Comes limit hops command items answer

  record Followed (pinned : D) (round : ℕ) (reply : Reply) (answer : Answer) (after : D) : Type 0 where
    items : List (Item D)
    leads : Leads asked pinned items after
    comes : AfterPinning limit hops round reply items answer

  record Made (pinned : D) (round version : ℕ) (net : Network) (answer : Answer) (after : D) : Type 0 where
    items : List (Item D)
    leads : Leads asked pinned items after
    comes : Posting limit hops round version net items answer

  made : (answer : Answer) (pinned after : D) (round version : ℕ) (net : Network) → Planning asked limit hops pinned round version net answer after → Made pinned round version net answer after
  made (Replied reply) pinned after round version net h =
      record { items = record { event = Post round h.0; reply = reply; after = after } ∷ []; leads = (h.2, refl); comes = (h.0, h.1, refl, refl, h.3) }
  made (Planned of pinned_version plan) pinned after round version net h =
      record { items = record { event = Post round h.3.1; reply = Posted h.3.0; after = after } ∷ []; leads = (h.3.3, refl); comes = (h.0, h.1, h.2, (h.3.1, h.3.0, h.3.2, refl, refl)) }
  made (TableFull most) pinned after round version net h = record { items = []; leads = sym h.2; comes = (h.0, h.1) }
  made NoMemory pinned after round version net h = record { items = []; leads = sym h; comes = tt }
  made Bye pinned after round version net h = absurd h

  followed : (reply : Reply) (answer : Answer) (pinned after : D) (round : ℕ) → AfterPin asked limit hops pinned round reply answer after → Followed pinned round reply answer after
  followed (Pinned version net) answer pinned after round h =
      let m = made answer pinned after round version (arc_value net) h in record { items = m.items; leads = m.leads; comes = m.comes }
  followed reply answer pinned after round h = record { items = []; leads = sym h.1; comes = (refl, h.0) }

  done : (command : Command) (answer : Answer) (before after : D) → Performed asked limit hops before command answer after → Done before command answer after
  done (Ask event) answer before after h =
      let item : Item D = record { event = event; reply = h.0; after = after } in
      record { items = item ∷ []; leads = (h.2, refl); comes = (item, refl, refl, h.1) }
  done (Plan round) answer before after h =
      let f = followed h.0 answer h.1 after round h.3 in
      let pin : Item D = record { event = Pin round; reply = h.0; after = h.1 } in
      record { items = pin ∷ f.items; leads = (h.2, f.leads); comes = (pin, f.items, refl, refl, f.comes) }
  done Quit answer before after h = record { items = []; leads = sym h.1; comes = (refl, h.0) }
  done Stop answer before after h = record { items = []; leads = sym h.1; comes = (refl, h.0) }

  pub serves_command : (command : Command) (answer : Answer) (before after : D) (text : List ℕ) → Performed asked limit hops before command answer after → text ≡ text_of command answer
      → Serves asked limit hops (Ok command ∷ []) before after text
  serves_command command answer before after text h told =
      let d = done command answer before after h in
      record {
        items = d.items;
        leads = d.leads;
        served = (d.items, [], text, [], sym (append-nil d.items), sym (append-nil text), record { answer = answer; comes = d.comes; told = told }, (refl, refl));
      }

  pub serves_fault : (fault : LineFault) (desk : D) → Serves asked limit hops (Err fault ∷ []) desk desk (bad_line_text fault)
  serves_fault fault desk = record { items = []; leads = refl; served = ([], sym (append-nil (bad_line_text fault)), (refl, refl)) }

  pub serves_nothing : (desk : D) → Serves asked limit hops [] desk desk []
  serves_nothing desk = record { items = []; leads = refl; served = (refl, refl) }

  -- a line without a word
  pub goes_nothing : (desk : D) (told : Option (List ℕ)) (written : ℕ) → GoesOnFrom asked limit hops (record { said = []; stop = None }) desk desk told told written written
  goes_nothing desk told written = record { text = []; goes_on = record { on = refl; serves = serves_nothing desk; took = took_none told }; counted = omega arith }

  pub goes_text : (lines : Reading) (before after : D) (had has : Option (List ℕ)) (earlier written : ℕ) (text : List ℕ) → lines.stop ≡ None
      → Serves asked limit hops lines.said before after text → Took had has text → written ≡ raised earlier (length text)
      → GoesOnFrom asked limit hops lines before after had has earlier written
  goes_text lines before after had has earlier written text on serves took counted = record {
    text = text;
    goes_on = record { on = on; serves = serves; took = took };
    counted = counted;
  }

  whole_front : (said : List Said) → IsFront said said
  whole_front said = ([], sym (append-nil said))

  pub cut_breaks : (end : SessionEnd) (lines : Reading) (before after : D) (had has : Option (List ℕ)) (earlier : ℕ) (text : List ℕ)
      → IsCut had has text earlier end → Serves asked limit hops lines.said before after text → BreaksOff asked limit hops lines earlier before after had has end
  cut_breaks (ends.WriteFault written) lines before after had has earlier text cut serves = record {
    served = lines.said;
    text = text;
    count = cut.0;
    serves = serves;
    took = cut.2.took;
    so = (whole_front lines.said, cut.1, cut.3);
  }
  cut_breaks ends.NoMemory lines before after had has earlier text cut serves = record {
    served = lines.said;
    text = text;
    count = cut.0;
    serves = serves;
    took = cut.1.took;
    so = (whole_front lines.said, cut.1.within);
  }
  cut_breaks (ends.Ended stop) lines before after had has earlier text cut serves = absurd cut
  cut_breaks (ends.LongLine line) lines before after had has earlier text cut serves = absurd cut
  cut_breaks ends.ReadFault lines before after had has earlier text cut serves = absurd cut
  cut_breaks ends.Spent lines before after had has earlier text cut serves = absurd cut

  -- nothing of the text was written
  pub none_written : (lines : Reading) (before after : D) (told : Option (List ℕ)) (earlier : ℕ) (text : List ℕ) → Serves asked limit hops lines.said before after text
      → BreaksOff asked limit hops lines earlier before after told told ends.NoMemory
  none_written lines before after told earlier text serves = record {
    served = lines.said;
    text = text;
    count = 0;
    serves = serves;
    took = took_none told;
    so = (whole_front lines.said, omega arith);
  }

  ends_in : (command : Command) (end : SessionEnd) (text : List ℕ) (earlier : ℕ) → ending_stop command ≡ Some end → EndsWithin (command_reading command) (Ok command ∷ []) text (length text) earlier end
  ends_in Quit end text earlier h = subst (λ e. EndsWithin (command_reading Quit) (Ok Quit ∷ []) text (length text) earlier e) (let k : ends.Ended false ≡ end = cc in k) (refl, refl, refl)
  ends_in Stop end text earlier h = subst (λ e. EndsWithin (command_reading Stop) (Ok Stop ∷ []) text (length text) earlier e) (let k : ends.Ended true ≡ end = cc in k) (refl, refl, refl)
  ends_in (Ask event) end text earlier h = cc
  ends_in (Plan round) end text earlier h = cc

  pub ends_at : (command : Command) (end : SessionEnd) (before after : D) (had has : Option (List ℕ)) (earlier : ℕ) (text : List ℕ) → ending_stop command ≡ Some end
      → Serves asked limit hops (Ok command ∷ []) before after text → Took had has text → BreaksOff asked limit hops (command_reading command) earlier before after had has end
  ends_at command end before after had has earlier text h serves took = record {
    served = Ok command ∷ [];
    text = text;
    count = length text;
    serves = serves;
    took = subst (λ t. Took had has t) (sym (take_all (length text) text (omega arith))) took;
    so = ends_in command end text earlier h;
  }

  -- a line that is too long
  pub long_breaks : (number : ℕ) (lines : Reading) (desk : D) (told : Option (List ℕ)) (earlier : ℕ) → lines ≡ too_long number → BreaksOff asked limit hops lines earlier desk desk told told (ends.LongLine number)
  long_breaks number lines desk told earlier e = record {
    served = [];
    text = [];
    count = 0;
    serves = serves_nothing desk;
    took = took_none told;
    so = subst (λ r. EndsWithin r [] [] 0 earlier (ends.LongLine number)) (sym e) (refl, refl, refl);
  }

pub goes_past : (command : Command) → ending_stop command ≡ None → command_stop command ≡ None
goes_past (Ask event) h = refl
goes_past (Plan round) h = refl
goes_past Quit h = cc
goes_past Stop h = cc

pub line_says : (number : ℕ) (line : List ℕ) (said : Result (Option Command) LineFault) → length line ≤ most_line_bytes → said ≡ command_of line
    → line_reading number line ≡ record { said = asks said; stop = stop_at said }
line_says number line said short is =
    cond-false _ _ _ (le-ltb most_line_bytes (length line) short) ∙ ap (λ s. record { said = asks s; stop = stop_at s }) (sym is)

pub line_long : (number : ℕ) (line : List ℕ) → most_line_bytes < length line → line_reading number line ≡ too_long number
line_long number line long = cond-true _ _ _ (lt-ltb most_line_bytes (length line) long)
