-- A session at one kind of desk is a session at what each of its desks shows, where an event that is asked is one there too.
--     ends_so_shown    the same of how a session ends, over the bytes that were read
--     session_shown    of the whole session
--     session_keeps    what no event changes, a session leaves as it is
use Rattle.std.proofs.Common.{◌≡◌, ◌∙◌, ℕ, Bool, true, false, List, [], ◌∷◌, ◌++◌, map, Option, Result, Ok, Err, inl, inr, ap, sym, ⊎_elim}
use Rattle.std.proofs.lemmas.List.{map-append}
use Rattle.network_model.specs.Network.{Network}
use Rattle.desk_core.specs.declared.event.Event.{Event}
use Rattle.desk_core.specs.declared.reply.Reply.{Reply}
use Rattle.desk_core.specs.declared.reply.Reply.TheVariants as replies
use Rattle.desk_core.specs.declared.performing.Command.{Command}
use Rattle.desk_core.specs.declared.performing.Command.TheVariants.{Ask, Plan, Quit, Stop}
use Rattle.desk_core.specs.declared.performing.Answer.{Answer}
use Rattle.desk_core.specs.declared.performing.Answer.TheVariants.{Replied, Planned, TableFull, NoMemory, Bye}
use Rattle.desk_core.specs.Asking.{Item, Leads}
use Rattle.session_lines.specs.declared.ends.SessionEnd.{SessionEnd}
use Rattle.session_lines.specs.declared.ends.SessionEnd.TheVariants as ends
use Rattle.session_lines.specs.Readings.{Said, Reading}
use Rattle.session_lines.specs.Serving.{Posting, AfterPinning, Comes, IsAnswered, AreServed, Serves}
use Rattle.session_lines.specs.Sessions.{GoesOn, BreaksOff, ServesWhole, ServesAll, EndsSo, IsSession}

module _ {D V : Type 0} (shown : D → V) where
  abbrev pub item_shown : Item D → Item V
  item_shown item = record { event = item.event; reply = item.reply; after = shown item.after }

  abbrev pub items_shown : List (Item D) → List (Item V)
  items_shown items = map item_shown items

  posting_shown : (limit hops round version : ℕ) (net : Network) (items : List (Item D)) (answer : Answer) → Posting limit hops round version net items answer → Posting limit hops round version net (items_shown items) answer
  posting_shown limit hops round version net [] (TableFull most) h = h
  posting_shown limit hops round version net [] NoMemory h = h
  posting_shown limit hops round version net [] (Planned of pinned plan) h = absurd h
  posting_shown limit hops round version net [] (Replied reply) h = absurd h
  posting_shown limit hops round version net [] Bye h = absurd h
  posting_shown limit hops round version net (post ∷ []) (TableFull most) h = absurd h
  posting_shown limit hops round version net (post ∷ []) NoMemory h = absurd h
  posting_shown limit hops round version net (post ∷ []) (Planned of pinned plan) h = h
  posting_shown limit hops round version net (post ∷ []) (Replied reply) h = h
  posting_shown limit hops round version net (post ∷ []) Bye h = absurd h
  posting_shown limit hops round version net (post ∷ (next ∷ rest)) (TableFull most) h = absurd h
  posting_shown limit hops round version net (post ∷ (next ∷ rest)) NoMemory h = absurd h
  posting_shown limit hops round version net (post ∷ (next ∷ rest)) (Planned of pinned plan) h = absurd h
  posting_shown limit hops round version net (post ∷ (next ∷ rest)) (Replied reply) h = absurd h
  posting_shown limit hops round version net (post ∷ (next ∷ rest)) Bye h = absurd h

  nothing_shown : (items : List (Item D)) → items ≡ [] → items_shown items ≡ []
  nothing_shown items none = ap items_shown none

  after_pin_shown : (limit hops round : ℕ) (reply : Reply) (items : List (Item D)) (answer : Answer) → AfterPinning limit hops round reply items answer → AfterPinning limit hops round reply (items_shown items) answer
  after_pin_shown limit hops round (replies.Pinned version net) items answer h = posting_shown limit hops round version _ items answer h
  after_pin_shown limit hops round (replies.Changed version) items answer h = (nothing_shown items h.0, h.1)
  after_pin_shown limit hops round (replies.Opened opened version) items answer h = (nothing_shown items h.0, h.1)
  after_pin_shown limit hops round (replies.Posted entries) items answer h = (nothing_shown items h.0, h.1)
  after_pin_shown limit hops round replies.Departed items answer h = (nothing_shown items h.0, h.1)
  after_pin_shown limit hops round (replies.Counted verdict) items answer h = (nothing_shown items h.0, h.1)
  after_pin_shown limit hops round (replies.Located report) items answer h = (nothing_shown items h.0, h.1)
  after_pin_shown limit hops round (replies.Closed report) items answer h = (nothing_shown items h.0, h.1)
  after_pin_shown limit hops round (replies.Now version) items answer h = (nothing_shown items h.0, h.1)
  after_pin_shown limit hops round (replies.Refused refusal) items answer h = (nothing_shown items h.0, h.1)
  after_pin_shown limit hops round replies.NoMemory items answer h = (nothing_shown items h.0, h.1)
  after_pin_shown limit hops round replies.Unkept items answer h = (nothing_shown items h.0, h.1)

  comes_shown : (limit hops : ℕ) (command : Command) (items : List (Item D)) (answer : Answer) → Comes limit hops command items answer → Comes limit hops command (items_shown items) answer
  comes_shown limit hops (Ask event) items answer (item, is, asks, replied) = (item_shown item, ap items_shown is, asks, replied)
  comes_shown limit hops (Plan round) items answer (pin, more, is, pins, after) = (item_shown pin, items_shown more, ap items_shown is, pins, after_pin_shown limit hops round pin.reply more answer after)
  comes_shown limit hops Quit items answer h = (nothing_shown items h.0, h.1)
  comes_shown limit hops Stop items answer h = (nothing_shown items h.0, h.1)

  served_shown : (limit hops : ℕ) (said : List Said) (items : List (Item D)) (text : List ℕ) → AreServed limit hops said items text → AreServed limit hops said (items_shown items) text
  served_shown limit hops [] items text h = (nothing_shown items h.0, h.1)
  served_shown limit hops (Err fault ∷ said) items text (rest, is, others) = (rest, is, served_shown limit hops said items rest others)
  served_shown limit hops (Ok command ∷ said) items text (own, others, told, rest, items_are, text_is, answered, more) = (
    items_shown own,
    items_shown others,
    told,
    rest,
    ap items_shown items_are ∙ map-append item_shown own others,
    text_is,
    record { answer = answered.answer; comes = comes_shown limit hops command own answered.answer answered.comes; told = answered.told },
    served_shown limit hops said others rest more,
  )

  -- `Kept` is what each event leaves true of the desk, and may be needed to say what an event is there.
  module _ (Kept : D → Type 0) (asked : D → Event → Reply → D → Type 0) (asked_there : V → Event → Reply → V → Type 0) (step : (before : D) (event : Event) (reply : Reply) (after : D) → Kept before → asked before event reply after → Kept after × asked_there (shown before) event reply (shown after)) (before : D) (kept : Kept before) where
    leads_shown : (between : D) (items : List (Item D)) (after : D) → Kept between → Leads asked between items after → Leads asked_there (shown between) (items_shown items) (shown after)
    leads_shown between [] after so same = ap shown same
    leads_shown between (item ∷ items) after so h =
        let one = step between item.event item.reply item.after so h.0 in
        (one.1, leads_shown item.after items after one.0 h.1)

    serves_shown : (limit hops : ℕ) (said : List Said) (after : D) (text : List ℕ) → Serves asked limit hops said before after text → Serves asked_there limit hops said (shown before) (shown after) text
    serves_shown limit hops said after text h = record {
      items = items_shown h.items;
      leads = leads_shown before h.items after kept h.leads;
      served = served_shown limit hops said h.items text h.served;
    }

    goes_on_shown : (limit hops : ℕ) (lines : Reading) (after : D) (had has : Option (List ℕ)) (text : List ℕ) → GoesOn asked limit hops lines before after had has text → GoesOn asked_there limit hops lines (shown before) (shown after) had has text
    goes_on_shown limit hops lines after had has text h = record { on = h.on; serves = serves_shown limit hops lines.said after text h.serves; took = h.took }

    breaks_off_shown : (limit hops : ℕ) (lines : Reading) (earlier : ℕ) (after : D) (had has : Option (List ℕ)) (end : SessionEnd) → BreaksOff asked limit hops lines earlier before after had has end
        → BreaksOff asked_there limit hops lines earlier (shown before) (shown after) had has end
    breaks_off_shown limit hops lines earlier after had has end h = record {
      served = h.served;
      text = h.text;
      count = h.count;
      serves = serves_shown limit hops h.served after h.text h.serves;
      took = h.took;
      so = h.so;
    }

    whole_shown : (limit hops : ℕ) (bytes : List ℕ) (after : D) (had has : Option (List ℕ)) → ServesWhole asked limit hops bytes before after had has → ServesWhole asked_there limit hops bytes (shown before) (shown after) had has
    whole_shown limit hops bytes after had has h = record { text = h.text; goes_on = goes_on_shown limit hops _ after had has h.text h.goes_on; short = h.short }

    all_shown : (limit hops : ℕ) (bytes : List ℕ) (after : D) (had has : Option (List ℕ)) → ServesAll asked limit hops bytes before after had has → ServesAll asked_there limit hops bytes (shown before) (shown after) had has
    all_shown limit hops bytes after had has h = record { text = h.text; goes_on = goes_on_shown limit hops _ after had has h.text h.goes_on }

    pub ends_so_shown : (limit hops : ℕ) (bytes : List ℕ) (at_end : Bool) (after : D) (had has : Option (List ℕ)) (end : SessionEnd) → EndsSo asked limit hops bytes at_end before after had has end
        → EndsSo asked_there limit hops bytes at_end (shown before) (shown after) had has end
    ends_so_shown limit hops bytes at_end after had has (ends.Ended stop) h =
        ⊎_elim
        (λ broke. inl (breaks_off_shown limit hops _ 0 after had has (ends.Ended stop) broke))
        (λ whole. inr (whole.0, whole.1, all_shown limit hops bytes after had has whole.2))
        h
    ends_so_shown limit hops bytes at_end after had has ends.ReadFault h = whole_shown limit hops bytes after had has h
    ends_so_shown limit hops bytes at_end after had has ends.Spent h = (whole_shown limit hops bytes after had has h.0, h.1)
    ends_so_shown limit hops bytes at_end after had has (ends.LongLine line) h = breaks_off_shown limit hops _ 0 after had has (ends.LongLine line) h
    ends_so_shown limit hops bytes at_end after had has (ends.WriteFault written) h = breaks_off_shown limit hops _ 0 after had has (ends.WriteFault written) h
    ends_so_shown limit hops bytes at_end after had has ends.NoMemory h = breaks_off_shown limit hops _ 0 after had has ends.NoMemory h

    pub session_shown : {S : Type 0} (left : S → Option (List ℕ)) (given told_ends : S → ℕ) (taken : S → Option (List ℕ)) (limit hops : ℕ) (after : D) (line line_after : S) (end : SessionEnd)
        → IsSession asked left given told_ends taken limit hops before after line line_after end
        → IsSession asked_there left given told_ends taken limit hops (shown before) (shown after) line line_after end
    session_shown left given told_ends taken limit hops after line line_after end h = record {
      bytes = h.bytes;
      at_end = h.at_end;
      source = h.source;
      so = ends_so_shown limit hops h.bytes h.at_end after (taken line) (taken line_after) end h.so;
    }

-- What no event changes stays through a session.
module _ {D X : Type 0} (kept : D → X) (asked : D → Event → Reply → D → Type 0) (step : (before : D) (event : Event) (reply : Reply) (after : D) → asked before event reply after → kept after ≡ kept before) where
  leads_keeps : (before : D) (items : List (Item D)) (after : D) → Leads asked before items after → kept after ≡ kept before
  leads_keeps before [] after same = sym (ap kept same)
  leads_keeps before (item ∷ items) after h = leads_keeps item.after items after h.1 ∙ step before item.event item.reply item.after h.0

  ends_so_keeps : (limit hops : ℕ) (bytes : List ℕ) (at_end : Bool) (before after : D) (had has : Option (List ℕ)) (end : SessionEnd) → EndsSo asked limit hops bytes at_end before after had has end → kept after ≡ kept before
  ends_so_keeps limit hops bytes at_end before after had has (ends.Ended stop) h =
      ⊎_elim (λ broke. leads_keeps before broke.serves.items after broke.serves.leads) (λ whole. leads_keeps before whole.2.goes_on.serves.items after whole.2.goes_on.serves.leads) h
  ends_so_keeps limit hops bytes at_end before after had has ends.ReadFault h = leads_keeps before h.goes_on.serves.items after h.goes_on.serves.leads
  ends_so_keeps limit hops bytes at_end before after had has ends.Spent h = leads_keeps before h.0.goes_on.serves.items after h.0.goes_on.serves.leads
  ends_so_keeps limit hops bytes at_end before after had has (ends.LongLine line) h = leads_keeps before h.serves.items after h.serves.leads
  ends_so_keeps limit hops bytes at_end before after had has (ends.WriteFault written) h = leads_keeps before h.serves.items after h.serves.leads
  ends_so_keeps limit hops bytes at_end before after had has ends.NoMemory h = leads_keeps before h.serves.items after h.serves.leads

  pub session_keeps : {S : Type 0} (left : S → Option (List ℕ)) (given told_ends : S → ℕ) (taken : S → Option (List ℕ)) (limit hops : ℕ) (before after : D) (line line_after : S) (end : SessionEnd)
      → IsSession asked left given told_ends taken limit hops before after line line_after end → kept after ≡ kept before
  session_keeps left given told_ends taken limit hops before after line line_after end h = ends_so_keeps limit hops h.bytes h.at_end before after (taken line) (taken line_after) end h.so
