-- The reply of a desk fits the event.
use Rattle.std.specs.Prelude.{◌≡◌, ℕ, nat_le, Bool, true, false, not, List, [], ◌∷◌, length, Option, None, Some, is_none, Contains, if◌then◌else◌}
use Rattle.std.specs.Option.{option_map}
use Rattle.std.proofs.Common.{refl, sym, subst, arith}
use Rattle.network_model.specs.Network.{Network, value_at}
use Rattle.network_model.specs.Plan.{Plan}
use Rattle.net_types.specs.Refusals as parts
use Rattle.net_versions.specs.declared.change.Change.{Change as Changed_by}
use Rattle.net_versions.specs.declared.change.Change.TheVariants.{Add, Cut}
use Rattle.net_versions.specs.Changes.{change_refusal}
use Rattle.suspect_book.specs.declared.verdict.Verdict.{Verdict}
use Rattle.desk_core.specs.declared.event.Event.{Event}
use Rattle.desk_core.specs.declared.event.Event.TheVariants as events
use Rattle.desk_core.specs.declared.event.LoggedEvent.{LoggedEvent}
use Rattle.desk_core.specs.declared.reply.Refusal.{Refusal}
use Rattle.desk_core.specs.declared.reply.Refusal.TheVariants as refusals
use Rattle.desk_core.specs.declared.reply.Reply.{Reply}
use Rattle.desk_core.specs.declared.reply.Reply.TheVariants as replies
use Rattle.desk_core.specs.Past.{Past, past_of}
use Rattle.desk_core.specs.Versions.{now}
use Rattle.desk_core.specs.Rounds.{most_open, open_rounds, is_open, is_posted}
use Rattle.desk_core.specs.Counting.{is_entry, is_caller, sender, counted}
use Rattle.desk_core.specs.Refusals.{when, first_of, no_round, no_plan, already_posted, wrong_snapshot, no_entry, moved, already_counted, not_sent, fault_of, refusal}
use Rattle.desk_core.specs.Replies as values
use Rattle.desk_core.specs.Replies.{ReplyValue, reply_value, granted, unless_refused, reply_of}
use Rattle.desk_core.specs.Applying.{logged_with, IsEntered, Applied}
use Rattle.desk_core.specs.Asking.{Kind, Changing, Opening, Pinning, Posting, Departing, Arriving, Locating, Closing, Telling, kind_of, refused_kinds, FitsEvent}
use Rattle.desk_core.specs.DeskValue.{DeskValue, is_full}

abbrev FitsValue : Event → ReplyValue → Type 0
FitsValue event (values.Changed version) = kind_of event ≡ Changing
FitsValue event (values.Opened round version) = kind_of event ≡ Opening
FitsValue event (values.Pinned version net) = kind_of event ≡ Pinning
FitsValue event (values.Posted entries) = kind_of event ≡ Posting
FitsValue event values.Departed = kind_of event ≡ Departing
FitsValue event (values.Counted verdict) = kind_of event ≡ Arriving
FitsValue event (values.Located found) = kind_of event ≡ Locating
FitsValue event (values.Closed found) = kind_of event ≡ Closing
FitsValue event (values.Now version) = kind_of event ≡ Telling
FitsValue event (values.Refused why) = Contains (refused_kinds why) (kind_of event)
FitsValue event values.NoMemory = Unit {0}
FitsValue event values.Unkept = Unit {0}

fits_event : (event : Event) (reply : Reply) → FitsValue event (reply_value reply) → FitsEvent event reply
fits_event event (replies.Changed version) h = h
fits_event event (replies.Opened round version) h = h
fits_event event (replies.Pinned version net) h = h
fits_event event (replies.Posted entries) h = h
fits_event event replies.Departed h = h
fits_event event (replies.Counted verdict) h = h
fits_event event (replies.Located report) h = h
fits_event event (replies.Closed report) h = h
fits_event event (replies.Now version) h = h
fits_event event (replies.Refused why) h = h
fits_event event replies.NoMemory h = h
fits_event event replies.Unkept h = h

abbrev Allowed : Kind → Option Refusal → Type 0
Allowed kind None = Unit {0}
Allowed kind (Some why) = Contains (refused_kinds why) kind

abbrev AllAllowed : Kind → List (Option Refusal) → Type 0
AllAllowed kind [] = Unit {0}
AllAllowed kind (o ∷ os) = Allowed kind o × AllAllowed kind os

first_allowed : (kind : Kind) (os : List (Option Refusal)) → AllAllowed kind os → Allowed kind (first_of os)
first_allowed kind [] h = tt
first_allowed kind (None ∷ os) h = first_allowed kind os h.1
first_allowed kind (Some why ∷ os) h = h.0

when_allowed : (kind : Kind) (b : Bool) (why : Refusal) → Contains (refused_kinds why) kind → Allowed kind (when b why)
when_allowed kind true why c = c
when_allowed kind false why c = tt

counted_allowed : (kind : Kind) (o : Option Verdict) → ((v : Verdict) → Contains (refused_kinds (refusals.AlreadyCounted v)) kind) → Allowed kind (option_map refusals.AlreadyCounted o)
counted_allowed kind None c = tt
counted_allowed kind (Some v) c = c v

rule_allowed : (a b c d : Bool) → Allowed Changing (option_map (λ why. refusals.Rule (fault_of why)) (parts.first_of ((a, parts.Twice) ∷ (b, parts.Unknown) ∷ (c, parts.Limit) ∷ (d, parts.Width) ∷ [])))
rule_allowed true b c d = (0, omega arith, refl)
rule_allowed false true c d = (0, omega arith, refl)
rule_allowed false false true d = (0, omega arith, refl)
rule_allowed false false false true = (0, omega arith, refl)
rule_allowed false false false false = tt

cut_allowed : (b : Bool) → Allowed Changing (option_map (λ why. refusals.Rule (fault_of why)) (parts.first_of ((b, parts.Unknown) ∷ [])))
cut_allowed true = (0, omega arith, refl)
cut_allowed false = tt

change_allowed : (net : Network) (change : Changed_by) → Allowed Changing (option_map (λ why. refusals.Rule (fault_of why)) (change_refusal net change))
change_allowed net (Add rule) = rule_allowed _ _ _ _
change_allowed net (Cut id) = cut_allowed (is_none (value_at net.rules id))

allowed : (opening : Network) (n : ℕ) (past : Past) (caller : ℕ) (event : Event) (fits : Bool) → Allowed (kind_of event) (refusal opening n past caller (logged_with event fits))
allowed opening n past caller (events.Change change) fits = change_allowed (now opening past).net change
allowed opening n past caller events.OpenRound fits = when_allowed Opening (nat_le most_open (length (open_rounds past))) refusals.RoundsFull (0, omega arith, refl)
allowed opening n past caller (events.Pin round) fits = when_allowed Pinning (not (is_open past round)) (refusals.NoRound round) (0, omega arith, refl)
allowed opening n past caller (events.Post round plan) fits =
    first_allowed Posting (no_round past round ∷ already_posted past round ∷ wrong_snapshot round fits ∷ []) (
      when_allowed Posting (not (is_open past round)) (refusals.NoRound round) (1, omega arith, refl),
      (
        when_allowed Posting (is_posted past round) (refusals.AlreadyPosted round) (0, omega arith, refl),
        (when_allowed Posting (not fits) (refusals.WrongSnapshot round) (0, omega arith, refl), tt),
      ),
    )
allowed opening n past caller (events.Depart round entry) fits =
    first_allowed Departing (no_round past round ∷ no_plan past round ∷ no_entry n entry ∷ moved opening past round ∷ already_counted opening n past round entry ∷ []) (
      when_allowed Departing (not (is_open past round)) (refusals.NoRound round) (2, omega arith, refl),
      (
        when_allowed Departing (not (is_posted past round)) (refusals.NoPlan round) (0, omega arith, refl),
        (
          when_allowed Departing (not (is_entry n entry)) (refusals.NoEntry entry) (0, omega arith, refl),
          (
            when_allowed Departing _ _ (0, omega arith, refl),
            (counted_allowed Departing (counted opening n past round entry) (λ v. (0, omega arith, refl)), tt),
          ),
        ),
      ),
    )
allowed opening n past caller (events.Arrive round entry verdict) fits =
    first_allowed Arriving (no_round past round ∷ no_plan past round ∷ no_entry n entry ∷ moved opening past round ∷ already_counted opening n past round entry ∷ not_sent opening n past caller round entry ∷ []) (
      when_allowed Arriving (not (is_open past round)) (refusals.NoRound round) (3, omega arith, refl),
      (
        when_allowed Arriving (not (is_posted past round)) (refusals.NoPlan round) (1, omega arith, refl),
        (
          when_allowed Arriving (not (is_entry n entry)) (refusals.NoEntry entry) (1, omega arith, refl),
          (
            when_allowed Arriving _ _ (1, omega arith, refl),
            (
              counted_allowed Arriving (counted opening n past round entry) (λ v. (1, omega arith, refl)),
              (when_allowed Arriving (not (is_caller (sender opening n past round entry) caller)) refusals.NotSent (0, omega arith, refl), tt),
            ),
          ),
        ),
      ),
    )
allowed opening n past caller (events.Locate round) fits =
    first_allowed Locating (no_round past round ∷ no_plan past round ∷ [])
    (when_allowed Locating (not (is_open past round)) (refusals.NoRound round) (4, omega arith, refl), (when_allowed Locating (not (is_posted past round)) (refusals.NoPlan round) (2, omega arith, refl), tt))
allowed opening n past caller (events.Close round) fits = when_allowed Closing (not (is_open past round)) (refusals.NoRound round) (5, omega arith, refl)
allowed opening n past caller events.Current fits = tt

granted_fits : (opening : Network) (plan : Plan) (past : Past) (event : Event) (fits : Bool) → FitsValue event (granted opening plan past (logged_with event fits))
granted_fits opening plan past (events.Change change) fits = refl
granted_fits opening plan past events.OpenRound fits = refl
granted_fits opening plan past (events.Pin round) fits = refl
granted_fits opening plan past (events.Post round p) fits = refl
granted_fits opening plan past (events.Depart round entry) fits = refl
granted_fits opening plan past (events.Arrive round entry verdict) fits = refl
granted_fits opening plan past (events.Locate round) fits = refl
granted_fits opening plan past (events.Close round) fits = refl
granted_fits opening plan past events.Current fits = refl

replied_fits : (event : Event) (o : Option Refusal) (g : ReplyValue) → Allowed (kind_of event) o → FitsValue event g → FitsValue event (unless_refused o g)
replied_fits event None g a f = f
replied_fits event (Some why) g a f = a

stored_fits : (event : Event) (b : Bool) (r : ReplyValue) → FitsValue event r → FitsValue event (if b then r else values.NoMemory)
stored_fits event true r f = f
stored_fits event false r f = tt

full_fits : (event : Event) (room : ℕ) → FitsEvent event (replies.Refused (refusals.LogFull room))
full_fits (events.Change change) room = (0, omega arith, refl)
full_fits events.OpenRound room = (1, omega arith, refl)
full_fits (events.Pin round) room = (2, omega arith, refl)
full_fits (events.Post round plan) room = (3, omega arith, refl)
full_fits (events.Depart round entry) room = (4, omega arith, refl)
full_fits (events.Arrive round entry verdict) room = (5, omega arith, refl)
full_fits (events.Locate round) room = (6, omega arith, refl)
full_fits (events.Close round) room = (7, omega arith, refl)
full_fits events.Current room = (8, omega arith, refl)

entered_fits : (before : DeskValue) (caller : ℕ) (event : Event) (reply : Reply) (after : DeskValue) → IsEntered before caller event reply after → FitsEvent event reply
entered_fits before caller event reply after e =
    let past = past_of before.log in
    let V : ReplyValue → Type 0 = λ r. FitsValue event r in
    let E : LoggedEvent → Type 0 = λ x. FitsValue event (reply_of before.opening e.plan past caller x) in
    let own : E (logged_with event e.fits) =
    replied_fits event (refusal before.opening (length e.plan.table) past caller (logged_with event e.fits)) (granted before.opening e.plan past (logged_with event e.fits))
    (allowed before.opening (length e.plan.table) past caller event e.fits) (granted_fits before.opening e.plan past event e.fits) in
    fits_event event reply (subst V (sym e.replied) (stored_fits event e.entry.stored (reply_of before.opening e.plan past caller e.entry.event) (subst E (sym e.logged) own)))

by_fullness : (before : DeskValue) (caller : ℕ) (event : Event) (reply : Reply) (after : DeskValue) → Applied before caller event reply after → (b : Bool) → is_full before ≡ b → FitsEvent event reply
by_fullness before caller event reply after a true full =
    let R : Reply → Type 0 = λ r. FitsEvent event r in
    subst R (sym (a.full full).0) (full_fits event before.room)
by_fullness before caller event reply after a false full = entered_fits before caller event reply after (a.entered full)

pub applied_fits : (before : DeskValue) (caller : ℕ) (event : Event) (reply : Reply) (after : DeskValue) → Applied before caller event reply after → FitsEvent event reply
applied_fits before caller event reply after a = by_fullness before caller event reply after a (is_full before) refl
