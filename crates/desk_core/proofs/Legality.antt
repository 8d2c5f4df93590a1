-- A history that one entry is added to, and how large what is kept may be.
use Rattle.std.specs.Prelude.{◌≡◌, ℕ, suc, ◌+◌, ◌<◌, ◌≤◌, nat_lt, Bool, true, false, ◌&&◌, ◌||◌, List, [], ◌∷◌, ◌++◌, length, Option, None, Some, IsTrue, if◌then◌else◌}
use Rattle.std.specs.List.{list_all}
use Rattle.std.proofs.Common.{refl, ap, arith}
use Rattle.std.proofs.lemmas.List.{length-append, length-reverse, reverse-append}
use Rattle.network_model.specs.Network.{Network}
use Rattle.net_types.specs.Refusals as parts
use Rattle.net_versions.specs.declared.change.Change.{Change as Changing}
use Rattle.net_versions.specs.Changes.{change_refusal}
use Rattle.net_versions.specs.VersionsValue.{VersionsValue}
use Rattle.desk_core.specs.declared.event.Event.{Event}
use Rattle.desk_core.specs.declared.event.Event.TheVariants as events
use Rattle.desk_core.specs.declared.event.Logged.{Logged}
use Rattle.desk_core.specs.Past.{Past, past_of, moments}
use Rattle.desk_core.specs.Events.{change_of, opens}
use Rattle.desk_core.specs.Versions.{now, changed_by, unless_refused}
use Rattle.desk_core.specs.Rounds.{most_open, openings, open_rounds}
use Rattle.desk_core.specs.Legal.{IsLegal, is_legal_at, fits_open, may_lack_memory}
use Rattle.desk_core.specs.Replies.{ReplyValue, is_kept}
use Rattle.desk_core.specs.Applying.{IsFit, logged_with}
use Rattle.desk_core.specs.Keeping.{entry_of, Mirrors}
use Rattle.desk_core.specs.RoundsValue.{RoundsValue}

pub past_of-append : (log : List Logged) (entry : Logged) → past_of (log ++ entry ∷ []) ≡ entry ∷ past_of log
past_of-append log entry = reverse-append log (entry ∷ [])

open_if_fits : (opening : Network) (hops : ℕ) (past : Past) (event : Event) (fits : Bool) → IsFit opening hops past event fits → fits_open past (logged_with event fits) ≡ true
open_if_fits opening hops past (events.Change change) fits fit = refl
open_if_fits opening hops past events.OpenRound fits fit = refl
open_if_fits opening hops past (events.Pin round) fits fit = refl
open_if_fits opening hops past (events.Post round plan) true fit = (fit.0 refl).open_there
open_if_fits opening hops past (events.Post round plan) false fit = refl
open_if_fits opening hops past (events.Depart round entry) fits fit = refl
open_if_fits opening hops past (events.Arrive round entry verdict) fits fit = refl
open_if_fits opening hops past (events.Locate round) fits fit = refl
open_if_fits opening hops past (events.Close round) fits fit = refl
open_if_fits opening hops past events.Current fits fit = refl

both : (a b : Bool) → a ≡ true → b ≡ true → (a && b) ≡ true
both true b ha hb = hb
both false b ha hb = ha

pub legal_next : (opening : Network) (hops : ℕ) (past : Past) (caller : ℕ) (event : Event) (fits : Bool) (reply : ReplyValue) → IsLegal past → IsFit opening hops past event fits
    → IsTrue (is_kept reply || may_lack_memory (logged_with event fits)) → IsLegal (entry_of caller (logged_with event fits) reply ∷ past)
legal_next opening hops past caller event fits reply legal fit kept =
    both (is_legal_at (record { entry = entry_of caller (logged_with event fits) reply; past = past })) (list_all is_legal_at (moments past))
    (both (is_kept reply || may_lack_memory (logged_with event fits)) (fits_open past (logged_with event fits)) kept (open_if_fits opening hops past event fits fit)) legal

unless_short : (v : VersionsValue) (change : Changing) (o : Option parts.Refusal) → (unless_refused v change o).version ≤ suc v.version
unless_short v change None = omega arith
unless_short v change (Some why) = omega arith

change_short : (v : VersionsValue) (o : Option Changing) → (changed_by v o).version ≤ suc v.version
change_short v None = omega arith
change_short v (Some change) = unless_short v change (change_refusal v.net change)

pub version_short : (opening : Network) (past : Past) → (now opening past).version ≤ length past
version_short opening [] = omega arith
version_short opening (entry ∷ past) = let l = version_short opening past in let s = change_short (now opening past) (change_of entry) in omega (arith, l, s)

opened_short : (b : Bool) (opened : List Past) (past : Past) → length (if b then opened ++ past ∷ [] else opened) ≤ suc (length opened)
opened_short true opened past = omega (arith, length-append opened (past ∷ []))
opened_short false opened past = omega arith

pub openings_short : (past : Past) → length (openings past) ≤ length past
openings_short [] = omega arith
openings_short (entry ∷ past) =
    let l = openings_short past in
    let s = opened_short (opens entry && nat_lt (length (open_rounds past)) most_open) (openings past) past in
    omega (arith, l, s)

-- the log is below its room, which is below 2 ^ 32 - 1
pub version_fits : (opening : Network) (hops room : ℕ) (log : List Logged) (v : RoundsValue) → Mirrors opening hops (past_of log) v → length log ≤ room → room ≤ 4194304 → v.now.version + 1 < 4294967296
version_fits opening hops room log v m within most =
    let e : v.now.version ≡ (now opening (past_of log)).version = ap (λ (w : VersionsValue). w.version) m.now_is in
    let l = version_short opening (past_of log) in
    let r : length (past_of log) ≡ length log = length-reverse log in
    omega (arith, e, l, r, within, most)

pub opened_fits : (opening : Network) (hops room : ℕ) (log : List Logged) (v : RoundsValue) → Mirrors opening hops (past_of log) v → length log ≤ room → room ≤ 4194304 → v.opened + 1 < 4294967296
opened_fits opening hops room log v m within most =
    let l = openings_short (past_of log) in
    let r : length (past_of log) ≡ length log = length-reverse log in
    omega (arith, m.opened_are, l, r, within, most)
