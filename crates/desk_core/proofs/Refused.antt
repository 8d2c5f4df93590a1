-- When packets are refused.
use Rattle.std.specs.Prelude.{◌≡◌, ℕ, Bool, true, false, not, ◌&&◌, List, [], ◌∷◌, length, Option, None, Some}
use Rattle.std.specs.Option.{option_map}
use Rattle.std.proofs.Common.{refl, sym, ap, ◌∙◌}
use Rattle.std.proofs.lemmas.Option.{none-some}
use Rattle.network_model.specs.Network.{Network}
use Rattle.network_model.specs.Plan.{Plan}
use Rattle.net_versions.specs.VersionsValue.{VersionsValue}
use Rattle.suspect_book.specs.declared.verdict.Verdict.{Verdict}
use Rattle.suspect_book.specs.Verdicts.{verdict_at}
use Rattle.desk_core.specs.declared.event.LoggedEvent.TheVariants.{Depart, Arrive}
use Rattle.desk_core.specs.declared.reply.Refusal.{Refusal}
use Rattle.desk_core.specs.declared.reply.Refusal.TheVariants.{NoRound, NoPlan, NoEntry, Moved, AlreadyCounted, NotSent}
use Rattle.desk_core.specs.Past.{Past}
use Rattle.desk_core.specs.Versions.{now}
use Rattle.desk_core.specs.Rounds.{is_open, is_posted, is_current, at_opening}
use Rattle.desk_core.specs.Counting.{is_entry, is_live, is_caller, counted}
use Rattle.desk_core.specs.Refusals.{when, first_of, no_round, no_plan, no_entry, moved, moved_between, already_counted, not_sent, refusal}
use Rattle.desk_core.specs.RoundsValue.{PostedValue, sender_at}
use Rattle.desk_core.specs.Keeping.{IsPosted, IsPlanned, depart_refusal, arrive_refusal}
use Rattle.desk_core.proofs.Counts.{and_left, and_right, verdict_at-verdicts}
use Rattle.desk_core.proofs.Kept.{entry_some, entry_inside}

pub first_none : (x : Option Refusal) (rest : List (Option Refusal)) → first_of (x ∷ rest) ≡ None → (x ≡ None) × (first_of rest ≡ None)
first_none None rest h = (refl, h)
first_none (Some why) rest h = absurd (none-some why (sym h))

pub not_when : (b : Bool) (why : Refusal) → when (not b) why ≡ None → b ≡ true
not_when true why h = refl
not_when false why h = absurd (none-some why (sym h))

pub passed : (b : Bool) (why : Refusal) (rest : List (Option Refusal)) → b ≡ true → first_of (when (not b) why ∷ rest) ≡ first_of rest
passed b why rest h = ap (λ b. first_of (when (not b) why ∷ rest)) h

pub stopped : (b : Bool) (why : Refusal) (rest : List (Option Refusal)) → b ≡ false → first_of (when (not b) why ∷ rest) ≡ Some why
stopped b why rest h = ap (λ b. first_of (when (not b) why ∷ rest)) h

pub later : (x : Option Refusal) (xs ys : List (Option Refusal)) → first_of xs ≡ first_of ys → first_of (x ∷ xs) ≡ first_of (x ∷ ys)
later None xs ys h = h
later (Some why) xs ys h = refl

guarded : (b : Bool) (why : Refusal) (xs ys : List (Option Refusal)) → (b ≡ true → first_of xs ≡ first_of ys) → first_of (when (not b) why ∷ xs) ≡ first_of (when (not b) why ∷ ys)
guarded true why xs ys h = h refl
guarded false why xs ys h = refl

unless_counted : (o : Option Verdict) (xs ys : List (Option Refusal)) → (o ≡ None → first_of xs ≡ first_of ys) → first_of (option_map AlreadyCounted o ∷ xs) ≡ first_of (option_map AlreadyCounted o ∷ ys)
unless_counted None xs ys h = h refl
unless_counted (Some v) xs ys h = refl

pub none_counted : (o : Option Verdict) → option_map AlreadyCounted o ≡ None → o ≡ None
none_counted None h = refl
none_counted (Some v) h = absurd (none-some (AlreadyCounted v) (sym h))

abbrev pub packet_tail : Network → ℕ → Past → ℕ → ℕ → List (Option Refusal) → List (Option Refusal)
packet_tail opening n past round e more =
    no_entry n e ∷ moved opening past round ∷ already_counted opening n past round e ∷ more

abbrev pub packet_refusals : Network → ℕ → Past → ℕ → ℕ → List (Option Refusal) → List (Option Refusal)
packet_refusals opening n past round e more = no_round past round ∷ no_plan past round ∷ packet_tail opening n past round e more

all_true : (a b c d : Bool) → a ≡ true → b ≡ true → c ≡ true → d ≡ true → (a && (b && (c && d))) ≡ true
all_true true true true true ha hb hc hd = refl
all_true true true true false ha hb hc hd = hd
all_true true true false d ha hb hc hd = hc
all_true true false c d ha hb hc hd = hb
all_true false b c d ha hb hc hd = ha

-- no refusal of a packet, up to the verdict
pub packet_free : (opening : Network) (n : ℕ) (past : Past) (round e : ℕ) (more : List (Option Refusal)) → first_of (packet_refusals opening n past round e more) ≡ None
    → (is_live opening n past round e ≡ true) × (counted opening n past round e ≡ None) × (first_of more ≡ None)
packet_free opening n past round e more h =
    let a = first_none (no_round past round) (no_plan past round ∷ packet_tail opening n past round e more) h in
    let b = first_none (no_plan past round) (packet_tail opening n past round e more) a.1 in
    let c = first_none (no_entry n e) (moved opening past round ∷ already_counted opening n past round e ∷ more) b.1 in
    let d = first_none (moved opening past round) (already_counted opening n past round e ∷ more) c.1 in
    let f = first_none (already_counted opening n past round e) more d.1 in
    let there = not_when (is_open past round) (NoRound round) a.0 in
    let posted = not_when (is_posted past round) (NoPlan round) b.0 in
    let some = not_when (is_entry n e) (NoEntry e) c.0 in
    let current = not_when (is_current opening past round) (Moved (at_opening opening past round).version (now opening past).version) d.0 in (
      all_true (is_open past round) (is_posted past round) (is_current opening past round) (is_entry n e) there posted current some,
      none_counted (counted opening n past round e) f.0,
      f.1,
    )

-- the other way
pub packet_granted : (opening : Network) (n : ℕ) (past : Past) (round e : ℕ) (more : List (Option Refusal)) → is_live opening n past round e ≡ true → counted opening n past round e ≡ None
    → first_of (packet_refusals opening n past round e more) ≡ first_of more
packet_granted opening n past round e more live none =
    let rest = is_posted past round && (is_current opening past round && is_entry n e) in
    let rest2 = is_current opening past round && is_entry n e in
    let there = and_left (is_open past round) rest live in
    let l2 = and_right (is_open past round) rest live in
    let posted = and_left (is_posted past round) rest2 l2 in
    let l3 = and_right (is_posted past round) rest2 l2 in
    let current = and_left (is_current opening past round) (is_entry n e) l3 in
    let some = and_right (is_current opening past round) (is_entry n e) l3 in
    passed (is_open past round) (NoRound round) (no_plan past round ∷ packet_tail opening n past round e more) there
    ∙ (passed (is_posted past round) (NoPlan round) (packet_tail opening n past round e more) posted
    ∙ (passed (is_entry n e) (NoEntry e) (moved opening past round ∷ already_counted opening n past round e ∷ more) some
    ∙ (passed (is_current opening past round) (Moved (at_opening opening past round).version (now opening past).version) (already_counted opening n past round e ∷ more) current
    ∙ ap (λ o. first_of (option_map AlreadyCounted o ∷ more)) none)))

-- the plan of a round, if it has one
abbrev pub plan_of : Option PostedValue → Plan
plan_of None = record { table = []; probes = [] }
plan_of (Some p) = p.plan.plan

-- what is kept of a round tells its refusals
packet_same : (opening : Network) (hops : ℕ) (past : Past) (round : ℕ) (pinned : VersionsValue) (p : PostedValue) (e : ℕ) (xs ys : List (Option Refusal)) → pinned ≡ at_opening opening past round → IsPosted opening hops past round p
    → (is_entry (length p.plan.plan.table) e ≡ true → counted opening (length p.plan.plan.table) past round e ≡ None → first_of xs ≡ first_of ys)
    → first_of (packet_tail opening (length p.plan.plan.table) past round e xs)
    ≡ first_of (no_entry (length p.plan.plan.table) e ∷ moved_between pinned.version (now opening past).version ∷ option_map AlreadyCounted (verdict_at p.verdicts e) ∷ ys)
packet_same opening hops past round pinned p e xs ys is k more =
    let n = length p.plan.plan.table in
    let version = (now opening past).version in
    guarded (is_entry n e) (NoEntry e) (moved opening past round ∷ already_counted opening n past round e ∷ xs) (moved_between pinned.version version ∷ option_map AlreadyCounted (verdict_at p.verdicts e) ∷ ys)
    (λ some.
    let told : counted opening n past round e ≡ verdict_at p.verdicts e =
    sym (ap (λ l. verdict_at l e) k.verdicts_are ∙ verdict_at-verdicts opening n past round e (entry_some n e some) (entry_inside n e some)) in
    ap (λ w. first_of (moved_between w.version version ∷ already_counted opening n past round e ∷ xs)) (sym is)
    ∙ later (moved_between pinned.version version) (already_counted opening n past round e ∷ xs) (option_map AlreadyCounted (verdict_at p.verdicts e) ∷ ys)
    (unless_counted (counted opening n past round e) xs ys (more some) ∙ ap (λ o. first_of (option_map AlreadyCounted o ∷ ys)) told))

pub depart_same : (opening : Network) (hops : ℕ) (past : Past) (caller round : ℕ) (pinned : VersionsValue) (posted : Option PostedValue) (e : ℕ) → is_open past round ≡ true → pinned ≡ at_opening opening past round
    → IsPlanned opening hops past round posted
    → refusal opening (length (plan_of posted).table) past caller (Depart round e) ≡ depart_refusal (record { number = round; pinned = pinned; posted = posted }) (now opening past).version e
depart_same opening hops past caller round pinned None e there is k =
    passed (is_open past round) (NoRound round) (no_plan past round ∷ packet_tail opening 0 past round e []) there
    ∙ stopped (is_posted past round) (NoPlan round) (packet_tail opening 0 past round e []) k
depart_same opening hops past caller round pinned (Some p) e there is k =
    passed (is_open past round) (NoRound round) (no_plan past round ∷ packet_tail opening (length p.plan.plan.table) past round e []) there
    ∙ (passed (is_posted past round) (NoPlan round) (packet_tail opening (length p.plan.plan.table) past round e []) k.there
    ∙ packet_same opening hops past round pinned p e [] [] is k (λ some none. refl))

pub arrive_same : (opening : Network) (hops : ℕ) (past : Past) (caller round : ℕ) (pinned : VersionsValue) (posted : Option PostedValue) (e : ℕ) (v : Verdict) → is_open past round ≡ true → pinned ≡ at_opening opening past round
    → IsPlanned opening hops past round posted
    → refusal opening (length (plan_of posted).table) past caller (Arrive round e v) ≡ arrive_refusal (record { number = round; pinned = pinned; posted = posted }) (now opening past).version caller e
arrive_same opening hops past caller round pinned None e v there is k =
    let sent = not_sent opening 0 past caller round e ∷ [] in
    passed (is_open past round) (NoRound round) (no_plan past round ∷ packet_tail opening 0 past round e sent) there
    ∙ stopped (is_posted past round) (NoPlan round) (packet_tail opening 0 past round e sent) k
arrive_same opening hops past caller round pinned (Some p) e v there is k =
    let n = length p.plan.plan.table in
    let sent = not_sent opening n past caller round e ∷ [] in
    let kept = when (not (is_caller (sender_at p.senders e) caller)) NotSent ∷ [] in
    passed (is_open past round) (NoRound round) (no_plan past round ∷ packet_tail opening n past round e sent) there
    ∙ (passed (is_posted past round) (NoPlan round) (packet_tail opening n past round e sent) k.there
    ∙ packet_same opening hops past round pinned p e sent kept is k
    (λ some none. ap (λ o. first_of (when (not (is_caller o caller)) NotSent ∷ [])) (sym (k.senders_are e some none))))
