-- What a report on a round tells.
use Rattle.std.specs.Prelude.{◌≡◌, ℕ, Bool, true, false, [], ◌∷◌, length, Option, None, Some, if◌then◌else◌}
use Rattle.std.specs.Bool.{MatchBool}
use Rattle.std.proofs.Common.{refl, sym}
use Rattle.network_model.specs.Network.{Network}
use Rattle.network_model.specs.Plan.{Plan}
use Rattle.fault_model.specs.Findings.{Findings}
use Rattle.desk_core.specs.declared.event.LoggedEvent.TheVariants.{Locate, Close}
use Rattle.desk_core.specs.declared.reply.Refusal.{Refusal}
use Rattle.desk_core.specs.declared.reply.Refusal.TheVariants.{NoRound, NoPlan}
use Rattle.desk_core.specs.Past.{Past}
use Rattle.desk_core.specs.Rounds.{is_open, is_posted}
use Rattle.desk_core.specs.Refusals.{no_round, no_plan, refusal}
use Rattle.desk_core.specs.Replies.{ReplyValue, Located, Closed, nothing_found, found, granted, unless_refused, reply_of}
use Rattle.desk_core.specs.Witnesses.{IsReport, IsEnding}
use Rattle.desk_core.proofs.Refused.{first_none, not_when}
use Rattle.desk_core.proofs.Witnessed.{witnessed}

record Granted (o : Option Refusal) (granted reply : ReplyValue) : Type 0 where
  pub free : o ≡ None
  pub is : granted ≡ reply

granted_located : (o : Option Refusal) (given : ReplyValue) (told : Findings) → unless_refused o given ≡ Located told → Granted o given (Located told)
granted_located None given told h = record { free = refl; is = h }
granted_located (Some why) given told h = absurd (cc)

granted_closed : (o : Option Refusal) (given : ReplyValue) (told : Findings) → unless_refused o given ≡ Closed told → Granted o given (Closed told)
granted_closed None given told h = record { free = refl; is = h }
granted_closed (Some why) given told h = absurd (cc)

located_is : (x y : Findings) → Located x ≡ Located y → y ≡ x
located_is x y h = cc

closed_is : (x y : Findings) → Closed x ≡ Closed y → y ≡ x
closed_is x y h = cc

pub report_located : (opening : Network) (plan : Plan) (past : Past) (caller round : ℕ) (told : Findings) → reply_of opening plan past caller (Locate round) ≡ Located told
    → IsReport opening plan past round told
report_located opening plan past caller round told h =
    let g = granted_located (refusal opening (length plan.table) past caller (Locate round)) (granted opening plan past (Locate round)) told h in
    let there = first_none (no_round past round) (no_plan past round ∷ []) g.free in
    let posted = first_none (no_plan past round) [] there.1 in
    record {
      open_there = not_when (is_open past round) (NoRound round) there.0;
      posted_there = not_when (is_posted past round) (NoPlan round) posted.0;
      told = located_is (found opening plan past round) told g.is;
      witnessed = witnessed opening (length plan.table) past round;
    }

ending : (opening : Network) (plan : Plan) (past : Past) (round : ℕ) (told : Findings) → is_open past round ≡ true → (b : Bool) → is_posted past round ≡ b
    → told ≡ (if b then found opening plan past round else nothing_found) → MatchBool b (IsReport opening plan past round told) (told ≡ nothing_found)
ending opening plan past round told there true posted h = record {
  open_there = there;
  posted_there = posted;
  told = h;
  witnessed = witnessed opening (length plan.table) past round;
}
ending opening plan past round told there false posted h = h

pub report_closed : (opening : Network) (plan : Plan) (past : Past) (caller round : ℕ) (told : Findings) → reply_of opening plan past caller (Close round) ≡ Closed told
    → IsEnding opening plan past round told
report_closed opening plan past caller round told h =
    let g = granted_closed (refusal opening (length plan.table) past caller (Close round)) (granted opening plan past (Close round)) told h in
    let there = not_when (is_open past round) (NoRound round) g.free in
    ending opening plan past round told there (is_posted past round) refl
    (closed_is (if is_posted past round then found opening plan past round else nothing_found) told g.is)
