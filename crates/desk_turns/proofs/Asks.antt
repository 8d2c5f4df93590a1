-- The answer of a seat fits what it was asked.
use Rattle.std.proofs.Common.{◌≡◌, ℕ, ◌<◌, true, false, nat_le, [], ◌++◌, length, refl, sym, ◌∙◌, subst, arith}
use Rattle.std.proofs.lemmas.Bool.Decides.{nat_tests}
use Rattle.desk_core.specs.declared.event.Event.{Event}
use Rattle.desk_core.specs.declared.reply.Refusal.TheVariants.{LogFull}
use Rattle.desk_core.specs.declared.reply.Reply.{Reply}
use Rattle.desk_core.specs.declared.reply.Reply.TheVariants as replies
use Rattle.desk_core.specs.DeskValue.{DeskValue, is_full}
use Rattle.desk_core.specs.Asking.{FitsEvent}
use Rattle.desk_core.proofs.Fitting.{applied_fits}
use Rattle.desk_turns.specs.Shared.{PassValue, desk_at, IsAnswered}

not_full : (n room : ℕ) → n < room → nat_le room n ≡ false
not_full n room lt = grind (arith, nat_tests)

pub answered_fits : (v : PassValue) (event : Event) (reply : Reply) (place : ℕ) (w : PassValue) → IsAnswered v event reply place w → FitsEvent event reply
answered_fits v event reply place w a =
    let test : is_full (desk_at v.desk.opening (v.seen ++ a.between)) ≡ false = not_full (length (v.seen ++ a.between)) v.desk.opening.room (subst (λ (n : ℕ). n < v.desk.opening.room) a.place_is a.in_room) in
    applied_fits (desk_at v.desk.opening (v.seen ++ a.between)) v.number event reply (desk_at v.desk.opening w.seen) record {
      full = λ full. absurd (not_both (sym full ∙ test));
      entered = λ _. a.entered;
    }
  where
    not_both : true ≡ false → ⊥
    not_both e = cc

-- a full log may answer any event
pub full_fits : (v : PassValue) (event : Event) (place : ℕ) → FitsEvent event (replies.Refused (LogFull place))
full_fits v event place =
    let d : DeskValue = record { opening = v.desk.opening.opening; hops = 0; room = 0; log = [] } in
    applied_fits d 0 event (replies.Refused (LogFull 0)) d record {
      full = λ full. (refl, refl);
      entered = λ room. absurd (not_both room);
    }
  where
    not_both : true ≡ false → ⊥
    not_both e = cc
