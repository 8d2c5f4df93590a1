use Rattle.net_versions.specs.VersionsValue.{VersionsValue}
use Rattle.desk_core.specs.declared.reply.Reply.{Reply}
use Rattle.desk_core.specs.Replies.{ReplyValue}
use Rattle.desk_core.proofs.MoreSteps.{step_change_failed}
use Rattle.std.proofs.Common.{sym, subst}
use Rattle.desk_core.specs.declared.event.LoggedEvent.TheVariants as logged
use Rattle.desk_core.specs.Replies.{reply_value}
use Rattle.desk_core.specs.RoundsValue.{RoundsValue}
use Rattle.desk_core.specs.Keeping.{Mirrors, Stepped, fault_reply}
use Rattle.desk_core.proofs.MoreSteps.{step_changed}
use Rattle.desk_core.proofs.rounds.Rounds.change.Goals as goal
use Rattle.desk_core.proofs.rounds.Rounds.change.Goals.{in-Ok, in-Err}

pub returns : goal.returns
returns c = λ opening hops past m.
    let W : RoundsValue = record { now = c.self.inside.versions; opened = c.self.inside.opened; open_rounds = c.self.inside.rounds.items } in
    let M : RoundsValue → Type 0 = λ w. Mirrors opening hops past w in
    let n = subst M (sym c.self.view_is) m in
    let S : Reply → Type 0 = λ x. Stepped opening hops past c.args.caller (logged.Change c.args.change) (reply_value x) (record W { now = c.change.new.self }) in
    let T : VersionsValue → ReplyValue → Type 0 = λ v x. Stepped opening hops past c.args.caller (logged.Change c.args.change) x (record W { now = v }) in
    elim c.match-change.branch [
      | in-Ok w ↦ subst S (sym w.result-is)
          (step_changed opening hops past c.args.caller W n c.args.change w.in-Ok.version c.change.new.self w.in-Ok.ensures.answer w.in-Ok.ensures.ok.0 w.in-Ok.ensures.ok.1)
      | in-Err w ↦ subst S (sym w.result-is)
          (subst (λ x. T c.change.new.self x) (sym w.refused.ensures) (subst (λ v. T v (fault_reply w.in-Err.fault)) (sym w.in-Err.ensures.err)
          (step_change_failed opening hops past c.args.caller W n c.args.change w.in-Err.fault w.in-Err.ensures.answer)))
    ]
