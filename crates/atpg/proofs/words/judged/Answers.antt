use Rattle.std.specs.String.{string_bytes}
use Rattle.std.proofs.Common.{map}
use Rattle.command_line.specs.Table.{commanded}
use Rattle.atpg.proofs.AskedWords.{plan_asked, upgrade_asked, check_asked, trial_asked, run_asked, grow_asked}
use Rattle.atpg.proofs.words.judged.Goals as goal

pub returns-in-plan-clause-ok : goal.returns-in-plan-clause-ok
returns-in-plan-clause-ok c =
    plan_asked (commanded c.in-Ok.asked.0.now) (map string_bytes c.args.words.now) (map string_bytes c.in-Ok.asked.1.now) c.in-Ok.ensures.ok c.in-plan.is

pub returns-in-upgrade-clause-ok : goal.returns-in-upgrade-clause-ok
returns-in-upgrade-clause-ok c =
    upgrade_asked (commanded c.in-Ok.asked.0.now) (map string_bytes c.args.words.now) (map string_bytes c.in-Ok.asked.1.now) c.in-Ok.ensures.ok c.in-upgrade.is

pub returns-in-check-clause-ok : goal.returns-in-check-clause-ok
returns-in-check-clause-ok c =
    check_asked (commanded c.in-Ok.asked.0.now) (map string_bytes c.args.words.now) (map string_bytes c.in-Ok.asked.1.now) c.in-Ok.ensures.ok c.in-check.is

pub returns-in-trial-clause-ok : goal.returns-in-trial-clause-ok
returns-in-trial-clause-ok c =
    trial_asked (commanded c.in-Ok.asked.0.now) (map string_bytes c.args.words.now) (map string_bytes c.in-Ok.asked.1.now) c.in-Ok.ensures.ok c.in-trial.is

pub returns-in-run-clause-ok : goal.returns-in-run-clause-ok
returns-in-run-clause-ok c =
    run_asked (commanded c.in-Ok.asked.0.now) (map string_bytes c.args.words.now) (map string_bytes c.in-Ok.asked.1.now) c.in-Ok.ensures.ok c.in-run.is

pub returns-in_default-clause-ok : goal.returns-in_default-clause-ok
returns-in_default-clause-ok c =
    grow_asked (commanded c.in-Ok.asked.0.now) (map string_bytes c.args.words.now) (map string_bytes c.in-Ok.asked.1.now) c.in-Ok.ensures.ok c.in_default.not-plan c.in_default.not-upgrade c.in_default.not-check c.in_default.not-trial c.in_default.not-run
