-- A desk that one caller has for itself, numbered 1.
--     value_of         what its desk is seen as
--     asked_alone      each event is asked by caller 1
use Rattle.std.proofs.Common.{◌≡◌, ◌∙◌, subst}
use Rattle.desk_core.specs.declared.desks.OwnDesk.{OwnDesk}
use Rattle.desk_core.specs.declared.event.Event.{Event}
use Rattle.desk_core.specs.declared.reply.Reply.{Reply}
use Rattle.desk_core.specs.Applying.{Applied}
use Rattle.desk_core.specs.DeskValue.{DeskValue}
use Rattle.atpg.specs.SessionRun.{AsksAlone}

abbrev pub value_of : OwnDesk → DeskValue
value_of own = own.desk.now

abbrev pub Alone : OwnDesk → Type 0
Alone own = own.caller ≡ 1

abbrev pub own_asked : OwnDesk → Event → Reply → OwnDesk → Type 0
own_asked before event reply after = (after.caller ≡ before.caller) × (after.desk.ghost_name ≡ before.desk.ghost_name) × Applied before.desk.now before.caller event reply after.desk.now

pub asked_alone : (before : OwnDesk) (event : Event) (reply : Reply) (after : OwnDesk) → Alone before → own_asked before event reply after → Alone after × AsksAlone (value_of before) event reply (value_of after)
asked_alone before event reply after alone asked = (asked.0 ∙ alone, subst (λ n. Applied before.desk.now n event reply after.desk.now) alone asked.2)
