-- What a session comes to at a desk of any kind and a planner whose tables have at most so many entries.
--     Posting       what a plan of a pinned network comes to
--     Comes         a command's answer, with the events that it asks, their replies and the desks after them, in order
--     AreServed     the same for all that lines ask for, with the text of the answers
--     Serves        these events lead from one desk to another
use Rattle.std.specs.Prelude.{◌≡◌, ℕ, ◌<◌, List, [], ◌∷◌, ◌++◌, length, Ok, Err, false}
use Rattle.std.specs.Arc.{arc_value}
use Rattle.network_model.specs.Network.{Network}
use Rattle.network_model.specs.Table.{Entry, IsTable}
use Rattle.desk_core.specs.declared.event.Event.{Event}
use Rattle.desk_core.specs.declared.event.Event.TheVariants.{Pin, Post}
use Rattle.desk_core.specs.declared.reply.Reply.{Reply}
use Rattle.desk_core.specs.declared.reply.Reply.TheVariants.{Pinned, Posted}
use Rattle.desk_core.specs.declared.performing.Command.{Command}
use Rattle.desk_core.specs.declared.performing.Command.TheVariants.{Ask, Plan, Quit, Stop}
use Rattle.desk_core.specs.declared.performing.Answer.{Answer}
use Rattle.desk_core.specs.declared.performing.Answer.TheVariants.{Replied, Planned, TableFull, NoMemory, Bye}
use Rattle.desk_core.specs.Asking.{Item, Leads}
use Rattle.desk_core.specs.Performing.{IsPlanFor, is_posted}
use Rattle.session_lines.specs.Readings.{Said}
use Rattle.session_lines.specs.ReplyTexts.{text_of, bad_line_text}

-- A table of more entries than the limit asks nothing more, nor does want of memory. Otherwise the plan is posted.
abbrev pub Posting : {D : Type 0} → ℕ → ℕ → ℕ → ℕ → Network → List (Item D) → Answer → Type 0
Posting limit hops round version net [] (TableFull most) =
    (most ≡ limit) × ((table : List Entry) × IsTable net hops table × (limit < length table))
Posting limit hops round version net [] NoMemory = Unit {0}
Posting limit hops round version net (post ∷ []) (Planned of pinned_version plan) =
    (of ≡ round) × (pinned_version ≡ version) × IsPlanFor net hops limit (arc_value plan)
    × ((posted : _) × (entries : ℕ) × (arc_value posted ≡ arc_value plan) × (post.event ≡ Post round posted) × (post.reply ≡ Posted entries))
Posting limit hops round version net (post ∷ []) (Replied reply) =
    (plan : _) × IsPlanFor net hops limit (arc_value plan) × (post.event ≡ Post round plan) × (post.reply ≡ reply) × (is_posted reply ≡ false)
Posting limit hops round version net items answer = ⊥

abbrev pub AfterPinning : {D : Type 0} → ℕ → ℕ → ℕ → Reply → List (Item D) → Answer → Type 0
AfterPinning limit hops round (Pinned version net) items answer = Posting limit hops round version (arc_value net) items answer
AfterPinning limit hops round reply items answer = (items ≡ []) × (answer ≡ Replied reply)

abbrev pub Comes : {D : Type 0} → ℕ → ℕ → Command → List (Item D) → Answer → Type 0
Comes limit hops (Ask event) items answer =
    (item : Item _) × (items ≡ item ∷ []) × (item.event ≡ event) × (answer ≡ Replied item.reply)
Comes limit hops (Plan round) items answer =
    (pin : Item _) × (more : List (Item _)) × (items ≡ pin ∷ more) × (pin.event ≡ Pin round)
    × AfterPinning limit hops round pin.reply more answer
Comes limit hops Quit items answer = (items ≡ []) × (answer ≡ Bye)
Comes limit hops Stop items answer = (items ≡ []) × (answer ≡ Bye)

-- of one command
pub record IsAnswered {D : Type 0} (limit hops : ℕ) (command : Command) (items : List (Item D)) (text : List ℕ) : Type 0 where
  pub answer : Answer
  pub comes : Comes limit hops command items answer
  pub told : text ≡ text_of command answer

abbrev pub AreServed : {D : Type 0} → ℕ → ℕ → List Said → List (Item D) → List ℕ → Type 0
AreServed limit hops [] items text = (items ≡ []) × (text ≡ [])
AreServed limit hops (Err fault ∷ said) items text =
    (rest : List ℕ) × (text ≡ bad_line_text fault ++ rest) × AreServed limit hops said items rest
AreServed limit hops (Ok command ∷ said) items text =
    (own : List (Item _)) × (others : List (Item _)) × (told : List ℕ) × (rest : List ℕ)
    × (items ≡ own ++ others) × (text ≡ told ++ rest)
    × IsAnswered limit hops command own told × AreServed limit hops said others rest

pub record Serves {D : Type 0} (asked : D → Event → Reply → D → Type 0) (limit hops : ℕ) (said : List Said) (before after : D) (text : List ℕ) : Type 0 where
  pub items : List (Item D)
  pub leads : Leads asked before items after
  pub served : AreServed limit hops said items text
