-- What the code finds in words, as the definitions say it.
--     outcome_of        a result of the code as an outcome
--     declaration_of    a declaration of the code
--     Leaves            a call leaves what is due, or stops at the fault that is due, or for want of memory
--     Starts            a call gives the text that is due after a head, or stops likewise
use Rattle.std.specs.Prelude.{◌≡◌, Result, Ok, Err}
use Rattle.net_types.specs.Rules.{model_of}
use Rattle.net_types.specs.Terminals.{role_of}
use Rattle.net_text.specs.declared.fault.TextFault.{TextFault}
use Rattle.net_text.specs.declared.fault.Stop.{Stop}
use Rattle.net_text.specs.declared.fault.Stop.TheVariants as stops
use Rattle.net_text.specs.declared.declaration.Declaration.{Declaration}
use Rattle.net_text.specs.declared.declaration.Declaration.TheVariants as code
use Rattle.net_text.specs.Declarations as text
use Rattle.net_text.specs.Declarations.{Outcome, Good, Bad}
use Rattle.net_text.specs.declared.reader.Begun.{Begun}
use Rattle.net_text.specs.Text.{Head}
use Rattle.net_text.specs.Building.{begun}

abbrev pub outcome_of : {T A : Type 0} → (T → A) → Result T TextFault → Outcome A
outcome_of meaning (Ok value) = Good (meaning value)
outcome_of meaning (Err fault) = Bad fault

abbrev pub declaration_of : Declaration → text.Declaration
declaration_of (code.Box id) = text.DeclareBox id
declaration_of (code.Port id at) = text.DeclarePort id at
declaration_of (code.Link a b) = text.DeclareLink a b
declaration_of (code.Terminal id at role) = text.DeclareTerminal id at (role_of role)
declaration_of (code.Permit terminal pattern) = text.DeclarePermit terminal pattern
declaration_of (code.Forbid terminal pattern) = text.DeclareForbid terminal pattern
declaration_of (code.Rule rule) = text.DeclareRule rule.id (model_of rule)

abbrev pub StopIs : {A : Type 0} → Stop → Outcome A → Type 0
StopIs (stops.Fault fault) due = due ≡ Bad fault
StopIs stops.NoMemory due = Unit {0}

abbrev pub Leaves : {A : Type 0} → Result (Unit {0}) Stop → A → Outcome A → Type 0
Leaves (Ok done) left due = due ≡ Good left
Leaves (Err stop) left due = StopIs stop due

abbrev pub Starts : Result Begun Stop → Outcome Head → Type 0
Starts (Ok text) due = (head : Head) × (due ≡ Good head) × (text ≡ begun head)
Starts (Err stop) due = StopIs stop due
