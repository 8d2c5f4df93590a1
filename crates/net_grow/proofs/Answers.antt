-- What a builder took, told by the answer that is handed on.
use Rattle.std.proofs.Common.{◌≡◌, Result, Ok, Err, subst}
use Rattle.std.specs.Result.{IfOk, OnOk}
use Rattle.net_types.specs.declared.fault.NetFault.{NetFault}
use Rattle.no_memory.specs.declared.NoMemory.{NoMemory}

pub taken_then : (P Q : Type 0) (answer : Result (Unit {0}) NetFault) (told : Result (Unit {0}) NoMemory)
    → IfOk told (λ value. answer ≡ Ok value) → OnOk answer P → (P → Q) → OnOk told Q
taken_then P Q answer (Ok value) is made then = let Made : Result (Unit {0}) NetFault → Type 0 = λ r. OnOk r P in then (subst Made is made)
taken_then P Q answer (Err fault) is made then = tt
