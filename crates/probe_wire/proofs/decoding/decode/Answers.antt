use Rattle.std.proofs.Common.{ap, length, arith}
use Rattle.probe_wire.proofs.Fields.{length-fields}
use Rattle.probe_wire.proofs.decoding.decode.Goals as goal

pub returns-then-bytes-lt-PACKET-clause-read : goal.returns-then-bytes-lt-PACKET-clause-read
returns-then-bytes-lt-PACKET-clause-read c = λ p fits e. absurd (omega (arith, ap length e, length-fields p))

pub returns-then-bytes-gt-PACKET-clause-read : goal.returns-then-bytes-gt-PACKET-clause-read
returns-then-bytes-gt-PACKET-clause-read c = λ p fits e. absurd (omega (arith, ap length e, length-fields p))
