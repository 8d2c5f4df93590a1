use Rattle.std.proofs.Common.{◌≡◌, ◌++◌, ap, Some, arith}
use Rattle.probe_wire.specs.Packet.{fields}
use Rattle.probe_wire.proofs.Fields.{fields_parted, same_probe}
use Rattle.probe_wire.proofs.decoding.probe_of.Goals as goal

pub returns-in_err-header-clause-read : goal.returns-in_err-header-clause-read
returns-in_err-header-clause-read c = λ p fits e.
    let round = c.split_at.result.0.now in
    let version = c.split_at-2.result.0.now in
    let entry = c.split_at-3.result.0.now in
    let field = c.split_at-3.result.1.now in
    let whole : round ++ (version ++ (entry ++ field)) ≡ fields p = cc in
    let parts = fields_parted round version entry field p c.split_at.ensures.front_len c.split_at-2.ensures.front_len c.split_at-3.ensures.front_len whole in
    let read = c.in_err-header.ensures.read p.header fits.3 fits.4 parts.3 in
    absurd (cc)

pub returns-clause-read : goal.returns-clause-read
returns-clause-read c = λ p fits e.
    let round = c.split_at.result.0.now in
    let version = c.split_at-2.result.0.now in
    let entry = c.split_at-3.result.0.now in
    let field = c.split_at-3.result.1.now in
    let whole : round ++ (version ++ (entry ++ field)) ≡ fields p = cc in
    let parts = fields_parted round version entry field p c.split_at.ensures.front_len c.split_at-2.ensures.front_len c.split_at-3.ensures.front_len whole in
    let read = c.in_ok-header.ensures.read p.header fits.3 fits.4 parts.3 in
    let header : c.in_ok-header.header ≡ p.header = cc in
    ap Some (same_probe c.word32.result c.word32-2.result c.word32-3.result c.in_ok-header.header p (omega arith) (omega arith) (omega arith) fits (cc) (cc) (cc) header)
