use Rattle.std.proofs.Common.{◌≡◌, ◌∙◌, ap, rules}
use Rattle.probe_wire.specs.Packet.{sixteen_bytes, word_of}
use Rattle.probe_wire.proofs.Bytes.{sixteen_bytes-word_of}
use Rattle.probe_wire.proofs.words.word128.Goals as goal

pub returns-clause-bytes : goal.returns-clause-bytes
unfolding word_of
returns-clause-bytes c =
    let spelled : c.from_be_bytes.result ≡ word_of c.args.bytes.now = search rules in
    ap sixteen_bytes spelled ∙ sixteen_bytes-word_of c.args.bytes.now c.requires (search rules)
