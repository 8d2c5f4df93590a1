use Rattle.std.specs.String.{string_bytes}
use Rattle.std.proofs.Common.{map}
use Rattle.std.proofs.lemmas.Result.{IfOk-weaker}
use Rattle.command_line.specs.Table.{named}
use Rattle.command_line.proofs.GoodPairs.{numbers_given}
use Rattle.command_line.proofs.pairs.numbers_of.Goals as goal

pub returns-in-Some : goal.returns-in-Some
returns-in-Some c =
    let (j, place, stands) = c.in-Some.ensures.some in
    IfOk-weaker c.numbers_at.result _ _
    (λ given read. λ names table there line.
    numbers_given names (map string_bytes c.args.words.now) (named c.args.name.now) c.in-Some.at j c.in-Numbers.most given.items c.in-Numbers.is table there line place stands read)
    c.numbers_at.ensures
