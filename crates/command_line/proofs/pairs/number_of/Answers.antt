use Rattle.std.specs.String.{string_bytes}
use Rattle.std.proofs.Common.{map, sym, subst, inr}
use Rattle.command_line.specs.declared.name.Value.TheVariants.{Number}
use Rattle.command_line.specs.Table.{named, IsUsual, IsRequired}
use Rattle.command_line.proofs.GoodPairs.{number_given, usual_number}
use Rattle.command_line.proofs.pairs.number_of.Goals as goal

pub returns-in-Some : goal.returns-in-Some
returns-in-Some c = λ names table there line.
    let (j, place, stands) = c.in-Some.ensures.some in
    number_given names (map string_bytes c.args.words.now) (named c.args.name.now) c.in-Some.at j c.in-Number.least c.in-Number.most c.number_at.result c.in-Number.usual c.in-Number.is
    table there line place stands c.number_at.ensures

pub returns-in-None : goal.returns-in-None
returns-in-None c = λ names table there line.
    let usual : IsUsual (Number c.in-Number.least c.in-Number.most c.in-Number.usual) c.unwrap_or.result =
    usual_number c.in-Number.usual c.in-Number.least c.unwrap_or.result c.unwrap_or.ensures
    (λ none. c.in-None.ensures.none (line.required (named c.args.name.now) there (subst (λ v. IsRequired v) (sym c.in-Number.is) none))) in
    inr (c.in-None.ensures.none, subst (λ v. IsUsual v c.unwrap_or.result) (sym c.in-Number.is) usual)
