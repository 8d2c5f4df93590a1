use Rattle.std.proofs.Common.{◌≡◌, ◌∙◌, sym, rules, ◌∷◌, []}
use Rattle.ternary_bits.specs.Pieces.{difference}
use Rattle.ternary_bits.proofs.Differences.{made_all, made_one, set_of, disjoint_of, widths_of}
use Rattle.ternary_bits.proofs.pattern.Pattern.minus.Goals as goal

pub returns-then-not-meets : goal.returns-then-not-meets
returns-then-not-meets c =
    let p = c.args.self.now in
    let o = c.args.other.now in
    let one : c.push.new.self.items ≡ p ∷ [] = search rules in
    let is : c.push.new.self.items ≡ difference p o = made_one p o _ (sym c.meets.ensures ∙ c.if-not-meets.true) one in
    record { pieces = is; set = set_of p o _ is; disjoint = disjoint_of p o _ is; widths = widths_of p o _ is }

pub returns : goal.returns
returns c =
    let p = c.args.self.now in
    let o = c.args.other.now in
    let made = c.loop-piece.pieces.items in
    let is : made ≡ difference p o =
    made_all p o c.loop-piece.rest made (sym c.meets.ensures ∙ c.if-not-meets.false) c.loop-piece.invariant.all (search rules)
    in
    record { pieces = is; set = set_of p o _ is; disjoint = disjoint_of p o _ is; widths = widths_of p o _ is }
