use Rattle.std.proofs.Common.{sym, ◌∙◌}
use Rattle.std.proofs.lemmas.Map.Views.{Contains-from_any, exact_unsigned_eq}
use Rattle.net_types.proofs.network.Network.box_same.Goals as goal

pub returns : goal.returns
returns c = (
  λ holds. record {
    here = Contains-from_any exact_unsigned_eq c.args.b c.args.self.now.boxes (sym c.has_box.ensures ∙ c.if-not-has_box.false);
    there = Contains-from_any exact_unsigned_eq c.args.b c.args.other.now.boxes (sym c.has_box-else-not-has_box.ensures ∙ c.if-not-has_box-2.false);
    ports = c.same_ports.ensures.0 c.if-not-same_ports.false;
    behind = c.same_behind.ensures.0 c.if-not-same_behind.false;
    rules = c.same_rules.ensures.0 holds;
  },
  λ same. c.same_rules.ensures.1 same.rules,
)
