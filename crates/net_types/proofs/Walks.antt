-- A walk, rule by rule.
use Rattle.std.proofs.Common.{◌≡◌, ℕ, suc, ◌+◌, ◌-◌, ◌<◌, List, [], ◌∷◌, ◌++◌, length, Some, sym, ap, arith, ◌∙◌}
use Rattle.std.proofs.lemmas.List.{append_assoc, length-append, length-map}
use Rattle.network_model.specs.Bits.{Header}
use Rattle.network_model.specs.Rewrites.{Rewrite, rewritten, bit_of}
use Rattle.network_model.specs.Network.{Network, Numbered, Out, hit}
use Rattle.network_model.specs.Walk.{Walk, Far, walk, step, act, leave, after_rule, next}
use Rattle.net_types.specs.PathValue.{PathValue}
use Rattle.net_types.specs.Walks.{after_rules}

-- what is left of the walk from where the packet stands, behind the rules so far, is the whole walk
pub record IsOnTheWay (net : Network) (hops from : ℕ) (start : Header) (before : PathValue) (met port : ℕ) (header : Header) (path : PathValue) : Type 0 where
  pub whole : after_rules before.rules (walk net hops from start) ≡ after_rules path.rules (walk net (hops - met) port header)
  pub width : length header ≡ net.width
  pub count : length path.rules ≡ length before.rules + met
  pub room : path.room ≡ before.room

-- a hop over a link
crossed : (net : Network) (k port : ℕ) (header : Header) (rule : Numbered) (out : ℕ) (rewrite : Rewrite) (far : ℕ) → hit net port header ≡ Some rule → rule.1.action ≡ Out out rewrite → next net out ≡ Far far → walk net (suc k) port header ≡ after_rule rule.0 (walk net k far (rewritten rewrite header))
crossed net k port header rule out rewrite far hits acts leads =
    ap (step net (walk net k) header) hits
    ∙ ap (act net (walk net k) header rule.0) acts
    ∙ ap (λ n. after_rule rule.0 (leave (walk net k) out (rewritten rewrite header) n)) leads

one_further : (rules : List ℕ) (rule : ℕ) (rest : Walk) → after_rules rules (after_rule rule rest) ≡ after_rules (rules ++ rule ∷ []) rest
one_further rules rule rest = ap (λ l. record { rules = l; end = rest.end }) (sym (append_assoc rules (rule ∷ []) rest.rules))

pub moved_on : (net : Network) (hops from : ℕ) (start : Header) (before : PathValue) (met port : ℕ) (header : Header) (path longer : PathValue) (rule : Numbered) (out : ℕ) (rewrite : Rewrite) (far : ℕ) → IsOnTheWay net hops from start before met port header path → met < hops → hit net port header ≡ Some rule → rule.1.action ≡ Out out rewrite → next net out ≡ Far far → length rewrite ≡ net.width → longer.rules ≡ path.rules ++ rule.0 ∷ [] → longer.room ≡ path.room → IsOnTheWay net hops from start before (met + 1) far (rewritten rewrite header) longer
moved_on net hops from start before met port header path longer rule out rewrite far way left hits acts leads wide added room =
    let k = hops - (met + 1) in
    let here : hops - met ≡ suc k = omega arith in
    record {
      whole = way.whole
          ∙ ap (λ n. after_rules path.rules (walk net n port header)) here
          ∙ ap (after_rules path.rules) (crossed net k port header rule out rewrite far hits acts leads)
          ∙ one_further path.rules rule.0 (walk net k far (rewritten rewrite header))
          ∙ ap (λ l. after_rules l (walk net k far (rewritten rewrite header))) (sym added);
      width = length-map rewrite (bit_of header) ∙ wide;
      count = (let long : length longer.rules ≡ length path.rules + 1 = ap length added ∙ length-append path.rules (rule.0 ∷ []) in omega (arith, way.count));
      room = room ∙ way.room;
    }
