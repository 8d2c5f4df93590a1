-- A network with all places takes a rule that fits, whose number is above those of its rules.
use Rattle.std.proofs.Common.{◌≡◌, ℕ, ◌+◌, ◌<◌, ◌≤◌, ◌&&◌, eqb, ltb, Bool, false, not, List, [], ◌∷◌, ◌++◌, length, Some, None, refl, sym, ap, subst, ◌∙◌, arith}
use Rattle.std.specs.Prelude.{is_some}
use Rattle.std.specs.List.{All}
use Rattle.std.proofs.lemmas.Bool.{cond-false, ne_eqb, le-ltb, lt-leb}
use Rattle.std.proofs.lemmas.List.{length_push}
use Rattle.std.proofs.lemmas.List.Elements.{All-nil, All-head, All-tail, All-weaker, All-push}
use Rattle.network_model.specs.Building.{put, with_rule}
use Rattle.network_model.specs.Network.{value_at, Network, Numbered, Rule}
use Rattle.net_types.specs.Refusals.{Twice, Unknown, Limit, Width, first_of, rule_refusal, moves_fit}
use Rattle.net_grow.specs.Adding.{with_rules, TakesFrom, Fits}
use Rattle.net_grow.specs.Places.{places}
use Rattle.net_grow.proofs.Begin.{width_there, no_rules}

abbrev IsBelow : {A : Type 0} → ℕ → ℕ × A → Type 0
IsBelow id e = e.0 < id

absent : {A : Type 0} (id : ℕ) (es : List (ℕ × A)) → All (IsBelow id) es → value_at es id ≡ None
absent id [] below = refl
absent id (e ∷ es) below =
    let less : e.0 < id = All-head (IsBelow id) e es below in
    cond-false (eqb e.0 id) (Some e.1) (value_at es id) (ne_eqb e.0 id (λ same. omega arith)) ∙ absent id es (All-tail (IsBelow id) e es below)

last : {A : Type 0} (id : ℕ) (value : A) (es : List (ℕ × A)) → All (IsBelow id) es → put id value es ≡ es ++ (id, value) ∷ []
last id value [] below = refl
last id value (e ∷ es) below =
    let less : e.0 < id = All-head (IsBelow id) e es below in
    cond-false (ltb id e.0) _ _ (le-ltb id e.0 (omega arith)) ∙ ap (λ rest. e ∷ rest) (last id value es (All-tail (IsBelow id) e es below))

none_of : (a b c d : Bool) → a ≡ false → b ≡ false → c ≡ false → d ≡ false
    → first_of ((a, Twice) ∷ (b, Unknown) ∷ (c, Limit) ∷ (d, Width) ∷ []) ≡ None
none_of a b c d p q r s = cond-false a _ _ p ∙ cond-false b _ _ q ∙ cond-false c _ _ r ∙ cond-false d _ _ s

due_none : (rules : List Numbered) (id : ℕ) (rule : Rule) → All (IsBelow id) rules → length rules ≤ id → id < 65536 → Fits rule
    → rule_refusal (with_rules rules) id rule ≡ None
due_none rules id rule below few small fits =
    none_of _ _ _ _
    (ap is_some (absent id rules below))
    (ap not fits.known)
    (lt-leb 65536 (length rules) (omega arith))
    (ap (λ width. not (eqb (length rule.pattern) width && moves_fit width rule.action)) width_there ∙ ap not fits.wide)

pub rule_taken : (net : Network) (id : ℕ) (rule : Rule) → TakesFrom net id → id < 65536 → Fits rule → rule_refusal net id rule ≡ None
rule_taken net id rule takes small fits =
    ap (λ n. rule_refusal n id rule) takes.has_places ∙ due_none net.rules id rule takes.below takes.few small fits

pub rule_added : (net new : Network) (id : ℕ) (rule : Rule) → TakesFrom net id → new ≡ with_rule id rule net
    → new ≡ with_rules (net.rules ++ (id, rule) ∷ [])
rule_added net new id rule takes made =
    made ∙ ap (with_rule id rule) takes.has_places ∙ ap with_rules (last id rule net.rules takes.below)

pub rules_added : (net new : Network) (id : ℕ) (rule : Rule) → TakesFrom net id → new ≡ with_rule id rule net → new.rules ≡ net.rules ++ (id, rule) ∷ []
rules_added net new id rule takes made = ap (λ (n : Network). n.rules) (rule_added net new id rule takes made)

pub takes_next : (net new : Network) (id : ℕ) (rule : Rule) → TakesFrom net id → new ≡ with_rule id rule net → TakesFrom new (id + 1)
takes_next net new id rule takes made =
    let has = rule_added net new id rule takes made in
    let rules = rules_added net new id rule takes made in
    let Below : List Numbered → Type 0 = All (IsBelow (id + 1)) in
    let few = takes.few in
    record {
      has_places = has ∙ ap with_rules (sym rules);
      below =
          subst Below (sym rules)
          (All-push (IsBelow (id + 1)) net.rules (id, rule)
          (All-weaker (IsBelow id) (IsBelow (id + 1)) (λ (e : Numbered) (less : e.0 < id). omega arith) net.rules takes.below)
          (omega arith));
      few = omega (arith, ap length rules, length_push net.rules (id, rule));
    }

pub takes_later : (net : Network) (m n : ℕ) → m ≤ n → TakesFrom net m → TakesFrom net n
takes_later net m n le takes =
    let few = takes.few in
    record {
      has_places = takes.has_places;
      below = All-weaker (IsBelow m) (IsBelow n) (λ (e : Numbered) (less : e.0 < m). omega arith) net.rules takes.below;
      few = omega arith;
    }

pub takes_first : (net : Network) → net ≡ places 16 → TakesFrom net 1000
takes_first net is =
    let none : net.rules ≡ [] = ap (λ (n : Network). n.rules) is ∙ no_rules in
    let Below : List Numbered → Type 0 = All (IsBelow 1000) in
    record {
      has_places = is ∙ ap with_rules (sym (ap (λ (n : Network). n.rules) is));
      below = subst Below (sym none) (All-nil (IsBelow 1000));
      few = omega (arith, ap length none);
    }
