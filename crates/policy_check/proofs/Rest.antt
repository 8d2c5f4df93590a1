-- The packets that no rule takes.
use Rattle.std.specs.Prelude.{◌≡◌, ℕ, zero, suc, ◌+◌, ◌<◌, ◌≤◌, Bool, true, false, not, ◌&&◌, ◌||◌, List, [], ◌∷◌, ◌++◌, length, map, take, replicate, Option, None, Some, IsTrue, is_none, All, cond}
use Rattle.std.proofs.Common.{get_or, refl, sym, ap, ◌∙◌, arith}
use Rattle.std.specs.List.{find, list_any, AllZip, Contains}
use Rattle.std.proofs.lemmas.List.{take_all, length-map, get_or-map}
use Rattle.std.proofs.lemmas.List.Folds.{list_any-append, list_any_more}
use Rattle.network_model.specs.Bits.{Header, Any, Pattern, matches}
use Rattle.network_model.specs.Rewrites.{Rewrite, rewritten}
use Rattle.network_model.specs.Network.{value_at, Network, Numbered, takes, hit}
use Rattle.header_sets.specs.Spaces.{SpaceValue, any_matches, holds}
use Rattle.net_types.specs.declared.rule.Rule.{Rule}
use Rattle.net_types.specs.Rules.{numbered}
use Rattle.box_step.specs.Branches.{IsBranch, IsSplitOf}
use Rattle.box_step.specs.Taking.{takes_sent}
use Rattle.box_step.proofs.Splitting.{nowhere, takes_at}

-- ---- lists

none_found : {X : Type 0} (p : X → Bool) (xs : List X) → is_none (find p xs) ≡ not (list_any p xs)
none_found p [] = refl
none_found {X} p (x ∷ xs) = elim (p x) as (λ b. is_none (cond b (Some x) (find p xs)) ≡ not (b || list_any p xs)) [ true ↦ refl | false ↦ none_found p xs ]

-- every header matches the pattern that asks for nothing
matches_all : (n : ℕ) (h : Header) → length h ≡ n → matches (replicate n Any) h ≡ true
matches_all zero [] e = refl
matches_all zero (b ∷ bs) e = absurd (omega arith)
matches_all (suc n) [] e = absurd (omega arith)
matches_all (suc n) (b ∷ bs) e = matches_all n bs (omega arith)

-- ---- a port of no box

pub no_hit : (net : Network) (port : ℕ) (space : SpaceValue) (rewrite : Rewrite) → value_at net.ports port ≡ None → (h : Header) → IsTrue (holds space h)
    → hit net port (rewritten rewrite h) ≡ None
no_hit net port space rewrite none h held = by_hit (hit net port (rewritten rewrite h)) refl
  where
    s : IsSplitOf (λ rule. true) net port space rewrite []
    s = nowhere net port space rewrite (λ rule. true) [] none refl

    nothing : (rules : List Numbered) → AllZip (IsBranch net port space rewrite) rules [] → (r : Numbered) → Contains rules r → ⊥
    nothing [] zip r c = absurd (omega (arith, c.1))
    nothing (q ∷ qs) zip r c = absurd zip

    by_hit : (o : Option Numbered) → hit net port (rewritten rewrite h) ≡ o → o ≡ None
    by_hit None is = refl
    by_hit (Some r) is = absurd (nothing s.rules s.each r ((s.exact r).1 (refl, (h, (held, is)))))

-- ---- the rules of the port's box, one after another

module _ (net : Network) (port : ℕ) (rewrite : Rewrite) (width : ℕ) where
  -- the patterns have just the headers that one of so many rules takes
  pub record HasTaken (rules : List Rule) (count : ℕ) (taken : List Pattern) : Type 0 where
    pub widths : All (λ (p : Pattern). length p ≡ width) taken
    pub exact : (h : Header) → length h ≡ width → any_matches taken h ≡ list_any (takes net port (rewritten rewrite h)) (take count (map numbered rules))

  module _ (at : ℕ) (rules : List Rule) (i : ℕ) (own : Rule) (here : value_at net.ports port ≡ Some at) (same : own.«at» ≡ at)
      (inside : i < length rules) (place : own ≡ get_or rules i own) where
    takes_own : (h : Header) → takes net port (rewritten rewrite h) (get_or (map numbered rules) i (numbered own)) ≡ takes_sent port rewrite own h
    takes_own h = ap (takes net port (rewritten rewrite h)) (get_or-map numbered rules i own (numbered own) inside ∙ ap numbered (sym place))
        ∙ takes_at net port at (rewritten rewrite h) (numbered own) here same

    further : (h : Header) → list_any (takes net port (rewritten rewrite h)) (take (i + 1) (map numbered rules))
        ≡ (list_any (takes net port (rewritten rewrite h)) (take i (map numbered rules)) || takes_sent port rewrite own h)
    further h = list_any_more (takes net port (rewritten rewrite h)) (map numbered rules) i (numbered own) (omega (arith, length-map rules numbered))
        ∙ ap (λ b. list_any (takes net port (rewritten rewrite h)) (take i (map numbered rules)) || b) (takes_own h)

    or_none : (b : Bool) → b || false ≡ b
    or_none true = refl
    or_none false = refl

    pub taken_more : (taken : List Pattern) (sources : Pattern) → HasTaken rules i taken → All (λ (p : Pattern). length p ≡ width) (taken ++ sources ∷ [])
        → ((h : Header) → length h ≡ width → matches sources h ≡ takes_sent port rewrite own h) → HasTaken rules (i + 1) (taken ++ sources ∷ [])
    taken_more taken sources before widths takes_it = record {
      widths = widths;
      exact = λ h e.
          list_any-append (λ p. matches p h) taken (sources ∷ [])
          ∙ ap (λ b. any_matches taken h || b) (or_none (matches sources h) ∙ takes_it h e)
          ∙ ap (λ b. b || takes_sent port rewrite own h) (before.exact h e)
          ∙ sym (further h);
    }

    pub taken_same : (taken : List Pattern) → HasTaken rules i taken → ((h : Header) → length h ≡ width → takes_sent port rewrite own h ≡ false)
        → HasTaken rules (i + 1) taken
    taken_same taken before none = record {
      widths = before.widths;
      exact = λ h e. before.exact h e ∙ sym (further h ∙ ap (λ b. list_any (takes net port (rewritten rewrite h)) (take i (map numbered rules)) || b) (none h e)
          ∙ or_none (list_any (takes net port (rewritten rewrite h)) (take i (map numbered rules))));
    }

  pub taken_all : (rules : List Rule) (count : ℕ) (taken : List Pattern) → HasTaken rules count taken → length rules ≤ count → (h : Header) → length h ≡ width
      → hit net port (rewritten rewrite h) ≡ find (takes net port (rewritten rewrite h)) (map numbered rules)
      → not (any_matches taken h) ≡ is_none (hit net port (rewritten rewrite h))
  taken_all rules count taken has all h e first =
      ap not (has.exact h e ∙ ap (λ rs. list_any (takes net port (rewritten rewrite h)) rs) (take_all count (map numbered rules) (omega (arith, length-map rules numbered))))
      ∙ sym (ap is_none first ∙ none_found (takes net port (rewritten rewrite h)) (map numbered rules))

-- ---- what they leave of a set

pub left_over : (space : SpaceValue) (width : ℕ) (taken : List Pattern) (h : Header) (none : Bool) → (IsTrue (holds space h) → length h ≡ width)
    → (IsTrue (holds space h) → not (any_matches taken h) ≡ none)
    → (holds space h && (matches (replicate width Any) h && not (any_matches taken h))) ≡ (holds space h && none)
left_over space width taken h none wide rest = by_held (holds space h) refl
  where
    by_held : (b : Bool) → holds space h ≡ b → (b && (matches (replicate width Any) h && not (any_matches taken h))) ≡ (b && none)
    by_held true held = ap (λ m. m && not (any_matches taken h)) (matches_all width h (wide held)) ∙ rest held
    by_held false held = refl
