-- A tree with one entry more.
use Rattle.std.proofs.Common.{◌≡◌, ℕ, zero, suc, ◌-◌, ◌<◌, ◌≤◌, ◌⊎◌, inl, inr, List, [], ◌∷◌, ◌++◌, length, drop, get_or, Some, refl, ap, ◌∙◌, subst, arith}
use Rattle.std.specs.List.{All, slice_get}
use Rattle.std.proofs.lemmas.List.{get_or-drop, length-drop}
use Rattle.std.proofs.lemmas.List.Elements.{All-push}
use Rattle.std.proofs.lemmas.Option.{slice_get_within, get_or_from_slice_get}
use Rattle.network_model.specs.Bits.{Pattern}
use Rattle.pattern_index.specs.declared.tree.Entry.{Entry}
use Rattle.pattern_index.specs.declared.tree.Kind.TheVariants.{Hull}
use Rattle.pattern_index.specs.Hulls.{IsWithin}
use Rattle.pattern_index.specs.Trees.{own_entry, IsOwn, IsTree}

-- an element of a list with one more stands where it stood, or is that one
pub at_push : {X : Type 0} (xs : List X) (y : X) (i : ℕ) (x : X) → slice_get (xs ++ y ∷ []) i ≡ Some x → (slice_get xs i ≡ Some x) ⊎ ((i ≡ length xs) × (y ≡ x))
at_push [] y zero x at = inr (refl, cc)
at_push [] y (suc i) x at = absurd (cc)
at_push (z ∷ xs) y zero x at = inl at
at_push (z ∷ xs) y (suc i) x at = elim (at_push xs y i x at) [
  | inl old ↦ inl old
  | inr (here, same) ↦ inr (omega (arith, here), same)
]

-- what an entry must be to stand behind these
abbrev Behind : ℕ → List Entry → Entry → Type 0
Behind width entries own = (first : ℕ) → own.kind ≡ Hull first → (first ≤ length entries) × ((i : ℕ) (other : Entry) → first ≤ i → slice_get entries i ≡ Some other → IsWithin other.pattern own.pattern)

tree_more : (width : ℕ) (entries : List Entry) (own : Entry) → IsTree width entries → length own.pattern ≡ width → Behind width entries own → IsTree width (entries ++ own ∷ [])
tree_more width entries own tree wide has = record {
  widths = All-push (λ (e : Entry). length e.pattern ≡ width) entries own tree.widths wide;
  behind = λ k first hull at is. elim (at_push entries own k hull at) [
    | inl old ↦ tree.behind k first hull old is
    | inr (here, same) ↦ let below = (has first (ap (λ (e : Entry). e.kind) same ∙ is)).0 in omega (arith, below, here)
  ];
  within = λ k first i hull other at is from below there. elim (at_push entries own i other there) [
    | inl old ↦ elim (at_push entries own k hull at) [
      | inl so ↦ tree.within k first i hull other so is from below old
      | inr (here, same) ↦ subst (λ (e : Entry). IsWithin other.pattern e.pattern) same ((has first (ap (λ (e : Entry). e.kind) same ∙ is)).1 i other from old)
    ]
    | inr (here, same) ↦ elim (at_push entries own k hull at) [
      | inl so ↦ let inside = slice_get_within entries k hull so in absurd (omega (arith, inside, here, below))
      | inr (there, _) ↦ absurd (omega (arith, here, there, below))
    ]
  ];
}

pub tree_own : (width : ℕ) (entries : List Entry) (pattern : Pattern) (place : ℕ) → IsTree width entries → length pattern ≡ width → IsTree width (entries ++ own_entry pattern place ∷ [])
tree_own width entries pattern place tree wide = tree_more width entries (own_entry pattern place) tree wide (λ first is. absurd (cc))

pub tree_hull : (width : ℕ) (entries : List Entry) (hull : Pattern) (first : ℕ) → IsTree width entries → length hull ≡ width → first ≤ length entries
    → All (λ (e : Entry). IsWithin e.pattern hull) (drop first entries) → IsTree width (entries ++ record { pattern = hull; kind = Hull first } ∷ [])
tree_hull width entries hull first tree wide inside all = tree_more width entries (record { pattern = hull; kind = Hull first }) tree wide (λ other is.
    let same : first ≡ other = cc in
    subst (λ (n : ℕ). (n ≤ length entries) × ((i : ℕ) (e : Entry) → n ≤ i → slice_get entries i ≡ Some e → IsWithin e.pattern hull)) same (
      inside,
      λ i e from at.
          let below = slice_get_within entries i e at in
          let there : get_or (drop first entries) (i - first) e ≡ e =
          get_or-drop first entries (i - first) e ∙ ap (λ (k : ℕ). get_or entries k e) (omega (arith, from)) ∙ get_or_from_slice_get entries i e e at in
          let within : i - first < length (drop first entries) = rw (length-drop first entries) (omega (arith, from, below)) in
          subst (λ (x : Entry). IsWithin x.pattern hull) there (all (i - first) e within),
    ))

pub own_is : (patterns : List Pattern) (pattern : Pattern) (place : ℕ) → slice_get patterns place ≡ Some pattern → IsOwn patterns (own_entry pattern place)
own_is patterns pattern place at other is =
    let same : place ≡ other = cc in
    subst (λ (k : ℕ). slice_get patterns k ≡ Some pattern) same at
