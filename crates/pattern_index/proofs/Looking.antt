-- The search through the entries, from behind: what is found, and what is passed by.
use Rattle.std.proofs.Common.{◌≡◌, ℕ, ◌-◌, ◌<◌, ◌≤◌, true, false, ◌⊎◌, inl, inr, List, [], ◌∷◌, ◌++◌, length, get_or, Some, refl, sym, ap, ◌∙◌, subst, arith}
use Rattle.std.specs.List.{Contains, slice_get}
use Rattle.std.proofs.lemmas.Bool.{true≢false}
use Rattle.std.proofs.lemmas.List.Elements.{Contains-append_left, Contains-push, Contains-push_cases}
use Rattle.std.proofs.lemmas.Option.{slice_get_within, get_or_from_slice_get, slice_get-get_or, slice_get_read}
use Rattle.network_model.specs.Bits.{Pattern}
use Rattle.ternary_bits.specs.Pieces.{meets}
use Rattle.pattern_index.specs.declared.tree.Entry.{Entry}
use Rattle.pattern_index.specs.declared.tree.Kind.TheVariants.{Own, Hull}
use Rattle.pattern_index.specs.Trees.{IsTree, IndexValue, IsIndexOf, AddsAll}
use Rattle.pattern_index.proofs.Hulls.{within_meets}

abbrev Found : List Entry → Pattern → ℕ → Type 0
Found entries p place = (own : Entry) × Contains entries own × (own.kind ≡ Own place) × (meets own.pattern p ≡ true)

-- the entries from a number on are looked at
pub record Looked (entries : List Entry) (p : Pattern) (old places : List ℕ) (left : ℕ) : Type 0 where
  pub inside : left ≤ length entries
  pub kept : (place : ℕ) → Contains old place → Contains places place
  pub met : (place : ℕ) → Contains places place → Contains old place ⊎ Found entries p place
  pub every : (i place : ℕ) (own : Entry) → left ≤ i → slice_get entries i ≡ Some own → own.kind ≡ Own place → meets own.pattern p ≡ true → Contains places place

pub looked_none : (entries : List Entry) (p : Pattern) (old : List ℕ) → Looked entries p old old (length entries)
looked_none entries p old = record {
  inside = omega arith;
  kept = λ place c. c;
  met = λ place c. inl c;
  every = λ i place own from at is meeting. let inside = slice_get_within entries i own at in absurd (omega (arith, from, inside));
}

module _ (entries : List Entry) (p : Pattern) (old places : List ℕ) (left : ℕ) (some : 0 < left) (own : Entry) (at : slice_get entries (left - 1) ≡ Some own) (so_far : Looked entries p old places left) where
  one_of : (i : ℕ) (other : Entry) → i ≡ left - 1 → slice_get entries i ≡ Some other → own ≡ other
  one_of i other here there =
      let both : Some own ≡ Some other = sym at ∙ ap (λ (n : ℕ). slice_get entries n) (sym here) ∙ there in
      cc

  -- a pattern that meets is found
  pub looked_found : (place : ℕ) → own.kind ≡ Own place → meets own.pattern p ≡ true → Looked entries p old (places ++ place ∷ []) (left - 1)
  looked_found place is meeting = record {
    inside = omega (arith, so_far.inside);
    kept = λ n c. Contains-append_left places (place ∷ []) n (so_far.kept n c);
    met = λ n c. elim (Contains-push_cases places place n c) [
      | inl before ↦ so_far.met n before
      | inr same ↦ inr (own, (left - 1, slice_get_within entries (left - 1) own at, get_or_from_slice_get entries (left - 1) own own at), is ∙ ap (λ (m : ℕ). Own m) same, meeting)
    ];
    every = λ i n other from there other_is other_meets. elim (later i from) [
      | inl after ↦ Contains-append_left places (place ∷ []) n (so_far.every i n other after there other_is other_meets)
      | inr here ↦
          let same : Own place ≡ Own n = sym is ∙ ap (λ (e : Entry). e.kind) (one_of i other here there) ∙ other_is in
          let at_n : place ≡ n = cc in
          subst (λ (m : ℕ). Contains (places ++ place ∷ []) m) at_n (Contains-push places place)
    ];
  }
    where
      later : (i : ℕ) → left - 1 ≤ i → (left ≤ i) ⊎ (i ≡ left - 1)
      later i from = grind arith

  -- an entry that is no pattern of the list that meets is passed by alone
  pub looked_by : ((place : ℕ) → own.kind ≡ Own place → meets own.pattern p ≡ true → ⊥) → Looked entries p old places (left - 1)
  looked_by none = record {
    inside = omega (arith, so_far.inside);
    kept = so_far.kept;
    met = so_far.met;
    every = λ i n other from there other_is other_meets. elim (later i from) [
      | inl after ↦ so_far.every i n other after there other_is other_meets
      | inr here ↦
          let same = one_of i other here there in
          absurd (none n (ap (λ (e : Entry). e.kind) same ∙ other_is) (ap (λ (e : Entry). meets e.pattern p) same ∙ other_meets))
    ];
  }
    where
      later : (i : ℕ) → left - 1 ≤ i → (left ≤ i) ⊎ (i ≡ left - 1)
      later i from = grind arith

  -- where a hull does not meet, all that it has is passed by
  pub looked_past : (width first : ℕ) → IsTree width entries → own.kind ≡ Hull first → meets own.pattern p ≡ false → Looked entries p old places first
  looked_past width first tree is apart =
      let behind : first ≤ left - 1 = tree.behind (left - 1) first own at is in
      record {
        inside = omega (arith, so_far.inside, behind);
        kept = so_far.kept;
        met = so_far.met;
        every = λ i n other from there other_is other_meets. elim (later i) [
          | inl after ↦ so_far.every i n other after there other_is other_meets
          | inr (inl below) ↦ absurd (true≢false (sym (within_meets other.pattern own.pattern p (tree.within (left - 1) first i own other at is from below there) other_meets) ∙ apart))
          | inr (inr here) ↦
              let same : Hull first ≡ Own n = sym is ∙ ap (λ (e : Entry). e.kind) (one_of i other here there) ∙ other_is in
              absurd (cc)
        ];
      }
    where
      later : (i : ℕ) → (left ≤ i) ⊎ ((i < left - 1) ⊎ (i ≡ left - 1))
      later i = grind arith

pub looked_all : (index : IndexValue) (p : Pattern) (old places : List ℕ) → Looked index.entries p old places 0 → (patterns : List Pattern)
    → IsIndexOf index patterns → AddsAll patterns p old places
looked_all index p old places done patterns of = record {
  kept = done.kept;
  all = λ place c. elim (done.met place c) [
    | inl before ↦ inl before
    | inr (own, (i, inside, at), is, meeting) ↦ inr (own.pattern, subst (λ (e : Entry). slice_get patterns place ≡ Some e.pattern) at (of.own i own inside place (ap (λ (e : Entry). e.kind) at ∙ is)), meeting)
  ];
  every = λ place pattern at meeting.
      let (i, inside, is) = of.every place pattern at in
      done.every i place (record { pattern = pattern; kind = Own place }) (omega arith) (slice_get-get_or index.entries i _ inside ∙ ap (λ (e : Entry). Some e) is) refl meeting;
}

-- the entry that the index keeps at a place
pub at_view : (index kept : IndexValue) → kept ≡ index → (k : ℕ) (own : Entry) → k < length index.entries → own ≡ get_or kept.entries k own → slice_get index.entries k ≡ Some own
at_view index kept same k own inside is = slice_get_read index.entries (length index.entries) k own refl inside (is ∙ ap (λ (v : IndexValue). get_or v.entries k own) same)
