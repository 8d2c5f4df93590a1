-- All headers of a width, and the least and the greatest of those that pass a test.
use Rattle.std.specs.Prelude.{◌≡◌, ◌≢◌, ℕ, zero, suc, ◌⊎◌, Bool, true, false, not, List, [], ◌∷◌, ◌++◌, length, map, Contains}
use Rattle.std.proofs.Common.{refl, sym, ap, ◌∙◌, subst, inl, inr, ⊎_elim, arith}
use Rattle.std.proofs.lemmas.Bool.{cases_Bool}
use Rattle.std.proofs.lemmas.List.{get_or-map, length-map}
use Rattle.std.proofs.lemmas.List.Elements.{Contains-append_left, Contains-append_right}
use Rattle.std.specs.declared.cmp.Ordering.{Ordering}
use Rattle.std.specs.declared.cmp.Ordering.TheVariants.{Less}
use Rattle.list_laws.proofs.Members.{Contains-map}
use Rattle.network_model.specs.Bits.{Header, header_cmp}

-- the headers of a width
abbrev pub headers_of : ℕ → List Header
headers_of zero = [] ∷ []
headers_of (suc width) = map (λ h. false ∷ h) (headers_of width) ++ map (λ h. true ∷ h) (headers_of width)

-- each header of the width is among them
pub headers_of-complete : (h : Header) → Contains (headers_of (length h)) h
headers_of-complete [] = (zero, omega arith, refl)
headers_of-complete (false ∷ h) =
    Contains-append_left (map (λ (g : Header). false ∷ g) (headers_of (length h))) (map (λ (g : Header). true ∷ g) (headers_of (length h))) (false ∷ h)
    (Contains-map (λ (g : Header). false ∷ g) (headers_of (length h)) h (headers_of-complete h))
headers_of-complete (true ∷ h) =
    Contains-append_right (map (λ (g : Header). false ∷ g) (headers_of (length h))) (map (λ (g : Header). true ∷ g) (headers_of (length h))) (true ∷ h)
    (Contains-map (λ (g : Header). true ∷ g) (headers_of (length h)) h (headers_of-complete h))

-- a header that passes, and none that does is less by R
pub record IsOutermost (R : Header → Header → Ordering) (width : ℕ) (test : Header → Bool) (h : Header) : Type 0 where
  pub wide : length h ≡ width
  pub passes : test h ≡ true
  pub least : (g : Header) → length g ≡ width → test g ≡ true → R g h ≢ Less

-- an order in which headers that begin with the one bit are less than those that begin with the other
record IsByBits (R : Header → Header → Ordering) (first : Bool) : Type 0 where
  ends : R [] [] ≢ Less
  same : (b : Bool) (g h : Header) → R g h ≢ Less → R (b ∷ g) (b ∷ h) ≢ Less
  differ : (g h : Header) → R (not first ∷ g) (first ∷ h) ≢ Less

module _ (R : Header → Header → Ordering) (first : Bool) (bits : IsByBits R first) where
  -- a bit is another one or its opposite
  bit_cases : (a b : Bool) → (b ≡ a) ⊎ (b ≡ not a)
  bit_cases true true = inl refl
  bit_cases true false = inr refl
  bit_cases false true = inr refl
  bit_cases false false = inl refl

  -- a header that begins with the first bit
  outermost_first : (width : ℕ) (test : Header → Bool) (h : Header) → IsOutermost R width (λ g. test (first ∷ g)) h
      → IsOutermost R (suc width) test (first ∷ h)
  outermost_first width test h o = record { wide = ap (λ n. suc n) o.wide; passes = o.passes; least = least }
    where
      least : (g : Header) → length g ≡ suc width → test g ≡ true → R g (first ∷ h) ≢ Less
      least [] w t = absurd (omega arith)
      least (b ∷ g) w t = ⊎_elim
          (λ e. subst (λ c. R (c ∷ g) (first ∷ h) ≢ Less) (sym e)
          (bits.same first g h (o.least g (omega arith) (subst (λ c. test (c ∷ g) ≡ true) e t))))
          (λ e. subst (λ c. R (c ∷ g) (first ∷ h) ≢ Less) (sym e) (bits.differ g h))
          (bit_cases first b)

  -- a header that begins with the other bit, where none with the first passes
  outermost_later : (width : ℕ) (test : Header → Bool) (h : Header) → ((g : Header) → length g ≡ width → test (first ∷ g) ≡ true → ⊥)
      → IsOutermost R width (λ g. test (not first ∷ g)) h → IsOutermost R (suc width) test (not first ∷ h)
  outermost_later width test h none o = record { wide = ap (λ n. suc n) o.wide; passes = o.passes; least = least }
    where
      least : (g : Header) → length g ≡ suc width → test g ≡ true → R g (not first ∷ h) ≢ Less
      least [] w t = absurd (omega arith)
      least (b ∷ g) w t = ⊎_elim
          (λ e. absurd (none g (omega arith) (subst (λ c. test (c ∷ g) ≡ true) e t)))
          (λ e. subst (λ c. R (c ∷ g) (not first ∷ h) ≢ Less) (sym e)
          (bits.same (not first) g h (o.least g (omega arith) (subst (λ c. test (c ∷ g) ≡ true) e t))))
          (bit_cases first b)

  -- where none passes with either first bit, none passes
  none_longer : (width : ℕ) (test : Header → Bool) → ((g : Header) → length g ≡ width → test (first ∷ g) ≡ true → ⊥)
      → ((g : Header) → length g ≡ width → test (not first ∷ g) ≡ true → ⊥) → (g : Header) → length g ≡ suc width → test g ≡ true → ⊥
  none_longer width test none neither [] w t = omega arith
  none_longer width test none neither (b ∷ g) w t = ⊎_elim
      (λ e. none g (omega arith) (subst (λ c. test (c ∷ g) ≡ true) e t))
      (λ e. neither g (omega arith) (subst (λ c. test (c ∷ g) ≡ true) e t))
      (bit_cases first b)

  -- the empty header is the only one of width 0
  outermost_empty : (test : Header → Bool) → test [] ≡ true → IsOutermost R 0 test []
  outermost_empty test t = record { wide = refl; passes = t; least = least }
    where
      least : (g : Header) → length g ≡ 0 → test g ≡ true → R g [] ≢ Less
      least [] w k = bits.ends
      least (b ∷ g) w k = absurd (omega arith)

  none_empty : (test : Header → Bool) → test [] ≡ false → (g : Header) → length g ≡ 0 → test g ≡ true → ⊥
  none_empty test f [] w t = cc
  none_empty test f (b ∷ g) w t = omega arith

  -- either some header of the width passes, and then there is a first one, or none does
  outermost : (width : ℕ) (test : Header → Bool)
      → ((h : Header) × IsOutermost R width test h) ⊎ ((g : Header) → length g ≡ width → test g ≡ true → ⊥)
  outermost zero test = ⊎_elim (λ t. inl ([], outermost_empty test t)) (λ f. inr (none_empty test f)) (cases_Bool (test []))
  outermost (suc width) test = ⊎_elim
      (λ found. inl (first ∷ found.0, outermost_first width test found.0 found.1))
      (λ none. ⊎_elim
      (λ found. inl (not first ∷ found.0, outermost_later width test found.0 none found.1))
      (λ neither. inr (none_longer width test none neither))
      (outermost width (λ g. test (not first ∷ g))))
      (outermost width (λ g. test (first ∷ g)))

-- the order of headers goes by bits, 0 first
rising : IsByBits header_cmp false
rising = record { ends = λ e. cc; same = same; differ = λ g h e. cc }
  where
    same : (b : Bool) (g h : Header) → header_cmp g h ≢ Less → header_cmp (b ∷ g) (b ∷ h) ≢ Less
    same true g h n = n
    same false g h n = n

-- and the other way round 1 first
falling : IsByBits (λ g h. header_cmp h g) true
falling = record { ends = λ e. cc; same = same; differ = λ g h e. cc }
  where
    same : (b : Bool) (g h : Header) → header_cmp h g ≢ Less → header_cmp (b ∷ h) (b ∷ g) ≢ Less
    same true g h n = n
    same false g h n = n

-- where some header of the width passes, one is the least
pub least_header : (width : ℕ) (test : Header → Bool) (h : Header) → length h ≡ width → test h ≡ true
    → (g : Header) × IsOutermost header_cmp width test g
least_header width test h w t = ⊎_elim (λ found. found) (λ none. absurd (none h w t)) (outermost header_cmp false rising width test)

-- and one is the greatest
pub greatest_header : (width : ℕ) (test : Header → Bool) (h : Header) → length h ≡ width → test h ≡ true
    → (g : Header) × IsOutermost (λ a b. header_cmp b a) width test g
greatest_header width test h w t = ⊎_elim (λ found. found) (λ none. absurd (none h w t)) (outermost (λ a b. header_cmp b a) true falling width test)
