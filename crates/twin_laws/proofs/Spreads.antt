-- What copies for twins give: each thing of a first once for each of its twins.
use Rattle.std.specs.Prelude.{◌≡◌, ◌≢◌, ℕ, suc, ◌+◌, List, [], ◌∷◌, ◌++◌, length, All, AllPairs, Contains}
use Rattle.std.proofs.Common.{refl, sym, ap, ◌∙◌, subst, ⊎_elim, arith, get_or}
use Rattle.std.specs.List.{filter}
use Rattle.std.proofs.lemmas.Bool.{eqb-true, eq-eqb}
use Rattle.std.proofs.lemmas.List.{append-nil, append_assoc, length-map}
use Rattle.std.proofs.lemmas.List.Elements.{Contains-get_or, Contains-append_left, Contains-append_right, Contains-append_cases}
use Rattle.std.proofs.lemmas.List.Kept.{AllPairs-filter}
use Rattle.list_laws.proofs.Members.{Contains-nil, Contains-cons_same, Contains-cons_later, Contains-cons_cases, Contains-map, Contains-from_map, Contains-filter, Contains-from_filter, passes_of}
use Rattle.list_laws.proofs.Pairs.{AllPairs-append, AllPairs-map}
use Rattle.twin_laws.specs.Shared.{is_led, weight_of, copies, spread}

-- a twin of a thing's terminal, and the thing
pub record IsCopy {A : Type 0} (start : A → ℕ) (put : ℕ → A → A) (twins : List (ℕ × ℕ)) (xs : List A) (y : A) : Type 0 where
  pub source : A
  pub source_there : Contains xs source
  pub twin : ℕ × ℕ
  pub twin_there : Contains twins twin
  pub led : twin.0 ≡ start source
  pub is : y ≡ put twin.1 source

module _ {A : Type 0} (start : A → ℕ) (put : ℕ → A → A) (twins : List (ℕ × ℕ)) where
  copied : (x : A) (t : ℕ × ℕ) → Contains twins t → t.0 ≡ start x → Contains (copies start put twins x) (put t.1 x)
  copied x t there led =
      Contains-map (λ (u : ℕ × ℕ). put u.1 x) (filter (is_led (start x)) twins) t
      (Contains-filter (is_led (start x)) twins t there (eq-eqb t.0 (start x) led))

  pub spread_contains : (xs : List A) (x : A) (t : ℕ × ℕ) → Contains xs x → Contains twins t → t.0 ≡ start x → Contains (spread start put twins xs) (put t.1 x)
  spread_contains [] x t there in_twins led = absurd (Contains-nil x there)
  spread_contains (z ∷ zs) x t there in_twins led = ⊎_elim
      (λ (same : z ≡ x).
      Contains-append_left (copies start put twins z) (spread start put twins zs) (put t.1 x)
      (subst (λ (y : A). Contains (copies start put twins y) (put t.1 x)) (sym same) (copied x t in_twins led)))
      (λ (later : Contains zs x). Contains-append_right (copies start put twins z) (spread start put twins zs) (put t.1 x) (spread_contains zs x t later in_twins led))
      (Contains-cons_cases z x zs there)

  copy_of : (x y : A) → Contains (copies start put twins x) y → (t : ℕ × ℕ) × Contains twins t × (t.0 ≡ start x) × (y ≡ put t.1 x)
  copy_of x y there =
      let found = Contains-from_map (λ (u : ℕ × ℕ). put u.1 x) (filter (is_led (start x)) twins) y there in
      let t : ℕ × ℕ = found.0 in
      (t, Contains-from_filter (is_led (start x)) twins t found.1.0, eqb-true t.0 (start x) (passes_of (is_led (start x)) twins t found.1.0), sym found.1.1)

  pub spread_from : (xs : List A) (y : A) → Contains (spread start put twins xs) y → IsCopy start put twins xs y
  spread_from [] y there = absurd (Contains-nil y there)
  spread_from (x ∷ xs) y there = ⊎_elim
      (λ (here : Contains (copies start put twins x) y).
      let c = copy_of x y here in
      record { source = x; source_there = Contains-cons_same x xs; twin = c.0; twin_there = c.1; led = c.2; is = c.3 })
      (λ (later : Contains (spread start put twins xs) y).
      let c = spread_from xs y later in
      record { source = c.source; source_there = Contains-cons_later x c.source xs c.source_there; twin = c.twin; twin_there = c.twin_there; led = c.led; is = c.is })
      (Contains-append_cases (copies start put twins x) (spread start put twins xs) y there)

  pub spread_all : (P : A → Type 0) (xs : List A) → ((y : A) → IsCopy start put twins xs y → P y) → All P (spread start put twins xs)
  spread_all P xs each k d inside =
      let ys : List A = spread start put twins xs in each (get_or ys k d) (spread_from xs (get_or ys k d) (Contains-get_or ys k d inside))

  -- copies of two things are apart where the things are, and copies of one thing for two twins
  pub spread_apart : (R : A → A → Type 0) (xs : List A) → ((x : A) (t u : ℕ × ℕ) → t.1 ≢ u.1 → R (put t.1 x) (put u.1 x))
      → ((x y : A) (t u : ℕ × ℕ) → Contains twins t → Contains twins u → t.0 ≡ start x → u.0 ≡ start y → R x y → R (put t.1 x) (put u.1 y))
      → AllPairs (λ (t u : ℕ × ℕ). t.1 ≢ u.1) twins → AllPairs R xs → AllPairs R (spread start put twins xs)
  spread_apart R [] own across once apart = λ i j d less inside. absurd (omega arith)
  spread_apart R (x ∷ xs) own across once apart =
      AllPairs-append R (copies start put twins x) (spread start put twins xs)
      (AllPairs-map (λ (t : ℕ × ℕ). put t.1 x) R (filter (is_led (start x)) twins)
      (λ i j d less inside. own x (get_or (filter (is_led (start x)) twins) i d) (get_or (filter (is_led (start x)) twins) j d)
      (AllPairs-filter (λ (t u : ℕ × ℕ). t.1 ≢ u.1) (is_led (start x)) twins once i j d less inside)))
      (spread_apart R xs own across once (λ i j d less inside. apart (suc i) (suc j) d (omega arith) (omega arith)))
      (λ a b in_a in_b.
      let first = copy_of x a in_a in
      let second = spread_from xs b in_b in
      let at = second.source_there in
      let here : R x second.source = subst (λ (y : A). R x y) at.2 (apart 0 (suc at.0) second.source (omega arith) (omega (arith, at.1))) in
      subst (λ (c : A). R c b) (sym first.3)
      (subst (λ (c : A). R (put first.0.1 x) c) (sym second.is)
      (across x second.source first.0 second.twin first.1 second.twin_there first.2 second.led here)))

  -- one thing more
  pub spread_push : (xs : List A) (x : A) → spread start put twins (xs ++ x ∷ []) ≡ spread start put twins xs ++ copies start put twins x
  spread_push [] x = append-nil (copies start put twins x)
  spread_push (z ∷ zs) x =
      ap (λ l. copies start put twins z ++ l) (spread_push zs x)
      ∙ sym (append_assoc (copies start put twins z) (spread start put twins zs) (copies start put twins x))

  pub copies_length : (x : A) → 1 + length (copies start put twins x) ≡ weight_of twins (start x)
  copies_length x = ap (λ n. 1 + n) (length-map (filter (is_led (start x)) twins) (λ (t : ℕ × ℕ). put t.1 x))

-- without twins there are no copies
pub spread_none : {A : Type 0} (start : A → ℕ) (put : ℕ → A → A) (xs : List A) → spread start put [] xs ≡ []
spread_none start put [] = refl
spread_none start put (x ∷ xs) = spread_none start put xs
