-- Terminals and boxes one by one: which are kept, and which are the same.
use Rattle.std.specs.Prelude.{IsTrue, Contains, All, slice_get}
use Rattle.std.proofs.Common.{◌≡◌, ◌⊎◌, ℕ, ◌<◌, ◌+◌, zero, suc, List, [], ◌∷◌, ◌++◌, length, get_or, take, Option, Some, None, inl, inr, ⊎_elim, refl, sym, subst, arith}
use Rattle.std.proofs.lemmas.List.Elements.{All-push, All-contains, Contains-append_left, Contains-append_right, Contains-append_cases, Contains-push, Contains-get_or}
use Rattle.std.proofs.lemmas.Option.{slice_get_read}
use Rattle.list_laws.proofs.Members.{Contains-nil, Contains-one}
use Rattle.list_laws.proofs.Places.{take_next, take_whole}
use Rattle.network_model.specs.Network.{Network, value_at}
use Rattle.network_model.specs.Prefixes.{Touches}
use Rattle.network_model.specs.WellFormed.{IsWellFormed}
use Rattle.net_types.specs.SameParts.{IsSameBox, IsSameTerminal}
use Rattle.net_types.proofs.Maps.{All-value_at}
use Rattle.change_laws.specs.Unchanged.{IsUnchanged}
use Rattle.rule_cover.specs.PlanValue.{PlanValue}
use Rattle.plan_build.specs.Keeping.{IsKept, AreParted, AreChanged}

-- among one more is what was among those before, or that one
one_more : (xs : List ℕ) (i x y : ℕ) → slice_get xs i ≡ Some x → Contains (take (i + 1) xs) y → Contains (take i xs) y ⊎ (y ≡ x)
one_more xs i x y at there = ⊎_elim
    (λ before. inl before)
    (λ last. inr (Contains-one x y last))
    (Contains-append_cases (take i xs) (x ∷ []) y (subst (λ (l : List ℕ). Contains l y) (take_next xs i x at) there))

-- ---- terminals

pub parted_none : (old : PlanValue) (new : Network) (hops : ℕ) → AreParted old new hops [] [] []
parted_none old new hops = record {
  kept_are = λ k d inside. absurd (omega arith);
  others_are = λ k d inside. absurd (omega arith);
  all = λ terminal there. absurd (Contains-nil terminal there);
}

module _ (old : PlanValue) (new : Network) (hops : ℕ) (terminals kept others : List ℕ) (i terminal : ℕ) (at : slice_get terminals i ≡ Some terminal)
    (so_far : AreParted old new hops (take i terminals) kept others) where
  pub one_kept : IsKept old new hops terminal → AreParted old new hops (take (i + 1) terminals) (kept ++ terminal ∷ []) others
  one_kept is = record {
    kept_are = All-push (IsKept old new hops) kept terminal so_far.kept_are is;
    others_are = so_far.others_are;
    all = λ t there. ⊎_elim
        (λ before. ⊎_elim (λ mine. inl (Contains-append_left kept (terminal ∷ []) t mine)) (λ other. inr other) (so_far.all t before))
        (λ same. inl (subst (λ n. Contains (kept ++ terminal ∷ []) n) (sym same) (Contains-push kept terminal)))
        (one_more terminals i terminal t at there);
  }

  pub one_other : (IsKept old new hops terminal → ⊥) → AreParted old new hops (take (i + 1) terminals) kept (others ++ terminal ∷ [])
  one_other is_not = record {
    kept_are = so_far.kept_are;
    others_are = All-push (λ (t : ℕ). IsKept old new hops t → ⊥) others terminal so_far.others_are is_not;
    all = λ t there. ⊎_elim
        (λ before. ⊎_elim (λ mine. inl mine) (λ other. inr (Contains-append_left others (terminal ∷ []) t other)) (so_far.all t before))
        (λ same. inr (subst (λ n. Contains (others ++ terminal ∷ []) n) (sym same) (Contains-push others terminal)))
        (one_more terminals i terminal t at there);
  }

pub parted_all : (old : PlanValue) (new : Network) (hops : ℕ) (terminals kept others : List ℕ) (i : ℕ) → slice_get terminals i ≡ None
    → AreParted old new hops (take i terminals) kept others → AreParted old new hops terminals kept others
parted_all old new hops terminals kept others i ended are =
    subst (λ (l : List ℕ). AreParted old new hops l kept others) (take_whole terminals i ended) are

-- ---- boxes

pub changed_none : (old new : Network) → AreChanged old new [] []
changed_none old new = record {
  each = λ k d inside. absurd (omega arith);
  rest = λ box there. absurd (Contains-nil box there);
}

module _ (old new : Network) (boxes changed : List ℕ) (i box : ℕ) (at : slice_get boxes i ≡ Some box) (so_far : AreChanged old new (take i boxes) changed) where
  pub one_changed : (IsSameBox old new box → ⊥) → AreChanged old new (take (i + 1) boxes) (changed ++ box ∷ [])
  one_changed other = record {
    each = All-push (λ (b : ℕ). IsSameBox old new b → ⊥) changed box so_far.each other;
    rest = λ b there. ⊎_elim
        (λ before. ⊎_elim (λ mine. inl (Contains-append_left changed (box ∷ []) b mine)) (λ same. inr same) (so_far.rest b before))
        (λ same. inl (subst (λ n. Contains (changed ++ box ∷ []) n) (sym same) (Contains-push changed box)))
        (one_more boxes i box b at there);
  }

  pub one_same : IsSameBox old new box → AreChanged old new (take (i + 1) boxes) changed
  one_same is = record {
    each = so_far.each;
    rest = λ b there. ⊎_elim
        (λ before. so_far.rest b before)
        (λ same. inr (subst (λ n. IsSameBox old new n) (sym same) is))
        (one_more boxes i box b at there);
  }

pub changed_all : (old new : Network) (boxes changed : List ℕ) (i : ℕ) → slice_get boxes i ≡ None → AreChanged old new (take i boxes) changed → AreChanged old new boxes changed
changed_all old new boxes changed i ended are = subst (λ (l : List ℕ). AreChanged old new l changed) (take_whole boxes i ended) are

-- ---- a terminal and the changed boxes

-- a box that packets come to is one of the network
touched_there : (net : Network) → IsWellFormed net → (hops terminal box : ℕ) → Touches net hops terminal box → Contains net.boxes box
touched_there net fits hops terminal box touches =
    All-value_at (λ (p : ℕ × ℕ). Contains net.boxes p.1) net.ports touches.place.port box fits.homes touches.inside

pub none_touched : (old new : Network) → IsWellFormed old → (hops terminal : ℕ) (changed : List ℕ) → AreChanged old new old.boxes changed
    → IsSameTerminal old new terminal → ((box : ℕ) → Contains changed box → Touches old hops terminal box → ⊥) → IsUnchanged old new hops terminal
none_touched old new fits hops terminal changed are same none = record {
  same = same;
  boxes = λ box touches. ⊎_elim
      (λ there. absurd (none box there touches))
      (λ is. is)
      (are.rest box (touched_there old fits hops terminal box touches));
}

pub one_touched : (old new : Network) (hops terminal : ℕ) (changed : List ℕ) (box : ℕ) → AreChanged old new old.boxes changed → Contains changed box
    → Touches old hops terminal box → IsUnchanged old new hops terminal → ⊥
one_touched old new hops terminal changed box are there touches unchanged =
    All-contains (λ (b : ℕ). IsSameBox old new b → ⊥) changed box are.each there (unchanged.boxes box touches)

-- one more box that packets do not come to
pub none_yet : (old : Network) (hops terminal : ℕ) (changed : List ℕ) (i box : ℕ) → i < length changed → box ≡ get_or changed i box → (Touches old hops terminal box → ⊥)
    → ((b : ℕ) → Contains (take i changed) b → Touches old hops terminal b → ⊥) → (b : ℕ) → Contains (take (i + 1) changed) b → Touches old hops terminal b → ⊥
none_yet old hops terminal changed i box inside is not_here before b there touches = ⊎_elim
    (λ earlier. before b earlier touches)
    (λ same. not_here (subst (λ n. Touches old hops terminal n) same touches))
    (one_more changed i box b (slice_get_read changed (length changed) i box refl inside is) there)
