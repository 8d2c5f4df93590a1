-- The classes of a wave, taken one by one in the order of their numbers.
use Rattle.std.specs.Prelude.{Option, IfSome, slice_set}
use Rattle.std.proofs.Common.{◌≡◌, ℕ, ◌+◌, ◌-◌, ◌<◌, ◌≤◌, List, [], ◌∷◌, ◌++◌, length, take, get_or, sym, ap, ◌∙◌, subst, arith}
use Rattle.std.specs.List.{Contains}
use Rattle.std.proofs.lemmas.List.{get_or_default, get_or-take, get_or-set_other, length-take, length-set, take_all, take_more}
use Rattle.std.proofs.lemmas.List.Elements.{All-take}
use Rattle.network_model.specs.Network.{Network}
use Rattle.network_model.specs.Table.{HasMore}
use Rattle.class_tree.specs.declared.class.Class.{Class}
use Rattle.class_tree.specs.declared.growth.Grown.{Grown}
use Rattle.class_tree.specs.Growth.{GoesOnFrom, IsGrown}
use Rattle.class_tree.specs.Searched.{StartsAmong}
use Rattle.frontier_waves.specs.declared.frontier.Found.{Found}
use Rattle.frontier_waves.specs.declared.frontier.Frontier.{Frontier}
use Rattle.frontier_waves.specs.Growths.{AreReady}
use Rattle.frontier_waves.specs.Waves.{path_of, AreWave, HasSearched, Takes}
use Rattle.frontier_waves.proofs.WaveSteps.{IsBetween, IsFresh, between_more, between_full}
use Rattle.frontier_waves.proofs.WaveEnds.{between_end}

-- the classes before a place are taken, and the one there isn't
fresh_at : (net : Network) (hops : ℕ) (terminals : List ℕ) (depth : ℕ) (wave : List Class) (i : ℕ) (class : Class) → AreWave net hops terminals depth wave → i < length wave
    → class ≡ get_or wave i class → IsFresh depth (take i wave) class
fresh_at net hops terminals depth wave i class is inside at = record {
  long = subst (λ (c : Class). length c.rules ≡ depth) (sym at) (is.long i class inside);
  all_long = All-take (λ (c : Class). length c.rules ≡ depth) i wave is.long;
  apart = λ c there same.
      let k = there.0 in
      let before : k < i = omega (arith, there.1, length-take i wave) in
      let here : get_or wave k c ≡ c = sym (get_or-take i wave k c before) ∙ there.2 in
      let own : get_or wave i c ≡ class = get_or_default wave i c class inside ∙ sym at in
      is.apart k i c before inside (ap path_of here ∙ (same ∙ sym (ap path_of own)));
}

took : (wave : List Class) (i : ℕ) (class : Class) → i < length wave → class ≡ get_or wave i class → take (i + 1) wave ≡ take i wave ++ class ∷ []
took wave i class inside at = take_more wave i class inside ∙ ap (λ (c : Class). take i wave ++ c ∷ []) (sym at)

pub gather_more : (net : Network) (hops : ℕ) (twins : List (ℕ × ℕ)) (terminals : List ℕ) (depth stride : ℕ) (wave : List Class) (i : ℕ) (class : Class) (old new : Frontier) → AreWave net hops terminals depth wave
    → 1 ≤ stride → i < length wave → class ≡ get_or wave i class → IsBetween net hops twins terminals depth stride (take i wave) old.found old.wave.items → Takes net hops twins stride class old new
    → IsBetween net hops twins terminals depth stride (take (i + 1) wave) new.found new.wave.items
gather_more net hops twins terminals depth stride wave i class old new is some inside at between taken =
    subst (λ cs. IsBetween net hops twins terminals depth stride cs new.found new.wave.items) (sym (took wave i class inside at))
    (between_more net hops twins terminals depth stride some (take i wave) class (fresh_at net hops terminals depth wave i class is inside at) old new between taken)

pub gather_full : (net : Network) (hops : ℕ) (twins : List (ℕ × ℕ)) (terminals : List ℕ) (depth stride limit : ℕ) (wave : List Class) (i : ℕ) (class : Class) (found : Found) (next : List Class)
    → AreWave net hops terminals depth wave → 1 ≤ stride → i < length wave → class ≡ get_or wave i class → IsBetween net hops twins terminals depth stride (take i wave) found next
    → HasMore net hops (GoesOnFrom class stride) (limit - length found.entries.items) → HasMore net hops (StartsAmong terminals) limit
gather_full net hops twins terminals depth stride limit wave i class found next is some inside at between has =
    between_full net hops twins terminals depth stride some (take i wave) class (fresh_at net hops terminals depth wave i class is inside at) limit found next
    (All-take (λ (c : Class). Contains terminals c.«from») i wave is.among)
    (subst (λ (c : Class). Contains terminals c.«from») (sym at) (is.among i class inside)) between has

pub gather_end : (net : Network) (hops : ℕ) (twins : List (ℕ × ℕ)) (terminals : List ℕ) (depth stride : ℕ) (wave : List Class) (i : ℕ) (found : Found) (next : List Class) → AreWave net hops terminals depth wave
    → depth + stride ≤ hops → 1 ≤ stride → length wave ≤ i → IsBetween net hops twins terminals depth stride (take i wave) found next → HasSearched net hops twins terminals (depth + stride) found next
gather_end net hops twins terminals depth stride wave i found next is few some end between =
    between_end net hops twins terminals depth stride wave is few some found next (subst (λ cs. IsBetween net hops twins terminals depth stride cs found next) (take_all i wave end) between)

-- ---- what is ready from a place on

pub record AreReadyFrom (net : Network) (hops stride : ℕ) (wave : List Class) (from : ℕ) (places : List (Option Grown)) : Type 0 where
  pub count : length places ≡ length wave
  pub each : (i : ℕ) (d : Class) (o : Option Grown) → from ≤ i → i < length wave → IfSome (get_or places i o) (IsGrown net hops (get_or wave i d) stride)

pub ready_all : (net : Network) (hops stride : ℕ) (wave : List Class) (places : List (Option Grown)) → AreReady net hops stride wave places → AreReadyFrom net hops stride wave 0 places
ready_all net hops stride wave places is = record { count = is.count; each = λ i d o from inside. is.each i d o inside }

pub ready_at : (net : Network) (hops stride : ℕ) (wave : List Class) (i : ℕ) (places : List (Option Grown)) (class : Class) (o : Option Grown) → AreReadyFrom net hops stride wave i places
    → i < length wave → class ≡ get_or wave i class → o ≡ get_or places i o → IfSome o (IsGrown net hops class stride)
ready_at net hops stride wave i places class o is inside at there =
    subst (λ (c : Class). IfSome o (IsGrown net hops c stride)) (sym at)
    (subst (λ (p : Option Grown). IfSome p (IsGrown net hops (get_or wave i class) stride)) (sym there) (is.each i class o (omega arith) inside))

pub ready_next : (net : Network) (hops stride : ℕ) (wave : List Class) (i : ℕ) (places : List (Option Grown)) (o : Option Grown) → AreReadyFrom net hops stride wave i places
    → AreReadyFrom net hops stride wave (i + 1) (slice_set places i o)
ready_next net hops stride wave i places o is = record {
  count = length-set places i o ∙ is.count;
  each = λ k d p from inside.
      subst (λ (q : Option Grown). IfSome q (IsGrown net hops (get_or wave k d) stride)) (sym (get_or-set_other places i k o p (λ same. omega arith))) (is.each k d p (omega arith) inside);
}
