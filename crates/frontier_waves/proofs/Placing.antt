-- What workers have grown, put at the numbers of the classes.
use Rattle.std.specs.Prelude.{Option, None, Some, IfSome, slice_set}
use Rattle.std.proofs.Common.{◌≡◌, ℕ, ◌<◌, List, ◌∷◌, ◌++◌, length, take, drop, get_or, replicate, sym, ap, ◌∙◌, subst, ⊎_elim, arith}
use Rattle.std.specs.List.{All}
use Rattle.std.proofs.lemmas.Bool.{cases_eq}
use Rattle.std.proofs.lemmas.List.Elements.{All-rest, All-head}
use Rattle.std.proofs.Math.Seq.{take-append_seam}
use Rattle.std.proofs.lemmas.List.{get_or-set_same, get_or-set_other, get_or-replicate, length-set, length-replicate}
use Rattle.network_model.specs.Network.{Network}
use Rattle.class_tree.specs.declared.class.Class.{Class}
use Rattle.class_tree.specs.declared.growth.Grown.{Grown}
use Rattle.class_tree.specs.Growth.{IsGrown}
use Rattle.frontier_waves.specs.declared.workers.Job.{Job}
use Rattle.frontier_waves.specs.Growths.{IsJob, AreJobs, AreReady}

pub none_ready : (net : Network) (hops stride : ℕ) (wave : List Class) (count : ℕ) → length wave ≡ count → AreReady net hops stride wave (replicate count None)
none_ready net hops stride wave count long = record {
  count = let none : Option Grown = None in length-replicate count none ∙ sym long;
  each = λ i d o inside. subst (λ (p : Option Grown). IfSome p (IsGrown net hops (get_or wave i d) stride)) (sym (get_or-replicate count i None o (omega arith))) tt;
}

pub placed : (net : Network) (hops stride : ℕ) (wave : List Class) (places : List (Option Grown)) (job : Job) → IsJob net hops stride wave job → AreReady net hops stride wave places
    → AreReady net hops stride wave (slice_set places job.number (Some job.grown))
placed net hops stride wave places job is ready = record {
  count = length-set places job.number (Some job.grown) ∙ ready.count;
  each = λ i d o inside. ⊎_elim
      (λ (same : i ≡ job.number).
      let here : get_or (slice_set places job.number (Some job.grown)) i o ≡ Some job.grown =
      ap (λ k. get_or (slice_set places job.number (Some job.grown)) k o) same ∙ get_or-set_same places job.number (Some job.grown) o (omega (arith, ready.count)) in
      subst (λ (p : Option Grown). IfSome p (IsGrown net hops (get_or wave i d) stride)) (sym here)
      (subst (λ k. IsGrown net hops (get_or wave k d) stride job.grown) (sym same) (is.grown d)))
      (λ other. subst (λ (p : Option Grown). IfSome p (IsGrown net hops (get_or wave i d) stride)) (sym (get_or-set_other places job.number i (Some job.grown) o other)) (ready.each i d o inside))
      (cases_eq i job.number);
}

-- one after another
pub placed_next : (net : Network) (hops stride : ℕ) (wave : List Class) (places : List (Option Grown)) (job : Job) (rest all : List Job) → all ≡ job ∷ rest
    → AreReady net hops stride wave places × AreJobs net hops stride wave all → AreReady net hops stride wave (slice_set places job.number (Some job.grown)) × AreJobs net hops stride wave rest
placed_next net hops stride wave places job rest all next both =
    let jobs : AreJobs net hops stride wave (job ∷ rest) = subst (λ (js : List Job). AreJobs net hops stride wave js) next both.1 in
    (placed net hops stride wave places job (All-head (IsJob net hops stride wave) job rest jobs) both.0, All-rest (IsJob net hops stride wave) job rest all next both.1)

pub long_next : (count : ℕ) (places : List (Option Grown)) (job : Job) → length places ≡ count → length (slice_set places job.number (Some job.grown)) ≡ count
long_next count places job long = length-set places job.number (Some job.grown) ∙ long

pub inside_next : (count : ℕ) (job : Job) (rest all : List Job) → all ≡ job ∷ rest → All (λ (j : Job). j.number < count) all → All (λ (j : Job). j.number < count) rest
inside_next count job rest all next each = All-rest (λ (j : Job). j.number < count) job rest all next each

-- a slice that was lent is written back
pub written_back : {A : Type 0} (len : ℕ) (new old : List A) → len ≡ length new → take len (new ++ drop (length new) old) ≡ new
written_back len new old size = ap (λ n. take n (new ++ drop (length new) old)) size ∙ take-append_seam new (drop (length new) old)
