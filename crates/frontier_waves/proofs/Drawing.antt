-- What a worker has grown of a wave, one class more.
use Rattle.std.specs.Prelude.{if◌then◌else◌}
use Rattle.std.proofs.Common.{◌≡◌, ◌∙◌, ℕ, ◌<◌, Bool, true, false, List, [], ◌∷◌, ◌++◌, length, get_or, sym, subst}
use Rattle.std.proofs.lemmas.List.{get_or_default}
use Rattle.std.proofs.lemmas.List.Elements.{All-push}
use Rattle.network_model.specs.Network.{Network}
use Rattle.class_tree.specs.declared.class.Class.{Class}
use Rattle.class_tree.specs.Growth.{IsGrown}
use Rattle.frontier_waves.specs.declared.workers.Job.{Job}
use Rattle.frontier_waves.specs.Growths.{IsJob, AreJobs}

-- the class that stands at a number of the wave has grown
job_of : (net : Network) (hops stride : ℕ) (wave : List Class) (class : Class) (job : Job) → job.number < length wave → class ≡ get_or wave job.number class → IsGrown net hops class stride job.grown
    → IsJob net hops stride wave job
job_of net hops stride wave class job inside at is = record {
  inside = inside;
  grown = λ d. subst (λ (c : Class). IsGrown net hops c stride job.grown) (at ∙ get_or_default wave job.number class d inside) is;
}

-- it joins those that the worker has, or there is no memory for it
pub one_more : (net : Network) (hops stride : ℕ) (wave : List Class) (class : Class) (job : Job) (old new : List Job) (pushed : Bool) → AreJobs net hops stride wave old
    → job.number < length wave → class ≡ get_or wave job.number class → IsGrown net hops class stride job.grown → new ≡ (if pushed then old ++ job ∷ [] else old) → AreJobs net hops stride wave new
one_more net hops stride wave class job old new true are inside at is joined =
    subst (λ js. AreJobs net hops stride wave js) (sym joined) (All-push (IsJob net hops stride wave) old job are (job_of net hops stride wave class job inside at is))
one_more net hops stride wave class job old new false are inside at is joined = subst (λ js. AreJobs net hops stride wave js) (sym joined) are
