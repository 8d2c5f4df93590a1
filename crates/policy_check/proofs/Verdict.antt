-- What the search finds in all headers of a policy.
use Rattle.std.proofs.Common.{◌≡◌, ◌≢◌, ℕ, Bool, true, false, ◌↔◌, ◌⊎◌, inl, inr, Option, None, Some, IsTrue, refl, sym, ap, subst, ◌∙◌, length}
use Rattle.std.proofs.lemmas.Bool.{true≢false, and_parts}
use Rattle.std.specs.declared.cmp.Ordering.TheVariants.{Less}
use Rattle.network_model.specs.Bits.{Header, matches, header_cmp}
use Rattle.network_model.specs.Rewrites.{Rewrite, rewritten, kept}
use Rattle.network_model.specs.Network.{value_at, Network, Role, Terminal}
use Rattle.network_model.specs.Walk.{walk}
use Rattle.network_model.specs.Classes.{permits, walk_at}
use Rattle.network_model.proofs.RewriteLaws.{rewritten-kept}
use Rattle.network_model.proofs.SomeClass.{matching_length}
use Rattle.net_types.specs.Terminals.{place_of}
use Rattle.header_sets.specs.Spaces.{holds}
use Rattle.policy_check.specs.declared.policy.Policy.{Policy}
use Rattle.policy_check.specs.declared.search.Part.{Part}
use Rattle.policy_check.specs.Policies.{meets, obeys, is_of, AllObey, Breaks, IsLeastBreach}
use Rattle.policy_check.specs.Outcomes.{BreaksFrom}
use Rattle.policy_check.specs.Narrowing.{IsUpTo, IsNarrowed}
use Rattle.policy_check.proofs.Narrowed.{narrowed_same}
use Rattle.network_model.proofs.HeaderOrder.{header_cmp_least}

-- where a terminal stands
pub terminal_placed : (o : Option Terminal) (place : ℕ × Role) → place_of o ≡ Some place → (t : Terminal) × (o ≡ Some t) × (place.0 ≡ t.port)
terminal_placed None place e = cc
terminal_placed (Some t) place e = let same : (t.port, t.role) ≡ place = cc in (t, refl, ap (λ (p : ℕ × Role). p.0) (sym same))

-- headers of a policy are kept as they are by the rewrite that keeps each bit
pub sent_kept : (net : Network) (policy : Policy) (rewrite : Rewrite) → rewrite ≡ kept net.width → length policy.pattern ≡ net.width
    → (h : Header) → is_of net policy h ≡ true → rewritten rewrite h ≡ h
sent_kept net policy rewrite keeps wide h of =
    let width : net.width ≡ length h = sym wide ∙ sym (matching_length policy.pattern h (and_parts (permits net policy.«from» h) (matches policy.pattern h) of).1) in
    ap (λ (r : Rewrite). rewritten r h) (keeps ∙ ap kept width) ∙ rewritten-kept h

module _ (net : Network) (hops : ℕ) (policy : Policy) where
  -- no header of the policy
  pub none_obeys : ((h : Header) → is_of net policy h ≡ false) → AllObey net hops policy
  none_obeys none h of = absurd (true≢false (sym of ∙ none h))

  module _ (found : Option Header) (narrowed : IsNarrowed (Breaks net hops policy) None found) where
    found_breaks : (h : Header) → found ≡ Some h → Breaks net hops policy h
    found_breaks h e = from (narrowed.sound h e)
      where
        from : (None ≡ Some h) ⊎ Breaks net hops policy h → Breaks net hops policy h
        from (inl never) = absurd (cc)
        from (inr breaks) = breaks

    found_least : (h : Header) → found ≡ Some h → (other : Header) → Breaks net hops policy other → header_cmp other h ≢ Less
    found_least h e other breaks = let up : IsUpTo (Some h) other = subst (λ (o : Option Header). IsUpTo o other) e (narrowed.all other breaks) in up

    pub least_found : (h : Header) → (found ≡ Some h) ↔ IsLeastBreach net hops policy h
    least_found h = (λ e. record { breaks = found_breaks h e; least = found_least h e }, λ is. by_found found refl (narrowed.all h is.breaks) is)
      where
        by_found : (o : Option Header) → found ≡ o → IsUpTo o h → IsLeastBreach net hops policy h → found ≡ Some h
        by_found None e up is = absurd up
        by_found (Some f) e up is = e ∙ ap (λ (g : Header). Some g) (header_cmp_least f h (is.least f (found_breaks f e)) up)

    pub none_found : (found ≡ None) ↔ AllObey net hops policy
    none_found = (λ e h of. by_test e h of (obeys net hops policy h) refl, λ all. by_found found refl all)
      where
        by_test : found ≡ None → (h : Header) → IsTrue (is_of net policy h) → (b : Bool) → obeys net hops policy h ≡ b → obeys net hops policy h ≡ true
        by_test none h of true is = is
        by_test none h of false is = let up : IsUpTo None h = subst (λ (o : Option Header). IsUpTo o h) none (narrowed.all h (of, is)) in absurd up

        by_found : (o : Option Header) → found ≡ o → AllObey net hops policy → found ≡ None
        by_found None e all = e
        by_found (Some f) e all = let b = found_breaks f e in absurd (true≢false (sym (all f b.0) ∙ b.1))

  -- the headers at the terminal's port
  pub breaks_sent : (t : Terminal) → value_at net.terminals policy.«from» ≡ Some t → (part : Part) → part.port ≡ t.port
      → ((h : Header) → holds part.space h ≡ is_of net policy h) → ((h : Header) → IsTrue (holds part.space h) → rewritten part.rewrite h ≡ h)
      → (old new : Option Header) → IsNarrowed (BreaksFrom net policy hops part) old new → IsNarrowed (Breaks net hops policy) old new
  breaks_sent t there part port set kept old new =
      narrowed_same (BreaksFrom net policy hops part) (Breaks net hops policy) old new
      (λ h p. (sym (set h) ∙ p.0, sym (same h p.0) ∙ p.1))
      (λ h p. let held = set h ∙ p.0 in (held, same h held ∙ p.1))
    where
      same : (h : Header) → IsTrue (holds part.space h) → meets net policy.demand policy.to (walk net hops part.port (rewritten part.rewrite h)) ≡ obeys net hops policy h
      same h held =
          ap (λ p. meets net policy.demand policy.to (walk net hops p (rewritten part.rewrite h))) port
          ∙ ap (λ g. meets net policy.demand policy.to (walk net hops t.port g)) (kept h held)
          ∙ ap (λ o. meets net policy.demand policy.to (walk_at net hops o h)) (sym there)
