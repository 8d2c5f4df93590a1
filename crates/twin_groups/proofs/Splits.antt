-- Terminals taken one after another: one that is skipped, one that is a twin, and one that leads.
use Rattle.std.proofs.Common.{◌≡◌, ◌≢◌, ℕ, ◌+◌, ◌<◌, List, [], ◌∷◌, ◌++◌, length, take, get_or, sym, ap, ◌∙◌, subst, ⊎_elim, arith}
use Rattle.std.specs.List.{AllPairs, Contains}
use Rattle.std.proofs.lemmas.List.{take_more, get_or-take, length-take}
use Rattle.std.proofs.lemmas.List.Elements.{All-contains, All-push, All-weaker, Contains-append_left, Contains-push, Contains-push_cases}
use Rattle.list_laws.proofs.Members.{Contains-nil, Contains-one}
use Rattle.list_laws.proofs.Pairs.{AllPairs-append}
use Rattle.network_model.specs.Network.{Network}
use Rattle.twin_laws.specs.Twins.{AreTwins}
use Rattle.twin_groups.specs.Splits.{IsOpenAt, AreSplit}

pub split_none : (net : Network) → AreSplit net [] [] []
split_none net = record {
  twinned = record {
    alike = λ k d inside. absurd (omega arith);
    first_there = λ k d inside. absurd (omega arith);
    other_there = λ k d inside. absurd (omega arith);
    once = λ i j d less inside. absurd (omega arith);
    excluded = λ t u in_t in_u. absurd (Contains-nil t in_t);
  };
  opened = λ k d inside. absurd (omega arith);
  leads_there = λ k d inside. absurd (omega arith);
  led = λ t there. absurd (Contains-nil t there);
  excluded = λ t l in_t in_l. absurd (Contains-nil t in_t);
}

module _ (net : Network) (done : List ℕ) (terminal : ℕ) (fresh : Contains done terminal → ⊥) (leads twins : List (ℕ × ℕ)) (is : AreSplit net done leads twins) where
  abbrev more : List ℕ
  more = done ++ terminal ∷ []

  still : (t : ℕ) → Contains done t → Contains more t
  still t there = Contains-append_left done (terminal ∷ []) t there

  first_in : (t : ℕ × ℕ) → Contains twins t → Contains done t.0
  first_in t there = All-contains (λ (u : ℕ × ℕ). Contains done u.0) twins t is.twinned.first_there there

  other_in : (t : ℕ × ℕ) → Contains twins t → Contains done t.1
  other_in t there = All-contains (λ (u : ℕ × ℕ). Contains done u.1) twins t is.twinned.other_there there

  lead_in : (l : ℕ × ℕ) → Contains leads l → Contains done l.1
  lead_in l there = All-contains (λ (u : ℕ × ℕ). Contains done u.1) leads l is.leads_there there

  not_it : (t : ℕ) → Contains done t → t ≢ terminal
  not_it t there same = fresh (subst (λ s. Contains done s) same there)

  pub split_skip : AreSplit net more leads twins
  split_skip = record {
    twinned = record {
      alike = is.twinned.alike;
      first_there = All-weaker (λ (t : ℕ × ℕ). Contains done t.0) (λ (t : ℕ × ℕ). Contains more t.0) (λ t there. still t.0 there) twins is.twinned.first_there;
      other_there = All-weaker (λ (t : ℕ × ℕ). Contains done t.1) (λ (t : ℕ × ℕ). Contains more t.1) (λ t there. still t.1 there) twins is.twinned.other_there;
      once = is.twinned.once;
      excluded = is.twinned.excluded;
    };
    opened = is.opened;
    leads_there = All-weaker (λ (l : ℕ × ℕ). Contains done l.1) (λ (l : ℕ × ℕ). Contains more l.1) (λ l there. still l.1 there) leads is.leads_there;
    led = is.led;
    excluded = is.excluded;
  }

  pub split_lead : (box : ℕ) → IsOpenAt net box terminal → AreSplit net more (leads ++ (box, terminal) ∷ []) twins
  split_lead box opens = record {
    twinned = split_skip.twinned;
    opened = All-push (λ (l : ℕ × ℕ). IsOpenAt net l.0 l.1) leads (box, terminal) is.opened opens;
    leads_there = All-push (λ (l : ℕ × ℕ). Contains more l.1) leads (box, terminal) split_skip.leads_there (Contains-push done terminal);
    led = λ t there. let own = is.led t there in (own.0, Contains-append_left leads ((box, terminal) ∷ []) (own.0, t.0) own.1);
    excluded = λ t l in_t in_l. ⊎_elim
        (λ (earlier : Contains leads l). is.excluded t l in_t earlier)
        (λ (last : (box, terminal) ≡ l).
        let at : terminal ≡ l.1 = ap (λ (p : ℕ × ℕ). p.1) last in
        (λ (same : l.1 ≡ t.1). not_it t.1 (other_in t in_t) (sym (at ∙ same))))
        (Contains-push_cases leads (box, terminal) l in_l);
  }

  pub split_other : (box lead : ℕ) → Contains leads (box, lead) → AreTwins net lead terminal → AreSplit net more leads (twins ++ (lead, terminal) ∷ [])
  split_other box lead there alike = record {
    twinned = record {
      alike = All-push (λ (t : ℕ × ℕ). AreTwins net t.0 t.1) twins pair is.twinned.alike alike;
      first_there = All-push (λ (t : ℕ × ℕ). Contains more t.0) twins pair split_skip.twinned.first_there (still lead lead_there);
      other_there = All-push (λ (t : ℕ × ℕ). Contains more t.1) twins pair split_skip.twinned.other_there (Contains-push done terminal);
      once = AllPairs-append (λ (t u : ℕ × ℕ). t.1 ≢ u.1) twins (pair ∷ []) is.twinned.once (λ i j d less inside. absurd (omega arith))
          (λ t u in_t in_u same. not_it t.1 (other_in t in_t) (same ∙ ap (λ (p : ℕ × ℕ). p.1) (Contains-one pair u in_u)));
      excluded = λ t u in_t in_u. ⊎_elim
          (λ (old_t : Contains twins t). ⊎_elim
          (λ (old_u : Contains twins u). is.twinned.excluded t u old_t old_u)
          (λ (new_u : pair ≡ u). apart_from t.0 u (first_in t old_t) new_u)
          (Contains-push_cases twins pair u in_u))
          (λ (new_t : pair ≡ t).
          let first : lead ≡ t.0 = ap (λ (p : ℕ × ℕ). p.0) new_t in ⊎_elim
          (λ (old_u : Contains twins u). (λ (same : t.0 ≡ u.1). is.excluded u (box, lead) old_u there (first ∙ same)))
          (λ (new_u : pair ≡ u). apart_from t.0 u (subst (λ s. Contains done s) first lead_there) new_u)
          (Contains-push_cases twins pair u in_u))
          (Contains-push_cases twins pair t in_t);
    };
    opened = is.opened;
    leads_there = split_skip.leads_there;
    led = λ t in_t. ⊎_elim
        (λ (old : Contains twins t). is.led t old)
        (λ (new : pair ≡ t). (box, subst (λ s. Contains leads (box, s)) (ap (λ (p : ℕ × ℕ). p.0) new) there))
        (Contains-push_cases twins pair t in_t);
    excluded = λ t l in_t in_l. ⊎_elim
        (λ (old : Contains twins t). is.excluded t l old in_l)
        (λ (new : pair ≡ t). apart_from l.1 t (lead_in l in_l) new)
        (Contains-push_cases twins pair t in_t);
  }
    where
      pair : ℕ × ℕ
      pair = (lead, terminal)

      lead_there : Contains done lead
      lead_there = lead_in (box, lead) there

      apart_from : (s : ℕ) (u : ℕ × ℕ) → Contains done s → pair ≡ u → s ≢ u.1
      apart_from s u in_s new same = not_it s in_s (same ∙ sym (ap (λ (p : ℕ × ℕ). p.1) new))

-- ---- the terminal at a place of a list

fresh_at : (terminals : List ℕ) (i terminal : ℕ) → i < length terminals → get_or terminals i terminal ≡ terminal → AllPairs (λ (a b : ℕ). a ≢ b) terminals
    → Contains (take i terminals) terminal → ⊥
fresh_at terminals i terminal inside at apart there =
    let k = there.0 in
    let before : k < i = omega (arith, there.1, length-take i terminals) in
    apart k i terminal before inside (sym (get_or-take i terminals k terminal before) ∙ (there.2 ∙ sym at))

pub next_split : (net : Network) (terminals : List ℕ) (i terminal : ℕ) → i < length terminals → get_or terminals i terminal ≡ terminal → AllPairs (λ (a b : ℕ). a ≢ b) terminals
    → (leads twins new_leads new_twins : List (ℕ × ℕ)) → AreSplit net (take i terminals) leads twins
    → ((done : List ℕ) → (Contains done terminal → ⊥) → AreSplit net done leads twins → AreSplit net (done ++ terminal ∷ []) new_leads new_twins)
    → AreSplit net (take (i + 1) terminals) new_leads new_twins
next_split net terminals i terminal inside at apart leads twins new_leads new_twins is go_on =
    subst (λ done. AreSplit net done new_leads new_twins) (sym (take_more terminals i terminal inside ∙ ap (λ t. take i terminals ++ t ∷ []) at))
    (go_on (take i terminals) (fresh_at terminals i terminal inside at apart) is)
