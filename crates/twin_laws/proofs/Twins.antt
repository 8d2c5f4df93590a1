-- Twins send the same headers, and these walk alike.
use Rattle.std.specs.Prelude.{◌≡◌, ℕ, zero, suc, List, [], Option, Some, None}
use Rattle.std.proofs.Common.{refl, sym, ap, ◌∙◌}
use Rattle.network_model.specs.Bits.{Header}
use Rattle.network_model.specs.Network.{value_at, Network, hit}
use Rattle.network_model.specs.Walk.{Walk, walk, step, Stand, stand, step_stand}
use Rattle.network_model.specs.Classes.{permits, terminal_permits, walk_at, walk_from, Member}
use Rattle.network_model.specs.Prefixes.{stand_at, stand_from, IsPrefix, Touches}
use Rattle.network_model.specs.Table.{Entry, IsClass}
use Rattle.twin_laws.specs.Twins.{AreTwins, as_from}
use Rattle.twin_laws.proofs.Hits.{same_hit}

pub swapped : (net : Network) (a b : ℕ) → AreTwins net a b → AreTwins net b a
swapped net a b t = record {
  first = t.second;
  first_there = t.second_there;
  first_sends = t.second_sends;
  second = t.first;
  second_there = t.first_there;
  second_sends = t.first_sends;
  permits = sym t.permits;
  forbids = sym t.forbids;
  box = t.box;
  first_inside = t.second_inside;
  second_inside = t.first_inside;
  first_unnamed = t.second_unnamed;
  second_unnamed = t.first_unnamed;
}

pub hits : (net : Network) (a b : ℕ) (header : Header) (t : AreTwins net a b) → hit net t.first.port header ≡ hit net t.second.port header
hits net a b header t = same_hit net t.box t.first.port t.second.port t.first_inside t.second_inside t.first_unnamed t.second_unnamed header

walks_alike : (net : Network) (a b : ℕ) (t : AreTwins net a b) (hops : ℕ) (header : Header) → walk net hops t.first.port header ≡ walk net hops t.second.port header
walks_alike net a b t zero header = refl
walks_alike net a b t (suc hops) header = ap (λ o. step net (walk net hops) header o) (hits net a b header t)

stands_alike : (net : Network) (a b : ℕ) (t : AreTwins net a b) (count : ℕ) (header : Header)
    → stand net (suc count) t.first.port header ≡ stand net (suc count) t.second.port header
stands_alike net a b t count header = ap (λ o. step_stand net (stand net count) header o) (hits net a b header t)

pub same_permits : (net : Network) (a b : ℕ) (header : Header) → AreTwins net a b → permits net a header ≡ permits net b header
same_permits net a b header t =
    ap (λ o. terminal_permits o header) t.first_there ∙ (both ∙ sym (ap (λ o. terminal_permits o header) t.second_there))
  where
    both : terminal_permits (Some t.first) header ≡ terminal_permits (Some t.second) header
    both = rw (t.first_sends, t.second_sends, t.permits, t.forbids) refl

pub same_walks : (net : Network) (hops a b : ℕ) (header : Header) → AreTwins net a b → walk_from net hops a header ≡ walk_from net hops b header
same_walks net hops a b header t =
    ap (λ o. walk_at net hops o header) t.first_there
    ∙ (walks_alike net a b t hops header ∙ sym (ap (λ o. walk_at net hops o header) t.second_there))

pub member_of_twin : (net : Network) (hops a b to : ℕ) (rules : List ℕ) (header arrives : Header) → AreTwins net a b → Member net hops a rules to header arrives
    → Member net hops b rules to header arrives
member_of_twin net hops a b to rules header arrives t m =
    let walks : walk_from net hops b header ≡ walk_from net hops a header = sym (same_walks net hops a b header t) in record {
      permitted = sym (same_permits net a b header t) ∙ m.permitted;
      travels = ap (λ (w : Walk). w.rules) walks ∙ m.travels;
      delivered = ap (λ (w : Walk). w.end) walks ∙ m.delivered;
    }

pub prefix_of_twin : (net : Network) (hops a b : ℕ) (rules : List ℕ) → AreTwins net a b → IsPrefix net hops a rules → IsPrefix net hops b rules
prefix_of_twin net hops a b rules t p = record {
  few = p.few;
  header = p.header;
  permitted = sym (same_permits net a b p.header t) ∙ p.permitted;
  rest = p.rest;
  begins = sym (ap (λ (w : Walk). w.rules) (same_walks net hops a b p.header t)) ∙ p.begins;
}

-- both come to their own box first, and then stand at one place
pub touches_of_twin : (net : Network) (hops a b box : ℕ) → AreTwins net a b → Touches net hops a box → Touches net hops b box
touches_of_twin net hops a b box t touches =
    let place = place_of touches.count touches.place touches.stands touches.inside in record {
      header = touches.header;
      permitted = sym (same_permits net a b touches.header t) ∙ touches.permitted;
      count = touches.count;
      within = touches.within;
      place = place.0;
      stands = place.1;
      inside = place.2;
    }
  where
    header : Header
    header = touches.header

    own : (o : Option Stand) (count : ℕ) → stand_from net count a header ≡ o → stand net count t.first.port header ≡ o
    own o count is = sym (ap (λ s. stand_at net count s header) t.first_there) ∙ is

    there : (count : ℕ) → stand_from net count b header ≡ stand net count t.second.port header
    there count = ap (λ s. stand_at net count s header) t.second_there

    place_of : (count : ℕ) (place : Stand) → stand_from net count a header ≡ Some place → value_at net.ports place.port ≡ Some box
        → (other : Stand) × (stand_from net count b header ≡ Some other) × (value_at net.ports other.port ≡ Some box)
    place_of zero place stands inside =
        let at : t.first.port ≡ place.port = ap (λ (o : Option Stand). port_or t.first.port o) (own (Some place) zero stands) in
        let box_there : Some t.box ≡ Some box = sym t.first_inside ∙ (ap (λ p. value_at net.ports p) at ∙ inside) in
        (record { rules = []; port = t.second.port; header = header }, there zero, t.second_inside ∙ box_there)
      where
        port_or : ℕ → Option Stand → ℕ
        port_or p None = p
        port_or p (Some s) = s.port
    place_of (suc count) place stands inside =
        (place, there (suc count) ∙ (sym (stands_alike net a b t count header) ∙ own (Some place) (suc count) stands), inside)

pub class_of_twin : (net : Network) (hops b : ℕ) (e : Entry) → AreTwins net e.«from» b → IsClass net hops e → IsClass net hops (as_from b e)
class_of_twin net hops b e t class = record {
  least = member_of_twin net hops e.«from» b e.to e.rules e.least e.arrives t class.least;
  greatest = (class.greatest.0, member_of_twin net hops e.«from» b e.to e.rules e.greatest class.greatest.0 t class.greatest.1);
  between = λ header arrives m. class.between header arrives (member_of_twin net hops b e.«from» e.to e.rules header arrives (swapped net e.«from» b t) m);
}

pub class_from_twin : (net : Network) (hops b : ℕ) (e : Entry) → AreTwins net e.«from» b → IsClass net hops (as_from b e) → IsClass net hops e
class_from_twin net hops b e t class = class_of_twin net hops e.«from» (as_from b e) (swapped net e.«from» b t) class
