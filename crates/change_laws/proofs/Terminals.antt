-- A terminal that a change leaves undisturbed has the same packets, entries and boxes.
use Rattle.std.specs.Prelude.{◌≡◌, ◌<◌, ℕ, List, Option, Some, None, IsSome, IsTrue}
use Rattle.std.proofs.Common.{refl, sym, ap, ◌∙◌, subst}
use Rattle.network_model.specs.Bits.{Header}
use Rattle.network_model.specs.Network.{value_at, Network, Terminal}
use Rattle.network_model.specs.Walk.{Walk}
use Rattle.network_model.specs.Classes.{permits, terminal_permits, walk_at, walk_from, Member}
use Rattle.network_model.specs.Prefixes.{stand_at, stand_from, Touches}
use Rattle.network_model.specs.Table.{Entry, IsClass}
use Rattle.network_model.specs.WellFormed.{IsWellFormed, FitsTerminal}
use Rattle.net_types.proofs.Maps.{All-value_at}
use Rattle.change_laws.proofs.Alike.{IsUndisturbed}
use Rattle.change_laws.specs.Unchanged.{IsUnchanged}
use Rattle.change_laws.proofs.Boxes.{same_box}
use Rattle.change_laws.proofs.Walks.{Alike, same_walk, same_stand, stands_inside}

module _ (a b : Network) (fits : IsWellFormed a) (hops terminal : ℕ) (calm : IsUndisturbed a b hops terminal) where
  -- it may send the same
  pub same_permits : (header : Header) → permits a terminal header ≡ permits b terminal header
  same_permits header = ap (λ o. terminal_permits o header) calm.same

  -- its packets come to boxes alone that act alike
  alike_from : (t : Terminal) → value_at a.terminals terminal ≡ Some t → (header : Header) → IsTrue (permits a terminal header) → Alike a b hops t.port header
  alike_from t is header permitted count place box below stands inside =
      calm.boxes box
      (record {
        header = header;
        permitted = permitted;
        count = count;
        within = below;
        place = place;
        stands = ap (λ o. stand_at a count o header) is ∙ stands;
        inside = inside;
      })

  -- its port is one
  starts_inside : (t : Terminal) → value_at a.terminals terminal ≡ Some t → IsSome (value_at a.ports t.port)
  starts_inside t is = (All-value_at (λ (s : ℕ × Terminal). FitsTerminal a s.1) a.terminals terminal t fits.placed is).port

  pub same_walks : (header : Header) → IsTrue (permits a terminal header) → walk_from a hops terminal header ≡ walk_from b hops terminal header
  same_walks header permitted = by_terminal (value_at a.terminals terminal) refl
    where
      by_terminal : (o : Option Terminal) → value_at a.terminals terminal ≡ o → walk_from a hops terminal header ≡ walk_from b hops terminal header
      by_terminal None is = ap (λ o. walk_at a hops o header) is ∙ ap (λ o. walk_at b hops o header) (sym is ∙ calm.same)
      by_terminal (Some t) is =
          ap (λ o. walk_at a hops o header) is
          ∙ same_walk a b fits hops t.port header (starts_inside t is) (alike_from t is header permitted)
          ∙ ap (λ o. walk_at b hops o header) (sym is ∙ calm.same)

  pub same_stands : (header : Header) → IsTrue (permits a terminal header) → (count : ℕ) → count < hops
      → stand_from a count terminal header ≡ stand_from b count terminal header
  same_stands header permitted count few = by_terminal (value_at a.terminals terminal) refl
    where
      by_terminal : (o : Option Terminal) → value_at a.terminals terminal ≡ o → stand_from a count terminal header ≡ stand_from b count terminal header
      by_terminal None is = ap (λ o. stand_at a count o header) is ∙ ap (λ o. stand_at b count o header) (sym is ∙ calm.same)
      by_terminal (Some t) is =
          ap (λ o. stand_at a count o header) is
          ∙ same_stand a b fits hops count t.port header few (starts_inside t is) (alike_from t is header permitted)
          ∙ ap (λ o. stand_at b count o header) (sym is ∙ calm.same)

  -- members of a class
  pub member_after : (rules : List ℕ) (to : ℕ) (header arrives : Header) → Member a hops terminal rules to header arrives → Member b hops terminal rules to header arrives
  member_after rules to header arrives m = record {
    permitted = subst IsTrue (same_permits header) m.permitted;
    travels = ap (λ (w : Walk). w.rules) (sym (same_walks header m.permitted)) ∙ m.travels;
    delivered = ap (λ (w : Walk). w.end) (sym (same_walks header m.permitted)) ∙ m.delivered;
  }

  pub member_before : (rules : List ℕ) (to : ℕ) (header arrives : Header) → Member b hops terminal rules to header arrives → Member a hops terminal rules to header arrives
  member_before rules to header arrives m =
      let permitted = subst IsTrue (sym (same_permits header)) m.permitted in
      record {
        permitted = permitted;
        travels = ap (λ (w : Walk). w.rules) (same_walks header permitted) ∙ m.travels;
        delivered = ap (λ (w : Walk). w.end) (same_walks header permitted) ∙ m.delivered;
      }

  -- boxes that its packets come to
  pub touches_after : (box : ℕ) → Touches a hops terminal box → Touches b hops terminal box
  touches_after box t = record {
    header = t.header;
    permitted = subst IsTrue (same_permits t.header) t.permitted;
    count = t.count;
    within = t.within;
    place = t.place;
    stands = sym (same_stands t.header t.permitted t.count t.within) ∙ t.stands;
    inside = ((calm.boxes box t).ports t.place.port).0 t.inside;
  }

  pub touches_before : (box : ℕ) → Touches b hops terminal box → Touches a hops terminal box
  touches_before box t = by_box (value_at a.ports t.place.port) refl (inside (value_at a.terminals terminal) refl stands_before)
    where
      permitted : IsTrue (permits a terminal t.header)
      permitted = subst IsTrue (sym (same_permits t.header)) t.permitted

      stands_before : stand_from a t.count terminal t.header ≡ Some t.place
      stands_before = same_stands t.header permitted t.count t.within ∙ t.stands

      inside : (o : Option Terminal) → value_at a.terminals terminal ≡ o → stand_from a t.count terminal t.header ≡ Some t.place → IsSome (value_at a.ports t.place.port)
      inside None is e = let none = sym e ∙ ap (λ o. stand_at a t.count o t.header) is in cc
      inside (Some s) is e =
          stands_inside a fits t.count s.port t.header t.place (starts_inside s is) (sym (ap (λ o. stand_at a t.count o t.header) is) ∙ e)

      own : (box : ℕ) → value_at a.ports t.place.port ≡ Some box → Touches a hops terminal box
      own box is = record { header = t.header; permitted = permitted; count = t.count; within = t.within; place = t.place; stands = stands_before; inside = is }

      by_box : (o : Option ℕ) → value_at a.ports t.place.port ≡ o → IsSome o → Touches a hops terminal box
      by_box None is some = cc
      by_box (Some other) is some =
          let there = ((calm.boxes other (own other is)).ports t.place.port).0 is in
          let same : Some other ≡ Some box = sym there ∙ t.inside in
          let one : other ≡ box = cc in
          subst (Touches a hops terminal) one (own other is)

-- its entries
pub class_after : (a b : Network) → IsWellFormed a → (hops : ℕ) (e : Entry) → IsUndisturbed a b hops e.from → IsClass a hops e → IsClass b hops e
class_after a b fits hops e calm class = record {
  least = member_after a b fits hops e.from calm e.rules e.to e.least e.arrives class.least;
  greatest = (class.greatest.0, member_after a b fits hops e.from calm e.rules e.to e.greatest class.greatest.0 class.greatest.1);
  between = λ header arrives m. class.between header arrives (member_before a b fits hops e.from calm e.rules e.to header arrives m);
}

pub class_before : (a b : Network) → IsWellFormed a → (hops : ℕ) (e : Entry) → IsUndisturbed a b hops e.from → IsClass b hops e → IsClass a hops e
class_before a b fits hops e calm class = record {
  least = member_before a b fits hops e.from calm e.rules e.to e.least e.arrives class.least;
  greatest = (class.greatest.0, member_before a b fits hops e.from calm e.rules e.to e.greatest class.greatest.0 class.greatest.1);
  between = λ header arrives m. class.between header arrives (member_after a b fits hops e.from calm e.rules e.to header arrives m);
}

-- a terminal that a change leaves as it was is undisturbed
pub undisturbed : (a b : Network) → IsWellFormed a → IsWellFormed b → (hops terminal : ℕ) → IsUnchanged a b hops terminal → IsUndisturbed a b hops terminal
undisturbed a b fits_a fits_b hops terminal unchanged = record {
  same = unchanged.same.same;
  boxes = λ box touches. same_box a b fits_a fits_b box (unchanged.boxes box touches);
}
