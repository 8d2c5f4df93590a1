use Rattle.std.proofs.Common.{◌≡◌, ◌<◌, ◌≤◌, List, ◌+◌, ◌∷◌, drop, Some, sym, ap, ◌∙◌, arith, subst}
use Rattle.std.specs.List.{slice_get}
use Rattle.std.proofs.lemmas.List.{drop_all}
use Rattle.list_laws.proofs.Places.{drop_found}
use Rattle.net_text.specs.Declarations.{Declaration, DeclareLink}
use Rattle.net_text.specs.Printing.{links_of}
use Rattle.net_text.proofs.Appending.{Appending, Appending-more, Appending-end}
use Rattle.net_text.proofs.Parted.{links-lower, links-upper}
use Rattle.net_text.proofs.printing.put_links.Goals as goal
use Rattle.net_text.proofs.printing.put_links.Goals.{then-get+in_ok-put_link, else-get}

pub loop-place-preserved : goal.loop-place-preserved
loop-place-preserved c =
    let links = c.args.net.now.links in
    let i = c.loop-place.place in
    let old = c.args.text.now.items in
    let link = c.unwrap-port.result in
    let found : slice_get links i ≡ Some link = sym c.link_at.ensures ∙ c.unwrap-port.ensures in
    let left : links_of (drop i links) ≡ links_of (link ∷ drop (i + 1) links) = ap links_of (drop_found links i link found) in
    let Left : List Declaration → Type 0 = λ ds. Appending old (links_of links) c.loop-place.text.items ds in
    elim c.if-get.branch [
      | then-get+in_ok-put_link w ↦
          let lower : link.0 < link.1 = omega (arith, w.if-get.true, c.get.ensures, c.get-in-loop-place.ensures) in
          rw w.text-is
          (Appending-more old (links_of links) _ _ (DeclareLink link.0 link.1) (links_of (drop (i + 1) links))
          (subst Left (left ∙ links-lower link (drop (i + 1) links) lower) c.loop-place.invariant) w.in_ok-put_link.ensures)
      | else-get w ↦
          let upper : link.1 ≤ link.0 = omega (arith, w.if-get.false, c.get.ensures, c.get-in-loop-place.ensures) in
          rw w.text-is (subst Left (left ∙ links-upper link (drop (i + 1) links) upper) c.loop-place.invariant)
    ]

pub returns : goal.returns
returns c =
    let links = c.args.net.now.links in
    let Left : List Declaration → Type 0 = λ ds. Appending c.args.text.now.items (links_of links) c.loop-place.text.items ds in
    Appending-end c.args.text.now.items (links_of links) c.loop-place.text.items
    (subst Left (ap links_of (drop_all c.loop-place.place links (omega (arith, c.link_count-place-end.ensures)))) c.loop-place.invariant)
