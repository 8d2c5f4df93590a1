use Rattle.std.proofs.Common.{◌≡◌, ◌∙◌, None, List, [], ◌∷◌, ◌++◌, map, refl, sym, ap, subst, append_assoc}
use Rattle.std.proofs.lemmas.List.{map-append}
use Rattle.atpgd.specs.Doors.{AreOpened}
use Rattle.atpgd.specs.declared.serve.Worker.{Worker}
use Rattle.atpgd.proofs.Opened.{opened_more}
use Rattle.atpgd.proofs.daemon.workers_of.Goals as goal

-- one more at the end, which stood first among the rest
one_over : {W P : Type 0} (f : W → P) (before after : List W) (w : W) (x : P) (rest all whole : List P) → after ≡ before ++ w ∷ [] → f w ≡ x → all ≡ x ∷ rest → map f before ++ all ≡ whole → map f after ++ rest ≡ whole
one_over f before after w x rest all whole pushed is next so =
    ap (λ l. map f l ++ rest) pushed ∙ (ap (λ l. l ++ rest) (map-append f before (w ∷ [])) ∙ (append_assoc (map f before) (f w ∷ []) rest ∙ (ap (λ y. map f before ++ (y ∷ rest)) is ∙ (ap (λ l. map f before ++ l) (sym next) ∙ so))))

pub loop-pass-preserved : goal.loop-pass-preserved
loop-pass-preserved g c =
    let h = c.loop-pass.invariant in
    let before : List (Worker g.row.H-Made.Denot) = c.loop-pass.workers.items in
    let after : List (Worker g.row.H-Made.Denot) = c.push.new.self.items in
    let w : Worker g.row.H-Made.Denot = record { door = c.in_ok-door.door; pass = c.in-Some.pass; ended = None } in
    let pushed : after ≡ before ++ w ∷ [] = c.in-Ok.ensures.items in
    let passes = one_over (λ (w : Worker g.row.H-Made.Denot). w.pass) before after w c.in-Some.pass c.next.new.self.rest.items c.loop-pass.pass-iterator.rest.items c.args.passes.items pushed refl c.in-Some.ensures.steps.0 h.2 in
    let doors = opened_more (g.H.Harbour.doors c.args.harbour.now) (g.H.Harbour.doors c.loop-pass.harbour) (g.H.Harbour.doors c.open.new.self) (map (λ (w : Worker g.row.H-Made.Denot). w.door) before) c.in_ok-door.door h.3 c.in_ok-door.ensures.first in
    let longer : map (λ (w : Worker g.row.H-Made.Denot). w.door) after ≡ map (λ (w : Worker g.row.H-Made.Denot). w.door) before ++ c.in_ok-door.door ∷ [] =
    ap (λ (l : List (Worker g.row.H-Made.Denot)). map (λ (w : Worker g.row.H-Made.Denot). w.door) l) pushed ∙ map-append (λ (w : Worker g.row.H-Made.Denot). w.door) before (w ∷ []) in (
      tt,
      tt,
      passes,
      subst (λ (l : List g.row.H-Made.Denot). AreOpened (g.H.Harbour.doors c.args.harbour.now) l (g.H.Harbour.doors c.open.new.self)) (sym longer) doors,
      c.in_ok-door.ensures.steady ∙ h.4,
    )
