-- What a probe of a plan comes to in a field of its network.
use Rattle.std.specs.Prelude.{Result, Ok, Err, IfOk}
use Rattle.std.proofs.Common.{◌≡◌, ◌≢◌, ◌⊎◌, inl, inr, ℕ, zero, suc, ◌+◌, ◌^◌, ◌<◌, ◌≤◌, cond, ◌&&◌, Bool, true, false, nat_eq, List, [], ◌∷◌, ◌++◌, length, take, Option, None, Some, refl, sym, ap, ◌∙◌, subst, arith, length-append}
use Rattle.std.specs.List.{All, list_any}
use Rattle.std.specs.Ordering.{is_eq}
use Rattle.std.proofs.lemmas.Cmp.{nat_eq_equiv}
use Rattle.std.proofs.lemmas.List.{take_all}
use Rattle.std.proofs.lemmas.Option.{slice_get_within, get_or_from_slice_get}
use Rattle.byte_edges.specs.Links.{with_sent}
use Rattle.network_model.specs.Bits.{Header, header_cmp}
use Rattle.network_model.specs.Network.{Network}
use Rattle.network_model.specs.Table.{Entry, IsTable, IsClass}
use Rattle.network_model.specs.Cover.{entry_at}
use Rattle.network_model.specs.Plan.{Plan, IsPlan}
use Rattle.network_model.specs.Field.{field, arrival}
use Rattle.network_model.specs.Classes.{walk_from}
use Rattle.network_model.specs.WellFormed.{IsWellFormed}
use Rattle.network_model.proofs.SomeClass.{permitted_width}
use Rattle.network_model.proofs.HeaderOrder.{header_cmp_reflexive}
use Rattle.fault_model.specs.Outcomes as model
use Rattle.fault_model.specs.Follow.{arrives_as, verdict_of}
use Rattle.suspect_book.specs.declared.verdict.Verdict.TheVariants.{Pass, Fail}
use Rattle.probe_wire.specs.declared.probe.ProbeId.{ProbeId}
use Rattle.probe_wire.specs.declared.probe.Probe.{Probe}
use Rattle.probe_wire.specs.Packet.{packet, IsProbe}
use Rattle.probe_wire.specs.Carrying.{carried}
use Rattle.probe_wire.proofs.Carrying.{added-packet}
use Rattle.probe_wire.proofs.Fields.{length-fields}
use Rattle.probe_agents.specs.declared.shot.Shot.{Shot}
use Rattle.probe_agents.specs.declared.shot.Shot.TheVariants.{Sure, Faulted, Strays}
use Rattle.probe_agents.specs.Seeing.{Seen, GaveFirst, NoneWaits}
use Rattle.probe_agents.specs.Firing.{GaveAll, EndsAs, Fires, FiresFor, sent_for, sure}
use Rattle.probe_agents.specs.Sharing.{IsField}

-- the entry of a number is a class
class_at : (net : Network) (hops : ℕ) (table : List Entry) (n : ℕ) (e : Entry) → IsTable net hops table → entry_at table n ≡ Some e → IsClass net hops e
class_at net hops table zero e t is = absurd (cc)
class_at net hops table (suc n) e t is =
    subst (IsClass net hops) (get_or_from_slice_get table n e e is) (t.classes n e (slice_get_within table n e is))

-- its packet is as wide as the network
pub least_wide : (net : Network) (hops : ℕ) (table : List Entry) (n : ℕ) (e : Entry) → IsTable net hops table → IsWellFormed net → entry_at table n ≡ Some e → length e.least ≡ net.width
least_wide net hops table n e t fits is = permitted_width net fits e.from e.least (class_at net hops table n e t is).least.permitted

chosen : {A : Type 0} (lost : Bool) (o : Option A) (x : A) → o ≡ Some x → (cond lost None o ≡ None) ⊎ (cond lost None o ≡ Some x)
chosen true o x e = inl refl
chosen false o x e = inr e

-- it is lost, or arrives as the entry says
flies : (net : Network) (hops : ℕ) (bad : List ℕ) (e : Entry) → IsClass net hops e → (field net hops bad e.from e.least ≡ None) ⊎ (field net hops bad e.from e.least ≡ Some (e.to, e.arrives))
flies net hops bad e class =
    let w = walk_from net hops e.from e.least in
    chosen (list_any (λ r. list_any (nat_eq r) bad) w.rules) (arrival w.end) (e.to, e.arrives) (ap arrival class.least.delivered)

both_true : (a b : Bool) → a ≡ true → b ≡ true → (a && b) ≡ true
both_true a b p q = ap (λ (t : Bool). t && b) p ∙ q

arrives_own : (to : ℕ) (header : Header) → arrives_as (Some (to, header)) to header ≡ true
arrives_own to header = both_true (nat_eq to to) (is_eq (header_cmp header header)) (nat_eq_equiv.refl to) (ap is_eq (header_cmp_reflexive header))

verdict_lost : (net : Network) (hops : ℕ) (bad : List ℕ) (e : Entry) → field net hops bad e.from e.least ≡ None → sure (verdict_of net hops bad (Some e)) ≡ Sure Fail
verdict_lost net hops bad e lost = ap (λ (f : Option (ℕ × Header)). sure (cond (arrives_as f e.to e.arrives) model.Pass model.Fail)) lost

verdict_own : (net : Network) (hops : ℕ) (bad : List ℕ) (e : Entry) → field net hops bad e.from e.least ≡ Some (e.to, e.arrives) → sure (verdict_of net hops bad (Some e)) ≡ Sure Pass
verdict_own net hops bad e there =
    ap (λ (f : Option (ℕ × Header)). sure (cond (arrives_as f e.to e.arrives) model.Pass model.Fail)) there
    ∙ ap (λ (t : Bool). sure (cond t model.Pass model.Fail)) (arrives_own e.to e.arrives)

length-packet : (p : Probe) → length (packet p) ≡ 33
length-packet p = omega (arith, length-fields p)

-- nothing is given where nothing waits
gave_nothing : (term : ℕ) (bytes : List ℕ) (told after : Option (List (ℕ × List ℕ))) → told ≡ Some [] → GaveFirst term bytes told after → ⊥
gave_nothing term bytes None after is gave = absurd (cc)
gave_nothing term bytes (Some ws) after is gave =
    let first = gave.2 in
    let empty : ws ≡ [] = cc in
    let long : 0 ≡ length first.ahead + suc (length first.behind) = sym (ap length empty) ∙ ap length first.was ∙ length-append first.ahead ((term, first.packet) ∷ first.behind) in
    omega arith

second : List ℕ → List (ℕ × List ℕ) → List ℕ
second none [] = none
second none (w ∷ ws) = w.1

only : (term : ℕ) (a b : List ℕ) (ahead behind : List (ℕ × List ℕ)) → (term, a) ∷ [] ≡ ahead ++ (term, b) ∷ behind → (b ≡ a) × (ahead ++ behind ≡ [])
unfolding second
only term a b [] [] e = (ap (second a) (sym e), refl)
only term a b [] (w ∷ ws) e = absurd (omega (arith, ap length e))
only term a b (w ∷ ahead) behind e = absurd (omega (arith, ap length e, length-append ahead ((term, b) ∷ behind)))

-- where one packet of 64 bytes at most waits, it is given whole, and then nothing waits
gave_only : (term : ℕ) (a bytes : List ℕ) (told after : Option (List (ℕ × List ℕ))) → told ≡ Some ((term, a) ∷ []) → length a ≤ 64 → GaveFirst term bytes told after → (bytes ≡ a) × (after ≡ Some [])
gave_only term a bytes None after is small gave = absurd (cc)
gave_only term a bytes (Some ws) after is small gave =
    let first = gave.2 in
    let one : ws ≡ (term, a) ∷ [] = cc in
    let own = only term a first.packet first.ahead first.behind (sym one ∙ first.was) in
    (first.front ∙ ap (λ (b : List ℕ). take 64 b) own.0 ∙ take_all 64 a small, gave.1 ∙ ap (λ (rest : List (ℕ × List ℕ)). Some rest) (first.is ∙ own.1))

one_waits : (term : ℕ) (a : List ℕ) (told : Option (List (ℕ × List ℕ))) → told ≡ Some ((term, a) ∷ []) → NoneWaits term told → ⊥
one_waits term a None is none = absurd (cc)
one_waits term a (Some ws) is none =
    let one : ws ≡ (term, a) ∷ [] = cc in
    (subst (λ (ps : List (ℕ × List ℕ)). All (λ (p : ℕ × List ℕ). p.0 ≢ term) ps) one none) 0 (term, a) (omega arith) refl

-- the end of a wait where nothing waits, and where just the packet that is awaited waits
ends_lost : (term : ℕ) (awaited : List ℕ) (before after : Seen) (shot : Shot) → before.waiting ≡ Some [] → EndsAs term awaited 0 before after shot → shot ≢ Faulted
    → (shot ≡ Sure Fail) × (after.waiting ≡ Some [])
ends_lost term awaited before after (Sure Pass) empty ends sound = absurd (gave_nothing term awaited before.waiting after.waiting empty ends.1.waiting)
ends_lost term awaited before after (Sure Fail) empty ends sound = (refl, ends.1.waiting ∙ empty)
ends_lost term awaited before after Faulted empty ends sound = absurd (sound refl)
ends_lost term awaited before after Strays empty ends sound = absurd (omega (arith, ends.0))

ends_own : (term : ℕ) (awaited : List ℕ) (before after : Seen) (shot : Shot) → before.waiting ≡ Some ((term, awaited) ∷ []) → length awaited ≤ 64 → EndsAs term awaited 0 before after shot → shot ≢ Faulted
    → (shot ≡ Sure Pass) × (after.waiting ≡ Some [])
ends_own term awaited before after (Sure Pass) one small ends sound = (refl, (gave_only term awaited awaited before.waiting after.waiting one small ends.1.waiting).1)
ends_own term awaited before after (Sure Fail) one small ends sound = absurd (one_waits term awaited before.waiting one ends.1.none)
ends_own term awaited before after Faulted one small ends sound = absurd (sound refl)
ends_own term awaited before after Strays one small ends sound = absurd (omega (arith, ends.0))

waits_lost : (term : ℕ) (awaited : List ℕ) (strays : List (List ℕ)) (before between after : Seen) (shot : Shot) → before.waiting ≡ Some [] → GaveAll term strays before between
    → EndsAs term awaited (length strays) between after shot → shot ≢ Faulted → (shot ≡ Sure Fail) × (after.waiting ≡ Some [])
waits_lost term awaited [] before between after shot empty took ends sound =
    ends_lost term awaited between after shot (ap (λ (s : Seen). s.waiting) took ∙ empty) ends sound
waits_lost term awaited (stray ∷ strays) before between after shot empty took ends sound = absurd (gave_nothing term stray before.waiting took.0.waiting empty took.1.waiting)

waits_own : (term : ℕ) (awaited : List ℕ) (strays : List (List ℕ)) (before between after : Seen) (shot : Shot) → before.waiting ≡ Some ((term, awaited) ∷ []) → length awaited ≤ 64
    → All (λ (bytes : List ℕ). bytes ≢ awaited) strays → GaveAll term strays before between
    → EndsAs term awaited (length strays) between after shot → shot ≢ Faulted → (shot ≡ Sure Pass) × (after.waiting ≡ Some [])
waits_own term awaited [] before between after shot one small others took ends sound =
    ends_own term awaited between after shot (ap (λ (s : Seen). s.waiting) took ∙ one) small ends sound
waits_own term awaited (stray ∷ strays) before between after shot one small others took ends sound =
    absurd (others 0 stray (omega arith) (gave_only term awaited stray before.waiting took.0.waiting one small took.1.waiting).0)

after_sent : (told : Option (List (ℕ × List ℕ))) (more : List (ℕ × List ℕ)) → told ≡ Some [] → with_sent told more ≡ Some more
after_sent told more is = ap (λ (t : Option (List (ℕ × List ℕ))). with_sent t more) is

-- what is sent where nothing waits, and arrives nowhere or where it is awaited
fires_lost : (sender receiver : ℕ) (bytes awaited : List ℕ) (before after : Seen) (shot : Shot) → before.waiting ≡ Some [] → before.adds sender bytes ≡ []
    → Fires sender receiver bytes awaited before after shot → shot ≢ Faulted → (shot ≡ Sure Fail) × (after.waiting ≡ Some [])
fires_lost sender receiver bytes awaited before after shot empty lost (inr failed) sound = absurd (sound failed.0)
fires_lost sender receiver bytes awaited before after shot empty lost (inl fired) sound =
    let w = fired.waited in
    waits_lost receiver awaited w.strays fired.flying w.then_ after shot (fired.sent.waiting ∙ after_sent before.waiting (before.adds sender bytes) empty ∙ ap (λ (ws : List (ℕ × List ℕ)). Some ws) lost)
    w.took w.ends sound

fires_own : (sender receiver : ℕ) (bytes awaited : List ℕ) (before after : Seen) (shot : Shot) → before.waiting ≡ Some [] → before.adds sender bytes ≡ (receiver, awaited) ∷ [] → length awaited ≤ 64
    → Fires sender receiver bytes awaited before after shot → shot ≢ Faulted → (shot ≡ Sure Pass) × (after.waiting ≡ Some [])
fires_own sender receiver bytes awaited before after shot empty own small (inr failed) sound = absurd (sound failed.0)
fires_own sender receiver bytes awaited before after shot empty own small (inl fired) sound =
    let w = fired.waited in
    waits_own receiver awaited w.strays fired.flying w.then_ after shot (fired.sent.waiting ∙ after_sent before.waiting (before.adds sender bytes) empty ∙ ap (λ (ws : List (ℕ × List ℕ)). Some ws) own) small
    w.others w.took w.ends sound

-- over a field of the network
pub fires_in_field : (net : Network) (hops : ℕ) (bad : List ℕ) (id : ProbeId) (n : ℕ) (e : Entry) (before after : Seen) (shot : Shot) → IsClass net hops e → IsProbe (record { round = id.round; version = id.version; entry = n; header = e.least })
    → length e.least ≡ net.width → IsField net hops bad before → Fires e.from e.to (sent_for id n e.least) (sent_for id n e.arrives) before after shot → shot ≢ Faulted
    → (shot ≡ sure (verdict_of net hops bad (Some e))) × (after.waiting ≡ Some [])
fires_in_field net hops bad id n e before after shot class is wide tells fires sound =
    let p : Probe = record { round = id.round; version = id.version; entry = n; header = e.least } in
    let adds : before.adds e.from (packet p) ≡ carried p (field net hops bad e.from e.least) =
    (λ i. tells.adds i e.from (packet p)) ∙ added-packet net hops bad e.from p is wide in
    elim (flies net hops bad e class) as (λ _. (shot ≡ sure (verdict_of net hops bad (Some e))) × (after.waiting ≡ Some [])) [
      | inl lost ↦
          let end = fires_lost e.from e.to (packet p) (sent_for id n e.arrives) before after shot tells.waiting (adds ∙ ap (carried p) lost) fires sound in
          (end.0 ∙ sym (verdict_lost net hops bad e lost), end.1)
      | inr own ↦
          let small : length (sent_for id n e.arrives) ≤ 64 = omega (arith, length-packet (record { round = id.round; version = id.version; entry = n; header = e.arrives })) in
          let end = fires_own e.from e.to (packet p) (sent_for id n e.arrives) before after shot tells.waiting (adds ∙ ap (carried p) own) small fires sound in
          (end.0 ∙ sym (verdict_own net hops bad e own), end.1)
    ]

fires_entry : (net : Network) (hops : ℕ) (bad : List ℕ) (table : List Entry) (id : ProbeId) (n : ℕ) (before after : Seen) (shot : Shot) → IsTable net hops table → IsWellFormed net
    → id.round < 2 ^ 32 → id.version < 2 ^ 32 → n < 2 ^ 32 → IsField net hops bad before → (o : Option Entry) → entry_at table n ≡ o → FiresFor id n before after shot o → shot ≢ Faulted
    → (shot ≡ sure (verdict_of net hops bad o)) × (after.waiting ≡ Some [])
fires_entry net hops bad table id n before after shot t fits r v s tells None is fires sound = absurd fires
fires_entry net hops bad table id n before after shot t fits r v s tells (Some e) is fires sound =
    let wide = least_wide net hops table n e t fits is in
    fires_in_field net hops bad id n e before after shot (class_at net hops table n e t is) (r, v, s, omega (arith, wide, fits.width.0), omega (arith, wide, fits.width.1)) wide tells fires sound

-- the shot over a field that is not faulted
pub field_shot : {E : Type 0} (net : Network) (hops : ℕ) (bad : List ℕ) (plan : Plan) (id : ProbeId) (n : ℕ) (before after : Seen) (result : Result Shot E) → IsPlan net hops plan → IsWellFormed net
    → id.round < 2 ^ 32 → id.version < 2 ^ 32 → n < 2 ^ 32 → IsField net hops bad before → IfOk result (λ shot. FiresFor id n before after shot (entry_at plan.table n))
    → IfOk result (λ shot. shot ≢ Faulted → (shot ≡ sure (verdict_of net hops bad (entry_at plan.table n))) × (after.waiting ≡ Some []))
field_shot net hops bad plan id n before after (Err e) is fits r v s tells fires = tt
field_shot net hops bad plan id n before after (Ok shot) is fits r v s tells fires = λ sound.
    fires_entry net hops bad plan.table id n before after shot is.table fits r v s tells (entry_at plan.table n) refl fires sound
