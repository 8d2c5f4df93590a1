-- The words of a rule, one after another.
use Rattle.std.proofs.Common.{◌≡◌, ℕ, ◌<◌, ◌≤◌, Bool, false, ◌||◌, ◌&&◌, List, [], ◌∷◌, length, map, get_or, take, drop, ◌-◌, Option, Bor, sym, ap, ◌∙◌, refl, codes, ltb, arith}
use Rattle.std.specs.Str.{bytes_eq}
use Rattle.std.proofs.lemmas.Bool.{cond-false}
use Rattle.std.proofs.lemmas.List.{length-map, length-drop, take_all}
use Rattle.network_model.specs.Bits.{Pattern}
use Rattle.network_model.specs.Rewrites.{Rewrite}
use Rattle.network_model.specs.Network.{InPort, Numbered}
use Rattle.net_text.specs.declared.fault.TextFault.{TextFault}
use Rattle.net_text.specs.declared.fault.TextFault.TheVariants as faults
use Rattle.net_text.specs.declared.version.Version.{Version}
use Rattle.net_text.specs.Declarations.{Outcome, Good, Bad, and_then, numeral, letters, in_port, out_port, rewrite, action, rule_of}

-- a rule from what its words say
abbrev pub rule_from : Outcome ℕ → Outcome ℕ → Outcome ℕ → Outcome InPort → Outcome Pattern → Outcome (Option ℕ) → (Pattern → Outcome Rewrite) → Outcome Numbered
rule_from id box priority inp pattern out moves =
    and_then id (λ id. and_then box (λ box. and_then priority (λ priority. and_then inp (λ inp. and_then pattern (λ pattern. and_then out (λ out.
    and_then (moves pattern) (λ moves. Good (id, record { at = box; priority = priority; inp = inp; pattern = pattern; action = action out moves }))))))))

abbrev pub Words : Type 0
Words = List (Bor (List ℕ))

abbrev pub texts : Words → List (List ℕ)
texts ws = map (λ w. w.now) ws

abbrev pub too_long : List ℕ → ℕ → Bool
too_long out more = ltb 1 more || (bytes_eq out (codes "drop") && ltb 0 more)

pub few_words : (version : Version) (ws : Words) → length ws < 6 → rule_of version (texts ws) ≡ Bad faults.Words
few_words version [] h = refl
few_words version (a ∷ []) h = refl
few_words version (a ∷ b ∷ []) h = refl
few_words version (a ∷ b ∷ c ∷ []) h = refl
few_words version (a ∷ b ∷ c ∷ d ∷ []) h = refl
few_words version (a ∷ b ∷ c ∷ d ∷ e ∷ []) h = refl
few_words version (a ∷ b ∷ c ∷ d ∷ e ∷ f ∷ ws) h = absurd (omega arith)

rule_of-drop : (version : Version) (ws : Words) (d : Bor (List ℕ)) → 6 ≤ length ws → too_long (get_or ws 5 d).now (length (drop 6 ws)) ≡ false
    → rule_of version (texts ws) ≡ rule_from (numeral (get_or ws 0 d).now) (numeral (get_or ws 1 d).now) (numeral (get_or ws 2 d).now) (in_port (get_or ws 3 d).now) (letters (get_or ws 4 d).now) (out_port (get_or ws 5 d).now) (λ p. rewrite version p (texts (drop 6 ws)))
rule_of-drop version [] d h k = absurd (omega arith)
rule_of-drop version (a ∷ []) d h k = absurd (omega arith)
rule_of-drop version (a ∷ b ∷ []) d h k = absurd (omega arith)
rule_of-drop version (a ∷ b ∷ c ∷ []) d h k = absurd (omega arith)
rule_of-drop version (a ∷ b ∷ c ∷ e ∷ []) d h k = absurd (omega arith)
rule_of-drop version (a ∷ b ∷ c ∷ e ∷ f ∷ []) d h k = absurd (omega arith)
rule_of-drop version (a ∷ b ∷ c ∷ e ∷ f ∷ g ∷ more) d h k =
    cond-false (too_long g.now (length (texts more))) _ _ (ap (too_long g.now) (length-map more (λ w. w.now)) ∙ k)

-- the same, with the rest as a slice pattern binds it
abbrev pub rest : Words → Words
rest ws = take (length ws - 6) (drop 6 ws)

rest-drop : (ws : Words) → rest ws ≡ drop 6 ws
rest-drop ws = take_all (length ws - 6) (drop 6 ws) (simp length-drop (omega arith))

pub rule_of-words : (version : Version) (ws : Words) (d : Bor (List ℕ)) → 6 ≤ length ws → too_long (get_or ws 5 d).now (length (rest ws)) ≡ false
    → rule_of version (texts ws) ≡ rule_from (numeral (get_or ws 0 d).now) (numeral (get_or ws 1 d).now) (numeral (get_or ws 2 d).now) (in_port (get_or ws 3 d).now) (letters (get_or ws 4 d).now) (out_port (get_or ws 5 d).now) (λ p. rewrite version p (texts (rest ws)))
rule_of-words version ws d h k =
    rule_of-drop version ws d h (ap (λ m. too_long (get_or ws 5 d).now (length m)) (sym (rest-drop ws)) ∙ k)
    ∙ ap (λ m. rule_from (numeral (get_or ws 0 d).now) (numeral (get_or ws 1 d).now) (numeral (get_or ws 2 d).now) (in_port (get_or ws 3 d).now) (letters (get_or ws 4 d).now) (out_port (get_or ws 5 d).now) (λ p. rewrite version p (texts m))) (sym (rest-drop ws))

pub bad_priority : (id box : ℕ) (f : TextFault) (o1 o2 o3 : Outcome ℕ) (o4 : Outcome InPort) (o5 : Outcome Pattern) (o6 : Outcome (Option ℕ)) (o7 : Pattern → Outcome Rewrite)
    → Good id ≡ o1 → Good box ≡ o2 → Bad f ≡ o3 → Bad f ≡ rule_from o1 o2 o3 o4 o5 o6 o7
bad_priority id box f o1 o2 o3 o4 o5 o6 o7 h1 h2 h3 = rw (← h1, ← h2, ← h3) refl

pub bad_inp : (id box priority : ℕ) (f : TextFault) (o1 o2 o3 : Outcome ℕ) (o4 : Outcome InPort) (o5 : Outcome Pattern) (o6 : Outcome (Option ℕ)) (o7 : Pattern → Outcome Rewrite)
    → Good id ≡ o1 → Good box ≡ o2 → Good priority ≡ o3 → Bad f ≡ o4 → Bad f ≡ rule_from o1 o2 o3 o4 o5 o6 o7
bad_inp id box priority f o1 o2 o3 o4 o5 o6 o7 h1 h2 h3 h4 = rw (← h1, ← h2, ← h3, ← h4) refl

pub bad_pattern : (id box priority : ℕ) (inp : InPort) (f : TextFault) (o1 o2 o3 : Outcome ℕ) (o4 : Outcome InPort) (o5 : Outcome Pattern) (o6 : Outcome (Option ℕ)) (o7 : Pattern → Outcome Rewrite)
    → Good id ≡ o1 → Good box ≡ o2 → Good priority ≡ o3 → Good inp ≡ o4 → Bad f ≡ o5 → Bad f ≡ rule_from o1 o2 o3 o4 o5 o6 o7
bad_pattern id box priority inp f o1 o2 o3 o4 o5 o6 o7 h1 h2 h3 h4 h5 = rw (← h1, ← h2, ← h3, ← h4, ← h5) refl

pub bad_out : (id box priority : ℕ) (inp : InPort) (pattern : Pattern) (f : TextFault) (o1 o2 o3 : Outcome ℕ) (o4 : Outcome InPort) (o5 : Outcome Pattern) (o6 : Outcome (Option ℕ)) (o7 : Pattern → Outcome Rewrite)
    → Good id ≡ o1 → Good box ≡ o2 → Good priority ≡ o3 → Good inp ≡ o4 → Good pattern ≡ o5 → Bad f ≡ o6 → Bad f ≡ rule_from o1 o2 o3 o4 o5 o6 o7
bad_out id box priority inp pattern f o1 o2 o3 o4 o5 o6 o7 h1 h2 h3 h4 h5 h6 = rw (← h1, ← h2, ← h3, ← h4, ← h5, ← h6) refl

-- with all words before the rewrite right, the rewrite decides
good_words : (id box priority : ℕ) (inp : InPort) (pattern : Pattern) (out : Option ℕ) (o1 o2 o3 : Outcome ℕ) (o4 : Outcome InPort) (o5 : Outcome Pattern) (o6 : Outcome (Option ℕ)) (o7 : Pattern → Outcome Rewrite)
    → Good id ≡ o1 → Good box ≡ o2 → Good priority ≡ o3 → Good inp ≡ o4 → Good pattern ≡ o5 → Good out ≡ o6
    → and_then (o7 pattern) (λ moves. Good (id, record { at = box; priority = priority; inp = inp; pattern = pattern; action = action out moves })) ≡ rule_from o1 o2 o3 o4 o5 o6 o7
good_words id box priority inp pattern out o1 o2 o3 o4 o5 o6 o7 h1 h2 h3 h4 h5 h6 = rw (← h1, ← h2, ← h3, ← h4, ← h5, ← h6) refl

pub bad_rewrite : (id box priority : ℕ) (inp : InPort) (pattern : Pattern) (out : Option ℕ) (f : TextFault) (o1 o2 o3 : Outcome ℕ) (o4 : Outcome InPort) (o5 : Outcome Pattern) (o6 : Outcome (Option ℕ)) (o7 : Pattern → Outcome Rewrite)
    → Good id ≡ o1 → Good box ≡ o2 → Good priority ≡ o3 → Good inp ≡ o4 → Good pattern ≡ o5 → Good out ≡ o6 → Bad f ≡ o7 pattern → Bad f ≡ rule_from o1 o2 o3 o4 o5 o6 o7
bad_rewrite id box priority inp pattern out f o1 o2 o3 o4 o5 o6 o7 h1 h2 h3 h4 h5 h6 h7 =
    ap (λ o. and_then o (λ (moves : Rewrite). Good (id, record { at = box; priority = priority; inp = inp; pattern = pattern; action = action out moves }))) h7
    ∙ good_words id box priority inp pattern out o1 o2 o3 o4 o5 o6 o7 h1 h2 h3 h4 h5 h6

pub good_rewrite : (id box priority : ℕ) (inp : InPort) (pattern : Pattern) (out : Option ℕ) (moves : Rewrite) (o1 o2 o3 : Outcome ℕ) (o4 : Outcome InPort) (o5 : Outcome Pattern) (o6 : Outcome (Option ℕ)) (o7 : Pattern → Outcome Rewrite)
    → Good id ≡ o1 → Good box ≡ o2 → Good priority ≡ o3 → Good inp ≡ o4 → Good pattern ≡ o5 → Good out ≡ o6 → Good moves ≡ o7 pattern
    → Good (id, record { at = box; priority = priority; inp = inp; pattern = pattern; action = action out moves }) ≡ rule_from o1 o2 o3 o4 o5 o6 o7
good_rewrite id box priority inp pattern out moves o1 o2 o3 o4 o5 o6 o7 h1 h2 h3 h4 h5 h6 h7 =
    ap (λ o. and_then o (λ (moves : Rewrite). Good (id, record { at = box; priority = priority; inp = inp; pattern = pattern; action = action out moves }))) h7
    ∙ good_words id box priority inp pattern out o1 o2 o3 o4 o5 o6 o7 h1 h2 h3 h4 h5 h6
