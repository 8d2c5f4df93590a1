-- The words of a declaration are words, and they read back as what the declaration says.
--     are_words       the words of a declaration are words
--     step-spelled    a line of them declares it in a text of version 2
--     head-spelled    the words of the head give that version and the width
use Rattle.std.proofs.Common.{◌≡◌, ℕ, ◌+◌, ◌≤◌, Bool, true, false, ◌&&◌, ◌||◌, nat_lt, cond, List, [], ◌∷◌, length, Option, Some, None, decimal, codes, bytes_eq, slice_index_or, sym, ap, ◌∙◌, refl, arith, eqb}
use Rattle.std.specs.List.{All, AllByRecursion, join_with_byte}
use Rattle.std.proofs.lemmas.Bool.{and_from, and_left, le-leb, cond-true, cond-false}
use Rattle.std.proofs.lemmas.List.Elements.{All-map, All-nil, All-cons, All-head, All-tail, All-append}
use Rattle.network_model.specs.Bits.{Letter, Bit, Any, Pattern}
use Rattle.network_model.specs.Rewrites.{Item, Set, Old, Rewrite, kept, LiesWithin, AreWithin}
use Rattle.network_model.specs.Network.{Network, Rule, InPort, AnyPort, OnePort, Action, Drop, Out, Role, Send, Receive, Both}
use Rattle.ternary_bits.specs.Letters.{pattern_word, pattern_text, letter_of, item_letter, letters_text}
use Rattle.ternary_bits.specs.Moves.{letters_or_moves, stays, item_text, item_texts, moving_text, rewrite_text}
use Rattle.net_text.specs.declared.fault.TextFault.TheVariants as faults
use Rattle.text_words.specs.Words.{is_word}
use Rattle.net_text.specs.Declarations.{Declaration, DeclareBox, DeclarePort, DeclareLink, DeclareTerminal, DeclarePermit, DeclareForbid, DeclareRule, Outcome, Good, or_fault, and_then, numeral, letters, role, in_port, out_port, rewrite, action, rule_of, terminal_and_pattern}
use Rattle.net_text.specs.declared.version.Version.TheVariants.{Two}
use Rattle.net_text.specs.Text.{head, width_of}
use Rattle.net_text.specs.Building.{taken, step}
use Rattle.net_text.specs.Printing.{role_word, in_word, keeps_from, rewrite_words, out_words, spelled}
use Rattle.net_text.specs.Spelled.{IsNumeral, IsSpellableIn, IsSpellableOut, IsSpellableRewrite, IsSpellableRule, IsSpellable}
use Rattle.net_text.proofs.Kept.{kept-from-keeps}
use Rattle.text_words.proofs.Lines.{ends_word, IsWord, IsWord-test}
use Rattle.net_text.proofs.Numerals.{numeral-decimal, differs-numeral, IsWord-numeral}

-- ---- words

-- no letter of a pattern ends a word
letter_within : (l : Letter) → ends_word (letter_of l) ≡ false
letter_within (Bit true) = refl
letter_within (Bit false) = refl
letter_within Any = refl

-- nor does one of a rewrite
item_within : (i : Item) → ends_word (item_letter i) ≡ false
item_within (Set true) = refl
item_within (Set false) = refl
item_within (Old place) = refl

-- a pattern that reads back has letters
pattern_some : (p : Pattern) → pattern_word (pattern_text p) ≡ Some p → is_word (pattern_text p) ≡ true
pattern_some [] back = cc
pattern_some (l ∷ p) back = refl

-- the text of a pattern is a word
IsWord-pattern : (p : Pattern) → pattern_word (pattern_text p) ≡ Some p → IsWord (pattern_text p)
IsWord-pattern p back = record {
  some = pattern_some p back;
  within = All-map (λ b. ends_word b ≡ false) letter_of p (λ k d inside. letter_within (slice_index_or p k d));
}

-- and letters of a rewrite are one
letters_some : (r : Rewrite) → 1 ≤ length r → is_word (letters_text r) ≡ true
letters_some [] some = absurd (omega arith)
letters_some (i ∷ r) some = refl

IsWord-letters : (r : Rewrite) → 1 ≤ length r → IsWord (letters_text r)
IsWord-letters r some = record {
  some = letters_some r some;
  within = All-map (λ b. ends_word b ≡ false) item_letter r (λ k d inside. item_within (slice_index_or r k d));
}

-- nothing in words joined by a byte ends a word, where nothing in the words does
abbrev Within : List ℕ → Type 0
Within bytes = All (λ b. ends_word b ≡ false) bytes

within_joined : (c : ℕ) (words : List (List ℕ)) → ends_word c ≡ false → AllByRecursion Within words → Within (join_with_byte c words)
within_joined c [] ends within = All-nil (λ b. ends_word b ≡ false)
within_joined c (w ∷ []) ends within = within.0
within_joined c (w ∷ v ∷ words) ends within =
    All-append (λ b. ends_word b ≡ false) w (c ∷ join_with_byte c (v ∷ words)) within.0
    (All-cons (λ b. ends_word b ≡ false) c (join_with_byte c (v ∷ words)) ends (within_joined c (v ∷ words) ends within.1))

one_within : (b : ℕ) → ends_word b ≡ false → Within (b ∷ [])
one_within b h = All-cons (λ b. ends_word b ≡ false) b [] h (All-nil (λ b. ends_word b ≡ false))

old_within : (old : ℕ) (here : Bool) → old ≤ 128 → Within (cond here (45 ∷ []) (98 ∷ decimal old))
old_within old true most = one_within 45 refl
old_within old false most =
    let digits = IsWord-numeral old (omega arith) in
    All-cons (λ b. ends_word b ≡ false) 98 (decimal old) refl digits.within

item_text_within : (width place : ℕ) (i : Item) → width ≤ 128 → LiesWithin width i → Within (item_text place i)
item_text_within width place (Set true) most ok = one_within 49 refl
item_text_within width place (Set false) most ok = one_within 48 refl
item_text_within width place (Old old) most ok = let few : old ≤ width = ok.1 in old_within old (eqb old place) (omega arith)

items_within : (width place : ℕ) (r : Rewrite) → width ≤ 128 → AreWithin width r → AllByRecursion Within (item_texts place r)
items_within width place [] most ok = tt
items_within width place (i ∷ r) most ok =
    (item_text_within width place i most (All-head (LiesWithin width) i r ok), items_within width (place + 1) r most (All-tail (LiesWithin width) i r ok))

moving_is_word : (r : Rewrite) (letters : Bool) → IsSpellableRewrite r → IsWord (cond letters (letters_text r) (moving_text r))
moving_is_word r true ok = IsWord-letters r ok.some
moving_is_word r false ok = record {
  some = refl;
  within = All-cons (λ b. ends_word b ≡ false) 64 (join_with_byte 44 (item_texts 1 r)) refl
      (within_joined 44 (item_texts 1 r) refl (items_within (length r) 1 r ok.few ok.within));
}

-- and that of a rewrite
IsWord-rewrite : (r : Rewrite) → IsSpellableRewrite r → IsWord (rewrite_text r)
IsWord-rewrite r ok = moving_is_word r (stays 1 r) ok

-- and that of a role
IsWord-role : (r : Role) → IsWord (role_word r)
IsWord-role Send = IsWord-test (codes "send") refl
IsWord-role Receive = IsWord-test (codes "receive") refl
IsWord-role Both = IsWord-test (codes "both") refl

-- and that of the port that a rule takes from
IsWord-in : (inp : InPort) → IsSpellableIn inp → IsWord (in_word inp)
IsWord-in AnyPort ok = IsWord-test (codes "*") refl
IsWord-in (OnePort port) ok = IsWord-numeral port ok

-- the words of a rewrite are words, where there are any
rewrite_are_words : (moves : Rewrite) (b : Bool) → IsSpellableRewrite moves
    → AllByRecursion IsWord (cond b [] (rewrite_text moves ∷ []))
rewrite_are_words moves true ok = tt
rewrite_are_words moves false ok = (IsWord-rewrite moves ok, tt)

-- and those of an action
out_are_words : (width : ℕ) (out : Action) → IsSpellableOut width out → AllByRecursion IsWord (out_words out)
out_are_words width Drop ok = (IsWord-test (codes "drop") refl, tt)
out_are_words width (Out port moves) ok = (IsWord-numeral port ok.0, rewrite_are_words moves (keeps_from 1 moves) ok.2)

-- and those of a declaration
pub are_words : (d : Declaration) → IsSpellable d → AllByRecursion IsWord (spelled d)
are_words (DeclareBox id) ok = (IsWord-test (codes "box") refl, (IsWord-numeral id ok, tt))
are_words (DeclarePort id box) ok = (IsWord-test (codes "port") refl, (IsWord-numeral id ok.0, (IsWord-numeral box ok.1, tt)))
are_words (DeclareLink a b) ok = (IsWord-test (codes "link") refl, (IsWord-numeral a ok.0, (IsWord-numeral b ok.1, tt)))
are_words (DeclareTerminal id port role) ok =
    (IsWord-test (codes "term") refl, (IsWord-numeral id ok.0, (IsWord-numeral port ok.1, (IsWord-role role, tt))))
are_words (DeclarePermit terminal pattern) ok =
    (IsWord-test (codes "permit") refl, (IsWord-numeral terminal ok.0, (IsWord-pattern pattern ok.1, tt)))
are_words (DeclareForbid terminal pattern) ok =
    (IsWord-test (codes "forbid") refl, (IsWord-numeral terminal ok.0, (IsWord-pattern pattern ok.1, tt)))
are_words (DeclareRule id rule) ok = (
  IsWord-test (codes "rule") refl,
  (
    IsWord-numeral id ok.number,
    (
      IsWord-numeral rule.at ok.box,
      (
        IsWord-numeral rule.priority ok.priority,
        (IsWord-in rule.inp ok.inp, (IsWord-pattern rule.pattern ok.pattern, out_are_words (length rule.pattern) rule.action ok.out)),
      ),
    ),
  ),
)

-- ---- what they say

-- a good value goes on
good_then : {A B : Type 0} (o : Outcome A) (a : A) (go_on : A → Outcome B) (due : Outcome B) → o ≡ Good a → go_on a ≡ due → and_then o go_on ≡ due
good_then o a go_on due good h = ap (λ o. and_then o go_on) good ∙ h

-- so does a number in decimal digits
number_then : {B : Type 0} (n : ℕ) (go_on : ℕ → Outcome B) (due : Outcome B) → IsNumeral n → go_on n ≡ due
    → and_then (numeral (decimal n)) go_on ≡ due
number_then n go_on due fits h = good_then (numeral (decimal n)) n go_on due (numeral-decimal n fits) h

-- the text of a pattern says that pattern
letters-text : (p : Pattern) → pattern_word (pattern_text p) ≡ Some p → letters (pattern_text p) ≡ Good p
letters-text p back = ap (or_fault faults.Letters) back

-- the word of a role says that role
role-word : (r : Role) → role (role_word r) ≡ Good r
role-word Send = refl
role-word Receive = refl
role-word Both = refl

-- the word of the port that a rule takes from says that port
in_port-word : (inp : InPort) → IsSpellableIn inp → in_port (in_word inp) ≡ Good inp
in_port-word AnyPort ok = refl
in_port-word (OnePort port) ok = cond-false _ _ _ (differs-numeral port 42 [] ok refl) ∙ number_then port _ _ ok refl

-- the number of the port that a rule sends to says that port
out_port-decimal : (port : ℕ) → IsNumeral port → out_port (decimal port) ≡ Good (Some port)
out_port-decimal port ok = cond-false _ _ _ (differs-numeral port 100 (codes "rop") ok refl) ∙ number_then port _ _ ok refl

-- the words of a rewrite say that rewrite, also where it is left out
rewrite-words : (pattern : Pattern) (moves : Rewrite) → length moves ≡ length pattern → letters_or_moves (rewrite_text moves) ≡ Some moves
    → (b : Bool) → keeps_from 1 moves ≡ b → rewrite Two pattern (cond b [] (rewrite_text moves ∷ [])) ≡ Good moves
rewrite-words pattern moves size back true keeps = ap (λ n. Good (kept n)) (sym size) ∙ ap Good (sym (kept-from-keeps moves keeps))
rewrite-words pattern moves size back false keeps = ap (or_fault faults.Letters) back

-- six words and those of a rewrite are not too many for a rule that doesn't drop
not_long : (out : List ℕ) (moves : Rewrite) (b : Bool) → bytes_eq out (codes "drop") ≡ false
    → (nat_lt 1 (length (cond b [] (rewrite_text moves ∷ [])))
    || (bytes_eq out (codes "drop") && nat_lt 0 (length (cond b [] (rewrite_text moves ∷ []))))) ≡ false
not_long out moves true other = and_left _ _ other
not_long out moves false other = and_left _ _ other

-- the words of a rule say that rule, if the last ones say its action
rule-read : (id : ℕ) (rule : Rule) (out : List ℕ) (more : List (List ℕ)) (port : Option ℕ) (moves : Rewrite) → IsSpellableRule id rule
    → (nat_lt 1 (length more) || (bytes_eq out (codes "drop") && nat_lt 0 (length more))) ≡ false
    → out_port out ≡ Good port → rewrite Two rule.pattern more ≡ Good moves → action port moves ≡ rule.action
    → rule_of Two (decimal id ∷ decimal rule.at ∷ decimal rule.priority ∷ in_word rule.inp ∷ pattern_text rule.pattern ∷ out ∷ more)
    ≡ Good (id, rule)
rule-read id rule out more port moves ok short goes moved same =
    cond-false _ _ _ short
    ∙ number_then id _ _ ok.number (number_then rule.at _ _ ok.box (number_then rule.priority _ _ ok.priority
    (good_then _ _ _ _ (in_port-word rule.inp ok.inp) (good_then _ _ _ _ (letters-text rule.pattern ok.pattern)
    (good_then _ _ _ _ goes (good_then _ _ _ _ moved
    (ap (λ a. Good (id, record rule { action = a })) same)))))))

-- the words of a rule say that rule, whatever its action is
rule-words : (id : ℕ) (rule : Rule) (out : Action) → IsSpellableRule id rule → IsSpellableOut (length rule.pattern) out → out ≡ rule.action
    → rule_of Two (decimal id ∷ decimal rule.at ∷ decimal rule.priority ∷ in_word rule.inp ∷ pattern_text rule.pattern ∷ out_words out)
    ≡ Good (id, rule)
rule-words id rule Drop ok out_ok is = rule-read id rule (codes "drop") [] None (kept (length rule.pattern)) ok refl refl refl is
rule-words id rule (Out port moves) ok out_ok is =
    rule-read id rule (decimal port) (rewrite_words moves) (Some port) moves ok
    (not_long (decimal port) moves (keeps_from 1 moves) (differs-numeral port 100 (codes "rop") out_ok.0 refl))
    (out_port-decimal port out_ok.0)
    (rewrite-words rule.pattern moves out_ok.1 out_ok.2.back (keeps_from 1 moves) refl)
    is

-- the words of a terminal and a pattern say these
patterned : (terminal : ℕ) (pattern : Pattern) → IsNumeral terminal → pattern_word (pattern_text pattern) ≡ Some pattern
    → terminal_and_pattern (decimal terminal ∷ pattern_text pattern ∷ []) ≡ Good (terminal, pattern)
patterned terminal pattern fits back = number_then terminal _ _ fits (good_then _ _ _ _ (letters-text pattern back) refl)

-- a line with the words of a declaration declares it
pub step-spelled : (net : Network) (d : Declaration) → IsSpellable d → step Two net (spelled d) ≡ taken net d
step-spelled net (DeclareBox id) ok = ap (λ o. and_then o (taken net)) (number_then id _ (Good (DeclareBox id)) ok refl)
step-spelled net (DeclarePort id box) ok =
    ap (λ o. and_then o (taken net)) (number_then id _ (Good (DeclarePort id box)) ok.0 (number_then box _ _ ok.1 refl))
step-spelled net (DeclareLink a b) ok =
    ap (λ o. and_then o (taken net)) (number_then a _ (Good (DeclareLink a b)) ok.0 (number_then b _ _ ok.1 refl))
step-spelled net (DeclareTerminal id port how) ok =
    ap (λ o. and_then o (taken net)) (number_then id _ (Good (DeclareTerminal id port how)) ok.0 (number_then port _ _ ok.1
    (good_then _ _ _ _ (role-word how) refl)))
step-spelled net (DeclarePermit terminal pattern) ok =
    ap (λ o. and_then (and_then o (λ t. Good (DeclarePermit t.0 t.1))) (taken net)) (patterned terminal pattern ok.0 ok.1)
step-spelled net (DeclareForbid terminal pattern) ok =
    ap (λ o. and_then (and_then o (λ t. Good (DeclareForbid t.0 t.1))) (taken net)) (patterned terminal pattern ok.0 ok.1)
step-spelled net (DeclareRule id rule) ok =
    ap (λ o. and_then (and_then o (λ r. Good (DeclareRule r.0 r.1))) (taken net))
    (rule-words id rule rule.action ok ok.out refl)

-- the words of the head
abbrev pub head_words : ℕ → List (List ℕ)
head_words width = codes "atpg-net" ∷ codes "2" ∷ decimal width ∷ []

-- these are words
pub head_are_words : (width : ℕ) → width ≤ 128 → AllByRecursion IsWord (head_words width)
head_are_words width most = (IsWord-test (codes "atpg-net") refl, (IsWord-test (codes "2") refl, (IsWord-numeral width (omega arith), tt)))

-- and they say the width
pub head-spelled : (width : ℕ) → 1 ≤ width → width ≤ 128 → head (head_words width) ≡ Good (record { version = Two; width = width })
head-spelled width least most =
    let fits : width_of width ≡ Good width = cond-true _ _ _ (and_from _ _ (le-leb 1 width least) (le-leb width 128 most)) in
    number_then width _ _ (omega arith) (good_then (width_of width) width _ _ fits refl)
