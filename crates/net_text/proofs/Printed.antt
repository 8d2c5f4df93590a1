-- A printed network reads back as that network.
--     PutsAll-append   the lines of declarations, and then those of others
--     read_back        the text is that of the network
use Rattle.std.proofs.Common.{◌≡◌, ℕ, List, ◌++◌, None, sym, ap, ◌∙◌, append_assoc}
use Rattle.std.specs.Prelude.{All}
use Rattle.std.proofs.lemmas.List.Elements.{All-append}
use Rattle.network_model.specs.Network.{Network}
use Rattle.network_model.specs.WellFormed.{IsWellFormed}
use Rattle.net_types.specs.Parts.{IsWithin}
use Rattle.text_words.specs.Words.{lines_of}
use Rattle.net_text.specs.Declarations.{Declaration}
use Rattle.net_text.specs.Text.{Spells}
use Rattle.net_text.specs.Building.{built_from}
use Rattle.net_text.specs.Printing.{declared_lines, declared_by, network_text}
use Rattle.net_text.specs.Spelled.{IsSpellable}
use Rattle.net_text.specs.Putting.{PutsAll}
use Rattle.net_text.proofs.Built.{built-reading}
use Rattle.net_text.proofs.Advance.{answers-from}
use Rattle.net_text.proofs.Appending.{declared_lines-append}
use Rattle.net_text.proofs.Rereading.{built-printed}
use Rattle.net_text.proofs.Rebuilding.{declared_by-taken}

pub PutsAll-append : (old now new : List ℕ) (ds es : List Declaration) → PutsAll old now ds → PutsAll now new es → PutsAll old new (ds ++ es)
PutsAll-append old now new ds es first more = record {
  text =
      more.text ∙ ap (λ t. t ++ declared_lines es) first.text
      ∙ append_assoc old (declared_lines ds) (declared_lines es)
      ∙ ap (λ t. old ++ t) (sym (declared_lines-append ds es));
  spellable = All-append IsSpellable ds es first.spellable more.spellable;
}

pub read_back : (net : Network) (text : List ℕ) → IsWellFormed net → IsWithin net → All IsSpellable (declared_by net) → text ≡ network_text net
    → Spells text net
read_back net text formed within spellable is =
    let takes = declared_by-taken net formed within in
    answers-from text net
    (built-reading text
    ∙ ap (λ t. built_from (lines_of t) 1 None) is
    ∙ built-printed net.width (declared_by net) net formed.width.0 formed.width.1 spellable takes)
