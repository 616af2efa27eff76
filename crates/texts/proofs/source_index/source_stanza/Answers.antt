use Rattle.std.proofs.Common.{ℕ, List, ◌++◌, [], ◌∷◌, sym, ap, ◌∙◌}
use Rattle.std.proofs.lemmas.Grind.{flat_map-append}
use Rattle.para.specs.Printing.{field_text}
use Rattle.indices.specs.Stanzas.{source_stanza, source_fields, fields_of_text}
use Rattle.texts.proofs.Appended.{three}
use Rattle.texts.proofs.source_index.source_stanza.Goals as goal

pub returns : goal.returns
unfolding source_stanza
returns c =
    c.in_ok-push.ensures.items
    ∙ ap (λ (bs : List ℕ). bs ++ 10 ∷ []) (three c.new-stanza.result.items _ _ _ _ _ _ c.in_ok-push_paragraph.ensures
    c.in_ok-push_directory.ensures c.in_ok-push_lists.ensures
    ∙ rw (c.new-stanza.ensures.items, c.as_str.ensures, c.as_str-2.ensures, c.as_str-3.ensures, c.as_slice.ensures)
    (sym (flat_map-append field_text (source_fields (fields_of_text c.args.item.now.paragraph)) _)))
