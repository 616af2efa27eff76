use Rattle.std.proofs.Common.{List, map, ap, ap₂, sym, ◌∙◌}
use Rattle.std.proofs.lemmas.Result.{IfOk-weaker}
use Rattle.indices.specs.Places.{place_entry, places_in}
use Rattle.indices.specs.declared.index.IndexPlace.{IndexPlace}
use Rattle.indices.proofs.Walk.{listed_by_place}
use Rattle.tables_audit.proofs.text_rows.listed_entries.Goals as goal

pub returns : goal.returns
returns c =
    let are = c.as_slice.ensures ∙ c.in_ok-places.ensures ∙ ap₂ places_in c.as_slice-components.ensures c.as_slice-architectures.ensures in
    IfOk-weaker c.placed_entries.result _ _ (λ _ e. e
    ∙ ap (λ (ps : List IndexPlace). map (place_entry c.args.shelves.now c.args.position) ps) are
    ∙ sym (listed_by_place c.args.shelves.now c.args.position c.args.suite.now)) c.placed_entries.ensures
