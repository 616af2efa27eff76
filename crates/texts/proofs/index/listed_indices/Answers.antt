use Rattle.std.proofs.Common.{◌≡◌, List, map, sym, ap, ◌∙◌}
use Rattle.std.proofs.lemmas.Result.{IfOk-weaker}
use Rattle.indices.specs.Places.{place_entry}
use Rattle.indices.specs.Release.{index_of}
use Rattle.indices.specs.declared.index.IndexPlace.{IndexPlace}
use Rattle.indices.proofs.Walk.{indices_by_place}
use Rattle.texts.proofs.index.listed_indices.Goals as goal

pub returns : goal.returns
returns c =
    IfOk-weaker c.indices_for.result _ _ (λ _ e. e
    ∙ ap (λ (ps : List IndexPlace). map (λ p. index_of (place_entry c.args.shelves.now c.args.position p)) ps) (c.as_slice.ensures ∙ c.in_ok-places.ensures)
    ∙ sym (indices_by_place c.args.shelves.now c.args.position c.args.suite.now)) c.indices_for.ensures
