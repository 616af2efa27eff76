use Rattle.std.proofs.Common.{ℕ, List, Some, map, codes, sym, ap, ◌∙◌}
use Rattle.std.proofs.lemmas.Cmp.{nat_list_eq_equiv}
use Rattle.std.proofs.lemmas.Result.{IfOk-weaker}
use Rattle.indices.specs.Places.{place_entry}
use Rattle.indices.specs.Release.{listed_texts, release_text, indices_of}
use Rattle.indices.specs.Indices.{PathText, text_at, folder_texts}
use Rattle.indices.specs.declared.index.IndexPlace.{IndexPlace}
use Rattle.indices.proofs.Found.{text_at-found, text_at-other}
use Rattle.indices.proofs.Walk.{listed_by_place}
use Rattle.texts.proofs.index.text_in_folder.Goals as goal

pub returns-then-eq : goal.returns-then-eq
unfolding folder_texts
returns-then-eq c =
    let path : List ℕ = c.args.path.now in
    let own : PathText = (codes "Release", release_text c.args.suite.now c.args.date (indices_of c.args.suite.now c.args.shelves.now c.args.position)) in
    ap Some c.in_ok-text.ensures
    ∙ sym (text_at-found path own (listed_texts c.args.suite.now c.args.shelves.now c.args.position)
    (nat_list_eq_equiv.symm (codes "Release") path ∙ sym c.if-eq.ensures))

pub returns : goal.returns
unfolding folder_texts
returns c =
    let path : List ℕ = c.args.path.now in
    let own : PathText = (codes "Release", release_text c.args.suite.now c.args.date (indices_of c.args.suite.now c.args.shelves.now c.args.position)) in
    IfOk-weaker c.text_among.result _ _ (λ _ e. e
    ∙ ap (λ (ps : List IndexPlace). text_at path (map (place_entry c.args.shelves.now c.args.position) ps)) (c.as_slice.ensures ∙ c.in_ok-places.ensures)
    ∙ ap (text_at path) (sym (listed_by_place c.args.shelves.now c.args.position c.args.suite.now))
    ∙ sym (text_at-other path own (listed_texts c.args.suite.now c.args.shelves.now c.args.position)
    (nat_list_eq_equiv.symm (codes "Release") path ∙ sym c.if-eq.ensures))) c.text_among.ensures
