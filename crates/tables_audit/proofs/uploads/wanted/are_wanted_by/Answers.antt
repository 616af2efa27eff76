use Rattle.std.proofs.Common.{◌≡◌, MatchBool, map, ap, sym, subst₂, ◌∙◌}
use Rattle.sqlite_keyed.proofs.ListLemmas.{map-map}
use Rattle.sqlite_keyed.proofs.SortLemmas.{sort_by-map}
use Rattle.tables.specs.Wants.{is_wanted_by}
use Rattle.tables_meaning.specs.Kept.{want_order, entry_order}
use Rattle.tables_meaning.specs.Reads.{sorted_by}
use Rattle.tables_matching.specs.Rows.{want_row}
use Rattle.tables_audit.specs.Uploads.{printed, wanted_among, wants_among}
use Rattle.tables_audit.proofs.KeyedLemmas.{rows_same}
use Rattle.tables_audit.proofs.uploads.wanted.are_wanted_by.Goals as goal

pub returns : goal.returns
returns c =
    let here = map printed c.args.arrived.now.all.now in
    let id = c.args.upload in
    let all = c.args.wants.now.all.now in
    let entries = c.args.entries.now in
    let rows : map (λ w. want_row w.now) c.deref.result.now ≡ wants_among all id =
    ap (map (λ w. want_row w.now)) c.deref.ensures.value
    ∙ c.in_ok-rows.ensures
    ∙ ap (sorted_by want_order)
    (sym (map-map want_row (λ w. w.now) c.in_ok-wants_of.field-0.items)
    ∙ ap (map want_row) (c.in_ok-wants_of.ensures ∙ rows_same (is_wanted_by id) c.about.result.now all c.about.ensures)) in
    let listed : map (λ e. wanted_among here e.now) c.deref-2.result.now ≡ sorted_by want_order (map (wanted_among here) entries) =
    ap (map (λ e. wanted_among here e.now)) c.deref-2.ensures.value
    ∙ sym (map-map (wanted_among here) (λ e. e.now) c.in_ok-listed.listed.items)
    ∙ ap (map (wanted_among here)) (c.in_ok-listed.ensures ∙ ap (sorted_by entry_order) c.in_ok-as_listed.ensures)
    ∙ sym (sort_by-map want_order (wanted_among here) entries) in
    subst₂ (λ a b. MatchBool c.are_wanted.result (a ≡ b) (a ≡ b → ⊥)) rows listed c.are_wanted.ensures
