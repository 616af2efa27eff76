use Rattle.std.proofs.Common.{rules, ◌≡◌, [], length, replicate, sym, ap, subst, ◌∙◌}
use Rattle.std.proofs.lemmas.List.Elements.{All-replicate}
use Rattle.std.specs.Prelude.{All, ◌≤◌}
use Rattle.sqlite.specs.Held.{state}
use Rattle.tables.specs.Schema.{no_schema}
use Rattle.tables.specs.Rows.{tables_in}
use Rattle.tables_meaning.specs.Archives.{KeepsArchive, book_in_database}
use Rattle.tables_meaning.specs.Founding.{first_dates}
use Rattle.tables_meaning.specs.Shown.{shown_in}
use Rattle.tables_meaning.proofs.CallLemmas.{kept_here}
use Rattle.tables_meaning.proofs.MakeLemmas.{founded_archive, founded_here, founded_whole}
use Rattle.keep_tables.proofs.AtHandLemmas.{none_known}
use Rattle.keep_tables.proofs.keeper.TableKeeper.create.Goals as goal

pub invariant_of-result : goal.invariant_of-result
invariant_of-result g c =
    let db = (state g.S.Store c.create.new.conn).committed in
    let config = c.args.config in
    let free : (state g.S.Store c.args.connection).now.schema ≡ no_schema = search rules in
    let dates : c.in-Ok.dates.items ≡ first_dates config c.args.moment =
    c.in-Ok.ensures.items_if_clones_equal (λ y e. e) ∙ ap (λ suites. replicate (length suites) c.args.moment) c.suites.ensures in (
    record {
      idle = c.in-Ok-create.ensures.idle;
      in_range = ∣ subst (All (λ d. d ≤ 4102444799)) (sym dates) (All-replicate (λ d. d ≤ 4102444799) (length config.suites) c.args.moment c.requires) ∣₁;
      kept = λ clean up.
          let made = c.in-Ok-create.ensures.done clean in
          let archive = founded_archive db config c.args.moment c.text.ensures.read c.requires (made.held free) in
          ∣ subst (λ j. KeepsArchive db config j (shown_in config.suites (tables_in db)) c.in-Ok.dates.items) (sym c.new.ensures.items)
          (subst (λ d. KeepsArchive db config [] (shown_in config.suites (tables_in db)) d) (sym dates) (kept_here db archive)) ∣₁;
      under_way = λ clean up. ∣ founded_whole db config c.args.moment c.text.ensures.read c.requires ((c.in-Ok-create.ensures.done clean).held free) ∣₁;
      at_hand = λ clean up. ∣ tt ∣₁;
      known = λ clean up. ∣ none_known _ _ _ c.new-in-Ok-create.result.items c.new-in-Ok-create.ensures.items ∣₁;
    }
    )

pub returns-in-Ok-create-clause-made : goal.returns-in-Ok-create-clause-made
returns-in-Ok-create-clause-made g c clean =
    let db = (state g.S.Store c.create.new.conn).committed in
    let config = c.args.config in
    let free : (state g.S.Store c.args.connection).now.schema ≡ no_schema = search rules in
    let dates : c.in-Ok.dates.items ≡ first_dates config c.args.moment =
    c.in-Ok.ensures.items_if_clones_equal (λ y e. e) ∙ ap (λ suites. replicate (length suites) c.args.moment) c.suites.ensures in
    let made = c.in-Ok-create.ensures.done clean in
    (made.is_open, (λ i. book_in_database db config (c.new.ensures.items i) (shown_in config.suites (tables_in db)) (dates i)) ∙ founded_here db config c.args.moment c.text.ensures.read c.requires (made.held free))
