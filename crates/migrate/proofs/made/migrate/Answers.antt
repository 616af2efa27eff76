use Rattle.std.proofs.Common.{rules, ◌≡◌, ◌≤◌, IsTrue, All, inl, inr, sym, subst, ◌∙◌}
use Rattle.sqlite.specs.Held.{state}
use Rattle.sqlite.specs.State.{HasCleanDisk}
use Rattle.book.specs.Configured.{AreAlike}
use Rattle.tables.specs.Schema.{no_schema}
use Rattle.keep_tables.proofs.AtHandLemmas.{none_known}
use Rattle.migrate.specs.Migrated.{old_config}
use Rattle.migrate.proofs.MadeLemmas.{made_archive, made_book, made_whole}
use Rattle.migrate.proofs.OverLemmas.{book_over}
use Rattle.migrate.proofs.made.migrate.Goals as goal
use Rattle.migrate.proofs.made.migrate.Goals.{then-not-free-via-then-not-free, then-not-free-via-else-not-free+then-not-empty}

pub returns-then-not-free-clause-free : goal.returns-then-not-free-clause-free
returns-then-not-free-clause-free g c same =
    elim c.then-not-free.branch [
      | then-not-free-via-then-not-free w ↦ inl (search rules)
      | then-not-free-via-else-not-free+then-not-empty w ↦ inr (search rules)
    ]

pub over-requires-clause-in_range : goal.over-requires-clause-in_range
over-requires-clause-in_range g c =
    let old = c.args.old.now in
    let dated : c.in-Ok-to_vec.dates.items ≡ old.held.dates.items = c.in-Ok-to_vec.ensures.items_if_clones_equal (λ x y e. e) ∙ c.dates.ensures.dates in
    ∣ subst (All (λ d. d ≤ 4102444799)) (sym dated) c.dates.ensures.in_range ∣₁

pub over-requires-clause-kept : goal.over-requires-clause-kept
over-requires-clause-kept g c clean up =
    let db = (state g.S.Store c.write_archive.new.conn).committed in
    let old = c.args.old.now in
    let config = c.args.config in
    let free : (state g.S.Store c.args.to).now.schema ≡ no_schema = search rules in
    let alike : AreAlike (old_config old) config = search rules in
    let told : c.in-Ok.judged.items ≡ old.held.judged.items = c.in-Ok.ensures ∙ c.judged.ensures in
    let dated : c.in-Ok-to_vec.dates.items ≡ old.held.dates.items = c.in-Ok-to_vec.ensures.items_if_clones_equal (λ x y e. e) ∙ c.dates.ensures.dates in
    let made = c.in-Ok-write_archive.ensures.done clean in
    made_archive db old config c.args.moment (made.held free) old.kept alike c.text.ensures.read c.requires c.in-Ok.judged.items c.in-Ok-to_vec.dates.items told dated

pub over-requires-clause-whole : goal.over-requires-clause-whole
over-requires-clause-whole g c clean up =
    let db = (state g.S.Store c.write_archive.new.conn).committed in
    let old = c.args.old.now in
    let config = c.args.config in
    let free : (state g.S.Store c.args.to).now.schema ≡ no_schema = search rules in
    let alike : AreAlike (old_config old) config = search rules in
    let made = c.in-Ok-write_archive.ensures.done clean in
    made_whole db old config c.args.moment (made.held free) old.kept alike c.text.ensures.read c.requires

pub over-requires-clause-known : goal.over-requires-clause-known
over-requires-clause-known g c clean up = ∣ none_known _ _ _ c.new.result.items c.new.ensures.items ∣₁

pub returns-in-Ok-write_archive-clause-made : goal.returns-in-Ok-write_archive-clause-made
returns-in-Ok-write_archive-clause-made g c clean =
    let over = c.over.ensures in
    let late : HasCleanDisk (state g.S.Store c.write_archive.new.conn) = subst (λ k. HasCleanDisk (state g.S.Store k)) over.0 clean in
    let db = (state g.S.Store c.write_archive.new.conn).committed in
    let old = c.args.old.now in
    let config = c.args.config in
    let free : (state g.S.Store c.args.to).now.schema ≡ no_schema = search rules in
    let alike : AreAlike (old_config old) config = search rules in
    let told : c.in-Ok.judged.items ≡ old.held.judged.items = c.in-Ok.ensures ∙ c.judged.ensures in
    let dated : c.in-Ok-to_vec.dates.items ≡ old.held.dates.items = c.in-Ok-to_vec.ensures.items_if_clones_equal (λ x y e. e) ∙ c.dates.ensures.dates in
    let made = c.in-Ok-write_archive.ensures.done late in (
      subst (λ k. IsTrue (state g.S.Store k).is_open) (sym over.0) made.is_open,
      book_over g.S.Store c.over.result c.write_archive.new.conn config c.in-Ok.judged c.in-Ok-to_vec.dates over.0 over.1 over.2 over.3
          ∙ made_book db old config c.args.moment (made.held free) old.kept alike c.text.ensures.read c.requires c.in-Ok.judged.items c.in-Ok-to_vec.dates.items told dated,
    )
