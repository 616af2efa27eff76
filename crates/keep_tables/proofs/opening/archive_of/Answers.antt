use Rattle.std.proofs.Common.{rules, sym, ap, ◌∙◌, subst}
use Rattle.sqlite.specs.State.{IsUnchanged}
use Rattle.sqlite.specs.Held.{state}
use Rattle.tables.proofs.BookLemmas.{held_tables}
use Rattle.tables.proofs.ReadLemmas.{stands}
use Rattle.tables.specs.Rows.{Holds}
use Rattle.tables_read.specs.All.{AreConstrained, tables_with}
use Rattle.tables_read.specs.Keys.{constrained}
use Rattle.tables_meaning.specs.Shown.{shown_in}
use Rattle.keep_tables.specs.Finishing.{unfinished_ids}
use Rattle.keep_tables.specs.Opened.{HasPrintsFound}
use Rattle.tables_audit.proofs.WholeLemmas.{if_some}
use Rattle.keep_tables.proofs.OpenLemmas.{archive_here, no_archive, no_rows}
use Rattle.keep_tables.proofs.opening.archive_of.Goals as goal

pub returns-in_default-clause-none : goal.returns-in_default-clause-none
returns-in_default-clause-none g c clean same =
    let old = state g.S.Store c.args.conn.now in
    let new = state g.S.Store c.read_all.new.conn in
    (stands old new (c.in_ok-all.ensures.unchanged clean), no_rows old.now (c.in_ok-all.ensures.none clean c.in_default.is))

pub returns-clause-some : goal.returns-clause-some
returns-clause-some g c clean =
    let old = state g.S.Store c.args.conn.now in
    let t = tables_with c.in-Some.all in
    let same : IsUnchanged old (state g.S.Store c.read_all.new.conn) = c.in_ok-all.ensures.unchanged clean in
    let held : Holds old.now t = search rules in
    let keys : AreConstrained t = constrained old.now t (c.schema.ensures.live same.0.was_open).0 held in
    if_some _ _ c.in_ok-found_in.field-0
    (λ f some. (same, archive_here old.now t f.held.config f.held.judged.items f.held.dates.items held some.0 some.1, some.2 ∙ ap (λ u. unfinished_ids u.bodies) (sym (held_tables old.now t held))))
    (c.in_ok-found_in.ensures.some keys)

pub returns-clause-shown : goal.returns-clause-shown
returns-clause-shown g c clean =
    let old = state g.S.Store c.args.conn.now in
    let t = tables_with c.in-Some.all in
    let same : IsUnchanged old (state g.S.Store c.read_all.new.conn) = c.in_ok-all.ensures.unchanged clean in
    let held : Holds old.now t = search rules in
    let keys : AreConstrained t = constrained old.now t (c.schema.ensures.live same.0.was_open).0 held in
    if_some _ _ c.in_ok-found_in.field-0
    (λ f shown. shown ∙ ap (shown_in f.held.config.suites) (sym (held_tables old.now t held)))
    (c.in_ok-found_in.ensures.shown keys)

pub returns-clause-printed : goal.returns-clause-printed
returns-clause-printed g c clean =
    let old = state g.S.Store c.args.conn.now in
    let t = tables_with c.in-Some.all in
    let held : Holds old.now t = search rules in
    if_some _ _ c.in_ok-found_in.field-0
    (λ f printed. subst (λ u. HasPrintsFound u f) (sym (held_tables old.now t held)) printed)
    c.in_ok-found_in.ensures.printed

pub returns-clause-none : goal.returns-clause-none
returns-clause-none g c clean none =
    let old = state g.S.Store c.args.conn.now in
    let t = tables_with c.in-Some.all in
    let same : IsUnchanged old (state g.S.Store c.read_all.new.conn) = c.in_ok-all.ensures.unchanged clean in
    let held : Holds old.now t = search rules in
    let keys : AreConstrained t = constrained old.now t (c.schema.ensures.live same.0.was_open).0 held in
    (stands old _ same, no_archive old.now t held (c.in_ok-found_in.ensures.none keys held.rows.bodies.rise none))
