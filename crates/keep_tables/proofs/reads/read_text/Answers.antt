use Rattle.std.proofs.Common.{not, ap, sym, ◌∙◌, arith, option_map, Some}
use Rattle.sqlite.specs.Held.{state}
use Rattle.sqlite.specs.State.{HasCleanDisk}
use Rattle.indices.specs.Indices.{all_texts, index_text}
use Rattle.tables.specs.Rows.{rows_of, tables_in}
use Rattle.tables.specs.declared.rows.TextRow.{TextRow}
use Rattle.tables_meaning.specs.Finished.{finished}
use Rattle.tables_meaning.specs.Kept.{book_in}
use Rattle.tables_meaning.proofs.PathLemmas.{config_paths}
use Rattle.tables_meaning.proofs.ReadCalls.{is_open_after, read_after, rows_after, text_is}
use Rattle.tables_meaning.proofs.ReadsLemmas.{undone_if_failed, undone_if_unchanged}
use Rattle.keep_tables.proofs.reads.read_text.Goals as goal

pub returns-in_err-text-clause-read : goal.returns-in_err-text-clause-read
returns-in_err-text-clause-read g c =
    let old = state g.S.Store c.args.conn.now in
    let mid = state g.S.Store c.probe.new.conn in
    let new = state g.S.Store c.select_text.new.conn in
    let settled = c.is_autocommit-settled.ensures.settled (c.is_autocommit-settled.ensures.value ∙ ap not c.requires.idle) in
    read_after old mid new c.in_ok-probe.ensures.ok settled (λ other archive. other archive.schema) c.probe.ensures.survives c.select_text.ensures.survives
    (λ clean archive. undone_if_failed mid new (c.in_err-text.ensures.err clean _ archive))

pub returns-in-Some-clause-read : goal.returns-in-Some-clause-read
returns-in-Some-clause-read g c =
    let old = state g.S.Store c.args.conn.now in
    let mid = state g.S.Store c.probe.new.conn in
    let new = state g.S.Store c.select_text.new.conn in
    let settled = c.is_autocommit-settled.ensures.settled (c.is_autocommit-settled.ensures.value ∙ ap not c.requires.idle) in
    read_after old mid new c.in_ok-probe.ensures.ok settled (λ other archive. other archive.schema) c.probe.ensures.survives c.select_text.ensures.survives
    (λ clean archive. undone_if_unchanged mid new (c.in_ok-text.ensures.ok clean _ archive).1)

pub returns-in-Some-clause-open : goal.returns-in-Some-clause-open
returns-in-Some-clause-open g c clean is =
    let old = state g.S.Store c.args.conn.now in
    let mid = state g.S.Store c.probe.new.conn in
    let new = state g.S.Store c.select_text.new.conn in
    let settled = c.is_autocommit-settled.ensures.settled (c.is_autocommit-settled.ensures.value ∙ ap not c.requires.idle) in
    let early : HasCleanDisk mid = omega (arith, c.select_text.ensures.survives.clean, clean) in
    is_open_after old mid new c.in_ok-probe.ensures.ok settled early is (λ archive. (c.in_ok-text.ensures.ok clean _ archive).1)

pub returns-in-Some-clause-text : goal.returns-in-Some-clause-text
unfolding book_in finished index_text
returns-in-Some-clause-text g c clean config judged shown dates keeps =
    let old = state g.S.Store c.args.conn.now in
    let mid = state g.S.Store c.probe.new.conn in
    let new = state g.S.Store c.select_text.new.conn in
    let settled = c.is_autocommit-settled.ensures.settled (c.is_autocommit-settled.ensures.value ∙ ap not c.requires.idle) in
    let early : HasCleanDisk mid = omega (arith, c.select_text.ensures.survives.clean, clean) in
    let rows = rows_after old mid new c.in_ok-probe.ensures.ok settled early keeps in
    let found = (c.in_ok-text.ensures.ok clean (tables_in old.committed) rows).0 in
    ap Some c.into_vec.ensures ∙ ap (option_map (λ (x : TextRow). x.body)) (sym c.in-Some.is ∙ found) ∙ text_is c.args.path.now (rows_of (tables_in old.committed).texts) (all_texts config shown dates) (config_paths config keeps.kept.read shown dates) keeps.kept.texts

pub returns-in-None-clause-read : goal.returns-in-None-clause-read
returns-in-None-clause-read g c =
    let old = state g.S.Store c.args.conn.now in
    let mid = state g.S.Store c.probe.new.conn in
    let new = state g.S.Store c.select_text.new.conn in
    let settled = c.is_autocommit-settled.ensures.settled (c.is_autocommit-settled.ensures.value ∙ ap not c.requires.idle) in
    read_after old mid new c.in_ok-probe.ensures.ok settled (λ other archive. other archive.schema) c.probe.ensures.survives c.select_text.ensures.survives
    (λ clean archive. undone_if_unchanged mid new (c.in_ok-text.ensures.ok clean _ archive).1)

pub returns-in-None-clause-open : goal.returns-in-None-clause-open
returns-in-None-clause-open g c clean is =
    let old = state g.S.Store c.args.conn.now in
    let mid = state g.S.Store c.probe.new.conn in
    let new = state g.S.Store c.select_text.new.conn in
    let settled = c.is_autocommit-settled.ensures.settled (c.is_autocommit-settled.ensures.value ∙ ap not c.requires.idle) in
    let early : HasCleanDisk mid = omega (arith, c.select_text.ensures.survives.clean, clean) in
    is_open_after old mid new c.in_ok-probe.ensures.ok settled early is (λ archive. (c.in_ok-text.ensures.ok clean _ archive).1)

pub returns-in-None-clause-text : goal.returns-in-None-clause-text
unfolding book_in finished index_text
returns-in-None-clause-text g c clean config judged shown dates keeps =
    let old = state g.S.Store c.args.conn.now in
    let mid = state g.S.Store c.probe.new.conn in
    let new = state g.S.Store c.select_text.new.conn in
    let settled = c.is_autocommit-settled.ensures.settled (c.is_autocommit-settled.ensures.value ∙ ap not c.requires.idle) in
    let early : HasCleanDisk mid = omega (arith, c.select_text.ensures.survives.clean, clean) in
    let rows = rows_after old mid new c.in_ok-probe.ensures.ok settled early keeps in
    let found = (c.in_ok-text.ensures.ok clean (tables_in old.committed) rows).0 in
    ap (option_map (λ (x : TextRow). x.body)) (sym c.in-None.is ∙ found) ∙ text_is c.args.path.now (rows_of (tables_in old.committed).texts) (all_texts config shown dates) (config_paths config keeps.kept.read shown dates) keeps.kept.texts
