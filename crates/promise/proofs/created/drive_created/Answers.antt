use Rattle.std.proofs.Common.{◌≡◌, true, map, subst, ap, ◌∙◌}
use Rattle.sqlite.specs.Held.{state}
use Rattle.rules.specs.Values.{ConfigValue}
use Rattle.tables_meaning.specs.Archives.{KeepsBook}
use Rattle.tables_meaning.specs.Kept.{book_in}
use Rattle.keep_tables.specs.Keepers.{connection_of, table_book}
use Rattle.keep_tables.proofs.KeptBook.{keeps_book}
use Rattle.queue.specs.Commands.{call_of, outcome_of}
use Rattle.queue.specs.Histories.{opened_with}
use Rattle.history.proofs.Openings.{faithful_anew}
use Rattle.book.specs.Book.{fresh_book}
use Rattle.tables_meaning.proofs.ReadCalls.{if_then}
use Rattle.promise.proofs.Courses.{clean_made, config_made, once_made, open_or_failed, ready_made}
use Rattle.promise.proofs.Refusals.{err_then}
use Rattle.promise.proofs.created.drive_created.Goals as goal

pub returns-in-Ok-clause-once : goal.returns-in-Ok-clause-once
returns-in-Ok-clause-once g c clean =
    once_made true c.in-Ok.keeper c.new-archive.result.keeper c.make_commands.result.0.keeper c.new-archive.ensures c.make_commands.ensures.lasts
    c.args.config c.args.moment c.args.commands.now c.make_commands.result.1 c.in-Ok.ensures.made c.make_commands.ensures.once clean

pub returns-in-Ok-clause-open : goal.returns-in-Ok-clause-open
returns-in-Ok-clause-open g c clean =
    open_or_failed true c.in-Ok.keeper c.new-archive.result.keeper c.make_commands.result.0.keeper c.new-archive.ensures c.make_commands.ensures.lasts
    (state g.S.Store c.args.connection).faults (λ early. (c.in-Ok.ensures.made early).0) c.in-Ok.ensures.crash.counts clean

pub returns-in-Ok-clause-kept : goal.returns-in-Ok-clause-kept
unfolding book_in
returns-in-Ok-clause-kept g c clean up =
    let new = c.make_commands.result.0.keeper in
    let config : new.config ≡ c.args.config =
    config_made true c.in-Ok.keeper c.new-archive.result.keeper new c.new-archive.ensures c.make_commands.ensures.lasts c.args.config c.args.moment c.in-Ok.ensures.made clean in
    subst (λ (x : ConfigValue). KeepsBook (connection_of new).committed x (table_book new)) config (keeps_book new clean up)

pub returns-in-Ok-clause-none : goal.returns-in-Ok-clause-none
unfolding book_in
returns-in-Ok-clause-none g c clean =
    let new = c.make_commands.result.0.keeper in
    let early = clean_made true c.in-Ok.keeper c.new-archive.result.keeper new c.new-archive.ensures c.make_commands.ensures.lasts clean in
    err_then c.make_commands.result.1 c.make_commands.ensures.err
    (λ same. ap (λ a. table_book a.keeper) same ∙ ap table_book c.new-archive.ensures ∙ (c.in-Ok.ensures.made early).1)

pub returns-in-Ok-clause-crash : goal.returns-in-Ok-clause-crash
returns-in-Ok-clause-crash g c clean =
    let old = c.new-archive.result.keeper in
    let new = c.make_commands.result.0.keeper in
    let ready = ready_made true c.in-Ok.keeper old new c.new-archive.ensures c.make_commands.ensures.lasts c.args.config c.args.moment c.in-Ok.ensures.made clean in
    let calls = map call_of c.args.commands.now in
    if_then c.make_commands.result.1 c.make_commands.ensures.crash (λ outcomes leaves apart left may.
    c.a_stop_leaves_a_part_of_a_list.ensures old new (opened_with (fresh_book c.args.config c.args.moment)) calls (map outcome_of outcomes.items)
    ready.0 ready.1 ready.2 (faithful_anew c.args.config c.args.moment calls apart) clean leaves left may)
