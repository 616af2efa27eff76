use Rattle.std.proofs.Common.{◌≡◌, true, map, sym, subst, ap, ◌∙◌}
use Rattle.sqlite.specs.Held.{state}
use Rattle.rules.specs.Values.{ConfigValue}
use Rattle.tables_meaning.specs.Archives.{KeepsFinished}
use Rattle.tables_meaning.specs.Kept.{book_in}
use Rattle.tables_meaning.proofs.BookFiles.{finished_files}
use Rattle.keep_tables.specs.Keepers.{config_in_use, table_book}
use Rattle.keep_tables.proofs.KeptBook.{keeps_book}
use Rattle.queue.specs.Commands.{call_of, outcome_of}
use Rattle.tables_meaning.proofs.ReadCalls.{if_then}
use Rattle.promise.proofs.Courses.{clean_made, config_stays, go_on, open_or_failed}
use Rattle.promise.proofs.Refusals.{err_then}
use Rattle.promise.proofs.reopened.drive_opened.Goals as goal

pub returns-in-Ok-clause-once : goal.returns-in-Ok-clause-once
unfolding book_in
returns-in-Ok-clause-once g c clean =
    let db = (state g.S.Store c.args.connection).committed in
    let made = c.in-Ok.keeper in
    let new = c.make_commands.result.0.keeper in
    let old = c.new-archive.result.keeper in
    let commands = c.args.commands.now in
    let early = clean_made true made old new c.new-archive.ensures c.make_commands.ensures.lasts clean in
    let keeps : KeepsFinished db (config_in_use made) (table_book made) = (c.in-Ok.ensures.opened early).1 in
    let config : config_in_use new ≡ config_in_use made = config_stays true made old new c.new-archive.ensures c.make_commands.ensures.lasts in (
      table_book made,
      subst (λ (x : ConfigValue). KeepsFinished db x (table_book made)) (sym config) keeps,
      go_on true made old new c.new-archive.ensures c.make_commands.ensures.lasts _ commands c.make_commands.result.1
          (finished_files db (config_in_use made) (table_book made) keeps) (c.in-Ok.ensures.opened early).0.is_open c.make_commands.ensures.once
          (if_then c.make_commands.result.1 c.make_commands.ensures.crash (λ outcomes leaves h ready faithful left may.
          c.a_stop_leaves_a_part_of_a_list.ensures old new h (map call_of commands) (map outcome_of outcomes.items) ready.0 ready.1 ready.2 faithful clean leaves left may))
          clean,
      err_then c.make_commands.result.1 c.make_commands.ensures.err (λ same. ap (λ a. table_book a.keeper) same ∙ ap table_book c.new-archive.ensures),
    )

pub returns-in-Ok-clause-open : goal.returns-in-Ok-clause-open
returns-in-Ok-clause-open g c clean =
    open_or_failed true c.in-Ok.keeper c.new-archive.result.keeper c.make_commands.result.0.keeper c.new-archive.ensures c.make_commands.ensures.lasts
    (state g.S.Store c.args.connection).faults (λ early. (c.in-Ok.ensures.opened early).0.is_open) c.in-Ok.ensures.crash.counts clean

pub returns-in-Ok-clause-kept : goal.returns-in-Ok-clause-kept
returns-in-Ok-clause-kept g c clean up = keeps_book c.make_commands.result.0.keeper clean up
