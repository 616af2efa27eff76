use Rattle.std.proofs.Common.{◌≡◌, true, IfOk, IsTrue, map, refl, sym, ap, subst, ◌∙◌}
use Rattle.sqlite.specs.Held.{state}
use Rattle.sqlite.specs.State.{HasCleanDisk}
use Rattle.book.specs.Book.{Book, HasItsFiles}
use Rattle.book.specs.Configured.{configured, keeps_shown}
use Rattle.tables_meaning.specs.Archives.{KeepsFinished}
use Rattle.tables_meaning.specs.Kept.{book_in}
use Rattle.tables_meaning.proofs.BookFiles.{finished_files}
use Rattle.tables_meaning.proofs.ReadCalls.{if_then}
use Rattle.keep_tables.specs.Keepers.{config_in_use, connection_of, table_book}
use Rattle.keep_tables.proofs.KeptBook.{keeps_book}
use Rattle.queue.specs.Archives.{Stands}
use Rattle.queue.specs.Commands.{call_of, outcome_of}
use Rattle.queue.specs.Configuring.{IsLeftConfigured}
use Rattle.queue.specs.Histories.{opened_with}
use Rattle.history.proofs.Kept.{stands_kept}
use Rattle.history.proofs.Reopening.{opens_itself}
use Rattle.promise.specs.Lists.{GoOn}
use Rattle.promise.proofs.Configurations.{configured_its, own_keeps}
use Rattle.promise.proofs.Courses.{go_on}
use Rattle.promise.proofs.Refusals.{err_then}
use Rattle.promise.proofs.configured.drive_configured.Goals as goal

pub returns-in-Ok-configure-clause-once : goal.returns-in-Ok-configure-clause-once
unfolding book_in
returns-in-Ok-configure-clause-once g c clean =
    let db = (state g.S.Store c.args.connection).committed in
    let first = c.in-Ok.keeper in
    let made = c.configure.new.self.keeper in
    let new = c.make_commands-archive.result.0.keeper in
    let commands = c.args.commands.now in
    let made_all = c.make_commands-archive.ensures in
    let done = c.in-Ok-configure.ensures in
    let clean_made = made_all.lasts.clean clean in
    let early = subst (λ k. HasCleanDisk (connection_of k)) c.new-archive.ensures (done.endures.clean clean_made) in
    let b = table_book first in
    let keeps : KeepsFinished db (config_in_use first) b = (c.in-Ok.ensures.opened early).1 in
    let stay : keeps_shown c.args.config b ≡ true = sym (ap (λ k. keeps_shown c.args.config (table_book k)) c.new-archive.ensures) ∙ done.kept clean_made in
    let is : table_book made ≡ configured c.args.config c.args.moment b = done.book clean_made ∙ ap (λ k. configured c.args.config c.args.moment (table_book k)) c.new-archive.ensures in
    let up = done.served clean_made in
    let files : HasItsFiles (table_book made) = subst HasItsFiles (sym is) (configured_its db (config_in_use first) c.args.config c.args.moment b keeps stay) in (
      b,
      own_keeps db (config_in_use first) b keeps,
      (
        stay,
        subst (λ (x : Book). IfOk c.make_commands-archive.result.1 (λ outcomes. GoOn x (map call_of commands) (map outcome_of outcomes.items) new)) is
            (go_on true made made new refl made_all.lasts _ commands c.make_commands-archive.result.1 files up made_all.once
            (if_then c.make_commands-archive.result.1 made_all.crash (λ outcomes leaves h ready faithful left may.
            c.a_stop_leaves_a_part_of_a_list.ensures made new h (map call_of commands) (map outcome_of outcomes.items) ready.0 ready.1 ready.2 faithful clean leaves left may))
            clean),
        err_then c.make_commands-archive.result.1 made_all.err (λ same. (
          subst (λ a. IsTrue (connection_of a.keeper).is_open) (sym same) up,
          ap (λ a. table_book a.keeper) same ∙ is,
        )),
      ),
      tt,
    )

pub returns-in-Ok-configure-clause-kept : goal.returns-in-Ok-configure-clause-kept
returns-in-Ok-configure-clause-kept g c clean up = keeps_book c.make_commands-archive.result.0.keeper clean up

pub returns-in-Ok-configure-clause-given : goal.returns-in-Ok-configure-clause-given
unfolding book_in configured
returns-in-Ok-configure-clause-given g c clean =
    let lasts = c.make_commands-archive.ensures.lasts in
    lasts.config ∙ ap (λ (b : Book). b.config) (c.in-Ok-configure.ensures.book (lasts.clean clean))

pub returns-in-Err-configure-clause-once : goal.returns-in-Err-configure-clause-once
unfolding book_in
returns-in-Err-configure-clause-once g c clean =
    let db = (state g.S.Store c.args.connection).committed in
    let first = c.in-Ok.keeper in
    let asked = c.new-archive.result.keeper in
    let refused = c.in-Err-configure.ensures in
    let clean_asked = refused.endures.clean clean in
    let early = subst (λ k. HasCleanDisk (connection_of k)) c.new-archive.ensures clean_asked in
    let b = table_book first in
    let keeps : KeepsFinished db (config_in_use first) b = (c.in-Ok.ensures.opened early).1 in
    let stands : Stands b (opened_with b) = opens_itself b (finished_files db (config_in_use first) b keeps) in
    let up = subst (λ k. IsTrue (connection_of k).is_open) (sym c.new-archive.ensures) (c.in-Ok.ensures.opened early).0.is_open in (
      b,
      own_keeps db (config_in_use first) b keeps,
      tt,
      (
        λ e. sym (ap (λ k. keeps_shown c.args.config (table_book k)) c.new-archive.ensures) ∙ refused.differs clean e,
        λ still. refused.err clean still ∙ ap table_book c.new-archive.ensures,
        λ left may.
            subst (λ (x : Book). IsLeftConfigured c.args.config c.args.moment x left) (sym stands)
            (c.a_stop_in_a_configuration_leaves_a_book.ensures asked c.configure.new.self.keeper (opened_with b) c.args.config c.args.moment clean_asked up
            (stands_kept (IsTrue (connection_of asked).is_open) (table_book asked) (opened_with b) (ap table_book c.new-archive.ensures ∙ stands))
            clean refused.crash left may),
      ),
    )

pub returns-in-Err-configure-clause-kept : goal.returns-in-Err-configure-clause-kept
returns-in-Err-configure-clause-kept g c clean up = keeps_book c.configure.new.self.keeper clean up
