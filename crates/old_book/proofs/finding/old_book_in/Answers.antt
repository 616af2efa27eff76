use Rattle.std.proofs.Common.{true, true≢false, sym, ◌∙◌}
use Rattle.tables_read.specs.All.{tables_with}
use Rattle.old_book.proofs.BodiedLemmas.{book_has_bodies}
use Rattle.old_book.proofs.RisingLemmas.{if_rising, rising_if}
use Rattle.old_book.proofs.finding.old_book_in.Goals as goal

pub are_taken-requires : goal.are_taken-requires
are_taken-requires c = record { rising = rising_if (tables_with c.args.all) (sym c.is_rising.ensures ∙ c.if-not-is_rising.false) }

pub returns-then-not-is_rising-clause-none : goal.returns-then-not-is_rising-clause-none
returns-then-not-is_rising-clause-none c none readable config judged shown dates old =
    absurd (true≢false (sym (if_rising (tables_with c.args.all) old.rising) ∙ sym c.is_rising.ensures ∙ c.if-not-is_rising.true))

pub book_of-requires-clause-rising : goal.book_of-requires-clause-rising
book_of-requires-clause-rising c = rising_if (tables_with c.args.all) (sym c.is_rising.ensures ∙ c.if-not-is_rising.false)

pub returns-then-not-branch-clause-none : goal.returns-then-not-branch-clause-none
returns-then-not-branch-clause-none c none readable config judged shown dates old =
    absurd (true≢false (sym (book_has_bodies (tables_with c.args.all) config.text config judged shown dates old.kept) ∙ sym c.in_ok-have_bodies.ensures ∙ c.if-not-branch.true))
