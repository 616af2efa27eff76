use Rattle.std.proofs.Common.{◌≡◌, map, ap, ◌∙◌}
use Rattle.std.specs.Prelude.{⊤}
use Rattle.book.specs.Book.{Book}
use Rattle.book.specs.Book.{fresh_book}
use Rattle.keep.specs.Plain.{plain_book}
use Rattle.history.specs.Commands.{call_of}
use Rattle.history.specs.Histories.{opened_with}
use Rattle.history.proofs.Kept.{stands_kept}
use Rattle.history.proofs.Openings.{faithful_anew, fresh_stands}
use Rattle.queue.proofs.promise.drive_anew.Goals as goal

pub returns-clause-kinds : goal.returns-clause-kinds
returns-clause-kinds c = c.in_ok-outcomes.ensures.kinds

pub returns-clause-once : goal.returns-clause-once
returns-clause-once c apart =
    let opening : Book = fresh_book c.args.config c.args.moment in
    let kept : plain_book c.new-archive.result.keeper ≡ opening = ap plain_book c.new-archive.ensures ∙ c.in-Ok.ensures.made in
    c.in_ok-outcomes.ensures.once (opened_with opening)
    (stands_kept ⊤ (plain_book c.new-archive.result.keeper) (opened_with opening) (kept ∙ fresh_stands c.args.config c.args.moment))
    (faithful_anew c.args.config c.args.moment (map call_of c.args.commands.now) apart)
    tt
