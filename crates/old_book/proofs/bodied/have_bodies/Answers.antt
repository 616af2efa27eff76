use Rattle.std.proofs.Common.{◌∙◌}
use Rattle.tables_read.specs.All.{tables_with}
use Rattle.old_book.proofs.BodiedLemmas.{both_have}
use Rattle.old_book.proofs.bodied.have_bodies.Goals as goal

pub returns : goal.returns
returns c =
    c.both.ensures
    ∙ both_have (tables_with c.args.all.now) c.in_ok-numbers_of.field-0.items c.in_order-ids.result.rising.items c.deref.result.now c.deref-2.result.now c.deref-3.result.now c.have_arrivals-arrivals.result
    c.have_files-files.result c.in_ok-numbers_of.ensures c.deref.ensures.value c.in_order-ids.ensures c.deref-2.ensures.value c.deref-3.ensures.value c.have_arrivals-arrivals.ensures c.have_files-files.ensures
