use Rattle.std.proofs.Common.{Some, length, sym, subst, ◌<◌, arith}
use Rattle.std.proofs.lemmas.List.Elements.{Contains-get_or}
use Rattle.std.specs.List.{Contains}
use Rattle.book.specs.declared.change.IndexText.{IndexText}
use Rattle.keep_tables.specs.AtHand.{NotesAtMost}
use Rattle.keep_tables.proofs.AtHandLemmas.{forgotten, noted_more}
use Rattle.keep_tables.proofs.text_prints.renew_prints.Goals as goal

pub loop-text-init : goal.loop-text-init
loop-text-init c = forgotten c.args.prints.now.items c.forget_prints.new.prints.items c.args.texts.now c.forget_prints.ensures

pub loop-text-preserved : goal.loop-text-preserved
loop-text-preserved c =
    let text : IndexText = c.text-item.result in
    let inside : c.loop-text.text-index < length c.args.texts.now = omega (arith, c.loop-text-test.true) in
    let member : Contains c.args.texts.now text = subst (Contains c.args.texts.now) (sym c.text-item.is) (Contains-get_or c.args.texts.now c.loop-text.text-index text inside) in
    noted_more c.args.prints.now.items c.loop-text.prints.items c.note_print.new.prints.items c.args.texts.now text member
    (subst (λ path. NotesAtMost c.loop-text.prints.items path (Some text.print) c.note_print.new.prints.items) c.as_str.ensures c.note_print.ensures)
    c.loop-text.invariant
