use Rattle.std.proofs.Common.{List, ◌++◌, reverse, string_bytes, sym, ap, ◌∙◌, arith}
use Rattle.std.specs.List.{flat_map}
use Rattle.std.proofs.lemmas.List.{append-nil, drop_all}
use Rattle.book.specs.declared.change.Judgement.{Judgement}
use Rattle.pages.specs.UploadsPage.{judged_row}
use Rattle.pages.proofs.Backwards.{written_more}
use Rattle.pages.proofs.uploads.push_all_judged.Goals as goal

pub loop-left-init : goal.loop-left-init
loop-left-init c = record {
  within = omega arith;
  written = sym (append-nil (string_bytes c.args.out.now))
      ∙ ap (λ (js : List Judgement). string_bytes c.args.out.now ++ flat_map (judged_row c.args.site) (reverse js)) (sym (drop_all _ c.args.judged.now (omega arith)));
}

pub loop-left-preserved : goal.loop-left-preserved
loop-left-preserved c = record {
  within = omega arith;
  written = written_more (judged_row c.args.site) c.args.judged.now c.loop-left.left c.index-judged-left.result _ _ _
      c.loop-left-test.true (omega arith) c.index-judged-left.is c.loop-left.invariant.written c.in_ok-push_judged.ensures;
}
