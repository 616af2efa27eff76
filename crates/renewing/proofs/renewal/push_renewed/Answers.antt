use Rattle.std.proofs.Common.{sym, ◌∙◌}
use Rattle.book.specs.Book.{text_at}
use Rattle.renewing.proofs.RenewedTexts.{pushed_other}
use Rattle.renewing.proofs.renewal.push_renewed.Goals as goal

pub returns-in_ok-push-clause-texts : goal.returns-in_ok-push-clause-texts
returns-in_ok-push-clause-texts g c clean =
    pushed_other c.args.texts.now.items c.push.new.self.items (text_at (g.K.Keeper.book c.args.keeper.now) c.args.text.path) c.args.text
    c.in_ok-push.ensures.items (sym (c.in_ok-keeps_text.ensures.kept clean) ∙ c.if-not-branch.true)
