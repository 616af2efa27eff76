use Rattle.std.proofs.Common.{◌∙◌, ap}
use Rattle.std.proofs.lemmas.Result.{IfOk-weaker}
use Rattle.suites.proofs.Taken.{parts_found}
use Rattle.suites.proofs.upload.Upload.parts.Goals as goal

pub returns : goal.returns
returns c =
    IfOk-weaker c.parts_of.result _ _ (λ parts found. found ∙ parts_found c.args.ending.now c.entries.result.now c.as_slice.result.now c.args.self.now
    (c.entries.ensures ∙ ap (λ u. u.changes.entries) c.self.view_is) (c.as_slice.ensures ∙ ap (λ u. u.texts) c.self.view_is)) c.parts_of.ensures
