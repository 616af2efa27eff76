use Rattle.std.proofs.Common.{◌∙◌, sym}
use Rattle.std.proofs.lemmas.Bool.{false≢true}
use Rattle.suites.proofs.WrittenNames.{front_cut, front_whole}
use Rattle.suites.proofs.paths.front.Goals as goal

pub returns-then-is_char_boundary : goal.returns-then-is_char_boundary
returns-then-is_char_boundary c = c.range.ensures.value ∙ front_cut c.args.length c.args.text.now (c.is_char_boundary.ensures.test.0 c.if-is_char_boundary.true)

pub returns-else-is_char_boundary : goal.returns-else-is_char_boundary
returns-else-is_char_boundary c =
    front_whole c.args.length c.args.text.now (λ cut. false≢true (sym c.if-is_char_boundary.false ∙ c.is_char_boundary.ensures.test.1 cut))
