use Rattle.pages.proofs.Plain.{written_on, written_all}
use Rattle.pages.proofs.escape.push_characters.Goals as goal

pub loop-character-preserved : goal.loop-character-preserved
loop-character-preserved c =
    written_on _ _ _ _ _ _ c.in_ok-push_character.ensures c.in-Some.ensures.steps.0 c.loop-character.invariant

pub returns : goal.returns
returns c = written_all _ _ _ c.in-None.ensures.steps.0.0 c.loop-character.invariant
