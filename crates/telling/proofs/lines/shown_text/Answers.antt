use Rattle.std.proofs.Common.{ℕ, ◌++◌, string_bytes, ap, ◌∙◌}
use Rattle.std.specs.Char.{encode_utf8}
use Rattle.std.proofs.lemmas.Str.{IsUtf8-past_char}
use Rattle.telling.proofs.ShownLemmas.{shown_all, shown_on}
use Rattle.telling.proofs.lines.shown_text.Goals as goal

pub loop-character-preserved : goal.loop-character-preserved
loop-character-preserved c =
    let so_far = c.loop-character.invariant in
    let parts = c.in-Some.ensures.steps.0 in
    record {
      text = IsUtf8-past_char _ _ c.in-Some.character so_far.text parts;
      shown = shown_on _ _ _ _ _ c.in-Some.character so_far.text parts
          (c.in_ok-push.ensures.bytes ∙ ap (λ (x : ℕ). string_bytes c.loop-character.shown ++ encode_utf8 x) c.shown_character.ensures)
          so_far.shown;
    }

pub returns : goal.returns
returns c = shown_all _ _ _ c.in-None.ensures.steps.0.0 c.loop-character.invariant.shown
