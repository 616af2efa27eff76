use Rattle.std.proofs.Common.{◌≡◌, take, ◌+◌, [], ◌∷◌, ◌++◌, map, sym, ap, ◌∙◌}
use Rattle.std.specs.String.{string_bytes}
use Rattle.std.proofs.lemmas.List.{map-append, take_more}
use Rattle.history.specs.Answers.{copy_line, line_on_copy}
use Rattle.history.specs.Commands.{copy_of}
use Rattle.history.proofs.promotion.copy_lines.Goals as goal

pub loop-copy-preserved : goal.loop-copy-preserved
loop-copy-preserved c =
    let copy = c.copy-item.result in
    let before = take c.loop-copy.copy-index c.args.copies.now in
    let more : take (c.loop-copy.copy-index + 1) c.args.copies.now ≡ before ++ copy ∷ [] =
    take_more c.args.copies.now c.loop-copy.copy-index copy c.loop-copy-test.true ∙ ap (λ x. before ++ x ∷ []) (sym c.copy-item.is) in
    ap (map string_bytes) c.in_ok-push.ensures.items
    ∙ map-append string_bytes c.loop-copy.lines.items (c.in_ok-line.line ∷ [])
    ∙ (λ i. c.loop-copy.invariant i ++ (c.in_ok-line.ensures ∙ ap (line_on_copy copy.items) c.as_str.ensures.value) i ∷ [])
    ∙ sym (map-append copy_line (map copy_of before) (copy_of copy ∷ []))
    ∙ ap (map copy_line) (sym (ap (map copy_of) more ∙ map-append copy_of before (copy ∷ [])))
