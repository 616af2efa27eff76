use Rattle.std.proofs.Common.{List, ◌++◌, ◌∷◌, [], map, sym, ap, ◌∙◌, arith}
use Rattle.std.specs.List.{range_with_len}
use Rattle.std.proofs.lemmas.List.FromFn.{map-range_with_len_more}
use Rattle.figures.specs.Families.{verdict_sample}
use Rattle.figures.specs.declared.family.Sample.{Sample}
use Rattle.figures.proofs.judged.verdicts_family.Goals as goal

pub loop-number-preserved : goal.loop-number-preserved
loop-number-preserved c =
    let n = c.loop-number.number in
    let sample = verdict_sample c.args.judged.now in
    c.in_ok-push.ensures.items
    ∙ ap (λ (samples : List Sample). samples ++ c.in_ok-verdict_sample.field-0 ∷ []) c.loop-number.invariant
    ∙ ap (λ (s : Sample). map sample (range_with_len 0 n) ++ s ∷ []) c.in_ok-verdict_sample.ensures
    ∙ sym (map-range_with_len_more sample 0 n n (omega arith))
