use Rattle.std.proofs.Common.{◌≡◌, ◌∙◌, ◌∷◌, [], ◌++◌, ◌+◌, map, take, sym, ap}
use Rattle.std.proofs.lemmas.List.{map_more, take_all}
use Rattle.sums.specs.Views.{any_failed, line_form}
use Rattle.sums.proofs.Files.{no_text}
use Rattle.sums.proofs.Splitting.{split_none, split_kept, split_past}
use Rattle.sums.proofs.lines.split_list.Goals.{then-not-any_failed+in_ok-push, else-not-any_failed}
use Rattle.sums.proofs.lines.split_list.Goals as goal

pub loop-text-init : goal.loop-text-init
loop-text-init c = rw c.new-lines.ensures.items (split_none c.args.most c.args.before (line_form c.args.form))

pub loop-text-preserved : goal.loop-text-preserved
loop-text-preserved c =
    let texts = c.args.texts.now in
    let i = c.loop-text.text-index in
    let form = line_form c.args.form in
    let line = c.in_ok-line.line in
    let more : map (λ t. t.now) (take (i + 1) texts) ≡ map (λ t. t.now) (take i texts) ++ line ∷ [] =
    map_more (λ t. t.now) texts i no_text c.loop-text-test.true ∙ ap (λ l. map (λ t. t.now) (take i texts) ++ l ∷ []) (sym c.in_ok-line.ensures) in
    elim c.if-not-any_failed.branch [
      | then-not-any_failed+in_ok-push w ↦ rw (more, w.lines-is, w.in_ok-push.ensures.items, c.with_line-failed.ensures)
          (split_kept c.args.most c.args.before c.loop-text.failed form (map (λ t. t.now) (take i texts)) c.loop-text.lines.items line c.loop-text.invariant (sym (ap any_failed c.with_line-failed.ensures) ∙ (sym c.any_failed.ensures ∙ w.if-not-any_failed.true)))
      | else-not-any_failed w ↦ rw (more, w.lines-is, c.with_line-failed.ensures)
          (split_past c.args.most c.args.before c.loop-text.failed form (map (λ t. t.now) (take i texts)) c.loop-text.lines.items line c.loop-text.invariant (sym (ap any_failed c.with_line-failed.ensures) ∙ (sym c.any_failed.ensures ∙ w.if-not-any_failed.false)))
    ]

pub returns : goal.returns
returns c = rw (sym (take_all c.loop-text.text-index c.args.texts.now c.loop-text-test.false)) c.loop-text.invariant
