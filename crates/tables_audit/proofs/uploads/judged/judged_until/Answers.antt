use Rattle.std.proofs.Common.{◌+◌, ◌++◌, ◌∷◌, [], List, Option, Some, map, ap, ap₂, sym, ◌∙◌, arith}
use Rattle.std.proofs.lemmas.List.{map-append}
use Rattle.std.proofs.lemmas.List.FromFn.{map-range_with_len_more}
use Rattle.book.specs.declared.change.Judgement.{Judgement}
use Rattle.tables_audit.specs.Uploads.{judged_at}
use Rattle.tables_audit.proofs.PlacesLemmas.{judged_by}
use Rattle.tables_audit.proofs.UploadsLists.{none_in_range}
use Rattle.tables_audit.proofs.uploads.judged.judged_until.Goals as goal

pub returns-in_default-clause-none : goal.returns-in_default-clause-none
returns-in_default-clause-none c e =
    none_in_range (judged_at c.args.uploads.now) c.args.last c.loop-before.before (omega arith) (sym (c.in_ok-judgement.ensures ∙ judged_by c.args.uploads.now c.in_ok-placed.placed.items c.new-rows.result.all.now (c.new-rows.ensures ∙ c.deref.ensures.value) c.in_ok-placed.ensures (c.loop-before.before + 1)) ∙ c.in_default.is)

pub loop-before-preserved : goal.loop-before-preserved
loop-before-preserved c =
    ap (map (λ (j : Judgement). Some j)) c.in_ok-push.ensures.items
    ∙ map-append (λ (j : Judgement). Some j) c.loop-before.judged.items (c.in-Some.judgement ∷ [])
    ∙ ap₂ (λ (l : List (Option Judgement)) (o : Option Judgement). l ++ o ∷ []) c.loop-before.invariant (sym c.in-Some.is ∙ c.in_ok-judgement.ensures ∙ judged_by c.args.uploads.now c.in_ok-placed.placed.items c.new-rows.result.all.now (c.new-rows.ensures ∙ c.deref.ensures.value) c.in_ok-placed.ensures (c.loop-before.before + 1))
    ∙ sym (map-range_with_len_more (judged_at c.args.uploads.now) 1 c.loop-before.before (c.loop-before.before + 1) (omega arith))
