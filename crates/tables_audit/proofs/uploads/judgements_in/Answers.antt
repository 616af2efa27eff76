use Rattle.std.proofs.Common.{◌≡◌, List, None, Some, Vec, Global, All, Contains, map, ap, subst, ◌∙◌, arith, MatchBool}
use Rattle.std.specs.List.{range_with_len}
use Rattle.std.proofs.lemmas.Bool.Decides.{when_false, when_true}
use Rattle.book.specs.declared.change.Judgement.{Judgement}
use Rattle.tables.specs.Rows.{Numbered, rows_of}
use Rattle.tables.specs.declared.rows.UploadRow.{UploadRow}
use Rattle.tables_read.specs.All.{tables_with}
use Rattle.tables_audit.specs.Uploads.{AreBesides, IsPlacedWell, judged_at, last_of}
use Rattle.tables_audit.proofs.UploadsFits.{fit_from, none_besides, none_until, some_of}
use Rattle.tables_audit.proofs.uploads.judgements_in.Goals as goal

pub returns-in_default-clause-none : goal.returns-in_default-clause-none
returns-in_default-clause-none c keys fit e judged u =
    none_until (tables_with c.args.all.now) c.last_place-last.result (c.last_place-last.ensures ∙ ap last_of c.deref-2.ensures.value)
    (subst (λ (us : Numbered UploadRow). Contains (map (judged_at us) (range_with_len 1 c.last_place-last.result)) None) c.deref-3.ensures.value (c.in_ok-judged.ensures.none c.in_default.is))
    judged u

pub returns-then-not-branch-clause-none : goal.returns-then-not-branch-clause-none
returns-then-not-branch-clause-none c keys fit e judged u =
    let t = tables_with c.args.all.now in
    let found = c.in-Some.judged.items in
    none_besides t c.last_place-last.result found (c.last_place-last.ensures ∙ ap last_of c.deref-2.ensures.value)
    (subst (λ (us : Numbered UploadRow). map (λ (j : Judgement). Some j) found ≡ map (judged_at us) (range_with_len 1 c.last_place-last.result)) c.deref-3.ensures.value
    (some_of (λ (v : Vec Judgement Global). map (λ (j : Judgement). Some j) v.items ≡ map (judged_at c.deref-3.result.now) (range_with_len 1 c.last_place-last.result)) c.in_ok-judged.field-0 c.in-Some.judged c.in-Some.is c.in_ok-judged.ensures.some))
    (when_false (AreBesides t found) (AreBesides t found → ⊥) (grind arith)
    (subst (λ (js : List Judgement). MatchBool c.in_ok-are_besides.field-0 (AreBesides t js) (AreBesides t js → ⊥)) c.deref-4.ensures.value (c.in_ok-are_besides.ensures keys fit)))
    judged u

pub returns-clause-some : goal.returns-clause-some
returns-clause-some c keys fit =
    let t = tables_with c.args.all.now in
    let found = c.in-Some.judged.items in
    fit_from t c.last_place-last.result found
    (when_true (All IsPlacedWell (rows_of t.uploads)) (All IsPlacedWell (rows_of t.uploads) → ⊥) (grind arith)
    (subst (λ (us : Numbered UploadRow). MatchBool c.are_placed.result (All IsPlacedWell (rows_of us)) (All IsPlacedWell (rows_of us) → ⊥)) c.deref.ensures.value c.are_placed.ensures))
    (c.last_place-last.ensures ∙ ap last_of c.deref-2.ensures.value)
    (subst (λ (us : Numbered UploadRow). map (λ (j : Judgement). Some j) found ≡ map (judged_at us) (range_with_len 1 c.last_place-last.result)) c.deref-3.ensures.value
    (some_of (λ (v : Vec Judgement Global). map (λ (j : Judgement). Some j) v.items ≡ map (judged_at c.deref-3.result.now) (range_with_len 1 c.last_place-last.result)) c.in_ok-judged.field-0 c.in-Some.judged c.in-Some.is c.in_ok-judged.ensures.some))
    (when_true (AreBesides t found) (AreBesides t found → ⊥) (grind arith)
    (subst (λ (js : List Judgement). MatchBool c.in_ok-are_besides.field-0 (AreBesides t js) (AreBesides t js → ⊥)) c.deref-4.ensures.value (c.in_ok-are_besides.ensures keys fit)))
