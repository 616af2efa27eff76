use Rattle.std.proofs.Common.{◌≡◌, ◌≢◌, ◌<◌, List, [], ◌∷◌, length, inr, get_or, ◌∙◌, ap, subst, arith}
use Rattle.std.proofs.lemmas.Result.{err_from_is_err_and}
use Rattle.para.specs.declared.fault.ParaFault.TheVariants.{OutOfMemory, SeveralParagraphs}
use Rattle.para.specs.Field.{FieldValue}
use Rattle.para.specs.Grammar.{Spells}
use Rattle.para.proofs.Texts.{refusal_one, several, only_one, one_item, some_length}
use Rattle.para.proofs.InText.{fields_spelled, fault_fields, refused_fields}
use Rattle.para.proofs.read.read_one.Goals as goal

one_is_some : (p : List FieldValue) → p ∷ [] ≢ []
one_is_some p e = cc

pub returns-in_err-paragraphs-clause-only : goal.returns-in_err-paragraphs-clause-only
returns-in_err-paragraphs-clause-only c = λ p within spelled.
    let e : c.in_err-paragraphs.field-0.0 ≡ OutOfMemory = c.in_err-paragraphs.ensures.only (p ∷ []) within (one_is_some p) spelled in
    let q = err_from_is_err_and c.from_residual.result c.from_residual.ensures.1 in
    rw (q.1, q.2) e

pub returns-in_err-paragraphs-clause-judged : goal.returns-in_err-paragraphs-clause-judged
returns-in_err-paragraphs-clause-judged c =
    let q = err_from_is_err_and c.from_residual.result c.from_residual.ensures.1 in
    rw (q.1, q.2) (refusal_one c.args.text.now c.args.limit c.in_err-paragraphs.field-0.0 c.in_err-paragraphs.ensures.judged)

pub returns-then-len-gt1-clause-only : goal.returns-then-len-gt1-clause-only
returns-then-len-gt1-clause-only c = λ p within spelled.
    let same : c.in_ok-paragraphs.paragraphs.items ≡ p ∷ [] = c.in_ok-paragraphs.ensures.only (p ∷ []) within (one_is_some p) spelled in
    absurd (omega (arith, ap length same, c.in_ok-paragraphs.paragraphs.ok.0, c.len.ensures))

pub returns-then-len-gt1-clause-judged : goal.returns-then-len-gt1-clause-judged
returns-then-len-gt1-clause-judged c = several c.args.text.now c.args.limit c.in_ok-paragraphs.paragraphs.items c.in_ok-paragraphs.ensures.spelled.2
    (omega (arith, c.in_ok-paragraphs.paragraphs.ok.0, c.len.ensures)) c.in_ok-paragraphs.ensures.judged

pub returns-clause-only : goal.returns-clause-only
returns-clause-only c = λ p within spelled.
    let same : c.in_ok-paragraphs.paragraphs.items ≡ p ∷ [] = c.in_ok-paragraphs.ensures.only (p ∷ []) within (one_is_some p) spelled in
    c.remove.ensures.value ∙ ap (λ xs. get_or xs 0 c.remove.result) same

pub returns-clause-judged : goal.returns-clause-judged
returns-clause-judged c =
    let some : 0 < length c.in_ok-paragraphs.paragraphs.items = some_length c.in_ok-paragraphs.paragraphs.items c.in_ok-paragraphs.ensures.spelled.1 in
    let one : length c.in_ok-paragraphs.paragraphs.items ≡ 1 = omega (arith, c.in_ok-paragraphs.paragraphs.ok.0, c.len.ensures, some) in
    let same : c.in_ok-paragraphs.paragraphs.items ≡ c.remove.result ∷ [] = one_item c.in_ok-paragraphs.paragraphs.items c.remove.result one c.remove.ensures.value in
    let P : List (List FieldValue) → Type 0 = λ ps. Spells c.args.text.now ps in
    only_one c.args.text.now c.args.limit c.remove.result (subst P same c.in_ok-paragraphs.ensures.spelled.2) c.in_ok-paragraphs.ensures.judged

pub returns-in_err-paragraphs-clause-refused : goal.returns-in_err-paragraphs-clause-refused
returns-in_err-paragraphs-clause-refused c =
    let q = err_from_is_err_and c.from_residual.result c.from_residual.ensures.1 in
    rw (q.1, q.2) (refused_fields c.args.text.now c.args.limit c.in_err-paragraphs.field-0.0 (refusal_one c.args.text.now c.args.limit c.in_err-paragraphs.field-0.0 c.in_err-paragraphs.ensures.judged))

pub returns-then-len-gt1-clause-refused : goal.returns-then-len-gt1-clause-refused
returns-then-len-gt1-clause-refused c = inr (fault_fields c.args.text.now c.args.limit SeveralParagraphs (several c.args.text.now c.args.limit c.in_ok-paragraphs.paragraphs.items c.in_ok-paragraphs.ensures.spelled.2
    (omega (arith, c.in_ok-paragraphs.paragraphs.ok.0, c.len.ensures)) c.in_ok-paragraphs.ensures.judged))

pub returns-clause-read : goal.returns-clause-read
returns-clause-read c =
    let some : 0 < length c.in_ok-paragraphs.paragraphs.items = some_length c.in_ok-paragraphs.paragraphs.items c.in_ok-paragraphs.ensures.spelled.1 in
    let one : length c.in_ok-paragraphs.paragraphs.items ≡ 1 = omega (arith, c.in_ok-paragraphs.paragraphs.ok.0, c.len.ensures, some) in
    let same : c.in_ok-paragraphs.paragraphs.items ≡ c.remove.result ∷ [] = one_item c.in_ok-paragraphs.paragraphs.items c.remove.result one c.remove.ensures.value in
    let P : List (List FieldValue) → Type 0 = λ ps. Spells c.args.text.now ps in
    fields_spelled c.args.text.now c.args.limit c.remove.result (c.in_ok-paragraphs.ensures.spelled.0, subst P same c.in_ok-paragraphs.ensures.spelled.2)
