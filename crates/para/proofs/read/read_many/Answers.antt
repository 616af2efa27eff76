use Rattle.std.proofs.Common.{◌≡◌, ◌≢◌, ◌≤◌, ℕ, true, false, ◌==◌, List, [], ◌∷◌, length, inr, Option, Some, None, vec_len, if◌then◌else◌, Ok, refl, sym, ◌∙◌, ap, subst, arith}
use Rattle.std.proofs.lemmas.Result.{err_from_is_err_and}
use Rattle.para.specs.declared.fault.ParaFault.TheVariants.{OutOfMemory, NotUtf8, NoParagraph, TooLong}
use Rattle.para.specs.declared.fault.ParaFault.{ParaFault}
use Rattle.para.specs.Bytes.{is_nil}
use Rattle.para.specs.Fault.{many_fault}
use Rattle.std.proofs.lemmas.Bool.Decides.{nat_tests}
use Rattle.para.specs.Field.{FieldValue}
use Rattle.para.specs.Grammar.{lines}
use Rattle.para.specs.Reading.{reading, start}
use Rattle.para.specs.ReaderState.{IsRefused}
use Rattle.para.proofs.Texts.{too_long, not_utf8, refusal, refusal_only, read_text, spelled-read}
use Rattle.para.proofs.InText.{paragraphs_spelled, fault_paragraphs, refused_paragraphs}
use Rattle.para.proofs.read.read_many.Goals as goal

pub returns-then-text-limit-clause-judged : goal.returns-then-text-limit-clause-judged
returns-then-text-limit-clause-judged c = too_long c.args.text.now c.args.limit (omega arith)

pub returns-in_default-clause-judged : goal.returns-in_default-clause-judged
returns-in_default-clause-judged c = not_utf8 c.args.text.now c.args.limit (omega arith) c.in_default.ensures.cases.0

pub returns-in_err-paragraphs-clause-only : goal.returns-in_err-paragraphs-clause-only
returns-in_err-paragraphs-clause-only c = λ ps within some spelled.
    let P : List ℕ → Type 0 = λ t. IsRefused c.in_err-paragraphs.field-0.0 (reading start 0 (lines t)) in
    let e : c.in_err-paragraphs.field-0.0 ≡ OutOfMemory = refusal_only c.args.text.now ps c.in_err-paragraphs.field-0.0 spelled (subst P c.in-Ok.ensures.cases.0 c.in_err-paragraphs.ensures) in
    let p = err_from_is_err_and c.from_residual.result c.from_residual.ensures.1 in
    rw (p.1, p.2) e

pub returns-in_err-paragraphs-clause-judged : goal.returns-in_err-paragraphs-clause-judged
returns-in_err-paragraphs-clause-judged c =
    let P : List ℕ → Type 0 = λ t. IsRefused c.in_err-paragraphs.field-0.0 (reading start 0 (lines t)) in
    let p = err_from_is_err_and c.from_residual.result c.from_residual.ensures.1 in
    rw (p.1, p.2) (refusal c.args.text.now c.args.limit c.in_err-paragraphs.field-0.0 (omega arith) c.in-Ok.ensures.cases.1 (subst P c.in-Ok.ensures.cases.0 c.in_err-paragraphs.ensures))

-- no item, as the test says
no_items : (n : ℕ) (xs : List (List FieldValue)) → n ≡ length xs → (n == 0) ≡ true → xs ≡ []
no_items n [] l e = refl
no_items n (x ∷ xs) l e = absurd (grind (arith, nat_tests))

some_items : (n : ℕ) (xs : List (List FieldValue)) → n ≡ length xs → (n == 0) ≡ false → xs ≢ []
some_items n [] l e h = grind (arith, nat_tests)
some_items n (x ∷ xs) l e h = cc

if_nil : (xs : List (List FieldValue)) (fault : Option ParaFault) → fault ≡ (if is_nil xs then Some NoParagraph else None) → xs ≢ [] → fault ≡ None
if_nil [] fault h n = absurd (n refl)
if_nil (x ∷ xs) fault h n = h

pub returns-then-is_empty-clause-only : goal.returns-then-is_empty-clause-only
returns-then-is_empty-clause-only c = λ ps within some spelled.
    let told : reading start 0 (lines c.args.text.now) ≡ Ok c.in_ok-paragraphs.paragraphs.items = ap (λ t. reading start 0 (lines t)) (sym c.in-Ok.ensures.cases.0) ∙ c.in_ok-paragraphs.ensures in
    let none : c.in_ok-paragraphs.paragraphs.items ≡ [] = no_items (vec_len c.in_ok-paragraphs.paragraphs) c.in_ok-paragraphs.paragraphs.items c.in_ok-paragraphs.paragraphs.ok.0 (sym c.is_empty.ensures ∙ c.if-is_empty.true) in
    let e : Ok ps ≡ Ok c.in_ok-paragraphs.paragraphs.items = sym (spelled-read c.args.text.now ps spelled) ∙ told in
    let same : ps ≡ c.in_ok-paragraphs.paragraphs.items = cc in
    absurd (some (same ∙ none))

pub returns-then-is_empty-clause-judged : goal.returns-then-is_empty-clause-judged
returns-then-is_empty-clause-judged c =
    let told : reading start 0 (lines c.args.text.now) ≡ Ok c.in_ok-paragraphs.paragraphs.items = ap (λ t. reading start 0 (lines t)) (sym c.in-Ok.ensures.cases.0) ∙ c.in_ok-paragraphs.ensures in
    let none : c.in_ok-paragraphs.paragraphs.items ≡ [] = no_items (vec_len c.in_ok-paragraphs.paragraphs) c.in_ok-paragraphs.paragraphs.items c.in_ok-paragraphs.paragraphs.ok.0 (sym c.is_empty.ensures ∙ c.if-is_empty.true) in
    (read_text c.args.text.now c.args.limit c.in_ok-paragraphs.paragraphs.items (omega arith) c.in-Ok.ensures.cases.1 told).fault ∙ ap (λ xs. if is_nil xs then Some NoParagraph else None) none

pub returns-clause-spelled : goal.returns-clause-spelled
returns-clause-spelled c =
    let told : reading start 0 (lines c.args.text.now) ≡ Ok c.in_ok-paragraphs.paragraphs.items = ap (λ t. reading start 0 (lines t)) (sym c.in-Ok.ensures.cases.0) ∙ c.in_ok-paragraphs.ensures in
    let within : length c.args.text.now ≤ c.args.limit = omega arith in (
      within,
      some_items (vec_len c.in_ok-paragraphs.paragraphs) c.in_ok-paragraphs.paragraphs.items c.in_ok-paragraphs.paragraphs.ok.0 (sym c.is_empty.ensures ∙ c.if-is_empty.false),
      (read_text c.args.text.now c.args.limit c.in_ok-paragraphs.paragraphs.items within c.in-Ok.ensures.cases.1 told).spelled,
    )

pub returns-clause-only : goal.returns-clause-only
returns-clause-only c = λ ps within some spelled.
    let told : reading start 0 (lines c.args.text.now) ≡ Ok c.in_ok-paragraphs.paragraphs.items = ap (λ t. reading start 0 (lines t)) (sym c.in-Ok.ensures.cases.0) ∙ c.in_ok-paragraphs.ensures in
    let e : Ok ps ≡ Ok c.in_ok-paragraphs.paragraphs.items = sym (spelled-read c.args.text.now ps spelled) ∙ told in
    let same : c.in_ok-paragraphs.paragraphs.items ≡ ps = cc in
    same

pub returns-clause-judged : goal.returns-clause-judged
returns-clause-judged c =
    let told : reading start 0 (lines c.args.text.now) ≡ Ok c.in_ok-paragraphs.paragraphs.items = ap (λ t. reading start 0 (lines t)) (sym c.in-Ok.ensures.cases.0) ∙ c.in_ok-paragraphs.ensures in
    let r = read_text c.args.text.now c.args.limit c.in_ok-paragraphs.paragraphs.items (omega arith) c.in-Ok.ensures.cases.1 told in
    if_nil c.in_ok-paragraphs.paragraphs.items (many_fault c.args.text.now c.args.limit) r.fault
    (some_items (vec_len c.in_ok-paragraphs.paragraphs) c.in_ok-paragraphs.paragraphs.items c.in_ok-paragraphs.paragraphs.ok.0 (sym c.is_empty.ensures ∙ c.if-is_empty.false))

pub returns-then-text-limit-clause-refused : goal.returns-then-text-limit-clause-refused
returns-then-text-limit-clause-refused c = inr (fault_paragraphs c.args.text.now c.args.limit TooLong (too_long c.args.text.now c.args.limit (omega arith)))

pub returns-in_default-clause-refused : goal.returns-in_default-clause-refused
returns-in_default-clause-refused c = inr (fault_paragraphs c.args.text.now c.args.limit NotUtf8 (not_utf8 c.args.text.now c.args.limit (omega arith) c.in_default.ensures.cases.0))

pub returns-in_err-paragraphs-clause-refused : goal.returns-in_err-paragraphs-clause-refused
returns-in_err-paragraphs-clause-refused c =
    let P : List ℕ → Type 0 = λ t. IsRefused c.in_err-paragraphs.field-0.0 (reading start 0 (lines t)) in
    let p = err_from_is_err_and c.from_residual.result c.from_residual.ensures.1 in
    rw (p.1, p.2) (refused_paragraphs c.args.text.now c.args.limit c.in_err-paragraphs.field-0.0 (refusal c.args.text.now c.args.limit c.in_err-paragraphs.field-0.0 (omega arith) c.in-Ok.ensures.cases.1 (subst P c.in-Ok.ensures.cases.0 c.in_err-paragraphs.ensures)))

pub returns-then-is_empty-clause-refused : goal.returns-then-is_empty-clause-refused
returns-then-is_empty-clause-refused c =
    let told : reading start 0 (lines c.args.text.now) ≡ Ok c.in_ok-paragraphs.paragraphs.items = ap (λ t. reading start 0 (lines t)) (sym c.in-Ok.ensures.cases.0) ∙ c.in_ok-paragraphs.ensures in
    let none : c.in_ok-paragraphs.paragraphs.items ≡ [] = no_items (vec_len c.in_ok-paragraphs.paragraphs) c.in_ok-paragraphs.paragraphs.items c.in_ok-paragraphs.paragraphs.ok.0 (sym c.is_empty.ensures ∙ c.if-is_empty.true) in
    inr (fault_paragraphs c.args.text.now c.args.limit NoParagraph ((read_text c.args.text.now c.args.limit c.in_ok-paragraphs.paragraphs.items (omega arith) c.in-Ok.ensures.cases.1 told).fault ∙ ap (λ xs. if is_nil xs then Some NoParagraph else None) none))

pub returns-clause-read : goal.returns-clause-read
returns-clause-read c =
    let told : reading start 0 (lines c.args.text.now) ≡ Ok c.in_ok-paragraphs.paragraphs.items = ap (λ t. reading start 0 (lines t)) (sym c.in-Ok.ensures.cases.0) ∙ c.in_ok-paragraphs.ensures in
    let within : length c.args.text.now ≤ c.args.limit = omega arith in
    paragraphs_spelled c.args.text.now c.args.limit c.in_ok-paragraphs.paragraphs.items (
      within,
      some_items (vec_len c.in_ok-paragraphs.paragraphs) c.in_ok-paragraphs.paragraphs.items c.in_ok-paragraphs.paragraphs.ok.0 (sym c.is_empty.ensures ∙ c.if-is_empty.false),
      (read_text c.args.text.now c.args.limit c.in_ok-paragraphs.paragraphs.items within c.in-Ok.ensures.cases.1 told).spelled,
    )
