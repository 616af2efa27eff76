use Rattle.std.proofs.Common.{◌≡◌, List, Result, Err, inl, inr, refl, sym, ap, subst}
use Rattle.std.specs.Prelude.{◌⊎◌, IsErrAnd}
use Rattle.std.proofs.lemmas.Result.{err_from_is_err_and}
use Rattle.para.specs.Fields.{Fields}
use Rattle.para.specs.declared.fault.ParaFault.{ParaFault}
use Rattle.para.specs.declared.fault.ParaFault.TheVariants as para_faults
use Rattle.rules.specs.Fault.{of_paragraph}
use Rattle.rules.specs.declared.fault.ConfigFault.TheVariants as faults
use Rattle.output.proofs.checking.fields.unknown_fields.Goals as goal

-- a text whose paragraphs have a fault
refused : (found : Result (List Fields) ParaFault) (e : ParaFault) → (e ≡ para_faults.OutOfMemory) ⊎ (found ≡ Err e)
    → (of_paragraph e ≡ faults.OutOfMemory) ⊎ IsErrAnd found (λ fault. of_paragraph e ≡ of_paragraph fault)
refused found e (inl memory) = inl (ap of_paragraph memory)
refused found e (inr bad) = inr (subst (λ r. IsErrAnd r (λ fault. of_paragraph e ≡ of_paragraph fault)) (sym bad) refl)

pub returns-in_err-paragraphs-clause-refused : goal.returns-in_err-paragraphs-clause-refused
returns-in_err-paragraphs-clause-refused c =
    let p = err_from_is_err_and c.from_residual.result c.from_residual.ensures.1 in
    rw (p.1, p.2) (refused _ _ c.in_err-paragraphs.ensures.refused)
