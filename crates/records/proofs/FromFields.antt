-- From the answer of a paragraph to that of its text.
use Rattle.std.proofs.Common.{◌≡◌, ◌⊎◌, inl, inr, refl, sym, ap, ◌∙◌, Option, Some, None, Result, Ok, Err, IfOk, IfErr}
use Rattle.para.specs.Fields.{Fields}
use Rattle.para.specs.declared.fault.ParaFault.{ParaFault}
use Rattle.para.specs.declared.fault.ParaFault.TheVariants as para_faults
use Rattle.records.specs.Fault.{of_paragraph}
use Rattle.records.specs.Records.{of_fields, unless}
use Rattle.records.specs.declared.fault.RecordFault.{RecordFault}
use Rattle.records.specs.declared.fault.RecordFault.TheVariants as faults

of_paragraph_is : (f : ParaFault) → (of_paragraph f ≡ faults.OutOfMemory) ⊎ (of_paragraph f ≡ faults.Paragraph f)
of_paragraph_is para_faults.OutOfMemory = inl refl
of_paragraph_is _ = inr refl

-- a text that gives no fields
pub refused_text : {V : Type 0} (read : Fields → Result V RecordFault) (fields : Result Fields ParaFault) (f : ParaFault) →
    (f ≡ para_faults.OutOfMemory) ⊎ (fields ≡ Err f) →
    (of_paragraph f ≡ faults.OutOfMemory) ⊎ (of_fields read fields ≡ Err (of_paragraph f))
refused_text read fields f (inl q) = inl (ap of_paragraph q)
refused_text read fields f (inr q) = elim (of_paragraph_is f) [
  | inl p ↦ inl p
  | inr p ↦ inr (ap (of_fields read) q ∙ ap Err (sym p))
]

-- a text that gives fields: what is made of these
pub read_from : {V : Type 0} (r : Result V RecordFault) (fault : Option RecordFault) (value : V) (found : Result V RecordFault) →
    found ≡ unless fault value → IfOk r (λ _. fault ≡ None) → IfOk r (λ v. v ≡ value) → IfOk r (λ v. found ≡ Ok v)
read_from (Ok v) fault value found e none is = e ∙ ap (λ f. unless f value) none ∙ ap Ok (sym is)
read_from (Err x) fault value found e none is = tt

pub refused_from : {V : Type 0} (r : Result V RecordFault) (fault : Option RecordFault) (value : V) (found : Result V RecordFault) →
    found ≡ unless fault value → IfErr r (λ e. (e ≡ faults.OutOfMemory) ⊎ (fault ≡ Some e)) →
    IfErr r (λ e. (e ≡ faults.OutOfMemory) ⊎ (found ≡ Err e))
refused_from (Ok v) fault value found e refused = tt
refused_from (Err x) fault value found e refused = elim refused [
  | inl memory ↦ inl memory
  | inr bad ↦ inr (e ∙ ap (λ f. unless f value) bad)
]
