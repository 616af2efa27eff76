-- A text and the configuration that it is.
use Rattle.std.proofs.Common.{◌≡◌, ◌≢◌, ◌≤◌, ◌⊎◌, inl, inr, ℕ, List, [], length, map, codes, get_or, Option, Some, None, Result, Ok, Err, refl, sym, ap, ◌∙◌}
use Rattle.para.specs.Fields.{Fields, paragraphs_in}
use Rattle.para.specs.declared.fault.ParaFault.{ParaFault}
use Rattle.para.specs.declared.fault.ParaFault.TheVariants as para_faults
use Rattle.para.proofs.InText.{spelled_paragraphs, paragraphs_spelled, fault_paragraphs}
use Rattle.para.specs.Fault.{many_fault}
use Rattle.para.specs.Grammar.{Spells}
use Rattle.rules.specs.Fault.{of_paragraph}
use Rattle.rules.specs.Paragraphs.{days, mebibytes, suite_of}
use Rattle.rules.specs.Values.{ConfigValue}
use Rattle.rules.specs.Configuration.{config_fault, config_of, config_limit, unless, of_paragraphs, config_in, strict_fault, of_new_paragraphs, strict_config_in, IsConfig}
use Rattle.rules.proofs.Faults.{strict_faultless}
use Rattle.rules.specs.declared.suite.Suite.{Suite}
use Rattle.rules.specs.declared.fault.ConfigFault.{ConfigFault}
use Rattle.rules.specs.declared.fault.ConfigFault.TheVariants as faults

config_fault_of_paragraph_is : (f : ParaFault) → (of_paragraph f ≡ faults.OutOfMemory) ⊎ (of_paragraph f ≡ faults.Paragraph f)
config_fault_of_paragraph_is para_faults.OutOfMemory = inl refl
config_fault_of_paragraph_is _ = inr refl

-- a text that gives no paragraphs
pub refused_text : (text : List ℕ) (f : ParaFault) → (f ≡ para_faults.OutOfMemory) ⊎ (paragraphs_in text config_limit ≡ Err f)
    → (of_paragraph f ≡ faults.OutOfMemory) ⊎ (config_in text ≡ Err (of_paragraph f))
unfolding config_in
refused_text text f (inl q) = inl (ap of_paragraph q)
refused_text text f (inr q) = elim (config_fault_of_paragraph_is f) [
  | inl p ↦ inl p
  | inr p ↦ inr (ap (of_paragraphs text) q ∙ ap Err (sym p))
]

-- a text whose paragraphs have a fault
pub refused_paragraphs : (text : List ℕ) (ps : List Fields) (e : ConfigFault) → paragraphs_in text config_limit ≡ Ok ps
    → (e ≡ faults.OutOfMemory) ⊎ (config_fault ps ≡ Some e) → (e ≡ faults.OutOfMemory) ⊎ (config_in text ≡ Err e)
unfolding config_in
refused_paragraphs text ps e found (inl memory) = inl memory
refused_paragraphs text ps e found (inr bad) = inr (ap (of_paragraphs text) found ∙ ap (λ f. unless f (config_of text ps)) bad)

-- the configuration of a text whose paragraphs have no fault
pub configured : (text bytes : List ℕ) (ps : List Fields) (suites : List Suite) (keep most : Option ℕ) → paragraphs_in text config_limit ≡ Ok ps → config_fault ps ≡ None
    → bytes ≡ text → suites ≡ map suite_of ps → keep ≡ days (codes "KeepDays") (get_or ps 0 []) → most ≡ mebibytes (codes "MaxFileSize") (get_or ps 0 []) → config_in text ≡ Ok (record { text = bytes; suites = suites; keep_days = keep; max_file_size = most })
unfolding config_in
configured text bytes ps suites keep most found none copied made kept sized =
    ap (of_paragraphs text) found ∙ ap (λ f. unless f (config_of text ps)) none
    ∙ (λ i. Ok (record { text = sym copied i; suites = sym made i; keep_days = sym kept i; max_file_size = sym sized i }))

-- the configuration of a copy of a text whose paragraphs have no fault
pub configured_copy : (text bytes : List ℕ) (ps : List Fields) (suites : List Suite) (keep most : Option ℕ) → paragraphs_in text config_limit ≡ Ok ps → config_fault ps ≡ None
    → bytes ≡ text → suites ≡ map suite_of ps → keep ≡ days (codes "KeepDays") (get_or ps 0 []) → most ≡ mebibytes (codes "MaxFileSize") (get_or ps 0 []) → config_in bytes ≡ Ok (record { text = bytes; suites = suites; keep_days = keep; max_file_size = most })
configured_copy text bytes ps suites keep most found none copied made kept sized = ap config_in copied ∙ configured text bytes ps suites keep most found none copied made kept sized

unless_ok : (f : Option ConfigFault) (c d : ConfigValue) → unless f c ≡ Ok d → (f ≡ None) × (c ≡ d)
unless_ok None c d h = (refl, cc)
unless_ok (Some e) c d h = cc

of_paragraphs_ok : (text : List ℕ) (config : ConfigValue) (r : Result (List Fields) ParaFault) → paragraphs_in text config_limit ≡ r
    → of_paragraphs text r ≡ Ok config → IsConfig text config
of_paragraphs_ok text config (Ok ps) e h =
    let s = spelled_paragraphs text config_limit ps e in
    let u = unless_ok (config_fault ps) (config_of text ps) config h in
    record { paragraphs = ps; within = s.0; some = s.1; spelled = s.2; faultless = u.0; value = sym u.1 }
of_paragraphs_ok text config (Err f) e h = cc

pub is_config : (text : List ℕ) (config : ConfigValue) → config_in text ≡ Ok config → IsConfig text config
unfolding config_in
is_config text config h = of_paragraphs_ok text config (paragraphs_in text config_limit) refl h

pub config_is_in : (text : List ℕ) (config : ConfigValue) → IsConfig text config → config_in text ≡ Ok config
unfolding config_in
config_is_in text config h =
    ap (of_paragraphs text) (paragraphs_spelled text config_limit h.paragraphs (h.within, h.some, h.spelled))
    ∙ ap (λ f. unless f (config_of text h.paragraphs)) h.faultless ∙ ap Ok (sym h.value)

pub none_is_config : (text : List ℕ) (e : ConfigFault) (config : ConfigValue) → config_in text ≡ Err e → ¬ IsConfig text config
none_is_config text e config h k = let both = sym (config_is_in text config k) ∙ h in cc

pub one_config : (text : List ℕ) (c d : ConfigValue) → IsConfig text c → IsConfig text d → c ≡ d
one_config text c d h k = let both = sym (config_is_in text c h) ∙ config_is_in text d k in cc

pub unspelled : (text : List ℕ) (f : ParaFault) → many_fault text config_limit ≡ Some f → config_in text ≡ Err (faults.Paragraph f)
unfolding config_in
unspelled text f h = ap (of_paragraphs text) (fault_paragraphs text config_limit f h)

pub faulty : (text : List ℕ) (ps : List Fields) (e : ConfigFault) → (length text ≤ config_limit) × (ps ≢ []) × Spells text ps → config_fault ps ≡ Some e → config_in text ≡ Err e
unfolding config_in
faulty text ps e spelled h = ap (of_paragraphs text) (paragraphs_spelled text config_limit ps spelled) ∙ ap (λ f. unless f (config_of text ps)) h

-- ---- new configurations

-- a text that gives no paragraphs
pub refused_new_text : (text : List ℕ) (f : ParaFault) → (f ≡ para_faults.OutOfMemory) ⊎ (paragraphs_in text config_limit ≡ Err f)
    → (of_paragraph f ≡ faults.OutOfMemory) ⊎ (strict_config_in text ≡ Err (of_paragraph f))
unfolding strict_config_in
refused_new_text text f (inl q) = inl (ap of_paragraph q)
refused_new_text text f (inr q) = elim (config_fault_of_paragraph_is f) [
  | inl p ↦ inl p
  | inr p ↦ inr (ap (of_new_paragraphs text) q ∙ ap Err (sym p))
]

-- a text whose paragraphs have a fault
pub refused_new : (text : List ℕ) (ps : List Fields) (e : ConfigFault) → paragraphs_in text config_limit ≡ Ok ps
    → (e ≡ faults.OutOfMemory) ⊎ (strict_fault ps ≡ Some e) → (e ≡ faults.OutOfMemory) ⊎ (strict_config_in text ≡ Err e)
unfolding strict_config_in
refused_new text ps e found (inl memory) = inl memory
refused_new text ps e found (inr bad) = inr (ap (of_new_paragraphs text) found ∙ ap (λ f. unless f (config_of text ps)) bad)

pub faulty_new : (text : List ℕ) (ps : List Fields) (e : ConfigFault) → paragraphs_in text config_limit ≡ Ok ps → strict_fault ps ≡ Some e → strict_config_in text ≡ Err e
unfolding strict_config_in
faulty_new text ps e found bad = ap (of_new_paragraphs text) found ∙ ap (λ f. unless f (config_of text ps)) bad

-- without a fault of a new configuration, both readings are one
pub read_alike : (text : List ℕ) (ps : List Fields) → paragraphs_in text config_limit ≡ Ok ps → strict_fault ps ≡ None → strict_config_in text ≡ config_in text
unfolding config_in strict_config_in
read_alike text ps found none =
    ap (of_new_paragraphs text) found ∙ ap (λ f. unless f (config_of text ps)) none
    ∙ sym (ap (of_paragraphs text) found ∙ ap (λ f. unless f (config_of text ps)) (strict_faultless ps none))

kept_of : (text : List ℕ) (config : ConfigValue) (r : Result (List Fields) ParaFault) → paragraphs_in text config_limit ≡ r
    → of_new_paragraphs text r ≡ Ok config → config_in text ≡ Ok config
unfolding config_in
kept_of text config (Ok ps) e h =
    let u = unless_ok (strict_fault ps) (config_of text ps) config h in
    ap (of_paragraphs text) e ∙ ap (λ f. unless f (config_of text ps)) (strict_faultless ps u.0) ∙ ap Ok u.1
kept_of text config (Err f) e h = cc

-- a new configuration is a configuration
pub new_is_kept : (text : List ℕ) (config : ConfigValue) → strict_config_in text ≡ Ok config → config_in text ≡ Ok config
unfolding strict_config_in
new_is_kept text config h = kept_of text config (paragraphs_in text config_limit) refl h
