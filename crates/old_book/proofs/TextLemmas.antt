-- A text without the fields of days, by its paragraphs.
use Rattle.std.proofs.Common.{◌≡◌, ◌⊎◌, inl, inr, ℕ, List, Some, None, Ok, Err, ap}
use Rattle.std.specs.List.{flat_map}
use Rattle.std.specs.Option.{option_map}
use Rattle.std.specs.Result.{result_ok}
use Rattle.para.specs.Fields.{Fields, paragraphs_in}
use Rattle.para.specs.declared.fault.ParaFault.{ParaFault}
use Rattle.para.specs.declared.fault.ParaFault.TheVariants.{OutOfMemory}
use Rattle.rules.specs.Configuration.{config_limit}
use Rattle.old_book.specs.Text.{other_text, without_days}

pub read_text : (text : List ℕ) (ps : List Fields) → paragraphs_in text config_limit ≡ Ok ps → without_days text ≡ Some (flat_map other_text ps)
unfolding without_days
read_text text ps is = ap (λ r. option_map (flat_map other_text) (result_ok r)) is

pub refused_text : (text : List ℕ) (e : ParaFault) → (e ≡ OutOfMemory) ⊎ (paragraphs_in text config_limit ≡ Err e) → (e ≡ OutOfMemory) ⊎ (without_days text ≡ None)
unfolding without_days
refused_text text e (inl short) = inl short
refused_text text e (inr is) = inr (ap (λ r. option_map (flat_map other_text) (result_ok r)) is)
