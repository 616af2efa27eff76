-- What is known of a text that was read as a record: it is UTF-8, no two entries of a .changes have the same name, and a .dsc is
-- the same with any limit of its files.
use Rattle.std.proofs.Common.{◌≡◌, ◌≢◌, ℕ, Bool, false, List, Result, Ok, Err, refl, sym, ap, ◌∙◌, arith}
use Rattle.std.specs.Prelude.{AllPairs}
use Rattle.std.specs.Str.{IsUtf8}
use Rattle.records.specs.Records.{changes_in, dsc_in, dsc_within, sidecar_in}
use Rattle.records.specs.Values.{ChangesValue, DscValue, SidecarValue}
use Rattle.records.specs.declared.fault.RecordFault.{RecordFault}
use Rattle.records.proofs.RecordRead.{changes_of_read, dsc_of_read, read_more_dsc, sidecar_of_read}
use Rattle.sums.specs.Lines.{greatest_size}
use Rattle.suites.specs.Verdict.{match_ok}

pub dsc-IsUtf8 : (text : List ℕ) (d : DscValue) → dsc_in text ≡ Ok d → IsUtf8 text
dsc-IsUtf8 text d h = let read = dsc_of_read greatest_size text d h in read.spelled.utf8

pub sidecar-IsUtf8 : (text : List ℕ) (s : SidecarValue) → sidecar_in text ≡ Ok s → IsUtf8 text
sidecar-IsUtf8 text s h = let read = sidecar_of_read text s h in read.spelled.utf8

-- what an upload of a .changes asks of its entries
pub changes-names : (text : List ℕ) (c : ChangesValue) → changes_in text ≡ Ok c → AllPairs (λ a b. a.name ≢ b.name) c.entries
changes-names text c h = let read = changes_of_read greatest_size text c h in read.made.entries.listed.names

pub dsc-names : (text : List ℕ) (d : DscValue) → dsc_in text ≡ Ok d → AllPairs (λ a b. a.name ≢ b.name) d.entries
dsc-names text d h = let read = dsc_of_read greatest_size text d h in read.made.entries.listed.names

-- what is read within a limit is read without it
pub dsc-within_in : (most : ℕ) (text : List ℕ) (d : DscValue) → dsc_within most text ≡ Ok d → dsc_in text ≡ Ok d
dsc-within_in most text d h = read_more_dsc most greatest_size text d (omega arith) h

-- what holds of a .dsc that is read within a limit holds of the .dsc that the text is
pub dsc-within : (most : ℕ) (text : List ℕ) (d : DscValue) (test : DscValue → Bool) → dsc_in text ≡ Ok d → match_ok (dsc_within most text) test ≡ false → test d ≡ false
dsc-within most text d test read h = by_result (dsc_within most text) refl h
  where
    by_result : (r : Result DscValue RecordFault) → dsc_within most text ≡ r → match_ok r test ≡ false → test d ≡ false
    by_result (Ok e) is good = let same : e ≡ d = (let both = sym (dsc-within_in most text e is) ∙ read in cc) in ap test (sym same) ∙ good
    by_result (Err fault) is good = cc
