-- The first fault of a list of checks.
use Rattle.std.proofs.Common.{◌≡◌, List, ◌∷◌, ap, Option, Some, None}
use Rattle.records.specs.Records.{first_of}
use Rattle.records.specs.declared.fault.RecordFault.{RecordFault}

-- the first fault after a check that finds none
pub behind : (check : Option RecordFault) (rest : List (Option RecordFault)) → check ≡ None → first_of (check ∷ rest) ≡ first_of rest
behind check rest e = ap (λ (c : Option RecordFault). first_of (c ∷ rest)) e

-- the first fault at a check that finds it
pub here : (check : Option RecordFault) (rest : List (Option RecordFault)) (fault : RecordFault) → check ≡ Some fault → first_of (check ∷ rest) ≡ Some fault
here check rest fault e = ap (λ (c : Option RecordFault). first_of (c ∷ rest)) e
