-- Uploads by their names and prints.
use Rattle.std.proofs.Common.{◌≡◌, List, [], ◌∷◌, map, refl, ap}
use Rattle.book.specs.Book.{Candidate, upload_of}
use Rattle.book.specs.Keeping.{sign_of}
use Rattle.book.specs.declared.arrival.Arrival.{Arrival}

-- an upload has the sign of its .changes
pub signs_of : (arrivals : List Arrival) (found : List Candidate) → map (λ u. (u.name, u.print)) (map (upload_of arrivals) found) ≡ map sign_of found
unfolding upload_of
signs_of arrivals [] = refl
signs_of arrivals (c ∷ found) = ap (λ rest. sign_of c ∷ rest) (signs_of arrivals found)
