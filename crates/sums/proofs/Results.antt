-- What holds of a result by its variant.
use Rattle.std.proofs.Common.{Result, Ok, Err, OnErr}

-- what always holds, holds of a refusal
pub on_err : {T E P : Type 0} (r : Result T E) → P → OnErr r P
on_err (Ok x) p = tt
on_err (Err e) p = p
