-- What holds after an answer or a refusal.
use Rattle.std.proofs.Common.{Result, Ok, Err, IfOk, OnErr}

pub err_then : {X E : Type 0} {P Q : Type 0} (r : Result X E) → OnErr r P → (P → Q) → OnErr r Q
err_then (Ok x) h f = tt
err_then (Err e) h f = f h

pub both_then : {X E : Type 0} {P Q R : X → Type 0} (r : Result X E) → IfOk r P → IfOk r Q → ((x : X) → P x → Q x → R x) → IfOk r R
both_then (Ok x) p q f = f x p q
both_then (Err e) p q f = tt
