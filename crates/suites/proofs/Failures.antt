-- What is known of a call that failed, and of one that did not.
use Rattle.std.proofs.Common.{◌≡◌, true, false, OnOk, OnErr, Result, Ok, Err}
use Rattle.std.specs.Result.{is_err}

pub on_failure : {V E P : Type 0} (r : Result V E) → is_err r ≡ true → OnErr r P → P
on_failure (Ok v) failed h = cc
on_failure (Err e) failed h = h

pub on_success : {V E P : Type 0} (r : Result V E) → is_err r ≡ false → OnOk r P → P
on_success (Ok v) failed h = h
on_success (Err e) failed h = cc
