-- The file of the key that the pages name.
use Rattle.std.specs.Prelude.{ℕ, Bool, List, Option, Some, None, if◌then◌else◌}
use Rattle.std.specs.Borrow.{Bor}
use Rattle.std.specs.Option.{option_map_or}
use Rattle.pages.specs.declared.index.TheConstants.{KEY}

-- the one that was given, else box.gpg
abbrev pub key_name : Option (Bor (List ℕ)) → List ℕ
key_name key = option_map_or (λ name. name.now) key KEY.now

-- the one that the pages name, if the Releases are signed
abbrev pub signing_key : Bool → Option (Bor (List ℕ)) → Option (List ℕ)
signing_key signed key = if signed then Some (key_name key) else None
