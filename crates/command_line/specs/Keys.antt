-- `--key`: the file of the key that the pages name.
use Rattle.std.specs.Prelude.{ℕ, ◌&&◌, ◌||◌, Bool, false, not, nat_eq, nat_le, List, length, codes, Option}
use Rattle.std.specs.Borrow.{Bor}
use Rattle.std.specs.List.{ends_with}
use Rattle.std.specs.Option.{is_some, option_map_or}
use Rattle.sums.specs.FileNames.{is_file_name}

-- the ending of a file that apt takes as a key: .gpg or .pgp if it is binary, .asc if it is armored (sources.list(5))
abbrev pub has_key_ending : List ℕ → Bool
has_key_ending name = ends_with nat_eq name (codes ".gpg") || ends_with nat_eq name (codes ".pgp") || ends_with nat_eq name (codes ".asc")

-- the name of a key's file: a file name of at most 100 bytes with such an ending
abbrev pub is_key_name : List ℕ → Bool
is_key_name name = nat_le (length name) 100 && is_file_name name && has_key_ending name

-- a value of `--key` that is no such name
abbrev pub is_misnamed : Option (Bor (List ℕ)) → Bool
is_misnamed key = option_map_or (λ name. not (is_key_name name.now)) key false

-- a line that has `--key`, and no `--signed`
abbrev pub lacks_signed : Option (Bor (List ℕ)) → Bool → Bool
lacks_signed key signed = is_some key && not signed
