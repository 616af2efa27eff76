-- Names in a tree: the folder of a state, and the paths that belong to files of the pool.
use Rattle.std.specs.Prelude.{ℕ, nat_eq, nat_lt, Bool, ◌&&◌, not, List, ◌++◌, take, codes, string_bytes}
use Rattle.std.specs.List.{list_all, slice_split, starts_with}
use Rattle.std.specs.Str.{bytes_eq}
use Rattle.std.specs.declared.alloc.Global.{Global}
use Rattle.std.specs.declared.string.String.{String}
use Rattle.hex.specs.Hex.{encode_lower}
use Rattle.sums.specs.Prints.{print}

-- the folder of the state of a suite that has this Release: `.CODENAME.ID`, where ID is the first 16 bytes of the SHA-256 in hexadecimal
unfoldable pub state_name : List ℕ → List ℕ → List ℕ
state_name codename release = codes "." ++ (codename ++ (codes "." ++ encode_lower (take 16 (print release).sha256)))

-- a byte that is no control character (ASCII)
abbrev pub is_plain : ℕ → Bool
is_plain c = not (nat_lt c 32) && not (nat_eq c 127)

-- a part of a path that names something in its folder: it is not empty, `.` or `..`, and has no control character
unfoldable pub is_part : List ℕ → Bool
is_part part = not (bytes_eq part (codes "")) && not (bytes_eq part (codes ".")) && not (bytes_eq part (codes "..")) && list_all is_plain part

-- a byte that ends a part of a path: a slash
abbrev pub ends_part : ℕ → Bool
ends_part c = nat_eq c 47

-- a path of a file below `pool`, which leads nowhere else: it begins with `pool/`, and each of its parts names something
unfoldable pub is_pool_path : List ℕ → Bool
is_pool_path path = starts_with nat_eq path (codes "pool/") && list_all is_part (slice_split ends_part path)

-- each key of a map with these entries is the path of a file below `pool`
abbrev pub have_pool_paths : {V : Type 0} → List (String Global × V) → Bool
have_pool_paths entries = list_all (λ entry. is_pool_path (string_bytes entry.0)) entries
