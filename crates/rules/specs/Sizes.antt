-- How large a file may be, as a configuration says it (a rule of this archive).
use Rattle.std.specs.Prelude.{ℕ, ◌*◌, ◌&&◌, max, min, nat_le, if◌then◌else◌, List, Option, Some, None}
use Rattle.std.specs.Option.{option_and_then, option_map_or}
use Rattle.sums.specs.Lines.{greatest_size, most_size}
use Rattle.rules.specs.Days.{days_in}
use Rattle.rules.specs.Values.{ConfigValue}

-- 4 to 1024
abbrev pub bounded : ℕ → Option ℕ
bounded n = if nat_le 4 n && nat_le n 1024 then Some n else None

-- the number of MiB that a text is: 4 to 1024, in decimal without a leading zero
unfoldable pub mebibytes_in : List ℕ → Option ℕ
mebibytes_in text = option_and_then bounded (days_in text)

-- the bytes of the largest file that the archive takes: those of the field, else 4 MiB; never fewer than 4 MiB or more than 1 GiB
unfoldable pub largest : ConfigValue → ℕ
largest config = max most_size (min greatest_size (option_map_or (λ n. n * 1048576) config.max_file_size most_size))
