-- The largest file that a configuration allows.
use Rattle.std.proofs.Common.{◌≤◌, ℕ, ◌*◌, max, min, arith}
use Rattle.std.specs.Option.{option_map_or}
use Rattle.std.proofs.Math.Nat.{le-max_left, max-le, min-le_left}
use Rattle.sums.specs.Lines.{greatest_size, most_size}
use Rattle.rules.specs.Sizes.{largest}
use Rattle.rules.specs.Values.{ConfigValue}

pub largest-least : (c : ConfigValue) → most_size ≤ largest c
unfolding largest
largest-least c = le-max_left most_size (min greatest_size (option_map_or (λ n. n * 1048576) c.max_file_size most_size))

pub largest-greatest : (c : ConfigValue) → largest c ≤ greatest_size
unfolding largest
largest-greatest c =
    let small : min greatest_size (option_map_or (λ n. n * 1048576) c.max_file_size most_size) ≤ greatest_size = min-le_left _ _ in
    let above : most_size ≤ greatest_size = grind (arith) in
    max-le above small
