-- Lines, each with a newline behind it.
use Rattle.std.proofs.Common.{◌≡◌, ℕ, List, [], ◌∷◌, ◌++◌, map, refl, ap, ◌∙◌}
use Rattle.std.specs.List.{flat_map}
use Rattle.std.specs.Prelude.{String, string_bytes}
use Rattle.std.specs.declared.alloc.Global.{Global}
use Rattle.telling.specs.Told.{ended}

all_ended : (lines : List (String Global)) → flat_map (λ it. ended (string_bytes it)) lines ≡ flat_map ended (map string_bytes lines)
all_ended [] = refl
all_ended (line ∷ lines) = ap (λ rest. ended (string_bytes line) ++ rest) (all_ended lines)

-- lines that are these
pub ended_all : (lines : List (String Global)) (texts : List (List ℕ)) → map string_bytes lines ≡ texts → flat_map (λ it. ended (string_bytes it)) lines ≡ flat_map ended texts
ended_all lines texts e = all_ended lines ∙ ap (flat_map ended) e
