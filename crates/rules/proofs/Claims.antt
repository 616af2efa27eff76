-- The names that suites claim, one suite after the other.
use Rattle.std.proofs.Common.{◌≡◌, ℕ, ◌+◌, ◌<◌, Bool, ◌||◌, List, [], ◌∷◌, ◌++◌, length, map, take, drop, get_or, sym, ap, ◌∙◌}
use Rattle.std.specs.List.{list_any, flat_map}
use Rattle.std.specs.Str.{bytes_eq}
use Rattle.std.proofs.lemmas.List.{take_more, drop_more, append-nil}
use Rattle.std.proofs.lemmas.List.Folds.{list_any-append}
use Rattle.std.proofs.lemmas.Grind.{flat_map-append}
use Rattle.para.specs.Fields.{Fields}
use Rattle.records.specs.Records.{is_among}
use Rattle.rules.specs.Paragraphs.{names_claimed}
use Rattle.rules.specs.Configuration.{claims_again}

-- the names that the suites of paragraphs claim
abbrev pub all_names : List Fields → List (List ℕ)
all_names ps = flat_map names_claimed ps

pub all_names_more : (ps : List Fields) (i : ℕ) (d : Fields) → i < length ps → all_names (take (i + 1) ps) ≡ all_names (take i ps) ++ names_claimed (get_or ps i d)
all_names_more ps i d h =
    ap all_names (take_more ps i d h) ∙ flat_map-append names_claimed (take i ps) (get_or ps i d ∷ [])
    ∙ ap (λ names. all_names (take i ps) ++ names) (append-nil (names_claimed (get_or ps i d)))

-- whether the suites from a place on claim a name again
abbrev pub again_from : List Fields → ℕ → Bool
again_from ps i = claims_again (all_names (take i ps)) (map names_claimed (drop i ps))

pub again_step : (ps : List Fields) (i : ℕ) (d : Fields) → i < length ps
    → again_from ps i ≡ (list_any (is_among (all_names (take i ps))) (names_claimed (get_or ps i d)) || again_from ps (i + 1))
again_step ps i d h =
    ap (λ rest. claims_again (all_names (take i ps)) (map names_claimed rest)) (drop_more ps i d h)
    ∙ ap (λ names. list_any (is_among (all_names (take i ps))) (names_claimed (get_or ps i d)) || claims_again names (map names_claimed (drop (i + 1) ps)))
    (sym (all_names_more ps i d h))

pub among_more : (ps : List Fields) (i : ℕ) (d : Fields) (q : List ℕ) → i < length ps
    → is_among (all_names (take (i + 1) ps)) q ≡ (is_among (all_names (take i ps)) q || is_among (names_claimed (get_or ps i d)) q)
among_more ps i d q h = ap (list_any (bytes_eq q)) (all_names_more ps i d h) ∙ list_any-append (bytes_eq q) (all_names (take i ps)) (names_claimed (get_or ps i d))
