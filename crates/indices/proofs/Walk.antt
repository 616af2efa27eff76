-- The texts and the indices of a suite, place by place.
use Rattle.std.proofs.Common.{◌≡◌, ℕ, List, [], ◌∷◌, ◌++◌, map, refl, sym, ap, ◌∙◌}
use Rattle.std.specs.List.{flat_map}
use Rattle.std.proofs.lemmas.List.{map-append}
use Rattle.std.proofs.lemmas.Simd.{map-map}
use Rattle.rules.specs.declared.suite.Suite.{Suite}
use Rattle.suites.specs.Shelves.{ShelvesValue}
use Rattle.indices.specs.Places.{place_at, place_entry, places_in}
use Rattle.indices.specs.Release.{index_of, indices_of, listed_entry, listed_texts}

pub of_component : (shelves : ShelvesValue) (suite : ℕ) (c : List ℕ) (architectures : List (List ℕ)) → map (listed_entry shelves suite c) architectures ≡ map (place_entry shelves suite) (map (place_at c) architectures)
of_component shelves suite c architectures = sym (map-map (place_entry shelves suite) (place_at c) architectures)

pub by_place : (shelves : ShelvesValue) (suite : ℕ) (components architectures : List (List ℕ))
    → flat_map (λ c. map (listed_entry shelves suite c) architectures) components ≡ map (place_entry shelves suite) (places_in components architectures)
by_place shelves suite [] architectures = refl
by_place shelves suite (c ∷ cs) architectures =
    ap (λ es. es ++ flat_map (λ c. map (listed_entry shelves suite c) architectures) cs) (of_component shelves suite c architectures)
    ∙ ap (λ es. map (place_entry shelves suite) (map (place_at c) architectures) ++ es) (by_place shelves suite cs architectures)
    ∙ sym (map-append (place_entry shelves suite) (map (place_at c) architectures) (places_in cs architectures))

pub listed_by_place : (shelves : ShelvesValue) (suite : ℕ) (s : Suite) → listed_texts s shelves suite ≡ map (place_entry shelves suite) (places_in s.components s.architectures)
unfolding listed_texts
listed_by_place shelves suite s = by_place shelves suite s.components s.architectures

pub indices_by_place : (shelves : ShelvesValue) (suite : ℕ) (s : Suite) → indices_of s shelves suite ≡ map (λ p. index_of (place_entry shelves suite p)) (places_in s.components s.architectures)
unfolding indices_of
indices_by_place shelves suite s = ap (map index_of) (listed_by_place shelves suite s) ∙ map-map index_of (place_entry shelves suite) (places_in s.components s.architectures)
