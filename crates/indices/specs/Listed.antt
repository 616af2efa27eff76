-- Which index lists an item (the Debian repository format).
use Rattle.std.specs.Prelude.{ℕ, ◌==◌, Bool, true, false, not, ◌&&◌, ◌||◌, List, codes, bytes_eq}
use Rattle.suites.specs.declared.key.ShelfKey.{ShelfKey}
use Rattle.suites.specs.declared.item.Item.{Item}
use Rattle.suites.specs.declared.key.Kind.{Kind}
use Rattle.suites.specs.declared.key.Kind.TheVariants.{Source, Binary}

abbrev pub is_binary : Kind → Bool
is_binary Binary = true
is_binary Source = false

-- the binary items of a suite and a component that an index of the architecture lists
unfoldable pub is_in_packages : ℕ → List ℕ → List ℕ → ShelfKey × Item → Bool
is_in_packages suite component architecture a =
    (a.0.suite == suite) && is_binary a.0.kind && bytes_eq a.1.component component
    && (bytes_eq a.0.architecture architecture || bytes_eq a.0.architecture (codes "all"))

-- the source items of a suite and a component
unfoldable pub is_in_sources : ℕ → List ℕ → ShelfKey × Item → Bool
is_in_sources suite component a =
    (a.0.suite == suite) && not (is_binary a.0.kind) && bytes_eq a.1.component component
