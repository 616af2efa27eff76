-- The pool of the plain archive, by prints.
use Rattle.std.proofs.Common.{◌≡◌, ℕ, List, [], ◌∷◌, ◌++◌, map, option_map, refl, sym, ap, ap₂, ◌∙◌}
use Rattle.std.specs.FinMap.{get, values}
use Rattle.std.proofs.lemmas.List.{map-append}
use Rattle.sums.specs.Prints.{print as print_of}
use Rattle.sums.specs.declared.print.Print.{Print}
use Rattle.suites.specs.Items.{FileWith, file_with, file_of}
use Rattle.suites.specs.KeyLemmas.{text_order_total}
use Rattle.suites.specs.Keys.{text_order}
use Rattle.suites.specs.Pool.{files_of, files_with, pair_of, pool_of}
use Rattle.suites.specs.Shelves.{pool}
use Rattle.history.specs.Archives.{BodyItem, PlainArchive, pool_in, shown_by_print, shown_in}
use Rattle.history.proofs.ContentsMaps.{get-map}
use Rattle.history.proofs.ShownPrints.{printed_item, values-shown_by_print}

-- a path and the print of the body there
abbrev pub printed_file : List ℕ × List ℕ → List ℕ × Print
printed_file f = (f.0, print_of f.1)

pairs-printed : (files : List (FileWith (List ℕ))) → map pair_of (map file_of (map (file_with print_of) files)) ≡ map printed_file (map (λ f. (f.path, f.contents)) files)
pairs-printed [] = refl
pairs-printed (f ∷ files) = ap (λ rest. (f.path, print_of f.contents) ∷ rest) (pairs-printed files)

pub files-printed : (items : List BodyItem) → files_of (map printed_item items) ≡ map printed_file (files_with items)
files-printed [] = refl
files-printed (i ∷ items) =
    ap₂ (λ (a b : List (List ℕ × Print)). a ++ b) (pairs-printed i.files) (files-printed items)
    ∙ sym (map-append printed_file (map (λ (f : FileWith (List ℕ)). (f.path, f.contents)) i.files) (files_with items))

pub files-shown_by_print : (a : PlainArchive) → files_of (values (shown_by_print a)) ≡ map printed_file (files_with (values (shown_in a)))
files-shown_by_print a = ap files_of (values-shown_by_print a) ∙ files-printed (values (shown_in a))

-- at each path the print of the body there
pub get-pool : (a : PlainArchive) (path : List ℕ) → get (pool (shown_by_print a)) path ≡ option_map print_of (get (pool_in a) path)
get-pool a path =
    ap (λ files. get (pool_of files) path) (files-shown_by_print a)
    ∙ get-map text_order print_of text_order_total (files_with (values (shown_in a))) path
