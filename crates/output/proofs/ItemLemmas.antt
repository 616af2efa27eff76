-- The lines of the items of an upload.
use Rattle.std.proofs.Common.{◌≡◌, ◌≤◌, ℕ, List, [], ◌∷◌, ◌++◌, Option, Some, None, map, filter_map, option_map, drop, length, refl, sym, ap, ap₂, ◌∙◌}
use Rattle.std.specs.List.{cons_option, flat_map}
use Rattle.std.specs.Option.{option_map_or}
use Rattle.std.specs.Result.{result_ok}
use Rattle.std.proofs.lemmas.List.{append-nil, at_drop_all, map-append}
use Rattle.std.proofs.lemmas.List.Folds.{flat_map-map}
use Rattle.std.proofs.lemmas.Simd.{map-map}
use Rattle.records.specs.Records.{dsc_in, sidecar_in}
use Rattle.rules.specs.Judgement.{component}
use Rattle.sums.specs.declared.print.Print.{Print}
use Rattle.suites.specs.Items.{ItemWith, item_of}
use Rattle.suites.specs.Shelves.{ShelvesValue}
use Rattle.suites.specs.Upload.{UploadValue, binary_item, dsc_parts, items_of, sidecar_parts, source_item}
use Rattle.output.specs.Explaining.Items.{given_items, item_line, package_lines, source_lines}

-- the lines of what is made of the elements that are read
of_read : {A V B X : Type 0} (line : B → X) (made : A → V → B) (read : A → Option V) (ps : List A)
    → flat_map (λ p. option_map_or (λ v. line (made p v) ∷ []) (read p) []) ps ≡ map line (filter_map (λ p. option_map (made p) (read p)) ps)
of_read line made read [] = refl
of_read {B = B} {X = X} line made read (p ∷ ps) = ap (λ rest. option_map_or (λ v. line (made p v) ∷ []) (read p) [] ++ rest) (of_read line made read ps) ∙ by (read p) (filter_map (λ q. option_map (made q) (read q)) ps)
  where
    by : (o : Option _) (rest : List B) → option_map_or (λ v. line (made p v) ∷ []) o [] ++ map line rest ≡ map line (cons_option (option_map (made p) o) rest)
    by None rest = refl
    by (Some v) rest = refl

-- what was added when all elements were looked at, by what they show
pub all_added : {X Y P : Type 0} (f : Y → List X) (view : P → Y) (before now : List X) (ps qs : List P) (ys : List Y) (i : ℕ)
    → length ps ≤ i → now ++ flat_map (λ p. f (view p)) (drop i ps) ≡ before ++ flat_map (λ p. f (view p)) ps → ps ≡ qs → map view qs ≡ ys
    → now ≡ before ++ flat_map f ys
all_added f view before now ps qs ys i all so_far same shown =
    sym (at_drop_all (λ rest. now ++ flat_map (λ p. f (view p)) rest) ps i all ∙ append-nil now)
    ∙ so_far
    ∙ ap (λ xs. before ++ flat_map (λ p. f (view p)) xs) same
    ∙ ap (λ xs. before ++ xs) (sym (flat_map-map f view qs) ∙ ap (flat_map f) shown)

lines_of_items : (shelves : ShelvesValue) (suite : ℕ) (codename : List ℕ) (u : UploadValue)
    → flat_map (source_lines shelves suite codename u.changes) (dsc_parts u) ++ flat_map (package_lines shelves suite codename u.changes) (sidecar_parts u)
    ≡ map (item_line shelves suite codename) (given_items u)
unfolding items_of
lines_of_items shelves suite codename u =
    let line = λ (item : ItemWith Print). item_line shelves suite codename (item_of item) in
    let sources = filter_map (λ part. option_map (source_item (λ e. e.print) u.changes (component u.changes) part) (result_ok (dsc_in part.1))) (dsc_parts u) in
    let packages = filter_map (λ part. option_map (binary_item (λ e. e.print) u.changes (component u.changes) part) (result_ok (sidecar_in part.1))) (sidecar_parts u) in
    ap₂ (λ (a b : List (List ℕ)). a ++ b)
    (of_read line (source_item (λ e. e.print) u.changes (component u.changes)) (λ part. result_ok (dsc_in part.1)) (dsc_parts u))
    (of_read line (binary_item (λ e. e.print) u.changes (component u.changes)) (λ part. result_ok (sidecar_in part.1)) (sidecar_parts u))
    ∙ sym (map-append line sources packages)
    ∙ sym (map-map (item_line shelves suite codename) item_of (sources ++ packages))

-- the lines after those of the sources and of the packages were added to none
pub lines_added : (shelves : ShelvesValue) (suite : ℕ) (codename : List ℕ) (u : UploadValue) (none sources all : List (List ℕ)) → none ≡ []
    → sources ≡ none ++ flat_map (source_lines shelves suite codename u.changes) (dsc_parts u)
    → all ≡ sources ++ flat_map (package_lines shelves suite codename u.changes) (sidecar_parts u)
    → all ≡ map (item_line shelves suite codename) (given_items u)
lines_added shelves suite codename u none sources all is_none are_sources are_all =
    are_all
    ∙ ap (λ xs. xs ++ flat_map (package_lines shelves suite codename u.changes) (sidecar_parts u))
    (are_sources ∙ ap (λ xs. xs ++ flat_map (source_lines shelves suite codename u.changes) (dsc_parts u)) is_none)
    ∙ lines_of_items shelves suite codename u
