-- The items of an upload that is handed over whole, by prints.
use Rattle.std.proofs.Common.{◌≡◌, ℕ, List, [], ◌∷◌, map, flat_map, Option, Some, None, option_to_list, refl, sym, ap, ◌∙◌, append-nil}
use Rattle.rules.specs.Judgement.{component}
use Rattle.rules.specs.Suites.{claiming}
use Rattle.rules.specs.Values.{ConfigValue}
use Rattle.rules.specs.declared.verdict.Verdict.{Verdict}
use Rattle.rules.specs.declared.verdict.Verdict.TheVariants.{Accepted}
use Rattle.sums.specs.Prints.{print as print_of}
use Rattle.suites.specs.Items.{item_with, on_shelf}
use Rattle.suites.specs.Plan.{admitted, admitted_if, given}
use Rattle.suites.specs.Plan as plans
use Rattle.suites.specs.Upload.{UploadValue, items_of}
use Rattle.suites.specs.Verdict.{verdict_with}
use Rattle.history.specs.Archives.{BodyItem, PlainArchive, WholeUpload, by_body, contents_of, items_given, pool_in, printed, shown_by_print}
use Rattle.history.proofs.ContentsListed.{HasItsBodies}
use Rattle.history.proofs.ItemPrintsFiles.{items-same}
use Rattle.history.proofs.ItemPrintsRows.{listed_contents, no_row_applies}
use Rattle.history.proofs.VerdictPrints.{AreKnown, verdict-printed}

-- the verdict of the plain archive
abbrev pub verdict_in : ConfigValue → PlainArchive → WholeUpload → Verdict
verdict_in config a w = verdict_with (by_body w) (pool_in a) config w.upload

shelved-printed : (suite : ℕ) (items : List BodyItem) → map printed (map (on_shelf suite) items) ≡ map plans.printed (map (on_shelf suite) (map (item_with print_of) items))
shelved-printed suite [] = refl
shelved-printed suite (i ∷ items) = ap (λ rest. printed (on_shelf suite i) ∷ rest) (shelved-printed suite items)

placed-printed : (suite : Option ℕ) (items : List BodyItem)
    → map printed (flat_map (λ s. map (on_shelf s) items) (option_to_list suite)) ≡ map plans.printed (flat_map (λ s. map (on_shelf s) (map (item_with print_of) items)) (option_to_list suite))
placed-printed None items = refl
placed-printed (Some s) items =
    ap (map printed) (append-nil (map (on_shelf s) items)) ∙ shelved-printed s items
    ∙ ap (map plans.printed) (sym (append-nil (map (on_shelf s) (map (item_with print_of) items))))

given-printed : (config : ConfigValue) (u : UploadValue) (items : List BodyItem) → map printed (given config u items) ≡ map plans.printed (given config u (map (item_with print_of) items))
unfolding given
given-printed config u items = placed-printed (claiming u.changes.distribution config.suites) items

-- the items of an accepted upload, by prints
pub items-printed : (config : ConfigValue) (a : PlainArchive) (w : WholeUpload) → HasItsBodies w → verdict_in config a w ≡ Accepted
    → map printed (items_given config a w) ≡ map plans.printed (given config w.upload (items_of (λ e. e.print) w.upload (component w.upload.changes)))
unfolding items_given
items-printed config a w whole accepted =
    let rows = no_row_applies (by_body w) (pool_in a) config w.upload accepted in
    given-printed config w.upload (items_of (contents_of w (pool_in a)) w.upload (component w.upload.changes))
    ∙ ap (λ items. map plans.printed (given config w.upload items))
    (items-same print_of (contents_of w (pool_in a)) (λ e. e.print) w.upload (component w.upload.changes)
    (λ e listed. (listed_contents _ w (pool_in a) e whole rows listed).print))

map-admitted_if : {X Y : Type 0} (f : X → Y) (v : Verdict) (xs : List X) → map f (admitted_if v xs) ≡ admitted_if v (map f xs)
map-admitted_if f Accepted xs = refl
map-admitted_if f v xs = refl

admitted_if-same : {X : Type 0} (v : Verdict) (xs ys : List X) → (v ≡ Accepted → xs ≡ ys) → admitted_if v xs ≡ admitted_if v ys
admitted_if-same Accepted xs ys h = h refl
admitted_if-same v xs ys h = refl

-- What an upload admits by prints is what it gives the plain archive, by prints.
pub admitted-printed : (bodies : List (List ℕ)) (config : ConfigValue) (a : PlainArchive) (w : WholeUpload) → AreKnown bodies a w → HasItsBodies w
    → admitted config (shown_by_print a) w.upload ≡ map printed (admitted_if (verdict_in config a w) (items_given config a w))
unfolding admitted
admitted-printed bodies config a w known whole =
    let by_prints = map plans.printed (given config w.upload (items_of (λ e. e.print) w.upload (component w.upload.changes))) in
    ap (λ v. admitted_if v by_prints) (verdict-printed bodies config a w known whole)
    ∙ sym (map-admitted_if printed (verdict_in config a w) (items_given config a w)
    ∙ admitted_if-same (verdict_in config a w) (map printed (items_given config a w)) by_prints (items-printed config a w whole))
