-- What a keeper's calls leave, from what its connection shows.
use Rattle.std.proofs.Common.{◌≡◌, ℕ, List, Option, Some, None, refl, sym, ap, subst, ◌∙◌}
use Rattle.std.proofs.Math.Logic.{∥∥₁_elim, ∥∥₁_map}
use Rattle.std.proofs.Props.{props}
use mathlib.Core.HLevel.{collapsible→set}
use Rattle.std.specs.FinMap.{entries, same_entries_map}
use Rattle.sqlite.specs.Effect.{Database}
use Rattle.sqlite.specs.Tree.{Trees}
use Rattle.rules.specs.Values.{ConfigValue}
use Rattle.suites.specs.Shelves.{ShelvesValue}
use Rattle.suites.specs.declared.item.Item.{Item}
use Rattle.suites.specs.declared.key.ShelfKey.{ShelfKey}
use Rattle.book.specs.Book.{Book}
use Rattle.book.specs.declared.change.Judgement.{Judgement}
use Rattle.tables.specs.Rows.{Tables, tables_in, tables_of}
use Rattle.tables_meaning.specs.Kept.{IsBook, book_in}
use Rattle.tables_meaning.specs.Archives.{KeepsArchive, KeepsBook, KeepsLeft, book_in_database}
use Rattle.tables_meaning.specs.Finished.{finished}
use Rattle.tables_meaning.specs.OneBook.{one_archive, one_book}

entries_set : IsSet (List (ShelfKey × Item))
entries_set = hlevel props

-- What the suites show is a set: two finite maps with the same entries are equal.
pub shelves_set : IsSet ShelvesValue
shelves_set = collapsible→set (λ x y p. same_entries_map x y (ap entries p)) (λ x y p q. ap (same_entries_map x y) (entries_set (entries x) (entries y) (ap entries p) (ap entries q)))

pub book_set : IsSet Book
book_set = hlevel (props, shelves_set)

pub left_set : IsSet (Option Book)
left_set = hlevel (props, shelves_set)

-- two archives in one list of rows are the same archive
pub same_book : {config : ConfigValue} {judged judged' : List Judgement} {shown shown' : ShelvesValue} {dates dates' : List ℕ} (t : Tables)
    → IsBook t config judged shown dates → IsBook t config judged' shown' dates' → book_in config judged' shown' dates' t ≡ book_in config judged shown dates t
same_book {config} t one two =
    let same = one_archive t config _ _ _ _ _ _ two one two.sound.at_home one.sound.at_home in
    λ i. book_in config (same.0 i) (same.1 i) (same.2 i) t

-- what a database keeps is one book, also of one configuration
pub left_settled : {config another : ConfigValue} {judged : List Judgement} {shown : ShelvesValue} {dates : List ℕ} {left : Book} (db now : Database) → db.trees ≡ now.trees
    → ∥ KeepsArchive now config judged shown dates ∥₁ → KeepsBook db another left → left ≡ book_in_database now config judged shown dates
left_settled {config} {another} {judged} {shown} {dates} {left} db now trees is was =
    ∥∥₁_elim is (book_set _ _) (λ here. ∥∥₁_elim was (book_set _ _) (λ w.
    let same = ap tables_of trees in
    let there : IsBook (finished (tables_in now)) another w.0 w.1 w.2 = subst (λ t. IsBook (finished t) another w.0 w.1 w.2) same w.3.kept in
    w.4 ∙ ap (λ t. book_in another w.0 w.1 w.2 (finished t)) same
    ∙ one_book (finished (tables_in now)) another config w.0 judged w.1 shown w.2 dates there here.kept there.read here.kept.read there.sound.at_home here.kept.sound.at_home))

-- the configuration of a book is its archive's
own_config : (config : ConfigValue) (judged : List Judgement) (shown : ShelvesValue) (dates : List ℕ) (now : Database)
    → KeepsBook now config (book_in_database now config judged shown dates) → KeepsBook now (book_in_database now config judged shown dates).config (book_in_database now config judged shown dates)
unfolding book_in
own_config config judged shown dates now keeps = keeps

-- trees that are those of an archive keep its book, and nothing else
pub left_is : {config : ConfigValue} {judged : List Judgement} {shown : ShelvesValue} {dates : List ℕ} (trees : Trees) (now : Database) → trees ≡ now.trees
    → ∥ KeepsArchive now config judged shown dates ∥₁ → (left : Option Book) → KeepsLeft trees left → left ≡ Some (book_in_database now config judged shown dates)
left_is trees now same is (Some b) here = ap Some (left_settled here.0 now (here.1 ∙ same) is here.2)
left_is {config} {judged} {shown} {dates} trees now same is None none =
    absurd (none now (sym same) (book_in_database now config judged shown dates) (own_config config judged shown dates now (∥∥₁_map is (λ h. (judged, shown, dates, h, refl)))))
