-- The files of the book that a database keeps, and that there is one such book.
use Rattle.std.proofs.Common.{◌≡◌, ℕ, List, find, Option, Some, None, IsTrue, refl, sym, ap, subst, ◌∙◌}
use Rattle.std.proofs.Math.Logic.{∥∥₁_elim}
use Rattle.std.proofs.Props.{props}
use Rattle.std.specs.FinMap.{get}
use Rattle.std.specs.Option.{option_and_then, option_map}
use Rattle.sqlite.specs.Effect.{Database}
use Rattle.sums.proofs.Members.{all_at}
use Rattle.sums.specs.Prints.{print as print_of}
use Rattle.rules.specs.Values.{ConfigValue}
use Rattle.suites.specs.Shelves.{ShelvesValue, pool}
use Rattle.book.specs.Book.{Book, HasItsFiles}
use Rattle.book.specs.declared.change.Judgement.{Judgement}
use Rattle.book.proofs.Finds.{found_in}
use Rattle.tables.specs.Files.{is_file_at}
use Rattle.tables.specs.Rows.{Tables, rows_of, tables_in, tables_of}
use Rattle.tables.specs.declared.rows.File.{File}
use Rattle.tables_meaning.specs.Archives.{KeepsBook, KeepsFinished}
use Rattle.tables_meaning.specs.Finished.{finished}
use Rattle.tables_meaning.specs.KeeperLemmas.{book_set}
use Rattle.tables_meaning.specs.Kept.{IsBook, book_in, bytes_of, files_in, has_body, print_at}
use Rattle.tables_meaning.specs.OneBook.{one_book}
use Rattle.tables_meaning.proofs.AmendedLemmas.{print_is}
use Rattle.tables_meaning.proofs.BodyLemmas.{are_stored}

module _ (t : Tables) (config : ConfigValue) (judged : List Judgement) (shown : ShelvesValue) (dates : List ℕ) (h : IsBook t config judged shown dates) where
  file_here : (path : List ℕ) (o : Option File) → find (is_file_at path) (rows_of t.files) ≡ o
      → get (pool shown) path ≡ option_map print_of (option_map (λ (f : File). bytes_of t f.body) o)
  file_here path None e = sym (h.files.are path) ∙ ap (option_and_then (λ (f : File). print_at t f.body)) e
  file_here path (Some f) e =
      let there : IsTrue (has_body t f.body) = all_at (λ (g : File). IsTrue (has_body t g.body)) (rows_of t.files) f h.files.bodies (found_in (is_file_at path) (rows_of t.files) f e) in
      sym (h.files.are path) ∙ ap (option_and_then (λ (g : File). print_at t g.body)) e ∙ print_is t (are_stored t h.bodies) f.body there

  kept_files : HasItsFiles (book_in config judged shown dates t)
  unfolding book_in files_in
  kept_files = record { agreed = h.sound.agreed; files = λ path. file_here path (find (is_file_at path) (rows_of t.files)) refl }

its_files_prop : (b : Book) → IsProp (HasItsFiles b)
its_files_prop b = hlevel props

pub book_files : (db : Database) (config : ConfigValue) (b : Book) → KeepsBook db config b → HasItsFiles b
book_files db config b keeps =
    ∥∥₁_elim keeps (its_files_prop b) (λ w. subst HasItsFiles (sym w.4) (kept_files (finished (tables_in db)) config w.0 w.1 w.2 w.3.kept))

pub finished_files : (db : Database) (config : ConfigValue) (b : Book) → KeepsFinished db config b → HasItsFiles b
finished_files db config b keeps =
    ∥∥₁_elim keeps (its_files_prop b) (λ w. subst HasItsFiles (sym w.6) (kept_files (finished (tables_in db)) config w.0 w.1 w.2 w.4))

-- trees keep one book
pub one_kept : (db other : Database) (config another : ConfigValue) (b c : Book) → other.trees ≡ db.trees → KeepsBook db config b → KeepsBook other another c → c ≡ b
one_kept db other config another b c same one two =
    ∥∥₁_elim one (book_set _ _) (λ v. ∥∥₁_elim two (book_set _ _) (λ w.
    let is : finished (tables_in other) ≡ finished (tables_in db) = ap (λ trees. finished (tables_of trees)) same in
    let here : IsBook (finished (tables_in db)) config v.0 v.1 v.2 = v.3.kept in
    let there : IsBook (finished (tables_in db)) another w.0 w.1 w.2 = subst (λ t. IsBook t another w.0 w.1 w.2) is w.3.kept in
    w.4 ∙ ap (book_in another w.0 w.1 w.2) is
    ∙ one_book (finished (tables_in db)) another config w.0 v.0 w.1 v.1 w.2 v.2 there here there.read here.read there.sound.at_home here.sound.at_home
    ∙ sym v.4))
