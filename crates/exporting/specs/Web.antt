-- The pages of a tree.
use Rattle.std.specs.Prelude.{◌≡◌, ℕ, Bool, List, Option, Some, None, if◌then◌else◌}
use Rattle.book.specs.Book.{Book}
use Rattle.suites.specs.Shelves.{ShelvesValue}
use Rattle.pages.specs.IndexPage.{KeyValue, index_page}
use Rattle.pages.specs.declared.site.Site.TheVariants.{Tree}

-- Of signed Releases this is the key of this name, whose file lies in the tree or not; of others there is none.
pub record IsKey (signed : Bool) (name : List ℕ) (key : Option KeyValue) : Type 0 where
  pub here : Bool
  pub is : key ≡ (if signed then Some (record { name = name; is_here = here }) else None)

-- The page is that of the suites of a book, and names that key.
pub record IsIndex (b : Book) (shelves : ShelvesValue) (signed : Bool) (name page : List ℕ) : Type 0 where
  pub key : Option KeyValue
  pub named : IsKey signed name key
  pub is : page ≡ index_page Tree b.config shelves b.dates key
