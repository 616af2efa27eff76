-- All rows of the tables, and what the keys of the tables keep true of them.
use Rattle.std.specs.Prelude.{◌≡◌, ◌≢◌, ℕ, nat_eq, List, Bool, false, None, All, AllPairs, IsTrue}
use Rattle.std.specs.List.{list_any}
use Rattle.tables.specs.Arrivals.{is_arrival}
use Rattle.tables.specs.Bodies.{is_body_there}
use Rattle.tables.specs.Items.{is_item}
use Rattle.tables.specs.Rows.{Tables, rows_of}
use Rattle.tables.specs.Uploads.{sign_in}
use Rattle.tables_read.specs.declared.all.AllRows.{AllRows}

-- the tables with exactly these rows
abbrev pub tables_with : AllRows → Tables
tables_with all = record {
  meta = all.meta.items;
  bodies = all.bodies.items;
  pieces = all.pieces.items;
  arrivals = all.arrivals.items;
  uploads = all.uploads.items;
  wants = all.wants.items;
  items = all.items.items;
  refs = all.refs.items;
  files = all.files.items;
  texts = all.texts.items;
  dates = all.dates.items;
}

-- What the keys of the tables keep true, whatever was written.
pub record AreConstrained (t : Tables) : Type 0 where
  pub bodies_apart : AllPairs (λ x y. x.1.print ≢ None → x.1.print ≢ y.1.print) t.bodies
  pub pieces_owned : All (λ p. IsTrue (is_body_there t p.body)) (rows_of t.pieces)
  pub arrivals_owned : All (λ a. IsTrue (is_body_there t a.body)) (rows_of t.arrivals)
  pub arrivals_apart : AllPairs (λ a b. is_arrival a.name a.body b ≡ false) (rows_of t.arrivals)
  pub uploads_apart : AllPairs (λ u v. sign_in u ≢ sign_in v) (rows_of t.uploads)
  pub places_apart : AllPairs (λ u v. u.place ≢ None → u.place ≢ v.place) (rows_of t.uploads)
  pub wants_owned : All (λ w. IsTrue (list_any (λ x. nat_eq x.0 w.upload) t.uploads)) (rows_of t.wants)
  pub items_apart : AllPairs (λ x y. is_item x.suite x.kind x.«package» x.architecture y ≡ false) (rows_of t.items)
  pub refs_owned : All (λ r. IsTrue (list_any (λ x. nat_eq x.0 r.item) t.items)) (rows_of t.refs)
  pub files_owned : All (λ f. IsTrue (is_body_there t f.body)) (rows_of t.files)
  pub files_apart : AllPairs (λ f g. f.path ≢ g.path) (rows_of t.files)
