-- What is found after a stop.
use Rattle.std.proofs.Common.{◌≡◌, ◌⊎◌, Option, Some, None, inl, inr, refl, sym, ap, subst}
use Rattle.std.proofs.Math.Logic.{∥∥₁_elim, ∥∥₁_map}
use Rattle.std.proofs.Props.{props}
use Rattle.std.proofs.lemmas.Option.{same_Some}
use Rattle.sqlite.specs.Effect.{Database}
use Rattle.sqlite.specs.Tree.{Trees}
use Rattle.rules.specs.Values.{ConfigValue}
use Rattle.book.specs.Book.{Book}
use Rattle.tables.specs.Rows.{HoldsRows, IsArchive, Tables, tables_of}
use Rattle.tables.specs.Others.{IsArchiveSchema}
use Rattle.tables_meaning.specs.Archives.{KeepsBook, KeepsFinished, KeepsLeft}
use Rattle.tables_meaning.specs.Finished.{AreUnderWay, finished}
use Rattle.tables_meaning.specs.Kept.{IsBook, book_in}
use Rattle.keep_tables.specs.Opened.{IsNoArchive}

config_set : IsSet ConfigValue
config_set = hlevel props

-- the configuration of a book is its archive's
pub own_config : (db : Database) (config : ConfigValue) (b : Book) → KeepsFinished db config b → config ≡ b.config
unfolding book_in
own_config db config b keeps = ∥∥₁_elim keeps (config_set _ _) (λ w. sym (ap (λ (x : Book). x.config) w.6))

-- what a database keeps once the bodies that are not whole are away is what it keeps
kept_book : (db : Database) (config : ConfigValue) (b : Book) → KeepsFinished db config b → KeepsBook db b.config b
kept_book db config b keeps =
    let own : config ≡ b.config = own_config db config b keeps in
    subst (λ (c : ConfigValue). KeepsBook db c b) own (∥∥₁_map keeps (λ w. (w.0, w.1, w.2, record { held = w.3; kept = w.4; coming = w.5 }, w.6)))

-- ---- the database that is found

archive_there : (db found : Database) → db.trees ≡ found.trees → IsArchiveSchema found.schema → IsArchive db → IsArchive found
archive_there db found same lists held = record { schema = lists; rows = subst (λ (trees : Trees). HoldsRows trees (tables_of trees)) same held.rows }

no_two : (x y : ⊥) → x ≡ y
no_two x y = absurd x

-- a stop left some book, and this is said of it
abbrev pub IsLeft : (Book → Type 0) → Option Book → Type 0
IsLeft Is None = ⊥
IsLeft Is (Some b) = Is b

-- The trees that are found keep what a stop left.
module _ (found : Database) (Is : Book → Type 0) (left : (o : Option Book) → KeepsLeft found.trees o → IsLeft Is o) where
  pub not_none : IsArchiveSchema found.schema → IsNoArchive found → ⊥
  not_none lists none = left None (λ db same b keeps.
      ∥∥₁_elim keeps no_two (λ w.
      let held : IsArchive found = archive_there db found same lists w.3.held in
      none held (subst AreUnderWay (ap tables_of same) w.3.coming) b.config w.0 w.1 w.2
      (subst (λ (t : Tables). IsBook (finished t) b.config w.0 w.1 w.2) (ap tables_of same) w.3.kept)))

  pub is_left : (config : ConfigValue) (b : Book) → KeepsFinished found config b → Is b
  is_left config b keeps = left (Some b) (found, refl, kept_book found config b keeps)

-- one book or another
abbrev pub OneOf : Book → Book → Book → Type 0
OneOf one other b = (b ≡ one) ⊎ (b ≡ other)

pub one_of : (one other : Book) (o : Option Book) → (o ≡ Some one) ⊎ (o ≡ Some other) → IsLeft (OneOf one other) o
one_of one other None is = elim is [ inl e ↦ cc | inr e ↦ cc ]
one_of one other (Some b) is = elim is [ inl e ↦ inl (same_Some b one e) | inr e ↦ inr (same_Some b other e) ]

-- one book; or another, if this holds
abbrev pub OneOrThen : Book → Type 0 → Book → Book → Type 0
OneOrThen one Then other b = (b ≡ one) ⊎ (Then × (b ≡ other))

pub one_or_then : (one other : Book) (Then : Type 0) (o : Option Book) → (o ≡ Some one) ⊎ (Then × (o ≡ Some other)) → IsLeft (OneOrThen one Then other) o
one_or_then one other Then None is = elim is [ inl e ↦ cc | inr w ↦ let e : None ≡ Some other = w.1 in absurd cc ]
one_or_then one other Then (Some b) is = elim is [ inl e ↦ inl (same_Some b one e) | inr w ↦ inr (w.0, same_Some b other w.1) ]
