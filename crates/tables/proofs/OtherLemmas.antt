-- A database with the tables of an archive stays one, and they are the first of its tables.
use Rattle.std.proofs.Common.{◌≡◌, List, [], ◌∷◌, ◌++◌, refl, sym, subst, ◌∙◌}
use Rattle.std.specs.List.{AllByRecursion}
use Rattle.sqlite.specs.Table.{Table}
use Rattle.sqlite.specs.Schema.{Schema}
use Rattle.tables.specs.Schema.{archive_schema}
use Rattle.tables.specs.Others.{IsArchiveSchema, Others, others_in, with_others}

-- a schema with nothing but the tables of an archive
pub alone : IsArchiveSchema archive_schema
alone = record { is = refl; apart = record { tables = refl; indexes = refl } }

-- the schema is as before
pub stays : (old new : Schema) → IsArchiveSchema old → new ≡ with_others (others_in old) → IsArchiveSchema new
stays old new was same = subst IsArchiveSchema (was.is ∙ sym same) was

pub front : {X : Type 0} (P : X → Type 0) (xs ys : List X) → AllByRecursion P (xs ++ ys) → AllByRecursion P xs
front P [] ys h = tt
front P (x ∷ xs) ys h = (h.0, front P xs ys h.1)

pub own_tables : (P : Table → Type 0) (o : Others) → AllByRecursion P (with_others o).tables → AllByRecursion P archive_schema.tables
own_tables P o h = front P archive_schema.tables o.tables h
