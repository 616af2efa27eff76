-- What is found of an old archive in a database, layout by layout.
use Rattle.std.proofs.Common.{◌≡◌, inr, true, Option, Some, None, Result, Ok, Err, IfOk, IfSome, OnErr, OnOk, refl, sym, subst, arith}
use Rattle.std.specs.Prelude.{Contains}
use Rattle.std.proofs.lemmas.List.Elements.{All-from_recursion}
use Rattle.sqlite.specs.Effect.{Database}
use Rattle.sqlite.specs.declared.error.Error.{Error}
use Rattle.book.specs.Keeping.{MayAnswer}
use Rattle.book.specs.declared.fault.KeepFault.{KeepFault}
use Rattle.book.specs.declared.fault.KeepFault.TheVariants.{NoArchive}
use Rattle.tables.specs.Rows.{Tables}
use Rattle.tables_meaning.specs.Kept.{AreReadable}
use Rattle.old_rows.specs.Layouts.{AreShown, Asked, first_layout, older_layouts, second_layout}
use Rattle.old_book.specs.Books.{IsBookOf, IsOldBookIn, IsShownBook}
use Rattle.old_book.specs.Old.{IsNoOldArchive, KeepsNoOld, KeepsNoneAs}
use Rattle.old_book.specs.declared.old.OldBook.{OldBook}

-- ---- of rows that are shown

pub shown_book : (asked : Asked) (db : Database) (t : Tables) (r : Result (Option OldBook) Error) → AreShown asked db t → IfOk r (λ o. IfSome o (IsBookOf t)) → IfOk r (λ o. IfSome o (IsShownBook asked db))
shown_book asked db t (Ok (Some old)) shown is = record { rows = t; shown = shown; book = is }
shown_book asked db t (Ok None) shown is = tt
shown_book asked db t (Err e) shown is = tt

pub shown_none : (asked : Asked) (db : Database) (t : Tables) (r : Result (Option OldBook) Error) → AreShown asked db t → IfOk r (λ o. o ≡ None → AreReadable t → KeepsNoOld t) → IfOk r (λ o. o ≡ None → KeepsNoneAs asked db)
shown_none asked db t (Ok o) shown none = λ is. inr (t, shown, none is)
shown_none asked db t (Err e) shown none = tt

pub on_ok_is : {X E P : Type 0} (r : Result X E) → P → OnOk r P
on_ok_is (Ok x) h = h
on_ok_is (Err e) h = tt

pub on_err_is : {X E P : Type 0} (r : Result X E) → P → OnErr r P
on_err_is (Ok x) h = tt
on_err_is (Err e) h = h

-- ---- of both layouts

pub first_book : (asked : Asked) (db : Database) (old : OldBook) → asked ≡ first_layout → IsShownBook asked db old → IsOldBookIn db old
first_book asked db old is h =
    let there : Contains older_layouts asked = subst (Contains older_layouts) (sym is) (0, omega arith, refl) in
    (h.rows, (asked, there, h.shown, h.book.archive), h.book.same)

pub second_book : (asked : Asked) (db : Database) (old : OldBook) → asked ≡ second_layout → IsShownBook asked db old → IsOldBookIn db old
second_book asked db old is h =
    let there : Contains older_layouts asked = subst (Contains older_layouts) (sym is) (1, omega arith, refl) in
    (h.rows, (asked, there, h.shown, h.book.archive), h.book.same)

pub no_book : (first second : Asked) (db : Database) → first ≡ first_layout → second ≡ second_layout → KeepsNoneAs first db → KeepsNoneAs second db → IsNoOldArchive db
no_book first second db one two h k =
    All-from_recursion (λ asked. KeepsNoneAs asked db) older_layouts (subst (λ asked. KeepsNoneAs asked db) one h, (subst (λ asked. KeepsNoneAs asked db) two k, tt))

-- a fault of the database is not `NoArchive`
pub other_fault : (fault : KeepFault) → MayAnswer true fault → fault ≡ NoArchive → ⊥
other_fault fault may is = subst (MayAnswer true) is may
