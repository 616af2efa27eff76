-- What `=` makes of the four columns of a print.
use Rattle.std.proofs.Common.{◌≡◌, Bool, true, false, ◌&&◌, refl, ◌∙◌}
use Rattle.std.specs.Prelude.{nat_eq, bytes_eq}
use Rattle.sqlite.specs.Collation.TheVariants.{Binary}
use Rattle.sqlite.specs.declared.types.Value.TheVariants.{Blob}
use Rattle.sqlite_sql.specs.Ops.{binary}
use Rattle.sqlite_sql.specs.declared.ops.BinaryOp.TheVariants.{Compare}
use Rattle.sqlite_sql.specs.declared.ops.CompareOp.TheVariants.{Eq}
use Rattle.sqlite_typed.proofs.TestLemmas.{truth_or, then_term, last_term}
use Rattle.sums.specs.declared.print.Print.{Print}
use Rattle.sums.specs.Prints.{same_print}
use Rattle.tables.specs.Rows.{whole}
use Rattle.tables.proofs.EqualLemmas.{whole_test, blob_test}

nested : (s m h k : Bool) → (s && (m && (h && k))) ≡ (((s && m) && h) && k)
nested true true true k = refl
nested true true false k = refl
nested true false h k = refl
nested false m h k = refl

pub print_test : (a p : Print) →
    (truth_or false (binary (Compare Eq Binary) (whole a.size) (whole p.size)) && (truth_or false (binary (Compare Eq Binary) (Blob a.md5) (Blob p.md5))
    && (truth_or false (binary (Compare Eq Binary) (Blob a.sha1) (Blob p.sha1)) && (truth_or false (binary (Compare Eq Binary) (Blob a.sha256) (Blob p.sha256)) && true)))) ≡ same_print a p
print_test a p =
    then_term (whole_test a.size p.size) (then_term (blob_test a.md5 p.md5) (then_term (blob_test a.sha1 p.sha1) (last_term (blob_test a.sha256 p.sha256))))
    ∙ nested (nat_eq a.size p.size) (bytes_eq a.md5 p.md5) (bytes_eq a.sha1 p.sha1) (bytes_eq a.sha256 p.sha256)
