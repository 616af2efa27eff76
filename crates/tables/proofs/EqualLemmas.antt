-- What `=` makes of two values, as a test of specs.
use Rattle.std.proofs.Common.{◌≡◌, ℕ, pos, false, List, int_eq, ◌∙◌, arith}
use Rattle.std.specs.Prelude.{nat_eq, bytes_eq}
use Rattle.std.proofs.lemmas.Int.{ints}
use Rattle.std.proofs.lemmas.Bool.Decides.{nat_tests}
use Rattle.std.proofs.lemmas.Map.Text.{is_eq-slice_cmp}
use Rattle.sqlite.specs.declared.types.Value.TheVariants.{Int, Text, Blob}
use Rattle.sqlite.specs.Collation.TheVariants.{Binary}
use Rattle.sqlite_sql.specs.Ops.{binary}
use Rattle.sqlite_sql.specs.declared.ops.BinaryOp.TheVariants.{Compare}
use Rattle.sqlite_sql.specs.declared.ops.CompareOp.TheVariants.{Eq}
use Rattle.sqlite_typed.proofs.TestLemmas.{truth_or, at_ints, at_texts, at_blobs}
use Rattle.tables.specs.Rows.{id_cell, id_int, id_nat}

pub same_whole : (a b : ℕ) → int_eq (pos a) (pos b) ≡ nat_eq a b
same_whole a b = grind (arith, ints, nat_tests)

pub whole_test : (a b : ℕ) → truth_or false (binary (Compare Eq Binary) (Int (pos a)) (Int (pos b))) ≡ nat_eq a b
whole_test a b = at_ints false Eq (pos a) (pos b) ∙ same_whole a b

-- a number is that of its integer
pub id_back : (n : ℕ) → id_nat (id_int n) ≡ n
id_back n = omega (arith, ints)

pub same_id : (a b : ℕ) → int_eq (id_int a) (id_int b) ≡ nat_eq a b
same_id a b = grind (arith, ints, nat_tests)

pub id_test : (a b : ℕ) → truth_or false (binary (Compare Eq Binary) (id_cell a) (id_cell b)) ≡ nat_eq a b
id_test a b = at_ints false Eq (id_int a) (id_int b) ∙ same_id a b

pub text_test : (a b : List ℕ) → truth_or false (binary (Compare Eq Binary) (Text a) (Text b)) ≡ bytes_eq a b
text_test a b = at_texts false Eq a b ∙ is_eq-slice_cmp a b

pub blob_test : (a b : List ℕ) → truth_or false (binary (Compare Eq Binary) (Blob a) (Blob b)) ≡ bytes_eq a b
blob_test a b = at_blobs false Eq a b ∙ is_eq-slice_cmp a b
