-- Prints that are the same are equal.
use Rattle.std.proofs.Common.{◌≡◌, true, ◌==◌, ◌&&◌}
use Rattle.std.specs.Str.{bytes_eq}
use Rattle.std.proofs.lemmas.Bool.Decides.{Decides-eqb}
use Rattle.std.proofs.lemmas.Slice.Eq.{bytes_eq-Decides}
use Rattle.sums.proofs.Booleans.{both}
use Rattle.sums.specs.Prints.{same_print}
use Rattle.sums.specs.declared.print.Print.{Print}

pub equal_fields : (a b : Print) → a.size ≡ b.size → a.md5 ≡ b.md5 → a.sha1 ≡ b.sha1 → a.sha256 ≡ b.sha256 → a ≡ b
equal_fields a b size md5 sha1 sha256 = λ i. record { size = size i; md5 = md5 i; sha1 = sha1 i; sha256 = sha256 i }

pub same_print-equal : (a b : Print) → same_print a b ≡ true → a ≡ b
same_print-equal a b h =
    let last = both ((a.size == b.size) && bytes_eq a.md5 b.md5 && bytes_eq a.sha1 b.sha1) (bytes_eq a.sha256 b.sha256) h in
    let third = both ((a.size == b.size) && bytes_eq a.md5 b.md5) (bytes_eq a.sha1 b.sha1) last.0 in
    let first = both (a.size == b.size) (bytes_eq a.md5 b.md5) third.0 in
    equal_fields a b
    ((Decides-eqb a.size b.size).0 first.0)
    ((bytes_eq-Decides a.md5 b.md5).0 first.1)
    ((bytes_eq-Decides a.sha1 b.sha1).0 third.1)
    ((bytes_eq-Decides a.sha256 b.sha256).0 last.1)
