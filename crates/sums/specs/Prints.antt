-- The print of a body: its length and its digests.
use Rattle.std.specs.Prelude.{◌≡◌, ℕ, ◌%◌, ◌^◌, ◌==◌, ◌&&◌, Bool, List, length}
use Rattle.std.specs.Str.{bytes_eq}
use Rattle.md5.specs.Md5.{md5}
use Rattle.md5.specs.Md5 as hasher_of_md5
use Rattle.sha1.specs.Sha1.{sha1}
use Rattle.sha1.specs.Sha1 as hasher_of_sha1
use Rattle.sha2.specs.Sha256.{sha256}
use Rattle.sha2.specs.Hashers.{Holds256}
use Rattle.sums.specs.declared.print.Print.{Print}
use Rattle.sums.specs.declared.print.Printer.{Printer}

-- length, MD5 (RFC 1321), SHA-1 and SHA-256 (FIPS 180-4)
abbrev pub print : List ℕ → Print
print body = record { size = length body; md5 = md5 body; sha1 = sha1 body; sha256 = sha256 body }

-- the printer has been given this body, in any pieces
pub record Holds (printer : Printer) (body : List ℕ) : Type 0 where
  pub size : printer.size ≡ length body % 2 ^ 64
  pub md5 : hasher_of_md5.Holds printer.md5 body
  pub sha1 : hasher_of_sha1.Holds printer.sha1 body
  pub sha256 : Holds256 printer.sha256 body

-- whether two prints agree in size and in each digest
abbrev pub same_print : Print → Print → Bool
same_print a b = (a.size == b.size) && bytes_eq a.md5 b.md5 && bytes_eq a.sha1 b.sha1 && bytes_eq a.sha256 b.sha256
