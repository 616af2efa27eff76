-- How many bytes the digests of a print have.
use Rattle.std.proofs.Common.{◌≡◌, ℕ, List, length, refl}
use Rattle.md5.specs.Md5 as hasher_md5
use Rattle.md5.specs.Md5.{md5}
use Rattle.sha1.specs.Sha1 as hasher_sha1
use Rattle.sha1.specs.Sha1.{sha1}
use Rattle.sha2.specs.Sha256 as hasher_sha256
use Rattle.sha2.specs.Sha256.{sha256}
use Rattle.sums.specs.Prints.{print}

pub length-md5 : (body : List ℕ) → length (print body).md5 ≡ 16
unfolding md5 hasher_md5.digest_bytes
length-md5 body = refl

pub length-sha1 : (body : List ℕ) → length (print body).sha1 ≡ 20
unfolding sha1 hasher_sha1.digest_bytes
length-sha1 body = refl

pub length-sha256 : (body : List ℕ) → length (print body).sha256 ≡ 32
unfolding sha256 hasher_sha256.digest_bytes
length-sha256 body = refl
