-- What prints and uploads are looked up by, in sets.
use Rattle.std.specs.Prelude.{◌≡◌, ◌&&◌, bytes_eq, Bool, List}
use Rattle.std.specs.BTreeSet.{BTreeSet, contains_by}
use Rattle.std.specs.Cmp.{IsTotalOrder, nat_cmp_total, on_total, then_total}
use Rattle.std.specs.List.{list_any}
use Rattle.std.specs.Ordering.{nat_cmp, ordering_then}
use Rattle.std.specs.declared.cmp.Ordering.{Ordering}
use Rattle.book.specs.declared.change.Waiting.{Waiting}
use Rattle.suites.specs.KeyLemmas.{text_order_total}
use Rattle.suites.specs.Keys.{text_order}
use Rattle.sums.specs.Prints.{same_print}
use Rattle.sums.specs.declared.print.Print.{Print}
use Rattle.figures.specs.declared.key.PrintKey.{PrintKey}
use Rattle.figures.specs.declared.key.Sign.{Sign}

-- the order of prints in a set: by size, MD5, SHA-1 and SHA-256
unfoldable pub print_order : Print → Print → Ordering
print_order a b =
    ordering_then (ordering_then (ordering_then (nat_cmp a.size b.size) (text_order a.md5 b.md5)) (text_order a.sha1 b.sha1)) (text_order a.sha256 b.sha256)

pub print_order_total : IsTotalOrder print_order
unfolding print_order
print_order_total =
    then_total (then_total (then_total (on_total (λ (p : Print). p.size) nat_cmp_total) (on_total (λ (p : Print). p.md5) text_order_total)) (on_total (λ (p : Print). p.sha1) text_order_total))
    (on_total (λ (p : Print). p.sha256) text_order_total)

-- the same order of what is looked up by a print
abbrev pub print_key_order : PrintKey → PrintKey → Ordering
print_key_order a b = print_order a.print b.print

pub print_key_order_total : IsTotalOrder print_key_order
print_key_order_total = on_total (λ (k : PrintKey). k.print) print_order_total

-- the order of signs in a set: by name, then by print
unfoldable pub sign_order : Sign → Sign → Ordering
sign_order a b = ordering_then (text_order a.name b.name) (print_order a.print b.print)

pub sign_order_total : IsTotalOrder sign_order
unfolding sign_order
sign_order_total = then_total (on_total (λ (s : Sign). s.name) text_order_total) (on_total (λ (s : Sign). s.print) print_order_total)

abbrev pub key_of : Print → PrintKey
key_of p = record { print = p }

-- the set has exactly the prints of these
abbrev pub HasPrints : BTreeSet PrintKey → List Print → Type 0
HasPrints seen prints = (p : Print) → contains_by (print_key_order (key_of p)) seen ≡ list_any (same_print p) prints

-- the name and the print are those of the .changes of the upload
abbrev pub is_sign_of : Sign → Waiting → Bool
is_sign_of s w = bytes_eq s.name w.name && same_print s.print w.print

-- the set has exactly the names and the prints of these
abbrev pub HasSigns : BTreeSet Sign → List Waiting → Type 0
HasSigns signs uploads = (s : Sign) → contains_by (sign_order s) signs ≡ list_any (is_sign_of s) uploads
