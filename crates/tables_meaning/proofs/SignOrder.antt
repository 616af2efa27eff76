-- The order of judging is total, and only the same name and print tie.
use Rattle.std.proofs.Common.{◌≡◌, ℕ}
use Rattle.std.specs.Cmp.{IsTotalOrder, nat_cmp_total, on_total, then_total}
use Rattle.std.specs.FinMap.{IsAntisymmetric, nat_cmp-IsAntisymmetric}
use Rattle.suites.specs.KeyLemmas.{text_order_total, text_order-IsAntisymmetric, first_tied, second_tied}
use Rattle.tables_meaning.specs.Kept.{sign_in}
use Rattle.tables_meaning.specs.Reads.{row_order}
use Rattle.book.specs.Book.{judging_order}
use Rattle.tables.specs.declared.rows.UploadRow.{UploadRow}
use Rattle.tables_meaning.proofs.WantLemmas.{Sign}

pub judging_order_total : IsTotalOrder judging_order
unfolding judging_order
judging_order_total =
    then_total (on_total (λ (s : Sign). s.0) text_order_total)
    (then_total (on_total (λ (s : Sign). s.1.sha256) text_order_total)
    (then_total (on_total (λ (s : Sign). s.1.sha1) text_order_total)
    (then_total (on_total (λ (s : Sign). s.1.md5) text_order_total) (on_total (λ (s : Sign). s.1.size) nat_cmp_total))))

same_sign : (a b : Sign) → a.0 ≡ b.0 → a.1.sha256 ≡ b.1.sha256 → a.1.sha1 ≡ b.1.sha1 → a.1.md5 ≡ b.1.md5 → a.1.size ≡ b.1.size → a ≡ b
same_sign a b n s t m z = λ i. (n i, record { size = z i; md5 = m i; sha1 = t i; sha256 = s i })

pub judging_order-IsAntisymmetric : IsAntisymmetric judging_order
unfolding judging_order
judging_order-IsAntisymmetric a b e =
    let two = second_tied _ _ e in
    let three = second_tied _ _ two in
    let four = second_tied _ _ three in
    same_sign a b
    (text_order-IsAntisymmetric a.0 b.0 (first_tied _ _ e))
    (text_order-IsAntisymmetric a.1.sha256 b.1.sha256 (first_tied _ _ two))
    (text_order-IsAntisymmetric a.1.sha1 b.1.sha1 (first_tied _ _ three))
    (text_order-IsAntisymmetric a.1.md5 b.1.md5 (first_tied _ _ four))
    (nat_cmp-IsAntisymmetric a.1.size b.1.size (second_tied _ _ four))

-- the order of uploads is total
pub row_order_total : IsTotalOrder row_order
row_order_total = on_total (λ (x : ℕ × UploadRow). sign_in x.1) judging_order_total
