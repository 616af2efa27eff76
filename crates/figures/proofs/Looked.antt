-- What is looked up in sets of prints and of signs.
use Rattle.std.proofs.Common.{◌≡◌, ◌&&◌, ◌||◌, Bool, true, false, bytes_eq, cond, List, ◌∷◌, sym, ap, ◌∙◌}
use Rattle.std.specs.Bool.{Decides}
use Rattle.std.specs.BTreeSet.{BTreeSet, contains_by}
use Rattle.std.specs.Cmp.{unsigned_ties}
use Rattle.std.specs.Ordering.{is_eq, ordering_then}
use Rattle.std.specs.declared.cmp.Ordering.{Ordering}
use Rattle.std.specs.declared.cmp.Ordering.TheVariants.{Less, Equal, Greater}
use Rattle.std.proofs.lemmas.Bool.Decides.{same_from_decides, Decides-like}
use Rattle.std.proofs.lemmas.Map.Text.{is_eq-slice_cmp}
use Rattle.std.proofs.lemmas.Slice.Eq.{bytes_eq-Decides}
use Rattle.book.proofs.Prints.{same_print-Decides}
use Rattle.book.specs.declared.change.Waiting.{Waiting}
use Rattle.sums.specs.Prints.{same_print}
use Rattle.sums.specs.declared.print.Print.{Print}
use Rattle.figures.specs.Keys.{HasPrints, HasSigns, is_sign_of, key_of, print_key_order, print_order, sign_order}
use Rattle.figures.specs.declared.key.PrintKey.{PrintKey}
use Rattle.figures.specs.declared.key.Sign.{Sign}

both_tied : (a b : Ordering) (x y : Bool) → is_eq a ≡ x → is_eq b ≡ y → is_eq (ordering_then a b) ≡ (x && y)
both_tied Less b x y p q = ap (λ t. t && y) p
both_tied Equal b x y p q = q ∙ ap (λ t. t && y) p
both_tied Greater b x y p q = ap (λ t. t && y) p

-- two prints tie exactly if they are the same
print_tied : (a b : Print) → is_eq (print_order a b) ≡ same_print a b
unfolding print_order
print_tied a b =
    both_tied _ _ _ _
    (both_tied _ _ _ _ (both_tied _ _ _ _ (sym (unsigned_ties a.size b.size)) (is_eq-slice_cmp a.md5 b.md5)) (is_eq-slice_cmp a.sha1 b.sha1))
    (is_eq-slice_cmp a.sha256 b.sha256)

-- a test of equality does not mind the order
flipped : {A : Type 0} (same : A → A → Bool) → ((a b : A) → Decides (same a b) (a ≡ b)) → (a b : A) → same a b ≡ same b a
flipped same decides a b = same_from_decides _ _ (decides a b) (Decides-like _ sym sym (decides b a))

chosen : (a b x y : Bool) → a ≡ b → x ≡ y → cond a true x ≡ (b || y)
chosen true b x y p q = ap (λ t. t || y) p
chosen false b x y p q = q ∙ ap (λ t. t || y) p

-- a set with one more print has the prints with that one
pub has_more : (old new : BTreeSet PrintKey) (key : PrintKey) (p : Print) (prints : List Print) → key ≡ key_of p
    → ((q : PrintKey) → contains_by (print_key_order q) new ≡ cond (is_eq (print_key_order key q)) true (contains_by (print_key_order q) old))
    → HasPrints old prints → HasPrints new (p ∷ prints)
has_more old new key p prints is more has q =
    more (key_of q)
    ∙ chosen _ _ _ _ (ap (λ (k : PrintKey). is_eq (print_key_order k (key_of q))) is ∙ print_tied p q ∙ flipped same_print same_print-Decides p q) (has q)

-- two signs tie exactly if they are of one name and print
sign_tied : (s t : Sign) → is_eq (sign_order s t) ≡ (bytes_eq s.name t.name && same_print s.print t.print)
unfolding sign_order
sign_tied s t = both_tied _ _ _ _ (is_eq-slice_cmp s.name t.name) (print_tied s.print t.print)

-- a set with the sign of one more upload has the signs with that one
pub signs_more : (old new : BTreeSet Sign) (sign : Sign) (w : Waiting) (uploads : List Waiting)
    → sign ≡ record { name = w.name; print = w.print }
    → ((q : Sign) → contains_by (sign_order q) new ≡ cond (is_eq (sign_order sign q)) true (contains_by (sign_order q) old))
    → HasSigns old uploads → HasSigns new (w ∷ uploads)
signs_more old new sign w uploads is more has q =
    more q
    ∙ chosen _ (is_sign_of q w) _ _
    (ap (λ (s : Sign). is_eq (sign_order s q)) is
    ∙ sign_tied (record { name = w.name; print = w.print }) q
    ∙ ap (λ b. b && same_print w.print q.print) (flipped bytes_eq bytes_eq-Decides w.name q.name)
    ∙ ap (λ b. bytes_eq q.name w.name && b) (flipped same_print same_print-Decides w.print q.print))
    (has q)
