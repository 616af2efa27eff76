-- Names with prints: their order, and what is found if they stand in it.
use Rattle.std.proofs.Common.{◌≡◌, ℕ, zero, suc, ◌+◌, ◌<◌, ◌≤◌, Bool, true, false, ◌&&◌, ◌||◌, List, [], ◌∷◌, ◌++◌, map, take, length, get_or, Result, Ok, Err, bytes_eq, refl, sym, ap, ap₂, ◌∙◌, arith, true≢false}
use Rattle.std.specs.Prelude.{is_ok, nat_lt}
use Rattle.std.specs.declared.cmp.Ordering.{Ordering}
use Rattle.std.specs.declared.cmp.Ordering.TheVariants.{Less, Equal, Greater}
use Rattle.std.specs.Cmp.{IsStrictWeakOrder, IsTotalOrder, tied_itself}
use Rattle.std.specs.Fn.{Called, ComparesAs}
use Rattle.std.specs.List.Sorted.{IsBinarySearchResult, IsPermutation, IsSearchInRange, IsSortedBy, IsSortedByKey}
use Rattle.std.specs.Ordering.{is_eq, is_lt}
use Rattle.std.proofs.lemmas.Bool.{ltb-false, ltb-true}
use Rattle.std.proofs.lemmas.Fn.{always_returns_same}
use Rattle.std.proofs.lemmas.List.{map-append, map_more}
use Rattle.std.proofs.lemmas.List.Sorted.{IsPermutation-map, list_any-IsPermutation, ranks_by, searchable_from_sorted}
use denote.Param.Members.{Mut}
use denote.Ref.{Bor}
use Rattle.book.specs.declared.change.Judgement.{Judgement}
use Rattle.book.specs.Book.{judging_order}
use Rattle.tables_meaning.proofs.SignOrder.{judging_order_total, judging_order-IsAntisymmetric}
use Rattle.tables_meaning.proofs.WantLemmas.{is_sign-Decides}
use Rattle.sums.specs.declared.entries.Entry.{Entry}
use Rattle.sums.specs.Prints.{same_print}
use Rattle.sums.proofs.Words.{list_any-map}
use Rattle.tables_audit.specs.Signs.{AreInOrder, SignValue, arrived_sign, entry_sign, has_sign, judgement_sign, sign_of}
use Rattle.tables_audit.specs.Uploads.{Printed, has_judgement, is_there_among, printed}
use Rattle.tables_audit.specs.declared.uploads.arrived.Arrived.{Arrived}
use Rattle.tables_audit.specs.declared.uploads.signs.Sign.{Sign}

-- ---- signs in order

-- a sort by a total order of keys leaves these in order
pub sorted_by_key : {K : Type 0} {R : K → K → Ordering} (o : IsTotalOrder R) {X : Type 0} (key : X → K) {F : Type 0} {g : Mut F (Bor X × (Bor X × Unit {0})) Ordering} {f : F} (xs : List X)
    → ((lt : X → X → Bool) → IsStrictWeakOrder lt → ComparesAs g lt f → IsSortedBy lt xs)
    → ((a : Bor X × (Bor X × Unit {0})) (r : Ordering) (f' : F) → Called g f a r f' → (r ≡ R (key a.0.now) (key a.1.0.now)) × (f' ≡ f)) → IsSortedByKey key R xs
sorted_by_key {R = R} o key {g = g} {f = f} xs up h =
    up (λ x y. is_lt (R (key x) (key y))) (ranks_by o key)
    (always_returns_same g (λ a r. is_lt r ≡ is_lt (R (key a.0.now) (key a.1.0.now))) f (λ a r f' k. (ap is_lt (h a r f' k).0, (h a r f' k).1)))

-- ---- one among many

module _ (s : SignValue) where
  it : (r : SignValue) → judging_order r s ≡ Equal → bytes_eq r.0 s.0 && same_print r.1 s.1 ≡ true
  it r e = (is_sign-Decides s r).1 (judging_order-IsAntisymmetric r s e)

  not_it : (r : SignValue) → is_eq (judging_order r s) ≡ false → bytes_eq r.0 s.0 && same_print r.1 s.1 ≡ false
  not_it r apart = go (bytes_eq r.0 s.0 && same_print r.1 s.1) refl
    where
      go : (b : Bool) → bytes_eq r.0 s.0 && same_print r.1 s.1 ≡ b → b ≡ false
      go false t = refl
      go true t =
          let same : r ≡ s = (is_sign-Decides s r).0 t in
          let tied : is_eq (judging_order r s) ≡ true = ap (λ x. is_eq (judging_order x s)) same ∙ ap is_eq (tied_itself judging_order_total s) in
          absurd (true≢false (sym tied ∙ apart))

  found_at : (signs : List Sign) (i : ℕ) → i < length signs → ((d : Sign) → judging_order (sign_of (get_or signs i d)) s ≡ Equal) → has_sign (map sign_of signs) s ≡ true
  found_at [] i lt h = absurd (omega (arith, lt))
  found_at (x ∷ signs) zero lt h = ap (λ b. b || has_sign (map sign_of signs) s) (it (sign_of x) (h x))
  found_at (x ∷ signs) (suc i) lt h = either (bytes_eq x.name.now s.0 && same_print x.print s.1) (found_at signs i (omega (arith, lt)) h)
    where
      either : (b : Bool) → has_sign (map sign_of signs) s ≡ true → b || has_sign (map sign_of signs) s ≡ true
      either true t = refl
      either false t = t

  not_found : (signs : List Sign) → ((j : ℕ) (d : Sign) → j < length signs → is_eq (judging_order (sign_of (get_or signs j d)) s) ≡ false) → has_sign (map sign_of signs) s ≡ false
  not_found [] h = refl
  not_found (x ∷ signs) h =
      ap (λ b. b || has_sign (map sign_of signs) s) (not_it (sign_of x) (h 0 x (omega arith)))
      ∙ not_found signs (λ j d lt. h (suc j) d (omega (arith, lt)))

  -- a binary search finds a name and a print exactly if they are among these
  pub found_among : (signs : List Sign) (r : Result ℕ ℕ) → AreInOrder signs → IsSearchInRange r (length signs) → IsBinarySearchResult (λ (x : Sign). judging_order (sign_of x) s) signs r
      → is_ok r ≡ has_sign (map sign_of signs) s
  found_among signs (Ok i) up bound at = sym (found_at signs i bound at)
  found_among signs (Err i) up bound at =
      let parts = at (searchable_from_sorted judging_order_total sign_of signs s up) in
      sym (not_found signs (λ j d lt. by_kind j d lt parts.0 parts.1 (nat_lt j i) refl))
    where
      by_kind : (j : ℕ) (d : Sign) → j < length signs
          → ((n : ℕ) (d : Sign) → 0 ≤ n → n < i → judging_order (sign_of (get_or signs n d)) s ≡ Less)
          → ((n : ℕ) (d : Sign) → i ≤ n → n < length signs → judging_order (sign_of (get_or signs n d)) s ≡ Greater)
          → (b : Bool) → nat_lt j i ≡ b → is_eq (judging_order (sign_of (get_or signs j d)) s) ≡ false
      by_kind j d lt before after true t = ap is_eq (before j d (omega arith) (ltb-true j i t))
      by_kind j d lt before after false t = ap is_eq (after j d (ltb-false j i t) lt)

  -- in another order the same names and prints are there
  pub moved : (all : List SignValue) (signs sorted : List Sign) → map sign_of signs ≡ all → IsPermutation signs sorted → has_sign (map sign_of sorted) s ≡ has_sign all s
  moved all signs sorted are same =
      sym (list_any-IsPermutation (λ (r : SignValue). bytes_eq r.0 s.0 && same_print r.1 s.1) (map sign_of signs) (map sign_of sorted) (IsPermutation-map sign_of signs sorted same))
      ∙ ap (λ l. has_sign l s) are

-- the signs so far, with one more
pub signs_more : {X : Type 0} (f : X → SignValue) (signs : List Sign) (xs : List X) (i : ℕ) (x : X) (one : Sign) {now : List Sign} → i < length xs → x ≡ get_or xs i x → sign_of one ≡ f x
    → now ≡ signs ++ one ∷ [] → map sign_of signs ≡ map f (take i xs) → map sign_of now ≡ map f (take (i + 1) xs)
signs_more f signs xs i x one within is same pushed so_far =
    ap (map sign_of) pushed
    ∙ map-append sign_of signs (one ∷ [])
    ∙ ap₂ (λ (l : List SignValue) (r : SignValue). l ++ r ∷ []) so_far same
    ∙ sym (map_more f xs i x within ∙ ap (λ y. map f (take i xs) ++ f y ∷ []) (sym is))

-- ---- what is judged, and what is there

pub judged_same : (judged : List Judgement) (p : Printed) → has_sign (map judgement_sign judged) (p.0.name, p.1) ≡ has_judgement judged p
judged_same judged p = list_any-map judgement_sign (λ (r : SignValue). bytes_eq r.0 p.0.name && same_print r.1 p.1) judged

pub there_same : (arrived : List Arrived) (e : Entry) → has_sign (map arrived_sign arrived) (entry_sign e) ≡ is_there_among (map printed arrived) e
there_same arrived e =
    list_any-map arrived_sign (λ (r : SignValue). bytes_eq r.0 e.name && same_print r.1 e.print) arrived
    ∙ sym (list_any-map printed (λ (p : Printed). bytes_eq p.0.name e.name && same_print p.1 e.print) arrived)
