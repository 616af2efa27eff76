-- An item that is put on its shelf, with the files that are counted then.
use Rattle.std.proofs.Common.{◌≡◌, ◌⊎◌, inl, inr, ℕ, suc, ◌+◌, ◌<◌, Bool, true, false, cond, List, [], ◌∷◌, ◌++◌, map, fold, refl, sym, ap, subst, ◌∙◌, append-nil, append_assoc, arith, Option, Some, None}
use Rattle.std.specs.Prelude.{Contains, IfSome}
use Rattle.std.specs.Option.{option_map}
use Rattle.std.specs.Ordering.{eq_by_cmp}
use Rattle.std.specs.Cmp.{eq_by_cmp_equiv}
use Rattle.std.specs.FinMap.{entries, find, get, get-insert, insert, values}
use Rattle.std.proofs.lemmas.List.Elements.{All-contains, Contains-append_left, Contains-append_right, Contains-append_cases}
use Rattle.std.proofs.lemmas.Option.{same_Some}
use Rattle.sums.proofs.Members.{all_from}
use Rattle.sums.specs.declared.print.Print.{Print}
use Rattle.suites.specs.Admission.{MayJoin}
use Rattle.suites.specs.Applying.{one_more, with_reference, without_reference, with_file, without_file}
use Rattle.suites.specs.Counts.{count_at, shared_at}
use Rattle.suites.specs.Items.{IsAtHome}
use Rattle.suites.specs.Keys.{key_order, text_order}
use Rattle.suites.specs.KeyLemmas.{key_order_total, key_order-IsAntisymmetric, text_order-IsAntisymmetric}
use Rattle.suites.specs.Pool.{pair_of, files_of, AreAgreed}
use Rattle.suites.specs.Shelves.{AreSound, ShelvesValue}
use Rattle.suites.specs.declared.item.Item.{Item}
use Rattle.suites.specs.declared.item.PoolFile.{PoolFile}
use Rattle.suites.specs.declared.key.Kind.TheVariants.{Source}
use Rattle.suites.specs.declared.key.ShelfKey.{ShelfKey}
use Rattle.suites.specs.declared.plan.Reference.{Reference}
use Rattle.suites.specs.declared.shelves.SharedFile.{SharedFile}
use Rattle.suites.proofs.CountLemmas.{count-items, count_at-append, count_at-nil, references_to}
use Rattle.suites.proofs.EntryLemmas.{same_keys}
use Rattle.suites.proofs.FileMembers.{agreed_found, counted_none, entry_shown, files_contain, item_of_file, member_found, shown_entry, shown_value, value_shown}
use Rattle.suites.proofs.MapChanges.{or_else, weigh-insert}
use Rattle.suites.proofs.ReferenceLemmas.{shared_by, shared_found, shared_missing, undone}
use Rattle.suites.proofs.SharedLemmas.{count_at-cons, count_at-none, same_test}

-- ---- files that are counted, and then no longer counted

-- a reference to a file, whatever its item
abbrev to_file : PoolFile → Reference
to_file f = record {
  key = record { suite = 0; kind = Source; «package» = []; architecture = [] };
  number = 0;
  path = f.path;
  print = f.print;
}

came_as : (p : List ℕ) (shared : Option SharedFile) (fs : List PoolFile) → fold (with_file p) shared fs ≡ fold (with_reference p) shared (map to_file fs)
came_as p shared [] = refl
came_as p shared (f ∷ fs) = came_as p (with_file p shared f) fs

went_as : (p : List ℕ) (shared : Option SharedFile) (fs : List PoolFile) → fold (without_file p) shared fs ≡ fold (without_reference p) shared (map to_file fs)
went_as p shared [] = refl
went_as p shared (f ∷ fs) = went_as p (without_file p shared f) fs

-- files that come and go again leave what there was
pub undone_files : (p : List ℕ) (shared : Option SharedFile) (fs : List PoolFile) → IfSome shared (λ f. 0 < f.references)
    → fold (without_file p) (fold (with_file p) shared fs) fs ≡ shared
undone_files p shared fs h =
    ap (λ o. fold (without_file p) o fs) (came_as p shared fs)
    ∙ went_as p (fold (with_reference p) shared (map to_file fs)) fs
    ∙ undone p shared (map to_file fs) h

-- ---- what is counted of more files

find_both : (p : List ℕ) (xs ys : List (List ℕ × Print)) → find text_order p (xs ++ ys) ≡ or_else (find text_order p xs) (find text_order p ys)
find_both p [] ys = refl
find_both p (x ∷ xs) ys =
    elim (eq_by_cmp text_order p x.0) as (λ b. cond b (Some x.1) (find text_order p (xs ++ ys)) ≡ or_else (cond b (Some x.1) (find text_order p xs)) (find text_order p ys)) [
      | true ↦ refl
      | false ↦ find_both p xs ys
    ]

abbrev sharing : ℕ → Option Print → Option SharedFile
sharing n o = option_map (λ print. record { print = print; references = n }) o

-- one file more, at the path or not
pushed : (at : Bool) (n : ℕ) (o : Option Print) (x : Print) → (o ≡ None → n ≡ 0)
    → cond at (one_more x (sharing n o)) (sharing n o) ≡ sharing (n + cond at 1 0) (or_else o (cond at (Some x) None))
pushed true n (Some y) x h = refl
pushed true n None x h = (let one : 1 ≡ n + 1 = omega (arith, h refl) in ap (λ m. Some (record { print = x; references = m })) one)
pushed false n (Some y) x h = (let same : n ≡ n + 0 = omega arith in ap (λ m. Some (record { print = y; references = m })) same)
pushed false n None x h = refl

count_one : (p : List ℕ) (f : List ℕ × Print) → count_at p (f ∷ []) ≡ cond (eq_by_cmp text_order p f.0) 1 0
count_one p f = count_at-cons p f [] ∙ ap (λ n. cond (eq_by_cmp text_order p f.0) (suc n) n) (count_at-nil p)

one_file : (p : List ℕ) (xs : List (List ℕ × Print)) (f : PoolFile) → with_file p (shared_at p xs) f ≡ shared_at p (xs ++ pair_of f ∷ [])
unfolding shared_at
one_file p xs f =
    ap (λ b. cond b (one_more f.print (shared_at p xs)) (shared_at p xs)) (same_test p f.path)
    ∙ pushed (eq_by_cmp text_order p f.path) (count_at p xs) (find text_order p xs) f.print (count_at-none p xs)
    ∙ sym (λ i. sharing ((count_at-append p xs (pair_of f ∷ []) ∙ ap (λ n. count_at p xs + n) (count_one p (pair_of f))) i) (find_both p xs (pair_of f ∷ []) i))

counted_files : (p : List ℕ) (xs : List (List ℕ × Print)) (fs : List PoolFile) → fold (with_file p) (shared_at p xs) fs ≡ shared_at p (xs ++ map pair_of fs)
counted_files p xs [] = ap (shared_at p) (sym (append-nil xs))
counted_files p xs (f ∷ fs) =
    ap (λ o. fold (with_file p) o fs) (one_file p xs f)
    ∙ counted_files p (xs ++ pair_of f ∷ []) fs
    ∙ ap (shared_at p) (append_assoc xs (pair_of f ∷ []) (map pair_of fs))

-- as many files at the path, all of one print
shared_alike : (p : List ℕ) (xs ys : List (List ℕ × Print)) → count_at p xs ≡ count_at p ys → AreAgreed ys → ((x : Print) → Contains xs (p, x) → Contains ys (p, x))
    → shared_at p xs ≡ shared_at p ys
shared_alike p xs ys counts agreed inside = by_print (find text_order p xs) refl
  where
    by_print : (o : Option Print) → find text_order p xs ≡ o → shared_at p xs ≡ shared_at p ys
    by_print None e = shared_missing p xs e ∙ sym (shared_missing p ys (counted_none p ys (sym counts ∙ count_at-none p xs e)))
    by_print (Some x) e =
        let there = agreed_found ys p x agreed (inside x (member_found text_order-IsAntisymmetric p x xs e)) in
        shared_found p xs x e ∙ ap (shared_by x) counts ∙ sym (shared_found p ys x there)

-- ---- the shelves with the item

module _ (old : ShelvesValue) (key : ShelfKey) (item : Item) (free : get old key ≡ None) where
  at_shelf : (k : ShelfKey) → get (insert old key item) k ≡ cond (eq_by_cmp key_order k key) (Some item) (get old k)
  at_shelf k = get-insert key_order_total old key item k

  came : get (insert old key item) key ≡ Some item
  came = at_shelf key ∙ ap (λ b. cond b (Some item) (get old key)) ((eq_by_cmp_equiv key_order_total).refl key)

  stayed : (k : ShelfKey) (x : Item) → get old k ≡ Some x → get (insert old key item) k ≡ Some x
  stayed k x there = at_shelf k ∙ by_kind (eq_by_cmp key_order k key) refl
    where
      by_kind : (b : Bool) → eq_by_cmp key_order k key ≡ b → cond b (Some item) (get old k) ≡ Some x
      by_kind true tied = (let none : get old k ≡ None = ap (get old) (same_keys key_order-IsAntisymmetric k key tied) ∙ free in cc)
      by_kind false apart = there

  -- what is shown came or was shown
  came_or_shown : (k : ShelfKey) (x : Item) → get (insert old key item) k ≡ Some x → ((key ≡ k) × (item ≡ x)) ⊎ (get old k ≡ Some x)
  came_or_shown k x e = by_kind (eq_by_cmp key_order k key) refl (sym (at_shelf k) ∙ e)
    where
      by_kind : (b : Bool) → eq_by_cmp key_order k key ≡ b → cond b (Some item) (get old k) ≡ Some x → ((key ≡ k) × (item ≡ x)) ⊎ (get old k ≡ Some x)
      by_kind true tied f = inl (sym (same_keys key_order-IsAntisymmetric k key tied), same_Some item x f)
      by_kind false apart f = inr f

  -- the files before, and those of the item
  abbrev files_then : List (List ℕ × Print)
  files_then = files_of (values old) ++ map pair_of item.files

  files_after : (f : List ℕ × Print) → Contains (files_of (values (insert old key item))) f → Contains files_then f
  files_after f h =
      let x = item_of_file (values (insert old key item)) f h in
      let k = shown_value (insert old key item) x.0 x.1 in
      elim (came_or_shown k.0 x.0 k.1) [
        | inl came ↦ Contains-append_right (files_of (values old)) (map pair_of item.files) f (subst (λ (y : Item). Contains (map pair_of y.files) f) (sym came.1) x.2)
        | inr shown ↦ Contains-append_left (files_of (values old)) (map pair_of item.files) f (files_contain (values old) x.0 f (value_shown old k.0 x.0 shown) x.2)
      ]

  files_kept : (f : List ℕ × Print) → Contains files_then f → Contains (files_of (values (insert old key item))) f
  files_kept f h = elim (Contains-append_cases (files_of (values old)) (map pair_of item.files) f h) [
    | inl shown ↦
        let x = item_of_file (values old) f shown in
        let k = shown_value old x.0 x.1 in
        files_contain (values (insert old key item)) x.0 f (value_shown (insert old key item) k.0 x.0 (stayed k.0 x.0 k.1)) x.2
    | inr new ↦ files_contain (values (insert old key item)) item f (value_shown (insert old key item) key item came) new
  ]

  count_then : (p : List ℕ) → count_at p files_then ≡ count_at p (files_of (values (insert old key item)))
  count_then p =
      let before = count-items p (entries old) in
      let after = count-items p (entries (insert old key item)) in
      let one = weigh-insert key_order_total key_order-IsAntisymmetric (references_to p) old key item free in
      omega (arith, count_at-append p (files_of (values old)) (map pair_of item.files), before, after, one)

  module _ (sound : AreSound old) (home : IsAtHome (key, item)) (joins : MayJoin old ((key, item) ∷ [])) where
    agreed_then : AreAgreed files_then
    agreed_then = subst (λ fs. AreAgreed (files_of (values old) ++ fs)) (append-nil (map pair_of item.files)) joins.agreed

    -- the shelves are sound with the item on its own
    pub sound_put : AreSound (insert old key item)
    sound_put = record {
      at_home = all_from IsAtHome (entries (insert old key item)) (λ e h. elim (came_or_shown e.0 e.1 (shown_entry (insert old key item) e h)) [
        | inl came ↦ subst IsAtHome (λ i. (came.0 i, came.1 i)) home
        | inr shown ↦ All-contains IsAtHome (entries old) e sound.at_home (entry_shown old e.0 e.1 shown)
      ]);
      agreed = λ path a b p q. agreed_then path a b (files_after (path, a) p) (files_after (path, b) q);
    }

    -- once its files are counted, those of the shelves with the item are
    pub counted_put : (p : List ℕ) → fold (with_file p) (shared_at p (files_of (values old))) item.files ≡ shared_at p (files_of (values (insert old key item)))
    counted_put p =
        counted_files p (files_of (values old)) item.files
        ∙ shared_alike p files_then (files_of (values (insert old key item))) (count_then p) sound_put.agreed (λ x h. files_kept (p, x) h)
