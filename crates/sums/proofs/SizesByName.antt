-- Sizes of files by their names.
use Rattle.std.proofs.Common.{◌≡◌, ℕ, ◌+◌, ◌<◌, ◌||◌, ◌&&◌, Bool, true, false, cond, not, List, [], ◌∷◌, ◌++◌, map, take, drop, get_or, length, Option, Some, None, refl, sym, ap, subst, ◌∙◌}
use Rattle.std.proofs.lemmas.List.{map-append, take-append-drop, take_more, drop_more}
use Rattle.std.proofs.lemmas.List.Folds.{list_any-append}
use Rattle.std.specs.List.{list_any}
use Rattle.std.specs.Str.{bytes_eq}
use Rattle.sums.specs.Lists.{NameAndSize, has_twice, same_file, lacks}
use Rattle.std.specs.BTreeMap.{BTreeMap, get_by}
use Rattle.std.specs.Cmp.Lexicographic.{slice_cmp}
use Rattle.std.specs.Option.{option_map, is_some}
use Rattle.std.specs.Ordering.{nat_cmp}
use Rattle.sums.specs.declared.sizes.FileList.{FileList}
use Rattle.sums.specs.declared.sizes.SizedName.{SizedName}
use denote.Ref.{Bor}
use Rattle.sums.specs.Views.{AreSizes, IsFileList, in_names, size_in, size_named, is_size_of}
use Rattle.sums.proofs.Files.{no_text}
use Rattle.sums.proofs.Agree.{same_bytes, bytes_same}
use Rattle.sums.proofs.Booleans.{neither, or_true}

bytes_sym : (a b : List ℕ) → bytes_eq a b ≡ bytes_eq b a
bytes_sym a b = by_cases (bytes_eq a b) (bytes_eq b a) refl refl
  where
    by_cases : (s t : Bool) → bytes_eq a b ≡ s → bytes_eq b a ≡ t → s ≡ t
    by_cases true true h k = refl
    by_cases true false h k = sym (bytes_same b a (sym (same_bytes a b h))) ∙ k
    by_cases false true h k = sym h ∙ bytes_same a b (sym (same_bytes b a k))
    by_cases false false h k = refl

-- a name that has no size stands nowhere
none_named : (xs : List NameAndSize) (name : List ℕ) → size_named xs name ≡ None → list_any (λ y. bytes_eq name y.name) xs ≡ false
none_named [] name h = refl
none_named (x ∷ xs) name h = by_case (bytes_eq name x.name) h (λ e. none_named xs name e)
  where
    by_case : (b : Bool) → cond b (Some x.size) (size_named xs name) ≡ None → (size_named xs name ≡ None → list_any (λ y. bytes_eq name y.name) xs ≡ false) → (b || list_any (λ y. bytes_eq name y.name) xs) ≡ false
    by_case true e more = cc
    by_case false e more = more e

any_same : (p q : NameAndSize → Bool) (xs : List NameAndSize) → ((x : NameAndSize) → p x ≡ q x) → list_any p xs ≡ list_any q xs
any_same p q [] h = refl
any_same p q (x ∷ xs) h = let e = h x in let more = any_same p q xs h in λ i. e i || more i

shuffled : (a b c d : Bool) → ((a || (b || false)) || (c || d)) ≡ ((a || c) || (b || d))
shuffled true b c d = refl
shuffled false true true d = refl
shuffled false true false d = refl
shuffled false false c d = refl

twice_push : (xs : List NameAndSize) (x : NameAndSize) → has_twice (xs ++ x ∷ []) ≡ (has_twice xs || list_any (λ y. bytes_eq y.name x.name) xs)
twice_push [] x = refl
twice_push (y ∷ ys) x =
    (λ i. list_any-append (λ z. bytes_eq y.name z.name) ys (x ∷ []) i || twice_push ys x i)
    ∙ shuffled (list_any (λ z. bytes_eq y.name z.name) ys) (bytes_eq y.name x.name) (has_twice ys) (list_any (λ z. bytes_eq z.name x.name) ys)

pub once_push : (xs : List NameAndSize) (x : NameAndSize) → has_twice xs ≡ false → size_named xs x.name ≡ None → has_twice (xs ++ x ∷ []) ≡ false
once_push xs x h none =
    let other : list_any (λ y. bytes_eq y.name x.name) xs ≡ false = any_same (λ y. bytes_eq y.name x.name) (λ y. bytes_eq x.name y.name) xs (λ y. bytes_sym y.name x.name) ∙ none_named xs x.name none in
    twice_push xs x ∙ rw (h, other) refl

-- if a name has a size, it stands twice once one more file has it
pub twice_found : (xs ys : List NameAndSize) (x : NameAndSize) (s : List ℕ) → size_named xs x.name ≡ Some s → has_twice (xs ++ x ∷ ys) ≡ true
twice_found [] ys x s h = cc
twice_found (y ∷ zs) ys x s h = by_case (bytes_eq x.name y.name) refl h (λ e. twice_found zs ys x s e)
  where
    by_case : (b : Bool) → bytes_eq x.name y.name ≡ b → cond b (Some y.size) (size_named zs x.name) ≡ Some s → (size_named zs x.name ≡ Some s → has_twice (zs ++ x ∷ ys) ≡ true)
        → (list_any (λ z. bytes_eq y.name z.name) (zs ++ x ∷ ys) || has_twice (zs ++ x ∷ ys)) ≡ true
    by_case true t e more =
        let here : bytes_eq y.name x.name ≡ true = bytes_sym y.name x.name ∙ t in
        let any : list_any (λ z. bytes_eq y.name z.name) (zs ++ x ∷ ys) ≡ true = list_any-append (λ z. bytes_eq y.name z.name) zs (x ∷ ys) ∙ rw here (or_true (list_any (λ z. bytes_eq y.name z.name) zs)) in
        rw any refl
    by_case false t e more = ap (λ b. list_any (λ z. bytes_eq y.name z.name) (zs ++ x ∷ ys) || b) (more e) ∙ or_true (list_any (λ z. bytes_eq y.name z.name) (zs ++ x ∷ ys))

-- the sizes with one more file
pub named_push : (xs : List NameAndSize) (x : NameAndSize) (name : List ℕ) → size_named xs x.name ≡ None → size_named (xs ++ x ∷ []) name ≡ cond (bytes_eq x.name name) (Some x.size) (size_named xs name)
named_push [] x name h = ap (λ b. cond b (Some x.size) None) (bytes_sym name x.name)
named_push (y ∷ ys) x name h = by_case (bytes_eq x.name y.name) (bytes_eq name y.name) refl refl h (λ e. named_push ys x name e)
  where
    apart : (b : Bool) → bytes_eq x.name name ≡ b → bytes_eq x.name y.name ≡ false → bytes_eq name y.name ≡ true → Some y.size ≡ cond b (Some x.size) (Some y.size)
    apart true e f t = cc (sym f ∙ bytes_same x.name y.name (same_bytes x.name name e ∙ same_bytes name y.name t))
    apart false e f t = refl

    by_case : (a b : Bool) → bytes_eq x.name y.name ≡ a → bytes_eq name y.name ≡ b → cond a (Some y.size) (size_named ys x.name) ≡ None
        → (size_named ys x.name ≡ None → size_named (ys ++ x ∷ []) name ≡ cond (bytes_eq x.name name) (Some x.size) (size_named ys name))
        → cond b (Some y.size) (size_named (ys ++ x ∷ []) name) ≡ cond (bytes_eq x.name name) (Some x.size) (cond b (Some y.size) (size_named ys name))
    by_case true b s t e more = cc
    by_case false true s t e more = apart (bytes_eq x.name name) refl s t
    by_case false false s t e more = more e

-- a place further
pub front_more : {X Y : Type 0} (f : X → Y) (xs : List X) (i : ℕ) (d : X) → i < length xs → map f (take (i + 1) xs) ≡ map f (take i xs) ++ f (get_or xs i d) ∷ []
front_more f xs i d h = ap (map f) (take_more xs i d h) ∙ map-append f (take i xs) (get_or xs i d ∷ [])

-- ---- a map of sizes, one file further

-- what a slice of files is read with
abbrev pub no_file : SizedName
no_file = record { name = no_text; size = no_text }

files_split : (files : List SizedName) (i : ℕ) → i < length files → map in_names files ≡ map in_names (take i files) ++ in_names (get_or files i no_file) ∷ map in_names (drop (i + 1) files)
files_split files i h =
    ap (map in_names) (sym (take-append-drop i files)) ∙ (map-append in_names (take i files) (drop i files) ∙ ap (λ zs. map in_names (take i files) ++ map in_names zs) (drop_more files i no_file h))

pub twice_at : (files : List SizedName) (i : ℕ) (sizes : BTreeMap (Bor (List ℕ)) (Bor (List ℕ))) (old : Option (Bor (List ℕ))) → AreSizes sizes (map in_names (take i files)) → i < length files
    → old ≡ get_by (λ k. slice_cmp nat_cmp (get_or files i no_file).name.now k.now) sizes → is_some old ≡ true → has_twice (map in_names files) ≡ true
twice_at files i sizes None a h e t = cc
twice_at files i sizes (Some s) a h e t =
    let found = sym (a.each (get_or files i no_file).name.now) ∙ ap (option_map (λ size. size.now)) (sym e) in
    ap has_twice (files_split files i h) ∙ twice_found (map in_names (take i files)) (map in_names (drop (i + 1) files)) (in_names (get_or files i no_file)) s.now found

now_cond : (b : Bool) (x : Bor (List ℕ)) (o : Option (Bor (List ℕ))) → option_map (λ size. size.now) (cond b (Some x) o) ≡ cond b (Some x.now) (option_map (λ size. size.now) o)
now_cond true x o = refl
now_cond false x o = refl

pub sizes_more : (files : List SizedName) (i : ℕ) (sizes new : BTreeMap (Bor (List ℕ)) (Bor (List ℕ))) (old : Option (Bor (List ℕ))) → AreSizes sizes (map in_names (take i files)) → i < length files
    → old ≡ get_by (λ k. slice_cmp nat_cmp (get_or files i no_file).name.now k.now) sizes → is_some old ≡ false
    → ((name : List ℕ) → get_by (λ k. slice_cmp nat_cmp name k.now) new ≡ cond (bytes_eq (get_or files i no_file).name.now name) (Some (get_or files i no_file).size) (get_by (λ k. slice_cmp nat_cmp name k.now) sizes))
    → AreSizes new (map in_names (take (i + 1) files))
sizes_more files i sizes new (Some s) a h e t u = cc
sizes_more files i sizes new None a h e t u =
    let x = get_or files i no_file in
    let front = map in_names (take i files) in
    let none : size_named front x.name.now ≡ None = sym (a.each x.name.now) ∙ ap (option_map (λ size. size.now)) (sym e) in
    let more = front_more in_names files i no_file h in
    subst (λ zs. AreSizes new zs) (sym more) (record {
      once = once_push front (in_names x) a.once none;
      each = λ name. ap (option_map (λ size. size.now)) (u name) ∙ (now_cond (bytes_eq x.name.now name) x.size (get_by (λ k. slice_cmp nat_cmp name k.now) sizes)
          ∙ (ap (λ o. cond (bytes_eq x.name.now name) (Some x.size.now) o) (a.each name) ∙ sym (named_push front (in_names x) name none)));
    })

-- ---- lists that disagree

-- a file stands in a list if and only if its name has its size there
size_found : (x : NameAndSize) (ys : List NameAndSize) → has_twice ys ≡ false → is_size_of x (size_named ys x.name) ≡ list_any (same_file x) ys
size_found x [] h = refl
size_found x (y ∷ ys) h =
    let p = neither (list_any (λ z. bytes_eq y.name z.name) ys) (has_twice ys) h in
    by_case (bytes_eq x.name y.name) refl p.0 (size_found x ys p.1)
  where
    none_here : bytes_eq x.name y.name ≡ true → (zs : List NameAndSize) → list_any (λ z. bytes_eq y.name z.name) zs ≡ false → list_any (same_file x) zs ≡ false
    none_here t [] e = refl
    none_here t (z ∷ zs) e =
        let p = neither (bytes_eq y.name z.name) (list_any (λ w. bytes_eq y.name w.name) zs) e in
        let other : bytes_eq x.name z.name ≡ false = ap (λ n. bytes_eq n z.name) (same_bytes x.name y.name t) ∙ p.0 in
        rw other (none_here t zs p.1)

    or_false : (b : Bool) → b ≡ (b || false)
    or_false true = refl
    or_false false = refl

    by_case : (b : Bool) → bytes_eq x.name y.name ≡ b → list_any (λ z. bytes_eq y.name z.name) ys ≡ false → is_size_of x (size_named ys x.name) ≡ list_any (same_file x) ys
        → is_size_of x (cond b (Some y.size) (size_named ys x.name)) ≡ ((b && bytes_eq x.size y.size) || list_any (same_file x) ys)
    by_case true t e more = or_false (bytes_eq x.size y.size) ∙ ap (λ b. bytes_eq x.size y.size || b) (sym (none_here t ys e))
    by_case false t e more = more

lacks_same : (xs ys : List NameAndSize) (at : List ℕ → Option (List ℕ)) → has_twice ys ≡ false → ((name : List ℕ) → at name ≡ size_named ys name) → list_any (λ x. not (is_size_of x (at x.name))) xs ≡ lacks xs ys
lacks_same xs ys at h e = any_same (λ x. not (is_size_of x (at x.name))) (λ x. not (list_any (same_file x) ys)) xs (λ x. ap not (ap (is_size_of x) (e x.name) ∙ size_found x ys h))

-- what `disagree` looks up
pub lacks_is : (left right : FileList) (xs ys : List NameAndSize) → IsFileList left xs → IsFileList right ys
    → list_any (λ x. not (is_size_of x (size_in right.sizes x.name))) (map in_names left.files.items) ≡ lacks xs ys
lacks_is left right xs ys h k =
    ap (λ zs. list_any (λ x. not (is_size_of x (size_in right.sizes x.name))) zs) h.files_are ∙ lacks_same xs ys (λ name. size_in right.sizes name) k.sizes_are.once k.sizes_are.each
