-- What the rows of files are once a file has left the pool, and once one stands in it.
use Rattle.std.proofs.Common.{◌≡◌, ◌≢◌, ℕ, Bool, true, false, not, ◌||◌, cond, List, [], ◌∷◌, ◌++◌, find, refl, sym, ap, subst, ◌∙◌, Option, Some, None, option_map, nat_eq}
use Rattle.std.specs.List.{AllByRecursion, list_any}
use Rattle.std.specs.Option.{option_and_then, option_map_or, option_or}
use Rattle.std.specs.Ordering.{eq_by_cmp}
use Rattle.std.specs.FinMap.{get, insert, remove, get-insert, get-remove}
use Rattle.std.proofs.lemmas.Bool.{both_ways, false_from_ne_true}
use Rattle.std.proofs.lemmas.List.Folds.{find-append}
use Rattle.sqlite_trees.specs.Tree.{IsAscending}
use Rattle.sqlite_keyed.specs.Lists.{delete_where}
use Rattle.sqlite_keyed.proofs.ListLemmas.{all_weaker, all_of, all-filter, all-append, ascending-filter, ascending-append}
use Rattle.sums.specs.Prints.{same_print}
use Rattle.sums.specs.declared.print.Print.{Print}
use Rattle.sums.proofs.Agree.{same_bytes, bytes_same}
use Rattle.suites.specs.Keys.{text_order}
use Rattle.suites.specs.KeyLemmas.{text_order_total}
use Rattle.suites.specs.Pool.{PoolWith}
use Rattle.suites.proofs.Prints.{same_print-equal}
use Rattle.suites.proofs.PoolLookups.{path_same, same_path}
use Rattle.suites.proofs.ListTests.{option_or_none}
use Rattle.tables.specs.Bodies.{body_with, has_print}
use Rattle.tables.specs.Files.{is_file_at}
use Rattle.tables.specs.Rows.{Numbered, Rises}
use Rattle.tables.specs.declared.rows.BodyRow.{BodyRow}
use Rattle.tables.specs.declared.rows.File.{File}
use Rattle.book.proofs.Finds.{found_passes}
use Rattle.tables_meaning.proofs.RowLists.{found_holds, none_passes, any_found, find_kept, find_gone, found_by_number}
use Rattle.tables_meaning.specs.Kept.{print_in}

-- ---- bodies and their prints

-- there is a body of this number
abbrev pub is_body : Numbered BodyRow → ℕ → Bool
is_body bodies id = list_any (λ x. nat_eq x.0 id) bodies

has_print_is : (p : Print) (o : Option Print) → option_map_or (λ q. same_print q p) o false ≡ true → o ≡ Some p
has_print_is p None h = cc
has_print_is p (Some q) h = ap (λ r. Some r) (same_print-equal q p h)

-- the body that is found by a print is there, and has the print
pub record IsBodyOf (bodies : Numbered BodyRow) (print : Print) (id : ℕ) : Type 0 where
  pub print_is : print_in bodies id ≡ Some print
  pub is_there : is_body bodies id ≡ true

pub found_body : (bodies : Numbered BodyRow) (print : Print) (id : ℕ) → Rises bodies → body_with print bodies ≡ Some id → IsBodyOf bodies print id
found_body bodies print id up e = go (find (λ x. has_print print x.1) bodies) refl e
  where
    at : (x : ℕ × BodyRow) → find (λ y. has_print print y.1) bodies ≡ Some x → IsBodyOf bodies print x.0
    at x f =
        let again : find (λ y. nat_eq y.0 x.0) bodies ≡ Some x = found_by_number (λ (y : ℕ × BodyRow). has_print print y.1) bodies x up f in
        record {
          print_is = ap (option_and_then (λ (y : ℕ × BodyRow). y.1.print)) again ∙ has_print_is print x.1.print (found_passes (λ (y : ℕ × BodyRow). has_print print y.1) bodies x f);
          is_there = any_found (λ (y : ℕ × BodyRow). nat_eq y.0 x.0) bodies x again;
        }

    go : (o : Option (ℕ × BodyRow)) → find (λ x. has_print print x.1) bodies ≡ o → option_map (λ x. x.0) o ≡ Some id → IsBodyOf bodies print id
    go None f h = cc
    go (Some x) f h = subst (IsBodyOf bodies print) (let same : x.0 ≡ id = cc in same) (at x f)

-- a body that is there has a print
print_there : (bodies : Numbered BodyRow) (id : ℕ) → AllByRecursion (λ x. x.1.print ≢ None) bodies → is_body bodies id ≡ true → print_in bodies id ≢ None
print_there [] id all some none = cc
print_there (x ∷ xs) id all some none = go (nat_eq x.0 id) some none (print_there xs id all.1)
  where
    go : (b : Bool) → (b || is_body xs id) ≡ true → option_and_then (λ (y : ℕ × BodyRow). y.1.print) (cond b (Some x) (find (λ y. nat_eq y.0 id) xs)) ≡ None
        → (is_body xs id ≡ true → print_in xs id ≢ None) → ⊥
    go true s n more = all.0 n
    go false s n more = more s n

-- ---- files

-- The rows of files are those of the pool, each with a body of its print.
pub record Pooled (bodies : Numbered BodyRow) (files : List File) (held : PoolWith Print) : Type 0 where
  pub are : (path : List ℕ) → option_and_then (λ f. print_in bodies f.body) (find (is_file_at path) files) ≡ get held path
  pub bodies_there : AllByRecursion (λ f. is_body bodies f.body ≡ true) files
  pub apart : IsAscending (λ f g. f.path ≢ g.path) files

module _ (bodies : Numbered BodyRow) (files : List File) (held : PoolWith Print) (was : Pooled bodies files held) where
  pub take_file : (path : List ℕ) → Pooled bodies (delete_where (is_file_at path) files) (remove held path)
  take_file path = record {
    are = λ q. at q (eq_by_cmp text_order q path) refl ∙ sym (get-remove text_order_total held path q);
    bodies_there = all-filter (λ (f : File). is_body bodies f.body ≡ true) (λ f. not (is_file_at path f)) files was.bodies_there;
    apart = ascending-filter (λ (f g : File). f.path ≢ g.path) (λ f. not (is_file_at path f)) files was.apart;
  }
    where
      shown : Option File → Option Print
      shown = option_and_then (λ f. print_in bodies f.body)

      at : (q : List ℕ) (b : Bool) → eq_by_cmp text_order q path ≡ b → shown (find (is_file_at q) (delete_where (is_file_at path) files)) ≡ cond b None (get held q)
      at q true tied =
          ap shown (find_gone (is_file_at q) (is_file_at path) files (all_of (λ f. is_file_at q f ≡ true → is_file_at path f ≡ true)
          (λ f here. bytes_same f.path path (same_bytes f.path q here ∙ same_path q path tied)) files))
      at q false apart =
          ap shown (find_kept (is_file_at q) (is_file_at path) files (all_of (λ f. is_file_at path f ≡ true → is_file_at q f ≡ false)
          (λ f there. false_from_ne_true (is_file_at q f) (λ here. both_ways (eq_by_cmp text_order q path) apart (path_same q path (sym (same_bytes f.path q here) ∙ same_bytes f.path path there)))) files))
          ∙ was.are q

  module _ (printed : AllByRecursion (λ x. x.1.print ≢ None) bodies) where
    pub add_file : (f : File) (print : Print) → IsBodyOf bodies print f.body → get held f.path ≡ None → Pooled bodies (files ++ f ∷ []) (insert held f.path print)
    add_file f print body free = record {
      are = λ q. ap shown (find-append (is_file_at q) files (f ∷ [])) ∙ at q (eq_by_cmp text_order q f.path) refl ∙ sym (get-insert text_order_total held f.path print q);
      bodies_there = all-append (λ (g : File). is_body bodies g.body ≡ true) files (f ∷ []) was.bodies_there (body.is_there, tt);
      apart = ascending-append (λ (g h : File). g.path ≢ h.path) files (f ∷ []) was.apart (tt, tt)
          (all_weaker (λ g. is_file_at f.path g ≡ false) (λ g. AllByRecursion (λ h. g.path ≢ h.path) (f ∷ []))
          (λ g off. (λ same. both_ways (is_file_at f.path g) off (bytes_same g.path f.path same), tt)) files (none_passes (is_file_at f.path) files vacant));
    }
      where
        shown : Option File → Option Print
        shown = option_and_then (λ g. print_in bodies g.body)

        nothing : (o : Option File) → find (is_file_at f.path) files ≡ o → shown o ≡ None → o ≡ None
        nothing None e h = refl
        nothing (Some g) e h = absurd (print_there bodies g.body printed (found_holds (is_file_at f.path) (λ h. is_body bodies h.body ≡ true) files g was.bodies_there e) h)

        vacant : find (is_file_at f.path) files ≡ None
        vacant = nothing (find (is_file_at f.path) files) refl (was.are f.path ∙ free)

        at : (q : List ℕ) (b : Bool) → eq_by_cmp text_order q f.path ≡ b
            → shown (option_or (find (is_file_at q) files) (cond (is_file_at q f) (Some f) None)) ≡ cond b (Some print) (get held q)
        at q true tied =
            ap (λ p. shown (option_or (find (is_file_at p) files) (cond (is_file_at p f) (Some f) None))) (same_path q f.path tied)
            ∙ ap (λ o. shown (option_or o (cond (is_file_at f.path f) (Some f) None))) vacant
            ∙ ap (λ b. shown (cond b (Some f) None)) (bytes_same f.path f.path refl)
            ∙ body.print_is
        at q false apart =
            ap (λ b. shown (option_or (find (is_file_at q) files) (cond b (Some f) None)))
            (false_from_ne_true (is_file_at q f) (λ here. both_ways (eq_by_cmp text_order q f.path) apart (path_same q f.path (sym (same_bytes f.path q here)))))
            ∙ ap shown (option_or_none (find (is_file_at q) files)) ∙ was.are q
