-- What arrived under a name, found in groups.
use Rattle.std.proofs.Common.{◌≡◌, ℕ, Bool, true, false, ◌&&◌, not, cond, List, [], ◌∷◌, ◌++◌, map, filter, find, Some, bytes_eq, refl, sym, ap, ◌∙◌, String, Global}
use Rattle.std.specs.BTreeMap.{BTreeMap}
use Rattle.std.specs.Option.{option_map}
use Rattle.std.specs.declared.vec.Vec.{Vec}
use Rattle.std.proofs.lemmas.List.{map-append}
use Rattle.std.proofs.lemmas.List.Elements.{filter-append}
use Rattle.sums.specs.Prints.{same_print}
use Rattle.sums.specs.declared.print.Print.{Print}
use Rattle.book.specs.Book.{counts_since}
use Rattle.book.specs.declared.arrival.Counting.{Counting}
use Rattle.book.specs.declared.arrived.ArrivedFile.{ArrivedFile}
use Rattle.book.specs.declared.change.Lack.{Lack}
use Rattle.inquiry.specs.Instead.{came_for, came_in, came_of, is_another, is_other, print_of}
use Rattle.inquiry.specs.Named.{IsByName, delivered, deliveries_of, has_print, is_named, moment_in}
use Rattle.inquiry.specs.declared.named.Delivered.{Delivered}

-- one more file that arrived
pub deliveries-push : (q : List ℕ) (done : List ArrivedFile) (f : ArrivedFile)
    → deliveries_of q done ++ cond (bytes_eq f.name q) (delivered f ∷ []) [] ≡ deliveries_of q (done ++ f ∷ [])
deliveries-push q done f =
    last (bytes_eq f.name q)
    ∙ sym (ap (map delivered) (filter-append (is_named q) done (f ∷ [])) ∙ map-append delivered (filter (is_named q) done) (filter (is_named q) (f ∷ [])))
  where
    last : (b : Bool) → deliveries_of q done ++ cond b (delivered f ∷ []) [] ≡ deliveries_of q done ++ map delivered (cond b (f ∷ []) [])
    last true = refl
    last false = refl

-- ---- what is found in a group is what is found among all

module _ (counting : Counting) (l : Lack) where
  -- one more file, of which it is known whether it has the name, given what is so of the others
  module _ (f : ArrivedFile) (fs : List ArrivedFile) (found : List Delivered) (others : List ArrivedFile) (same : map (λ (d : Delivered). d.print) found ≡ map print_of others) where
    of_name : (b : Bool) → map (λ (d : Delivered). d.print) (cond b (delivered f ∷ found) found) ≡ map print_of (cond b (f ∷ others) others)
    of_name true = ap (λ (ps : List Print). f.print ∷ ps) same
    of_name false = same

    of_another : (b : Bool) → map (λ (d : Delivered). d.print) found ≡ map print_of (cond (b && false) (f ∷ others) others)
    of_another true = same
    of_another false = same

  by_name : (f : ArrivedFile) (fs : List ArrivedFile) → came_of counting (deliveries_of l.name fs) l ≡ came_for counting fs l → (n : Bool)
      → map (λ (d : Delivered). d.print) (filter (is_another counting l) (map delivered (cond n (f ∷ filter (is_named l.name) fs) (filter (is_named l.name) fs))))
      ≡ map print_of (cond (counts_since counting.span counting.moment f.moment && (n && not (n && same_print f.print l.print))) (f ∷ filter (is_other counting l) fs) (filter (is_other counting l) fs))
  by_name f fs same true =
      of_name f fs (filter (is_another counting l) (deliveries_of l.name fs)) (filter (is_other counting l) fs) same
      (counts_since counting.span counting.moment f.moment && not (same_print f.print l.print))
  by_name f fs same false =
      of_another f fs (filter (is_another counting l) (deliveries_of l.name fs)) (filter (is_other counting l) fs) same (counts_since counting.span counting.moment f.moment)

  came_same : (arrived : List ArrivedFile) → came_of counting (deliveries_of l.name arrived) l ≡ came_for counting arrived l
  came_same [] = refl
  came_same (f ∷ fs) = by_name f fs (came_same fs) (bytes_eq f.name l.name)

-- what came in place of lacking files is found in groups
pub came_in_groups : (counting : Counting) (arrived : List ArrivedFile) (named : BTreeMap (String Global) (Vec Delivered Global)) → IsByName arrived named
    → (lacks : List Lack) → map (came_in counting named) lacks ≡ map (came_for counting arrived) lacks
came_in_groups counting arrived named is [] = refl
came_in_groups counting arrived named is (l ∷ lacks) =
    ap (λ (ps : List Print). ps ∷ map (came_in counting named) lacks) (ap (λ (ds : List Delivered). came_of counting ds l) (is l.name) ∙ came_same counting l arrived)
    ∙ ap (λ (all : List (List Print)). came_for counting arrived l ∷ all) (came_in_groups counting arrived named is lacks)

-- the first of a print under a name
module _ (name : List ℕ) (print : Print) where
  abbrev is_file : ArrivedFile → Bool
  is_file f = bytes_eq f.name name && same_print f.print print

  first_named : (f : ArrivedFile) (fs : List ArrivedFile)
      → option_map (λ (d : Delivered). d.moment) (find (has_print print) (deliveries_of name fs)) ≡ option_map (λ (g : ArrivedFile). g.moment) (find is_file fs)
      → (b : Bool) → option_map (λ (d : Delivered). d.moment) (cond b (Some (delivered f)) (find (has_print print) (deliveries_of name fs)))
      ≡ option_map (λ (g : ArrivedFile). g.moment) (cond b (Some f) (find is_file fs))
  first_named f fs same true = refl
  first_named f fs same false = same

  first_by : (f : ArrivedFile) (fs : List ArrivedFile)
      → option_map (λ (d : Delivered). d.moment) (find (has_print print) (deliveries_of name fs)) ≡ option_map (λ (g : ArrivedFile). g.moment) (find is_file fs)
      → (n : Bool) → option_map (λ (d : Delivered). d.moment) (find (has_print print) (map delivered (cond n (f ∷ filter (is_named name) fs) (filter (is_named name) fs))))
      ≡ option_map (λ (g : ArrivedFile). g.moment) (cond (n && same_print f.print print) (Some f) (find is_file fs))
  first_by f fs same true = first_named f fs same (same_print f.print print)
  first_by f fs same false = same

  pub first_same : (arrived : List ArrivedFile)
      → moment_in print (deliveries_of name arrived) ≡ option_map (λ (f : ArrivedFile). f.moment) (find (λ (f : ArrivedFile). bytes_eq f.name name && same_print f.print print) arrived)
  first_same [] = refl
  first_same (f ∷ fs) = first_by f fs (first_same fs) (bytes_eq f.name name)
