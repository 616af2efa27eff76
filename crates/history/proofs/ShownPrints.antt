-- What the plain archive shows, by prints.
use Rattle.std.proofs.Common.{◌≡◌, Bool, true, false, cond, ◌||◌, List, [], ◌∷◌, ◌++◌, map, option_map, refl, sym, ap, ap₂, ◌∙◌, ℕ}
use Rattle.std.specs.FinMap.{entries, from_entries, get, values}
use Rattle.std.specs.List.{list_any}
use Rattle.std.proofs.lemmas.List.{map-append}
use Rattle.sums.specs.Prints.{print as print_of}
use Rattle.sums.proofs.Words.{list_any-map}
use Rattle.suites.specs.Held.{held_behind, held}
use Rattle.suites.specs.Items.{Admitted, item_with, item_of}
use Rattle.suites.specs.KeyLemmas.{key_order_total}
use Rattle.suites.specs.Keys.{key_order}
use Rattle.suites.specs.Shelves.{covers, beats, shown, shown_after, version_of}
use Rattle.suites.proofs.ShownLemmas.{shown_after-shown}
use Rattle.suites.specs.declared.item.Item.{Item}
use Rattle.suites.specs.declared.key.ShelfKey.{ShelfKey}
use Rattle.history.specs.Archives.{BodyItem, PlainArchive, printed, shown_by_print, shown_in, version_with}
use Rattle.history.proofs.ContentsMaps.{entries-map, get-map}

module _ {X Y : Type 0} (f : X → Y) (covers beats : Y → Y → Bool) where
  map-cond : (b : Bool) (x : X) (xs : List X) → cond b (map f xs) (f x ∷ map f xs) ≡ map f (cond b xs (x ∷ xs))
  map-cond true x xs = refl
  map-cond false x xs = refl

  abbrev covers_of : X → X → Bool
  covers_of x y = covers (f x) (f y)

  abbrev beats_of : X → X → Bool
  beats_of x y = beats (f x) (f y)

  held_behind-map : (earlier xs : List X) → held_behind covers beats (map f earlier) (map f xs) ≡ map f (held_behind covers_of beats_of earlier xs)
  held_behind-map earlier [] = refl
  held_behind-map earlier (x ∷ xs) =
      let rest : held_behind covers beats (map f earlier ++ f x ∷ []) (map f xs) ≡ map f (held_behind covers_of beats_of (earlier ++ x ∷ []) xs) =
      ap (λ es. held_behind covers beats es (map f xs)) (sym (map-append f earlier (x ∷ []))) ∙ held_behind-map (earlier ++ x ∷ []) xs in
      let test : (list_any (λ y. covers y (f x)) (map f earlier) || list_any (λ y. beats y (f x)) (map f xs)) ≡ (list_any (λ y. covers_of y x) earlier || list_any (λ y. beats_of y x) xs) =
      ap₂ (λ (a b : Bool). a || b) (list_any-map f (λ y. covers y (f x)) earlier) (list_any-map f (λ y. beats y (f x)) xs) in
      ap₂ (λ b l. cond b l (f x ∷ l)) test rest
      ∙ map-cond (list_any (λ y. covers_of y x) earlier || list_any (λ y. beats_of y x) xs) x (held_behind covers_of beats_of (earlier ++ x ∷ []) xs)

  -- what is held of images is the image of what is held
  pub held-map : (xs : List X) → held covers beats (map f xs) ≡ map f (held covers_of beats_of xs)
  held-map xs = held_behind-map [] xs

-- the item by the prints of its files
abbrev pub printed_item : BodyItem → Item
printed_item i = item_of (item_with print_of i)

held-printed : (xs : List (Admitted (List ℕ))) → held (covers version_of) (beats version_of) (map printed xs) ≡ map printed (held (covers version_with) (beats version_with) xs)
unfolding covers beats
held-printed xs = held-map printed (covers version_of) (beats version_of) xs

pub entries-printed : (xs : List (Admitted (List ℕ))) → entries (shown version_of (map printed xs)) ≡ map printed (entries (shown version_with xs))
unfolding shown
entries-printed xs =
    ap (λ es. entries (from_entries {R = key_order} es)) (held-printed xs)
    ∙ entries-map key_order printed_item key_order_total (held (covers version_with) (beats version_with) xs)

pub get-printed : (xs : List (Admitted (List ℕ))) (q : ShelfKey) → get (shown version_of (map printed xs)) q ≡ option_map printed_item (get (shown version_with xs) q)
unfolding shown
get-printed xs q =
    ap (λ es. get (from_entries {R = key_order} es) q) (held-printed xs)
    ∙ get-map key_order printed_item key_order_total (held (covers version_with) (beats version_with) xs) q

-- ---- what the archive shows

pub entries-shown_by_print : (a : PlainArchive) → entries (shown_by_print a) ≡ map printed (entries (shown_in a))
unfolding shown_by_print
entries-shown_by_print a = entries-printed a.admitted

pub get-shown_by_print : (a : PlainArchive) (q : ShelfKey) → get (shown_by_print a) q ≡ option_map printed_item (get (shown_in a) q)
unfolding shown_by_print
get-shown_by_print a q = get-printed a.admitted q

pub values-shown_by_print : (a : PlainArchive) → values (shown_by_print a) ≡ map printed_item (values (shown_in a))
values-shown_by_print a = ap (map (λ e. e.1)) (entries-shown_by_print a) ∙ second (entries (shown_in a))
  where
    second : (es : List (Admitted (List ℕ))) → map (λ e. e.1) (map printed es) ≡ map printed_item (map (λ e. e.1) es)
    second [] = refl
    second (e ∷ es) = ap (λ rest. printed_item e.1 ∷ rest) (second es)

-- more items are shown by prints as the shelves with their prints admitted
pub shown_by_print-append : (a : PlainArchive) (items : List (Admitted (List ℕ)))
    → shown_by_print (record a { admitted = a.admitted ++ items }) ≡ shown_after version_of (shown_by_print a) (map printed items)
unfolding shown_by_print
shown_by_print-append a items =
    ap (shown version_of) (map-append printed a.admitted items)
    ∙ sym (shown_after-shown version_of (map printed a.admitted) (map printed items))
