-- Rows that are read one after another.
use Rattle.std.proofs.Common.{◌≡◌, ◌<◌, ◌^◌, ℕ, List, [], ◌∷◌, ◌++◌, sym, subst}
use Rattle.std.specs.List.{AllByRecursion, AllZip}
use Rattle.sqlite.specs.Order.{Row}
use Rattle.tables.specs.Rows.{Numbered}
use Rattle.tables_read.specs.Layout.{Layout, AreRead, IsNotRead, ids}
use Rattle.tables_read.specs.Reading.{Spells}

module _ {A B : Type 0} (R : A → B → Type 0) where
  zip_push : (xs : List A) (ys : List B) (x : A) (y : B) → AllZip R xs ys → R x y → AllZip R (xs ++ x ∷ []) (ys ++ y ∷ [])
  zip_push [] [] x y h k = (k, tt)
  zip_push [] (b ∷ ys) x y h k = absurd h
  zip_push (a ∷ xs) [] x y h k = absurd h
  zip_push (a ∷ xs) (b ∷ ys) x y h k = (h.0, zip_push xs ys x y h.1 k)

module _ {X : Type 0} (l : Layout X) where
  ids_push : (P : ℕ → Type 0) (all : Numbered X) (x : ℕ × X) → AllByRecursion P (ids all) → P x.0 → AllByRecursion P (ids (all ++ x ∷ []))
  ids_push P [] x h k = (k, tt)
  ids_push P (y ∷ all) x h k = (h.0, ids_push P all x h.1 k)

  -- one more row
  pub read_more : (rows : List Row) (row : Row) (all : Numbered X) (x : ℕ × X) {now : Numbered X} → x.0 < 2 ^ 64 → Spells l.seen row x → now ≡ all ++ x ∷ [] → AreRead l rows all
      → AreRead l (rows ++ row ∷ []) now
  read_more rows row all x {now} small spells pushed so_far =
      subst (AreRead l (rows ++ row ∷ [])) (sym pushed) (record {
        spelled = zip_push (Spells l.seen) rows all row x so_far.spelled spells;
        small = ids_push (λ n. n < 2 ^ 64) all x so_far.small small;
      })

  -- an answer with a row that is not of an archive is not read
  pub not_read_among : (real : X → Type 0) (front : List Row) (row : Row) (tail : List Row) → ((x : ℕ × X) → real x.1 → ¬ Spells l.seen row x) → IsNotRead l real (front ++ row ∷ tail)
  not_read_among real [] row tail none [] all zip = zip
  not_read_among real [] row tail none (x ∷ xs) all zip = none x all.0 zip.0
  not_read_among real (r ∷ front) row tail none [] all zip = zip
  not_read_among real (r ∷ front) row tail none (x ∷ xs) all zip = not_read_among real front row tail none xs all.1 zip.1
