-- Arrivals that may be kept.
use Rattle.std.proofs.Common.{◌≤◌, ℕ, ◌<◌, Bool, List, map, All, IsTrue, sym, subst}
use Rattle.std.specs.Prelude.{◌↔◌}
use Rattle.std.proofs.lemmas.List.{get_or-map, length-map}
use Rattle.std.proofs.lemmas.List.Elements.{All-map}
use Rattle.book.specs.Book.{latest}
use Rattle.book.specs.Keeping.{IsDeliverable}
use Rattle.tables.specs.Rows.{Tables, rows_of}
use Rattle.tables.specs.declared.rows.ArrivalRow.{ArrivalRow}
use Rattle.tables_meaning.specs.Kept.{arrival_in, arrivals_in}
use Rattle.tables_audit.specs.Arrivals.{IsArrivalFit}
use Rattle.tables_audit.specs.Parts.{ArrivalsFit}

all_unmapped : {X Y : Type 0} (P : Y → Type 0) (f : X → Y) (xs : List X) → All P (map f xs) → All (λ x. P (f x)) xs
all_unmapped P f xs all k d within = subst P (get_or-map f xs k d (f d) within) (all k (f d) (subst (λ n. k < n) (sym (length-map xs f)) within))

-- the row is that of an arrival that may be kept
abbrev pub MayBeKept : Tables → ℕ × ArrivalRow → Type 0
MayBeKept t x = IsArrivalFit t x.1

pub arrivals_fit : (t : Tables) (may : Bool) → (IsTrue may ↔ All (MayBeKept t) t.arrivals) → (IsTrue may ↔ ArrivalsFit t)
unfolding arrivals_in
arrivals_fit t may h = (
  λ e. All-map (λ a. IsDeliverable a.name a.body × (a.moment ≤ latest)) (arrival_in t) (rows_of t.arrivals)
      (All-map (IsArrivalFit t) (λ x. x.1) t.arrivals (h.0 e)),
  λ fit. h.1 (all_unmapped (IsArrivalFit t) (λ x. x.1) t.arrivals
      (all_unmapped (λ a. IsDeliverable a.name a.body × (a.moment ≤ latest)) (arrival_in t) (rows_of t.arrivals) fit)),
)
