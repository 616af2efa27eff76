-- When the rows of uploads fit, as what is tested of them says.
use Rattle.std.proofs.Common.{◌≡◌, ◌&&◌, not, ℕ, Bool, true, false, nat_eq, Option, Some, None, IfSome, IsTrue, List, map, All, Contains, sym, ap₂, subst, ◌∙◌, MatchBool}
use Rattle.std.specs.List.{filter_map, list_any, range_with_len}
use Rattle.std.proofs.lemmas.List.Elements.{All-weaker}
use Rattle.book.specs.declared.change.Judgement.{Judgement}
use Rattle.sums.specs.declared.print.Print.{Print}
use Rattle.tables.specs.Rows.{Numbered, Tables, rows_of}
use Rattle.tables.specs.declared.rows.ArrivalRow.{ArrivalRow}
use Rattle.tables.specs.declared.rows.BodyRow.{BodyRow}
use Rattle.tables.specs.declared.rows.UploadRow.{UploadRow}
use Rattle.tables.specs.declared.rows.Want.{Want}
use Rattle.tables.specs.Uploads.{is_judged as has_place}
use Rattle.tables_read.specs.All.{AreConstrained}
use Rattle.tables_audit.specs.Parts.{BodiesFit, UploadsFit}
use Rattle.tables_audit.specs.Uploads.{AreAsked, AreBesides, IsPlacedWell, awaited_view, found_awaited, judged_at, last_of, print_among, printed, with_print, with_print_in}
use Rattle.tables_audit.specs.declared.uploads.arrived.Arrived.{Arrived}
use Rattle.tables_audit.specs.declared.uploads.awaited.Awaited.{Awaited}
use Rattle.tables_audit.proofs.UploadsJudged.{is_judged_list, none_misses, places_fit}
use Rattle.tables_audit.proofs.UploadsWaiting.{printed_are, waiting_from, waiting_to}

-- ---- the rows as they are lent

pub asked_at : (r : Bool) (u : Numbered UploadRow) (w : Numbered Want) (a b : List Arrived) (p q : List Awaited) → a ≡ b → p ≡ q
    → MatchBool r (AreAsked u w a p) (AreAsked u w a p → ⊥) → MatchBool r (AreAsked u w b q) (AreAsked u w b q → ⊥)
asked_at r u w a b p q g h m =
    subst (λ (z : List Awaited). MatchBool r (AreAsked u w b z) (AreAsked u w b z → ⊥)) h
    (subst (λ (z : List Arrived). MatchBool r (AreAsked u w z p) (AreAsked u w z p → ⊥)) g m)

-- each entry is that of an upload without a place
abbrev pub AllOwned : Numbered UploadRow → Numbered Want → Type 0
AllOwned uploads wants = All (λ w. IsTrue (list_any (λ x. nat_eq x.0 w.upload && not (has_place x.1)) uploads)) (rows_of wants)

pub owned_at : (r : Bool) (u v : Numbered UploadRow) (w x : Numbered Want) → u ≡ v → w ≡ x
    → MatchBool r (AllOwned u w) (AllOwned u w → ⊥) → MatchBool r (AllOwned v x) (AllOwned v x → ⊥)
owned_at r u v w x e f m =
    subst (λ (z : Numbered Want). MatchBool r (AllOwned v z) (AllOwned v z → ⊥)) f
    (subst (λ (z : Numbered UploadRow). MatchBool r (AllOwned z w) (AllOwned z w → ⊥)) e m)

pub prints_at : (a b : Numbered ArrivalRow) (p q : Numbered BodyRow) (arrived : List Arrived) → a ≡ b → p ≡ q
    → map with_print arrived ≡ map (with_print_in p) (rows_of a) → map with_print arrived ≡ map (with_print_in q) (rows_of b)
prints_at a b p q arrived e f h = h ∙ ap₂ (λ (y : Numbered BodyRow) (x : Numbered ArrivalRow). map (with_print_in y) (rows_of x)) f e

pub unprinted_at : (a b : Numbered ArrivalRow) (p q : Numbered BodyRow) → a ≡ b → p ≡ q
    → Contains (map (λ x. print_among p x.body) (rows_of a)) None → Contains (map (λ x. print_among q x.body) (rows_of b)) None
unprinted_at a b p q e f h =
    subst (λ (l : List (Option Print)). Contains l None)
    (ap₂ (λ (y : Numbered BodyRow) (x : Numbered ArrivalRow). map (λ z. print_among y z.body) (rows_of x)) f e) h

pub some_of : {X : Type 0} (P : X → Type 0) (o : Option X) (x : X) → o ≡ Some x → IfSome o P → P x
some_of P o x e h = subst (λ z. IfSome z P) e h

-- ---- what is beside the judged ones

module _ (t : Tables) (judged : List Judgement) (arrived : List Arrived) (awaited : List Awaited) (keys : AreConstrained t) (fit : BodiesFit t)
    (prints : map with_print arrived ≡ map (with_print_in t.bodies) (rows_of t.arrivals))
    (found : map awaited_view awaited ≡ filter_map (found_awaited t.pieces judged) (map printed arrived)) where
  pub besides_owned : (r : Bool) → AreAsked t.uploads t.wants arrived awaited
      → MatchBool r (AllOwned t.uploads t.wants) (AllOwned t.uploads t.wants → ⊥) → MatchBool r (AreBesides t judged) (AreBesides t judged → ⊥)
  besides_owned true rows owned = record { waiting = waiting_from t judged arrived awaited (printed_are t arrived keys fit prints) found rows; owned = owned }
  besides_owned false rows owned = λ b. owned b.owned

  pub besides_other : (AreAsked t.uploads t.wants arrived awaited → ⊥) → AreBesides t judged → ⊥
  besides_other differ b = differ (waiting_to t judged arrived awaited (printed_are t arrived keys fit prints) found b)

-- ---- the whole

-- the judgements at all places up to this one
abbrev pub AreUntil : Tables → ℕ → List Judgement → Type 0
AreUntil t last judged = map (λ (j : Judgement). Some j) judged ≡ map (judged_at t.uploads) (range_with_len 1 last)

pub fit_from : (t : Tables) (last : ℕ) (judged : List Judgement) → All IsPlacedWell (rows_of t.uploads) → last ≡ last_of t.uploads → AreUntil t last judged → AreBesides t judged → UploadsFit t judged
fit_from t last judged well is all besides = record {
  waiting = besides.waiting;
  owned = besides.owned;
  unjudged = All-weaker IsPlacedWell (λ u. u.place ≡ None → u.verdict ≡ None) (λ u w. w.unjudged) (rows_of t.uploads) well;
  places = places_fit t.uploads judged (subst (λ n. AreUntil t n judged) is all);
  from_one = All-weaker IsPlacedWell (λ u. u.place ≡ Some 0 → ⊥) (λ u w. w.from_one) (rows_of t.uploads) well;
}

pub none_unplaced : (t : Tables) → (All IsPlacedWell (rows_of t.uploads) → ⊥) → (judged : List Judgement) → UploadsFit t judged → ⊥
none_unplaced t bad judged fit = bad (λ k d within. record { unjudged = fit.unjudged k d within; from_one = fit.from_one k d within })

pub none_until : (t : Tables) (last : ℕ) → last ≡ last_of t.uploads → Contains (map (judged_at t.uploads) (range_with_len 1 last)) None → (judged : List Judgement) → UploadsFit t judged → ⊥
none_until t last is has judged fit = none_misses t.uploads judged fit.places (subst (λ n. Contains (map (judged_at t.uploads) (range_with_len 1 n)) None) is has)

pub none_besides : (t : Tables) (last : ℕ) (found : List Judgement) → last ≡ last_of t.uploads → AreUntil t last found → (AreBesides t found → ⊥) → (judged : List Judgement) → UploadsFit t judged → ⊥
none_besides t last found is all bad judged fit =
    let same : found ≡ judged = is_judged_list t.uploads judged fit.places found (subst (λ n. AreUntil t n found) is all) in
    bad (subst (AreBesides t) (sym same) (record { waiting = fit.waiting; owned = fit.owned }))
