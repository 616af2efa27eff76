-- What the keys of the tables keep true of rows, of the rows that are copied and of those that are made of them.
use Rattle.std.proofs.Common.{◌≡◌, ◌≢◌, ℕ, ◌+◌, false, List, [], ◌∷◌, map, nat_eq, All, AllPairs, None, IsTrue, refl, sym, ap, subst}
use Rattle.std.specs.List.{enumerate_from, list_any}
use Rattle.std.proofs.lemmas.List.Elements.{All-filter, All-map}
use Rattle.indices.proofs.Pairs.{pairs_map, pairs_unmap}
use Rattle.tables_meaning.proofs.ArrivalLemmas.{all_unmapped}
use Rattle.sums.proofs.Words.{list_any-map}
use Rattle.tables.specs.Arrivals.{is_arrival}
use Rattle.tables.specs.Bodies.{is_body_there}
use Rattle.tables.specs.Rows.{first_number, Numbered, Tables, rows_of, without}
use Rattle.tables.specs.Uploads.{sign_in}
use Rattle.tables.specs.declared.rows.ArrivalRow.{ArrivalRow}
use Rattle.tables.specs.declared.rows.File.{File}
use Rattle.tables.specs.declared.rows.Piece.{Piece}
use Rattle.tables.specs.declared.rows.Ref.{Ref}
use Rattle.tables.specs.declared.rows.UploadRow.{UploadRow}
use Rattle.tables.specs.declared.rows.Want.{Want}
use Rattle.tables_read.specs.All.{AreConstrained}
use Rattle.old_book.specs.Copying.{anew, arrived_at, copied}
use Rattle.old_book.specs.Settling.{as_unjudged, settled, unjudged, unjudged_uploads, with_meta_row}

-- ---- rows that are numbered anew keep their values

rows_from : {X : Type 0} (n : ℕ) (xs : List X) → rows_of (enumerate_from n xs) ≡ xs
rows_from n [] = refl
rows_from n (x ∷ xs) = ap (λ ys. x ∷ ys) (rows_from (n + 1) xs)

rows_anew : {X : Type 0} (xs : List X) → rows_of (anew xs) ≡ xs
rows_anew xs = rows_from first_number xs

-- what the keys keep true of copied rows they keep true of the rows
pub constrained_copied : (t : Tables) (moment : ℕ) (into : Tables) → AreConstrained (copied t moment into) → AreConstrained t
constrained_copied t moment into keys =
    let at = arrived_at moment in
    let arrivals = rows_anew (map at (rows_of t.arrivals)) in
    record {
      bodies_apart = keys.bodies_apart;
      pieces_owned = subst (All (λ (p : Piece). IsTrue (is_body_there t p.body))) (rows_anew (rows_of t.pieces)) keys.pieces_owned;
      arrivals_owned =
          all_unmapped (λ (a : ArrivalRow). IsTrue (is_body_there t a.body)) at (rows_of t.arrivals) (subst (All (λ (a : ArrivalRow). IsTrue (is_body_there t a.body))) arrivals keys.arrivals_owned);
      arrivals_apart =
          pairs_unmap (λ (a b : ArrivalRow). is_arrival a.name a.body b ≡ false) at (rows_of t.arrivals)
          (subst (AllPairs (λ (a b : ArrivalRow). is_arrival a.name a.body b ≡ false)) arrivals keys.arrivals_apart);
      uploads_apart = keys.uploads_apart;
      places_apart = keys.places_apart;
      wants_owned = subst (All (λ (w : Want). IsTrue (list_any (λ x. nat_eq x.0 w.upload) t.uploads))) (rows_anew (rows_of t.wants)) keys.wants_owned;
      items_apart = keys.items_apart;
      refs_owned = subst (All (λ (r : Ref). IsTrue (list_any (λ x. nat_eq x.0 r.item) t.items))) (rows_anew (rows_of t.refs)) keys.refs_owned;
      files_owned = subst (All (λ (f : File). IsTrue (is_body_there t f.body))) (rows_anew (rows_of t.files)) keys.files_owned;
      files_apart = subst (AllPairs (λ (f g : File). f.path ≢ g.path)) (rows_anew (rows_of t.files)) keys.files_apart;
    }

-- ---- as if none had been judged

rows_unjudged : (uploads : Numbered UploadRow) → map as_unjudged (rows_of uploads) ≡ rows_of (unjudged_uploads uploads)
rows_unjudged [] = refl
rows_unjudged (x ∷ xs) = ap (λ ys. as_unjudged x.1 ∷ ys) (rows_unjudged xs)

-- the numbers of the uploads stay
owners_unjudged : (uploads : Numbered UploadRow) (id : ℕ) → list_any (λ x. nat_eq x.0 id) uploads ≡ list_any (λ x. nat_eq x.0 id) (unjudged_uploads uploads)
owners_unjudged uploads id = sym (list_any-map (λ x. (x.0, as_unjudged x.1)) (λ x. nat_eq x.0 id) uploads)

pub constrained_unjudged : (t : Tables) → AreConstrained t → AreConstrained (unjudged t)
constrained_unjudged t keys = record {
  bodies_apart = keys.bodies_apart;
  pieces_owned = keys.pieces_owned;
  arrivals_owned = keys.arrivals_owned;
  arrivals_apart = keys.arrivals_apart;
  uploads_apart =
      subst (AllPairs (λ (u v : UploadRow). sign_in u ≢ sign_in v)) (rows_unjudged t.uploads)
      (pairs_map (λ (u v : UploadRow). sign_in u ≢ sign_in v) (λ (u v : UploadRow). sign_in u ≢ sign_in v) as_unjudged (rows_of t.uploads) (λ u v _ _ other. other) keys.uploads_apart);
  places_apart =
      subst (AllPairs (λ (u v : UploadRow). u.place ≢ None → u.place ≢ v.place)) (rows_unjudged t.uploads)
      (pairs_map (λ (u v : UploadRow). u.place ≢ None → u.place ≢ v.place) (λ (u v : UploadRow). sign_in u ≢ sign_in v) as_unjudged (rows_of t.uploads) (λ u v _ _ other some. absurd (some refl)) keys.uploads_apart);
  wants_owned = subst (λ (owner : ℕ → _). All (λ (w : Want). IsTrue (owner w.upload)) (rows_of t.wants)) (λ i id. owners_unjudged t.uploads id i) keys.wants_owned;
  items_apart = keys.items_apart;
  refs_owned = keys.refs_owned;
  files_owned = keys.files_owned;
  files_apart = keys.files_apart;
}

-- ---- without the wants of judged uploads

-- what holds of each row holds of each that is left
rows_left : {X : Type 0} (P : X → Type 0) (p : ℕ × X → _) (xs : Numbered X) → All P (rows_of xs) → All P (rows_of (without p xs))
rows_left P p xs h = All-map P (λ x. x.1) (without p xs) (All-filter _ (λ x. P x.1) xs (all_unmapped P (λ x. x.1) xs h))

pub constrained_renewed : (t : Tables) (text : List ℕ) → AreConstrained t → AreConstrained (with_meta_row text (settled t))
constrained_renewed t text keys = record {
  bodies_apart = keys.bodies_apart;
  pieces_owned = keys.pieces_owned;
  arrivals_owned = keys.arrivals_owned;
  arrivals_apart = keys.arrivals_apart;
  uploads_apart = keys.uploads_apart;
  places_apart = keys.places_apart;
  wants_owned = rows_left (λ (w : Want). IsTrue (list_any (λ x. nat_eq x.0 w.upload) t.uploads)) _ t.wants keys.wants_owned;
  items_apart = keys.items_apart;
  refs_owned = keys.refs_owned;
  files_owned = keys.files_owned;
  files_apart = keys.files_apart;
}
