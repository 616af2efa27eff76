-- A body that comes in pieces is not part of the finished rows. Once it is whole it is the same as one that was stored at
-- once.
use Rattle.std.proofs.Common.{◌≡◌, ℕ, zero, suc, ◌+◌, ◌*◌, ◌%◌, ◌<◌, ◌≤◌, nat_eq, Bool, true, false, not, ◌&&◌, cond, List, [], ◌∷◌, ◌++◌, map, filter, fold, take, drop, length, All, Option, Some, None, is_some, unwrap_or, IsTrue, refl, sym, ap, ap₂, subst, ◌∙◌, arith, true≢false}
use Rattle.std.specs.List.{AllByRecursion, flat_map, list_any, range_with_len}
use Rattle.std.proofs.lemmas.Bool.{eq-eqb}
use Rattle.std.proofs.lemmas.List.{length-append, take_all}
use Rattle.std.proofs.lemmas.List.Elements.{All-contains, All-from_recursion, All-push, filter-append, recursion_from_All}
use Rattle.std.proofs.lemmas.List.FromFn.{map-range_with_len_more}
use Rattle.sqlite_keyed.specs.Lists.{sort_by as sorted_by}
use Rattle.sqlite_keyed.proofs.ListLemmas.{all_weaker, filter_all}
use Rattle.sums.specs.declared.entries.Entry.{Entry}
use Rattle.sums.specs.declared.print.Print.{Print}
use Rattle.tables.specs.Bodies.{body_with, with_print}
use Rattle.tables.specs.Pieces.{is_of}
use Rattle.tables.specs.Rows.{Numbered, Rises, Tables, added, changed, next_in, rows_of, with_body, with_piece, without, first_number}
use Rattle.tables.specs.declared.rows.BodyRow.{BodyRow}
use Rattle.tables.specs.declared.rows.Piece.{Piece}
use Rattle.tables.proofs.BodiesLemmas.{begun_body}
use Rattle.tables.proofs.RowLemmas.{below_next}
use Rattle.tables_meaning.specs.Coming.{HasComing, bytes_so_far, coming_number, ended_number, with_begun, with_coming, with_ended, with_finished, with_next_piece, with_received, with_whole}
use Rattle.tables_meaning.specs.Finished.{AreUnderWay, finished, is_unfinished, without_whole}
use Rattle.tables_meaning.specs.Kept.{AreBodies, bytes_of, has_body, piece_at, piece_count, piece_order, pieces_for, pieces_of}
use Rattle.tables_meaning.specs.Making.{number_with, with_bytes, with_delivered, with_pieces}
use Rattle.tables_meaning.specs.Taking.{listed_in}
use Rattle.tables_meaning.proofs.BodyLemmas.{is_below_next, none_kept, only_pieces, own_pieces, pieces_joined, pieces_of_one, row_of_body, rows_with}
use Rattle.tables_meaning.proofs.BodySteps.{bytes_new, bytes_there, number_new, number_there}
use Rattle.tables_meaning.proofs.FinishedLemmas.{bodies_whole, body_finished, other_below}
use Rattle.tables_meaning.proofs.NumberOrders.{pieces_in_order}
use Rattle.tables_meaning.proofs.PassingLemmas.{Passes, beside, bodies_left, finished_passes, pieces_left}
use Rattle.tables_meaning.proofs.Searches.{all_of_rows}
use Rattle.tables_meaning.proofs.UnderWayLemmas.{whole_under_way}

-- Finished rows: the rowids of bodies rise, each body is whole, and each piece is one of a body.
pub record AreWhole (u : Tables) : Type 0 where
  pub rise : Rises u.bodies
  pub whole : AllByRecursion (λ x. is_unfinished x ≡ false) u.bodies
  pub owned : All (λ p. IsTrue (has_body u p.body)) (rows_of u.pieces)

pub whole_rows : (u : Tables) → Rises u.bodies → AreBodies u → AreWhole u
whole_rows u up h = record { rise = up; whole = bodies_whole u h; owned = h.owned }

-- ---- rows with one more body

bodies_stay : (ps : List Piece) (t : Tables) → (with_pieces ps t).bodies ≡ t.bodies
bodies_stay [] t = refl
bodies_stay (p ∷ ps) t = bodies_stay ps (with_piece p t)

pieces_apart : (ps : List Piece) (t : Tables) (b : Numbered BodyRow) → with_pieces ps (record t { bodies = b }) ≡ record (with_pieces ps t) { bodies = b }
pieces_apart [] t b = refl
pieces_apart (p ∷ ps) t b = pieces_apart ps (with_piece p t) b

abbrev pieces_more : List Piece → Numbered Piece → Numbered Piece
pieces_more ps rows = fold (λ now p. added now p) rows ps

pieces_are : (ps : List Piece) (t : Tables) → with_pieces ps t ≡ record t { pieces = pieces_more ps t.pieces }
pieces_are [] t = refl
pieces_are (p ∷ ps) t = pieces_are ps (with_piece p t)

with_last : (ps : List Piece) (p : Piece) (t : Tables) → with_pieces (ps ++ p ∷ []) t ≡ with_piece p (with_pieces ps t)
with_last [] p t = refl
with_last (q ∷ ps) p t = with_last ps p (with_piece q t)

owner_below : (u : Tables) → Rises u.bodies → (id : ℕ) → has_body u id ≡ true → id < next_in u.bodies
owner_below u up id there = let row = row_of_body u id there in let lt = is_below_next u.bodies up row.body row.within in omega (arith, row.number, lt)

pieces_below : (u : Tables) → AreWhole u → AllByRecursion (λ p. p.1.body < next_in u.bodies) u.pieces
pieces_below u h =
    all_weaker (λ p. IsTrue (has_body u p.1.body)) (λ p. p.1.body < next_in u.bodies) (λ p there. owner_below u h.rise p.1.body there) u.pieces
    (all_of_rows (λ p. IsTrue (has_body u p.body)) u.pieces h.owned)

-- ---- what is removed of them again

last_goes : {X : Type 0} (gone : ℕ × X → Bool) (xs : Numbered X) (x : ℕ × X) → AllByRecursion (λ y. gone y ≡ false) xs → gone x ≡ true → without gone (xs ++ x ∷ []) ≡ xs
last_goes gone [] x stay last = rw last refl
last_goes gone (y ∷ ys) x stay last = rw stay.0 (ap (λ l. y ∷ l) (last_goes gone ys x stay.1 last))

module _ (gone : Piece → Bool) where
  one_goes : (ys : Numbered Piece) (k : ℕ) (p : Piece) → gone p ≡ true → without (λ q. gone q.1) (ys ++ (k, p) ∷ []) ≡ without (λ q. gone q.1) ys
  one_goes [] k p goes = rw goes refl
  one_goes (y ∷ ys) k p goes = elim (gone y.1) as (λ g. cond (not g) (y ∷ without (λ q. gone q.1) (ys ++ (k, p) ∷ [])) (without (λ q. gone q.1) (ys ++ (k, p) ∷ [])) ≡ cond (not g) (y ∷ without (λ q. gone q.1) ys) (without (λ q. gone q.1) ys)) [
    | true ↦ one_goes ys k p goes
    | false ↦ ap (λ l. y ∷ l) (one_goes ys k p goes)
  ]

  more_go : (ps : List Piece) (olds : Numbered Piece) → AllByRecursion (λ p. gone p ≡ true) ps → without (λ q. gone q.1) (pieces_more ps olds) ≡ without (λ q. gone q.1) olds
  more_go [] olds all = refl
  more_go (p ∷ ps) olds all = more_go ps (added olds p) all.1 ∙ one_goes olds (next_in olds) p all.0

  none_goes : (olds : Numbered Piece) → AllByRecursion (λ p. gone p.1 ≡ false) olds → without (λ q. gone q.1) olds ≡ olds
  none_goes olds stay = filter_all (λ q. not (gone q.1)) olds (all_weaker (λ p. gone p.1 ≡ false) (λ p. not (gone p.1) ≡ true) (λ p e. ap not e) olds stay)

taken_out : (u : Tables) (ps : List Piece) (gone_body : ℕ × BodyRow → Bool) (gone_piece : Piece → Bool)
    → AllByRecursion (λ x. gone_body x ≡ false) u.bodies → gone_body (next_in u.bodies, begun_body) ≡ true
    → AllByRecursion (λ p. gone_piece p.1 ≡ false) u.pieces → AllByRecursion (λ p. gone_piece p ≡ true) ps
    → record u { bodies = without gone_body (added u.bodies begun_body); pieces = without (λ q. gone_piece q.1) (pieces_more ps u.pieces) } ≡ u
taken_out u ps gone_body gone_piece stay last old new =
    let bodies = last_goes gone_body u.bodies (next_in u.bodies, begun_body) stay last in
    let pieces = more_go gone_piece ps u.pieces new ∙ none_goes gone_piece u.pieces old in
    λ i. record u { bodies = bodies i; pieces = pieces i }

-- ---- without the body that comes

module _ (n : ℕ) where
  abbrev of_unfinished : Numbered BodyRow → Piece → Bool
  of_unfinished xs p = list_any (λ x. is_of x.0 p && is_unfinished x) (xs ++ (n, begun_body) ∷ [])

  and_false : (a : Bool) → (a && false) ≡ false
  and_false true = refl
  and_false false = refl

  piece_stays : (xs : Numbered BodyRow) (p : Piece) → AllByRecursion (λ x. is_unfinished x ≡ false) xs → p.body < n → of_unfinished xs p ≡ false
  piece_stays [] p whole below = rw (other_below p.body n below) refl
  piece_stays (x ∷ xs) p whole below = rw (whole.0, and_false (is_of x.0 p)) (piece_stays xs p whole.1 below)

  piece_goes : (xs : Numbered BodyRow) (p : Piece) → AllByRecursion (λ x. is_unfinished x ≡ false) xs → p.body ≡ n → of_unfinished xs p ≡ true
  piece_goes [] p whole is = rw (is, (eq-eqb n n refl)) refl
  piece_goes (x ∷ xs) p whole is = rw (whole.0, and_false (is_of x.0 p)) (piece_goes xs p whole.1 is)

its_pieces : (id : ℕ) (bytes : List ℕ) → AllByRecursion (λ p. p.body ≡ id) (pieces_for id bytes)
its_pieces id bytes = recursion_from_All (λ p. p.body ≡ id) (pieces_for id bytes) (pieces_of_one id bytes)

begun_finished : (u : Tables) (bytes : List ℕ) → AreWhole u → finished (with_begun bytes u) ≡ u
unfolding finished
begun_finished u bytes h =
    let n = next_in u.bodies in
    let ps = pieces_for n bytes in
    ap finished (pieces_are ps (with_body begun_body u))
    ∙ taken_out u ps is_unfinished (of_unfinished n u.bodies) h.whole refl
    (all_weaker (λ p. p.1.body < n) (λ p. of_unfinished n u.bodies p.1 ≡ false) (λ p below. piece_stays n u.bodies p.1 h.whole below) u.pieces (pieces_below u h))
    (all_weaker (λ p. p.body ≡ n) (λ p. of_unfinished n u.bodies p ≡ true) (λ p is. piece_goes n u.bodies p h.whole is) ps (its_pieces n bytes))

begun_removed : (u : Tables) (bytes : List ℕ) → AreWhole u → without_whole (next_in u.bodies) (with_begun bytes u) ≡ u
begun_removed u bytes h =
    let n = next_in u.bodies in
    let ps = pieces_for n bytes in
    ap (without_whole n) (pieces_are ps (with_body begun_body u))
    ∙ taken_out u ps (λ x. nat_eq x.0 n) (is_of n)
    (all_weaker (λ x. x.0 < n) (λ x. nat_eq x.0 n ≡ false) (λ x below. other_below x.0 n below) u.bodies (below_next first_number u.bodies h.rise)) (eq-eqb n n refl)
    (all_weaker (λ p. p.1.body < n) (λ p. is_of n p.1 ≡ false) (λ p below. other_below p.1.body n below) u.pieces (pieces_below u h))
    (all_weaker (λ p. p.body ≡ n) (λ p. is_of n p ≡ true) (λ p is. eq-eqb p.body n is) ps (its_pieces n bytes))

-- a body that comes is no part of the finished rows
pub coming_finished : (bytes : List ℕ) (u : Tables) → AreWhole u → finished u ≡ u → finished (with_coming bytes u) ≡ u
unfolding with_coming
coming_finished [] u h same = same
coming_finished (b ∷ bytes) u h same = begun_finished u (b ∷ bytes) h

-- if it is taken out by its number, the finished rows are left
pub coming_removed : (bytes : List ℕ) (u : Tables) (id : ℕ) → AreWhole u → coming_number bytes u ≡ Some id → without_whole id (with_coming bytes u) ≡ u
unfolding with_coming coming_number
coming_removed [] u id h is = cc
coming_removed (b ∷ bytes) u id h is =
    let same : next_in u.bodies ≡ id = cc in
    subst (λ n. without_whole n (with_begun (b ∷ bytes) u) ≡ u) same (begun_removed u (b ∷ bytes) h)

-- ---- one more piece

front_kept : (m n : ℕ) (xs ys : List ℕ) → m + n ≤ length xs → take n (drop m (xs ++ ys)) ≡ take n (drop m xs)
front_kept zero zero xs ys h = refl
front_kept zero (suc n) [] ys h = absurd (omega (arith, h))
front_kept zero (suc n) (x ∷ xs) ys h = ap (λ l. x ∷ l) (front_kept zero n xs ys (omega (arith, h)))
front_kept (suc m) n [] ys h = absurd (omega (arith, h))
front_kept (suc m) n (x ∷ xs) ys h = front_kept m n xs ys (omega (arith, h))

dropped_whole : (xs ys : List ℕ) → drop (length xs) (xs ++ ys) ≡ ys
dropped_whole [] ys = refl
dropped_whole (x ∷ xs) ys = dropped_whole xs ys

module _ (id : ℕ) where
  abbrev piece_in : List ℕ → ℕ → Piece
  piece_in bytes n = record { body = id; number = n + 1; bytes = piece_at bytes n }

  front_pieces : (bytes more : List ℕ) (n : ℕ) → 65536 * n ≤ length bytes → map (piece_in (bytes ++ more)) (range_with_len 0 n) ≡ map (piece_in bytes) (range_with_len 0 n)
  front_pieces bytes more zero h = refl
  front_pieces bytes more (suc n) h =
      let next : suc n ≡ n + 1 = omega arith in
      let within : 65536 * n + 65536 ≤ length bytes = omega (arith, h) in
      let earlier : 65536 * n ≤ length bytes = omega (arith, h) in
      let same = front_pieces bytes more n earlier in
      let last : piece_at (bytes ++ more) n ≡ piece_at bytes n = front_kept (65536 * n) 65536 bytes more within in
      ap (λ k. map (piece_in (bytes ++ more)) (range_with_len 0 k)) next
      ∙ map-range_with_len_more (piece_in (bytes ++ more)) 0 n n (omega arith)
      ∙ (λ i. same i ++ record { body = id; number = n + 1; bytes = last i } ∷ [])
      ∙ sym (map-range_with_len_more (piece_in bytes) 0 n n (omega arith))
      ∙ sym (ap (λ k. map (piece_in bytes) (range_with_len 0 k)) next)

  -- whole pieces, and one after them
  pub pieces_and_one : (bytes piece : List ℕ) → length bytes % 65536 ≡ 0 → 0 < length piece → length piece ≤ 65536
      → pieces_for id (bytes ++ piece) ≡ pieces_for id bytes ++ record { body = id; number = piece_count bytes + 1; bytes = piece } ∷ []
  unfolding pieces_for
  pieces_and_one bytes piece whole some small =
      let n = piece_count bytes in
      let both = length-append bytes piece in
      let size : 65536 * n ≡ length bytes = omega (arith, whole) in
      let count : piece_count (bytes ++ piece) ≡ n + 1 = omega (arith, both, whole, some, small) in
      let all : 65536 * n ≤ length bytes = omega (arith, size) in
      let last : piece_at (bytes ++ piece) n ≡ piece = ap (λ k. take 65536 (drop k (bytes ++ piece))) size ∙ ap (take 65536) (dropped_whole bytes piece) ∙ take_all 65536 piece small in
      ap (λ k. map (piece_in (bytes ++ piece)) (range_with_len 0 k)) count
      ∙ map-range_with_len_more (piece_in (bytes ++ piece)) 0 n n (omega arith)
      ∙ (λ i. front_pieces bytes piece n all i ++ record { body = id; number = n + 1; bytes = last i } ∷ [])

pub count_more : (bytes piece : List ℕ) → length bytes % 65536 ≡ 0 → 0 < length piece → length piece ≤ 65536 → piece_count (bytes ++ piece) ≡ piece_count bytes + 1
count_more bytes piece whole some small = let both = length-append bytes piece in omega (arith, both, whole, some, small)

begun_more : (u : Tables) (bytes piece : List ℕ) → length bytes % 65536 ≡ 0 → 0 < length piece → length piece ≤ 65536
    → with_piece (record { body = next_in u.bodies; number = piece_count bytes + 1; bytes = piece }) (with_begun bytes u) ≡ with_begun (bytes ++ piece) u
begun_more u bytes piece whole some small =
    let n = next_in u.bodies in
    sym (with_last (pieces_for n bytes) (record { body = n; number = piece_count bytes + 1; bytes = piece }) (with_body begun_body u))
    ∙ ap (λ ps. with_pieces ps (with_body begun_body u)) (sym (pieces_and_one n bytes piece whole some small))

-- a body that has some byte has a row
coming_begun : (bytes : List ℕ) (u : Tables) → 0 < length bytes → with_coming bytes u ≡ with_begun bytes u
unfolding with_coming
coming_begun [] u some = absurd (omega (arith, some))
coming_begun (b ∷ bytes) u some = refl

number_begun : (bytes : List ℕ) (u : Tables) → 0 < length bytes → coming_number bytes u ≡ Some (next_in u.bodies)
unfolding coming_number
number_begun [] u some = absurd (omega (arith, some))
number_begun (b ∷ bytes) u some = refl

some_more : (bytes piece : List ℕ) → 0 < length piece → 0 < length (bytes ++ piece)
some_more bytes piece some = let both = length-append bytes piece in omega (arith, both, some)

pub coming_more : (u : Tables) (bytes piece : List ℕ) → length bytes % 65536 ≡ 0 → 0 < length piece → length piece ≤ 65536
    → with_next_piece (coming_number bytes u) (piece_count bytes + 1) piece (with_coming bytes u) ≡ with_coming (bytes ++ piece) u
unfolding with_coming with_next_piece coming_number pieces_for
coming_more u [] piece whole some small = begun_more u [] piece whole some small ∙ sym (coming_begun piece u some)
coming_more u (b ∷ bytes) piece whole some small = begun_more u (b ∷ bytes) piece whole some small

pub number_more : (u : Tables) (bytes piece : List ℕ) → 0 < length piece → coming_number (bytes ++ piece) u ≡ Some (unwrap_or (coming_number bytes u) (next_in u.bodies))
unfolding coming_number
number_more u [] piece some = number_begun piece u some
number_more u (b ∷ bytes) piece some = refl

-- the rows of bodies do not change the next number while there is no byte
pub number_first : (u : Tables) (bytes : List ℕ) → unwrap_or (coming_number bytes u) (next_in (with_coming bytes u).bodies) ≡ unwrap_or (coming_number bytes u) (next_in u.bodies)
unfolding coming_number with_coming
number_first u [] = refl
number_first u (b ∷ bytes) = refl

-- ---- its bytes

begun_pieces : (u : Tables) (bytes : List ℕ) → AreWhole u → pieces_of (with_begun bytes u) (next_in u.bodies) ≡ pieces_for (next_in u.bodies) bytes
begun_pieces u bytes h =
    let n = next_in u.bodies in
    let ps = pieces_for n bytes in
    let free : filter (is_of n) (rows_of u.pieces) ≡ [] = none_kept (is_of n) (rows_of u.pieces)
    (λ q c. other_below q.body n (owner_below u h.rise q.body (All-contains (λ q. IsTrue (has_body u q.body)) (rows_of u.pieces) q h.owned c))) in
    ap (sorted_by piece_order)
    (ap (λ (t : Tables). filter (is_of n) (rows_of t.pieces)) (only_pieces ps (with_body begun_body u))
    ∙ ap (filter (is_of n)) (rows_with ps u.pieces)
    ∙ filter-append (is_of n) (rows_of u.pieces) ps ∙ ap₂ ◌++◌ free (own_pieces n bytes))
    ∙ pieces_in_order n bytes

begun_bytes : (u : Tables) (bytes : List ℕ) → AreWhole u → bytes_of (with_begun bytes u) (next_in u.bodies) ≡ bytes
unfolding bytes_of
begun_bytes u bytes h = ap (flat_map (λ (p : Piece). p.bytes)) (begun_pieces u bytes h) ∙ pieces_joined (next_in u.bodies) bytes

-- the pieces of the body that comes, if it has a number
pub coming_pieces : (bytes : List ℕ) (u : Tables) (id : ℕ) → AreWhole u → coming_number bytes u ≡ Some id → pieces_of (with_coming bytes u) id ≡ pieces_for id bytes
unfolding with_coming coming_number
coming_pieces [] u id h is = cc
coming_pieces (b ∷ bytes) u id h is =
    let same : next_in u.bodies ≡ id = cc in
    subst (λ n. pieces_of (with_begun (b ∷ bytes) u) n ≡ pieces_for n (b ∷ bytes)) same (begun_pieces u (b ∷ bytes) h)

pub no_number : (bytes : List ℕ) (u : Tables) → coming_number bytes u ≡ None → bytes ≡ []
unfolding coming_number
no_number [] u is = refl
no_number (b ∷ bytes) u is = cc

pub coming_bytes : (bytes : List ℕ) (u : Tables) → AreWhole u → bytes_so_far (with_coming bytes u) (coming_number bytes u) ≡ bytes
unfolding with_coming coming_number
coming_bytes [] u h = refl
coming_bytes (b ∷ bytes) u h = begun_bytes u (b ∷ bytes) h

begun_under_way : (u : Tables) (bytes : List ℕ) → AreWhole u → AreUnderWay (with_begun bytes u)
begun_under_way u bytes h =
    let n = next_in u.bodies in
    let t = with_begun bytes u in
    let P : ℕ × BodyRow → Type 0 = λ x. x.1.print ≡ None → pieces_of t x.0 ≡ pieces_for x.0 (bytes_of t x.0) in
    let others : All P u.bodies = All-from_recursion P u.bodies (all_weaker (λ x. is_unfinished x ≡ false) P (λ x some none. absurd (true≢false (sym (ap (λ o. not (is_some o)) none) ∙ some))) u.bodies h.whole) in
    let its : P (n, begun_body) = λ none. begun_pieces u bytes h ∙ ap (pieces_for n) (sym (begun_bytes u bytes h)) in
    record { pieces = subst (All P) (sym (bodies_stay (pieces_for n bytes) (with_body begun_body u))) (All-push P u.bodies (n, begun_body) others its) }

-- the pieces of the body that comes are as those of a whole one
pub coming_under_way : (bytes : List ℕ) (u : Tables) → AreWhole u → AreUnderWay (with_coming bytes u)
unfolding with_coming
coming_under_way [] u h = whole_under_way u h.whole
coming_under_way (b ∷ bytes) u h = begun_under_way u (b ∷ bytes) h

-- ---- once it is whole

module _ (n : ℕ) (print : Print) where
  abbrev set : ℕ × BodyRow → ℕ × BodyRow
  set x = cond (nat_eq x.0 n) (x.0, record x.1 { print = Some print }) x

  -- the last body gets the print, and no other
  set_last : (xs : Numbered BodyRow) → AllByRecursion (λ x. x.0 < n) xs → map set (xs ++ (n, begun_body) ∷ []) ≡ xs ++ (n, record { print = Some print }) ∷ []
  set_last [] below = rw (eq-eqb n n refl) refl
  set_last (x ∷ xs) below = rw (other_below x.0 n below.0) (ap (λ l. x ∷ l) (set_last xs below.1))

begun_printed : (u : Tables) (bytes : List ℕ) (print : Print) → Rises u.bodies
    → with_print (next_in u.bodies) print (with_begun bytes u) ≡ with_pieces (pieces_for (next_in u.bodies) bytes) (with_body (record { print = Some print }) u)
begun_printed u bytes print up =
    let n = next_in u.bodies in
    let ps = pieces_for n bytes in
    let begun = with_body begun_body u in
    let after = with_pieces ps begun in
    ap (λ l. record after { bodies = changed (λ x. nat_eq x.0 n) (λ b. record b { print = Some print }) l }) (bodies_stay ps begun)
    ∙ ap (λ l. record after { bodies = l }) (set_last n print u.bodies (below_next first_number u.bodies up))
    ∙ sym (pieces_apart ps begun (added u.bodies (record { print = Some print })))

body_beside : (u : Tables) (bytes : List ℕ) (print : Print) → AreWhole u → finished u ≡ u → body_with print (with_coming bytes u).bodies ≡ body_with print u.bodies
body_beside u bytes print h same =
    sym (body_finished print (with_coming bytes u)) ∙ ap (λ (t : Tables). body_with print t.bodies) (coming_finished bytes u h same)

whole_stored : (u : Tables) (b : ℕ) (bytes : List ℕ) (print : Print) → AreWhole u → finished u ≡ u → (o : Option ℕ) → body_with print u.bodies ≡ o
    → cond (is_some o) (without_whole (next_in u.bodies) (with_begun (b ∷ bytes) u)) (with_print (next_in u.bodies) print (with_begun (b ∷ bytes) u)) ≡ with_bytes print (b ∷ bytes) u
whole_stored u b bytes print h same None e = begun_printed u (b ∷ bytes) print h.rise ∙ sym (bytes_new print (b ∷ bytes) u e)
whole_stored u b bytes print h same (Some id) e = begun_removed u (b ∷ bytes) h ∙ sym (bytes_there print (b ∷ bytes) u id e)

-- the rows are those of a body that is stored at once
pub ended_stored : (bytes : List ℕ) (u : Tables) (print : Print) → AreWhole u → finished u ≡ u → with_ended (coming_number bytes u) print (with_coming bytes u) ≡ with_bytes print bytes u
unfolding with_coming coming_number with_ended with_whole
ended_stored [] u print h same = refl
ended_stored (b ∷ bytes) u print h same =
    ap (λ o. cond (is_some o) (without_whole (next_in u.bodies) (with_begun (b ∷ bytes) u)) (with_print (next_in u.bodies) print (with_begun (b ∷ bytes) u))) (body_beside u (b ∷ bytes) print h same)
    ∙ whole_stored u b bytes print h same (body_with print u.bodies) refl

number_stored : (bytes : List ℕ) (u : Tables) (print : Print) (o : Option ℕ) → body_with print u.bodies ≡ o → unwrap_or o (next_in u.bodies) ≡ number_with print (with_bytes print bytes u)
number_stored bytes u print None e = sym (number_new print bytes u e)
number_stored bytes u print (Some id) e = sym (number_there print bytes u id e)

one_number : (u : Tables) (bytes : List ℕ) → unwrap_or (coming_number bytes u) (next_in u.bodies) ≡ next_in u.bodies
unfolding coming_number
one_number u [] = refl
one_number u (b ∷ bytes) = refl

pub ended_numbered : (bytes : List ℕ) (u : Tables) (print : Print) → AreWhole u → finished u ≡ u → ended_number (coming_number bytes u) print (with_coming bytes u) ≡ number_with print (with_bytes print bytes u)
unfolding ended_number
ended_numbered bytes u print h same =
    ap (λ o. unwrap_or o (unwrap_or (coming_number bytes u) (next_in (with_coming bytes u).bodies))) (body_beside u bytes print h same)
    ∙ ap (unwrap_or (body_with print u.bodies)) (number_first u bytes ∙ one_number u bytes)
    ∙ number_stored bytes u print (body_with print u.bodies) refl

received_delivered : (name : List ℕ) (print : Print) (bytes : List ℕ) (moment : ℕ) (listed : Option (List Entry)) (u : Tables)
    → with_received name (number_with print (with_bytes print bytes u)) print moment listed (with_bytes print bytes u) ≡ with_delivered name print bytes moment listed u
unfolding with_received with_delivered
received_delivered name print bytes moment listed u = refl

-- the body that came is delivered
pub finished_delivered : (name : List ℕ) (print : Print) (bytes : List ℕ) (moment : ℕ) (u : Tables) → AreWhole u → finished u ≡ u
    → with_finished name (coming_number bytes u) print moment (with_coming bytes u) ≡ with_delivered name print bytes moment (listed_in name bytes) u
unfolding with_finished
finished_delivered name print bytes moment u h same =
    let number = ended_numbered bytes u print h same in
    let listed = ap (listed_in name) (coming_bytes bytes u h) in
    let rows = ended_stored bytes u print h same in
    (λ i. with_received name (number i) print moment (listed i) (rows i)) ∙ received_delivered name print bytes moment (listed_in name bytes) u

-- ---- a change beside it

coming_beside : (bytes : List ℕ) (u : Tables) → 0 < length bytes → with_coming bytes u ≡ beside u (added u.bodies begun_body) (pieces_more (pieces_for (next_in u.bodies) bytes) u.pieces)
coming_beside bytes u some = coming_begun bytes u some ∙ pieces_are (pieces_for (next_in u.bodies) bytes) (with_body begun_body u)

pub coming_passes : (f : Tables → Tables) → Passes f → (bytes : List ℕ) (u : Tables) → AreWhole u → finished u ≡ u → f (with_coming bytes u) ≡ with_coming bytes (f u)
unfolding with_coming
coming_passes f passes [] u h same = refl
coming_passes f passes (b ∷ bytes) u h same =
    let all = b ∷ bytes in
    let some : 0 < length all = omega arith in
    let pieces = λ (rows : Numbered BodyRow) (olds : Numbered Piece). pieces_more (pieces_for (next_in rows) all) olds in
    ap f (coming_beside all u some)
    ∙ passes u (added u.bodies begun_body) (pieces u.bodies u.pieces)
    (λ p. ap (λ (t : Tables). body_with p t.bodies) (sym (coming_beside all u some)) ∙ body_beside u all p h same)
    ∙ sym (λ i. beside (f u) (added (bodies_left f passes u i) begun_body) (pieces (bodies_left f passes u i) (pieces_left f passes u i)))
    ∙ sym (coming_beside all (f u) some)

-- what comes is the same after a change
pub change_beside : (f : Tables → Tables) → Passes f → (t : Tables) (bytes : List ℕ) → AreWhole (finished t) → finished (finished t) ≡ finished t → HasComing t bytes → HasComing (f t) bytes
change_beside f passes t bytes h same coming = record {
  rows = ap f coming.rows ∙ coming_passes f passes bytes (finished t) h same ∙ ap (with_coming bytes) (sym (finished_passes f passes t));
}

-- nothing comes beside finished rows
pub none_coming : (t : Tables) → finished t ≡ t → HasComing t []
unfolding with_coming
none_coming t same = record { rows = sym same }

-- the number of what comes depends on the bodies alone
pub number_by_bodies : (bytes : List ℕ) (t u : Tables) → t.bodies ≡ u.bodies → coming_number bytes t ≡ coming_number bytes u
unfolding coming_number
number_by_bodies [] t u same = refl
number_by_bodies (b ∷ bytes) t u same = ap (λ rows. Some (next_in rows)) same
