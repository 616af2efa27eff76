-- The bodies of an archive and their pieces, and what becomes of them when one more is stored.
use Rattle.std.proofs.Common.{◌≡◌, ◌≢◌, ◌⊎◌, inl, inr, ℕ, zero, suc, ◌+◌, ◌*◌, ◌<◌, Bool, true, false, ◌||◌, cond, List, [], ◌∷◌, ◌++◌, map, filter, find, take, drop, length, get_or, All, AllPairs, Contains, Option, Some, None, is_some, IsTrue, refl, sym, ap, ap₂, subst, subst₂, ◌∙◌, arith}
use Rattle.std.specs.Prelude.{nat_eq}
use Rattle.std.specs.List.{flat_map, list_any, range_with_len}
use Rattle.std.specs.Option.{option_and_then, option_map, option_map_or, option_or}
use Rattle.std.proofs.lemmas.Bool.{cases_order, eq-eqb, eqb-true, false_from_ne_true, false≢true, ne_eqb, or_cases, or_left, or_right}
use Rattle.std.proofs.lemmas.Bool.Decides.{Decides-eqb, Decides-like, same_from_decides}
use Rattle.std.proofs.lemmas.List.{append-nil, append_assoc, drop-take, get_or_default, map-id, map_push, take-append-drop, take-take, take_all}
use Rattle.std.proofs.lemmas.List.Concat.{flat_map-append}
use Rattle.std.proofs.lemmas.List.Elements.{All-append, All-contains, All-contains_itself, All-from_recursion, All-map, All-push, All-same, All-weaker, Contains-append_left, Contains-append_right, Contains-get_or, Contains-push, Contains-push_cases, filter-append}
use Rattle.std.proofs.lemmas.List.Folds.{Any-from_list_any, find-append, flat_map-map, list_any-append}
use Rattle.std.proofs.lemmas.List.FromFn.{map-range_with_len_more}
use Rattle.std.proofs.lemmas.List.Quantifiers.{all_pairs_push}
use Rattle.std.proofs.lemmas.Option.{same_Some}
use Rattle.sums.specs.Prints.{print as print_of, same_print}
use Rattle.sums.specs.declared.print.Print.{Print}
use Rattle.sums.proofs.Members.{here, any_true}
use Rattle.sums.proofs.Words.{list_any-map}
use Rattle.book.proofs.Finds.{is_some_of_find, none_of_map}
use Rattle.book.proofs.Prints.{same_print-Decides}
use Rattle.tables.specs.Bodies.{body_with, has_print}
use Rattle.tables.specs.Pieces.{is_of}
use Rattle.tables.specs.Rows.{Tables, Numbered, Rises, added, first_number, next_in, rows_of, with_body, with_piece}
use Rattle.tables.specs.declared.rows.ArrivalRow.{ArrivalRow}
use Rattle.tables.specs.declared.rows.BodyRow.{BodyRow}
use Rattle.tables.specs.declared.rows.File.{File}
use Rattle.tables.specs.declared.rows.Piece.{Piece}
use Rattle.tables.proofs.RowLemmas.{below_next}
use Rattle.sqlite_keyed.specs.Lists.{sort_by as sorted_by}
use Rattle.tables_meaning.specs.Kept.{AreBodies, AreStored, bytes_of, has_body, is_used, piece_at, piece_count, piece_order, pieces_for, pieces_of, print_at}
use Rattle.tables_meaning.specs.Making.{with_bytes, with_pieces}
use Rattle.tables_meaning.proofs.NumberOrders.{pieces_in_order}

-- ---- lists

pub there : {X : Type 0} (x : X) (xs : List X) (y : X) → Contains xs y → Contains (x ∷ xs) y
there x xs y h = Contains-append_right (x ∷ []) xs y h

pub all_if : {X : Type 0} (P : X → Type 0) (xs : List X) → ((x : X) → Contains xs x → P x) → All P xs
all_if P xs h = All-weaker (Contains xs) P h xs (All-contains_itself xs)

-- what a search finds is an element that passes
pub record Found {X : Type 0} (p : X → Bool) (xs : List X) (x : X) : Type 0 where
  pub within : Contains xs x
  pub passes : p x ≡ true

pub found : {X : Type 0} (p : X → Bool) (xs : List X) (x : X) → find p xs ≡ Some x → Found p xs x
found p [] x e = cc
found p (y ∷ ys) x e =
    elim (p y) as (λ b. p y ≡ b → cond b (Some y) (find p ys) ≡ Some x → Found p (y ∷ ys) x) [
      | true ↦ λ passes is. subst (Found p (y ∷ ys)) (same_Some y x is) (record { within = here y ys; passes = passes })
      | false ↦ λ fails is. let more = found p ys x is in record { within = there y ys x more.within; passes = more.passes }
    ] refl e

pub none_found : {X : Type 0} (p : X → Bool) (xs : List X) → find p xs ≡ None → (x : X) → Contains xs x → p x ≡ false
none_found p xs none x h = false_from_ne_true (p x) (λ passes. false≢true (ap is_some (sym none) ∙ is_some_of_find p xs ∙ any_true p xs x h passes))

-- two elements that are not apart are the same, if the elements of the list are apart
pub apart_same : {X : Type 0} (R : X → X → Type 0) (xs : List X) → AllPairs R xs → (x y : X) → Contains xs x → Contains xs y → ¬ (R x y) → ¬ (R y x) → x ≡ y
apart_same R xs apart x y hx hy one other =
    elim (cases_order hx.0 hy.0) [
      | inl same ↦ sym hx.2 ∙ ap (λ k. get_or xs k x) same ∙ get_or_default xs hy.0 x y hy.1 ∙ hy.2
      | inr (inl lt) ↦ absurd (one (subst₂ R hx.2 (get_or_default xs hy.0 x y hy.1 ∙ hy.2) (apart hx.0 hy.0 x lt hy.1)))
      | inr (inr lt) ↦ absurd (other (subst₂ R hy.2 (get_or_default xs hx.0 y x hx.1 ∙ hx.2) (apart hy.0 hx.0 y lt hx.1)))
    ]

all_pass : {X Y : Type 0} (p : X → Bool) (f : Y → X) → ((y : Y) → p (f y) ≡ true) → (ys : List Y) → filter p (map f ys) ≡ map f ys
all_pass p f h [] = refl
all_pass p f h (y ∷ ys) = rw (h y) (ap (λ l. f y ∷ l) (all_pass p f h ys))

none_pass : {X Y : Type 0} (p : X → Bool) (f : Y → X) → ((y : Y) → p (f y) ≡ false) → (ys : List Y) → filter p (map f ys) ≡ []
none_pass p f h [] = refl
none_pass p f h (y ∷ ys) = rw (h y) (none_pass p f h ys)

pub none_kept : {X : Type 0} (p : X → Bool) (xs : List X) → ((x : X) → Contains xs x → p x ≡ false) → filter p xs ≡ []
none_kept p [] h = refl
none_kept p (x ∷ xs) h = rw (h x (here x xs)) (none_kept p xs (λ y c. h y (there x xs y c)))

-- ---- rows

-- the next number is above each
pub is_below_next : {X : Type 0} (xs : Numbered X) → Rises xs → (x : ℕ × X) → Contains xs x → x.0 < next_in xs
is_below_next xs up x h = All-contains (λ y. y.0 < next_in xs) xs x (All-from_recursion (λ y. y.0 < next_in xs) xs (below_next first_number xs up)) h

rising : {X : Type 0} (xs : Numbered X) → Rises xs → (i j : ℕ) (d : ℕ × X) → i < j → j < length xs → (get_or xs i d).0 < (get_or xs j d).0
rising [] up i j d lt within = absurd (omega arith)
rising (x ∷ xs) up zero zero d lt within = absurd (omega arith)
rising (x ∷ xs) up zero (suc j) d lt within = All-from_recursion (λ y. x.0 < y.0) xs up.0 j d (omega arith)
rising (x ∷ xs) up (suc i) zero d lt within = absurd (omega arith)
rising (x ∷ xs) up (suc i) (suc j) d lt within = rising xs up.1 i j d (omega arith) (omega arith)

-- a number is that of one row
pub same_row : {X : Type 0} (xs : Numbered X) → Rises xs → (x y : ℕ × X) → Contains xs x → Contains xs y → x.0 ≡ y.0 → x ≡ y
same_row xs up x y hx hy same = apart_same (λ a b. a.0 < b.0) xs (rising xs up) x y hx hy (λ lt. omega arith) (λ lt. omega arith)

pub rows_added : {X : Type 0} (rows : Numbered X) (x : X) → rows_of (added rows x) ≡ rows_of rows ++ x ∷ []
rows_added rows x = map_push (λ r. r.1) rows (next_in rows, x)

-- ---- pieces

taken_more : (size n : ℕ) (bytes : List ℕ) → take (size + n) bytes ≡ take size bytes ++ take n (drop size bytes)
taken_more size n bytes =
    sym (take-append-drop size (take (size + n) bytes))
    ∙ ap₂ ◌++◌ (take-take size (size + n) bytes (omega arith)) (drop-take size n bytes)

range_more : (n : ℕ) → range_with_len 0 (n + 1) ≡ range_with_len 0 n ++ n ∷ []
range_more n = sym (map-id (range_with_len 0 (n + 1))) ∙ map-range_with_len_more (λ x. x) 0 n n (omega arith) ∙ ap (λ l. l ++ n ∷ []) (map-id (range_with_len 0 n))

joined_to : (bytes : List ℕ) (n : ℕ) → flat_map (piece_at bytes) (range_with_len 0 n) ≡ take (65536 * n) bytes
joined_to bytes zero = refl
joined_to bytes (suc n) =
    let e : suc n ≡ n + 1 = omega arith in
    let size : 65536 * n + 65536 ≡ 65536 * suc n = omega arith in
    ap (λ k. flat_map (piece_at bytes) (range_with_len 0 k)) e
    ∙ ap (flat_map (piece_at bytes)) (range_more n)
    ∙ flat_map-append (piece_at bytes) (range_with_len 0 n) (n ∷ [])
    ∙ ap₂ ◌++◌ (joined_to bytes n) (append-nil (piece_at bytes n))
    ∙ sym (taken_more (65536 * n) 65536 bytes)
    ∙ ap (λ k. take k bytes) size

-- the pieces of a body, one after another, are its bytes
pub pieces_joined : (id : ℕ) (bytes : List ℕ) → flat_map (λ p. p.bytes) (pieces_for id bytes) ≡ bytes
unfolding pieces_for
pieces_joined id bytes =
    flat_map-map (λ (p : Piece). p.bytes) (λ n. record { body = id; number = n + 1; bytes = piece_at bytes n }) (range_with_len 0 (piece_count bytes))
    ∙ joined_to bytes (piece_count bytes)
    ∙ take_all (65536 * piece_count bytes) bytes (omega arith)

pub own_pieces : (id : ℕ) (bytes : List ℕ) → filter (is_of id) (pieces_for id bytes) ≡ pieces_for id bytes
unfolding pieces_for
own_pieces id bytes = all_pass (is_of id) _ (λ n. eq-eqb id id refl) (range_with_len 0 (piece_count bytes))

other_pieces : (other id : ℕ) (bytes : List ℕ) → other ≢ id → filter (is_of other) (pieces_for id bytes) ≡ []
unfolding pieces_for
other_pieces other id bytes apart = none_pass (is_of other) _ (λ n. ne_eqb id other (λ e. apart (sym e))) (range_with_len 0 (piece_count bytes))

pub pieces_of_one : (id : ℕ) (bytes : List ℕ) → All (λ p. p.body ≡ id) (pieces_for id bytes)
unfolding pieces_for
pieces_of_one id bytes = All-map (λ (p : Piece). p.body ≡ id) _ (range_with_len 0 (piece_count bytes)) (λ k d lt. refl)

pub pieces_with : List Piece → Numbered Piece → Numbered Piece
pieces_with [] rows = rows
pieces_with (p ∷ ps) rows = pieces_with ps (added rows p)

-- pieces that are added change no other table
pub only_pieces : (ps : List Piece) (t : Tables) → with_pieces ps t ≡ record t { pieces = pieces_with ps t.pieces }
unfolding pieces_with
only_pieces [] t = refl
only_pieces (p ∷ ps) t = only_pieces ps (with_piece p t)

pub rows_with : (ps : List Piece) (rows : Numbered Piece) → rows_of (pieces_with ps rows) ≡ rows_of rows ++ ps
unfolding pieces_with
rows_with [] rows = sym (append-nil (rows_of rows))
rows_with (p ∷ ps) rows = rows_with ps (added rows p) ∙ ap (λ l. l ++ ps) (rows_added rows p) ∙ append_assoc (rows_of rows) (p ∷ []) ps

-- ---- bodies

pub are_stored : (t : Tables) → AreBodies t → AreStored t
are_stored t h = record { whole = h.whole; pieces = h.pieces; apart = h.apart; owned = h.owned }

-- a body of this number and print is there
pub record HasBody (bodies : Numbered BodyRow) (id : ℕ) (p : Print) : Type 0 where
  pub body : ℕ × BodyRow
  pub within : Contains bodies body
  pub number : body.0 ≡ id
  pub print : body.1.print ≡ Some p

-- the row of a body that is there
pub record RowOf (bodies : Numbered BodyRow) (id : ℕ) : Type 0 where
  pub body : ℕ × BodyRow
  pub within : Contains bodies body
  pub number : body.0 ≡ id

pub row_of_body : (t : Tables) (id : ℕ) → has_body t id ≡ true → RowOf t.bodies id
unfolding has_body
row_of_body t id h =
    let any = Any-from_list_any (λ x. nat_eq x.0 id) t.bodies h in
    record { body = any.1; within = (any.0, any.2, any.3); number = eqb-true any.1.0 id any.4 }

pub has_body_if : (t : Tables) (id : ℕ) → RowOf t.bodies id → has_body t id ≡ true
unfolding has_body
has_body_if t id row = any_true (λ x. nat_eq x.0 id) t.bodies row.body row.within (eq-eqb row.body.0 id row.number)

pub row_of_found : {bodies : Numbered BodyRow} {id : ℕ} {p : Print} → HasBody bodies id p → RowOf bodies id
row_of_found h = record { body = h.body; within = h.within; number = h.number }

pub has_row : (t : Tables) (x : ℕ × BodyRow) → Contains t.bodies x → has_body t x.0 ≡ true
has_row t x h = has_body_if t x.0 (record { body = x; within = h; number = refl })

of_print : (p : Print) (o : Option Print) → option_map_or (λ q. same_print q p) o false ≡ true → o ≡ Some p
of_print p None e = absurd (false≢true e)
of_print p (Some q) e = ap Some ((same_print-Decides q p).0 e)

pub is_of_print : (p : Print) (o : Option Print) → o ≡ Some p → option_map_or (λ q. same_print q p) o false ≡ true
is_of_print p o e = ap (λ o. option_map_or (λ q. same_print q p) o false) e ∙ (same_print-Decides p p).1 refl

-- the body that a search by print finds
pub body_found : (p : Print) (bodies : Numbered BodyRow) (id : ℕ) → body_with p bodies ≡ Some id → HasBody bodies id p
body_found p bodies id e = by (find (λ x. has_print p x.1) bodies) refl e
  where
    by : (o : Option (ℕ × BodyRow)) → find (λ x. has_print p x.1) bodies ≡ o → option_map (λ x. x.0) o ≡ Some id → HasBody bodies id p
    by None f is = cc
    by (Some x) f is =
        let it = found (λ x. has_print p x.1) bodies x f in
        record { body = x; within = it.within; number = same_Some x.0 id is; print = of_print p x.1.print it.passes }

pub no_body_found : (p : Print) (bodies : Numbered BodyRow) → body_with p bodies ≡ None → (x : ℕ × BodyRow) → Contains bodies x → x.1.print ≢ Some p
no_body_found p bodies e x h is =
    false≢true (sym (none_found (λ x. has_print p x.1) bodies (none_of_map (λ x. x.0) (find (λ x. has_print p x.1) bodies) e) x h) ∙ is_of_print p x.1.print is)

-- bodies of one print have the same number
pub same_number : (t : Tables) → AreStored t → (a b : ℕ) (p : Print) → HasBody t.bodies a p → HasBody t.bodies b p → a ≡ b
same_number t h a b p x y =
    let one : x.body ≡ y.body =
    apart_same (λ x y. x.1.print ≢ y.1.print) t.bodies h.apart x.body y.body x.within y.within
    (λ apart. apart (x.print ∙ sym y.print)) (λ apart. apart (y.print ∙ sym x.print)) in
    sym x.number ∙ ap (λ x. x.0) one ∙ y.number

-- the print of a body is that of its bytes
pub its_print : (t : Tables) → AreStored t → (id : ℕ) → has_body t id ≡ true → HasBody t.bodies id (print_of (bytes_of t id))
its_print t h id is =
    let row = row_of_body t id is in
    record {
      body = row.body;
      within = row.within;
      number = row.number;
      print = All-contains (λ x. x.1.print ≡ Some (print_of (bytes_of t x.0))) t.bodies row.body h.whole row.within ∙ ap (λ n. Some (print_of (bytes_of t n))) row.number;
    }

print_is : (t : Tables) → AreStored t → (id : ℕ) (p : Print) → HasBody t.bodies id p → print_of (bytes_of t id) ≡ p
print_is t h id p x =
    same_Some _ p (
    ap (λ n. Some (print_of (bytes_of t n))) (sym x.number)
    ∙ sym (All-contains (λ x. x.1.print ≡ Some (print_of (bytes_of t x.0))) t.bodies x.body h.whole x.within)
    ∙ x.print
    )

-- a number is that of the body of a print exactly if its bytes have this print
pub by_number : (t : Tables) → AreStored t → (p : Print) (found : ℕ) → body_with p t.bodies ≡ Some found → (id : ℕ) → has_body t id ≡ true
    → nat_eq id found ≡ same_print (print_of (bytes_of t id)) p
by_number t h p found e id is =
    let with_print = body_found p t.bodies found e in
    same_from_decides {P = id ≡ found} (nat_eq id found) (same_print (print_of (bytes_of t id)) p) (Decides-eqb id found)
    (Decides-like (same_print (print_of (bytes_of t id)) p)
    (λ same. same_number t h id found p (subst (HasBody t.bodies id) same (its_print t h id is)) with_print)
    (λ same. ap (λ n. print_of (bytes_of t n)) same ∙ print_is t h found p with_print)
    (same_print-Decides (print_of (bytes_of t id)) p))

-- no body has a print that no search finds
pub of_no_print : (t : Tables) → AreStored t → (p : Print) → body_with p t.bodies ≡ None → (id : ℕ) → has_body t id ≡ true
    → same_print (print_of (bytes_of t id)) p ≡ false
of_no_print t h p e id is =
    let it = its_print t h id is in
    false_from_ne_true _ (λ same. no_body_found p t.bodies e it.body it.within (it.print ∙ ap Some ((same_print-Decides (print_of (bytes_of t id)) p).0 same)))

-- ---- bodies that are used

-- an arrival has the body of this number, or a file does
abbrev pub arrival_has : Tables → ℕ → Bool
arrival_has t id = list_any (λ a. nat_eq a.body id) (rows_of t.arrivals)

abbrev pub file_has : Tables → ℕ → Bool
file_has t id = list_any (λ f. nat_eq f.body id) (rows_of t.files)

pub used_by : (t : Tables) (id : ℕ) → is_used t id ≡ (arrival_has t id || file_has t id)
unfolding is_used
used_by t id =
    list_any-append (λ n. nat_eq n id) (map (λ (a : ArrivalRow). a.body) (rows_of t.arrivals)) (map (λ (f : File). f.body) (rows_of t.files))
    ∙ ap₂ ◌||◌ (list_any-map (λ (a : ArrivalRow). a.body) (λ n. nat_eq n id) (rows_of t.arrivals)) (list_any-map (λ (f : File). f.body) (λ n. nat_eq n id) (rows_of t.files))

pub arrived_used : (t : Tables) (id : ℕ) → arrival_has t id ≡ true → is_used t id ≡ true
arrived_used t id e = used_by t id ∙ or_left (arrival_has t id) (file_has t id) e

pub filed_used : (t : Tables) (id : ℕ) → file_has t id ≡ true → is_used t id ≡ true
filed_used t id e = used_by t id ∙ or_right (arrival_has t id) (file_has t id) e

-- the body of each arrival and of each file is used
pub its_arrival : (t : Tables) (a : ArrivalRow) → Contains (rows_of t.arrivals) a → is_used t a.body ≡ true
its_arrival t a c = arrived_used t a.body (any_true (λ b. nat_eq b.body a.body) (rows_of t.arrivals) a c (eq-eqb a.body a.body refl))

pub its_file : (t : Tables) (f : File) → Contains (rows_of t.files) f → is_used t f.body ≡ true
its_file t f c = filed_used t f.body (any_true (λ g. nat_eq g.body f.body) (rows_of t.files) f c (eq-eqb f.body f.body refl))

-- what is used is still used if the arrivals and the files that have it stay
pub used_on : (t after : Tables) (id : ℕ) → (arrival_has t id ≡ true → arrival_has after id ≡ true) → (file_has t id ≡ true → file_has after id ≡ true)
    → is_used t id ≡ true → is_used after id ≡ true
used_on t after id arrivals files used = elim (or_cases (arrival_has t id) (file_has t id) (sym (used_by t id) ∙ used)) [
  | inl e ↦ arrived_used after id (arrivals e)
  | inr e ↦ filed_used after id (files e)
]

-- ---- one more body

-- The bytes are stored under this number, and what was there is there as before.
pub record Stores (t now : Tables) (bytes : List ℕ) (id : ℕ) : Type 0 where
  pub stored : AreStored now
  pub found : body_with (print_of bytes) now.bodies ≡ Some id
  pub bytes_are : bytes_of now id ≡ bytes
  pub bytes_kept : (n : ℕ) → has_body t n ≡ true → bytes_of now n ≡ bytes_of t n
  pub print_kept : (n : ℕ) → has_body t n ≡ true → print_at now n ≡ print_at t n
  pub body_kept : (n : ℕ) → has_body t n ≡ true → has_body now n ≡ true
  pub arrivals_kept : now.arrivals ≡ t.arrivals
  pub files_kept : now.files ≡ t.files
  pub others : (x : ℕ × BodyRow) → Contains now.bodies x → Contains t.bodies x ⊎ (x.0 ≡ id)

module _ (t : Tables) (up : Rises t.bodies) (h : AreStored t) (bytes : List ℕ) (p : Print) (is : p ≡ print_of bytes) (absent : body_with p t.bodies ≡ None) where
  abbrev next : ℕ
  next = next_in t.bodies

  abbrev new_body : BodyRow
  new_body = record { print = Some p }

  abbrev now : Tables
  now = record t { bodies = added t.bodies new_body; pieces = pieces_with (pieces_for next bytes) t.pieces }

  is_not_next : (n : ℕ) → has_body t n ≡ true → n ≢ next
  is_not_next n old same = let row = row_of_body t n old in let lt = is_below_next t.bodies up row.body row.within in absurd (omega (arith, row.number))

  rows_are : rows_of now.pieces ≡ rows_of t.pieces ++ pieces_for next bytes
  rows_are = rows_with (pieces_for next bytes) t.pieces

  -- the pieces of a body in the order of the rows
  abbrev rows_about : Tables → ℕ → List Piece
  rows_about u n = filter (is_of n) (rows_of u.pieces)

  filtered : (n : ℕ) → rows_about now n ≡ rows_about t n ++ filter (is_of n) (pieces_for next bytes)
  filtered n = ap (filter (is_of n)) rows_are ∙ filter-append (is_of n) (rows_of t.pieces) (pieces_for next bytes)

  old_pieces : (n : ℕ) → has_body t n ≡ true → pieces_of now n ≡ pieces_of t n
  old_pieces n old = ap (sorted_by piece_order) (filtered n ∙ ap (λ l. rows_about t n ++ l) (other_pieces n next bytes (is_not_next n old)) ∙ append-nil (rows_about t n))

  free : rows_about t next ≡ []
  free = none_kept (is_of next) (rows_of t.pieces)
      (λ q c. ne_eqb q.body next (is_not_next q.body (All-contains (λ q. IsTrue (has_body t q.body)) (rows_of t.pieces) q h.owned c)))

  new_pieces : pieces_of now next ≡ pieces_for next bytes
  new_pieces = ap (sorted_by piece_order) (filtered next ∙ ap₂ ◌++◌ free (own_pieces next bytes)) ∙ pieces_in_order next bytes

  old_bytes : (n : ℕ) → has_body t n ≡ true → bytes_of now n ≡ bytes_of t n
  unfolding bytes_of
  old_bytes n old = ap (flat_map (λ p. p.bytes)) (old_pieces n old)

  new_bytes : bytes_of now next ≡ bytes
  unfolding bytes_of
  new_bytes = ap (flat_map (λ p. p.bytes)) new_pieces ∙ pieces_joined next bytes

  old_row : (x : ℕ × BodyRow) → Contains t.bodies x → Contains now.bodies x
  old_row x c = Contains-append_left t.bodies ((next, new_body) ∷ []) x c

  old_body : (n : ℕ) → has_body t n ≡ true → has_body now n ≡ true
  old_body n old = let row = row_of_body t n old in has_body_if now n (record { body = row.body; within = old_row row.body row.within; number = row.number })

  new_row : has_body now next ≡ true
  new_row = has_row now (next, new_body) (Contains-push t.bodies (next, new_body))

  old_print : (n : ℕ) → has_body t n ≡ true → print_at now n ≡ print_at t n
  old_print n old =
      let row = row_of_body t n old in
      let any : list_any (λ x. nat_eq x.0 n) t.bodies ≡ true = any_true (λ x. nat_eq x.0 n) t.bodies row.body row.within (eq-eqb row.body.0 n row.number) in
      ap (option_and_then (λ x. x.1.print)) (find-append (λ x. nat_eq x.0 n) t.bodies ((next, new_body) ∷ []) ∙ first_stays _ _ (is_some_of_find (λ x. nat_eq x.0 n) t.bodies ∙ any))
    where
      first_stays : {X : Type 0} (o other : Option X) → is_some o ≡ true → option_or o other ≡ o
      first_stays None other e = cc
      first_stays (Some x) other e = refl

  new_found : body_with p now.bodies ≡ Some next
  new_found =
      ap (option_map (λ x. x.0)) (
      find-append (λ x. has_print p x.1) t.bodies ((next, new_body) ∷ [])
      ∙ ap₂ option_or (none_of_map (λ x. x.0) (find (λ x. has_print p x.1) t.bodies) absent) (ap (λ b. cond b (Some (next, new_body)) None) (is_of_print p (Some p) refl))
      )

  stays_stored : AreStored now
  stays_stored = record {
    whole = All-push (λ x. x.1.print ≡ Some (print_of (bytes_of now x.0))) t.bodies (next, new_body)
        (all_if _ t.bodies (λ x c. All-contains (λ x. x.1.print ≡ Some (print_of (bytes_of t x.0))) t.bodies x h.whole c ∙ ap (λ l. Some (print_of l)) (sym (old_bytes x.0 (has_row t x c)))))
        (ap Some is ∙ ap (λ l. Some (print_of l)) (sym new_bytes));
    pieces = All-push (λ x. pieces_of now x.0 ≡ pieces_for x.0 (bytes_of now x.0)) t.bodies (next, new_body)
        (all_if _ t.bodies (λ x c.
        old_pieces x.0 (has_row t x c)
        ∙ All-contains (λ x. pieces_of t x.0 ≡ pieces_for x.0 (bytes_of t x.0)) t.bodies x h.pieces c
        ∙ ap (pieces_for x.0) (sym (old_bytes x.0 (has_row t x c)))))
        (new_pieces ∙ ap (pieces_for next) (sym new_bytes));
    apart = all_pairs_push (λ x y. x.1.print ≢ y.1.print) t.bodies (next, new_body) h.apart
        (λ k d lt. no_body_found p t.bodies absent (get_or t.bodies k d) (Contains-get_or t.bodies k d lt));
    owned = All-same (λ q. IsTrue (has_body now q.body)) (rows_of now.pieces) (rows_of t.pieces ++ pieces_for next bytes) rows_are
        (All-append (λ q. IsTrue (has_body now q.body)) (rows_of t.pieces) (pieces_for next bytes)
        (All-weaker (λ q. IsTrue (has_body t q.body)) _ (λ q. old_body q.body) (rows_of t.pieces) h.owned)
        (All-weaker (λ q. q.body ≡ next) _ (λ q e. subst (λ n. IsTrue (has_body now n)) (sym e) new_row) (pieces_for next bytes) (pieces_of_one next bytes)));
  }

  new_stored : Stores t now bytes next
  new_stored = record {
    stored = stays_stored;
    found = subst (λ p. body_with p now.bodies ≡ Some next) is new_found;
    bytes_are = new_bytes;
    bytes_kept = old_bytes;
    print_kept = old_print;
    body_kept = old_body;
    arrivals_kept = refl;
    files_kept = refl;
    others = λ x c. row_or_new x (Contains-push_cases t.bodies (next, new_body) x c);
  }
    where
      row_or_new : (x : ℕ × BodyRow) → Contains t.bodies x ⊎ ((next, new_body) ≡ x) → Contains t.bodies x ⊎ (x.0 ≡ next)
      row_or_new x (inl c) = inl c
      row_or_new x (inr e) = inr (sym (ap (λ x. x.0) e))

-- the number under which the bytes are stored
pub number_for : List ℕ → Tables → ℕ
number_for bytes t = elim (body_with (print_of bytes) t.bodies) as (λ o. ℕ) [ None ↦ next_in t.bodies | Some id ↦ id ]

-- bytes are stored already, if a body of their print has them, or are stored now
pub stores : (t : Tables) → Rises t.bodies → AreStored t → (bytes : List ℕ) → ((found : ℕ) → body_with (print_of bytes) t.bodies ≡ Some found → bytes_of t found ≡ bytes)
    → (id : ℕ) × Stores t (with_bytes (print_of bytes) bytes t) bytes id
unfolding with_bytes
stores t up h bytes same = by (body_with (print_of bytes) t.bodies) refl
  where
    by : (o : Option ℕ) → body_with (print_of bytes) t.bodies ≡ o → (id : ℕ) × Stores t (with_bytes (print_of bytes) bytes t) bytes id
    by None e = rw (e, only_pieces (pieces_for (next_in t.bodies) bytes) (with_body (record { print = Some (print_of bytes) }) t)) (next_in t.bodies, new_stored t up h bytes (print_of bytes) refl e)
    by (Some id) e = rw e (
      id,
      record {
        stored = h;
        found = e;
        bytes_are = same id e;
        bytes_kept = λ n old. refl;
        print_kept = λ n old. refl;
        body_kept = λ n old. old;
        arrivals_kept = refl;
        files_kept = refl;
        others = λ x c. inl c;
      },
    )
