-- The uploads that are due, as the book has them and as the tables do.
use Rattle.std.proofs.Common.{◌≡◌, ℕ, suc, ◌+◌, ◌<◌, Bool, true, false, not, ◌&&◌, ◌||◌, cond, if◌then◌else◌, List, [], ◌∷◌, map, filter, find, length, zero, Option, Some, None, Result, Ok, Err, unwrap_or, refl, ap, sym, subst, ◌∙◌, arith, bytes_eq, nat_eq, IsTrue}
use Rattle.std.specs.Prelude.{◌≢◌}
use Rattle.std.specs.List.{AllByRecursion, AllPairs, cons_option, filter_map, list_all, list_any}
use Rattle.std.specs.Option.{option_and_then, option_map, option_map_or}
use Rattle.std.specs.Result.{result_ok}
use Rattle.std.specs.Ordering.{is_gt}
use Rattle.std.proofs.lemmas.Bool.{false≢true, and_parts}
use Rattle.std.proofs.lemmas.Bool.Decides.{Decides-eqb}
use Rattle.std.proofs.lemmas.List.Elements.{recursion_from_All}
use Rattle.records.specs.Records.{changes_in}
use Rattle.records.specs.Values.{ChangesValue}
use Rattle.records.specs.declared.fault.RecordFault.{RecordFault}
use Rattle.sums.specs.Prints.{print as print_of, same_print}
use Rattle.sums.specs.declared.entries.Entry.{Entry}
use Rattle.sums.specs.declared.print.Print.{Print}
use Rattle.suites.specs.Upload.{UploadValue, has_text}
use Rattle.book.specs.Book.{Book, Candidate, body_for, candidate_of, candidate_order, candidates, due, in_order, is_body_of, is_complete, is_judged, is_there, missing, put_in_order, unjudged, upload_of}
use Rattle.sums.specs.FileNames.{is_changes_name}
use Rattle.book.specs.declared.arrival.Arrival.{Arrival}
use Rattle.book.proofs.Lists.{all_filter}
use Rattle.book.proofs.Prints.{same_print-Decides}
use Rattle.tables.specs.Bodies.{body_with, has_print}
use Rattle.tables.specs.Rows.{Tables, Numbered, Rises, rows_of}
use Rattle.tables.specs.declared.rows.ArrivalRow.{ArrivalRow}
use Rattle.tables.specs.declared.rows.BodyRow.{BodyRow}
use Rattle.tables.specs.declared.rows.UploadRow.{UploadRow}
use Rattle.tables_meaning.specs.Kept.{AreArrivals, AreStored, AreUploads, arrival_in, arrivals_in, bytes_of, has_body, request_in, request_of}
use Rattle.tables_meaning.specs.Reads.{bytes_with, due_in, missing_in, text_in, wanting_rows, upload_in, upload_with}
use Rattle.tables_meaning.proofs.OrderLemmas.{unjudged_requests}
use Rattle.tables_meaning.proofs.WaitingLemmas.{missing_in-wants, missing-wants, missing_wants}

-- ---- a body by its print

apart_head : {X : Type 0} (R : X → X → Type 0) (x : X) (xs : List X) → AllPairs R (x ∷ xs) → AllByRecursion (R x) xs
apart_head R x xs h = recursion_from_All (R x) xs (λ k d within. h 0 (suc k) d (omega arith) (omega (arith, within)))

apart_tail : {X : Type 0} (R : X → X → Type 0) (x : X) (xs : List X) → AllPairs R (x ∷ xs) → AllPairs R xs
apart_tail R x xs h = λ i j d p q. h (suc i) (suc j) d (omega (arith, p)) (omega (arith, q))

has_print_is : (p : Print) (x : BodyRow) → has_print p x ≡ true → x.print ≡ Some p
has_print_is p x e = go x.print e
  where
    go : (o : Option Print) → option_map_or (λ q. same_print q p) o false ≡ true → o ≡ Some p
    go None e = cc
    go (Some q) e = ap Some ((same_print-Decides q p).0 e)

has_print_of : (p : Print) (x : BodyRow) → x.print ≡ Some p → has_print p x ≡ true
has_print_of p x e = ap (λ o. option_map_or (λ q. same_print q p) o false) e ∙ (same_print-Decides p p).1 refl

not_zero : (n : ℕ) → nat_eq (suc n) 0 ≡ false
not_zero n = go (nat_eq (suc n) 0) refl
  where
    go : (b : Bool) → nat_eq (suc n) 0 ≡ b → b ≡ false
    go true e = let none : suc n ≡ 0 = (Decides-eqb (suc n) 0).0 e in absurd (omega (arith, none))
    go false e = refl

module _ (t : Tables) where
  -- the print of the row is that of its body
  abbrev IsWhole : ℕ × BodyRow → Type 0
  IsWhole x = x.1.print ≡ Some (print_of (bytes_of t x.0))

  -- if no row has the print of this body, none has its number
  none_numbered : (id : ℕ) (bodies : Numbered BodyRow) → AllByRecursion IsWhole bodies → AllByRecursion (λ y. y.1.print ≢ Some (print_of (bytes_of t id))) bodies
      → list_any (λ x. nat_eq x.0 id) bodies ≡ false
  none_numbered id [] whole others = refl
  none_numbered id (x ∷ xs) whole others =
      elim (nat_eq x.0 id) as (λ b. nat_eq x.0 id ≡ b → b || list_any (λ y. nat_eq y.0 id) xs ≡ false) [
        | true ↦ λ e. absurd (others.0 (whole.0 ∙ ap (λ n. Some (print_of (bytes_of t n))) ((Decides-eqb x.0 id).0 e)))
        | false ↦ λ e. none_numbered id xs whole.1 others.1
      ] refl

  -- what differs from a row with this print has another print
  others_differ : (p : Print) (x : ℕ × BodyRow) (xs : Numbered BodyRow) → x.1.print ≡ Some p → AllByRecursion (λ y. x.1.print ≢ y.1.print) xs → AllByRecursion (λ y. y.1.print ≢ Some p) xs
  others_differ p x [] is h = tt
  others_differ p x (y ∷ ys) is h = (λ e. h.0 (is ∙ sym e), others_differ p x ys is h.1)

  -- the row with the number of a body and its print is this one
  same_number : (id : ℕ) (x : ℕ × BodyRow) (xs : Numbered BodyRow) → AllByRecursion IsWhole xs → AllByRecursion (λ y. x.1.print ≢ y.1.print) xs → x.1.print ≡ Some (print_of (bytes_of t id))
      → nat_eq x.0 id || list_any (λ y. nat_eq y.0 id) xs ≡ true → x.0 ≡ id
  same_number id x xs whole apart is there = go (nat_eq x.0 id) refl
    where
      go : (b : Bool) → nat_eq x.0 id ≡ b → x.0 ≡ id
      go true e = (Decides-eqb x.0 id).0 e
      go false e = absurd (false≢true (sym (none_numbered id xs whole (others_differ _ x xs is apart)) ∙ ap (λ b. b || list_any (λ y. nat_eq y.0 id) xs) (sym e) ∙ there))

  -- a row with another print has another number
  number_later : (id : ℕ) (x : ℕ × BodyRow) (xs : Numbered BodyRow) → IsWhole x → has_print (print_of (bytes_of t id)) x.1 ≡ false
      → nat_eq x.0 id || list_any (λ y. nat_eq y.0 id) xs ≡ true → list_any (λ y. nat_eq y.0 id) xs ≡ true
  number_later id x xs whole other there = go (nat_eq x.0 id) refl
    where
      go : (b : Bool) → nat_eq x.0 id ≡ b → list_any (λ y. nat_eq y.0 id) xs ≡ true
      go true e = absurd (false≢true (sym other ∙ has_print_of (print_of (bytes_of t id)) x.1 (whole ∙ ap (λ n. Some (print_of (bytes_of t n))) ((Decides-eqb x.0 id).0 e))))
      go false e = ap (λ b. b || list_any (λ y. nat_eq y.0 id) xs) (sym e) ∙ there

  -- a body is found by its print
  found_by_print : (id : ℕ) (bodies : Numbered BodyRow) → AllByRecursion IsWhole bodies → AllPairs (λ x y. x.1.print ≢ y.1.print) bodies → list_any (λ x. nat_eq x.0 id) bodies ≡ true
      → option_map (bytes_of t) (body_with (print_of (bytes_of t id)) bodies) ≡ Some (bytes_of t id)
  found_by_print id [] whole apart there = cc
  found_by_print id (x ∷ xs) whole apart there =
      let p = print_of (bytes_of t id) in
      let R : ℕ × BodyRow → ℕ × BodyRow → Type 0 = λ x y. x.1.print ≢ y.1.print in
      elim (has_print p x.1) as (λ b. has_print p x.1 ≡ b → option_map (bytes_of t) (option_map (λ y. y.0) (cond b (Some x) (find (λ y. has_print p y.1) xs))) ≡ Some (bytes_of t id)) [
        | true ↦ λ e. ap (λ n. Some (bytes_of t n)) (same_number id x xs whole.1 (apart_head R x xs apart) (has_print_is p x.1 e) there)
        | false ↦ λ e. found_by_print id xs whole.1 (apart_tail R x xs apart) (number_later id x xs whole.0 e there)
      ] refl

  -- the bodies that arrived are found by their prints
  abbrev IsFound : List ℕ → Type 0
  IsFound body = bytes_with t (print_of body) ≡ Some body

  body_found : AreStored t → (id : ℕ) → has_body t id ≡ true → IsFound (bytes_of t id)
  unfolding bytes_with has_body
  body_found bodies id there = found_by_print id t.bodies (recursion_from_All _ t.bodies bodies.whole) bodies.apart there

  pub arrivals_found : AreStored t → AreArrivals t → AllByRecursion (λ a. IsFound a.body) (arrivals_in t)
  unfolding arrivals_in
  arrivals_found bodies arrivals = go (rows_of t.arrivals) (recursion_from_All _ (rows_of t.arrivals) arrivals.bodies)
    where
      go : (rows : List ArrivalRow) → AllByRecursion (λ a. IsTrue (has_body t a.body)) rows → AllByRecursion (λ a. IsFound a.body) (map (arrival_in t) rows)
      go [] h = tt
      go (a ∷ rows) h = (body_found bodies a.body h.0, go rows h.1)

  -- ---- the texts of an upload

  -- the body that arrived for a listed file is that of its print
  body_for_found : (arrivals : List Arrival) → AllByRecursion (λ a. IsFound a.body) arrivals → (e : Entry) → is_there arrivals e ≡ true → bytes_with t e.print ≡ Some (body_for arrivals e)
  unfolding is_there body_for is_body_of
  body_for_found [] found e there = cc
  body_for_found (a ∷ arrivals) found e there =
      elim (bytes_eq a.name e.name && same_print (print_of a.body) e.print) as (λ b. bytes_eq a.name e.name && same_print (print_of a.body) e.print ≡ b → b || list_any (is_body_of e) arrivals ≡ true
      → bytes_with t e.print ≡ Some (unwrap_or (option_map (λ x. x.body) (cond b (Some a) (find (is_body_of e) arrivals))) [])) [
        | true ↦ λ same there. ap (bytes_with t) (sym ((same_print-Decides (print_of a.body) e.print).0 (and_parts (bytes_eq a.name e.name) (same_print (print_of a.body) e.print) same).1)) ∙ found.0
        | false ↦ λ same there. body_for_found arrivals found.1 e there
      ] refl there

  text_is : (arrivals : List Arrival) → AllByRecursion (λ a. IsFound a.body) arrivals → (e : Entry) → is_there arrivals e ≡ true
      → text_in t e ≡ (if has_text e.name then body_for arrivals e else [])
  unfolding text_in
  text_is arrivals found e there =
      ap (λ o. if has_text e.name then unwrap_or o [] else []) (body_for_found arrivals found e there)

  texts_are : (arrivals : List Arrival) → AllByRecursion (λ a. IsFound a.body) arrivals → (entries : List Entry) → list_all (is_there arrivals) entries ≡ true
      → map (text_in t) entries ≡ map (λ e. if has_text e.name then body_for arrivals e else []) entries
  texts_are arrivals found [] all = refl
  texts_are arrivals found (e ∷ entries) all =
      ap (λ x. x ∷ map (text_in t) entries) (text_is arrivals found e (and_parts (is_there arrivals e) _ all).0)
      ∙ ap (λ xs. (if has_text e.name then body_for arrivals e else []) ∷ xs) (texts_are arrivals found entries (and_parts (is_there arrivals e) _ all).1)

  -- ---- an upload

  -- the body of the .changes is found by its print, and is its record
  record IsRead (c : Candidate) : Type 0 where
    body : IsFound c.body
    changes : changes_in c.body ≡ Ok c.changes

  upload_is : (arrivals : List Arrival) → AllByRecursion (λ a. IsFound a.body) arrivals → (u : UploadRow) (c : Candidate) → IsRead c → is_complete arrivals c ≡ true
      → u.name ≡ c.name → u.print ≡ print_of c.body → upload_in t u ≡ Some (upload_of arrivals c)
  unfolding upload_in upload_of is_complete
  upload_is arrivals found u c read all name print =
      ap (λ o. option_and_then (λ body. option_map (upload_with t u) (result_ok (changes_in body))) o) (ap (bytes_with t) print ∙ read.body)
      ∙ ap (λ r. option_map (upload_with t u) (result_ok r)) read.changes
      ∙ ap (λ n. Some (made n u.print (map (text_in t) c.changes.entries))) name
      ∙ ap (λ p. Some (made c.name p (map (text_in t) c.changes.entries))) print
      ∙ ap (λ texts. Some (made c.name (print_of c.body) texts)) (texts_are arrivals found c.changes.entries all)
    where
      made : List ℕ → Print → List (List ℕ) → UploadValue
      made n p texts = record { name = n; print = p; changes = c.changes; texts = texts }

  none_missing : {X : Type 0} (p : X → Bool) (xs : List X) → nat_eq (length (filter (λ x. not (p x)) xs)) 0 ≡ list_all p xs
  none_missing p [] = refl
  none_missing p (x ∷ xs) = elim (p x) as (λ b. nat_eq (length (cond (not b) (x ∷ filter (λ y. not (p y)) xs) (filter (λ y. not (p y)) xs))) 0 ≡ b && list_all p xs) [
    | true ↦ none_missing p xs
    | false ↦ not_zero (length (filter (λ y. not (p y)) xs))
  ]

  complete_if_none : (arrivals : List Arrival) (c : Candidate) → nat_eq (length (missing arrivals c)) 0 ≡ is_complete arrivals c
  unfolding missing is_complete
  complete_if_none arrivals c = none_missing (is_there arrivals) c.changes.entries

  abbrev due_of : List Arrival → Candidate → Option UploadValue
  due_of arrivals c = if is_complete arrivals c then Some (upload_of arrivals c) else None

  due_is : (arrivals : List Arrival) → AllByRecursion (λ a. IsFound a.body) arrivals → (x : ℕ × UploadRow) (c : Candidate) → IsRead c
      → request_in t x ≡ request_of arrivals c → due_in t x ≡ due_of arrivals c
  due_is arrivals found x c read same =
      ap (λ n. if nat_eq n 0 then upload_in t x.1 else None) (missing_in-wants t x.0 ∙ ap (λ r. missing_wants r.1) same ∙ sym (missing-wants arrivals c))
      ∙ ap (λ b. if b then upload_in t x.1 else None) (complete_if_none arrivals c)
      ∙ elim (is_complete arrivals c) as (λ b. is_complete arrivals c ≡ b → (if b then upload_in t x.1 else None) ≡ (if b then Some (upload_of arrivals c) else None)) [
        | true ↦ λ e. upload_is arrivals found x.1 c read e (ap (λ r. r.0.0) same) (ap (λ r. r.0.1) same)
        | false ↦ λ e. refl
      ] refl

  dues_are : (arrivals : List Arrival) → AllByRecursion (λ a. IsFound a.body) arrivals → (rows : Numbered UploadRow) (cs : List Candidate) → AllByRecursion IsRead cs
      → map (request_in t) rows ≡ map (request_of arrivals) cs → filter_map (due_in t) rows ≡ filter_map (due_of arrivals) cs
  dues_are arrivals found [] [] read same = refl
  dues_are arrivals found [] (c ∷ cs) read same = cc
  dues_are arrivals found (x ∷ rows) [] read same = cc
  dues_are arrivals found (x ∷ rows) (c ∷ cs) read same =
      let first : request_in t x ≡ request_of arrivals c = cc in
      let rest : map (request_in t) rows ≡ map (request_of arrivals) cs = cc in
      ap (λ o. cons_option o (filter_map (due_in t) rows)) (due_is arrivals found x c read.0 first)
      ∙ ap (cons_option (due_of arrivals c)) (dues_are arrivals found rows cs read.1 rest)

  -- ---- the candidates

  read_candidate : (a : Arrival) → IsFound a.body → (b : Bool) (cs : List Candidate) → AllByRecursion IsRead cs
      → AllByRecursion IsRead (cons_option (if b then option_map (λ c. record { name = a.name; body = a.body; changes = c }) (result_ok (changes_in a.body)) else None) cs)
  read_candidate a found false cs rest = rest
  read_candidate a found true cs rest = go (changes_in a.body) refl
    where
      made : ChangesValue → Candidate
      made c = record { name = a.name; body = a.body; changes = c }

      go : (r : Result ChangesValue RecordFault) → changes_in a.body ≡ r → AllByRecursion IsRead (cons_option (option_map made (result_ok (changes_in a.body))) cs)
      go (Ok c) is = subst (λ r. AllByRecursion IsRead (cons_option (option_map made (result_ok r)) cs)) (sym is) (record { body = found; changes = is }, rest)
      go (Err e) is = subst (λ r. AllByRecursion IsRead (cons_option (option_map made (result_ok r)) cs)) (sym is) rest

  read_candidates : (arrivals : List Arrival) → AllByRecursion (λ a. IsFound a.body) arrivals → AllByRecursion IsRead (candidates arrivals)
  unfolding candidate_of
  read_candidates [] found = tt
  read_candidates (a ∷ arrivals) found = read_candidate a found.0 (is_changes_name a.name) (candidates arrivals) (read_candidates arrivals found.1)

all_put : (P : Candidate → Type 0) (c : Candidate) (cs : List Candidate) → P c → AllByRecursion P cs → AllByRecursion P (put_in_order c cs)
all_put P c [] h hs = (h, tt)
all_put P c (d ∷ ds) h hs = elim (is_gt (candidate_order c d)) as (λ b. AllByRecursion P (if b then d ∷ put_in_order c ds else c ∷ d ∷ ds)) [
  | true ↦ (hs.0, all_put P c ds h hs.1)
  | false ↦ (h, hs)
]

all_in_order : (P : Candidate → Type 0) (cs : List Candidate) → AllByRecursion P cs → AllByRecursion P (in_order cs)
all_in_order P [] h = tt
all_in_order P (c ∷ cs) h = all_put P c (in_order cs) h.0 (all_in_order P cs h.1)

filter_map_chosen : {X Y : Type 0} (p : X → Bool) (f : X → Y) (xs : List X) → filter_map (λ x. if p x then Some (f x) else None) xs ≡ map f (filter p xs)
filter_map_chosen p f [] = refl
filter_map_chosen p f (x ∷ xs) = elim (p x) as (λ b. cons_option (if b then Some (f x) else None) (filter_map (λ x. if p x then Some (f x) else None) xs) ≡ map f (cond b (x ∷ filter p xs) (filter p xs))) [
  | true ↦ ap (λ ys. f x ∷ ys) (filter_map_chosen p f xs)
  | false ↦ filter_map_chosen p f xs
]

-- the uploads that are due are the same in both, in the same order
pub due_are : (t : Tables) (b : Book) → b.arrivals ≡ arrivals_in t → Rises t.uploads → AreUploads t b.judged → AreStored t → AreArrivals t
    → filter_map (due_in t) (wanting_rows t) ≡ map (upload_of b.arrivals) (due b)
unfolding due unjudged
due_are t b same up uploads bodies arrivals =
    let found = subst (AllByRecursion (λ a. bytes_with t (print_of a.body) ≡ Some a.body)) (sym same) (arrivals_found t bodies arrivals) in
    let chosen = filter (λ c. not (is_judged b.judged c)) (candidates b.arrivals) in
    let read = all_in_order (IsRead t) chosen (all_filter (IsRead t) (λ c. not (is_judged b.judged c)) (candidates b.arrivals) (read_candidates t b.arrivals found)) in
    dues_are t b.arrivals found (wanting_rows t) (in_order chosen) read (unjudged_requests t b same up uploads)
    ∙ filter_map_chosen (is_complete b.arrivals) (upload_of b.arrivals) (in_order chosen)

-- an upload that is read is the one of the row
pub upload_read : (t : Tables) (u : UploadRow) (body : List ℕ) (changes : ChangesValue) (texts : List (List ℕ)) {made : UploadValue}
    → bytes_with t u.print ≡ Some body → changes_in body ≡ Ok changes → texts ≡ map (text_in t) changes.entries
    → made ≡ record { name = u.name; print = u.print; changes = changes; texts = texts } → upload_in t u ≡ Some made
unfolding upload_in
upload_read t u body changes texts {made} stored read are is =
    ap (option_and_then (λ b. option_map (upload_with t u) (result_ok (changes_in b)))) stored
    ∙ ap (λ r. option_map (upload_with t u) (result_ok r)) read
    ∙ ap (λ ts. Some (record { name = u.name; print = u.print; changes = changes; texts = ts })) (sym are)
    ∙ ap Some (sym is)

pub not_due : (t : Tables) (id : ℕ) (u : UploadRow) (missing : ℕ) → missing ≡ missing_in t id → 0 < missing → None ≡ due_in t (id, u)
not_due t id u missing is some = ap (λ b. if b then upload_in t u else None) (sym (go missing some) ∙ ap (λ n. nat_eq n 0) is)
  where
    go : (n : ℕ) → 0 < n → nat_eq n 0 ≡ false
    go zero h = absurd (omega (arith, h))
    go (suc n) h = not_zero n

pub is_due : (t : Tables) (id : ℕ) (u : UploadRow) (missing : ℕ) {made : UploadValue} → missing ≡ missing_in t id → missing ≡ 0 → upload_in t u ≡ Some made → Some made ≡ due_in t (id, u)
is_due t id u missing {made} is none read = sym read ∙ ap (λ n. if nat_eq n 0 then upload_in t u else None) (sym none ∙ is)
