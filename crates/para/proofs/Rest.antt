-- Reading from the front gives what reading from the back gives.
use Rattle.std.proofs.Common.{◌≡◌, ℕ, ◌+◌, ◌-◌, Bool, true, false, not, List, [], ◌∷◌, ◌++◌, length, drop, get_or, slice_get, map, filter, filter_map, reverse, Option, Some, None, Result, Ok, refl, sym, ◌∙◌, ap, arith, if◌then◌else◌, cond}
use Rattle.std.proofs.lemmas.List.{append-nil, append_assoc, map-append, reverse-append, take_at, get_or_at, drop_all, drop-append-le, length_push}
use Rattle.std.proofs.lemmas.List.Elements.{filter-append}
use Rattle.std.specs.List.{after_last, prefix_len, range_with_len, cons_option}
use Rattle.para.specs.declared.fault.ParaFault.{ParaFault}
use Rattle.para.specs.Bytes.{Line, is_empty, begins_with_blank, is_field_line, name_part}
use Rattle.para.specs.Field.{FieldValue}
use Rattle.para.specs.Fault.{line_fault, or_else, fault_at, first_fault, names_before}
use Rattle.para.specs.Reading.{State, tail, value_part, trimmed, ended, with_paragraph, finished, names_of, continued, after_line, unless, reading}

-- What lines give: the ones that continue a field before them, then the fields after those, then the paragraphs after these.
pub record Rest : Type 0 where
  pub more : List Line
  pub fields : List FieldValue
  pub paragraphs : List (List FieldValue)

-- a paragraph of these fields, if there are any, before these paragraphs
abbrev pub put : List FieldValue → List (List FieldValue) → List (List FieldValue)
put [] ps = ps
put (f ∷ fs) ps = (f ∷ fs) ∷ ps

abbrev pub before_rest : Line → Rest → Rest
before_rest line r =
    if is_empty line then record { more = []; fields = []; paragraphs = put r.fields r.paragraphs }
    else (if begins_with_blank line then record { more = tail line ∷ r.more; fields = r.fields; paragraphs = r.paragraphs }
    else record { more = []; fields = trimmed (record { name = name_part line; first = value_part line; more = r.more }) ∷ r.fields; paragraphs = r.paragraphs })

abbrev pub rest_of : List Line → Rest
rest_of [] = record { more = []; fields = []; paragraphs = [] }
rest_of (line ∷ ls) = before_rest line (rest_of ls)

abbrev pub values_of : List Line → List (List FieldValue)
values_of ls = put (rest_of ls).fields (rest_of ls).paragraphs

-- the names before the next line
abbrev pub names_after : List (List ℕ) → Line → List (List ℕ)
names_after names line = if is_empty line then [] else (if begins_with_blank line then names else names ++ name_part line ∷ [])

-- the first fault of lines that stand after fields of these names and after this number of lines
abbrev pub faults_from : List (List ℕ) → ℕ → List Line → Option ParaFault
faults_from names n [] = None
faults_from names n (line ∷ ls) = or_else (line_fault names (n + 1) line) (faults_from (names_after names line) (n + 1) ls)

abbrev pub completed : Option FieldValue → List Line → List FieldValue
completed None more = []
completed (Some f) more = trimmed (record f { more = f.more ++ more }) ∷ []

abbrev pub joined : State → Rest → List (List FieldValue)
joined s r = s.done ++ put (s.fields ++ (completed s.current r.more ++ r.fields)) r.paragraphs

completed-nil : (fields : List FieldValue) (current : Option FieldValue) → fields ++ completed current [] ≡ ended fields current
completed-nil fields None = append-nil fields
completed-nil fields (Some f) = ap (λ m. fields ++ trimmed (record f { more = m }) ∷ []) (append-nil f.more)

with_paragraph-put : (done ps : List (List FieldValue)) (fs : List FieldValue) → with_paragraph done fs ++ ps ≡ done ++ put fs ps
with_paragraph-put done ps [] = refl
with_paragraph-put done ps (f ∷ fs) = append_assoc done ((f ∷ fs) ∷ []) ps

with_paragraph-nil : (done : List (List FieldValue)) (fs : List FieldValue) → with_paragraph done fs ≡ done ++ put fs []
with_paragraph-nil done [] = sym (append-nil done)
with_paragraph-nil done (f ∷ fs) = refl

joined-end : (s : State) → finished s ≡ joined s (record { more = []; fields = []; paragraphs = [] })
joined-end s = with_paragraph-nil s.done (ended s.fields s.current)
    ∙ ap (λ fs. s.done ++ put fs []) (sym (completed-nil s.fields s.current) ∙ ap (λ x. s.fields ++ x) (sym (append-nil (completed s.current []))))

joined-empty : (s : State) (r : Rest) → joined (record { done = finished s; fields = []; current = None }) r
    ≡ joined s (record { more = []; fields = []; paragraphs = put r.fields r.paragraphs })
joined-empty s r = with_paragraph-put s.done (put r.fields r.paragraphs) (ended s.fields s.current)
    ∙ ap (λ fs. s.done ++ put fs (put r.fields r.paragraphs)) (sym (completed-nil s.fields s.current) ∙ ap (λ x. s.fields ++ x) (sym (append-nil (completed s.current []))))

continued-completed : (current : Option FieldValue) (added : Line) (more : List Line) → completed (continued added current) more ≡ completed current (added ∷ more)
continued-completed None added more = refl
continued-completed (Some f) added more = ap (λ m. trimmed (record f { more = m }) ∷ []) (append_assoc f.more (added ∷ []) more)

joined-field : (s : State) (name first : List ℕ) (r : Rest) → joined (record { done = s.done; fields = ended s.fields s.current; current = Some (record { name = name; first = first; more = [] }) }) r
    ≡ joined s (record { more = []; fields = trimmed (record { name = name; first = first; more = r.more }) ∷ r.fields; paragraphs = r.paragraphs })
joined-field s name first r = ap (λ fs. s.done ++ put fs r.paragraphs)
    (ap (λ x. x ++ (trimmed (record { name = name; first = first; more = r.more }) ∷ r.fields)) (sym (completed-nil s.fields s.current))
    ∙ append_assoc s.fields (completed s.current []) (trimmed (record { name = name; first = first; more = r.more }) ∷ r.fields))

joined-line : (s : State) (line : Line) (r : Rest) → joined (after_line s line) r ≡ joined s (before_rest line r)
joined-line s line r = by_kind (is_empty line) (begins_with_blank line)
  where
    by_kind : (e b : Bool) → joined (if e then record { done = finished s; fields = []; current = None } else (if b then record { done = s.done; fields = s.fields; current = continued (tail line) s.current } else record { done = s.done; fields = ended s.fields s.current; current = Some (record { name = name_part line; first = value_part line; more = [] }) })) r
        ≡ joined s (if e then record { more = []; fields = []; paragraphs = put r.fields r.paragraphs } else (if b then record { more = tail line ∷ r.more; fields = r.fields; paragraphs = r.paragraphs } else record { more = []; fields = trimmed (record { name = name_part line; first = value_part line; more = r.more }) ∷ r.fields; paragraphs = r.paragraphs }))
    by_kind true b = joined-empty s r
    by_kind false true = ap (λ x. s.done ++ put (s.fields ++ (x ++ r.fields)) r.paragraphs) (continued-completed s.current (tail line) r.more)
    by_kind false false = joined-field s (name_part line) (value_part line) r

names-continued : (fields : List FieldValue) (current : Option FieldValue) (added : Line) → map (λ f. f.name) (ended fields (continued added current)) ≡ map (λ f. f.name) (ended fields current)
names-continued fields None added = refl
names-continued fields (Some f) added = map-append (λ (e : FieldValue). e.name) fields (trimmed (record f { more = f.more ++ added ∷ [] }) ∷ []) ∙ sym (map-append (λ (e : FieldValue). e.name) fields (trimmed f ∷ []))

names-line : (s : State) (line : Line) → names_of (after_line s line) ≡ names_after (names_of s) line
names-line s line = by_kind (is_empty line) (begins_with_blank line)
  where
    by_kind : (e b : Bool) → names_of (if e then record { done = finished s; fields = []; current = None } else (if b then record { done = s.done; fields = s.fields; current = continued (tail line) s.current } else record { done = s.done; fields = ended s.fields s.current; current = Some (record { name = name_part line; first = value_part line; more = [] }) }))
        ≡ (if e then [] else (if b then names_of s else names_of s ++ name_part line ∷ []))
    by_kind true b = refl
    by_kind false true = names-continued s.fields s.current (tail line)
    by_kind false false = map-append (λ (e : FieldValue). e.name) (ended s.fields s.current) (trimmed (record { name = name_part line; first = value_part line; more = [] }) ∷ [])

-- reading gives the first fault, or what is read so far with the rest
pub reading-rest : (s : State) (n : ℕ) (ls : List Line) → reading s n ls ≡ unless (faults_from (names_of s) n ls) (Ok (joined s (rest_of ls)))
reading-rest s n [] = ap Ok (joined-end s)
reading-rest s n (line ∷ ls) = ap (unless (line_fault (names_of s) (n + 1) line)) (reading-rest (after_line s line) (n + 1) ls
    ∙ ap (λ x. unless (faults_from x (n + 1) ls) (Ok (joined (after_line s line) (rest_of ls)))) (names-line s line)
    ∙ ap (λ x. unless (faults_from (names_after (names_of s) line) (n + 1) ls) (Ok x)) (joined-line s line (rest_of ls)))
    ∙ unless-or_else (line_fault (names_of s) (n + 1) line) (faults_from (names_after (names_of s) line) (n + 1) ls) (Ok (joined s (before_rest line (rest_of ls))))
  where
    unless-or_else : (a b : Option ParaFault) (read : Result (List (List FieldValue)) ParaFault) → unless a (unless b read) ≡ unless (or_else a b) read
    unless-or_else None b read = refl
    unless-or_else (Some f) b read = refl

after_last-push : (ls : List Line) (line : Line) → after_last is_empty (ls ++ line ∷ []) ≡ (if is_empty line then [] else after_last is_empty ls ++ line ∷ [])
after_last-push ls line = ap (λ x. drop (length (ls ++ line ∷ []) - prefix_len (λ l. not (is_empty l)) x) (ls ++ line ∷ [])) (reverse-append ls (line ∷ []))
    ∙ by_kind (is_empty line)
  where
    by_kind : (e : Bool) → drop (length (ls ++ line ∷ []) - cond (not e) (1 + prefix_len (λ l. not (is_empty l)) (reverse ls)) 0) (ls ++ line ∷ []) ≡ (if e then [] else after_last is_empty ls ++ line ∷ [])
    by_kind true = drop_all (length (ls ++ line ∷ []) - 0) (ls ++ line ∷ []) (omega arith)
    by_kind false =
        let k : ℕ = prefix_len (λ l. not (is_empty l)) (reverse ls) in
        let e : length (ls ++ line ∷ []) - (1 + k) ≡ length ls - k = omega (arith, length_push ls line) in
        ap (λ n. drop n (ls ++ line ∷ [])) e ∙ drop-append-le (length ls - k) ls (line ∷ []) (omega arith)

names_before-push : (before : List Line) (line : Line) → names_before (before ++ line ∷ []) ≡ names_after (names_before before) line
names_before-push before line = ap (λ ls. map name_part (filter is_field_line ls)) (after_last-push before line) ∙ by_kind (is_empty line) (begins_with_blank line) refl refl
  where
    by_kind : (e b : Bool) → is_empty line ≡ e → begins_with_blank line ≡ b → map name_part (filter is_field_line (if e then [] else after_last is_empty before ++ line ∷ []))
        ≡ (if e then [] else (if b then names_before before else names_before before ++ name_part line ∷ []))
    by_kind true b p q = refl
    by_kind false true p q = ap (map name_part) (filter-append is_field_line (after_last is_empty before) (line ∷ []) ∙ (rw (p, q) (append-nil (filter is_field_line (after_last is_empty before)))))
    by_kind false false p q = ap (map name_part) (filter-append is_field_line (after_last is_empty before) (line ∷ []) ∙ (rw (p, q) refl)) ∙ map-append name_part (filter is_field_line (after_last is_empty before)) (line ∷ [])

first_found : (fault : Option ParaFault) (faults : List ParaFault) → slice_get (cons_option fault faults) 0 ≡ or_else fault (slice_get faults 0)
first_found None faults = refl
first_found (Some f) faults = refl

fault_at-here : (before : List Line) (line : Line) (ls : List Line) → fault_at (before ++ line ∷ ls) (length before) ≡ line_fault (names_before before) (length before + 1) line
fault_at-here before line ls =
    ap (λ x. line_fault (names_before x) (length before + 1) (get_or (before ++ line ∷ ls) (length before) [])) (take_at before (line ∷ ls) (length before) refl)
    ∙ ap (line_fault (names_before before) (length before + 1)) (get_or_at before line ls [] (length before) refl)

first_fault-from : (before ls : List Line) → slice_get (filter_map (fault_at (before ++ ls)) (range_with_len (length before) (length ls))) 0 ≡ faults_from (names_before before) (length before) ls
first_fault-from before [] = refl
first_fault-from before (line ∷ ls) =
    first_found (fault_at (before ++ line ∷ ls) (length before)) (filter_map (fault_at (before ++ line ∷ ls)) (range_with_len (length before + 1) (length ls)))
    ∙ ap (λ x. or_else x (slice_get (filter_map (fault_at (before ++ line ∷ ls)) (range_with_len (length before + 1) (length ls))) 0)) (fault_at-here before line ls)
    ∙ ap (or_else (line_fault (names_before before) (length before + 1) line))
    (ap (λ x. slice_get (filter_map (fault_at x) (range_with_len (length before + 1) (length ls))) 0) (sym (append_assoc before (line ∷ []) ls))
    ∙ ap (λ x. slice_get (filter_map (fault_at ((before ++ line ∷ []) ++ ls)) (range_with_len x (length ls))) 0) (sym (length_push before line))
    ∙ first_fault-from (before ++ line ∷ []) ls
    ∙ ap (λ x. faults_from x (length (before ++ line ∷ [])) ls) (names_before-push before line)
    ∙ ap (λ x. faults_from (names_after (names_before before) line) x ls) (length_push before line))

-- the first fault of lines is the one that reading meets
pub first_fault-is : (ls : List Line) → first_fault ls ≡ faults_from [] 0 ls
first_fault-is ls = first_fault-from [] ls
