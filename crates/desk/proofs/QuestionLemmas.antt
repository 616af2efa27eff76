-- The paths of questions.
use Rattle.std.proofs.Common.{◌≡◌, ℕ, ◌+◌, ◌-◌, ◌<◌, Bool, true, false, ◌&&◌, if◌then◌else◌, List, [], ◌∷◌, ◌++◌, length, take, drop, get_or, codes, Some, None, Option, Result, Ok, Err, refl, sym, ap, ap₂, subst, arith, length-append, ◌∙◌}
use Rattle.std.specs.Prelude.{◌==◌, ◌||◌, ⊤}
use Rattle.std.proofs.lemmas.Bool.Decides.{nat_tests}
use Rattle.std.proofs.lemmas.List.{take-append-drop}
use Rattle.std.proofs.lemmas.Option.{same_Some}
use Rattle.std.proofs.lemmas.Slice.Eq.{bytes_eq-Decides}
use Rattle.std.specs.List.{list_all, list_any}
use Rattle.std.specs.Option.{option_map}
use Rattle.std.proofs.Math.Seq.{drop-append_seam, take-append_seam}
use Rattle.std.specs.Str.{bytes_eq}
use Rattle.desk.specs.declared.head.Refusal.{Refusal}
use Rattle.desk.specs.declared.head.Refusal.TheVariants.{NotFound}
use Rattle.desk.specs.Paths.{Place, to_incoming, to_run, to_copy, to_queue, to_clean, to_verdicts, to_dists, to_pool, to_remove, to_promote, print_path, IsPart, is_byte}
use Rattle.desk.specs.Questions.{Inquiry, to_why, to_why_of, to_list, to_list_of, to_configuration, to_queue_objects, to_verdict_objects, to_metrics, to_root, to_index, to_uploads, to_suite, IsInquiry, print_question, question_of_path}
use Rattle.desk.specs.Want.{◌>>=◌, after_front, asked_at, at_question, before_end, before_end_of, beside_path, between, by_name, decoded, name_at, named_question, page_paths, question_fronts, question_or, question_paths, questioned}
use Rattle.desk.proofs.RouteLemmas.{other_path}
use Rattle.sums.proofs.Booleans.{both}
use Rattle.sums.proofs.Agree.{bytes_same}
use Rattle.telling.specs.Told.{Asking, explained, shown_of, page_of, suite_page}

-- ---- what follows a front

-- a path has the front that it is said to have
front_whole : (front path rest : List ℕ) → after_front front path ≡ Some rest → path ≡ front ++ rest
front_whole front path rest e = by (bytes_eq (take (length front) path) front) refl e
  where
    by : (b : Bool) → bytes_eq (take (length front) path) front ≡ b → (if b then Some (drop (length front) path) else None) ≡ Some rest → path ≡ front ++ rest
    by true t e =
        sym (take-append-drop (length front) path)
        ∙ ap (λ l. l ++ drop (length front) path) ((bytes_eq-Decides (take (length front) path) front).0 t)
        ∙ ap (λ l. front ++ l) (same_Some (drop (length front) path) rest e)
    by false t e = absurd (cc)

small_after : (front rest : List ℕ) → list_all is_byte (front ++ rest) ≡ true → list_all is_byte rest ≡ true
small_after [] rest h = h
small_after (b ∷ front) rest h = small_after front rest (both (is_byte b) (list_all is_byte (front ++ rest)) h).1

part_passes : (part : List ℕ) → IsPart part → name_at part ≡ decoded part
part_passes [] h = absurd (let some = h.some in omega (arith, some))
part_passes (b ∷ part) h =
    let some : (length (b ∷ part) == 0) ≡ false = grind (arith, nat_tests) in
    rw (some, h.no_slash) refl

small_front : (part rest : List ℕ) → list_all is_byte (part ++ rest) ≡ true → list_all is_byte part ≡ true
small_front [] rest h = refl
small_front (b ∷ part) rest h =
    let p = both (is_byte b) (list_all is_byte (part ++ rest)) h in
    rw (p.0, small_front part rest p.1) refl

small_joined : (part rest : List ℕ) → list_all is_byte part ≡ true → list_all is_byte rest ≡ true → list_all is_byte (part ++ rest) ≡ true
small_joined [] rest h more = more
small_joined (b ∷ part) rest h more =
    let p = both (is_byte b) (list_all is_byte part) h in
    rw (p.0, small_joined part rest p.1 more) refl

-- ---- what precedes an end

before_joined : (part end : List ℕ) → before_end end (part ++ end) ≡ Some part
before_joined part end =
    let size : length (part ++ end) - length end ≡ length part = omega (arith, length-append part end) in
    rw (size, drop-append_seam part end, (bytes_same end end refl)) (ap Some (take-append_seam part end))

-- a path has the end that it is said to have
end_whole : (end path part : List ℕ) → before_end end path ≡ Some part → path ≡ part ++ end
end_whole end path part e = by (bytes_eq (drop (length path - length end) path) end) refl e
  where
    by : (b : Bool) → bytes_eq (drop (length path - length end) path) end ≡ b → (if b then Some (take (length path - length end) path) else None) ≡ Some part → path ≡ part ++ end
    by true t e =
        sym (take-append-drop (length path - length end) path)
        ∙ ap (λ l. take (length path - length end) path ++ l) ((bytes_eq-Decides (drop (length path - length end) path) end).0 t)
        ∙ ap (λ l. l ++ end) (same_Some (take (length path - length end) path) part e)
    by false t e = absurd (cc)

between_whole : (front end path part : List ℕ) → between front end path ≡ Some part → path ≡ front ++ (part ++ end)
between_whole front end path part e = by (after_front front path) refl e
  where
    by : (o : Option (List ℕ)) → after_front front path ≡ o → before_end_of end o ≡ Some part → path ≡ front ++ (part ++ end)
    by None a e = absurd (cc)
    by (Some rest) a e = front_whole front path rest a ∙ ap (λ l. front ++ l) (end_whole end rest part e)

-- what passes is a part
part_is : (part : List ℕ) → list_all is_byte part ≡ true → ((length part == 0) || list_any (λ b. b == 47) part) ≡ false → IsPart part
part_is [] small h = absurd (cc)
part_is (b ∷ part) small h =
    let some : (length (b ∷ part) == 0) ≡ false = grind (arith, nat_tests) in
    record { some = omega arith; bytes = small; no_slash = rw some at h }

-- ---- no path of a question has a route

-- the second and the fourth byte of each path that has a route
abbrev marks : List (ℕ × ℕ)
marks = (105, 99) ∷ (113, 101) ∷ (99, 112) ∷ (118, 114) ∷ (100, 115) ∷ (112, 111) ∷ (114, 109) ∷ []

abbrev is_marked : List ℕ → Bool
is_marked path = list_any (λ m. (m.0 == get_or path 1 0) && (m.1 == get_or path 3 0)) marks

place_marked : (p : Place) → is_marked (print_path p) ≡ true
place_marked (to_incoming name) = refl
place_marked to_run = refl
place_marked (to_copy from to source) = refl
place_marked to_queue = refl
place_marked to_clean = refl
place_marked to_verdicts = refl
place_marked (to_dists rest) = refl
place_marked (to_pool rest) = refl
place_marked (to_remove suite name) = refl
place_marked (to_promote from to) = refl

question_unmarked : (inquiry : Inquiry) → is_marked (print_question inquiry) ≡ false
question_unmarked (to_why true) = refl
question_unmarked (to_why false) = refl
question_unmarked (to_why_of name true) = refl
question_unmarked (to_why_of name false) = refl
question_unmarked (to_list true) = refl
question_unmarked (to_list false) = refl
question_unmarked (to_list_of suite true) = refl
question_unmarked (to_list_of suite false) = refl
question_unmarked to_configuration = refl
question_unmarked to_queue_objects = refl
question_unmarked to_verdict_objects = refl
question_unmarked to_metrics = refl
question_unmarked to_root = refl
question_unmarked to_index = refl
question_unmarked to_uploads = refl
question_unmarked (to_suite codename) = refl

no_place : (inquiry : Inquiry) (p : Place) → print_question inquiry ≡ print_path p → ⊥
no_place inquiry p e =
    let contrary : true ≡ false = sym (place_marked p) ∙ ap is_marked (sym e) ∙ question_unmarked inquiry in
    absurd (cc)

small_question : (inquiry : Inquiry) → IsInquiry inquiry → list_all is_byte (print_question inquiry) ≡ true
small_question (to_why true) h = refl
small_question (to_why false) h = refl
small_question (to_why_of name true) h = h.bytes
small_question (to_why_of name false) h = h.bytes
small_question (to_list true) h = refl
small_question (to_list false) h = refl
small_question (to_list_of suite true) h = h.bytes
small_question (to_list_of suite false) h = h.bytes
small_question to_configuration h = refl
small_question to_queue_objects h = refl
small_question to_verdict_objects h = refl
small_question to_metrics h = refl
small_question to_root h = refl
small_question to_index h = refl
small_question to_uploads h = refl
small_question (to_suite codename) h = small_joined codename (codes "/index.html") h.bytes refl

question_is : (key : Option (List ℕ)) (inquiry : Inquiry) → IsInquiry inquiry → questioned key (print_question inquiry) ≡ question_of_path key inquiry
question_is key (to_why true) h = refl
question_is key (to_why false) h = refl
question_is key (to_why_of name true) h = ap (λ r. r >>= (λ n. Ok (explained (Some n) true))) (part_passes name h)
question_is key (to_why_of name false) h = ap (λ r. r >>= (λ n. Ok (explained (Some n) false))) (part_passes name h)
question_is key (to_list true) h = refl
question_is key (to_list false) h = refl
question_is key (to_list_of suite true) h = ap (λ r. r >>= (λ n. Ok (shown_of (Some n) true))) (part_passes suite h)
question_is key (to_list_of suite false) h = ap (λ r. r >>= (λ n. Ok (shown_of (Some n) false))) (part_passes suite h)
question_is key to_configuration h = refl
question_is key to_queue_objects h = refl
question_is key to_verdict_objects h = refl
question_is key to_metrics h = refl
question_is key to_root h = refl
question_is key to_index h = refl
question_is key to_uploads h = refl
question_is key (to_suite codename) h =
    ap (λ o. by_name o (λ name. page_of (suite_page name) key) (named_question question_fronts (print_question (to_suite codename)))) (before_joined codename (codes "/index.html"))
    ∙ ap (λ r. r >>= (λ n. Ok (page_of (suite_page n) key))) (part_passes codename h)

-- the path of a question asks for it
pub question_asks : (key : Option (List ℕ)) (inquiry : Inquiry) → IsInquiry inquiry → asked_at key (print_question inquiry) ≡ at_question (question_of_path key inquiry)
question_asks key inquiry h =
    other_path key (print_question inquiry) (small_question inquiry h) (λ p place e. no_place inquiry p e) ∙ ap at_question (question_is key inquiry h)

-- ---- any other path

-- the path is none of these
abbrev IsNoneOf : {A : Type 0} → List (List ℕ × A) → List ℕ → Type 0
IsNoneOf [] path = ⊤
IsNoneOf (q ∷ rest) path = (path ≡ q.0 → ⊥) × IsNoneOf rest path

none_first : {A : Type 0} (q : List ℕ × A) (rest : List (List ℕ × A)) (path : List ℕ) → (path ≡ q.0 → ⊥) → beside_path rest path ≡ None → beside_path (q ∷ rest) path ≡ None
none_first q rest path other more = by (bytes_eq path q.0) refl
  where
    by : (b : Bool) → bytes_eq path q.0 ≡ b → (if b then Some q.1 else beside_path rest path) ≡ None
    by true is = absurd (other ((bytes_eq-Decides path q.0).0 is))
    by false is = more

none_beside : {A : Type 0} (table : List (List ℕ × A)) (path : List ℕ) → IsNoneOf table path → beside_path table path ≡ None
none_beside [] path none = refl
none_beside (q ∷ rest) path (other, none) = none_first q rest path other (none_beside rest path none)

-- what is no part is no name
no_name : (part : List ℕ) (question : List ℕ → Asking) → list_all is_byte part ≡ true → (IsPart part → ⊥) → (name_at part >>= (λ name. Ok (question name))) ≡ Err NotFound
no_name part question small none = by ((length part == 0) || list_any (λ x. x == 47) part) refl
  where
    by : (b : Bool) → ((length part == 0) || list_any (λ x. x == 47) part) ≡ b → ((if b then Err NotFound else decoded part) >>= (λ name. Ok (question name))) ≡ Err NotFound
    by true t = refl
    by false t = absurd (none (part_is part small t))

-- the path is none of these fronts with a name after it
abbrev HasNoneOf : List (List ℕ × (List ℕ → Asking)) → List ℕ → Type 0
HasNoneOf [] path = ⊤
HasNoneOf (q ∷ rest) path = ((part : List ℕ) → IsPart part → path ≡ q.0 ++ part → ⊥) × HasNoneOf rest path

no_named_first : (front path : List ℕ) (question : List ℕ → Asking) (other : Result Asking Refusal) → list_all is_byte path ≡ true
    → ((part : List ℕ) → IsPart part → path ≡ front ++ part → ⊥) → other ≡ Err NotFound → by_name (after_front front path) question other ≡ Err NotFound
no_named_first front path question other small none more = by (after_front front path) refl
  where
    by : (o : Option (List ℕ)) → after_front front path ≡ o → by_name o question other ≡ Err NotFound
    by None e = more
    by (Some part) e =
        let whole = front_whole front path part e in
        no_name part question (small_after front part (sym (ap (list_all is_byte) whole) ∙ small)) (λ is. none part is whole)

no_named : (table : List (List ℕ × (List ℕ → Asking))) (path : List ℕ) → list_all is_byte path ≡ true → HasNoneOf table path → named_question table path ≡ Err NotFound
no_named [] path small none = refl
no_named (q ∷ rest) path small (other, none) = no_named_first q.0 path q.1 (named_question rest path) small other (no_named rest path small none)

no_between : (front end path : List ℕ) (question : List ℕ → Asking) (other : Result Asking Refusal) → list_all is_byte path ≡ true
    → ((part : List ℕ) → IsPart part → path ≡ front ++ (part ++ end) → ⊥) → other ≡ Err NotFound → by_name (between front end path) question other ≡ Err NotFound
no_between front end path question other small none more = by (between front end path) refl
  where
    by : (o : Option (List ℕ)) → between front end path ≡ o → by_name o question other ≡ Err NotFound
    by None e = more
    by (Some part) e =
        let whole = between_whole front end path part e in
        let rest = small_after front (part ++ end) (sym (ap (list_all is_byte) whole) ∙ small) in
        no_name part question (small_front part end rest) (λ is. none part is whole)

-- any other path asks nothing
pub other_question : (key : Option (List ℕ)) (path : List ℕ) → list_all is_byte path ≡ true → ((inquiry : Inquiry) → IsInquiry inquiry → path ≡ print_question inquiry → ⊥) → questioned key path ≡ Err NotFound
other_question key path small other =
    let whole : IsNoneOf question_paths path =
    (other (to_why false) tt, (other (to_why true) tt, (other (to_list false) tt, (other (to_list true) tt, (other to_configuration tt, (other to_queue_objects tt, (other to_verdict_objects tt, (other to_metrics tt, tt)))))))) in
    let pages : IsNoneOf page_paths path = (other to_root tt, (other to_index tt, (other to_uploads tt, tt))) in
    let named : HasNoneOf question_fronts path =
    (λ part h. other (to_why_of part false) h, (λ part h. other (to_why_of part true) h, (λ part h. other (to_list_of part false) h, (λ part h. other (to_list_of part true) h, tt)))) in
    let suites = no_between (codes "/suites/") (codes "/index.html") path (λ codename. page_of (suite_page codename) key) (named_question question_fronts path) small
    (λ part h. other (to_suite part) h) (no_named question_fronts path small named) in
    ap₂ question_or (none_beside question_paths path whole) (ap₂ question_or (ap (option_map (λ page. page_of page key)) (none_beside page_paths path pages)) suites)
