-- Looking a path up in lists of texts.
use Rattle.std.proofs.Common.{◌≡◌, ℕ, ◌+◌, ◌<◌, ◌≤◌, Bool, true, false, List, [], ◌∷◌, ◌++◌, length, drop, get_or, map, bytes_eq, refl, sym, ap, ◌∙◌, Option, Some, None, ◌⊎◌, inl, inr, eqb}
use Rattle.std.specs.List.{flat_map, zip, starts_with}
use Rattle.std.proofs.lemmas.List.{drop_more, drop_all}
use Rattle.std.proofs.lemmas.Bool.{eq-eqb}
use Rattle.sums.proofs.Agree.{same_bytes}
use Rattle.rules.specs.declared.suite.Suite.{Suite}
use Rattle.suites.specs.Shelves.{ShelvesValue}
use Rattle.indices.specs.Indices.{PathText, text_at, suite_texts, texts_from}

-- by whether the first of the texts stands at the path
abbrev by_first : PathText → Option (List ℕ) → Bool → Option (List ℕ)
by_first e others true = Some e.1
by_first e others false = others

text_at-cons : (path : List ℕ) (e : PathText) (es : List PathText) (b : Bool) → bytes_eq e.0 path ≡ b → text_at path (e ∷ es) ≡ by_first e (text_at path es) b
unfolding text_at
text_at-cons path e es true h = rw h refl
text_at-cons path e es false h = rw h refl

pub text_at-nil : (path : List ℕ) → text_at path [] ≡ None
unfolding text_at
text_at-nil path = refl

pub text_at-found : (path : List ℕ) (e : PathText) (es : List PathText) → bytes_eq e.0 path ≡ true → text_at path (e ∷ es) ≡ Some e.1
text_at-found path e es h = text_at-cons path e es true h

pub text_at-other : (path : List ℕ) (e : PathText) (es : List PathText) → bytes_eq e.0 path ≡ false → text_at path (e ∷ es) ≡ text_at path es
text_at-other path e es h = text_at-cons path e es false h

-- the first list decides if it has the path
abbrev or_later : Option (List ℕ) → Option (List ℕ) → Option (List ℕ)
or_later None later = later
or_later (Some text) later = Some text

or_first : (path : List ℕ) (e : PathText) (xs later : List PathText) (b : Bool) → bytes_eq e.0 path ≡ b
    → text_at path (xs ++ later) ≡ or_later (text_at path xs) (text_at path later)
    → text_at path (e ∷ (xs ++ later)) ≡ or_later (text_at path (e ∷ xs)) (text_at path later)
or_first path e xs later true h r = text_at-found path e (xs ++ later) h ∙ ap (λ (o : Option (List ℕ)). or_later o (text_at path later)) (sym (text_at-found path e xs h))
or_first path e xs later false h r = text_at-other path e (xs ++ later) h ∙ r ∙ ap (λ (o : Option (List ℕ)). or_later o (text_at path later)) (sym (text_at-other path e xs h))

pub text_at-append : (path : List ℕ) (xs later : List PathText) → text_at path (xs ++ later) ≡ or_later (text_at path xs) (text_at path later)
text_at-append path [] later = ap (λ (o : Option (List ℕ)). or_later o (text_at path later)) (sym (text_at-nil path))
text_at-append path (e ∷ xs) later = or_first path e xs later (bytes_eq e.0 path) refl (text_at-append path xs later)

-- the list at the front has the path
pub found_front : (path : List ℕ) (xs later : List PathText) (text : List ℕ) → Some text ≡ text_at path xs → Some text ≡ text_at path (xs ++ later)
found_front path xs later text h = ap (λ (o : Option (List ℕ)). or_later o (text_at path later)) h ∙ sym (text_at-append path xs later)

-- the list at the front lacks the path
pub none_front : (path : List ℕ) (xs later : List PathText) → None ≡ text_at path xs → text_at path later ≡ text_at path (xs ++ later)
none_front path xs later h = ap (λ (o : Option (List ℕ)). or_later o (text_at path later)) h ∙ sym (text_at-append path xs later)

-- Searches in the order of a list, of which the first i have been looked at.
module _ {X : Type 0} (path : List ℕ) (xs : List X) (i : ℕ) (x : X) (inside : i < length xs) (here : x ≡ get_or xs i x) where
  next : drop i xs ≡ x ∷ drop (i + 1) xs
  next = drop_more xs i x inside ∙ ap (λ (y : X). y ∷ drop (i + 1) xs) (sym here)

  -- elements with one text each
  pub found_at : (entry : X → PathText) → bytes_eq (entry x).0 path ≡ true → Some (entry x).1 ≡ text_at path (map entry (drop i xs))
  found_at entry h =
      sym (text_at-found path (entry x) (map entry (drop (i + 1) xs)) h)
      ∙ ap (λ (ys : List X). text_at path (map entry ys)) (sym next)

  pub other_at : (entry : X → PathText) → bytes_eq (entry x).0 path ≡ false → text_at path (map entry (drop (i + 1) xs)) ≡ text_at path (map entry (drop i xs))
  other_at entry h =
      sym (text_at-other path (entry x) (map entry (drop (i + 1) xs)) h)
      ∙ ap (λ (ys : List X). text_at path (map entry ys)) (sym next)

  -- elements with several texts each
  pub found_in : (texts : X → List PathText) (text : List ℕ) → Some text ≡ text_at path (texts x) → Some text ≡ text_at path (flat_map texts (drop i xs))
  found_in texts text h =
      found_front path (texts x) (flat_map texts (drop (i + 1) xs)) text h
      ∙ ap (λ (ys : List X). text_at path (flat_map texts ys)) (sym next)

  pub none_in : (texts : X → List PathText) → None ≡ text_at path (texts x) → text_at path (flat_map texts (drop (i + 1) xs)) ≡ text_at path (flat_map texts (drop i xs))
  none_in texts h =
      none_front path (texts x) (flat_map texts (drop (i + 1) xs)) h
      ∙ ap (λ (ys : List X). text_at path (flat_map texts ys)) (sym next)

-- nothing is left to look at
pub nothing_left : {X : Type 0} (path : List ℕ) (texts : List X → List PathText) (xs : List X) (i : ℕ) → length xs ≤ i → texts [] ≡ [] → None ≡ text_at path (texts (drop i xs))
nothing_left path texts xs i h e =
    sym (text_at-nil path) ∙ ap (text_at path) (sym e) ∙ ap (λ (ys : List _). text_at path (texts ys)) (sym (drop_all i xs h))

-- Suites with their dates.
zip_next : (suites : List Suite) (dates : List ℕ) (i : ℕ) (s : Suite) (d : ℕ) → i < length suites → i < length dates
    → s ≡ get_or suites i s → d ≡ get_or dates i d
    → zip (drop i suites) (drop i dates) ≡ (s, d) ∷ zip (drop (i + 1) suites) (drop (i + 1) dates)
zip_next suites dates i s d u v e f =
    ap (λ (ss : List Suite). zip ss (drop i dates)) (next [] suites i s u e)
    ∙ ap (λ (ds : List ℕ). zip (s ∷ drop (i + 1) suites) ds) (next [] dates i d v f)

module _ (path : List ℕ) (shelves : ShelvesValue) (suites : List Suite) (dates : List ℕ) (i : ℕ) where
  abbrev rest : ℕ → List PathText
  rest j = texts_from shelves j (zip (drop j suites) (drop j dates))

  module _ (s : Suite) (d : ℕ) (u : i < length suites) (v : i < length dates) (e : s ≡ get_or suites i s) (f : d ≡ get_or dates i d) where
    rest_next : rest i ≡ suite_texts shelves i s d ++ rest (i + 1)
    unfolding texts_from
    rest_next = ap (texts_from shelves i) (zip_next suites dates i s d u v e f)

    pub found_suite : (text : List ℕ) → Some text ≡ text_at path (suite_texts shelves i s d) → Some text ≡ text_at path (rest i)
    found_suite text h = found_front path (suite_texts shelves i s d) (rest (i + 1)) text h ∙ ap (text_at path) (sym rest_next)

    pub none_suite : None ≡ text_at path (suite_texts shelves i s d) → text_at path (rest (i + 1)) ≡ text_at path (rest i)
    none_suite h = none_front path (suite_texts shelves i s d) (rest (i + 1)) h ∙ ap (text_at path) (sym rest_next)

zip-nil : (ss : List Suite) → zip {X = ℕ} ss [] ≡ []
zip-nil [] = refl
zip-nil (s ∷ ss) = refl

pub no_suite : (path : List ℕ) (shelves : ShelvesValue) (suites : List Suite) (dates : List ℕ) (i : ℕ) → ((length suites ≤ i) ⊎ (length dates ≤ i)) → None ≡ text_at path (texts_from shelves i (zip (drop i suites) (drop i dates)))
unfolding texts_from
no_suite path shelves suites dates i (inl h) =
    sym (text_at-nil path) ∙ ap (λ (ss : List Suite). text_at path (texts_from shelves i (zip ss (drop i dates)))) (sym (drop_all i suites h))
no_suite path shelves suites dates i (inr h) =
    sym (text_at-nil path) ∙ ap (λ (ps : List (Suite × ℕ)). text_at path (texts_from shelves i ps)) (sym (zip-nil (drop i suites)))
    ∙ ap (λ (ds : List ℕ). text_at path (texts_from shelves i (zip (drop i suites) ds))) (sym (drop_all i dates h))

same_front : (front a b : List ℕ) → bytes_eq (front ++ a) (front ++ b) ≡ bytes_eq a b
same_front [] a b = refl
same_front (c ∷ front) a b = rw (eq-eqb c c refl) (same_front front a b)

-- a text with the folder in front of its path
abbrev pub behind : List ℕ → PathText → PathText
behind folder e = (folder ++ e.0, e.1)

same_first : (folder : List ℕ) (e : PathText) (others : Option (List ℕ)) (b : Bool) → by_first (behind folder e) others b ≡ by_first e others b
same_first folder e others true = refl
same_first folder e others false = refl

pub text_at-behind : (folder rest : List ℕ) (es : List PathText) → text_at (folder ++ rest) (map (behind folder) es) ≡ text_at rest es
text_at-behind folder rest [] = text_at-nil (folder ++ rest) ∙ sym (text_at-nil rest)
text_at-behind folder rest (e ∷ es) =
    text_at-cons (folder ++ rest) (behind folder e) (map (behind folder) es) (bytes_eq e.0 rest) (same_front folder e.0 rest)
    ∙ same_first folder e (text_at (folder ++ rest) (map (behind folder) es)) (bytes_eq e.0 rest)
    ∙ ap (λ (o : Option (List ℕ)). by_first e o (bytes_eq e.0 rest)) (text_at-behind folder rest es)
    ∙ sym (text_at-cons rest e es (bytes_eq e.0 rest) refl)

starts_front : (front a : List ℕ) → starts_with eqb (front ++ a) front ≡ true
starts_front [] a = refl
starts_front (c ∷ front) a = rw (eq-eqb c c refl) (starts_front front a)

not_there : (folder path own : List ℕ) (b : Bool) → starts_with eqb path folder ≡ false → bytes_eq (folder ++ own) path ≡ b → b ≡ false
not_there folder path own false h e = refl
not_there folder path own true h e =
    let same : folder ++ own ≡ path = same_bytes (folder ++ own) path e in
    let starts : starts_with eqb path folder ≡ true = ap (λ (p : List ℕ). starts_with eqb p folder) (sym same) ∙ starts_front folder own in
    sym starts ∙ h

-- nothing stands at a path outside of the folder
pub none_behind : (folder path : List ℕ) (es : List PathText) → starts_with eqb path folder ≡ false → None ≡ text_at path (map (behind folder) es)
none_behind folder path [] h = sym (text_at-nil path)
none_behind folder path (e ∷ es) h =
    none_behind folder path es h
    ∙ sym (text_at-other path (behind folder e) (map (behind folder) es) (not_there folder path e.0 (bytes_eq (folder ++ e.0) path) h refl))
