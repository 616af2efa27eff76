-- Names with a space between two, and one more.
use Rattle.std.proofs.Common.{◌≡◌, ℕ, Bool, true, false, not, ◌||◌, List, [], ◌∷◌, ◌++◌, filter, refl, sym, ap, ◌∙◌, append_assoc, if◌then◌else◌}
use Rattle.std.specs.List.{join_with_byte}
use Rattle.std.proofs.lemmas.List.{append-nil}
use Rattle.std.proofs.lemmas.List.Elements.{filter-append}
use Rattle.para.specs.Bytes.{is_nil}
use Rattle.indices.specs.Release.{is_source}

-- what is put after the names
abbrev pub behind : Bool → List ℕ → List ℕ
behind begun name = if begun then 32 ∷ name else name

pub join_more : (names : List (List ℕ)) (name : List ℕ)
    → join_with_byte 32 (names ++ name ∷ []) ≡ join_with_byte 32 names ++ behind (not (is_nil names)) name
join_more [] name = refl
join_more (x ∷ []) name = refl
join_more (x ∷ y ∷ xs) name =
    ap (λ (bs : List ℕ). x ++ 32 ∷ bs) (join_more (y ∷ xs) name)
    ∙ sym (append_assoc x (32 ∷ join_with_byte 32 (y ∷ xs)) (32 ∷ name))

pub not_nil : {X : Type 0} (xs : List X) (x : X) → true ≡ not (is_nil (xs ++ x ∷ []))
not_nil [] x = refl
not_nil (y ∷ ys) x = refl

-- the names of architectures other than `source`
abbrev pub binary : List (List ℕ) → List (List ℕ)
binary names = filter (λ a. not (is_source a)) names

abbrev pub behind_binary : Bool → Bool → List ℕ → List ℕ
behind_binary source begun name = if source then [] else if begun then 32 ∷ name else name

single : (name : List ℕ) (source : Bool) → is_source name ≡ source → binary (name ∷ []) ≡ (if source then [] else (name ∷ []))
single name true e = rw e refl
single name false e = rw e refl

join_source : (xs : List (List ℕ)) (name : List ℕ) (source : Bool)
    → join_with_byte 32 (xs ++ (if source then [] else (name ∷ []))) ≡ join_with_byte 32 xs ++ behind_binary source (not (is_nil xs)) name
join_source xs name true = ap (join_with_byte 32) (append-nil xs) ∙ sym (append-nil (join_with_byte 32 xs))
join_source xs name false = join_more xs name

begun_source : (xs : List (List ℕ)) (name : List ℕ) (source : Bool)
    → (not (is_nil xs) || not source) ≡ not (is_nil (xs ++ (if source then [] else (name ∷ []))))
begun_source [] name true = refl
begun_source [] name false = refl
begun_source (x ∷ xs) name source = refl

binary_more : (names : List (List ℕ)) (name : List ℕ) → binary (names ++ name ∷ []) ≡ binary names ++ (if is_source name then [] else (name ∷ []))
binary_more names name =
    filter-append (λ a. not (is_source a)) names (name ∷ [])
    ∙ ap (λ (xs : List (List ℕ)). binary names ++ xs) (single name (is_source name) refl)

pub join_binary : (names : List (List ℕ)) (name : List ℕ)
    → join_with_byte 32 (binary (names ++ name ∷ [])) ≡ join_with_byte 32 (binary names) ++ behind_binary (is_source name) (not (is_nil (binary names))) name
join_binary names name = ap (join_with_byte 32) (binary_more names name) ∙ join_source (binary names) name (is_source name)

pub begun_binary : (names : List (List ℕ)) (name : List ℕ)
    → (not (is_nil (binary names)) || not (is_source name)) ≡ not (is_nil (binary (names ++ name ∷ [])))
begun_binary names name = begun_source (binary names) name (is_source name) ∙ ap (λ (xs : List (List ℕ)). not (is_nil xs)) (sym (binary_more names name))
