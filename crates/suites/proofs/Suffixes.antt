-- Names by what they end in.
use Rattle.std.proofs.Common.{◌≡◌, ◌≢◌, ℕ, ◌-◌, Bool, true, false, ◌||◌, List, [], ◌∷◌, ◌++◌, length, take, drop, codes, refl, sym, ap, ◌∙◌, arith, take-append-drop}
use Rattle.std.proofs.lemmas.Bool.{false_from_ne_true}
use Rattle.std.proofs.lemmas.Slice.Eq.{bytes_eq-Decides}
use Rattle.sums.proofs.Booleans.{neither}
use Rattle.suites.specs.Upload.{has_suffix}
use Rattle.suites.specs.Verdict.{is_package_part}

-- the last byte, 0 if there is none
abbrev last_byte : List ℕ → ℕ
last_byte [] = 0
last_byte (b ∷ []) = b
last_byte (b ∷ c ∷ bs) = last_byte (c ∷ bs)

last_byte-append : (front : List ℕ) (b : ℕ) (bs : List ℕ) → last_byte (front ++ b ∷ bs) ≡ last_byte (b ∷ bs)
last_byte-append [] b bs = refl
last_byte-append (f ∷ []) b bs = refl
last_byte-append (f ∷ g ∷ front) b bs = last_byte-append (g ∷ front) b bs

last_of_suffix : (b : ℕ) (bs name : List ℕ) → has_suffix (b ∷ bs) name ≡ true → last_byte name ≡ last_byte (b ∷ bs)
unfolding has_suffix
last_of_suffix b bs name h =
    let n : ℕ = length name - length (b ∷ bs) in
    let rest : b ∷ bs ≡ drop n name = (bytes_eq-Decides (b ∷ bs) (drop n name)).0 h in
    ap last_byte (sym (take-append-drop n name) ∙ ap (λ r. take n name ++ r) (sym rest)) ∙ last_byte-append (take n name) b bs

-- a name that ends in one byte has no suffix that ends in another
not_suffix : (b : ℕ) (bs : List ℕ) (last : ℕ) (name : List ℕ) → last_byte name ≡ last → last_byte (b ∷ bs) ≢ last → has_suffix (b ∷ bs) name ≡ false
not_suffix b bs last name l differs = false_from_ne_true _ (λ h. differs (sym (last_of_suffix b bs name h) ∙ l))

pub dsc-no_sidecar : (name : List ℕ) → has_suffix (codes ".dsc") name ≡ true → has_suffix (codes ".control") name ≡ false
dsc-no_sidecar name h =
    not_suffix 46 (codes "control") 99 name (last_of_suffix 46 (codes "dsc") name h) (λ e. absurd (omega (arith, e)))

pub deb-no_sidecar : (front : List ℕ) → has_suffix (codes ".control") (front ++ codes ".deb") ≡ false
deb-no_sidecar front =
    not_suffix 46 (codes "control") 98 _ (last_byte-append front 46 (codes "deb")) (λ e. absurd (omega (arith, e)))

third : (a b c d : Bool) → (a || b || c || d) ≡ false → c ≡ false
third a b c d h = (neither (a || b) c (neither (a || b || c) d h).0).1

pub plain-no_sidecar : (name : List ℕ) → is_package_part name ≡ false → has_suffix (codes ".control") name ≡ false
unfolding is_package_part
plain-no_sidecar name h =
    third (has_suffix (codes ".dsc") name) (has_suffix (codes ".deb") name) (has_suffix (codes ".control") name) (has_suffix (codes ".changes") name) h
