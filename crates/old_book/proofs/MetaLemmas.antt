-- The text of the configuration in the one row of meta.
use Rattle.std.proofs.Common.{◌≡◌, ◌≢◌, ℕ, suc, List, [], ◌∷◌, length, get_or, unwrap_or, Option, Some, None, IfSome, refl, sym, ap, ◌∙◌, arith}
use Rattle.std.specs.Option.{option_map}
use Rattle.tables.specs.Rows.{Numbered, rows_of}
use Rattle.tables.specs.declared.meta.TheConstants.{VERSION}
use Rattle.tables.specs.declared.rows.Meta.{Meta}
use Rattle.old_book.specs.Old.{HasText, HasTextIn}
use Rattle.old_book.specs.Text.{without_days}

abbrev no_row : Meta
no_row = record { version = 0; configuration = [] }

abbrev first_text : List Meta → List ℕ
first_text [] = []
first_text (r ∷ rs) = r.configuration

-- ---- a row

pub row_text : {X : Type 0} (items : X → List ℕ) (row : Meta) (bytes : List ℕ) (o : Option X) → row.version ≡ VERSION → bytes ≡ row.configuration → option_map items o ≡ without_days bytes
    → IfSome o (λ x. HasTextIn row (items x))
row_text items row bytes None version is same = tt
row_text items row bytes (Some x) version is same =
    let f : ℕ → Meta = λ a. record { version = a; configuration = row.configuration } in
    record { old = row.configuration; is = ap f version; text_is = ap without_days (sym is) ∙ sym same }

pub no_row_text : {X : Type 0} (items : X → List ℕ) (row : Meta) (bytes : List ℕ) (o : Option X) → bytes ≡ row.configuration → option_map items o ≡ without_days bytes
    → o ≡ None → (text : List ℕ) → HasTextIn row text → ⊥
no_row_text items row bytes o is same none text h =
    let olds : row.configuration ≡ h.old = ap (λ (r : Meta). r.configuration) h.is in
    let both : None ≡ Some text = sym (ap (option_map items) none) ∙ same ∙ ap without_days (is ∙ olds) ∙ h.text_is in
    absurd cc

pub other_version : (row : Meta) → row.version ≢ VERSION → (text : List ℕ) → HasTextIn row text → ⊥
other_version row other text h = other (ap (λ (r : Meta). r.version) h.is)

-- ---- the rows

pub one_row : (meta : Numbered Meta) (d : ℕ × Meta) → length meta ≡ 1 → rows_of meta ≡ (get_or meta 0 d).1 ∷ []
one_row [] d one = absurd (omega (arith, one))
one_row (x ∷ []) d one = refl
one_row (x ∷ y ∷ more) d one = absurd (omega (arith, one))

pub not_one : (meta : Numbered Meta) → length meta ≢ 1 → (text : List ℕ) → HasText meta text → ⊥
not_one [] other text h = absurd (let both : 0 ≡ 1 = ap length h.is in omega (arith, both))
not_one (x ∷ []) other text h = other refl
not_one (x ∷ y ∷ more) other text h = absurd (let both : suc (suc (length (rows_of more))) ≡ 1 = ap length h.is in omega (arith, both))

pub text_of_row : (meta : Numbered Meta) (row : Meta) (text : List ℕ) → rows_of meta ≡ row ∷ [] → HasTextIn row text → HasText meta text
text_of_row meta row text one h = record { old = h.old; is = one ∙ ap (λ r. r ∷ []) h.is; text_is = h.text_is }

pub row_of_text : (meta : Numbered Meta) (row : Meta) (text : List ℕ) → rows_of meta ≡ row ∷ [] → HasText meta text → HasTextIn row text
row_of_text meta row text one h = record { old = h.old; is = ap (λ (rs : List Meta). get_or rs 0 no_row) (sym one ∙ h.is); text_is = h.text_is }

-- there is one such text
pub one_text : (meta : Numbered Meta) (a b : List ℕ) → HasText meta a → HasText meta b → a ≡ b
one_text meta a b h k =
    let olds : h.old ≡ k.old = ap first_text (sym h.is ∙ k.is) in
    ap (λ (o : Option (List ℕ)). unwrap_or o []) (sym h.text_is ∙ ap without_days olds ∙ k.text_is)
