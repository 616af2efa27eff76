-- What is written of some fields grows by what is written of one more.
use Rattle.std.proofs.Common.{◌≡◌, ℕ, ◌+◌, ◌<◌, Bool, List, [], ◌∷◌, ◌++◌, length, take, get_or, filter, sym, ap, ◌∙◌}
use Rattle.std.specs.List.{flat_map}
use Rattle.std.proofs.lemmas.List.{take_more, map-append}
use Rattle.para.specs.declared.field.Field.{Field}
use Rattle.para.specs.Field.{FieldValue, field_value, field_values}
use Rattle.indices.proofs.Listing.{text_if, listed_more}

values_more : (fs : List Field) (i : ℕ) (d : Field) → i < length fs
    → field_values (take (i + 1) fs) ≡ field_values (take i fs) ++ field_value (get_or fs i d) ∷ []
values_more fs i d h = ap field_values (take_more fs i d h) ∙ map-append field_value (take i fs) (get_or fs i d ∷ [])

-- what a loop over fields has written, after one more
pub written_more : (p : FieldValue → Bool) (text : FieldValue → List ℕ) (fs : List Field) (i : ℕ) (x : Field) (wanted : Bool) (old now new : List ℕ)
    → i < length fs → x ≡ get_or fs i x → wanted ≡ p (field_value x)
    → now ≡ old ++ flat_map text (filter p (field_values (take i fs)))
    → new ≡ now ++ text_if wanted (text (field_value x))
    → new ≡ old ++ flat_map text (filter p (field_values (take (i + 1) fs)))
written_more p text fs i x wanted old now new h e w so behind =
    listed_more p text (field_values (take i fs)) (field_value x) old now new so
    (behind ∙ ap (λ (b : Bool). now ++ text_if b (text (field_value x))) w)
    ∙ ap (λ (y : Field). old ++ flat_map text (filter p (field_values (take i fs) ++ field_value y ∷ []))) e
    ∙ ap (λ (vs : List FieldValue). old ++ flat_map text (filter p vs)) (sym (values_more fs i x h))
