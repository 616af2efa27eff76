use Rattle.std.proofs.Common.{◌≡◌, ℕ, List, ◌++◌, ◌∷◌, codes, sym, ap, ◌∙◌, append_assoc}
use Rattle.std.specs.List.{join_with_byte}
use Rattle.std.proofs.lemmas.Grind.{flat_map-append}
use Rattle.std.proofs.lemmas.Result.{IfOk-weaker}
use Rattle.para.specs.Field.{FieldValue}
use Rattle.para.specs.Fields.{Fields}
use Rattle.para.specs.Printing.{field_text, paragraph_text}
use Rattle.indices.specs.Calendar.{date_text}
use Rattle.indices.specs.Stanzas.{line_field}
use Rattle.indices.specs.Release.{suite_fields, optional_field, valid_until, architectures_text}
use Rattle.texts.proofs.Appended.{two}
use Rattle.texts.proofs.suite_release.push_suite.Goals as goal

-- the text of four paragraphs in a row
four : (a b c d : Fields) → paragraph_text (((a ++ b) ++ c) ++ d) ≡ paragraph_text a ++ (paragraph_text b ++ (paragraph_text c ++ paragraph_text d))
four a b c d =
    ap paragraph_text (append_assoc (a ++ b) c d ∙ append_assoc a b (c ++ d))
    ∙ flat_map-append field_text a (b ++ (c ++ d))
    ∙ ap (λ (bs : List ℕ). paragraph_text a ++ bs) (flat_map-append field_text b (c ++ d)
    ∙ ap (λ (bs : List ℕ). paragraph_text b ++ bs) (flat_map-append field_text c d))

-- the text of these fields, written one after the other
nine : (o n1 n2 n3 n4 n5 n6 n7 n8 n9 : List ℕ) (a b c : Fields) (f g : FieldValue) (v : Fields) (h i : FieldValue) (d : Fields)
    → n1 ≡ o ++ paragraph_text a → n2 ≡ n1 ++ paragraph_text b → n3 ≡ n2 ++ paragraph_text c
    → n4 ≡ n3 ++ field_text f → n5 ≡ n4 ++ field_text g → n6 ≡ n5 ++ paragraph_text v → n7 ≡ n6 ++ field_text h → n8 ≡ n7 ++ field_text i
    → n9 ≡ n8 ++ paragraph_text d → n9 ≡ o ++ paragraph_text (((a ++ b) ++ c) ++ (f ∷ g ∷ (v ++ h ∷ i ∷ d)))
nine o n1 n2 n3 n4 n5 n6 n7 n8 n9 a b c f g v h i d e1 e2 e3 e4 e5 e6 e7 e8 e9 =
    two o _ _ n1 n9 e1 (two n1 _ _ n2 n9 e2 (two n2 _ _ n3 n9 e3 (two n3 _ _ n4 n9 e4 (two n4 _ _ n5 n9 e5 (two n5 _ _ n6 n9 e6 (two n6 _ _ n7 n9 e7 (two n7 _ _ n8 n9 e8 e9)))))))
    ∙ ap (λ (bs : List ℕ). o ++ bs) (sym (four a b c (f ∷ g ∷ (v ++ h ∷ i ∷ d))
    ∙ ap (λ (bs : List ℕ). paragraph_text a ++ (paragraph_text b ++ (paragraph_text c ++ (field_text f ++ (field_text g ++ bs))))) (flat_map-append field_text v (h ∷ i ∷ d))))

pub returns : goal.returns
unfolding suite_fields
returns c =
    let s = c.args.suite.now in
    IfOk-weaker c.push_optional-4.result _ _ (λ _ e.
    nine c.args.out.now.items _ _ _ _ _ _ _ _ _ (optional_field (codes "Origin") s.origin) (optional_field (codes "Label") s.label) (optional_field (codes "Suite") s.suite)
    (line_field (codes "Codename") s.codename) (line_field (codes "Date") (date_text c.args.moment)) (valid_until s c.args.moment)
    (line_field (codes "Architectures") (architectures_text s.architectures)) (line_field (codes "Components") (join_with_byte 32 s.components))
    (optional_field (codes "Description") s.description)
    c.in_ok-push_optional.ensures c.in_ok-push_optional-2.ensures c.in_ok-push_optional-3.ensures
    (c.in_ok-push_line_field.ensures ∙ ap (λ (name : List ℕ). c.push_optional-3.new.out.items ++ field_text (line_field (codes "Codename") name)) c.as_str.ensures)
    c.in_ok-push_date.ensures
    c.in_ok-push_valid_until.ensures
    (c.in_ok-push_architectures.ensures ∙ ap (λ (names : List (List ℕ)). c.push_valid_until.new.out.items ++ field_text (line_field (codes "Architectures") (architectures_text names))) c.as_slice.ensures)
    (c.in_ok-push_components.ensures ∙ ap (λ (names : List (List ℕ)). c.push_architectures.new.out.items ++ field_text (line_field (codes "Components") (join_with_byte 32 names))) c.as_slice-2.ensures)
    e) c.push_optional-4.ensures
