use Rattle.std.proofs.Common.{◌≡◌, ℕ, Bool, true, false, List, [], ◌∷◌, Option, Some, None, refl, ◌∙◌, ap, cond}
use Rattle.std.specs.List.{find}
use Rattle.std.specs.Option.{option_map}
use Rattle.std.specs.Str.{str_eq_ignore_ascii_case}
use Rattle.para.specs.declared.field.Field.{Field}
use Rattle.para.specs.Field.{field_value, field_values}
use Rattle.para.proofs.field.Paragraph.get.Goals as goal

map_cond : {A B : Type 0} (h : A → B) (t : Bool) (x y : Option A) → option_map h (cond t x y) ≡ cond t (option_map h x) (option_map h y)
map_cond h true x y = refl
map_cond h false x y = refl

map_map : {A B C : Type 0} (g : A → B) (h : B → C) (o : Option A) → option_map (λ x. h (g x)) o ≡ option_map h (option_map g o)
map_map g h None = refl
map_map g h (Some x) = refl

found_entry : (fs : List Field) (name : List ℕ) → option_map field_value (find (λ field. str_eq_ignore_ascii_case field.name.now name) fs) ≡ find (λ f. str_eq_ignore_ascii_case f.name name) (field_values fs)
found_entry [] name = refl
found_entry (f ∷ fs) name = map_cond field_value (str_eq_ignore_ascii_case f.name.now name) (Some f) (find (λ field. str_eq_ignore_ascii_case field.name.now name) fs)
    ∙ ap (cond (str_eq_ignore_ascii_case f.name.now name) (Some (field_value f))) (found_entry fs name)

pub returns : goal.returns
returns c = map_map (λ f. f.now) field_value c.find_named.result
    ∙ ap (option_map field_value) (c.find_named.ensures ∙ ap (find (λ field. str_eq_ignore_ascii_case field.name.now c.args.name.now)) c.deref.ensures.value)
    ∙ found_entry c.self.inside.fields.items c.args.name.now
    ∙ ap (find (λ f. str_eq_ignore_ascii_case f.name c.args.name.now)) c.self.view_is
