-- The names of fields, in lower case, in a set.
use Rattle.std.proofs.Common.{◌≡◌, ◌<◌, ◌+◌, ℕ, Bool, true, false, ◌||◌, not, List, [], ◌∷◌, ◌++◌, take, length, get_or, Option, Some, None, String, Global, string_bytes, map, refl, sym, ◌∙◌, ap, cond}
use Rattle.std.proofs.lemmas.List.{map-append, take_more}
use Rattle.std.proofs.lemmas.List.Folds.{list_any-append}
use Rattle.std.proofs.lemmas.Map.Text.{btree_set_updates_text}
use Rattle.std.specs.List.{find}
use Rattle.std.specs.Option.{is_some, option_map}
use Rattle.std.specs.BTreeSet.{BTreeSet, contains, contains_text, Updates}
use Rattle.std.specs.Str.{str_eq_ignore_ascii_case, str_to_ascii_lowercase, bytes_eq}
use Rattle.std.specs.String.{string_cmp}
use Rattle.para.specs.declared.field.Field.{Field}
use Rattle.para.specs.declared.reader.Reader.{Reader}
use Rattle.para.specs.Field.{FieldValue, field_values}
use Rattle.para.specs.Reading.{State, ended, names_of}
use Rattle.para.specs.ReaderState.{AreLowered, is_taken, state}

-- whether the key is there, by the names that the set stands for
pub found : (set : BTreeSet (String Global)) (key : String Global) (name : List ℕ) (names : List (List ℕ)) → string_bytes key ≡ str_to_ascii_lowercase name
    → AreLowered set names → contains string_cmp set key ≡ is_taken names name
found set key name names e h = ap (contains_text set) e ∙ h name

-- the names with one more
pub one_more : (old new : BTreeSet (String Global)) (key : String Global) (name : List ℕ) (names : List (List ℕ)) → string_bytes key ≡ str_to_ascii_lowercase name → Updates string_cmp old new key true
    → AreLowered old names → AreLowered new (names ++ name ∷ [])
one_more old new key name names e u h q =
    btree_set_updates_text (string_bytes key) old new true u (str_to_ascii_lowercase q)
    ∙ ap (λ bs. cond (bytes_eq bs (str_to_ascii_lowercase q)) true (contains_text old (str_to_ascii_lowercase q))) e
    ∙ ap (cond (str_eq_ignore_ascii_case name q) true) (h q)
    ∙ cond_or (str_eq_ignore_ascii_case name q) (is_taken names q)
    ∙ sym (list_any-append (λ n. str_eq_ignore_ascii_case n q) names (name ∷ []))
  where
    cond_or : (a b : Bool) → cond a true b ≡ (b || (a || false))
    cond_or true true = refl
    cond_or true false = refl
    cond_or false true = refl
    cond_or false false = refl

-- the names of the fields before a place, with that of the field there
pub names_more : (fields : List Field) (i : ℕ) (f : Field) → i < length fields → f ≡ get_or fields i f
    → map (λ (g : Field). g.name.now) (take i fields) ++ f.name.now ∷ [] ≡ map (λ (g : Field). g.name.now) (take (i + 1) fields)
names_more fields i f within at =
    sym (map-append (λ (g : Field). g.name.now) (take i fields) (f ∷ []))
    ∙ ap (map (λ (g : Field). g.name.now)) (ap (λ g. take i fields ++ g ∷ []) at ∙ sym (take_more fields i f within))

-- the names of fields, as contracts see them
pub names_seen : (fields : List Field) → map (λ (g : Field). g.name.now) fields ≡ map (λ (g : FieldValue). g.name) (field_values fields)
names_seen [] = refl
names_seen (f ∷ fields) = ap (λ ns. f.name.now ∷ ns) (names_seen fields)

-- if no field is open, the names are those of the fields that ended
pub names_ended : (s : State) → s.current ≡ None → names_of s ≡ map (λ (f : FieldValue). f.name) s.fields
names_ended s is = ap (λ o. map (λ (f : FieldValue). f.name) (ended s.fields o)) is

some_if : (b : Bool) (f : Field) (rest : Option Field) (taken : Bool) → is_some rest ≡ taken → is_some (cond b (Some f) rest) ≡ (b || taken)
some_if true f rest taken e = refl
some_if false f rest taken e = e

-- a field of the name is found if and only if the name is taken
pub some_named : (fields : List Field) (name : List ℕ) → is_some (find (λ (f : Field). str_eq_ignore_ascii_case f.name.now name) fields) ≡ is_taken (map (λ (f : Field). f.name.now) fields) name
some_named [] name = refl
some_named (f ∷ fields) name = some_if (str_eq_ignore_ascii_case f.name.now name) f (find (λ (g : Field). str_eq_ignore_ascii_case g.name.now name) fields) (is_taken (map (λ (g : Field). g.name.now) fields) name) (some_named fields name)

some_mapped : {X Y : Type 0} (f : X → Y) (o : Option X) → is_some (option_map f o) ≡ is_some o
some_mapped f None = refl
some_mapped f (Some x) = refl

none_if : (none taken : Bool) → taken ≡ not none → none ≡ not taken
none_if true taken e = cc
none_if false taken e = cc

module _ (r : Reader) (ended : (state r).current ≡ None) where
  -- the names that are taken are those of the fields that ended
  pub taken_by_fields : names_of (state r) ≡ map (λ (f : FieldValue). f.name) (field_values r.fields.items)
  taken_by_fields = names_ended (state r) ended

  pub none_named : {X : Type 0} (now : X → Field) (fields : List Field) (name : List ℕ) (found : Option X) (none : Bool) → fields ≡ r.fields.items
      → option_map now found ≡ find (λ (f : Field). str_eq_ignore_ascii_case f.name.now name) fields → is_some found ≡ not none → none ≡ not (is_taken (names_of (state r)) name)
  none_named now fields name found none are is some =
      let taken : is_some found ≡ is_taken (names_of (state r)) name =
      sym (some_mapped now found) ∙ ap is_some is ∙ some_named fields name ∙ ap (λ ns. is_taken ns name) (names_seen fields ∙ ap (λ fs. map (λ (f : FieldValue). f.name) (field_values fs)) are ∙ sym taken_by_fields) in
      none_if none (is_taken (names_of (state r)) name) (sym taken ∙ some)

  -- a set of these names
  pub lowered_if : (set : BTreeSet (String Global)) (fields : List Field) → fields ≡ r.fields.items → AreLowered set (map (λ (f : FieldValue). f.name) (field_values fields)) → AreLowered set (names_of (state r))
  lowered_if set fields are h q = h q ∙ ap (λ ns. is_taken ns q) (ap (λ fs. map (λ (f : FieldValue). f.name) (field_values fs)) are ∙ sym taken_by_fields)

-- the set of a reader that is this one
pub lowered_as : (r s : Reader) (names : List (List ℕ)) → r ≡ s → AreLowered s.names names → AreLowered r.names names
lowered_as r s names is h q = ap (λ (x : Reader). contains_text x.names (str_to_ascii_lowercase q)) is ∙ h q
