-- The names in a configuration: they have no slash, so that the paths that are made of them differ.
use Rattle.std.proofs.Common.{◌≡◌, ◌≢◌, ℕ, Bool, true, false, cond, not, ◌&&◌, List, [], ◌∷◌, ◌++◌, drop, map, codes, Option, Some, None, Ok, bytes_eq, refl, sym, ap, subst, ◌∙◌, append_assoc, arith}
use Rattle.std.specs.List.{list_all, list_any}
use Rattle.std.specs.Option.{option_map, option_map_or}
use Rattle.std.specs.Prelude.{AllPairs, Contains, ⊤, length, nat_le, unwrap_or}
use Rattle.para.specs.Bytes.{is_nil}
use Rattle.std.proofs.lemmas.List.Kept.{AllPairs-cons}
use Rattle.std.proofs.lemmas.Slice.Eq.{bytes_eq-Decides}
use Rattle.para.specs.Fields.{Fields, field_named}
use Rattle.para.specs.Field.{FieldValue}
use Rattle.std.specs.Char.{is_ascii_alphanumeric, is_ascii_lowercase}
use Rattle.records.specs.Names.{begins_with, is_architecture_byte, is_architecture_name, is_plain_byte, is_plain_name}
use Rattle.records.specs.Records.{are_different, is_among}
use Rattle.rules.specs.Configuration.{config_fault, config_in, have_bad_value}
use Rattle.rules.specs.Paragraphs.{are_names, first_line, has_bad_value, has_good_lines, has_good_names, has_keep_days, is_days_line, is_filled_line, is_listed_architecture, is_plain_line, are_plain_words, lacks_field, passes, suite_of, words}
use Rattle.rules.specs.Values.{ConfigValue}
use Rattle.rules.specs.declared.fault.ConfigFault.{ConfigFault}
use Rattle.rules.specs.declared.fault.ConfigFault.TheVariants as faults
use Rattle.rules.specs.declared.suite.Suite.{Suite}
use Rattle.rules.proofs.Apart.{claim_apart}
use Rattle.rules.proofs.Configs.{is_config}
use Rattle.suites.proofs.MovedEntries.{codenames_apart}
use Rattle.sums.proofs.Booleans.{both, denied, neither, passed}
use Rattle.sums.proofs.Members.{all_from, all_true, any_false, from_map, pairs_tail, there}
use Rattle.indices.specs.Release.{index_path, is_source}
use Rattle.indices.specs.Places.{place_at, place_path, places_in}
use Rattle.indices.specs.declared.index.IndexPlace.{IndexPlace}
use Rattle.indices.proofs.Pairs.{pairs_flat, pairs_map, pairs_none}

-- ---- names without a slash

abbrev pub NoSlash : List ℕ → Type 0
NoSlash [] = ⊤
NoSlash (c ∷ cs) = (c ≢ 47) × NoSlash cs

abbrev head_of : List ℕ → ℕ
head_of [] = 0
head_of (c ∷ cs) = c

abbrev tail_of : List ℕ → List ℕ
tail_of [] = []
tail_of (c ∷ cs) = cs

pub joined : (c d : ℕ) (cs ds : List ℕ) → c ≡ d → cs ≡ ds → c ∷ cs ≡ d ∷ ds
joined c d cs ds p q = ap (λ (e : ℕ). e ∷ cs) p ∙ ap (λ (es : List ℕ). d ∷ es) q

-- what stands before the first slash, and after it
pub split_slash : (c d r t : List ℕ) → NoSlash c → NoSlash d → c ++ 47 ∷ r ≡ d ++ 47 ∷ t → (c ≡ d) × (r ≡ t)
split_slash [] [] r t p q e = (refl, ap tail_of e)
split_slash [] (y ∷ d) r t p q e = absurd (q.0 (sym (ap head_of e)))
split_slash (x ∷ c) [] r t p q e = absurd (p.0 (ap head_of e))
split_slash (x ∷ c) (y ∷ d) r t p q e = let rest = split_slash c d r t p.1 q.1 (ap tail_of e) in (joined x y c d (ap head_of e) rest.0, rest.1)

pub slash_there : (c r : List ℕ) → NoSlash (c ++ 47 ∷ r) → ⊥
slash_there [] r h = h.0 refl
slash_there (x ∷ c) r h = slash_there c r h.1

pub by_bytes : (test : ℕ → Bool) → test 47 ≡ false → (name : List ℕ) → list_all test name ≡ true → NoSlash name
by_bytes test slash [] h = tt
by_bytes test slash (c ∷ cs) h =
    let parts = both (test c) (list_all test cs) h in
    ((λ is. cc (sym slash ∙ ap test (sym is) ∙ parts.0)), by_bytes test slash cs parts.1)

pub plain_no_slash : (name : List ℕ) → is_plain_name name ≡ true → NoSlash name
unfolding is_plain_name
plain_no_slash name h = by_bytes is_plain_byte refl name (both (nat_le (length name) 60 && begins_with is_ascii_alphanumeric name) (list_all is_plain_byte name) h).1

pub architecture_no_slash : (name : List ℕ) → is_architecture_name name ≡ true → NoSlash name
unfolding is_architecture_name
architecture_no_slash name h =
    let front = both (nat_le (length name) 40 && begins_with is_ascii_lowercase name && list_all is_architecture_byte name) (not (bytes_eq name (codes "any"))) h in
    by_bytes is_architecture_byte refl name (both (nat_le (length name) 40 && begins_with is_ascii_lowercase name) (list_all is_architecture_byte name) front.0).1

-- ---- paths in the folder of a suite

-- the path of an index of packages, from its first slash
pub spread : (c a : List ℕ) → c ++ codes "/binary-" ++ a ++ codes "/Packages" ≡ c ++ (codes "/binary-" ++ (a ++ codes "/Packages"))
spread c a = append_assoc (c ++ codes "/binary-") a (codes "/Packages") ∙ append_assoc c (codes "/binary-") (a ++ codes "/Packages")

pub by_kinds : (c d a b : List ℕ) → NoSlash c → NoSlash d → NoSlash a → NoSlash b → (s t : Bool) → is_source a ≡ s → is_source b ≡ t
    → cond s (c ++ codes "/source/Sources") (c ++ codes "/binary-" ++ a ++ codes "/Packages") ≡ cond t (d ++ codes "/source/Sources") (d ++ codes "/binary-" ++ b ++ codes "/Packages")
    → (c ≡ d) × (a ≡ b)
by_kinds c d a b nc nd na nb true true p q e =
    ((split_slash c d _ _ nc nd e).0, (bytes_eq-Decides a (codes "source")).0 p ∙ sym ((bytes_eq-Decides b (codes "source")).0 q))
by_kinds c d a b nc nd na nb true false p q e = let other : 115 ≡ 98 = ap head_of (split_slash c d _ _ nc nd (e ∙ spread d b)).1 in absurd (omega (arith, other))
by_kinds c d a b nc nd na nb false true p q e = let other : 98 ≡ 115 = ap head_of (split_slash c d _ _ nc nd (sym (spread c a) ∙ e)).1 in absurd (omega (arith, other))
by_kinds c d a b nc nd na nb false false p q e =
    let parts = split_slash c d _ _ nc nd (sym (spread c a) ∙ e ∙ spread d b) in
    let behind : a ++ codes "/Packages" ≡ b ++ codes "/Packages" = ap (λ (r : List ℕ). tail_of (tail_of (tail_of (tail_of (tail_of (tail_of (tail_of r))))))) parts.1 in
    (parts.0, (split_slash a b _ _ na nb behind).0)

pub index_paths : (c d a b : List ℕ) → NoSlash c → NoSlash d → NoSlash a → NoSlash b → index_path c a ≡ index_path d b → (c ≡ d) × (a ≡ b)
unfolding index_path
index_paths c d a b nc nd na nb e = by_kinds c d a b nc nd na nb (is_source a) (is_source b) refl refl e

pub no_release : (c a : List ℕ) (s : Bool) → cond s (c ++ codes "/source/Sources") (c ++ codes "/binary-" ++ a ++ codes "/Packages") ≡ codes "Release" → ⊥
no_release c a true e = slash_there c _ (subst NoSlash (sym e) (by_bytes is_plain_byte refl (codes "Release") refl))
no_release c a false e = slash_there c _ (subst NoSlash (sym e ∙ spread c a) (by_bytes is_plain_byte refl (codes "Release") refl))

pub index_or_release : (c a : List ℕ) → index_path c a ≢ codes "Release"
unfolding index_path
index_or_release c a e = no_release c a (is_source a) e

-- the folder of a path, and the path from there
pub folders : (c d p q : List ℕ) → NoSlash c → NoSlash d → codes "dists/" ++ c ++ codes "/" ++ p ≡ codes "dists/" ++ d ++ codes "/" ++ q → (c ≡ d) × (p ≡ q)
folders c d p q nc nd e =
    split_slash c d p q nc nd
    (sym (append_assoc c (codes "/") p) ∙ ap (λ (r : List ℕ). tail_of (tail_of (tail_of (tail_of (tail_of (tail_of r)))))) e ∙ append_assoc d (codes "/") q)

-- ---- codenames that differ

abbrev pub CodenamesDiffer : Suite → Suite → Type 0
CodenamesDiffer s u = s.codename ≢ u.codename

-- the suites of a configuration that was read have different codenames
pub config_codenames : (config : ConfigValue) → config_in config.text ≡ Ok config → AllPairs CodenamesDiffer config.suites
config_codenames config read = codenames_apart config.suites (claim_apart config.text config read)

-- ---- suites whose paths differ

-- names without a slash, that differ
pub record IsNamed (s : Suite) : Type 0 where
  pub codename : NoSlash s.codename
  pub components : (c : List ℕ) → Contains s.components c → NoSlash c
  pub architectures : (a : List ℕ) → Contains s.architectures a → NoSlash a
  pub components_apart : AllPairs (λ c d. c ≢ d) s.components
  pub architectures_apart : AllPairs (λ a b. a ≢ b) s.architectures

abbrev PlacesDiffer : IndexPlace → IndexPlace → Type 0
PlacesDiffer p q = place_path p ≢ place_path q

pub places_apart : (s : Suite) → IsNamed s → AllPairs (λ p q. place_path p ≢ place_path q) (places_in s.components s.architectures)
places_apart s named =
    pairs_flat PlacesDiffer (λ c d. c ≢ d) (λ c. map (place_at c) s.architectures) s.components
    (λ c at. pairs_map PlacesDiffer (λ a b. a ≢ b) (place_at c) s.architectures
    (λ a b p q other e. other (index_paths c c a b (named.components c at) (named.components c at) (named.architectures a p) (named.architectures b q) e).1) named.architectures_apart)
    (λ c d at_c at_d other p q in_c in_d e.
    let a = from_map (place_at c) p s.architectures in_c in
    let b = from_map (place_at d) q s.architectures in_d in
    let same : index_path c a.0 ≡ index_path d b.0 = ap place_path a.2 ∙ e ∙ sym (ap place_path b.2) in
    other (index_paths c d a.0 b.0 (named.components c at_c) (named.components d at_d) (named.architectures a.0 a.1) (named.architectures b.0 b.1) same).0)
    named.components_apart

pub record AreNamed (suites : List Suite) : Type 0 where
  pub each : (s : Suite) → Contains suites s → IsNamed s
  pub apart : AllPairs CodenamesDiffer suites

pub named_rest : (s : Suite) (rest : List Suite) → AreNamed (s ∷ rest) → AreNamed rest
named_rest s rest named = record { each = λ u at. named.each u (there s u rest at); apart = pairs_tail CodenamesDiffer s rest named.apart }

-- ---- a configuration that was read

pub different_pairs : (names : List (List ℕ)) → are_different names ≡ true → AllPairs (λ c d. c ≢ d) names
different_pairs [] h = pairs_none (λ c d. c ≢ d)
different_pairs (name ∷ names) h =
    let parts = both (not (is_among names name)) (are_different names) h in
    AllPairs-cons (λ c d. c ≢ d) name names
    (all_from (λ d. name ≢ d) names (λ d at e. cc (sym ((bytes_eq-Decides name d).1 e) ∙ any_false (bytes_eq name) names d (denied (is_among names name) parts.0) at)))
    (different_pairs names parts.1)

-- What holds of plain names, of names of architectures and of the empty text.
pub record HoldsOfNames (P : List ℕ → Type 0) : Type 0 where
  pub none : P []
  pub plain : (name : List ℕ) → is_plain_name name ≡ true → P name
  pub architecture : (name : List ℕ) → is_architecture_name name ≡ true → P name

-- It holds of the names of a suite.
pub record HasNames (P : List ℕ → Type 0) (s : Suite) : Type 0 where
  pub codename : P s.codename
  pub components : (c : List ℕ) → Contains s.components c → P c
  pub architectures : (a : List ℕ) → Contains s.architectures a → P a

codename_holds : (P : List ℕ → Type 0) → HoldsOfNames P → (o : Option FieldValue) → option_map_or is_plain_line o true ≡ true → P (option_map_or (λ f. f.first) o [])
unfolding is_plain_line
codename_holds P holds None h = holds.none
codename_holds P holds (Some f) h = holds.plain f.first (both (is_nil f.more) (is_plain_name f.first) h).1

pub unwrapped : (o : Option FieldValue) → option_map_or (λ (f : FieldValue). f.first) o [] ≡ unwrap_or (option_map (λ (f : FieldValue). f.first) o) []
unwrapped None = refl
unwrapped (Some f) = refl

has_codename : (P : List ℕ → Type 0) → HoldsOfNames P → (p : Fields) → has_good_lines p ≡ true → P (suite_of p).codename
unfolding has_good_lines passes first_line
has_codename P holds p h =
    let o = field_named (codes "Codename") p in
    let codename = passes is_plain_line (codes "Codename") p in
    let suite = passes is_plain_line (codes "Suite") p in
    let origin = passes is_filled_line (codes "Origin") p in
    let label = passes is_filled_line (codes "Label") p in
    let description = passes is_filled_line (codes "Description") p in
    let keep = passes is_days_line (codes "KeepDays") p in
    let valid = passes is_days_line (codes "ValidDays") p in
    let six = both (codename && suite && origin && label && description && keep) valid h in
    let five = both (codename && suite && origin && label && description) keep six.0 in
    let four = both (codename && suite && origin && label) description five.0 in
    let three = both (codename && suite && origin) label four.0 in
    let two = both (codename && suite) origin three.0 in
    subst P (unwrapped o) (codename_holds P holds o (both codename suite two.0).0)

pub good_names : (test : List ℕ → Bool) (names : List (List ℕ)) → are_names test names ≡ true → (list_all test names ≡ true) × (are_different names ≡ true)
unfolding are_names
good_names test names h = both (list_all test names) (are_different names) h

listed_architecture : (name : List ℕ) → is_listed_architecture name ≡ true → is_architecture_name name ≡ true
unfolding is_listed_architecture
listed_architecture name h = (both (is_architecture_name name) (not (bytes_eq name (codes "all"))) h).0

-- the tests of the lists of names
record AreListed (p : Fields) : Type 0 where
  architectures : list_all is_listed_architecture (words (codes "Architectures") p) ≡ true
  architectures_differ : are_different (words (codes "Architectures") p) ≡ true
  components : list_all is_plain_name (words (codes "Components") p) ≡ true
  components_differ : are_different (words (codes "Components") p) ≡ true

listed_names : (p : Fields) → has_good_names p ≡ true → AreListed p
unfolding has_good_names
listed_names p h =
    let all = both (are_names is_listed_architecture (words (codes "Architectures") p) && are_names is_plain_name (words (codes "Components") p)) (passes are_plain_words (codes "AlsoAcceptFor") p) h in
    let names = both (are_names is_listed_architecture (words (codes "Architectures") p)) (are_names is_plain_name (words (codes "Components") p)) all.0 in
    let architectures = good_names is_listed_architecture (words (codes "Architectures") p) names.0 in
    let components = good_names is_plain_name (words (codes "Components") p) names.1 in
    record { architectures = architectures.0; architectures_differ = architectures.1; components = components.0; components_differ = components.1 }

good_value : (p : Fields) → has_bad_value p ≡ false → (has_good_lines p ≡ true) × (has_good_names p ≡ true)
unfolding has_bad_value
good_value p h = both (has_good_lines p) (has_good_names p) (passed (has_good_lines p && has_good_names p) h)

names_of_suite : (P : List ℕ → Type 0) → HoldsOfNames P → (p : Fields) → has_bad_value p ≡ false → HasNames P (suite_of p)
names_of_suite P holds p h =
    let good = good_value p h in
    let listed = listed_names p good.1 in
    record {
      codename = has_codename P holds p good.0;
      components = λ c at. holds.plain c (all_true is_plain_name (words (codes "Components") p) c listed.components at);
      architectures = λ a at. holds.architecture a (listed_architecture a (all_true is_listed_architecture (words (codes "Architectures") p) a listed.architectures at));
    }

slashless : HoldsOfNames NoSlash
slashless = record { none = tt; plain = plain_no_slash; architecture = architecture_no_slash }

pub named_suite : (p : Fields) → has_bad_value p ≡ false → IsNamed (suite_of p)
named_suite p h =
    let names = names_of_suite NoSlash slashless p h in
    let listed = listed_names p (good_value p h).1 in
    record {
      codename = names.codename;
      components = names.components;
      architectures = names.architectures;
      components_apart = different_pairs (words (codes "Components") p) listed.components_differ;
      architectures_apart = different_pairs (words (codes "Architectures") p) listed.architectures_differ;
    }

pub second_passes : (a b : Bool) (rest : Option ConfigFault) → cond a (Some faults.Missing) (cond b (Some faults.BadValue) rest) ≡ None → b ≡ false
second_passes true b rest h = cc
second_passes false true rest h = cc
second_passes false false rest h = refl

pub good_values : (ps : List Fields) → config_fault ps ≡ None → list_any has_bad_value ps ≡ false
unfolding config_fault have_bad_value
good_values ps h = (neither (list_any has_bad_value ps) (list_any has_keep_days (drop 1 ps)) (second_passes (list_any lacks_field ps) (have_bad_value ps) _ h)).0

-- a suite of a configuration that was read is that of a paragraph with good values
of_paragraph : (P : Suite → Type 0) → ((p : Fields) → has_bad_value p ≡ false → P (suite_of p)) → (config : ConfigValue) → config_in config.text ≡ Ok config → (s : Suite) → Contains config.suites s → P s
of_paragraph P each config h s at =
    let c = is_config config.text config h in
    let from = from_map suite_of s c.paragraphs (subst (λ (v : ConfigValue). Contains v.suites s) c.value at) in
    subst P from.2 (each from.0 (any_false has_bad_value c.paragraphs from.0 (good_values c.paragraphs c.faultless) from.1))

-- THE SUITES of a configuration have names without slashes, that differ.
pub config_named : (config : ConfigValue) → config_in config.text ≡ Ok config → AreNamed config.suites
config_named config h = record { each = of_paragraph IsNamed named_suite config h; apart = config_codenames config h }

-- What holds of plain names and of names of architectures holds of the names of its suites.
pub config_names : (P : List ℕ → Type 0) → HoldsOfNames P → (config : ConfigValue) → config_in config.text ≡ Ok config → (s : Suite) → Contains config.suites s → HasNames P s
config_names P holds config h = of_paragraph (HasNames P) (names_of_suite P holds) config h
