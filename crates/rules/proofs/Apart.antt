-- No two suites of a configuration claim the same distribution name.
use Rattle.std.proofs.Common.{◌≡◌, ℕ, ◌||◌, Bool, true, false, cond, List, [], ◌∷◌, ◌++◌, map, refl, sym, ap, ◌∙◌, subst, arith, Option, Some, None, Ok}
use Rattle.std.specs.List.{list_any, All, AllPairs}
use Rattle.std.specs.Str.{bytes_eq}
use Rattle.std.proofs.lemmas.Bool.{or_left, or_parts, or_right}
use Rattle.std.proofs.lemmas.List.Elements.{All-nil, All-cons}
use Rattle.std.proofs.lemmas.List.Kept.{AllPairs-cons}
use Rattle.std.proofs.lemmas.List.Folds.{list_any-append}
use Rattle.std.proofs.lemmas.Slice.Eq.{bytes_eq-Decides}
use Rattle.para.specs.Fields.{Fields}
use Rattle.records.specs.Records.{is_among}
use Rattle.rules.specs.Suites.{distributions, claims}
use Rattle.rules.specs.Paragraphs.{suite_of, names_claimed, lacks_field}
use Rattle.rules.specs.Values.{ConfigValue}
use Rattle.rules.specs.Configuration.{claims_again, config_fault, config_in, ClaimApart, have_bad_value}
use Rattle.rules.specs.declared.suite.Suite.{Suite}
use Rattle.rules.specs.declared.fault.ConfigFault.{ConfigFault}
use Rattle.rules.specs.declared.fault.ConfigFault.TheVariants as faults
use Rattle.rules.proofs.Configs.{is_config}

-- if none of the names is claimed, a name among them is not claimed
pub none_shared : (claimed names : List (List ℕ)) (name : List ℕ) → list_any (is_among claimed) names ≡ false → is_among names name ≡ true → is_among claimed name ≡ false
none_shared claimed [] name h k = cc
none_shared claimed (n ∷ ns) name h k =
    let none = or_parts _ _ h in
    by_first (bytes_eq name n) refl k none.0 (none_shared claimed ns name none.1)
  where
    by_first : (b : Bool) → bytes_eq name n ≡ b → (b || is_among ns name) ≡ true → is_among claimed n ≡ false → (is_among ns name ≡ true → is_among claimed name ≡ false) → is_among claimed name ≡ false
    by_first true e k none rest = ap (is_among claimed) ((bytes_eq-Decides name n).0 e) ∙ none
    by_first false e k none rest = rest k

abbrev Apart : Suite → Suite → Type 0
Apart s t = (name : List ℕ) → claims name s ≡ true → claims name t ≡ true → ⊥

-- a suite whose names are claimed shares none with those that follow
apart_from_rest : (claimed : List (List ℕ)) (s : Suite) (rest : List Suite) → claims_again claimed (map distributions rest) ≡ false
    → ((name : List ℕ) → claims name s ≡ true → is_among claimed name ≡ true) → All (Apart s) rest
unfolding claims
apart_from_rest claimed s [] h known = All-nil (Apart s)
apart_from_rest claimed s (t ∷ rest) h known =
    let none = or_parts _ _ h in
    All-cons (Apart s) t rest
    (λ name a b. let both = sym (known name a) ∙ none_shared claimed (distributions t) name none.0 b in cc)
    (apart_from_rest (claimed ++ distributions t) s rest none.1
    (λ name a. list_any-append (bytes_eq name) claimed (distributions t) ∙ or_left _ _ (known name a)))

all_apart : (claimed : List (List ℕ)) (suites : List Suite) → claims_again claimed (map distributions suites) ≡ false → AllPairs Apart suites
unfolding claims
all_apart claimed [] h = λ i j d below within. absurd (omega arith)
all_apart claimed (s ∷ rest) h =
    let none = or_parts _ _ h in
    AllPairs-cons Apart s rest
    (apart_from_rest (claimed ++ distributions s) s rest none.1
    (λ name a. list_any-append (bytes_eq name) claimed (distributions s) ∙ or_right _ _ a))
    (all_apart (claimed ++ distributions s) rest none.1)

pub names_of_suites : (ps : List Fields) → map names_claimed ps ≡ map distributions (map suite_of ps)
unfolding names_claimed
names_of_suites [] = refl
names_of_suites (p ∷ ps) = ap (λ rest. distributions (suite_of p) ∷ rest) (names_of_suites ps)

third_passes : (a b c : Bool) (rest : Option ConfigFault) → cond a (Some faults.Missing) (cond b (Some faults.BadValue) (cond c (Some faults.ClaimedTwice) rest)) ≡ None → c ≡ false
third_passes true b c rest h = cc
third_passes false true c rest h = cc
third_passes false false true rest h = cc
third_passes false false false rest h = refl

claimed_once : (ps : List Fields) → config_fault ps ≡ None → claims_again [] (map names_claimed ps) ≡ false
unfolding config_fault
claimed_once ps h = third_passes (list_any lacks_field ps) (have_bad_value ps) (claims_again [] (map names_claimed ps)) _ h

pub claim_apart : (text : List ℕ) (config : ConfigValue) → config_in text ≡ Ok config → ClaimApart config.suites
claim_apart text config h =
    let c = is_config text config h in
    let apart : AllPairs Apart (map suite_of c.paragraphs) = all_apart [] (map suite_of c.paragraphs) (ap (claims_again []) (sym (names_of_suites c.paragraphs)) ∙ claimed_once c.paragraphs c.faultless) in
    subst (λ (v : ConfigValue). AllPairs Apart v.suites) (sym c.value) apart
