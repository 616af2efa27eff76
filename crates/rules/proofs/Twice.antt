-- A distribution name that two suites claim, and the fault that reports it.
use Rattle.std.proofs.Common.{◌≡◌, ◌<◌, ◌⊎◌, inl, inr, ◌↔◌, ℕ, zero, suc, ◌||◌, Bool, true, false, cond, List, [], ◌∷◌, ◌++◌, map, refl, sym, ap, ◌∙◌, arith, Option, Some, None, Result, Ok, Err}
use Rattle.std.specs.List.{list_any}
use Rattle.std.specs.Str.{bytes_eq}
use Rattle.std.proofs.lemmas.Bool.{or_left, or_right}
use Rattle.std.proofs.lemmas.List.Folds.{list_any-append, list_any_at, Any-from_list_any}
use Rattle.std.proofs.lemmas.Slice.Eq.{bytes_eq-Decides}
use Rattle.para.specs.Fields.{Fields, paragraphs_in}
use Rattle.para.specs.declared.fault.ParaFault.{ParaFault}
use Rattle.records.specs.Records.{is_among}
use Rattle.rules.specs.Suites.{distributions, claims}
use Rattle.rules.specs.Paragraphs.{suite_of, names_claimed}
use Rattle.rules.specs.Values.{ConfigValue}
use Rattle.rules.specs.Configuration.{claims_again, applies, config_fault, config_limit, config_of, unless, of_paragraphs, config_in, ClaimsAt, ClaimOneName}
use Rattle.rules.specs.declared.suite.Suite.{Suite}
use Rattle.rules.specs.declared.fault.ConfigFault.{ConfigFault}
use Rattle.rules.specs.declared.fault.ConfigFault.TheVariants as faults
use Rattle.rules.proofs.Apart.{none_shared, names_of_suites}

-- the two cases of a test
either : (b : Bool) → (b ≡ true) ⊎ (b ≡ false)
either true = inl refl
either false = inr refl

or_cases : (a b : Bool) → (a || b) ≡ true → (a ≡ true) ⊎ (b ≡ true)
or_cases true b h = inl refl
or_cases false b h = inr h

-- ---- if a name is claimed again, two suites claim it

-- a name among those claimed already, and a suite that claims it
record Again (claimed : List (List ℕ)) (suites : List Suite) : Type 0 where
  pub name : List ℕ
  pub place : ℕ
  pub known : is_among claimed name ≡ true
  pub again : ClaimsAt suites place name

abbrev Found : List (List ℕ) → List Suite → Type 0
Found claimed suites = Again claimed suites ⊎ ClaimOneName suites

-- the first suite claims a name that is claimed already
found_here : (claimed : List (List ℕ)) (s : Suite) (rest : List Suite) → list_any (is_among claimed) (distributions s) ≡ true → Again claimed (s ∷ rest)
unfolding claims
found_here claimed s rest h =
    let m = Any-from_list_any (is_among claimed) (distributions s) h in
    record {
      name = m.1;
      place = 0;
      known = m.4;
      again = list_any_at (bytes_eq m.1) (distributions s) m.0 m.1 m.2 ((bytes_eq-Decides _ _).1 (sym m.3));
    }

found_behind : (claimed : List (List ℕ)) (s : Suite) (rest : List Suite) → Found (claimed ++ distributions s) rest → Found claimed (s ∷ rest)
unfolding claims
found_behind claimed s rest (inr pair) =
    inr (record { name = pair.name; first = suc pair.first; later = suc pair.later; apart = omega (arith, pair.apart); first_claims = pair.first_claims; later_claims = pair.later_claims })
found_behind claimed s rest (inl a) =
    elim (or_cases (is_among claimed a.name) (is_among (distributions s) a.name) (sym (list_any-append (bytes_eq a.name) claimed (distributions s)) ∙ a.known)) [
      | inl known ↦ inl (record { name = a.name; place = suc a.place; known = known; again = a.again })
      | inr here ↦ inr (record { name = a.name; first = 0; later = suc a.place; apart = omega arith; first_claims = here; later_claims = a.again })
    ]

found : (claimed : List (List ℕ)) (suites : List Suite) → claims_again claimed (map distributions suites) ≡ true → Found claimed suites
found claimed [] h = cc
found claimed (s ∷ rest) h = elim (or_cases (list_any (is_among claimed) (distributions s)) (claims_again (claimed ++ distributions s) (map distributions rest)) h) [
  | inl here ↦ inl (found_here claimed s rest here)
  | inr behind ↦ found_behind claimed s rest (found (claimed ++ distributions s) rest behind)
]

pair_found : (suites : List Suite) → Found [] suites → ClaimOneName suites
pair_found suites (inl a) = let known = a.known in cc
pair_found suites (inr pair) = pair

-- ---- if two suites claim a name, it is claimed again

known_shared : (claimed names : List (List ℕ)) (name : List ℕ) → is_among claimed name ≡ true → is_among names name ≡ true → list_any (is_among claimed) names ≡ true
known_shared claimed names name known here = elim (either (list_any (is_among claimed) names)) [
  | inl some ↦ some
  | inr none ↦ let both = sym known ∙ none_shared claimed names name none here in cc
]

-- a suite claims a name that is claimed already
told_again : (claimed : List (List ℕ)) (suites : List Suite) (name : List ℕ) (place : ℕ) → is_among claimed name ≡ true → ClaimsAt suites place name
    → claims_again claimed (map distributions suites) ≡ true
unfolding claims
told_again claimed [] name place known again = absurd again
told_again claimed (s ∷ rest) name zero known again = or_left _ _ (known_shared claimed (distributions s) name known again)
told_again claimed (s ∷ rest) name (suc place) known again =
    or_right _ _ (told_again (claimed ++ distributions s) rest name place
    (list_any-append (bytes_eq name) claimed (distributions s) ∙ or_left _ _ known) again)

told : (claimed : List (List ℕ)) (suites : List Suite) (name : List ℕ) (first later : ℕ) → first < later → ClaimsAt suites first name → ClaimsAt suites later name
    → claims_again claimed (map distributions suites) ≡ true
unfolding claims
told claimed [] name first later apart a b = absurd a
told claimed (s ∷ rest) name first zero apart a b = absurd (omega (arith, apart))
told claimed (s ∷ rest) name zero (suc later) apart a b =
    or_right _ _ (told_again (claimed ++ distributions s) rest name later
    (list_any-append (bytes_eq name) claimed (distributions s) ∙ or_right _ _ a) b)
told claimed (s ∷ rest) name (suc first) (suc later) apart a b =
    or_right _ _ (told (claimed ++ distributions s) rest name first later (omega (arith, apart)) a b)

-- ---- the fault

pub claimed_twice_is : (ps : List Fields) → applies ps faults.ClaimedTwice ≡ true ↔ ClaimOneName (map suite_of ps)
claimed_twice_is ps =
    let same : claims_again [] (map names_claimed ps) ≡ claims_again [] (map distributions (map suite_of ps)) = ap (claims_again []) (names_of_suites ps) in (
      λ h. pair_found (map suite_of ps) (found [] (map suite_of ps) (sym same ∙ h)),
      λ pair. same ∙ told [] (map suite_of ps) pair.name pair.first pair.later pair.apart pair.first_claims pair.later_claims,
    )

third_stops : (a b c d e : Bool) → cond a (Some faults.Missing) (cond b (Some faults.BadValue) (cond c (Some faults.ClaimedTwice) (cond d (Some faults.BadRule) (cond e (Some faults.Limits) None))))
    ≡ Some faults.ClaimedTwice → c ≡ true
third_stops true b c d e h = cc
third_stops false true c d e h = cc
third_stops false false true d e h = refl
third_stops false false false true e h = cc
third_stops false false false false true h = cc
third_stops false false false false false h = cc

fault_applies : (ps : List Fields) → config_fault ps ≡ Some faults.ClaimedTwice → applies ps faults.ClaimedTwice ≡ true
unfolding config_fault
fault_applies ps h = third_stops _ _ (applies ps faults.ClaimedTwice) _ _ h

unless_err : (f : Option ConfigFault) (config : ConfigValue) (e : ConfigFault) → unless f config ≡ Err e → f ≡ Some e
unless_err None config e h = cc
unless_err (Some f) config e h = cc

-- the paragraphs of a text, two of whose suites claim the same name
abbrev Twice : List ℕ → Type 0
Twice text = (ps : List Fields) × (paragraphs_in text config_limit ≡ Ok ps) × ClaimOneName (map suite_of ps)

twice_in : (text : List ℕ) (r : Result (List Fields) ParaFault) → paragraphs_in text config_limit ≡ r → of_paragraphs text r ≡ Err faults.ClaimedTwice → Twice text
twice_in text (Ok ps) e h = (ps, e, (claimed_twice_is ps).0 (fault_applies ps (unless_err (config_fault ps) (config_of text ps) faults.ClaimedTwice h)))
twice_in text (Err f) e h = cc

pub text_claims_twice : (text : List ℕ) → config_in text ≡ Err faults.ClaimedTwice → Twice text
unfolding config_in
text_claims_twice text h = twice_in text (paragraphs_in text config_limit) refl h
