-- Which configuration a text is, one paragraph a suite, and the first fault of a text that is not a configuration.
use Rattle.std.specs.Prelude.{◌≡◌, ◌≢◌, ◌≤◌, ◌<◌, ℕ, ◌++◌, nat_lt, Bool, true, false, ◌||◌, List, [], ◌∷◌, length, drop, get_or, slice_get, codes, map, Option, Some, None, IsSomeAnd, Result, Ok, Err}
use Rattle.std.specs.List.{find, list_any, AllPairs}
use Rattle.para.specs.Fields.{Fields, paragraphs_in}
use Rattle.para.specs.Grammar.{Spells}
use Rattle.para.specs.declared.fault.ParaFault.{ParaFault}
use Rattle.records.specs.Records.{is_among}
use Rattle.rules.specs.Paragraphs.{days, mebibytes, suite_of, names_claimed, lacks_field, has_bad_value, has_keep_days, has_bad_size, has_size, has_bad_rule, is_over_limits}
use Rattle.rules.specs.Suites.{claims}
use Rattle.rules.specs.Values.{ConfigValue}
use Rattle.rules.specs.declared.suite.Suite.{Suite}
use Rattle.rules.specs.declared.fault.ConfigFault.{ConfigFault}
use Rattle.rules.specs.declared.fault.ConfigFault.TheVariants as faults

-- given the names that each suite claims: some suite claims a name that a suite before it claims, or
-- that is among those claimed already
abbrev pub claims_again : List (List ℕ) → List (List (List ℕ)) → Bool
claims_again claimed [] = false
claims_again claimed (names ∷ rest) = list_any (is_among claimed) names || claims_again (claimed ++ names) rest

-- a paragraph has a bad value, or one after the first says how long arrivals count
unfoldable pub have_bad_value : List Fields → Bool
have_bad_value ps = list_any has_bad_value ps || list_any has_keep_days (drop 1 ps)

-- when each fault applies to the paragraphs of a text, whatever the others do
abbrev pub applies : List Fields → ConfigFault → Bool
applies ps faults.Missing = list_any lacks_field ps
applies ps faults.BadValue = have_bad_value ps
applies ps faults.ClaimedTwice = claims_again [] (map names_claimed ps)
applies ps faults.BadRule = list_any has_bad_rule ps
applies ps faults.Limits = nat_lt 16 (length ps) || list_any is_over_limits ps
applies ps _ = false

-- the faults of paragraphs, in the order of their numbers
abbrev pub config_faults : List ConfigFault
config_faults = faults.Missing ∷ faults.BadValue ∷ faults.ClaimedTwice ∷ faults.BadRule ∷ faults.Limits ∷ []

-- the fault of lowest number that applies to paragraphs
unfoldable pub config_fault : List Fields → Option ConfigFault
config_fault ps = find (applies ps) config_faults

abbrev pub config_of : List ℕ → List Fields → ConfigValue
config_of text ps = record { text = text; suites = map suite_of ps; keep_days = days (codes "KeepDays") (get_or ps 0 []); max_file_size = mebibytes (codes "MaxFileSize") (get_or ps 0 []) }

-- a paragraph says a size of another form, or one after the first says a size
unfoldable pub have_bad_size : List Fields → Bool
have_bad_size ps = list_any has_bad_size ps || list_any has_size (drop 1 ps)

-- when each fault applies to the paragraphs of a text that is to be a new configuration
abbrev pub applies_strictly : List Fields → ConfigFault → Bool
applies_strictly ps faults.BadValue = have_bad_value ps || have_bad_size ps
applies_strictly ps fault = applies ps fault

-- the fault of lowest number that applies to paragraphs that are to be a new configuration
unfoldable pub strict_fault : List Fields → Option ConfigFault
strict_fault ps = find (applies_strictly ps) config_faults

-- the fault, or the configuration if there is no fault
abbrev pub unless : Option ConfigFault → ConfigValue → Result ConfigValue ConfigFault
unless None config = Ok config
unless (Some fault) config = Err fault

-- the fault of a text that spells no paragraphs, else what is made of the paragraphs
abbrev pub of_paragraphs : List ℕ → Result (List Fields) ParaFault → Result ConfigValue ConfigFault
of_paragraphs text (Ok ps) = unless (config_fault ps) (config_of text ps)
of_paragraphs text (Err fault) = Err (faults.Paragraph fault)

abbrev pub config_limit : ℕ
config_limit = 1_048_576

-- the configuration that a text is, or the fault of lowest number
unfoldable pub config_in : List ℕ → Result ConfigValue ConfigFault
config_in text = of_paragraphs text (paragraphs_in text config_limit)

-- the fault of a text that spells no paragraphs, else what is made of the paragraphs of a new configuration
abbrev pub of_new_paragraphs : List ℕ → Result (List Fields) ParaFault → Result ConfigValue ConfigFault
of_new_paragraphs text (Ok ps) = unless (strict_fault ps) (config_of text ps)
of_new_paragraphs text (Err fault) = Err (faults.Paragraph fault)

-- The new configuration that a text is, or the fault of lowest number. A size of another form is a fault here; what is
-- kept already may have one.
unfoldable pub strict_config_in : List ℕ → Result ConfigValue ConfigFault
strict_config_in text = of_new_paragraphs text (paragraphs_in text config_limit)

-- The text is within the limit, spells one or more paragraphs to which no fault applies, and the configuration is
-- that text and a suite for each of them.
pub record IsConfig (text : List ℕ) (config : ConfigValue) : Type 0 where
  pub paragraphs : List Fields
  pub within : length text ≤ config_limit
  pub some : paragraphs ≢ []
  pub spelled : Spells text paragraphs
  pub faultless : config_fault paragraphs ≡ None
  pub value : config ≡ config_of text paragraphs

-- No two suites claim the same distribution name.
abbrev pub ClaimApart : List Suite → Type 0
ClaimApart suites = AllPairs (λ s t. (name : List ℕ) → claims name s ≡ true → claims name t ≡ true → ⊥) suites

-- The suite at this place claims the name.
abbrev pub ClaimsAt : List Suite → ℕ → List ℕ → Type 0
ClaimsAt suites place name = IsSomeAnd (slice_get suites place) (λ s. claims name s ≡ true)

-- Two suites claim the same distribution name: the one at one place, and the one at a later place.
pub record ClaimOneName (suites : List Suite) : Type 0 where
  pub name : List ℕ
  pub first : ℕ
  pub later : ℕ
  pub apart : first < later
  pub first_claims : ClaimsAt suites first name
  pub later_claims : ClaimsAt suites later name
