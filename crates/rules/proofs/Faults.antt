-- The fault of paragraphs, by the tests one after the other.
use Rattle.std.proofs.Common.{◌≡◌, ◌||◌, Bool, true, false, cond, List, [], length, map, nat_lt, refl, sym, ◌∙◌, Option, Some, None}
use Rattle.std.specs.List.{list_any}
use Rattle.para.specs.Fields.{Fields}
use Rattle.rules.specs.Paragraphs.{names_claimed, lacks_field, has_bad_rule, is_over_limits}
use Rattle.rules.specs.Configuration.{claims_again, config_fault, strict_fault, have_bad_value, have_bad_size}
use Rattle.rules.specs.declared.fault.ConfigFault.{ConfigFault}
use Rattle.rules.specs.declared.fault.ConfigFault.TheVariants as faults

abbrev first_of : Bool → Bool → Bool → Bool → Bool → Option ConfigFault
first_of a b c d e =
    cond a (Some faults.Missing) (cond b (Some faults.BadValue) (cond c (Some faults.ClaimedTwice) (cond d (Some faults.BadRule) (cond e (Some faults.Limits) None))))

-- what the tests said
abbrev Tests : List Fields → (Bool → Bool → Bool → Bool → Bool → Option ConfigFault) → Option ConfigFault
Tests ps answer =
    answer (list_any lacks_field ps) (have_bad_value ps) (claims_again [] (map names_claimed ps)) (list_any has_bad_rule ps)
    (nat_lt 16 (length ps) || list_any is_over_limits ps)

config_fault_is : (ps : List Fields) → config_fault ps ≡ Tests ps first_of
unfolding config_fault
config_fault_is ps = refl

same : (a b c d e a' b' c' d' e' : Bool) → a ≡ a' → b ≡ b' → c ≡ c' → d ≡ d' → e ≡ e' → first_of a b c d e ≡ first_of a' b' c' d' e'
same a b c d e a' b' c' d' e' p q r s t = λ i. first_of (p i) (q i) (r i) (s i) (t i)

pub missing : (ps : List Fields) → list_any lacks_field ps ≡ true → config_fault ps ≡ Some faults.Missing
missing ps h = config_fault_is ps ∙ same _ _ _ _ _ true _ _ _ _ h refl refl refl refl

pub bad_value : (ps : List Fields) → list_any lacks_field ps ≡ false → have_bad_value ps ≡ true → config_fault ps ≡ Some faults.BadValue
bad_value ps p h = config_fault_is ps ∙ same _ _ _ _ _ false true _ _ _ p h refl refl refl

pub claimed_twice : (ps : List Fields) → list_any lacks_field ps ≡ false → have_bad_value ps ≡ false → claims_again [] (map names_claimed ps) ≡ true
    → config_fault ps ≡ Some faults.ClaimedTwice
claimed_twice ps p q h = config_fault_is ps ∙ same _ _ _ _ _ false false true _ _ p q h refl refl

pub bad_rule : (ps : List Fields) → list_any lacks_field ps ≡ false → have_bad_value ps ≡ false → claims_again [] (map names_claimed ps) ≡ false
    → list_any has_bad_rule ps ≡ true → config_fault ps ≡ Some faults.BadRule
bad_rule ps p q r h = config_fault_is ps ∙ same _ _ _ _ _ false false false true _ p q r h refl

pub limits : (ps : List Fields) → list_any lacks_field ps ≡ false → have_bad_value ps ≡ false → claims_again [] (map names_claimed ps) ≡ false
    → list_any has_bad_rule ps ≡ false → (nat_lt 16 (length ps) || list_any is_over_limits ps) ≡ true → config_fault ps ≡ Some faults.Limits
limits ps p q r s h = config_fault_is ps ∙ same _ _ _ _ _ false false false false true p q r s h

pub faultless : (ps : List Fields) → list_any lacks_field ps ≡ false → have_bad_value ps ≡ false → claims_again [] (map names_claimed ps) ≡ false
    → list_any has_bad_rule ps ≡ false → (nat_lt 16 (length ps) || list_any is_over_limits ps) ≡ false → config_fault ps ≡ None
faultless ps p q r s h = config_fault_is ps ∙ same _ _ _ _ _ false false false false false p q r s h

-- ---- of a new configuration

abbrev StrictTests : List Fields → (Bool → Bool → Bool → Bool → Bool → Option ConfigFault) → Option ConfigFault
StrictTests ps answer =
    answer (list_any lacks_field ps) (have_bad_value ps || have_bad_size ps) (claims_again [] (map names_claimed ps)) (list_any has_bad_rule ps)
    (nat_lt 16 (length ps) || list_any is_over_limits ps)

strict_fault_is : (ps : List Fields) → strict_fault ps ≡ StrictTests ps first_of
unfolding strict_fault
strict_fault_is ps = refl

or_false : (b c : Bool) → c ≡ false → (b || c) ≡ b
or_false true c h = refl
or_false false c h = h

or_true : (b c : Bool) → c ≡ true → (b || c) ≡ true
or_true true c h = refl
or_true false c h = h

-- if no size is bad, the fault is that of any configuration
pub strict_without : (ps : List Fields) → have_bad_size ps ≡ false → strict_fault ps ≡ config_fault ps
strict_without ps h =
    strict_fault_is ps ∙ same _ _ _ _ _ _ _ _ _ _ refl (or_false (have_bad_value ps) (have_bad_size ps) h) refl refl refl ∙ sym (config_fault_is ps)

pub strict_missing : (ps : List Fields) → list_any lacks_field ps ≡ true → strict_fault ps ≡ Some faults.Missing
strict_missing ps h = strict_fault_is ps ∙ same _ _ _ _ _ true _ _ _ _ h refl refl refl refl

pub strict_bad_value : (ps : List Fields) → list_any lacks_field ps ≡ false → have_bad_size ps ≡ true → strict_fault ps ≡ Some faults.BadValue
strict_bad_value ps p h = strict_fault_is ps ∙ same _ _ _ _ _ false true _ _ _ p (or_true (have_bad_value ps) (have_bad_size ps) h) refl refl refl

none_of : (a b s c d e : Bool) → first_of a (b || s) c d e ≡ None → first_of a b c d e ≡ None
none_of true b s c d e h = h
none_of false true s c d e h = h
none_of false false true c d e h = cc
none_of false false false c d e h = h

-- no fault of a new configuration, so none of any
pub strict_faultless : (ps : List Fields) → strict_fault ps ≡ None → config_fault ps ≡ None
strict_faultless ps h = config_fault_is ps ∙ none_of _ (have_bad_value ps) (have_bad_size ps) _ _ _ (sym (strict_fault_is ps) ∙ h)
