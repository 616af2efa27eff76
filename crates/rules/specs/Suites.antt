-- What a suite claims, keeps and allows.
use Rattle.std.specs.Prelude.{ℕ, ◌==◌, Bool, true, ◌&&◌, ◌||◌, not, if◌then◌else◌, List, ◌∷◌, ◌++◌, codes, bytes_eq, Option, position, length, option_to_list}
use Rattle.std.specs.Option.{option_map_or}
use Rattle.std.specs.List.{list_any, starts_with, before_first, position_or_len}
use Rattle.std.specs.Prelude.{nat_eq}
use Rattle.records.specs.Records.{is_among}
use Rattle.rules.specs.declared.suite.Suite.{Suite}
use Rattle.rules.specs.declared.uploader.Rule.{Rule}
use Rattle.rules.specs.declared.uploader.SourcePattern.{SourcePattern}
use Rattle.rules.specs.declared.uploader.SourcePattern.TheVariants as pattern

-- the distribution names of a suite
abbrev pub distributions : Suite → List (List ℕ)
distributions s = s.codename ∷ option_to_list s.suite ++ s.also_accept_for

unfoldable pub claims : List ℕ → Suite → Bool
claims distribution s = is_among (distributions s) distribution

-- the position of the suite that claims a distribution
abbrev pub claiming : List ℕ → List Suite → Option ℕ
claiming distribution suites = position (claims distribution) suites

-- the position of the element that claims a distribution, if a function says which suites the elements are
abbrev pub claiming_among : {S : Type 0} → (S → Suite) → List ℕ → List S → Option ℕ
claiming_among suite distribution suites = position (λ s. claims distribution (suite s)) suites

-- the position of the suite with a codename
unfoldable pub suite_named : List Suite → List ℕ → Option ℕ
suite_named suites name = position (λ s. bytes_eq s.codename name) suites

-- An architecture that the suite keeps. Items of `all` are kept if there is an index for them.
unfoldable pub keeps_architecture : Suite → List ℕ → Bool
keeps_architecture s name =
    if bytes_eq name (codes "all") then list_any (λ a. not (bytes_eq a (codes "source"))) s.architectures
    else is_among s.architectures name

unfoldable pub keeps_component : Suite → List ℕ → Bool
keeps_component s name = is_among s.components name

-- items of the component and the architecture are kept
abbrev pub keeps : Suite → List ℕ → List ℕ → Bool
keeps s component architecture = keeps_component s component && keeps_architecture s architecture

-- the source names of an uploader line
abbrev pub fits_source : SourcePattern → List ℕ → Bool
fits_source pattern.Any source = true
fits_source (pattern.Front front) source = starts_with nat_eq source front
fits_source (pattern.Name name) source = bytes_eq name source

abbrev pub rule_allows : List ℕ → List ℕ → Rule → Bool
rule_allows source person r =
    fits_source r.source source && (bytes_eq r.person (codes "anybody") || bytes_eq r.person person)

-- some uploader line allows source and person; without the field everybody is allowed
unfoldable pub allows : Suite → List ℕ → List ℕ → Bool
allows s source person = option_map_or (list_any (rule_allows source person)) s.uploaders true

-- the component of a section: its front up to the first slash, or `main` (Policy 2.4)
unfoldable pub component_of : List ℕ → List ℕ
component_of section =
    if position_or_len (λ c. c == 47) section == length section then codes "main"
    else before_first (λ c. c == 47) section
