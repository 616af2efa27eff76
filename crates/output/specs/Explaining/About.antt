-- What a verdict is about, as lines.
use Rattle.std.specs.Prelude.{ℕ, true, false, if◌then◌else◌, List, [], ◌∷◌, ◌++◌, map, filter, codes, Option, Some, None}
use Rattle.std.specs.List.{flat_map}
use Rattle.std.specs.Option.{option_map_or}
use Rattle.records.specs.Fault.{fault_text}
use Rattle.records.specs.Values.{ChangesValue}
use Rattle.rules.specs.Judgement.{suite_of}
use Rattle.rules.specs.Suites.{distributions, fits_source}
use Rattle.rules.specs.Values.{ConfigValue}
use Rattle.rules.specs.declared.suite.Suite.{Suite}
use Rattle.rules.specs.declared.uploader.Rule.{Rule}
use Rattle.rules.specs.declared.uploader.SourcePattern.{SourcePattern}
use Rattle.rules.specs.declared.uploader.SourcePattern.TheVariants as pattern
use Rattle.suites.specs.Upload.{has_suffix, stem}
use Rattle.sums.specs.declared.print.Print.{Print}
use Rattle.reasons.specs.declared.about.Named.{Named}
use Rattle.reasons.specs.declared.about.Named.TheVariants as named
use Rattle.reasons.specs.declared.differences.DscDifference.{DscDifference}
use Rattle.reasons.specs.declared.differences.DscDifference.TheVariants as dsc
use Rattle.reasons.specs.declared.differences.SidecarDifference.{SidecarDifference}
use Rattle.reasons.specs.declared.differences.SidecarDifference.TheVariants as sidecar
use Rattle.output.specs.Explaining.Words.{file_words, print_words, spaced}

-- 1. a distribution that a suite takes, which has this codename
abbrev pub taken : (codename name : List ℕ) → List ℕ
taken codename name = codes "taken " ++ (name ++ (codes " " ++ codename))

-- each that a suite takes, its codename first
abbrev pub taken_by : Suite → List (List ℕ)
taken_by s = map (taken s.codename) (distributions s)

-- 2, 4. a suite by its codename, what it does, and names
abbrev pub suite_words : Suite → List ℕ → List (List ℕ) → List ℕ
suite_words s word names = (codes "suite " ++ (s.codename ++ (codes " " ++ word))) ++ flat_map (λ name. codes " " ++ name) names

-- the line of the suite that takes an upload, if one does
abbrev pub line_of_suite : ConfigValue → ChangesValue → (Suite → List ℕ) → List (List ℕ)
line_of_suite config c line = option_map_or (λ s. line s ∷ []) (suite_of config c) []

-- 3. a rule as the line of the configuration says it
abbrev pub rule_by : SourcePattern → (person : List ℕ) → List ℕ
rule_by pattern.Any person = codes "rule * by " ++ person
rule_by (pattern.Front front) person = codes "rule " ++ (front ++ (codes "* by " ++ person))
rule_by (pattern.Name name) person = codes "rule " ++ (name ++ (codes " by " ++ person))

abbrev pub rule_words : Rule → List ℕ
rule_words r = rule_by r.source r.person

-- lines, or that there is no rule
abbrev pub rules_or_none : List (List ℕ) → List (List ℕ)
rules_or_none [] = codes "rule none" ∷ []
rules_or_none (line ∷ lines) = line ∷ lines

-- the rules that speak of a source package
abbrev pub rule_lines : List ℕ → List Rule → List (List ℕ)
rule_lines source rules = rules_or_none (map rule_words (filter (λ r. fits_source r.source source) rules))

-- the rules of the suite that takes an upload, if it has Uploaders
abbrev pub rules_on : ConfigValue → ChangesValue → List ℕ → List (List ℕ)
rules_on config c source = option_map_or (λ s. option_map_or (rule_lines source) s.uploaders []) (suite_of config c) []

-- 4. a file of another component than that of the upload
abbrev pub component_words : (file component upload : List ℕ) → List ℕ
component_words file component upload = codes "file " ++ (file ++ (codes " component " ++ (component ++ (codes ", not " ++ upload))))

-- 5, 6, 7. a file, and a line on it
abbrev pub file_lines : List ℕ → List ℕ → List (List ℕ)
file_lines file line = spaced (codes "file") file ∷ line ∷ []

-- a name without its ending, if it has that
abbrev pub without : List ℕ → List ℕ → List ℕ
without ending name = if has_suffix ending name then stem ending name else name

-- what a field says, and what it should say
abbrev pub not_words : List ℕ → List ℕ → List ℕ → List ℕ
not_words word said wanted = word ++ (codes " " ++ (said ++ (codes ", not " ++ wanted)))

-- a file that a .dsc does not list with its print
abbrev pub unlisted_words : List ℕ → Print → Option Print → List ℕ
unlisted_words file print None = spaced (codes "does not list") file
unlisted_words file print (Some listed) = codes "lists " ++ (file ++ (codes " as " ++ (print_words listed ++ (codes ", not " ++ print_words print))))

abbrev pub dsc_words : ChangesValue → DscDifference → List ℕ
dsc_words c (dsc.Source said) = not_words (codes "source") said c.source
dsc_words c (dsc.Version said) = not_words (codes "version") said c.version
dsc_words c (dsc.Name own) = spaced (codes "is not named") own
dsc_words c (dsc.ListsPart file) = spaced (codes "lists") file
dsc_words c (dsc.LacksFile file print listed) = unlisted_words file print listed

abbrev pub sidecar_words : ChangesValue → SidecarDifference → List ℕ
sidecar_words c (sidecar.Name own) = spaced (codes "is not named") own
sidecar_words c (sidecar.Architecture said) = codes "architecture " ++ (said ++ codes " is not in the .changes")
sidecar_words c (sidecar.Source said) = not_words (codes "source") said c.source

-- 8, 9. what is at a place of the pool
abbrev pub there_words : Option Print → List ℕ
there_words None = codes "there nothing"
there_words (Some print) = spaced (codes "there") (print_words print)

-- the lines on what a verdict on a .changes is about
abbrev pub named_lines : ConfigValue → ChangesValue → Named → List (List ℕ)
named_lines config c (named.Distribution name) = spaced (codes "distribution") name ∷ flat_map taken_by config.suites
named_lines config c (named.Architecture name) =
    spaced (codes "architecture") name ∷ line_of_suite config c (λ s. suite_words s (codes "keeps") s.architectures)
named_lines config c (named.Uploader source person) =
    spaced (codes "source") source ∷ spaced (codes "person") person ∷ rules_on config c source
named_lines config c (named.OtherComponent file component upload) =
    component_words file component upload ∷ []
named_lines config c (named.Component name) =
    spaced (codes "component") name ∷ line_of_suite config c (λ s. suite_words s (codes "has") s.components)
named_lines config c (named.ListedChanges file) = file_lines file (codes "is a .changes")
named_lines config c (named.SurplusDsc file true) = file_lines file (codes "is a second .dsc")
named_lines config c (named.SurplusDsc file false) = file_lines file (codes "is a .dsc without source")
named_lines config c named.NoDsc = codes "no .dsc with source" ∷ []
named_lines config c (named.LonePackage file) = file_lines file (codes "has no " ++ (without (codes ".deb") file ++ codes ".control"))
named_lines config c (named.LoneSidecar file) = file_lines file (codes "has no " ++ (without (codes ".control") file ++ codes ".deb"))
named_lines config c (named.SourceFile file) = file_lines file (codes "is a source file without source")
named_lines config c (named.UnreadDsc file fault) = file_lines file (spaced (codes "fault") (fault_text fault))
named_lines config c (named.Dsc file difference) = file_lines file (dsc_words c difference)
named_lines config c (named.UnreadSidecar file fault) = file_lines file (spaced (codes "fault") (fault_text fault))
named_lines config c (named.Sidecar file difference) = file_lines file (sidecar_words c difference)
named_lines config c (named.Twins name architecture first second) =
    file_lines second (codes "is the second of " ++ (name ++ (codes " " ++ (architecture ++ (codes ", beside " ++ first)))))
named_lines config c (named.File name print path there) =
    file_words (codes "file") name print ∷ spaced (codes "place") path ∷ there_words there ∷ []
