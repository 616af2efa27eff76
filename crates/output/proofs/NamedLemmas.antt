-- What is named has lines.
use Rattle.std.proofs.Common.{◌≡◌, ◌≢◌, true, false, not, [], Option, Some, None, refl, ap, ◌∙◌}
use Rattle.std.specs.Option.{option_map_or}
use Rattle.std.specs.Prelude.{is_some}
use Rattle.para.specs.Bytes.{is_nil}
use Rattle.records.specs.Values.{ChangesValue}
use Rattle.rules.specs.Values.{ConfigValue}
use Rattle.rules.specs.declared.verdict.Verdict.{Verdict}
use Rattle.rules.specs.declared.verdict.Verdict.TheVariants as verdict
use Rattle.suites.specs.Shelves.{ShelvesValue}
use Rattle.suites.specs.Upload.{UploadValue}
use Rattle.suites.specs.Verdict.{verdict_on}
use Rattle.reasons.specs.Reasons.{named_by}
use Rattle.reasons.specs.declared.about.Named.{Named}
use Rattle.reasons.specs.declared.about.Named.TheVariants as named
use Rattle.reasons.proofs.Refused.{refusal_names}
use Rattle.output.specs.Explaining.About.{named_lines}
use Rattle.output.specs.Explaining.Judged.{about, names}

some_lines : (config : ConfigValue) (c : ChangesValue) (n : Named) → is_nil (named_lines config c n) ≡ false
some_lines config c (named.Distribution name) = refl
some_lines config c (named.Architecture name) = refl
some_lines config c (named.Uploader source person) = refl
some_lines config c (named.OtherComponent file component upload) = refl
some_lines config c (named.Component name) = refl
some_lines config c (named.ListedChanges file) = refl
some_lines config c (named.SurplusDsc file true) = refl
some_lines config c (named.SurplusDsc file false) = refl
some_lines config c named.NoDsc = refl
some_lines config c (named.LonePackage file) = refl
some_lines config c (named.LoneSidecar file) = refl
some_lines config c (named.SourceFile file) = refl
some_lines config c (named.UnreadDsc file fault) = refl
some_lines config c (named.Dsc file difference) = refl
some_lines config c (named.UnreadSidecar file fault) = refl
some_lines config c (named.Sidecar file difference) = refl
some_lines config c (named.Twins name architecture first second) = refl
some_lines config c (named.File name print path there) = refl

of_found : (config : ConfigValue) (c : ChangesValue) (o : Option Named) → is_nil (option_map_or (named_lines config c) o []) ≡ not (is_some o)
of_found config c None = refl
of_found config c (Some n) = some_lines config c n

pub about_named : (config : ConfigValue) (shelves : ShelvesValue) (u : UploadValue) (v : Verdict) → is_nil (about config shelves u v) ≡ not (is_some (named_by config shelves u v))
about_named config shelves u v = of_found config u.changes (named_by config shelves u v)

-- a refusal has the lines of what it is about, whatever was given
its_names : (config : ConfigValue) (shelves : ShelvesValue) (u : UploadValue) (given today : Verdict) → today ≢ verdict.Accepted → names config shelves u given today ≡ about config shelves u today
its_names config shelves u given verdict.Accepted refused = absurd (refused refl)
its_names config shelves u given verdict.Unclaimed refused = refl
its_names config shelves u given verdict.ForeignArchitecture refused = refl
its_names config shelves u given verdict.NotAllowed refused = refl
its_names config shelves u given verdict.ForeignComponent refused = refl
its_names config shelves u given verdict.BadListing refused = refl
its_names config shelves u given verdict.BadDsc refused = refl
its_names config shelves u given verdict.BadSidecar refused = refl
its_names config shelves u given verdict.NotInPool refused = refl
its_names config shelves u given verdict.OtherContents refused = refl

pub refusal_explained : (config : ConfigValue) (shelves : ShelvesValue) (u : UploadValue) (given : Verdict) → verdict_on config shelves u ≢ verdict.Accepted
    → is_nil (names config shelves u given (verdict_on config shelves u)) ≡ false
refusal_explained config shelves u given refused =
    ap is_nil (its_names config shelves u given (verdict_on config shelves u) refused)
    ∙ about_named config shelves u (verdict_on config shelves u)
    ∙ ap not (refusal_names config shelves u refused)
