-- Verdicts in words.
use Rattle.std.specs.Prelude.{ℕ, List, codes}
use Rattle.rules.specs.declared.verdict.Verdict.{Verdict}
use Rattle.rules.specs.declared.verdict.Verdict.TheVariants as verdict

-- a verdict as a run prints it: `accepted`, or `refused` and its number
unfoldable pub verdict_word : Verdict → List ℕ
verdict_word verdict.Accepted = codes "accepted"
verdict_word verdict.Unclaimed = codes "refused 1"
verdict_word verdict.ForeignArchitecture = codes "refused 2"
verdict_word verdict.NotAllowed = codes "refused 3"
verdict_word verdict.ForeignComponent = codes "refused 4"
verdict_word verdict.BadListing = codes "refused 5"
verdict_word verdict.BadDsc = codes "refused 6"
verdict_word verdict.BadSidecar = codes "refused 7"
verdict_word verdict.NotInPool = codes "refused 8"
verdict_word verdict.OtherContents = codes "refused 9"

-- what stands before the word of a verdict
unfoldable pub tag : Verdict → List ℕ
tag verdict.Accepted = codes "<span class=\"tag good\">"
tag _ = codes "<span class=\"tag bad\">"

-- what a verdict means, as markup
unfoldable pub marked_meaning : Verdict → List ℕ
marked_meaning verdict.Accepted = codes "The upload's packages were given to its suite, which shows of each the greatest version."
marked_meaning verdict.Unclaimed = codes "No suite takes the distribution: it is no suite's Codename or Suite, and in no AlsoAcceptFor."
marked_meaning verdict.ForeignArchitecture = codes "The suite does not keep an architecture of the .changes. An upload with sources needs <code>source</code> among the architectures of the suite; <code>all</code> needs an architecture besides <code>source</code> there."
marked_meaning verdict.NotAllowed = codes "The suite has Uploaders, and none of its lines lets this person upload this source."
marked_meaning verdict.ForeignComponent = codes "The listed files are of different components, or of one that the suite does not have. The component is what comes before the slash of a section, else <code>main</code>."
marked_meaning verdict.BadListing = codes "The listed files do not make an upload. Each .deb needs a .control of the same stem, and each .control a .deb. No .changes may be listed. If <code>source</code> is among the architectures, exactly one .dsc has to be listed. If not, only .deb and .control files may be listed."
marked_meaning verdict.BadDsc = codes "The .dsc can't be read, or it does not fit: its source or version is another, it is not named <code>SOURCE_VERSION.dsc</code> without the epoch, it lists a .dsc, .deb, .control or .changes, or a source file of the .changes is not in its list with the same size and digests."
marked_meaning verdict.BadSidecar = codes "A sidecar can't be read, or it does not fit: it is not named <code>PACKAGE_VERSION_ARCHITECTURE.control</code> by its own fields, its architecture is not in the .changes, its source is another, or two are of one package and architecture."
marked_meaning verdict.NotInPool = codes "The .dsc lists a file that is neither in the .changes nor in the pool, at its place with the same size and digests."
marked_meaning verdict.OtherContents = codes "A .deb, a .dsc or a source file has a place in the pool where other contents are."
