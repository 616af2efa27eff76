-- Verdicts in words: what each means, and what to do. The sentences are those of docs/FAULTS.md.
use Rattle.std.specs.Prelude.{ℕ, ◌==◌, Bool, if◌then◌else◌, List, codes, decimal, Option, Some, None}
use Rattle.rules.specs.Verdicts.{number_of}
use Rattle.rules.specs.declared.verdict.Verdict.{Verdict}
use Rattle.rules.specs.declared.verdict.Verdict.TheVariants as verdict
use Rattle.output.specs.Explaining.Words.{spaced}

-- whether a verdict is an acceptance
abbrev pub is_accepted : Verdict → Bool
is_accepted v = number_of v == 0

-- a verdict as a run prints it: `accepted`, or `refused` and its number
abbrev pub verdict_words : Verdict → List ℕ
verdict_words v = if is_accepted v then codes "accepted" else spaced (codes "refused") (decimal (number_of v))

-- what a verdict means
unfoldable pub meaning : Verdict → List ℕ
meaning verdict.Accepted = codes "The upload's packages were given to its suite, which shows of each the greatest version."
meaning verdict.Unclaimed = codes "No suite takes the distribution: it is no suite's Codename or Suite, and in no AlsoAcceptFor."
meaning verdict.ForeignArchitecture = codes "The suite does not keep an architecture of the .changes. An upload with sources needs `source` among the architectures of the suite; `all` needs an architecture besides `source` there."
meaning verdict.NotAllowed = codes "The suite has Uploaders, and none of its lines lets this person upload this source."
meaning verdict.ForeignComponent = codes "The listed files are of different components, or of one that the suite does not have. The component is what comes before the slash of a section, else `main`."
meaning verdict.BadListing = codes "The listed files do not make an upload. Each .deb needs a .control of the same stem, and each .control a .deb. No .changes may be listed. If `source` is among the architectures, exactly one .dsc has to be listed. If not, only .deb and .control files may be listed."
meaning verdict.BadDsc = codes "The .dsc can't be read, or it does not fit: its source or version is another, it is not named `SOURCE_VERSION.dsc` without the epoch, it lists a .dsc, .deb, .control or .changes, or a source file of the .changes is not in its list with the same size and digests."
meaning verdict.BadSidecar = codes "A sidecar can't be read, or it does not fit: it is not named `PACKAGE_VERSION_ARCHITECTURE.control` by its own fields, its architecture is not in the .changes, its source is another, or two are of one package and architecture."
meaning verdict.NotInPool = codes "The .dsc lists a file that is neither in the .changes nor in the pool, at its place with the same size and digests."
meaning verdict.OtherContents = codes "A .deb, a .dsc or a source file has a place in the pool where other contents are."

-- what to do about a verdict; about an acceptance there is nothing
unfoldable pub remedy : Verdict → Option (List ℕ)
remedy verdict.Accepted = None
remedy verdict.Unclaimed = Some (codes "Build for a distribution that a suite takes.")
remedy verdict.ForeignArchitecture = Some (codes "Build for the suite's architectures alone.")
remedy verdict.NotAllowed = Some (codes "Let somebody upload whom a line names for this source, or add a line. The person is Changed-By (Maintainer if there is none), byte for byte.")
remedy verdict.ForeignComponent = Some (codes "Set the sections in debian/control, or give `upload` another `--section` for a .deb without a .changes.")
remedy verdict.BadListing = Some (codes "Make the upload by `with_sidecars`, or send it by `upload`.")
remedy verdict.BadDsc = Some (codes "Take its signature off and list it anew: `with_sidecars`.")
remedy verdict.BadSidecar = Some (codes "Make the sidecars by `with_sidecars`; compare `Source` of the package with that of the .changes.")
remedy verdict.NotInPool = Some (codes "List it in the .changes: `dpkg-buildpackage -sa`.")
remedy verdict.OtherContents = Some (codes "Give the package a new version.")
