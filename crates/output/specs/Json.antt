-- What a suite shows, which uploads wait and which were judged, as values of JSON. An object has its keys in the order of their bytes.
use Rattle.std.specs.Prelude.{ℕ, List, [], ◌∷◌, length, map, codes}
use Rattle.hex.specs.Hex.{encode_lower}
use Rattle.serde_json.specs.Data.{Data, number, unsigned, string, array, object, member, no_members}
use Rattle.serde_json.specs.View.{items_of}
use Rattle.serde_json.specs.Written.{compact_text}
use Rattle.rules.specs.Values.{ConfigValue}
use Rattle.rules.specs.Verdicts.{number_of}
use Rattle.suites.specs.declared.item.Item.{Item}
use Rattle.suites.specs.declared.item.PoolFile.{PoolFile}
use Rattle.suites.specs.declared.key.ShelfKey.{ShelfKey}
use Rattle.suites.specs.Codenames.{codename_at}
use Rattle.book.specs.declared.change.Judgement.{Judgement}
use Rattle.book.specs.declared.change.Waiting.{Waiting}

-- a file of the pool: its path, its SHA-256 in lower-case hexadecimal digits, and how many bytes it has
abbrev pub file_data : PoolFile → Data
file_data file =
    object (member (codes "path") (string file.path)
    (member (codes "sha256") (string (encode_lower file.print.sha256))
    (member (codes "size") (number (unsigned file.print.size)) no_members)))

-- an item, with its files
abbrev pub item_data : Item → Data
item_data item =
    object (member (codes "architecture") (string item.architecture)
    (member (codes "component") (string item.component)
    (member (codes "files") (array (items_of (map file_data item.files)))
    (member (codes "package") (string item.«package»)
    (member (codes "source") (string item.source) (member (codes "version") (string item.version) no_members))))))

-- an item with its files, and the codename of the suite that shows it
abbrev pub shown_data : List ℕ → Item → Data
shown_data codename item =
    object (member (codes "architecture") (string item.architecture)
    (member (codes "component") (string item.component)
    (member (codes "files") (array (items_of (map file_data item.files)))
    (member (codes "package") (string item.«package»)
    (member (codes "source") (string item.source)
    (member (codes "suite") (string codename) (member (codes "version") (string item.version) no_members)))))))

-- an upload without a verdict: how many listed files it lacks, and its name
abbrev pub waiting_data : Waiting → Data
waiting_data waiting = object (member (codes "missing") (number (unsigned (length waiting.lacks))) (member (codes "upload") (string waiting.name) no_members))

-- a judged upload: its name, and the number of its verdict
abbrev pub judgement_data : Judgement → Data
judgement_data judgement =
    object (member (codes "upload") (string judgement.name) (member (codes "verdict") (number (unsigned (number_of judgement.verdict))) no_members))

-- the line of what stands on a shelf
abbrev pub json_on : ShelfKey × Item → List ℕ
json_on entry = compact_text (item_data entry.1)

-- the line of what stands on a shelf, with the codename of its suite
abbrev pub json_in : ConfigValue → ShelfKey × Item → List ℕ
json_in config entry = compact_text (shown_data (codename_at config.suites entry.0.suite) entry.1)
