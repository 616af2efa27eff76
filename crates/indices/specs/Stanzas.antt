-- The index texts of a component: Packages and Sources (the Debian repository format).
use Rattle.std.specs.Prelude.{ℕ, ◌==◌, Bool, not, List, [], ◌∷◌, ◌++◌, map, filter, codes}
use Rattle.std.specs.Fmt.{decimal}
use Rattle.std.specs.Result.{result_unwrap_or}
use Rattle.std.specs.Str.{str_eq_ignore_ascii_case}
use Rattle.std.specs.List.{flat_map, list_any, after_last}
use Rattle.std.specs.FinMap.{entries}
use Rattle.hex.specs.Hex.{encode_lower}
use Rattle.para.specs.Field.{FieldValue}
use Rattle.para.specs.Fields.{Fields, fields_in}
use Rattle.para.specs.Printing.{paragraph_text}
use Rattle.records.specs.Records.{dsc_limit}
use Rattle.sums.specs.declared.print.Print.{Print}
use Rattle.suites.specs.Pool.{directory_of}
use Rattle.suites.specs.Shelves.{ShelvesValue}
use Rattle.suites.specs.declared.item.Item.{Item}
use Rattle.suites.specs.declared.item.PoolFile.{PoolFile}
use Rattle.indices.specs.Listed.{is_in_packages, is_in_sources}
use Rattle.indices.specs.declared.index.Digest.{Digest}
use Rattle.indices.specs.declared.index.Digest.TheVariants.{Md5, Sha1, Sha256}

-- the fields of the paragraph that a text spells, none if it spells none; the limit is that of a .dsc
unfoldable pub fields_of_text : List ℕ → Fields
fields_of_text text = result_unwrap_or (fields_in text dsc_limit) []

-- a field of one line
abbrev pub line_field : List ℕ → List ℕ → FieldValue
line_field name value = record { name = name; first = value; more = [] }

-- whether a field has the name, ASCII case ignored
abbrev pub is_named : List ℕ → FieldValue → Bool
is_named name f = str_eq_ignore_ascii_case f.name name

-- the fields of a package file
unfoldable pub file_fields : PoolFile → Fields
file_fields f =
    line_field (codes "Filename") f.path
    ∷ line_field (codes "Size") (decimal f.print.size)
    ∷ line_field (codes "MD5sum") (encode_lower f.print.md5)
    ∷ line_field (codes "SHA1") (encode_lower f.print.sha1)
    ∷ line_field (codes "SHA256") (encode_lower f.print.sha256)
    ∷ []

-- the fields of a control paragraph, Package first
unfoldable pub package_fields : Fields → Fields
package_fields p = filter (is_named (codes "Package")) p ++ filter (λ f. not (is_named (codes "Package") f)) p

-- The stanza of a binary package: its control paragraph, Package first, then the fields of its file.
unfoldable pub package_stanza : Item → List ℕ
package_stanza item =
    paragraph_text (package_fields (fields_of_text item.paragraph) ++ flat_map file_fields item.files) ++ codes "\n"

-- Packages: the stanzas of these items, in the order of the bytes of package and architecture.
unfoldable pub packages_text : ShelvesValue → ℕ → List ℕ → List ℕ → List ℕ
packages_text shelves suite component architecture =
    flat_map (λ a. package_stanza a.1) (filter (is_in_packages suite component architecture) (entries shelves))

-- the digest of a print
abbrev pub digest_of : Digest → Print → List ℕ
digest_of Md5 print = print.md5
digest_of Sha1 print = print.sha1
digest_of Sha256 print = print.sha256

-- a line of a list of files: the digest, the size and the name
abbrev pub list_line : Digest → Print → List ℕ → List ℕ
list_line digest print name = encode_lower (digest_of digest print) ++ codes " " ++ decimal print.size ++ codes " " ++ name

-- a file's name in its folder: what follows the last slash
abbrev pub file_name : List ℕ → List ℕ
file_name path = after_last (λ c. c == 47) path

-- a list of files: an empty first line, and a line ` DIGEST SIZE NAME` for each
unfoldable pub list_field : List ℕ → Digest → List PoolFile → FieldValue
list_field name digest files = record {
  name = name;
  first = [];
  more = map (λ f. list_line digest f.print (file_name f.path)) files;
}

-- the three lists of the .dsc and its files
unfoldable pub source_lists : List PoolFile → Fields
source_lists files =
    list_field (codes "Files") Md5 files
    ∷ list_field (codes "Checksums-Sha1") Sha1 files
    ∷ list_field (codes "Checksums-Sha256") Sha256 files
    ∷ []

-- a field under the name Package
abbrev pub as_package : FieldValue → FieldValue
as_package f = record { name = codes "Package"; first = f.first; more = f.more }

-- the fields that a stanza of Sources has in a place of their own: the name, and the lists
abbrev pub is_placed : FieldValue → Bool
is_placed f = list_any (λ name. is_named name f)
    (codes "Source" ∷ codes "Files" ∷ codes "Checksums-Sha1" ∷ codes "Checksums-Sha256" ∷ [])

-- the fields of a .dsc, Source first and under the name Package, without the lists
unfoldable pub source_fields : Fields → Fields
source_fields p = map as_package (filter (is_named (codes "Source")) p) ++ filter (λ f. not (is_placed f)) p

-- The stanza of a source package: its .dsc, Source first and under the name Package, without its lists; then
-- the folder of its files, and the lists of all of them.
unfoldable pub source_stanza : Item → List ℕ
source_stanza item =
    paragraph_text (source_fields (fields_of_text item.paragraph)
    ++ line_field (codes "Directory") (directory_of item.component item.source) ∷ source_lists item.files) ++ codes "\n"

-- Sources: the stanzas of these items, in the order of the bytes of the source.
unfoldable pub sources_text : ShelvesValue → ℕ → List ℕ → List ℕ
sources_text shelves suite component =
    flat_map (λ a. source_stanza a.1) (filter (is_in_sources suite component) (entries shelves))
