-- The page of a suite: a row for each item that it shows.
use Rattle.std.specs.Prelude.{ℕ, ◌==◌, ◌/◌, ◌%◌, Bool, nat_lt, if◌then◌else◌, List, [], ◌++◌, filter, map, slice_get, codes}
use Rattle.std.specs.Fmt.{decimal}
use Rattle.std.specs.List.{flat_map}
use Rattle.std.specs.FinMap.{entries}
use Rattle.std.specs.Option.{option_map_or}
use Rattle.std.specs.Ordering.{nat_cmp, ordering_then}
use Rattle.std.specs.declared.cmp.Ordering.{Ordering}
use Rattle.para.specs.Field.{FieldValue}
use Rattle.para.specs.Fields.{Fields, field_named}
use Rattle.rules.specs.Values.{ConfigValue}
use Rattle.suites.specs.Keys.{kind_number, text_order}
use Rattle.suites.specs.Shelves.{ShelvesValue}
use Rattle.suites.specs.declared.key.Kind.{Kind}
use Rattle.suites.specs.declared.key.Kind.TheVariants.{Source, Binary}
use Rattle.suites.specs.declared.key.ShelfKey.{ShelfKey}
use Rattle.suites.specs.declared.item.Item.{Item}
use Rattle.suites.specs.declared.item.PoolFile.{PoolFile}
use Rattle.suites.specs.Codenames.{codename_at}
use Rattle.indices.specs.Stanzas.{file_name, fields_of_text}
use Rattle.pages.specs.Escapes.{escaped}
use Rattle.pages.specs.Frame.{head_text, foot_text, filter_text, cell, name_cell}
use Rattle.pages.specs.IndexPage.{description_text, counts_text}
use Rattle.pages.specs.Links.{link}
use Rattle.book.specs.Sorted.{sorted_by}
use Rattle.pages.specs.declared.suite.TheConstants.{LINKS, FILTER_FIELD, TABLE_HEAD}
use Rattle.pages.specs.declared.table.TheConstants.{TABLE_END}

-- the word for an item, which the style goes by
unfoldable pub kind_word : Kind → List ℕ
kind_word Source = codes "source"
kind_word Binary = codes "package"

-- the first line of a field
unfoldable pub known_line : FieldValue → List ℕ
known_line f = codes "<div class=\"dim\">" ++ escaped f.first ++ codes "</div>"

-- what a paragraph says of itself in one line, if it does: the first line of its Description (Debian Policy 5.6.13)
unfoldable pub first_line : Fields → List ℕ
first_line fields = option_map_or known_line (field_named (codes "Description") fields) []

-- what an item is in one line, if the paragraph that a text spells says it
unfoldable pub synopsis : List ℕ → List ℕ
synopsis text = first_line (fields_of_text text)

-- the cell of an item's name, with what it is in one line
unfoldable pub item_cell : Item → List ℕ
item_cell item = codes "<td><b>" ++ escaped item.package ++ codes "</b>" ++ synopsis item.paragraph ++ codes "</td>"

-- a number of tenths and a unit
unfoldable pub tenths_text : ℕ → List ℕ → List ℕ
tenths_text tenths unit = decimal (tenths / 10) ++ (codes "." ++ (decimal (tenths % 10) ++ (codes " " ++ unit)))

-- the size of a file, for people: in bytes, or in tenths of 1,000 or 1,000,000 bytes, rounded down
unfoldable pub size_text : ℕ → List ℕ
size_text size =
    if nat_lt size 1000 then decimal size ++ codes " bytes"
    else if nat_lt size 1000000 then tenths_text (size / 100) (codes "kB")
    else tenths_text (size / 100000) (codes "MB")

-- the name of a file, which is a link to it
unfoldable pub file_link : List ℕ → List ℕ
file_link path = link (codes "../../") path (file_name path)

-- a file: its name and its size
unfoldable pub file_text : PoolFile → List ℕ
file_text f =
    codes "<div class=\"name\">" ++ file_link f.path ++ codes " <span class=\"dim\">" ++ escaped (size_text f.print.size) ++ codes "</span></div>"

unfoldable pub files_cell : List PoolFile → List ℕ
files_cell files = codes "<td>" ++ flat_map file_text files ++ codes "</td>"

-- the beginning of an item's row
unfoldable pub row_start : Kind → List ℕ
row_start kind = codes "<tr class=\"" ++ kind_word kind ++ codes "\">"

-- the row of an item: package, version, architecture, component, source and files
unfoldable pub item_row : Item → List ℕ
item_row item =
    row_start item.kind ++ item_cell item
    ++ name_cell item.version ++ cell item.architecture ++ cell item.component ++ name_cell item.source
    ++ files_cell item.files ++ codes "</tr>\n"

-- an item on its shelf is of the suite at a position
abbrev pub is_of : ℕ → ShelfKey × Item → Bool
is_of suite a = a.0.suite == suite

-- the items that the suite at a position shows, in the order of the shelves
abbrev pub items_of : ShelvesValue → ℕ → List Item
items_of shelves suite = map (λ a. a.1) (filter (is_of suite) (entries shelves))

-- the order of rows: by the bytes of the source, and of one source the source itself before its packages
unfoldable pub listing_order : Item → Item → Ordering
listing_order a b = ordering_then (text_order a.source b.source) (nat_cmp (kind_number a.kind) (kind_number b.kind))

-- what the suite at a position shows, in the order of rows; the packages of one source stand in the order of the shelves
abbrev pub shown : ShelvesValue → ℕ → List Item
shown shelves suite = sorted_by listing_order (items_of shelves suite)

-- the rows of what the suite at a position shows
unfoldable pub rows : ShelvesValue → ℕ → List ℕ
rows shelves suite = flat_map item_row (shown shelves suite)

-- what the suite at a position is for, if there is such a suite and the configuration says it
unfoldable pub description_at : ConfigValue → ℕ → List ℕ
description_at config suite = option_map_or (λ s. description_text s.description) (slice_get config.suites suite) []

-- what is said of the suite at a position before its rows: what it is for, and how much it shows
unfoldable pub summary : ConfigValue → ShelvesValue → ℕ → List ℕ
summary config shelves suite = description_at config suite ++ codes "<dl>" ++ counts_text shelves suite ++ codes "</dl>\n"

-- The page of the suite at a position.
unfoldable pub suite_page : ConfigValue → ShelvesValue → ℕ → List ℕ
suite_page config shelves suite =
    head_text config (codename_at config.suites suite) LINKS.now
    ++ summary config shelves suite
    ++ FILTER_FIELD.now
    ++ TABLE_HEAD.now
    ++ rows shelves suite
    ++ TABLE_END.now
    ++ filter_text
    ++ foot_text
