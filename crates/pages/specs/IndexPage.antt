-- The first page: what suites there are, and how a machine installs from them.
use Rattle.std.specs.Prelude.{ℕ, ◌+◌, Bool, nat_lt, if◌then◌else◌, List, [], ◌∷◌, ◌++◌, slice_get, codes, Option, Some}
use Rattle.std.specs.Fmt.{decimal}
use Rattle.std.specs.List.{flat_map}
use Rattle.std.specs.Option.{option_map_or}
use Rattle.rules.specs.Suites.{keeps_architecture}
use Rattle.rules.specs.Values.{ConfigValue}
use Rattle.rules.specs.declared.suite.Suite.{Suite}
use Rattle.suites.specs.Shelves.{ShelvesValue}
use Rattle.suites.specs.declared.key.Kind.TheVariants.{Source, Binary}
use Rattle.indices.specs.Calendar.{latest, date_text}
use Rattle.indices.specs.Counting.{item_count}
use Rattle.pages.specs.Escapes.{escaped}
use Rattle.pages.specs.Frame.{head_text, foot_text, script_text}
use Rattle.pages.specs.Links.{link}
use Rattle.pages.specs.Sites.{page_path}
use Rattle.pages.specs.declared.index.Key.{Key}
use Rattle.pages.specs.declared.index.TheConstants.{KEYRINGS, URL, HINT, LINKS, SIGNED, UNKNOWN}
use Rattle.pages.specs.declared.site.Site.{Site}

-- the other name of a suite, if it has one
unfoldable pub other_text : Option (List ℕ) → List ℕ
other_text other = option_map_or (λ name. codes " <span class=\"dim\">(" ++ escaped name ++ codes ")</span>") other []

-- the codename of a suite, as a link to its page, and its other name
unfoldable pub name_text : Site → List ℕ → Option (List ℕ) → List ℕ
name_text site codename other =
    codes "<h2>" ++ link [] (page_path site codename) codename ++ other_text other ++ codes "</h2>\n"

-- what a suite is for, if the configuration says it
unfoldable pub description_text : Option (List ℕ) → List ℕ
description_text description = option_map_or (λ text. codes "<p>" ++ escaped text ++ codes "</p>\n") description []

-- the date of a moment, unless the moment is one that no Release may have
unfoldable pub date_text_of : ℕ → List ℕ
date_text_of date = if nat_lt latest date then escaped UNKNOWN.now else escaped (date_text date)

-- the date of the suite at a position, if there is one
unfoldable pub date_at : List ℕ → ℕ → List ℕ
date_at dates suite = option_map_or date_text_of (slice_get dates suite) (escaped UNKNOWN.now)

-- a number, after the word for what is counted, which is a constant
unfoldable pub count_text : List ℕ → ℕ → List ℕ
count_text word count =
    codes "<div><dt>" ++ word ++ codes "</dt><dd>" ++ escaped (decimal count) ++ codes "</dd></div>"

-- how many packages and how many sources the suite at a position shows
unfoldable pub counts_text : ShelvesValue → ℕ → List ℕ
counts_text shelves suite =
    count_text (codes "Packages") (item_count shelves suite (Some Binary))
    ++ count_text (codes "Sources") (item_count shelves suite (Some Source))

-- a blank and a word
unfoldable pub word_text : List ℕ → List ℕ
word_text word = codes " " ++ escaped word

-- words of a suite, after the word for them, which is a constant
unfoldable pub words_text : List ℕ → List (List ℕ) → List ℕ
words_text name words =
    codes "<div><dt>" ++ name ++ codes "</dt><dd>" ++ flat_map word_text words ++ codes "</dd></div>"

-- how much the suite at a position shows, what it keeps, and when what it shows last changed
unfoldable pub state_text : ShelvesValue → List ℕ → ℕ → Suite → List ℕ
state_text shelves dates position s =
    codes "<dl>"
    ++ counts_text shelves position
    ++ words_text (codes "Architectures") s.architectures
    ++ words_text (codes "Components") s.components
    ++ codes "<div><dt>Changed</dt><dd>" ++ date_at dates position ++ codes "</dd></div></dl>\n"

-- the key by which the Releases are signed: the name of its file, and whether the file lies beside the first page
pub record KeyValue : Type 0 where
  pub name : List ℕ
  pub is_here : Bool

abbrev pub key_value : Key → KeyValue
key_value k = record { name = k.name.now; is_here = k.is_here }

-- the name of a key's file, as a link if the file is here
unfoldable pub key_link : KeyValue → List ℕ
key_link k = if k.is_here then link [] k.name k.name else escaped k.name

-- where a machine stores the key
unfoldable pub known_key : KeyValue → List ℕ
known_key k = SIGNED.now ++ key_link k ++ codes ", as <code>" ++ KEYRINGS.now ++ escaped k.name ++ codes "</code>.</p>\n"

-- where a machine stores the key, if the Releases are signed
unfoldable pub key_text : Option KeyValue → List ℕ
key_text key = option_map_or known_key key []

-- the option of apt's lines: by which key the Release is signed, or that it is trusted without a key
unfoldable pub option_text : Option KeyValue → List ℕ
option_text key = option_map_or (λ k. codes "signed-by=" ++ KEYRINGS.now ++ escaped k.name) key (codes "trusted=yes")

-- the field of apt's paragraph that says the same
unfoldable pub field_text : Option KeyValue → List ℕ
field_text key = option_map_or (λ k. codes "Signed-By: " ++ KEYRINGS.now ++ escaped k.name) key (codes "Trusted: yes")

-- a line by which apt knows a suite (sources.list(5)); its first word is a constant
unfoldable pub apt_line : List ℕ → Option KeyValue → Suite → List ℕ
apt_line kind key s =
    kind ++ codes " [" ++ option_text key ++ codes "] " ++ URL.now
    ++ word_text s.codename ++ flat_map word_text s.components ++ codes "\n"

-- the line for the sources of a suite, if it keeps sources
unfoldable pub source_line : Option KeyValue → Suite → List ℕ
source_line key s = if keeps_architecture s (codes "source") then apt_line (codes "deb-src") key s else []

-- the lines by which apt knows a suite
unfoldable pub deb_lines : Option KeyValue → Suite → List ℕ
deb_lines key s = codes "<pre>" ++ apt_line (codes "deb") key s ++ source_line key s ++ codes "</pre>\n"

-- what apt fetches of a suite
unfoldable pub types_text : Suite → List ℕ
types_text s = if keeps_architecture s (codes "source") then codes "deb deb-src" else codes "deb"

-- the paragraph by which apt knows a suite (sources.list(5), deb822-style format)
unfoldable pub sources_text : Option KeyValue → Suite → List ℕ
sources_text key s =
    codes "<pre>Types: " ++ types_text s
    ++ codes "\nURIs: " ++ URL.now
    ++ codes "\nSuites:" ++ word_text s.codename
    ++ codes "\nComponents:" ++ flat_map word_text s.components
    ++ codes "\n" ++ field_text key ++ codes "\n</pre>\n"

-- what is said of the suite at a position
unfoldable pub section : Site → ShelvesValue → List ℕ → Option KeyValue → ℕ → Suite → List ℕ
section site shelves dates key position s =
    codes "<section class=\"suite\">\n"
    ++ name_text site s.codename s.suite
    ++ description_text s.description
    ++ state_text shelves dates position s
    ++ deb_lines key s
    ++ sources_text key s
    ++ codes "</section>\n"

-- what is said of suites, of which the first is at this position
unfoldable pub sections_from : Site → ShelvesValue → List ℕ → Option KeyValue → ℕ → List Suite → List ℕ
sections_from site shelves dates key position [] = []
sections_from site shelves dates key position (s ∷ rest) =
    section site shelves dates key position s ++ sections_from site shelves dates key (position + 1) rest

-- The first page: how a machine installs, and each suite.
unfoldable pub index_page : Site → ConfigValue → ShelvesValue → List ℕ → Option KeyValue → List ℕ
index_page site config shelves dates key =
    head_text config (codes "Suites") LINKS.now
    ++ HINT.now
    ++ key_text key
    ++ sections_from site shelves dates key 0 config.suites
    ++ script_text
    ++ foot_text
