-- What each page begins and ends with, and the cells of its tables (HTML). The style, the scripts and the policy are the program's constants.
use Rattle.std.specs.Prelude.{ℕ, List, ◌++◌, slice_get, codes}
use Rattle.std.specs.Option.{option_map_or}
use Rattle.rules.specs.Values.{ConfigValue}
use Rattle.rules.specs.declared.suite.Suite.{Suite}
use Rattle.pages.specs.Escapes.{escaped}
use Rattle.pages.specs.declared.frame.TheConstants.{START, POLICY_FRONT, VIEWPORT, ICON, BODY, MAIN, END, POLICY, STYLE, SCRIPT, FILTER, NO_NAME}

-- the policy, which a browser follows from here on
unfoldable pub policy_text : List ℕ
policy_text = POLICY_FRONT.now ++ POLICY.now ++ codes "\">\n"

unfoldable pub style_text : List ℕ
style_text = codes "<style>" ++ STYLE.now ++ codes "</style>\n"

unfoldable pub script_text : List ℕ
script_text = codes "<script>" ++ SCRIPT.now ++ codes "</script>\n"

-- the script of the filter
unfoldable pub filter_text : List ℕ
filter_text = codes "<script>" ++ FILTER.now ++ codes "</script>\n"

unfoldable pub title_text : List ℕ → List ℕ
title_text title = codes "<title>" ++ escaped title ++ codes "</title>\n"

unfoldable pub heading_text : List ℕ → List ℕ
heading_text title = codes "<h1>" ++ escaped title ++ codes "</h1>\n"

-- what a page with a title begins with, up to that title
unfoldable pub front_text : List ℕ → List ℕ
front_text title = START.now ++ policy_text ++ VIEWPORT.now ++ title_text title

-- the name that a suite has for its archive: its Origin, else its Label
unfoldable pub name_by : Suite → List ℕ
name_by s = option_map_or (λ origin. origin) s.origin (option_map_or (λ label. label) s.label NO_NAME.now)

-- the name of the archive, by the first suite of its configuration
unfoldable pub archive_name : ConfigValue → List ℕ
archive_name config = option_map_or name_by (slice_get config.suites 0) NO_NAME.now

-- the name of the archive, and links to the pages, which are a constant
unfoldable pub header_text : ConfigValue → List ℕ → List ℕ
header_text config links = BODY.now ++ escaped (archive_name config) ++ codes "</b>" ++ links ++ MAIN.now

-- what a page with a title begins with, up to its heading
unfoldable pub head_text : ConfigValue → List ℕ → List ℕ → List ℕ
head_text config title links =
    front_text title ++ ICON.now ++ style_text ++ header_text config links ++ heading_text title

unfoldable pub foot_text : List ℕ
foot_text = END.now

-- a cell of a table with markup, which is a constant
unfoldable pub constant_cell : List ℕ → List ℕ
constant_cell markup = codes "<td>" ++ markup ++ codes "</td>"

-- a cell of a table with a text
unfoldable pub cell : List ℕ → List ℕ
cell text = codes "<td>" ++ escaped text ++ codes "</td>"

-- a cell of a table with a name, which no line break parts
unfoldable pub name_cell : List ℕ → List ℕ
name_cell name = codes "<td class=\"name\">" ++ escaped name ++ codes "</td>"
