-- What differs between the pages of a tree and those that the archive serves.
use Rattle.std.specs.Prelude.{ℕ, ◌-◌, ◌==◌, if◌then◌else◌, List, [], ◌++◌, take, reverse, codes}
use Rattle.std.specs.Fmt.{decimal}
use Rattle.indices.specs.Indices.{path_in}
use Rattle.pages.specs.Escapes.{escaped}
use Rattle.pages.specs.Links.{link}
use Rattle.pages.specs.declared.site.Site.{Site}
use Rattle.pages.specs.declared.site.Site.TheVariants.{Tree, Served}

-- the most rows of each table on the page of uploads that the archive serves
abbrev pub most_rows : ℕ
most_rows = 200

-- the path of a suite's page, from the folder of the first page on
unfoldable pub page_path : Site → List ℕ → List ℕ
page_path Tree codename = path_in codename (codes "index.html")
page_path Served codename = codes "suites/" ++ codename ++ codes "/index.html"

-- the name of an upload; if the archive can be asked why the upload has its verdict, as a link to the answer
unfoldable pub upload_name : Site → List ℕ → List ℕ
upload_name Tree name = escaped name
upload_name Served name = link (codes "why/") name name

-- of what stands in the order of a table, what the table has: all, or the first 200
abbrev pub first_rows : {X : Type 0} → Site → List X → List X
first_rows Tree xs = xs
first_rows Served xs = take most_rows xs

-- of what stands in the reverse order of a table, what the table has, in its order: all, or the newest 200
abbrev pub newest : {X : Type 0} → Site → List X → List X
newest Tree xs = reverse xs
newest Served xs = take most_rows (reverse xs)

-- how many rows a table of `count` leaves out
abbrev pub left_out : Site → ℕ → ℕ
left_out Tree count = 0
left_out Served count = count - most_rows

-- how many rows a table of `count` leaves out, with a link to what has them all; nothing if the table has them all
unfoldable pub more_text : Site → List ℕ → ℕ → List ℕ
more_text site path count =
    if left_out site count == 0 then []
    else codes "<p>" ++ escaped (decimal (left_out site count)) ++ codes " more: " ++ link [] path path ++ codes "</p>\n"
