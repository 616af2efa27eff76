-- The page of uploads: those that wait, and those that were judged.
use Rattle.std.specs.Prelude.{ℕ, ◌==◌, if◌then◌else◌, List, [], ◌++◌, length, codes}
use Rattle.std.specs.Fmt.{decimal}
use Rattle.std.specs.List.{flat_map}
use Rattle.book.specs.declared.change.Judgement.{Judgement}
use Rattle.book.specs.declared.change.Lack.{Lack}
use Rattle.book.specs.declared.change.Waiting.{Waiting}
use Rattle.para.specs.Bytes.{is_nil}
use Rattle.rules.specs.Values.{ConfigValue}
use Rattle.rules.specs.declared.verdict.Verdict.{Verdict}
use Rattle.pages.specs.Escapes.{escaped}
use Rattle.pages.specs.Frame.{head_text, foot_text, constant_cell}
use Rattle.pages.specs.Meanings.{tag, verdict_word, marked_meaning}
use Rattle.pages.specs.Sites.{upload_name, first_rows, newest, more_text}
use Rattle.pages.specs.declared.site.Site.{Site}
use Rattle.pages.specs.declared.uploads.TheConstants.{LINKS, WAITING_HEAD, JUDGED_HEAD, NOTHING_WAITS, NOTHING_JUDGED, WHOLE}
use Rattle.pages.specs.declared.table.TheConstants.{TABLE_END}

-- the heading of a table: a word, which is a constant, and how many uploads there are
unfoldable pub count_text : List ℕ → ℕ → List ℕ
count_text word count = codes "<h2>" ++ word ++ codes " <span class=\"dim\">" ++ escaped (decimal count) ++ codes "</span></h2>\n"

-- the tag of an upload that lacks this many files
unfoldable pub waiting_tag : ℕ → List ℕ
waiting_tag lacks =
    if lacks == 0 then WHOLE.now
    else codes "<span class=\"tag wait\">" ++ escaped (decimal lacks) ++ codes " missing</span>"

unfoldable pub waiting_cell : ℕ → List ℕ
waiting_cell lacks = codes "<td>" ++ waiting_tag lacks ++ codes "</td>"

-- the name of a file that an upload lacks
unfoldable pub lack_text : Lack → List ℕ
lack_text l = codes "<code>" ++ escaped l.name ++ codes "</code> "

-- the names of the files that an upload lacks, or what comes next if it lacks none
unfoldable pub lacks_text : List Lack → List ℕ
lacks_text lacks = if is_nil lacks then codes "None: the next run judges it." else flat_map lack_text lacks

unfoldable pub lacks_cell : List Lack → List ℕ
lacks_cell lacks = codes "<td>" ++ lacks_text lacks ++ codes "</td>"

-- the cell of an upload's name
unfoldable pub upload_cell : Site → List ℕ → List ℕ
upload_cell site name = codes "<td class=\"name\">" ++ upload_name site name ++ codes "</td>"

-- the row of an upload that waits: whether it is whole, its name, and which files it lacks
unfoldable pub waiting_row : Site → Waiting → List ℕ
waiting_row site w =
    codes "<tr>" ++ waiting_cell (length w.lacks) ++ upload_cell site w.name ++ lacks_cell w.lacks ++ codes "</tr>\n"

-- the cell of a verdict
unfoldable pub verdict_cell : Verdict → List ℕ
verdict_cell verdict = codes "<td>" ++ tag verdict ++ verdict_word verdict ++ codes "</span></td>"

-- the row of a judged upload: its verdict, its name, and what the verdict means
unfoldable pub judged_row : Site → Judgement → List ℕ
judged_row site j =
    codes "<tr>" ++ verdict_cell j.verdict ++ upload_cell site j.name ++ constant_cell (marked_meaning j.verdict) ++ codes "</tr>\n"

-- the table of the uploads that wait, in their order
unfoldable pub waiting_table : Site → List Waiting → List ℕ
waiting_table site waiting =
    WAITING_HEAD.now
    ++ flat_map (waiting_row site) (first_rows site waiting)
    ++ TABLE_END.now
    ++ more_text site (codes "queue") (length waiting)

-- what is said of the uploads that wait
unfoldable pub waiting_part : Site → List Waiting → List ℕ
waiting_part site waiting =
    count_text (codes "Waiting") (length waiting)
    ++ (if is_nil waiting then NOTHING_WAITS.now else waiting_table site waiting)

-- the table of the uploads that were judged, from the last to the first
unfoldable pub judged_table : Site → List Judgement → List ℕ
judged_table site judged =
    JUDGED_HEAD.now
    ++ flat_map (judged_row site) (newest site judged)
    ++ TABLE_END.now
    ++ more_text site (codes "verdicts") (length judged)

-- what is said of the uploads that were judged
unfoldable pub judged_part : Site → List Judgement → List ℕ
judged_part site judged =
    count_text (codes "Judged, the latest first") (length judged)
    ++ (if is_nil judged then NOTHING_JUDGED.now else judged_table site judged)

-- The page of uploads: those that wait, and those that were judged.
unfoldable pub uploads_page : Site → ConfigValue → List Waiting → List Judgement → List ℕ
uploads_page site config waiting judged =
    head_text config (codes "Uploads") LINKS.now
    ++ waiting_part site waiting
    ++ judged_part site judged
    ++ foot_text
