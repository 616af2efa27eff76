-- What is said of an upload that waits.
use Rattle.std.specs.Prelude.{ℕ, nat_lt, not, if◌then◌else◌, List, [], ◌∷◌, ◌++◌, map, filter, find, bytes_eq, ◌&&◌, Bool, codes, Option, Some, None, option_map}
use Rattle.std.specs.List.{flat_map, zip}
use Rattle.hex.specs.Hex.{encode_lower}
use Rattle.serde_json.specs.Data.{Data, null, number, unsigned, string, array, object, member, no_items, no_members}
use Rattle.serde_json.specs.View.{items_of}
use Rattle.sums.specs.Prints.{same_print}
use Rattle.sums.specs.declared.print.Print.{Print}
use Rattle.indices.specs.Calendar.{date_text, latest}
use Rattle.book.specs.declared.arrived.ArrivedFile.{ArrivedFile}
use Rattle.book.specs.declared.change.Lack.{Lack}
use Rattle.book.specs.declared.change.Waiting.{Waiting}
use Rattle.output.specs.Explaining.Words.{file_words, upload_words}

-- a file that arrived is the .changes of an upload that waits
abbrev pub is_changes_of : Waiting → ArrivedFile → Bool
is_changes_of w f = bytes_eq f.name w.name && same_print f.print w.print

-- since when an upload waits: the moment of its .changes, if that arrived
abbrev pub since : List ArrivedFile → Waiting → Option ℕ
since arrived w = option_map (λ f. f.moment) (find (is_changes_of w) arrived)

-- the line that says since when, as Release has its Date; none after the last moment that has a date
abbrev pub since_lines : Option ℕ → List (List ℕ)
since_lines None = []
since_lines (Some moment) = if nat_lt latest moment then [] else (codes " since " ++ date_text moment) ∷ []

-- the word for a listed file that does not count: it has ended if it came, and counts no more
abbrev pub lack_word : Lack → List ℕ
lack_word l = if l.is_ended then codes " ended" else codes " lacks"

-- the lines on a listed file: that it lacks or has ended, and the prints of what came in its place
abbrev pub lack_lines : Lack → List Print → List (List ℕ)
lack_lines l came = file_words (lack_word l) l.name l.print ∷ map (file_words (codes " came") l.name) came

-- the lines on listed files, each with what came in its place
abbrev pub lacks_lines : List Lack → List (List Print) → List (List ℕ)
lacks_lines lacks all = flat_map (λ pair. lack_lines pair.0 pair.1) (zip lacks all)

-- the line that says that nothing lacks
abbrev pub whole_lines : List Lack → List (List ℕ)
whole_lines [] = codes " whole" ∷ []
whole_lines (l ∷ lacks) = []

-- all lines on an upload that waits: since when, what it lacks with what came in place of each, and whether it is whole
unfoldable pub waits_lines : Waiting → Option ℕ → List (List Print) → List (List ℕ)
waits_lines w moment came =
    upload_words (codes "waits") w.name w.print ∷ (since_lines moment ++ (lacks_lines w.lacks came ++ whole_lines w.lacks))

-- ---- as an object

abbrev pub file_data : List ℕ → Print → Data
file_data name print =
    object (member (codes "name") (string name)
    (member (codes "sha256") (string (encode_lower print.sha256))
    (member (codes "size") (number (unsigned print.size)) no_members)))

abbrev pub lack_data : Lack → Data
lack_data l = file_data l.name l.print

abbrev pub lacks_data : List Lack → Data
lacks_data lacks = array (items_of (map lack_data lacks))

-- what came in place of listed files
abbrev pub came_items : List Lack → List (List Print) → List Data
came_items lacks all = flat_map (λ pair. map (file_data pair.0.name) pair.1) (zip lacks all)

abbrev pub moment_data : Option ℕ → Data
moment_data None = null
moment_data (Some moment) = number (unsigned moment)

abbrev pub has_ended : Lack → Bool
has_ended l = l.is_ended

abbrev pub never_came : Lack → Bool
never_came l = not l.is_ended

unfoldable pub waits_data : Waiting → Option ℕ → List (List Print) → Data
waits_data w moment came =
    object (member (codes "came") (array (items_of (came_items w.lacks came)))
    (member (codes "ended") (lacks_data (filter has_ended w.lacks))
    (member (codes "lacks") (lacks_data (filter never_came w.lacks))
    (member (codes "means") null
    (member (codes "names") (array no_items)
    (member (codes "sha256") (string (encode_lower w.print.sha256))
    (member (codes "since") (moment_data moment)
    (member (codes "today") null
    (member (codes "todo") null
    (member (codes "upload") (string w.name)
    (member (codes "verdict") null no_members)))))))))))
