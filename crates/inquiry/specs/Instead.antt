-- What came in place of what an upload lacks, found from what has arrived without its bytes.
use Rattle.std.specs.Prelude.{Bool, ◌&&◌, not, bytes_eq, List, filter, map}
use Rattle.std.specs.BTreeMap.{BTreeMap, get_by_text}
use Rattle.std.specs.declared.alloc.Global.{Global}
use Rattle.std.specs.declared.string.String.{String}
use Rattle.std.specs.declared.vec.Vec.{Vec}
use Rattle.sums.specs.Prints.{same_print}
use Rattle.sums.specs.declared.print.Print.{Print}
use Rattle.book.specs.Book.{counts_since}
use Rattle.book.specs.declared.arrival.Counting.{Counting}
use Rattle.book.specs.declared.arrived.ArrivedFile.{ArrivedFile}
use Rattle.book.specs.declared.change.Lack.{Lack}
use Rattle.book.specs.Groups.{group_in}
use Rattle.inquiry.specs.declared.named.Delivered.{Delivered}

-- What has arrived has the name of the lacking file.
abbrev pub has_name : Lack → ArrivedFile → Bool
has_name l f = bytes_eq f.name l.name

-- What has arrived is the lacking file, by name and print.
abbrev pub is_of : Lack → ArrivedFile → Bool
is_of l f = bytes_eq f.name l.name && same_print f.print l.print

-- What has arrived has the name of the lacking file and another print, and counts.
abbrev pub is_other : Counting → Lack → ArrivedFile → Bool
is_other counting l f = counts_since counting.span counting.moment f.moment && (has_name l f && not (is_of l f))

abbrev pub print_of : ArrivedFile → Print
print_of f = f.print

-- the prints of the other contents that came under its name and count
abbrev pub came_for : Counting → List ArrivedFile → Lack → List Print
came_for counting arrived l = map print_of (filter (is_other counting l) arrived)

-- what was delivered under the name has another print, and counts
abbrev pub is_another : Counting → Lack → Delivered → Bool
is_another counting l d = counts_since counting.span counting.moment d.moment && not (same_print d.print l.print)

-- the prints of the other contents among what was delivered under its name
abbrev pub came_of : Counting → List Delivered → Lack → List Print
came_of counting deliveries l = map (λ d. d.print) (filter (is_another counting l) deliveries)

-- the prints of the other contents in the group of its name
abbrev pub came_in : Counting → BTreeMap (String Global) (Vec Delivered Global) → Lack → List Print
came_in counting named l = came_of counting (group_in (get_by_text named l.name)) l
