-- What has arrived, by name.
use Rattle.std.specs.Prelude.{◌≡◌, ℕ, Bool, bytes_eq, List, filter, find, map, Option, option_map}
use Rattle.std.specs.BTreeMap.{BTreeMap, get_by_text}
use Rattle.std.specs.declared.alloc.Global.{Global}
use Rattle.std.specs.declared.string.String.{String}
use Rattle.std.specs.declared.vec.Vec.{Vec}
use Rattle.sums.specs.Prints.{same_print}
use Rattle.sums.specs.declared.print.Print.{Print}
use Rattle.book.specs.declared.arrived.ArrivedFile.{ArrivedFile}
use Rattle.book.specs.Groups.{group_in}
use Rattle.inquiry.specs.declared.named.Delivered.{Delivered}

-- a file that arrived, without its name
abbrev pub delivered : ArrivedFile → Delivered
delivered f = record { print = f.print; moment = f.moment }

-- it arrived under this name
abbrev pub is_named : List ℕ → ArrivedFile → Bool
is_named name f = bytes_eq f.name name

-- what arrived under a name, in the order of first deliveries
abbrev pub deliveries_of : List ℕ → List ArrivedFile → List Delivered
deliveries_of name arrived = map delivered (filter (is_named name) arrived)

-- the group of each name has what arrived under it
abbrev pub IsByName : List ArrivedFile → BTreeMap (String Global) (Vec Delivered Global) → Type 0
IsByName arrived named = (name : List ℕ) → group_in (get_by_text named name) ≡ deliveries_of name arrived

-- it has this print
abbrev pub has_print : Print → Delivered → Bool
has_print print d = same_print d.print print

-- the moment of the first delivery that has a print
abbrev pub moment_in : Print → List Delivered → Option ℕ
moment_in print deliveries = option_map (λ d. d.moment) (find (has_print print) deliveries)
