use Rattle.std.proofs.Common.{◌≡◌, map, take}
use Rattle.tables.specs.Rows.{rows_of}
use Rattle.tables_audit.specs.Uploads.{with_print, with_print_in}
use Rattle.tables_audit.proofs.uploads.arrived.arrived_among.Given as goal

abbrev pub invariant-loop-arrival : goal.invariant-loop-arrival
invariant-loop-arrival l = map with_print l.arrived.items ≡ map (with_print_in l.bodies.all.now) (rows_of (take l.arrival-index l.arrivals))
