use Rattle.std.proofs.Common.{Some, ℕ, List, [], sym, ap, ◌∙◌, arith, unwrap_or}
use Rattle.std.specs.Option.{option_map}
use Rattle.sqlite.specs.State.{HasCleanDisk}
use Rattle.sqlite.specs.Held.{state}
use Rattle.sqlite.proofs.Callers.{unchanged_then}
use Rattle.tables.specs.declared.rows.Piece.{Piece}
use Rattle.tables_bodies.specs.FilePieces.{piece_with}
use Rattle.tables_meaning.proofs.ReadsLemmas.{held_after, survives_after, survives_foreign}
use Rattle.tables_bodies.proofs.file_pieces.body_piece.Goals as goal

pub returns-in_err-found-clause-survives : goal.returns-in_err-found-clause-survives
returns-in_err-found-clause-survives g c =
    let old = state g.S.Store c.args.conn.now in
    let mid = state g.S.Store c.print_numbered.new.conn in
    let new = state g.S.Store c.piece.new.conn in
    survives_after old mid new (λ clean t was. (c.in_ok-print.ensures.ok clean t was).1) c.print_numbered.ensures.survives (survives_foreign mid new c.piece.ensures.survives)

pub returns-clause-ok : goal.returns-clause-ok
returns-clause-ok g c clean t was =
    let old = state g.S.Store c.args.conn.now in
    let mid = state g.S.Store c.print_numbered.new.conn in
    let new = state g.S.Store c.piece.new.conn in
    let early : HasCleanDisk mid = omega (arith, c.piece.ensures.survives.clean, clean) in
    let first = c.in_ok-print.ensures.ok early t was in
    let second = c.in_ok-found.ensures.ok clean t (held_after old mid first.1 t was) in
    let bytes = c.piece_bytes.ensures ∙ ap (λ o. unwrap_or (option_map (λ (p : Piece). p.bytes) o) []) (rw c.from.ensures at second.0) in (
      ap (option_map (piece_with t c.args.number c.args.id)) first.0 ∙ ap (λ (bytes : List ℕ). Some (record { size = c.in_ok-print.print.size; bytes = bytes })) (sym bytes),
      unchanged_then old mid new first.1 second.1,
    )

pub returns-clause-survives : goal.returns-clause-survives
returns-clause-survives g c =
    let old = state g.S.Store c.args.conn.now in
    let mid = state g.S.Store c.print_numbered.new.conn in
    let new = state g.S.Store c.piece.new.conn in
    survives_after old mid new (λ clean t was. (c.in_ok-print.ensures.ok clean t was).1) c.print_numbered.ensures.survives (survives_foreign mid new c.piece.ensures.survives)
