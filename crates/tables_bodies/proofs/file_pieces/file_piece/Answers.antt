use Rattle.std.proofs.Common.{Some, sym, ap, ◌∙◌, arith}
use Rattle.std.specs.Option.{option_and_then}
use Rattle.sqlite.specs.State.{HasCleanDisk}
use Rattle.sqlite.specs.Held.{state}
use Rattle.sqlite.proofs.Callers.{unchanged_then}
use Rattle.tables.specs.declared.rows.File.{File}
use Rattle.tables_bodies.specs.FilePieces.{piece_in, stored_piece}
use Rattle.tables_meaning.proofs.ReadsLemmas.{held_after, survives_after, survives_foreign}
use Rattle.tables_bodies.proofs.file_pieces.file_piece.Goals as goal

pub returns-in_err-found-clause-survives : goal.returns-in_err-found-clause-survives
returns-in_err-found-clause-survives g c = survives_foreign (state g.S.Store c.args.conn.now) (state g.S.Store c.file_at.new.conn) c.file_at.ensures.survives

pub returns-in_err-piece-in-Some-clause-survives : goal.returns-in_err-piece-in-Some-clause-survives
returns-in_err-piece-in-Some-clause-survives g c =
    let old = state g.S.Store c.args.conn.now in
    let mid = state g.S.Store c.file_at.new.conn in
    let new = state g.S.Store c.body_piece.new.conn in
    survives_after old mid new (λ clean t was. (c.in_ok-found.ensures.ok clean t was).1) (survives_foreign old mid c.file_at.ensures.survives) c.body_piece.ensures.survives

pub returns-in_ok-piece-in-Some-clause-ok : goal.returns-in_ok-piece-in-Some-clause-ok
unfolding piece_in
returns-in_ok-piece-in-Some-clause-ok g c clean t was =
    let old = state g.S.Store c.args.conn.now in
    let mid = state g.S.Store c.file_at.new.conn in
    let new = state g.S.Store c.body_piece.new.conn in
    let early : HasCleanDisk mid = omega (arith, c.body_piece.ensures.survives.clean, clean) in
    let first = c.in_ok-found.ensures.ok early t was in
    let second = c.in_ok-piece-in-Some.ensures.ok clean t (held_after old mid first.1 t was) in
    (sym second.0 ∙ ap (option_and_then (λ (f : File). stored_piece t c.args.number f.body)) (sym c.in-Some.is ∙ first.0), unchanged_then old mid new first.1 second.1)

pub returns-in_ok-piece-in-Some-clause-survives : goal.returns-in_ok-piece-in-Some-clause-survives
returns-in_ok-piece-in-Some-clause-survives g c =
    let old = state g.S.Store c.args.conn.now in
    let mid = state g.S.Store c.file_at.new.conn in
    let new = state g.S.Store c.body_piece.new.conn in
    survives_after old mid new (λ clean t was. (c.in_ok-found.ensures.ok clean t was).1) (survives_foreign old mid c.file_at.ensures.survives) c.body_piece.ensures.survives

pub returns-in-None-clause-ok : goal.returns-in-None-clause-ok
unfolding piece_in
returns-in-None-clause-ok g c clean t was =
    let first = c.in_ok-found.ensures.ok clean t was in (ap (option_and_then (λ (f : File). stored_piece t c.args.number f.body)) (sym c.in-None.is ∙ first.0), first.1)

pub returns-in-None-clause-survives : goal.returns-in-None-clause-survives
returns-in-None-clause-survives g c = survives_foreign (state g.S.Store c.args.conn.now) (state g.S.Store c.file_at.new.conn) c.file_at.ensures.survives
