use Rattle.std.proofs.Common.{◌≡◌, List, Vec, Global, map, refl, ap, ap₂, ◌∙◌, arith}
use Rattle.std.specs.List.{filter_map}
use Rattle.std.proofs.lemmas.Bool.Decides.{when_false, when_true}
use Rattle.book.specs.declared.change.Judgement.{Judgement}
use Rattle.tables.specs.Rows.{Numbered, rows_of}
use Rattle.tables.specs.declared.rows.Piece.{Piece}
use Rattle.tables_read.specs.All.{tables_with}
use Rattle.tables_read.specs.declared.all.AllRows.{AllRows}
use Rattle.tables_audit.specs.Uploads.{AreAsked, found_awaited, printed, with_print, with_print_in}
use Rattle.tables_audit.specs.declared.uploads.arrived.Arrived.{Arrived}
use Rattle.tables_audit.proofs.UploadsFits.{asked_at, besides_other, besides_owned, owned_at, prints_at, some_of, unprinted_at}
use Rattle.tables_audit.proofs.UploadsWaiting.{none_unprinted}
use Rattle.tables_audit.proofs.uploads.are_besides.Goals as goal

pub returns-in_default : goal.returns-in_default
returns-in_default c keys fit b =
    none_unprinted (tables_with c.args.all.now) keys fit
    (unprinted_at c.deref-2.result.now c.args.all.now.arrivals.items c.new-bodies.result.all.now c.args.all.now.bodies.items c.deref-2.ensures.value (c.new-bodies.ensures ∙ c.deref.ensures.value)
    (c.in_ok-arrived.ensures.none c.in_default.is))

pub returns-then-not-branch : goal.returns-then-not-branch
returns-then-not-branch c keys fit b =
    let all = c.args.all.now in
    let arrived = c.in-Some.arrived.items in
    let awaited = c.in_ok-awaited.awaited.items in
    besides_other (tables_with all) c.args.judged.now arrived awaited keys fit
    (prints_at c.deref-2.result.now all.arrivals.items c.new-bodies.result.all.now all.bodies.items arrived c.deref-2.ensures.value (c.new-bodies.ensures ∙ c.deref.ensures.value)
    (some_of (λ (v : Vec Arrived Global). map with_print v.items ≡ map (with_print_in c.new-bodies.result.all.now) (rows_of c.deref-2.result.now)) c.in_ok-arrived.field-0 c.in-Some.arrived c.in-Some.is c.in_ok-arrived.ensures.some))
    (c.in_ok-awaited.ensures
    ∙ ap (λ (js : List Judgement). filter_map (found_awaited c.new-pieces.result.all.now.pieces.items js) (map printed c.deref-3.result.now)) c.in_ok-verdicts.ensures
    ∙ ap₂ (λ (ps : Numbered Piece) (xs : List Arrived). filter_map (found_awaited ps c.args.judged.now) (map printed xs)) (ap (λ (a : AllRows). a.pieces.items) c.new-pieces.ensures) c.deref-3.ensures.value)
    (when_false (AreAsked all.uploads.items all.wants.items arrived awaited) (AreAsked all.uploads.items all.wants.items arrived awaited → ⊥) (grind arith)
    (asked_at c.in_ok-are_asked.field-0 all.uploads.items all.wants.items c.deref-4.result.now arrived awaited awaited c.deref-4.ensures.value refl (c.in_ok-are_asked.ensures keys.uploads_apart)))
    b

pub returns : goal.returns
returns c keys fit =
    let all = c.args.all.now in
    let arrived = c.in-Some.arrived.items in
    let awaited = c.in_ok-awaited.awaited.items in
    besides_owned (tables_with all) c.args.judged.now arrived awaited keys fit
    (prints_at c.deref-2.result.now all.arrivals.items c.new-bodies.result.all.now all.bodies.items arrived c.deref-2.ensures.value (c.new-bodies.ensures ∙ c.deref.ensures.value)
    (some_of (λ (v : Vec Arrived Global). map with_print v.items ≡ map (with_print_in c.new-bodies.result.all.now) (rows_of c.deref-2.result.now)) c.in_ok-arrived.field-0 c.in-Some.arrived c.in-Some.is c.in_ok-arrived.ensures.some))
    (c.in_ok-awaited.ensures
    ∙ ap (λ (js : List Judgement). filter_map (found_awaited c.new-pieces.result.all.now.pieces.items js) (map printed c.deref-3.result.now)) c.in_ok-verdicts.ensures
    ∙ ap₂ (λ (ps : Numbered Piece) (xs : List Arrived). filter_map (found_awaited ps c.args.judged.now) (map printed xs)) (ap (λ (a : AllRows). a.pieces.items) c.new-pieces.ensures) c.deref-3.ensures.value)
    c.are_owned.result
    (when_true (AreAsked all.uploads.items all.wants.items arrived awaited) (AreAsked all.uploads.items all.wants.items arrived awaited → ⊥) (grind arith)
    (asked_at c.in_ok-are_asked.field-0 all.uploads.items all.wants.items c.deref-4.result.now arrived awaited awaited c.deref-4.ensures.value refl (c.in_ok-are_asked.ensures keys.uploads_apart)))
    (owned_at c.are_owned.result c.new-uploads.result.all.now all.uploads.items c.deref-6.result.now all.wants.items (c.new-uploads.ensures ∙ c.deref-5.ensures.value) c.deref-6.ensures.value c.are_owned.ensures)
