use Rattle.std.proofs.Common.{◌≡◌, [], List, IfOk, MatchBool, filter, length, not, subst, ◌∙◌, arith}
use Rattle.std.proofs.lemmas.Bool.Decides.{nat_tests}
use Rattle.std.proofs.lemmas.List.{nil_from_length}
use Rattle.tables.specs.Rows.{Numbered}
use Rattle.tables.specs.Uploads.{is_judged as has_place}
use Rattle.tables.specs.declared.rows.UploadRow.{UploadRow}
use Rattle.tables.specs.declared.rows.Want.{Want}
use Rattle.tables_audit.specs.Uploads.{AreApart, AreAsked}
use Rattle.tables_audit.specs.declared.uploads.arrived.Arrived.{Arrived}
use Rattle.tables_audit.proofs.UploadsOrders.{none_asked}
use Rattle.tables_audit.proofs.uploads.are_asked.Goals as goal

pub returns-then-is_empty : goal.returns-then-is_empty
returns-then-is_empty c apart =
    let all = c.args.all.now in
    let awaited = c.args.awaited.items in
    let nil : length awaited ≡ 0 = grind (arith, nat_tests, c.is_empty.ensures, c.if-is_empty.true, c.args.awaited.ok.0) in
    none_asked c.have_places.result all.uploads.items all.wants.items c.args.arrived.now awaited (nil_from_length awaited nil)
    (subst (λ (us : Numbered UploadRow). MatchBool c.have_places.result (filter (λ x. not (has_place x.1)) us ≡ []) (filter (λ x. not (has_place x.1)) us ≡ [] → ⊥)) c.deref.ensures.value c.have_places.ensures)

pub returns : goal.returns
returns c apart =
    let awaited = c.args.awaited.items in
    let wants = c.new-wants.ensures ∙ c.deref-2.ensures.value in
    subst (λ (x : Numbered UploadRow × Numbered Want × List Arrived). AreApart x.0 → IfOk c.are_requests.result (λ fit. MatchBool fit (AreAsked x.0 x.1 x.2 awaited) (AreAsked x.0 x.1 x.2 awaited → ⊥)))
    (λ i. (c.deref-3.ensures.value i, wants i, c.in_ok-there.ensures i)) c.are_requests.ensures apart
