-- The exits of the later checks: their fault is the first, since all before it passed.
use Rattle.std.proofs.Common.{inl, inr, ◌∙◌}
use Rattle.std.proofs.lemmas.Result.{err_from_is_err_and}
use Rattle.records.proofs.FirstFault.{behind, here}
use Rattle.records.proofs.changes.changes_from.Goals as goal

pub returns-in_err-check_front-clause-refused : goal.returns-in_err-check_front-clause-refused
returns-in_err-check_front-clause-refused c =
    let p = err_from_is_err_and c.from_residual.result c.from_residual.ensures.1 in
    rw (p.1, p.2) (inr (c.in_err-check_front.ensures.refused _))

pub returns-in_err-source-clause-refused : goal.returns-in_err-source-clause-refused
returns-in_err-source-clause-refused c =
    let p = err_from_is_err_and c.from_residual-in_err-source.result c.from_residual-in_err-source.ensures.1 in
    rw (p.1, p.2) (elim c.in_err-source.ensures.refused [
      | inl memory ↦ inl memory
      | inr bad ↦ inr (c.in_ok-check_front.ensures.only _ ∙ here _ _ _ bad)
    ])

pub returns-in_err-version-clause-refused : goal.returns-in_err-version-clause-refused
returns-in_err-version-clause-refused c =
    let p = err_from_is_err_and c.from_residual-in_err-version.result c.from_residual-in_err-version.ensures.1 in
    rw (p.1, p.2) (elim c.in_err-version.ensures.refused [
      | inl memory ↦ inl memory
      | inr bad ↦ inr (c.in_ok-check_front.ensures.only _ ∙ behind _ _ c.in_ok-source.ensures.only ∙ here _ _ _ bad)
    ])

pub returns-in_err-listing-clause-refused : goal.returns-in_err-listing-clause-refused
returns-in_err-listing-clause-refused c =
    let p = err_from_is_err_and c.from_residual-in_err-listing.result c.from_residual-in_err-listing.ensures.1 in
    rw (p.1, p.2) (elim c.in_err-listing.ensures.refused [
      | inl memory ↦ inl memory
      | inr bad ↦ inr (c.in_ok-check_front.ensures.only _ ∙ behind _ _ c.in_ok-source.ensures.only ∙ behind _ _ c.in_ok-version.ensures.only ∙ bad)
    ])

pub returns-clause-only : goal.returns-clause-only
returns-clause-only c = c.in_ok-check_front.ensures.only _ ∙ behind _ _ c.in_ok-source.ensures.only ∙ behind _ _ c.in_ok-version.ensures.only ∙ c.in_ok-listing.ensures.only
