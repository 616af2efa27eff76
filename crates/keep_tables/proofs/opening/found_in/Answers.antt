use Rattle.std.proofs.Common.{rules, ◌≡◌, true, false, sym, ap, subst, ◌∙◌}
use Rattle.std.proofs.lemmas.Bool.{iff_false}
use Rattle.tables_read.specs.All.{tables_with}
use Rattle.tables_meaning.specs.Finished.{finished}
use Rattle.tables_meaning.specs.Kept.{IsBook}
use Rattle.keep_tables.specs.Finishing.{are_named, unfinished_ids}
use Rattle.tables_audit.specs.Whole.{KeepsSome}
use Rattle.keep_tables.proofs.FinishLemmas.{constrained_whole, named_none, readable_whole}
use Rattle.keep_tables.proofs.OpenLemmas.{found_shown, printed_whole}
use Rattle.tables_audit.proofs.WholeLemmas.{at_some}
use Rattle.keep_tables.proofs.opening.found_in.Goals as goal

pub returns-then-are_named-clause-none : goal.returns-then-are_named-clause-none
returns-then-are_named-clause-none c keys up same readable under config judged shown dates h =
    let t = tables_with c.args.all in
    let named : are_named t (unfinished_ids t.bodies) ≡ true = search rules in
    named_none t up named config judged shown dates h

pub returns-then-not-branch-clause-none : goal.returns-then-not-branch-clause-none
returns-then-not-branch-clause-none c keys up same readable under config judged shown dates h =
    absurd (iff_false c.in_ok-are_under_way.ensures c.if-not-branch.true under)

pub returns-in_default-clause-none : goal.returns-in_default-clause-none
returns-in_default-clause-none c keys up same readable under config judged shown dates h =
    let t = tables_with c.args.all in
    let whole = tables_with c.finished_rows-whole.result in
    let ids : c.in_ok-unfinished.unfinished.items ≡ unfinished_ids t.bodies = search rules in
    let none : are_named t (unfinished_ids t.bodies) ≡ false = sym (c.are_named.ensures ∙ ap (are_named t) (c.deref-2.ensures.value ∙ ids)) ∙ c.if-are_named.false in
    let is : whole ≡ finished t = c.finished_rows-whole.ensures in
    c.in_ok-held.ensures.none (constrained_whole t whole is keys none) c.in_default.is (readable_whole t whole is readable) config judged shown dates
    (subst (λ u. IsBook u config judged shown dates) (sym is) h)

pub returns-clause-some : goal.returns-clause-some
returns-clause-some c keys =
    let t = tables_with c.args.all in
    let whole = tables_with c.finished_rows-whole.result in
    let ids : c.in_ok-unfinished.unfinished.items ≡ unfinished_ids t.bodies = search rules in
    let none : are_named t (unfinished_ids t.bodies) ≡ false = sym (c.are_named.ensures ∙ ap (are_named t) (c.deref-2.ensures.value ∙ ids)) ∙ c.if-are_named.false in
    let is : whole ≡ finished t = c.finished_rows-whole.ensures in
    let kept : IsBook whole c.in-Some.held.config c.in-Some.held.judged.items c.in-Some.held.shelves c.in-Some.held.dates.items =
    at_some _ _ c.in-Some.held c.in-Some.is (c.in_ok-held.ensures.some (constrained_whole t whole is keys none)) in
    (subst (λ u. KeepsSome u c.in-Some.held.config c.in-Some.held.judged.items c.in-Some.held.dates.items) is ∣ (c.in-Some.held.shelves, kept) ∣₁, c.in_ok-are_under_way.ensures.0 c.if-not-branch.false, ids)

pub returns-clause-shown : goal.returns-clause-shown
returns-clause-shown c keys =
    let t = tables_with c.args.all in
    let whole = tables_with c.finished_rows-whole.result in
    let ids : c.in_ok-unfinished.unfinished.items ≡ unfinished_ids t.bodies = search rules in
    let none : are_named t (unfinished_ids t.bodies) ≡ false = sym (c.are_named.ensures ∙ ap (are_named t) (c.deref-2.ensures.value ∙ ids)) ∙ c.if-are_named.false in
    let is : whole ≡ finished t = c.finished_rows-whole.ensures in
    found_shown t whole is c.in-Some.held.config c.in-Some.held.judged.items c.in-Some.held.shelves c.in-Some.held.dates.items
    (at_some _ _ c.in-Some.held c.in-Some.is (c.in_ok-held.ensures.some (constrained_whole t whole is keys none)))

pub returns-clause-printed : goal.returns-clause-printed
returns-clause-printed c =
    printed_whole (tables_with c.args.all) (tables_with c.finished_rows-whole.result) c.finished_rows-whole.ensures c.in-Some.held.prints.items
    (at_some _ _ c.in-Some.held c.in-Some.is c.in_ok-held.ensures.printed)
