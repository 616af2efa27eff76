use Rattle.std.proofs.Common.{◌≡◌, true, true≢false, sym, ◌∙◌}
use Rattle.suites.specs.Shelves.{AreSound}
use Rattle.tables_read.specs.All.{tables_with}
use Rattle.tables_meaning.specs.Kept.{AreFiles, AreItems, AreReadable}
use Rattle.tables_audit.proofs.WholeLemmas.{at_some, no_files, no_texts, none_there, not_told, some_there}
use Rattle.tables_audit.proofs.whole.shelves_shown.Goals as goal

pub returns-in_default-clause-none : goal.returns-in_default-clause-none
returns-in_default-clause-none c keys same readable shown fits = c.in_ok-shelves.ensures.none c.in_default.is readable shown fits.items fits.sound

pub returns-then-not-branch-clause-none : goal.returns-then-not-branch-clause-none
returns-then-not-branch-clause-none c keys same readable shown fits =
    let t = tables_with c.args.all.now in
    let here : AreItems t c.args.config.now.suites c.in-Some.shelves × AreSound c.in-Some.shelves × AreReadable t = at_some _ _ c.in-Some.shelves c.in-Some.is c.in_ok-shelves.ensures.some keys in
    not_told t c.args.config.now c.in-Some.shelves shown c.args.dates.now here fits
    (λ told. let yes : c.in_ok-are_told.field-0 ≡ true = c.in_ok-are_told.ensures.1 told in absurd (true≢false (sym yes ∙ c.if-not-branch.true)))

pub returns-then-not-branch-2-clause-none : goal.returns-then-not-branch-2-clause-none
returns-then-not-branch-2-clause-none c keys same readable shown fits =
    let t = tables_with c.args.all.now in
    let here : AreItems t c.args.config.now.suites c.in-Some.shelves × AreSound c.in-Some.shelves × AreReadable t = at_some _ _ c.in-Some.shelves c.in-Some.is c.in_ok-shelves.ensures.some keys in
    no_files t c.args.config.now c.in-Some.shelves shown c.args.dates.now here fits
    (λ files. let yes : c.in_ok-are_files_of.field-0 ≡ true = (c.in_ok-are_files_of.ensures.fit keys).1 files in absurd (true≢false (sym yes ∙ c.if-not-branch-2.true)))

pub returns-in_default-2-clause-none : goal.returns-in_default-2-clause-none
returns-in_default-2-clause-none c keys same readable shown fits =
    let t = tables_with c.args.all.now in
    let here : AreItems t c.args.config.now.suites c.in-Some.shelves × AreSound c.in-Some.shelves × AreReadable t = at_some _ _ c.in-Some.shelves c.in-Some.is c.in_ok-shelves.ensures.some keys in
    no_texts t c.args.config.now c.in-Some.shelves shown c.args.dates.now here fits (λ texts. none_there _ c.in_default-2.is (c.in_ok-prints.ensures.fit.1 texts))

pub returns-clause-some : goal.returns-clause-some
returns-clause-some c keys =
    let t = tables_with c.args.all.now in
    let here : AreItems t c.args.config.now.suites c.in-Some.shelves × AreSound c.in-Some.shelves × AreReadable t = at_some _ _ c.in-Some.shelves c.in-Some.is c.in_ok-shelves.ensures.some keys in
    let files : AreFiles t c.in-Some.shelves = (c.in_ok-are_files_of.ensures.fit keys).0 c.if-not-branch-2.false in
    record { sound = here.1; told = c.in_ok-are_told.ensures.0 c.if-not-branch.false; items = here.0; files = files; texts = c.in_ok-prints.ensures.fit.0 (some_there _ c.in-Some-2.prints c.in-Some-2.is) }

pub returns-clause-printed : goal.returns-clause-printed
returns-clause-printed c = at_some _ _ c.in-Some-2.prints c.in-Some-2.is c.in_ok-prints.ensures.known
