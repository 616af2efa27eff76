use Rattle.std.proofs.Common.{rules, ◌≡◌, [], ◌∷◌, Ok, sym, subst}
use Rattle.tables.specs.Rows.{rows_of}
use Rattle.tables.specs.declared.meta.TheConstants.{VERSION}
use Rattle.tables_read.specs.All.{tables_with}
use Rattle.rules.specs.Configuration.{config_in}
use Rattle.tables_meaning.specs.Kept.{IsBook}
use Rattle.tables_audit.proofs.WholeLemmas.{if_ok, if_some, no_other, whole}
use Rattle.tables_audit.proofs.whole.archive_in.Goals as goal

-- the rows are those of the archive that is found
pub returns-clause-some : goal.returns-clause-some
returns-clause-some c keys =
    let t = tables_with c.args.all.now in
    let arrived = c.in_ok-have_arrived.ensures.0 c.if-not-branch.false in
    let found : (rows_of t.meta ≡ record { version = VERSION; configuration = c.in-Some.config.text } ∷ []) × (config_in c.in-Some.config.text ≡ Ok c.in-Some.config) = search rules in
    if_ok _ _ c.held_of.result
    (λ o h. if_some _ _ o
    (λ held parts. subst (λ g. IsBook t g held.judged.items held.shelves held.dates.items) (sym parts.0)
    (whole t c.in-Some.config held.judged.items held.shelves held.dates.items keys found.0 found.1 arrived.0 arrived.1 parts.1))
    h)
    (c.held_of.ensures.some keys arrived.0)

-- if no archive is found the rows are not those of one
pub returns-clause-none : goal.returns-clause-none
returns-clause-none c keys =
    let t = tables_with c.args.all.now in
    let arrived = c.in_ok-have_arrived.ensures.0 c.if-not-branch.false in
    let found : (rows_of t.meta ≡ record { version = VERSION; configuration = c.in-Some.config.text } ∷ []) × (config_in c.in-Some.config.text ≡ Ok c.in-Some.config) = search rules in
    if_ok _ _ c.held_of.result (λ o h none readable. no_other t c.in-Some.config found.0 found.1 (h none readable)) (c.held_of.ensures.none keys arrived.0)
