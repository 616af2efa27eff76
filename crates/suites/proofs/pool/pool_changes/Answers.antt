use Rattle.std.proofs.Common.{List, ℕ, ap, ◌∙◌}
use Rattle.suites.specs.PoolChange.{gained, lost, is_new, has_no_use}
use Rattle.suites.specs.declared.shelves.SharedFile.{SharedFile}
use Rattle.suites.proofs.PoolLemmas.{passing, lists-where, gained-where, lost-where}
use Rattle.suites.proofs.pool.pool_changes.Goals as goal

pub returns-clause-added : goal.returns-clause-added
returns-clause-added c =
    lists-where (is_new c.args.shelves.now) c.in_ok-put.put c.in_ok-added_files.field-0.items (gained c.args.shelves.now c.args.put.now)
    c.in_ok-added_files.ensures.sorted c.in_ok-added_files.ensures.files
    (λ p. ap (λ o. passing (is_new c.args.shelves.now) o p) (c.in_ok-put.ensures p) ∙ gained-where c.args.shelves.now c.args.put.now p)

pub returns-clause-removed : goal.returns-clause-removed
returns-clause-removed c =
    let test = λ (path : List ℕ) (file : SharedFile). has_no_use c.args.shelves.now c.in_ok-put.put path file.references in
    lists-where test c.in_ok-dropped.dropped c.in_ok-removed_files.field-0.items (lost c.args.shelves.now c.args.put.now c.args.dropped.now)
    c.in_ok-removed_files.ensures.sorted c.in_ok-removed_files.ensures.files
    (λ p. ap (λ o. passing test o p) (c.in_ok-dropped.ensures p) ∙ lost-where c.args.shelves.now c.args.put.now c.args.dropped.now c.in_ok-put.put p (c.in_ok-put.ensures p))
