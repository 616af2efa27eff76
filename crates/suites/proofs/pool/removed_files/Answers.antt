use Rattle.std.proofs.Common.{[], ◌∷◌, ◌++◌, cond, map, List, ℕ, sym, ap, ◌∙◌}
use Rattle.std.specs.Map.Iter.{deref_pair}
use Rattle.std.proofs.lemmas.List.{map-append}
use Rattle.std.proofs.lemmas.Map.Iter.{iter_end}
use Rattle.suites.specs.PoolChange.{files_where, has_no_use}
use Rattle.suites.specs.declared.shelves.SharedFile.{SharedFile}
use Rattle.suites.proofs.PoolLemmas.{files_where-push}
use Rattle.suites.proofs.pool.removed_files.Goals as goal

pub loop-path-preserved : goal.loop-path-preserved
loop-path-preserved c =
    let test = λ (path : List ℕ) (file : SharedFile). has_no_use c.args.shelves.now c.args.put.now path file.references in
    c.in_ok-push_file_if.ensures
    ∙ (λ i. c.loop-path.invariant i ++ cond ((c.is_unused-is_unused.ensures ∙ ap (λ path. has_no_use c.args.shelves.now c.args.put.now path c.in-Some.file.now.references) c.as_str.ensures.value) i)
    (record { path = c.as_str-in-loop-path.ensures.value i; print = c.in-Some.file.now.print } ∷ []) [])
    ∙ files_where-push test (map deref_pair c.loop-path.yielded) (c.in-Some.path.now, c.in-Some.file.now)
    ∙ ap (files_where test) (sym (map-append deref_pair c.loop-path.yielded ((c.in-Some.path, c.in-Some.file) ∷ [])))

pub returns-clause-files : goal.returns-clause-files
returns-clause-files c =
    c.loop-path.invariant
    ∙ ap (files_where (λ path file. has_no_use c.args.shelves.now c.args.put.now path file.references))
    (iter_end deref_pair c.args.dropped.now.entries c.loop-path.yielded c.into_iter-path-iterator.result c.loop-path.path-iterator c.next.new.self c.next.result c.into_iter-path-iterator.ensures.into_iter_gives.0 c.loop-path.yielded_by c.in-None.is c.next.ensures.steps).0
