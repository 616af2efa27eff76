use Rattle.std.proofs.Common.{[], ◌∷◌, ◌++◌, cond, nat_eq, map, sym, ap, ◌∙◌}
use Rattle.std.specs.Map.Iter.{deref_pair}
use Rattle.std.proofs.lemmas.List.{map-append}
use Rattle.std.proofs.lemmas.Map.Iter.{iter_end}
use Rattle.suites.specs.PoolChange.{files_where, is_new, references_at}
use Rattle.suites.proofs.PoolLemmas.{files_where-push}
use Rattle.suites.proofs.pool.added_files.Goals as goal

pub loop-path-preserved : goal.loop-path-preserved
loop-path-preserved c =
    c.in_ok-push_file_if.ensures
    ∙ (λ i. c.loop-path.invariant i ++ cond (nat_eq ((c.references-is_new.ensures ∙ ap (references_at c.args.shelves.now) c.as_str.ensures.value) i) 0) (record { path = c.as_str-in-loop-path.ensures.value i; print = c.in-Some.file.now.print } ∷ []) [])
    ∙ files_where-push (is_new c.args.shelves.now) (map deref_pair c.loop-path.yielded) (c.in-Some.path.now, c.in-Some.file.now)
    ∙ ap (files_where (is_new c.args.shelves.now)) (sym (map-append deref_pair c.loop-path.yielded ((c.in-Some.path, c.in-Some.file) ∷ [])))

pub returns-clause-files : goal.returns-clause-files
returns-clause-files c =
    c.loop-path.invariant
    ∙ ap (files_where (is_new c.args.shelves.now))
    (iter_end deref_pair c.args.put.now.entries c.loop-path.yielded c.into_iter-path-iterator.result c.loop-path.path-iterator c.next.new.self c.next.result c.into_iter-path-iterator.ensures.into_iter_gives.0 c.loop-path.yielded_by c.in-None.is c.next.ensures.steps).0
