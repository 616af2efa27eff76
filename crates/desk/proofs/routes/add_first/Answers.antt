-- The rows after each route, by computing them: no route conflicts with another, so only memory can be short.
use Rattle.std.proofs.Common.{[], take, codes, refl}
use Rattle.std.proofs.lemmas.Result.{err_from_is_err_and}
use Rattle.matchit.proofs.OnLiterals.{matchit_on_literals}
use Rattle.matchit.specs.Route.{parse_route}
use Rattle.desk.specs.Want.{route_texts, add_routes}
use Rattle.desk.specs.declared.routes.Route.TheVariants as at
use Rattle.desk.proofs.RouteLemmas.{memory_of}
use Rattle.desk.proofs.routes.add_first.Goals as goal

pub returns-in_err-insert-clause-err : goal.returns-in_err-insert-clause-err
unfolding matchit_on_literals
returns-in_err-insert-clause-err c =
    let p = err_from_is_err_and c.from_residual.result c.from_residual.ensures.1 in
    let a = rw c.requires at c.in_err-insert.ensures in
    rw (p.1, p.2) (memory_of (parse_route (codes "/incoming/{name}")) at.Deliver (add_routes (take 0 route_texts) []) _ _ refl a)

pub returns-in_err-insert-2-clause-err : goal.returns-in_err-insert-2-clause-err
unfolding matchit_on_literals
returns-in_err-insert-2-clause-err c =
    let p = err_from_is_err_and c.from_residual-in_err-insert-2.result c.from_residual-in_err-insert-2.ensures.1 in
    let a = rw (c.in_ok-insert.ensures.1, c.requires) at c.in_err-insert-2.ensures in
    rw (p.1, p.2) (memory_of (parse_route (codes "/queue/run")) at.Run (add_routes (take 1 route_texts) []) _ _ refl a)

pub returns-in_err-insert-3-clause-err : goal.returns-in_err-insert-3-clause-err
unfolding matchit_on_literals
returns-in_err-insert-3-clause-err c =
    let p = err_from_is_err_and c.from_residual-in_err-insert-3.result c.from_residual-in_err-insert-3.ensures.1 in
    let a = rw (c.in_ok-insert-2.ensures.1, c.in_ok-insert.ensures.1, c.requires) at c.in_err-insert-3.ensures in
    rw (p.1, p.2) (memory_of (parse_route (codes "/copy/{from}/{to}/{source}")) at.Copy (add_routes (take 2 route_texts) []) _ _ refl a)

pub returns-in_err-insert-4-clause-err : goal.returns-in_err-insert-4-clause-err
unfolding matchit_on_literals
returns-in_err-insert-4-clause-err c =
    let p = err_from_is_err_and c.from_residual-in_err-insert-4.result c.from_residual-in_err-insert-4.ensures.1 in
    let a = rw (c.in_ok-insert-3.ensures.1, c.in_ok-insert-2.ensures.1, c.in_ok-insert.ensures.1, c.requires) at c.in_err-insert-4.ensures in
    rw (p.1, p.2) (memory_of (parse_route (codes "/queue")) at.Waiting (add_routes (take 3 route_texts) []) _ _ refl a)

pub returns-clause-ok : goal.returns-clause-ok
unfolding matchit_on_literals
returns-clause-ok c = rw (c.in_ok-insert-4.ensures.1, c.in_ok-insert-3.ensures.1, c.in_ok-insert-2.ensures.1, c.in_ok-insert.ensures.1, c.requires) refl
