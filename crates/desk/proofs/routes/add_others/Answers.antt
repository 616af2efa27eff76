-- The rows after each route, by computing them: no route conflicts with another, so only memory can be short.
use Rattle.std.proofs.Common.{[], take, codes, refl}
use Rattle.std.proofs.lemmas.Result.{err_from_is_err_and}
use Rattle.matchit.proofs.OnLiterals.{matchit_on_literals}
use Rattle.matchit.specs.Route.{parse_route}
use Rattle.desk.specs.Want.{routes, route_texts, add_routes}
use Rattle.desk.specs.declared.routes.Route.TheVariants as at
use Rattle.desk.proofs.RouteLemmas.{memory_of}
use Rattle.desk.proofs.routes.add_others.Goals as goal

pub returns-in_err-insert-clause-err : goal.returns-in_err-insert-clause-err
unfolding matchit_on_literals
returns-in_err-insert-clause-err c =
    let p = err_from_is_err_and c.from_residual.result c.from_residual.ensures.1 in
    let a = rw c.requires at c.in_err-insert.ensures in
    rw (p.1, p.2) (memory_of (parse_route (codes "/verdicts")) at.Verdicts (add_routes (take 4 route_texts) []) _ _ refl a)

pub returns-in_err-insert-2-clause-err : goal.returns-in_err-insert-2-clause-err
unfolding matchit_on_literals
returns-in_err-insert-2-clause-err c =
    let p = err_from_is_err_and c.from_residual-in_err-insert-2.result c.from_residual-in_err-insert-2.ensures.1 in
    let a = rw (c.in_ok-insert.ensures.1, c.requires) at c.in_err-insert-2.ensures in
    rw (p.1, p.2) (memory_of (parse_route (codes "/dists/{*path}")) at.Dists (add_routes (take 5 route_texts) []) _ _ refl a)

pub returns-in_err-insert-3-clause-err : goal.returns-in_err-insert-3-clause-err
unfolding matchit_on_literals
returns-in_err-insert-3-clause-err c =
    let p = err_from_is_err_and c.from_residual-in_err-insert-3.result c.from_residual-in_err-insert-3.ensures.1 in
    let a = rw (c.in_ok-insert-2.ensures.1, c.in_ok-insert.ensures.1, c.requires) at c.in_err-insert-3.ensures in
    rw (p.1, p.2) (memory_of (parse_route (codes "/pool/{*path}")) at.Pool (add_routes (take 6 route_texts) []) _ _ refl a)

pub returns-in_err-insert-4-clause-err : goal.returns-in_err-insert-4-clause-err
unfolding matchit_on_literals
returns-in_err-insert-4-clause-err c =
    let p = err_from_is_err_and c.from_residual-in_err-insert-4.result c.from_residual-in_err-insert-4.ensures.1 in
    let a = rw (c.in_ok-insert-3.ensures.1, c.in_ok-insert-2.ensures.1, c.in_ok-insert.ensures.1, c.requires) at c.in_err-insert-4.ensures in
    rw (p.1, p.2) (memory_of (parse_route (codes "/remove/{suite}/{package}")) at.Remove (add_routes (take 7 route_texts) []) _ _ refl a)

pub returns-in_err-insert-5-clause-err : goal.returns-in_err-insert-5-clause-err
unfolding matchit_on_literals
returns-in_err-insert-5-clause-err c =
    let p = err_from_is_err_and c.from_residual-in_err-insert-5.result c.from_residual-in_err-insert-5.ensures.1 in
    let a = rw (c.in_ok-insert-4.ensures.1, c.in_ok-insert-3.ensures.1, c.in_ok-insert-2.ensures.1, c.in_ok-insert.ensures.1, c.requires) at c.in_err-insert-5.ensures in
    rw (p.1, p.2) (memory_of (parse_route (codes "/queue/clean")) at.Clean (add_routes (take 8 route_texts) []) _ _ refl a)

pub returns-in_err-insert-6-clause-err : goal.returns-in_err-insert-6-clause-err
unfolding matchit_on_literals
returns-in_err-insert-6-clause-err c =
    let p = err_from_is_err_and c.from_residual-in_err-insert-6.result c.from_residual-in_err-insert-6.ensures.1 in
    let a = rw (c.in_ok-insert-5.ensures.1, c.in_ok-insert-4.ensures.1, c.in_ok-insert-3.ensures.1, c.in_ok-insert-2.ensures.1, c.in_ok-insert.ensures.1, c.requires) at c.in_err-insert-6.ensures in
    rw (p.1, p.2) (memory_of (parse_route (codes "/promote/{from}/{to}")) at.Promote (add_routes (take 9 route_texts) []) _ _ refl a)

pub returns-clause-ok : goal.returns-clause-ok
unfolding matchit_on_literals routes
returns-clause-ok c = rw (c.in_ok-insert-6.ensures.1, c.in_ok-insert-5.ensures.1, c.in_ok-insert-4.ensures.1, c.in_ok-insert-3.ensures.1, c.in_ok-insert-2.ensures.1, c.in_ok-insert.ensures.1, c.requires) refl
