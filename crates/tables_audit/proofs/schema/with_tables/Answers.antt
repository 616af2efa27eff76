use Rattle.std.proofs.Common.{◌≡◌, rules, sym, ap, ◌∙◌}
use Rattle.std.proofs.lemmas.Result.{err_from_is_err_and}
use Rattle.sqlite.specs.Effect.{Database}
use Rattle.sqlite.specs.Held.{Held, state}
use Rattle.sqlite.specs.Steps.{over_memory}
use Rattle.sqlite.proofs.Callers.{memory_is_clean}
use Rattle.tables.specs.Schema.{archive_schema, no_schema}
use Rattle.tables.proofs.CauseLemmas.{caused_later}
use Rattle.tables_meaning.proofs.OpenLemmas.{commit_caused, inside, no_table, wants_memory}
use Rattle.tables_audit.proofs.schema.with_tables.Goals as goal

pub returns-clause-ok : goal.returns-clause-ok
returns-clause-ok c =
    let begun = c.transaction-tx.result.conn.now in
    let one = c.create_tables.new.tx.conn.now in
    let last = c.commit.new.self.0 in
    let is = c.transaction-tx.ensures.begun in
    let none : begun.schema ≡ no_schema = ap (λ (h : Held _). h.schema) is ∙ c.in_ok-conn.ensures.empty.2 in
    let made = c.in_ok-create_tables.ensures.ok (memory_is_clean one) (ap (λ (h : Held _). h.in_transaction) is) in
    let done = c.in_ok-commit.ensures.ok (memory_is_clean last) in
    let there : last.schema ≡ archive_schema = ap (λ (db : Database). db.schema) done.1.now_is ∙ made.made none in
    let same : last ≡ c.conn-3-1.given.0 = search rules in
    sym (ap (λ (h : Held _). h.schema) same) ∙ there

pub returns-in_err-create_tables-clause-err : goal.returns-in_err-create_tables-clause-err
returns-in_err-create_tables-clause-err c =
    let begun = c.transaction-tx.result.conn.now in
    let one = c.create_tables.new.tx.conn.now in
    let is = c.transaction-tx.ensures.begun in
    let empty = c.in_ok-conn.ensures.empty in
    let new = c.in_ok-conn.ensures.fresh in
    let p = err_from_is_err_and c.from_residual-in_err-create_tables.result c.from_residual-in_err-create_tables.ensures.1 in
    rw (p.1, p.2) (wants_memory c.in_ok-conn.conn begun empty new is one c.in_err-create_tables.field-0.0
    (c.in_err-create_tables.ensures.cause (memory_is_clean one) (inside c.in_ok-conn.conn begun empty new is) (no_table c.in_ok-conn.conn begun empty new is)))

pub returns-in_err-commit-clause-err : goal.returns-in_err-commit-clause-err
returns-in_err-commit-clause-err c =
    let begun = c.transaction-tx.result.conn.now in
    let one = c.create_tables.new.tx.conn.now in
    let last = c.commit.new.self.0 in
    let is = c.transaction-tx.ensures.begun in
    let empty = c.in_ok-conn.ensures.empty in
    let new = c.in_ok-conn.ensures.fresh in
    let e = c.in_err-commit.field-0.0 in
    let made = c.in_ok-create_tables.ensures.ok (memory_is_clean one) (inside c.in_ok-conn.conn begun empty new is) in
    let p = err_from_is_err_and c.from_residual-in_err-commit.result c.from_residual-in_err-commit.ensures.1 in
    rw (p.1, p.2) (wants_memory c.in_ok-conn.conn begun empty new is last e
    (caused_later (state over_memory begun) (state over_memory one) (state over_memory last) c.create_tables.ensures.survives (memory_is_clean one) e c.commit.ensures.survives.counts
    (commit_caused (state over_memory one) (state over_memory last) e made.mode (c.in_err-commit.ensures.err (memory_is_clean last)))))
