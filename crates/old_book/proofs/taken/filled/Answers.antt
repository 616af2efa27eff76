use Rattle.std.proofs.Common.{◌≡◌, rules, refl, sym, ap, subst, ◌∙◌}
use Rattle.sqlite.specs.Effect.{Database}
use Rattle.sqlite.specs.Held.{Held, state}
use Rattle.sqlite.specs.Steps.{over_memory}
use Rattle.sqlite.proofs.Callers.{memory_is_clean}
use Rattle.tables.specs.Rows.{Holds, no_rows}
use Rattle.tables.specs.Schema.{no_schema}
use Rattle.tables_read.specs.All.{tables_with}
use Rattle.old_book.specs.Copying.{IsBare, copied}
use Rattle.old_book.proofs.taken.filled.Goals as goal

pub returns-clause-open : goal.returns-clause-open
returns-clause-open c =
    let last = c.commit.new.self.0 in
    let done = c.in_ok-commit.ensures.ok (memory_is_clean last) in
    done.1.is_open

pub returns-clause-held : goal.returns-clause-held
returns-clause-held c =
    let t = tables_with c.args.all.now in
    let begun = c.transaction-tx.result.conn.now in
    let one = c.create_tables.new.tx.conn.now in
    let two = c.write_rows.new.tx.conn.now in
    let last = c.commit.new.self.0 in
    let is = c.transaction-tx.ensures.begun in
    let none : begun.schema ≡ no_schema = ap (λ (h : Held _). h.schema) is ∙ c.in_ok-conn.ensures.empty.2 in
    let made = c.in_ok-create_tables.ensures.ok (memory_is_clean one) (ap (λ (h : Held _). h.in_transaction) is) in
    let written = c.in_ok-write_rows.ensures.ok (memory_is_clean two) made.mode in
    let done = c.in_ok-commit.ensures.ok (memory_is_clean last) in
    let bare : IsBare no_rows = record { bodies = refl; pieces = refl; arrivals = refl; uploads = refl; wants = refl; items = refl; refs = refl; files = refl } in
    let held : Holds (state over_memory last).now (copied t 0 no_rows) = subst (λ (db : Database). Holds db (copied t 0 no_rows)) (sym done.1.now_is) (written.held no_rows bare (made.held none)) in
    let same : last ≡ c.conn-3-1.given.0 = search rules in
    subst (λ h. Holds (state over_memory h).now (copied t 0 no_rows)) same held
