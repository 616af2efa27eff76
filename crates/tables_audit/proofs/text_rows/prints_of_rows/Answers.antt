use Rattle.std.proofs.Common.{◌≡◌, ◌↔◌, ◌≤◌, ◌<◌, ℕ, ◌+◌, List, [], ◌++◌, length, drop, get_or, subst, arith}
use Rattle.std.specs.List.{zip}
use Rattle.std.specs.Prelude.{All, Contains}
use Rattle.std.proofs.lemmas.Slice.Zip.{length-zip}
use Rattle.tables_meaning.specs.Founding.{suite_texts_at}
use Rattle.tables_meaning.proofs.PathLemmas.{config_paths}
use Rattle.rules.specs.Values.{ConfigValue}
use Rattle.rules.specs.declared.suite.Suite.{Suite}
use Rattle.suites.specs.Shelves.{ShelvesValue}
use Rattle.indices.specs.Indices.{PathText, all_texts, texts_from}
use Rattle.tables_audit.specs.TextRows.{texts_in}
use Rattle.tables_audit.proofs.TextsLemmas.{no_prints, none_left, none_more, other_front, permuted_if, same_behind, some_case, some_more, texts_next, too_many}
use Rattle.tables_audit.proofs.text_rows.prints_of_rows.Goals as goal

module _ {P : Type 0} (C : PathText → Type 0) (config : ConfigValue) (shelves : ShelvesValue) (dates : List ℕ) (i left : ℕ) (dated : length dates ≡ length config.suites) (within : i < length dates)
    (h : P ↔ (All C (texts_from shelves i (drop i (zip config.suites dates))) × (left ≡ length (texts_from shelves i (drop i (zip config.suites dates)))))) where
  next : P ↔ (All C (suite_texts_at config shelves i (get_or dates i 0) ++ texts_from shelves (i + 1) (drop (i + 1) (zip config.suites dates)))
      × (left ≡ length (suite_texts_at config shelves i (get_or dates i 0) ++ texts_from shelves (i + 1) (drop (i + 1) (zip config.suites dates)))))
  next = subst (λ xs. P ↔ (All C xs × (left ≡ length xs))) (texts_next config shelves dates i 0 (omega (arith, dated, within)) within) h

pub loop-position-init : goal.loop-position-init
loop-position-init c = record {
  few = omega arith;
  are = permuted_if c.args.rows.now (all_texts c.args.config.now c.args.shelves.now c.args.dates.now) (config_paths c.args.config.now c.text.ensures.read c.args.shelves.now c.args.dates.now);
  known = no_prints (texts_in c.args.rows.now) c.new-prints.result.items c.new-prints.ensures.items;
}

pub returns-in_default-clause-fit : goal.returns-in_default-clause-fit
returns-in_default-clause-fit c =
    let config : ConfigValue = c.args.config.now in
    let shelves : ShelvesValue = c.args.shelves.now in
    let dates : List ℕ = c.args.dates.now in
    let i : ℕ = c.loop-position.position in
    let C : PathText → Type 0 = Contains (texts_in c.args.rows.now) in
    let within : i < length dates = omega (arith, c.loop-position-test.true) in
    other_front C (suite_texts_at config shelves i (get_or dates i 0)) (texts_from shelves (i + 1) (drop (i + 1) (zip config.suites dates))) c.loop-position.left
    (next C config shelves dates i c.loop-position.left c.requires.dated within c.loop-position.invariant.are)
    (c.in_ok-found.ensures.none c.in_default.is)

pub returns-then-count-left-clause-fit : goal.returns-then-count-left-clause-fit
returns-then-count-left-clause-fit c =
    let config : ConfigValue = c.args.config.now in
    let shelves : ShelvesValue = c.args.shelves.now in
    let dates : List ℕ = c.args.dates.now in
    let i : ℕ = c.loop-position.position in
    let C : PathText → Type 0 = Contains (texts_in c.args.rows.now) in
    let within : i < length dates = omega (arith, c.loop-position-test.true) in
    let found = some_case c.in_ok-found.found _ c.in-Some.count c.in_ok-found.ensures.some c.in-Some.is in
    too_many C (suite_texts_at config shelves i (get_or dates i 0)) (texts_from shelves (i + 1) (drop (i + 1) (zip config.suites dates))) c.loop-position.left
    (next C config shelves dates i c.loop-position.left c.requires.dated within c.loop-position.invariant.are)
    c.in-Some.count found.0 (omega (arith, c.if-count-left.true))

pub loop-position-preserved : goal.loop-position-preserved
loop-position-preserved c =
    let config : ConfigValue = c.args.config.now in
    let shelves : ShelvesValue = c.args.shelves.now in
    let dates : List ℕ = c.args.dates.now in
    let i : ℕ = c.loop-position.position in
    let C : PathText → Type 0 = Contains (texts_in c.args.rows.now) in
    let within : i < length dates = omega (arith, c.loop-position-test.true) in
    let found = some_case c.in_ok-found.found _ c.in-Some.count c.in_ok-found.ensures.some c.in-Some.is in
    record {
      few = omega (arith, c.loop-position.invariant.few);
      are = same_behind C (suite_texts_at config shelves i (get_or dates i 0)) (texts_from shelves (i + 1) (drop (i + 1) (zip config.suites dates))) c.loop-position.left
          (next C config shelves dates i c.loop-position.left c.requires.dated within c.loop-position.invariant.are)
          c.in-Some.count found.1 found.0 (omega (arith, c.if-count-left.false));
      known = some_case c.in_ok-found.found _ c.in-Some.count c.in_ok-found.ensures.known c.in-Some.is c.loop-position.invariant.known;
    }

module _ {P : Type 0} (C : PathText → Type 0) (shelves : ShelvesValue) (suites : List Suite) (dates : List ℕ) (i left : ℕ) (past : length (zip suites dates) ≤ i)
    (h : P ↔ (All C (texts_from shelves i (drop i (zip suites dates))) × (left ≡ length (texts_from shelves i (drop i (zip suites dates)))))) where
  last : P ↔ (All C [] × (left ≡ 0))
  last = subst (λ xs. P ↔ (All C xs × (left ≡ length xs))) (none_left shelves i (zip suites dates) past) h

pub returns-then-left-gt0-clause-fit : goal.returns-then-left-gt0-clause-fit
returns-then-left-gt0-clause-fit c =
    let suites : List Suite = c.args.config.now.suites in
    let dates : List ℕ = c.args.dates.now in
    let i : ℕ = c.loop-position.position in
    let C : PathText → Type 0 = Contains (texts_in c.args.rows.now) in
    let past : length (zip suites dates) ≤ i = omega (arith, length-zip suites dates, c.loop-position-test.false, c.requires.dated) in
    some_more C c.loop-position.left (last C c.args.shelves.now suites dates i c.loop-position.left past c.loop-position.invariant.are) (omega (arith, c.if-left-gt0.true))

pub returns-clause-fit : goal.returns-clause-fit
returns-clause-fit c =
    let suites : List Suite = c.args.config.now.suites in
    let dates : List ℕ = c.args.dates.now in
    let i : ℕ = c.loop-position.position in
    let C : PathText → Type 0 = Contains (texts_in c.args.rows.now) in
    let past : length (zip suites dates) ≤ i = omega (arith, length-zip suites dates, c.loop-position-test.false, c.requires.dated) in
    none_more C c.loop-position.left (last C c.args.shelves.now suites dates i c.loop-position.left past c.loop-position.invariant.are) (omega (arith, c.if-left-gt0.false))
