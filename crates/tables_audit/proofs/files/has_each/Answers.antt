use Rattle.std.proofs.Common.{List, ap, refl, sym, true≢false, ℕ, ◌&&◌, ◌∙◌, is_some}
use Rattle.std.specs.BTreeMap.{get_by_text}
use Rattle.std.specs.List.{list_all}
use Rattle.tables_audit.proofs.FilesLemmas.{each_there, is_there}
use Rattle.tables_audit.proofs.files.has_each.Goals as goal

pub returns-then-not-contains_key : goal.returns-then-not-contains_key
returns-then-not-contains_key c =
    let test = is_there c.args.paths.now in
    let absent = sym (c.contains_key.ensures ∙ ap (λ (bs : List ℕ). is_some (get_by_text c.args.paths.now bs)) c.as_str.ensures.value) ∙ c.if-not-contains_key.true in
    let not_all = sym c.loop-path.invariant ∙ ap (list_all test) c.in-Some.ensures.steps ∙ ap (λ b. b && list_all test c.next.new.self) absent in (
      λ yes. absurd (true≢false (sym yes)),
      λ each. sym not_all ∙ (each_there c.args.paths.now c.args.pool.now).1 each,
    )

pub loop-path-preserved : goal.loop-path-preserved
loop-path-preserved c =
    let test = is_there c.args.paths.now in
    let present = sym (c.contains_key.ensures ∙ ap (λ (bs : List ℕ). is_some (get_by_text c.args.paths.now bs)) c.as_str.ensures.value) ∙ c.if-not-contains_key.false in
    sym (ap (λ b. b && list_all test c.next.new.self) present) ∙ sym (ap (list_all test) c.in-Some.ensures.steps) ∙ c.loop-path.invariant

pub returns : goal.returns
returns c = (
  λ _. (each_there c.args.paths.now c.args.pool.now).0 (sym c.loop-path.invariant ∙ ap (list_all (is_there c.args.paths.now)) c.in-None.ensures.steps.0),
  λ _. refl,
)
