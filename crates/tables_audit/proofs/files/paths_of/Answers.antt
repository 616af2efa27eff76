use Rattle.std.proofs.Common.{List, Some, bytes_eq, cond, refl, subst, ℕ, ◌≡◌, ◌∙◌}
use Rattle.std.specs.BTreeMap.{get_by_text}
use Rattle.std.specs.String.{string_bytes}
use Rattle.suites.proofs.TextChanges.{text_step}
use Rattle.tables.specs.declared.rows.File.{File}
use Rattle.tables_audit.proofs.FilesLemmas.{path_more}
use Rattle.tables_audit.proofs.files.paths_of.Goals as goal

pub loop-file-preserved : goal.loop-file-preserved
loop-file-preserved c =
    let file = c.loop-file-item.result.1 in
    path_more c.args.files.now c.loop-file.file-index c.loop-file-item.result c.loop-file.paths c.insert.new.self c.loop-file-test.true c.loop-file.invariant
    (subst (λ (f : ℕ × File). (path : List ℕ) → get_by_text c.insert.new.self path ≡ cond (bytes_eq f.1.path path) (Some f.1.body) (get_by_text c.loop-file.paths path)) c.loop-file-item.is
    (text_step c.loop-file.paths c.insert.new.self (Some file.body) file.path (λ _. Some file.body) (string_bytes c.in_ok-path.path) c.in_ok-insert.ensures.updates
    (c.in_ok-path.ensures.ok ∙ c.as_str.ensures) refl))
