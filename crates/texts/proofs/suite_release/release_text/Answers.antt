use Rattle.std.proofs.Common.{sym, ◌∙◌}
use Rattle.std.proofs.lemmas.Grind.{flat_map-append}
use Rattle.para.specs.Printing.{field_text}
use Rattle.indices.specs.Release.{suite_fields, index_lists, release_text}
use Rattle.texts.proofs.Appended.{two}
use Rattle.texts.proofs.suite_release.release_text.Goals as goal

pub returns : goal.returns
unfolding release_text
returns c =
    two c.new-text.result.items _ _ _ _ c.in_ok-push_suite.ensures c.in_ok-push_lists.ensures
    ∙ rw c.new-text.ensures.items (sym (flat_map-append field_text (suite_fields c.args.suite.now c.args.moment) (index_lists c.args.indices.now)))
