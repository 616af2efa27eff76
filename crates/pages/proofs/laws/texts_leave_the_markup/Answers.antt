use Rattle.std.proofs.Common.{codes}
use Rattle.suites.specs.Codenames.{codename_at}
use Rattle.pages.specs.Frame.{foot_text, script_text, filter_text}
use Rattle.pages.specs.IndexPage.{index_page}
use Rattle.pages.specs.Markup.{item_form}
use Rattle.pages.specs.SuitePage.{item_row, rows, shown, suite_page}
use Rattle.pages.specs.UploadsPage.{uploads_page}
use Rattle.pages.specs.declared.index.TheConstants as index_constants
use Rattle.pages.specs.declared.suite.TheConstants as suite_constants
use Rattle.pages.specs.declared.table.TheConstants.{TABLE_END}
use Rattle.pages.specs.declared.uploads.TheConstants as uploads_constants
use Rattle.pages.proofs.Alike.{itself, both, heads, of_forms, item_rows, summaries, waiting_parts, judged_parts, keys, all_sections}
use Rattle.pages.proofs.laws.texts_leave_the_markup.Goals as goal

pub returns-clause-suite : goal.returns-clause-suite
unfolding suite_page rows
returns-clause-suite c config other shelves others suite place said h =
    (both (both (both (both (both (both (both (heads config other (codename_at config.suites suite) (codename_at other.suites place) suite_constants.LINKS.now)
    (summaries config other shelves others suite place said)) (itself suite_constants.FILTER_FIELD.now)) (itself suite_constants.TABLE_HEAD.now))
    (of_forms item_row item_form item_rows (shown shelves suite) (shown others place) h)) (itself TABLE_END.now))
    (itself filter_text)) (itself foot_text)).same

pub returns-clause-index : goal.returns-clause-index
unfolding index_page
returns-clause-index c site config other shelves others dates moments key another here h =
    (both (both (both (both (both (heads config other (codes "Suites") (codes "Suites") index_constants.LINKS.now) (itself index_constants.HINT.now)) (keys key another here))
    (all_sections site shelves others dates moments key another 0 config.suites other.suites h)) (itself script_text)) (itself foot_text)).same

pub returns-clause-uploads : goal.returns-clause-uploads
unfolding uploads_page
returns-clause-uploads c site config other waiting others judged changed h k =
    (both (both (both (heads config other (codes "Uploads") (codes "Uploads") uploads_constants.LINKS.now) (waiting_parts site waiting others h))
    (judged_parts site judged changed k)) (itself foot_text)).same
