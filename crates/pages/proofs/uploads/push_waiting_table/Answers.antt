use Rattle.std.proofs.Common.{List, ap, codes, length, string_bytes, ℕ, ◌++◌}
use Rattle.std.specs.List.{flat_map}
use Rattle.book.specs.declared.change.Waiting.{Waiting}
use Rattle.texts.proofs.Appended.{two}
use Rattle.pages.specs.Sites.{more_text}
use Rattle.pages.specs.UploadsPage.{waiting_row, waiting_table}
use Rattle.pages.specs.declared.table.TheConstants.{TABLE_END}
use Rattle.pages.specs.declared.uploads.TheConstants.{WAITING_HEAD}
use Rattle.pages.proofs.Appends.{at_last}
use Rattle.pages.proofs.uploads.push_waiting_table.Goals as goal

pub returns : goal.returns
unfolding waiting_table
returns c =
    let out : List ℕ = string_bytes c.args.out.now in
    let text1 : List ℕ = WAITING_HEAD.now in
    let text2 : List ℕ = flat_map (waiting_row c.args.site) c.first_rows.result.now in
    let text3 : List ℕ = TABLE_END.now in
    let text4 : List ℕ = more_text c.args.site (codes "queue") (length c.args.waiting.now) in
    let part2 = two out text1 text2 _ _ c.in_ok-push_markup.ensures c.in_ok-push_all_waiting.ensures in
    let part3 = two out (text1 ++ text2) text3 _ _ part2 c.in_ok-push_markup-2.ensures in
    at_last c.push_more.result out _ _ (text1 ++ text2 ++ text3) text4 _ part3 c.push_more.ensures
    (ap (λ (ws : List Waiting). text1 ++ flat_map (waiting_row c.args.site) ws ++ text3 ++ text4) c.first_rows.ensures)
