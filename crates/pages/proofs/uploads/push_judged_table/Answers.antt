use Rattle.std.proofs.Common.{List, ap, codes, length, reverse, string_bytes, ℕ, ◌++◌}
use Rattle.std.specs.List.{flat_map}
use Rattle.book.specs.declared.change.Judgement.{Judgement}
use Rattle.texts.proofs.Appended.{two}
use Rattle.pages.specs.Sites.{more_text}
use Rattle.pages.specs.UploadsPage.{judged_row, judged_table}
use Rattle.pages.specs.declared.table.TheConstants.{TABLE_END}
use Rattle.pages.specs.declared.uploads.TheConstants.{JUDGED_HEAD}
use Rattle.pages.proofs.Appends.{at_last}
use Rattle.pages.proofs.uploads.push_judged_table.Goals as goal

pub returns : goal.returns
unfolding judged_table
returns c =
    let out : List ℕ = string_bytes c.args.out.now in
    let text1 : List ℕ = JUDGED_HEAD.now in
    let text2 : List ℕ = flat_map (judged_row c.args.site) (reverse c.last_rows.result.now) in
    let text3 : List ℕ = TABLE_END.now in
    let text4 : List ℕ = more_text c.args.site (codes "verdicts") (length c.args.judged.now) in
    let part2 = two out text1 text2 _ _ c.in_ok-push_markup.ensures c.in_ok-push_all_judged.ensures in
    let part3 = two out (text1 ++ text2) text3 _ _ part2 c.in_ok-push_markup-2.ensures in
    at_last c.push_more.result out _ _ (text1 ++ text2 ++ text3) text4 _ part3 c.push_more.ensures
    (ap (λ (js : List Judgement). text1 ++ flat_map (judged_row c.args.site) js ++ text3 ++ text4) c.last_rows.ensures)
