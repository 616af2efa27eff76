use Rattle.std.proofs.Common.{List, codes, refl, string_bytes, ℕ, ◌++◌}
use Rattle.texts.proofs.Appended.{two}
use Rattle.pages.specs.Sites.{upload_name}
use Rattle.pages.specs.UploadsPage.{upload_cell}
use Rattle.pages.proofs.Appends.{at_last}
use Rattle.pages.proofs.uploads.push_upload_cell.Goals as goal

pub returns : goal.returns
unfolding upload_cell
returns c =
    let out : List ℕ = string_bytes c.args.out.now in
    let text1 : List ℕ = codes "<td class=\"name\">" in
    let text2 : List ℕ = upload_name c.args.site c.args.name.now in
    let text3 : List ℕ = codes "</td>" in
    let part2 = two out text1 text2 _ _ c.in_ok-push_markup.ensures c.in_ok-push_upload_name.ensures in
    at_last c.push_markup-2.result out _ _ (text1 ++ text2) text3 _ part2 c.push_markup-2.ensures
    (refl)
