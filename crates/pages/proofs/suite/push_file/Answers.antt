use Rattle.std.proofs.Common.{List, ap₂, codes, string_bytes, ℕ, ◌++◌, ◌∙◌}
use Rattle.texts.proofs.Appended.{two}
use Rattle.pages.specs.Escapes.{escaped}
use Rattle.pages.specs.SuitePage.{file_link, file_text}
use Rattle.pages.proofs.Appends.{at_last}
use Rattle.pages.proofs.suite.push_file.Goals as goal

pub returns : goal.returns
unfolding file_text
returns c =
    let out : List ℕ = string_bytes c.args.out.now in
    let text1 : List ℕ = codes "<div class=\"name\">" in
    let text2 : List ℕ = file_link c.as_str.result.now in
    let text3 : List ℕ = codes " <span class=\"dim\">" in
    let text4 : List ℕ = escaped c.as_str-2.result.now in
    let text5 : List ℕ = codes "</span></div>" in
    let part2 = two out text1 text2 _ _ c.in_ok-push_markup.ensures c.in_ok-push_file_link.ensures in
    let part3 = two out (text1 ++ text2) text3 _ _ part2 c.in_ok-push_markup-2.ensures in
    let part4 = two out (text1 ++ text2 ++ text3) text4 _ _ part3 c.in_ok-push_text.ensures in
    at_last c.push_markup-3.result out _ _ (text1 ++ text2 ++ text3 ++ text4) text5 _ part4 c.push_markup-3.ensures
    (ap₂ (λ (path size : List ℕ). text1 ++ file_link path ++ text3 ++ escaped size ++ text5) c.as_str.ensures (c.as_str-2.ensures.value ∙ c.in_ok-size.ensures))
