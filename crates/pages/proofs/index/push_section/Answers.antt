use Rattle.std.proofs.Common.{List, ap, codes, option_map, string_bytes, ℕ, ◌++◌}
use Rattle.texts.proofs.Appended.{two}
use Rattle.pages.specs.IndexPage.{key_value, name_text, description_text, state_text, deb_lines, sources_text, section}
use Rattle.pages.proofs.Appends.{at_last}
use Rattle.pages.proofs.index.push_section.Goals as goal

pub returns : goal.returns
unfolding section
returns c =
    let out : List ℕ = string_bytes c.args.out.now in
    let text1 : List ℕ = codes "<section class=\"suite\">\n" in
    let text2 : List ℕ = name_text c.args.site c.as_str.result.now c.args.suite.now.suite in
    let text3 : List ℕ = description_text c.args.suite.now.description in
    let text4 : List ℕ = state_text c.args.shelves.now c.args.dates.now c.args.position c.args.suite.now in
    let text5 : List ℕ = deb_lines (option_map key_value c.args.key.now) c.args.suite.now in
    let text6 : List ℕ = sources_text (option_map key_value c.args.key.now) c.args.suite.now in
    let text7 : List ℕ = codes "</section>\n" in
    let part2 = two out text1 text2 _ _ c.in_ok-push_markup.ensures c.in_ok-push_name.ensures in
    let part3 = two out (text1 ++ text2) text3 _ _ part2 c.in_ok-push_description.ensures in
    let part4 = two out (text1 ++ text2 ++ text3) text4 _ _ part3 c.in_ok-push_state.ensures in
    let part5 = two out (text1 ++ text2 ++ text3 ++ text4) text5 _ _ part4 c.in_ok-push_deb_lines.ensures in
    let part6 = two out (text1 ++ text2 ++ text3 ++ text4 ++ text5) text6 _ _ part5 c.in_ok-push_sources.ensures in
    at_last c.push_markup-2.result out _ _ (text1 ++ text2 ++ text3 ++ text4 ++ text5 ++ text6) text7 _ part6 c.push_markup-2.ensures
    (ap (λ (name : List ℕ). text1 ++ name_text c.args.site name c.args.suite.now.suite ++ text3 ++ text4 ++ text5 ++ text6 ++ text7) c.as_str.ensures)
