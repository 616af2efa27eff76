use Rattle.std.proofs.Common.{List, ap₂, codes, option_map, string_bytes, ℕ, ◌++◌}
use Rattle.std.specs.List.{flat_map}
use Rattle.texts.proofs.Appended.{two}
use Rattle.pages.specs.IndexPage.{key_value, types_text, word_text, field_text, sources_text}
use Rattle.pages.specs.declared.index.TheConstants.{URL}
use Rattle.pages.proofs.Appends.{at_last}
use Rattle.pages.proofs.index.push_sources.Goals as goal

pub returns : goal.returns
unfolding sources_text
returns c =
    let out : List ℕ = string_bytes c.args.out.now in
    let text1 : List ℕ = codes "<pre>Types: " in
    let text2 : List ℕ = types_text c.args.suite.now in
    let text3 : List ℕ = codes "\nURIs: " in
    let text4 : List ℕ = URL.now in
    let text5 : List ℕ = codes "\nSuites:" in
    let text6 : List ℕ = word_text c.as_str.result.now in
    let text7 : List ℕ = codes "\nComponents:" in
    let text8 : List ℕ = flat_map word_text c.as_slice.result.now in
    let text9 : List ℕ = codes "\n" in
    let text10 : List ℕ = field_text (option_map key_value c.args.key.now) in
    let text11 : List ℕ = codes "\n</pre>\n" in
    let part2 = two out text1 text2 _ _ c.in_ok-push_markup.ensures c.in_ok-push_types.ensures in
    let part3 = two out (text1 ++ text2) text3 _ _ part2 c.in_ok-push_markup-2.ensures in
    let part4 = two out (text1 ++ text2 ++ text3) text4 _ _ part3 c.in_ok-push_markup-3.ensures in
    let part5 = two out (text1 ++ text2 ++ text3 ++ text4) text5 _ _ part4 c.in_ok-push_markup-4.ensures in
    let part6 = two out (text1 ++ text2 ++ text3 ++ text4 ++ text5) text6 _ _ part5 c.in_ok-push_word.ensures in
    let part7 = two out (text1 ++ text2 ++ text3 ++ text4 ++ text5 ++ text6) text7 _ _ part6 c.in_ok-push_markup-5.ensures in
    let part8 = two out (text1 ++ text2 ++ text3 ++ text4 ++ text5 ++ text6 ++ text7) text8 _ _ part7 c.in_ok-push_words.ensures in
    let part9 = two out (text1 ++ text2 ++ text3 ++ text4 ++ text5 ++ text6 ++ text7 ++ text8) text9 _ _ part8 c.in_ok-push_markup-6.ensures in
    let part10 = two out (text1 ++ text2 ++ text3 ++ text4 ++ text5 ++ text6 ++ text7 ++ text8 ++ text9) text10 _ _ part9 c.in_ok-push_field.ensures in
    at_last c.push_markup-7.result out _ _ (text1 ++ text2 ++ text3 ++ text4 ++ text5 ++ text6 ++ text7 ++ text8 ++ text9 ++ text10) text11 _ part10 c.push_markup-7.ensures
    (ap₂ (λ (name : List ℕ) (names : List (List ℕ)). text1 ++ text2 ++ text3 ++ text4 ++ text5 ++ word_text name ++ text7 ++ flat_map word_text names ++ text9 ++ text10 ++ text11) c.as_str.ensures c.as_slice.ensures)
