use Rattle.std.proofs.Common.{List, codes, refl, string_bytes, ℕ, ◌++◌}
use Rattle.texts.proofs.Appended.{two}
use Rattle.pages.specs.Escapes.{escaped}
use Rattle.pages.specs.IndexPage.{key_value, key_link, known_key}
use Rattle.pages.specs.declared.index.TheConstants.{SIGNED, KEYRINGS}
use Rattle.pages.proofs.Appends.{at_last}
use Rattle.pages.proofs.index.push_known_key.Goals as goal

pub returns : goal.returns
unfolding known_key
returns c =
    let out : List ℕ = string_bytes c.args.out.now in
    let text1 : List ℕ = SIGNED.now in
    let text2 : List ℕ = key_link (key_value c.args.key.now) in
    let text3 : List ℕ = codes ", as <code>" in
    let text4 : List ℕ = KEYRINGS.now in
    let text5 : List ℕ = escaped c.args.key.now.name.now in
    let text6 : List ℕ = codes "</code>.</p>\n" in
    let part2 = two out text1 text2 _ _ c.in_ok-push_markup.ensures c.in_ok-push_key_link.ensures in
    let part3 = two out (text1 ++ text2) text3 _ _ part2 c.in_ok-push_markup-2.ensures in
    let part4 = two out (text1 ++ text2 ++ text3) text4 _ _ part3 c.in_ok-push_markup-3.ensures in
    let part5 = two out (text1 ++ text2 ++ text3 ++ text4) text5 _ _ part4 c.in_ok-push_text.ensures in
    at_last c.push_markup-4.result out _ _ (text1 ++ text2 ++ text3 ++ text4 ++ text5) text6 _ part5 c.push_markup-4.ensures
    (refl)
