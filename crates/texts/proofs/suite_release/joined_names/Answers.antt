use Rattle.std.proofs.Common.{◌≡◌, ℕ, Bool, ◌+◌, List, [], ◌∷◌, ◌++◌, take, not, string_bytes, sym, ap, ◌∙◌, arith}
use Rattle.std.specs.List.{join_with_byte}
use Rattle.std.proofs.lemmas.List.{take_more}
use Rattle.para.specs.Bytes.{is_nil}
use Rattle.texts.proofs.Joined.{behind, join_more, not_nil}
use Rattle.texts.proofs.suite_release.joined_names.Goals as goal

pub loop-name-preserved : goal.loop-name-preserved
loop-name-preserved c =
    let names : List (List ℕ) = c.args.names.now in
    let i : ℕ = c.loop-name.name-index in
    let name : List ℕ = c.name-item.result in
    let more : take (i + 1) names ≡ take i names ++ name ∷ [] =
    take_more names i name (omega arith) ∙ ap (λ (n : List ℕ). take i names ++ n ∷ []) (sym c.name-item.is) in
    record {
      joined = c.in_ok-push_name.ensures
          ∙ ap (λ (n : List ℕ). string_bytes c.loop-name.joined ++ behind c.loop-name.has_begun n) c.as_str.ensures
          ∙ ap (λ (b : Bool). string_bytes c.loop-name.joined ++ behind b name) c.loop-name.invariant.begun
          ∙ ap (λ (bs : List ℕ). bs ++ behind (not (is_nil (take i names))) name) c.loop-name.invariant.joined
          ∙ sym (join_more (take i names) name)
          ∙ ap (join_with_byte 32) (sym more);
      begun = not_nil (take i names) name ∙ ap (λ (ns : List (List ℕ)). not (is_nil ns)) (sym more);
    }
