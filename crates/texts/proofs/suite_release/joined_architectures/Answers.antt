use Rattle.std.proofs.Common.{◌≡◌, ℕ, Bool, ◌||◌, ◌+◌, List, [], ◌∷◌, ◌++◌, take, not, string_bytes, sym, ap, ◌∙◌, arith}
use Rattle.std.specs.List.{join_with_byte}
use Rattle.std.proofs.lemmas.List.{take_more, take_all}
use Rattle.para.specs.Bytes.{is_nil}
use Rattle.indices.specs.Release.{architectures_text, is_source}
use Rattle.texts.proofs.Joined.{behind_binary, join_binary, begun_binary, binary}
use Rattle.texts.proofs.suite_release.joined_architectures.Goals as goal

pub loop-name-preserved : goal.loop-name-preserved
loop-name-preserved c =
    let names : List (List ℕ) = c.args.names.now in
    let i : ℕ = c.loop-name.name-index in
    let name : List ℕ = c.name-item.result in
    let before : List (List ℕ) = binary (take i names) in
    let more : take (i + 1) names ≡ take i names ++ name ∷ [] =
    take_more names i name (omega arith) ∙ ap (λ (n : List ℕ). take i names ++ n ∷ []) (sym c.name-item.is) in
    record {
      joined = c.in_ok-has_begun.ensures.1
          ∙ ap (λ (n : List ℕ). string_bytes c.loop-name.joined ++ behind_binary (is_source n) c.loop-name.has_begun n) c.as_str.ensures
          ∙ ap (λ (b : Bool). string_bytes c.loop-name.joined ++ behind_binary (is_source name) b name) c.loop-name.invariant.begun
          ∙ ap (λ (bs : List ℕ). bs ++ behind_binary (is_source name) (not (is_nil before)) name) c.loop-name.invariant.joined
          ∙ sym (join_binary (take i names) name)
          ∙ ap (λ (ns : List (List ℕ)). join_with_byte 32 (binary ns)) (sym more);
      begun = c.in_ok-has_begun.ensures.0
          ∙ ap (λ (n : List ℕ). c.loop-name.has_begun || not (is_source n)) c.as_str.ensures
          ∙ ap (λ (b : Bool). b || not (is_source name)) c.loop-name.invariant.begun
          ∙ begun_binary (take i names) name
          ∙ ap (λ (ns : List (List ℕ)). not (is_nil (binary ns))) (sym more);
    }

pub returns : goal.returns
unfolding architectures_text
returns c =
    let names : List (List ℕ) = c.args.names.now in
    let all : take c.loop-name.name-index names ≡ names = take_all _ _ (omega arith) in
    c.loop-name.invariant.joined ∙ ap (λ (ns : List (List ℕ)). join_with_byte 32 (binary ns)) all
