use Rattle.std.proofs.Common.{ap, ◌∙◌, sym, ℕ, List, [], ◌∷◌, ◌++◌, map, take, get_or, Bor, Vec, Global, arith}
use Rattle.std.proofs.lemmas.List.{map-append, append-nil}
use Rattle.records.proofs.Different.{texts}
use Rattle.lists.specs.Lists.{asked_by_lines, bytes_of}
use Rattle.lists.specs.declared.request.Request.{Request}
use Rattle.lists.proofs.ListLemmas.{one_more, single_none, single_some}
use Rattle.lists.proofs.list.requests_of.Goals as goal
use Rattle.lists.proofs.list.requests_of.Goals.{in-Some+in_ok-push, in_default}

pub loop-line-preserved : goal.loop-line-preserved
loop-line-preserved c =
    let ls : List (Bor (List ℕ)) = c.args.lines.now in
    let i : ℕ = c.loop-line.line-index in
    let d : Bor (List ℕ) = record { ref_ptr = (0, 0); now = [] } in
    elim c.match-asked.branch [
      | in-Some+in_ok-push w ↦
          ap (λ (v : Vec (Request (Bor (List ℕ)) (Bor (List ℕ)) (Unit {0})) Global). map bytes_of v.items) w.requests-is ∙ ap (map bytes_of) w.in_ok-push.ensures.items
          ∙ map-append bytes_of c.loop-line.requests.items (w.in-Some.request ∷ [])
          ∙ (λ k. c.loop-line.invariant k ++ bytes_of w.in-Some.request ∷ [])
          ∙ ap (λ rs. asked_by_lines (texts (take i ls)) ++ rs) (sym (single_some (get_or ls i d).now (bytes_of w.in-Some.request) w.in-Some.ensures))
          ∙ sym (one_more ls i d (omega arith))
      | in_default w ↦
          ap (λ (v : Vec (Request (Bor (List ℕ)) (Bor (List ℕ)) (Unit {0})) Global). map bytes_of v.items) w.requests-is ∙ c.loop-line.invariant
          ∙ sym (append-nil (asked_by_lines (texts (take i ls))))
          ∙ ap (λ rs. asked_by_lines (texts (take i ls)) ++ rs) (sym (single_none (get_or ls i d).now w.in_default.ensures))
          ∙ sym (one_more ls i d (omega arith))
    ]
