use Rattle.std.proofs.Common.{◌*◌, List, ℕ, drop, length, take, ap, ◌∙◌}
use Rattle.std.proofs.lemmas.List.{drop_min, take_min}
use Rattle.book.proofs.piece.piece_of.Goals as goal

pub returns : goal.returns
returns c =
    let body = c.args.body.now in
    let rest = c.split_at.result.1.now in
    let before = ap (λ n. drop n body) c.min.ensures ∙ drop_min (65536 * c.args.number) body in
    let piece = ap (λ n. take n rest) c.min-2.ensures ∙ take_min 65536 rest in
    let bytes = c.in_ok-from_slice.ensures.items ∙ c.split_at-2.ensures.front ∙ piece ∙ ap (take 65536) (c.split_at.ensures.back ∙ before) in
    ap (λ (bytes : List ℕ). record { size = length body; bytes = bytes }) bytes
