use Rattle.std.proofs.Common.{◌≡◌, ◌+◌, ◌++◌, ◌∷◌, [], map, take, get_or, ap, ◌∙◌, sym, subst}
use Rattle.std.proofs.lemmas.List.{append_assoc, map-append, take_more, take_all}
use Rattle.suites.specs.Pool.{pair_of}
use Rattle.keep.specs.Scan.{PoolHas}
use Rattle.keep.proofs.pool.add_files.Goals as goal

pub loop-file-preserved : goal.loop-file-preserved
loop-file-preserved c = λ done has.
    let so_far = done ++ map pair_of (take c.loop-file.file-index c.args.added.now) in
    let more : so_far ++ pair_of c.file-item.result ∷ [] ≡ done ++ map pair_of (take (c.loop-file.file-index + 1) c.args.added.now) =
    append_assoc done (map pair_of (take c.loop-file.file-index c.args.added.now)) (pair_of c.file-item.result ∷ [])
    ∙ ap (λ fs. done ++ fs) (
    ap (λ f. map pair_of (take c.loop-file.file-index c.args.added.now) ++ pair_of f ∷ []) c.file-item.is
    ∙ sym (map-append pair_of (take c.loop-file.file-index c.args.added.now) (get_or c.args.added.now c.loop-file.file-index c.file-item.result ∷ []))
    ∙ ap (map pair_of) (sym (take_more c.args.added.now c.loop-file.file-index c.file-item.result c.loop-file-test.true))
    ) in
    subst (PoolHas c.args.arrivals.now c.args.files.now c.add_file.new.bodies.items) more
    (c.in_ok-add_file.ensures so_far (c.loop-file.invariant done has))

pub returns : goal.returns
returns c = λ done has.
    subst (λ fs. PoolHas c.args.arrivals.now c.args.files.now c.loop-file.bodies.items (done ++ map pair_of fs)) (take_all c.loop-file.file-index c.args.added.now c.loop-file-test.false)
    (c.loop-file.invariant done has)
