use Rattle.std.proofs.Common.{◌≡◌, ◌++◌, ◌<◌, List, length, get_or, ap, ◌∙◌, arith}
use Rattle.book.specs.Book.{Book, text_at}
use Rattle.renewing.specs.Renewal.{index_after, renewed_index}
use Rattle.indices.specs.declared.index.IndexPlace.{IndexPlace}
use Rattle.book.proofs.ReadLemmas.{reads_more}
use Rattle.renewing.proofs.RenewedSteps.{gathered_more, mapped_more}
use Rattle.renewing.proofs.renewal.renew_indices.Goals as goal

pub loop-place-preserved : goal.loop-place-preserved
loop-place-preserved g c =
    let k = g.K.Keeper in
    let before = c.args.keeper.now in
    let now = c.loop-place.keeper in
    let one = c.in_ok-index.ensures in
    let places : List IndexPlace = c.args.folder.now.places in
    let i = c.loop-place.place-index in
    let inside : i < length places = omega (arith, ap length c.as_slice-place-items.ensures, c.loop-place-test.true) in
    let here : c.place-item.result ≡ get_or places i c.place-item.result = c.place-item.is ∙ ap (λ (ps : List IndexPlace). get_or ps i c.place-item.result) c.as_slice-place-items.ensures in
    let same : k.is_clean c.renew_index.new.keeper → k.book now ≡ k.book before =
    λ clean. c.loop-place.invariant.reads.same (one.reads.lasts.clean clean) (one.reads.lasts.was_open clean (one.served clean)) in
    record {
      reads = reads_more c.loop-place.invariant.reads one.reads;
      served = λ clean up. one.served clean;
      indices = λ clean.
          mapped_more (index_after (text_at (k.book before)) c.args.amendment.now.shelves.now c.args.amendment.now.steps.now c.args.folder.now) places i c.place-item.result
          c.loop-place.indices.items _ c.in_ok-index.index inside here
          c.in_ok-push.ensures.items (c.loop-place.invariant.indices (one.reads.lasts.clean clean))
          (one.index clean ∙ ap (λ (b : Book). index_after (text_at b) c.args.amendment.now.shelves.now c.args.amendment.now.steps.now c.args.folder.now c.place-item.result) (same clean));
      texts = λ clean.
          gathered_more (renewed_index (text_at (k.book before)) c.args.amendment.now.shelves.now c.args.amendment.now.steps.now c.args.folder.now) places i c.place-item.result
          c.args.texts.now.items c.loop-place.texts.items c.renew_index.new.texts.items inside here
          (one.texts clean ∙ ap (λ (b : Book). c.loop-place.texts.items ++ renewed_index (text_at b) c.args.amendment.now.shelves.now c.args.amendment.now.steps.now c.args.folder.now c.place-item.result) (same clean))
          (c.loop-place.invariant.texts (one.reads.lasts.clean clean));
    }
