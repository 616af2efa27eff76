use Rattle.std.proofs.Common.{◌≡◌, ◌+◌, ◌++◌, List, length, take, zip, ap, sym, ◌∙◌, arith}
use Rattle.std.specs.Option.{option_map}
use Rattle.std.proofs.lemmas.List.{length_push, take_all}
use Rattle.std.proofs.lemmas.List.Elements.{All-same}
use Rattle.suites.specs.Upload.{IsTextOf}
use Rattle.book.specs.Book.{Book}
use Rattle.book.proofs.Lists.{texts_more}
use Rattle.book.proofs.ReadLemmas.{reads_more, reads_none}
use Rattle.inquiry.specs.Reading.{kept_text, kept_texts}
use Rattle.inquiry.proofs.InquiryLemmas.{kept_more, kept_none, none_before}
use Rattle.inquiry.proofs.reading.texts_of.Goals as goal

pub loop-entry-init : goal.loop-entry-init
loop-entry-init g c = record {
  reads = reads_none c.args.keeper.now;
  served = λ clean up. up;
  count = ap length c.new-texts.ensures.items;
  kept = λ k d h. absurd (omega (arith, h));
  texts = λ clean up.
      let all = kept_texts (g.K.Keeper.book c.args.keeper.now).arrivals c.args.entries.now in
      ap (λ (ts : List _). option_map (λ rest. ts ++ rest) all) c.new-texts.ensures.items ∙ none_before all;
}

pub loop-entry-preserved : goal.loop-entry-preserved
loop-entry-preserved g c =
    let k = g.K.Keeper in
    let before = c.args.keeper.now in
    let entries = c.args.entries.now in
    let i = c.loop-entry.entry-index in
    let e = c.entry-item.result in
    let one = c.in_ok-text.ensures in
    let done = c.loop-entry.texts.items in
    let text = c.in-Some.text in
    record {
      reads = reads_more c.loop-entry.invariant.reads one.reads;
      served = λ clean up. one.served clean (c.loop-entry.invariant.served (one.reads.lasts.clean clean) up);
      count = ap length c.in_ok-push.ensures.items ∙ length_push done text ∙ ap (λ n. n + 1) c.loop-entry.invariant.count;
      kept = texts_more IsTextOf entries done i e text c.loop-entry.invariant.count c.loop-entry-test.true c.entry-item.is c.in_ok-push.ensures.items c.loop-entry.invariant.kept
          (rw c.in-Some.is at one.kept);
      texts = λ clean up.
          let early = one.reads.lasts.clean clean in
          let up_then = one.reads.lasts.was_open clean up in
          let arrivals = (k.book before).arrivals in
          kept_more arrivals entries i e done c.loop-entry-test.true c.entry-item.is (c.loop-entry.invariant.texts early up_then) text c.in_ok-push.ensures.items
          (ap (λ (b : Book). kept_text b.arrivals e) (sym (c.loop-entry.invariant.reads.same early up_then)) ∙ sym (one.text clean) ∙ c.in-Some.is);
    }

pub returns-clause-kept : goal.returns-clause-kept
returns-clause-kept g c =
    let texts = c.loop-entry.texts.items in
    All-same IsTextOf (zip c.args.entries.now texts) (zip (take c.loop-entry.entry-index c.args.entries.now) texts)
    (ap (λ es. zip es texts) (sym (take_all c.loop-entry.entry-index c.args.entries.now c.loop-entry-test.false))) c.loop-entry.invariant.kept
