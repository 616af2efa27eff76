use Rattle.std.proofs.Common.{◌∙◌, sym, ap, length, rules}
use Rattle.std.proofs.lemmas.Slice.Zip.{zip_turn, zip_end, length-zip}
use Rattle.std.specs.List.{filter, zip}
use Rattle.suites.specs.Upload.{has_suffix, Part}
use Rattle.suites.specs.Judging.{part_of}
use Rattle.suites.proofs.Taken.{taken, left_out, zipped_at, zipped_below, all_zipped}
use Rattle.suites.proofs.upload.parts_of.Goals as goal

pub loop-entry-preserved-in-Continue-1 : goal.loop-entry-preserved-in-Continue-1
loop-entry-preserved-in-Continue-1 c =
    let turn = zip_turn c.args.entries.now c.args.texts.now c.loop-entry.yielded c.into_iter-entry-iterator.result c.loop-entry.entry-iterator c.next.new.self c.next.result (search rules) (search rules) c.loop-entry.yielded_by (c.in-Some.entry, c.in-Some.text) c.in-Some.is c.next.ensures.steps in
    taken part_of (λ p. has_suffix c.args.ending.now p.0.name) (zip c.args.entries.now c.args.texts.now) c.loop-entry.yielded (c.in-Some.entry, c.in-Some.text) (c.in-Some.entry.now, c.in-Some.text.now)
    c.loop-entry.parts.items c.push.new.self.items (record { entry = c.in-Some.entry; text = c.as_slice.result }) c.loop-entry.invariant
    (zipped_below _ _ _ turn.0 turn.1) (zipped_at c.args.entries.now c.args.texts.now (length c.loop-entry.yielded) c.in-Some.entry.now c.in-Some.text.now turn.0 turn.1 (turn.2 _) (turn.3 _))
    (search rules) c.in_ok-push.ensures.items (search rules)

pub loop-entry-preserved : goal.loop-entry-preserved
loop-entry-preserved c =
    let turn = zip_turn c.args.entries.now c.args.texts.now c.loop-entry.yielded c.into_iter-entry-iterator.result c.loop-entry.entry-iterator c.next.new.self c.next.result (search rules) (search rules) c.loop-entry.yielded_by (c.in-Some.entry, c.in-Some.text) c.in-Some.is c.next.ensures.steps in
    left_out part_of (λ p. has_suffix c.args.ending.now p.0.name) (zip c.args.entries.now c.args.texts.now) c.loop-entry.yielded (c.in-Some.entry, c.in-Some.text) (c.in-Some.entry.now, c.in-Some.text.now)
    c.loop-entry.parts.items c.loop-entry.invariant
    (zipped_below _ _ _ turn.0 turn.1) (zipped_at c.args.entries.now c.args.texts.now (length c.loop-entry.yielded) c.in-Some.entry.now c.in-Some.text.now turn.0 turn.1 (turn.2 _) (turn.3 _))
    (search rules)

pub returns : goal.returns
returns c =
    let ends = zip_end c.args.entries.now c.args.texts.now c.loop-entry.yielded c.into_iter-entry-iterator.result c.loop-entry.entry-iterator c.next.new.self c.next.result (search rules) (search rules) c.loop-entry.yielded_by c.in-None.is c.next.ensures.steps in
    c.loop-entry.invariant ∙ ap (filter (λ (p : Part). has_suffix c.args.ending.now p.0.name)) (all_zipped c.args.entries.now c.args.texts.now (length c.loop-entry.yielded) (ends ∙ sym (length-zip c.args.entries.now c.args.texts.now)))
