use Rattle.std.proofs.Common.{◌≡◌, Some, inl, inr, sym, ap, ◌∙◌}
use Rattle.book.specs.Book.{Book, shown_past}
use Rattle.history.proofs.Amended.{once_amended, sound_change}
use Rattle.queue.proofs.archive.Archive.amend.Goals as goal

pub apply-requires-clause-sound : goal.apply-requires-clause-sound
apply-requires-clause-sound g c clean up =
    let reads = c.in_ok-texts.ensures.reads in
    sound_change c.args.moment (g.K.Keeper.book c.args.self.now.keeper) (g.K.Keeper.book c.renewed_texts.new.keeper) c.args.shelves
    c.as_slice.result.now c.args.steps c.in_ok-texts.texts.items c.from_vec.result
    (reads.same clean up) c.as_slice.ensures c.from_vec.ensures (c.in_ok-texts.ensures.renewed clean)
    (c.requires.planned (reads.lasts.clean clean) (reads.lasts.was_open clean up))

-- the shelves show what the change leaves
pub hold-requires : goal.hold-requires
hold-requires g c = record {
  shown = λ clean up.
      let reads = c.in_ok-texts.ensures.reads in
      let clean_now = c.in_ok-apply.ensures.lasts.clean clean in
      let up_now = c.in_ok-apply.ensures.lasts.was_open clean up in
      (c.requires.planned (reads.lasts.clean clean_now) (reads.lasts.was_open clean_now up_now)).shown
      ∙ ap (λ (b : Book). shown_past b.shown c.args.steps) (sym (reads.same clean_now up_now))
      ∙ sym (c.in_ok-apply.ensures.shown clean);
}

pub returns-clause-served : goal.returns-clause-served
returns-clause-served g c clean = c.hold.ensures.served clean (c.in_ok-apply.ensures.served (c.hold.ensures.reads.lasts.clean clean))

pub returns-clause-ok : goal.returns-clause-ok
returns-clause-ok g c clean =
    let reads = c.in_ok-texts.ensures.reads in
    let held = c.hold.ensures.reads in
    let clean_made = held.lasts.clean clean in
    let up_made = c.in_ok-apply.ensures.served clean_made in
    let clean_now = c.in_ok-apply.ensures.lasts.clean clean_made in
    let up_now = c.in_ok-apply.ensures.lasts.was_open clean_made up_made in
    once_amended c.args.moment (g.K.Keeper.book c.args.self.now.keeper) (g.K.Keeper.book c.renewed_texts.new.keeper) c.args.steps c.from_vec.result
    (λ book. g.K.Keeper.book c.hold.new.self ≡ book) (reads.same clean_now up_now)
    (λ bodies apart has each. held.same clean (c.hold.ensures.served clean up_made) ∙ c.in_ok-apply.ensures.ok clean_made bodies apart has each)

pub returns-in_err-texts-clause-crash : goal.returns-in_err-texts-clause-crash
returns-in_err-texts-clause-crash g c clean left may = inl (c.in_err-texts.ensures.reads.crash clean left may)

pub returns-in_err-apply-clause-crash : goal.returns-in_err-apply-clause-crash
returns-in_err-apply-clause-crash g c clean left may =
    let reads = c.in_ok-texts.ensures.reads in
    let clean_now = c.in_err-apply.ensures.lasts.clean clean in
    elim (c.in_err-apply.ensures.crash clean left may) [
      | inl before ↦ inl (reads.crash clean_now left before)
      | inr made ↦ inr (
        reads.lasts.was_open clean_now made.0,
        once_amended c.args.moment (g.K.Keeper.book c.args.self.now.keeper) (g.K.Keeper.book c.renewed_texts.new.keeper) c.args.steps c.from_vec.result
            (λ book. left ≡ Some book) (reads.same clean_now made.0) made.1,
      )
    ]

pub returns-clause-crash : goal.returns-clause-crash
returns-clause-crash g c clean left may =
    let reads = c.in_ok-texts.ensures.reads in
    let clean_made = c.hold.ensures.reads.lasts.clean clean in
    let clean_now = c.in_ok-apply.ensures.lasts.clean clean_made in
    elim (c.in_ok-apply.ensures.crash clean_made left (c.hold.ensures.reads.crash clean left may)) [
      | inl before ↦ inl (reads.crash clean_now left before)
      | inr made ↦ inr (
        reads.lasts.was_open clean_now made.0,
        once_amended c.args.moment (g.K.Keeper.book c.args.self.now.keeper) (g.K.Keeper.book c.renewed_texts.new.keeper) c.args.steps c.from_vec.result
            (λ book. left ≡ Some book) (reads.same clean_now made.0) made.1,
      )
    ]
