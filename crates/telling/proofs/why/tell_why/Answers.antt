use Rattle.std.proofs.Common.{Some, string_bytes, sym, ap, ◌∙◌}
use Rattle.std.specs.Option.{option_map}
use Rattle.std.proofs.lemmas.Bool.{or_from, or_right}
use Rattle.telling.proofs.CourseLemmas.{by_first, told_as, why_of_all, why_of_name, why_of_none}
use Rattle.telling.proofs.why.tell_why.Goals as goal

pub returns-in_default-clause-told : goal.returns-in_default-clause-told
returns-in_default-clause-told g c clean = (
  tt,
  λ bodies apart has.
      told_as _ _ (why_of_all c.args.at (g.K.Keeper.book c.args.keeper.now) (option_map string_bytes c.args.wanted.now) c.args.is_json
      c.in_ok-course.course (c.in_ok-course.ensures.course clean bodies apart has)
      c.new-out.result.items c.push_all_waiting.new.out.items c.new-out.ensures.items c.in_ok-has_waiting.ensures.text
      (ap (option_map string_bytes) c.in_default.is)),
)

pub returns-then-has_judged-clause-told : goal.returns-then-has_judged-clause-told
returns-then-has_judged-clause-told g c clean = (
  tt,
  λ bodies apart has.
      let k = g.K.Keeper in
      let early = c.in_ok-has_judged.ensures.reads.lasts.clean clean in
      told_as _ _ (why_of_name c.args.at (k.book c.args.keeper.now) (option_map string_bytes c.args.wanted.now) c.args.is_json
      c.in_ok-course.course (c.in_ok-course.ensures.course early bodies apart has)
      c.new-out.result.items c.push_all_waiting.new.out.items c.new-out.ensures.items c.in_ok-has_waiting.ensures.text
      c.as_str.result.now (ap (option_map string_bytes) c.in-Some.is ∙ ap Some (sym c.as_str.ensures.value))
      (k.book c.course_of.new.keeper) (c.in_ok-course.ensures.reads.same early (c.in_ok-course.ensures.served early))
      c.push_verdicts.new.out.items (c.in_ok-has_judged.ensures.text clean)
      c.in_ok-has_waiting.has_waiting c.in_ok-has_judged.has_judged c.in_ok-has_waiting.ensures.has_one (c.in_ok-has_judged.ensures.has_one clean)
      (or_right c.in_ok-has_waiting.has_waiting c.in_ok-has_judged.has_judged c.if-has_judged.true)),
)

pub returns-then-has_waiting-clause-told : goal.returns-then-has_waiting-clause-told
returns-then-has_waiting-clause-told g c clean = (
  tt,
  λ bodies apart has.
      let k = g.K.Keeper in
      let early = c.in_ok-has_judged.ensures.reads.lasts.clean clean in
      told_as _ _ (why_of_name c.args.at (k.book c.args.keeper.now) (option_map string_bytes c.args.wanted.now) c.args.is_json
      c.in_ok-course.course (c.in_ok-course.ensures.course early bodies apart has)
      c.new-out.result.items c.push_all_waiting.new.out.items c.new-out.ensures.items c.in_ok-has_waiting.ensures.text
      c.as_str.result.now (ap (option_map string_bytes) c.in-Some.is ∙ ap Some (sym c.as_str.ensures.value))
      (k.book c.course_of.new.keeper) (c.in_ok-course.ensures.reads.same early (c.in_ok-course.ensures.served early))
      c.push_verdicts.new.out.items (c.in_ok-has_judged.ensures.text clean)
      c.in_ok-has_waiting.has_waiting c.in_ok-has_judged.has_judged c.in_ok-has_waiting.ensures.has_one (c.in_ok-has_judged.ensures.has_one clean)
      (by_first c.in_ok-has_waiting.has_waiting c.in_ok-has_judged.has_judged c.if-has_waiting.true)),
)

pub returns-else-has_waiting-clause-told : goal.returns-else-has_waiting-clause-told
returns-else-has_waiting-clause-told g c clean = (
  tt,
  λ bodies apart has.
      let k = g.K.Keeper in
      let early = c.in_ok-has_judged.ensures.reads.lasts.clean clean in
      told_as _ _ (why_of_none c.args.at (k.book c.args.keeper.now) (option_map string_bytes c.args.wanted.now) c.args.is_json
      c.in_ok-course.course (c.in_ok-course.ensures.course early bodies apart has)
      c.new-out.result.items c.push_all_waiting.new.out.items c.new-out.ensures.items c.in_ok-has_waiting.ensures.text
      c.as_str.result.now (ap (option_map string_bytes) c.in-Some.is ∙ ap Some (sym c.as_str.ensures.value))
      (k.book c.course_of.new.keeper) (c.in_ok-course.ensures.reads.same early (c.in_ok-course.ensures.served early))
      c.push_verdicts.new.out.items (c.in_ok-has_judged.ensures.text clean)
      c.in_ok-has_waiting.has_waiting c.in_ok-has_judged.has_judged c.in_ok-has_waiting.ensures.has_one (c.in_ok-has_judged.ensures.has_one clean)
      (or_from c.in_ok-has_waiting.has_waiting c.in_ok-has_judged.has_judged c.if-has_waiting.false c.if-has_judged.false)),
)
