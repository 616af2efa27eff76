use Rattle.std.proofs.Common.{◌≡◌, ◌/◌, ◌≤◌, pos, to_z, of_z, arith, ◌∙◌, refl}
use Rattle.std.specs.Int.{w16}
use Rattle.indices.specs.Calendar.{year_of}
use Rattle.texts.proofs.Days.{shown, year_small, back}
use Rattle.texts.proofs.date.year.Goals as goal

pub overflow_cast-result : goal.overflow_cast-result
overflow_cast-result c =
    let found = shown c.args.time c.args.moment c.requires in
    let small : year_of (c.args.moment / 86400) ≤ 9999 = year_small c.args.time.date _ found.year in
    let same : to_z w16 (of_z w16 c.year.result) ≡ pos (year_of (c.args.moment / 86400)) = back w16 _ _ (c.year.ensures ∙ found.year) (omega arith) in
    rw same (tt, omega arith)

pub returns : goal.returns
returns c =
    let found = shown c.args.time c.args.moment c.requires in
    let small : year_of (c.args.moment / 86400) ≤ 9999 = year_small c.args.time.date _ found.year in
    let same : to_z w16 (of_z w16 c.year.result) ≡ pos (year_of (c.args.moment / 86400)) = back w16 _ _ (c.year.ensures ∙ found.year) (omega arith) in
    rw same refl
