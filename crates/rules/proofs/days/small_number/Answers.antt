use Rattle.rules.proofs.Numbers.{no_days, too_many, some_days}
use Rattle.rules.proofs.days.small_number.Goals as goal

pub returns-in-Err : goal.returns-in-Err
returns-in-Err c = no_days c.args.digits.now c.requires c.in-Err.ensures.value.0

pub returns-then-count-gt-MOST_DAYS : goal.returns-then-count-gt-MOST_DAYS
returns-then-count-gt-MOST_DAYS c = too_many c.in-Ok.count c.args.digits.now c.requires c.in-Ok.ensures.value.0 c.if-count-gt-MOST_DAYS.true

pub returns-else-count-gt-MOST_DAYS : goal.returns-else-count-gt-MOST_DAYS
returns-else-count-gt-MOST_DAYS c = some_days c.in-Ok.count c.args.digits.now c.requires c.in-Ok.ensures.value.0 c.if-count-gt-MOST_DAYS.false
