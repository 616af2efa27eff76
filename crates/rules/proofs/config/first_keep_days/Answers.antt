use Rattle.std.proofs.Common.{◌≡◌, List, [], ◌∷◌, codes, get_or, slice_get, None, refl}
use Rattle.para.specs.Fields.{Fields}
use Rattle.rules.specs.Paragraphs.{days, first_line}
use Rattle.rules.proofs.config.first_keep_days.Goals as goal

none_days : (ps : List Fields) → None ≡ slice_get ps 0 → None ≡ days (codes "KeepDays") (get_or ps 0 [])
unfolding days first_line
none_days [] none = refl
none_days (p ∷ ps) none = cc

pub returns-in-None : goal.returns-in-None
returns-in-None c = none_days c.args.paragraphs.now c.in-None.ensures.value
