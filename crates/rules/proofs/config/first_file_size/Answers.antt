use Rattle.std.proofs.Common.{◌≡◌, List, [], ◌∷◌, codes, get_or, slice_get, None, refl}
use Rattle.para.specs.Fields.{Fields}
use Rattle.rules.specs.Paragraphs.{mebibytes}
use Rattle.rules.proofs.config.first_file_size.Goals as goal

none_sized : (ps : List Fields) → None ≡ slice_get ps 0 → None ≡ mebibytes (codes "MaxFileSize") (get_or ps 0 [])
unfolding mebibytes
none_sized [] none = refl
none_sized (p ∷ ps) none = cc

pub returns-in-None : goal.returns-in-None
returns-in-None c = none_sized c.args.paragraphs.now c.in-None.ensures.value
