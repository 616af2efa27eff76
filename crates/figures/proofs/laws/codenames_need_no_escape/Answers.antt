use Rattle.indices.proofs.Paths.{config_names}
use Rattle.figures.proofs.Plain.{Stands, names_stand}
use Rattle.figures.proofs.laws.codenames_need_no_escape.Goals as goal

pub returns : goal.returns
returns c = λ config read s at. (config_names Stands names_stand config read s at).codename
