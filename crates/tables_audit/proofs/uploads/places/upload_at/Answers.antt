use Rattle.std.proofs.Common.{◌∙◌}
use Rattle.tables_audit.proofs.PlacesLemmas.{first_same}
use Rattle.tables_audit.proofs.uploads.places.upload_at.Goals as goal

pub returns : goal.returns
returns c = c.first_at.ensures ∙ first_same c.args.place c.about.result.now c.args.placed.now.all.now c.about.ensures
