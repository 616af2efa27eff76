use Rattle.tables_audit.proofs.PlacesLemmas.{added, not_added}
use Rattle.tables_audit.proofs.uploads.places.add.Goals as goal

pub returns-in_ok-push-in-Some : goal.returns-in_ok-push-in-Some
returns-in_ok-push-in-Some c =
    added c.args.placed.now.items (record { place = c.in-Some.place; upload = c.args.upload }) c.args.upload.now.place c.in-Some.is c.in_ok-push-in-Some.ensures.items

pub returns-in-None : goal.returns-in-None
returns-in-None c = not_added c.args.placed.now.items c.args.upload.now c.args.upload.now.place c.in-None.is
