use Rattle.std.proofs.Common.{◌∙◌, sym, subst}
use Rattle.suites.specs.Upload.{IsUpload}
use Rattle.keep.specs.Scan.{candidate_view, counted}
use Rattle.keep.proofs.UploadLemmas.{complete_upload, upload_made}
use Rattle.keep.proofs.uploads.upload_of.Goals as goal

pub new-requires : goal.new-requires
new-requires c =
    let arrivals = counted c.args.counting c.args.arrivals.now in
    subst IsUpload
    (sym (upload_made arrivals (candidate_view c.args.candidate) c.in_ok-name.ensures c.print-print.ensures c.in_ok-texts.ensures c.entries.ensures))
    (complete_upload arrivals (candidate_view c.args.candidate) c.requires c.args.candidate.read)

pub returns : goal.returns
returns c =
    c.new.ensures
    ∙ upload_made (counted c.args.counting c.args.arrivals.now) (candidate_view c.args.candidate) c.in_ok-name.ensures c.print-print.ensures c.in_ok-texts.ensures c.entries.ensures
