use Rattle.std.proofs.Common.{ap}
use Rattle.std.proofs.lemmas.Result.{err_from_is_err_and}
use Rattle.para.specs.Fields.{fields_in}
use Rattle.records.specs.Records.{dsc_within, dsc_fault, dsc_limit, dsc_of, of_fields, unless}
use Rattle.records.proofs.FromFields.{refused_text, read_from, refused_from}
use Rattle.records.proofs.dsc.Dsc.read_within.Goals as goal

pub returns-in_err-paragraph-clause-refused : goal.returns-in_err-paragraph-clause-refused
unfolding dsc_within
returns-in_err-paragraph-clause-refused c =
    let p = err_from_is_err_and c.from_residual.result c.from_residual.ensures.1 in
    rw (p.1, p.2) (refused_text (λ f. unless (dsc_fault c.args.most f) (dsc_of c.args.most f)) (fields_in c.args.text.now dsc_limit) _ c.in_err-paragraph.ensures.refused)

pub returns-clause-read : goal.returns-clause-read
unfolding dsc_within
returns-clause-read c =
    read_from c.dsc_from.result (dsc_fault c.args.most c.in_ok-paragraph.paragraph) (dsc_of c.args.most c.in_ok-paragraph.paragraph) (dsc_within c.args.most c.args.text.now)
    (ap (of_fields (λ f. unless (dsc_fault c.args.most f) (dsc_of c.args.most f))) c.in_ok-paragraph.ensures.read)
    c.dsc_from.ensures.only c.dsc_from.ensures.read

pub returns-clause-refused : goal.returns-clause-refused
unfolding dsc_within
returns-clause-refused c =
    refused_from c.dsc_from.result (dsc_fault c.args.most c.in_ok-paragraph.paragraph) (dsc_of c.args.most c.in_ok-paragraph.paragraph) (dsc_within c.args.most c.args.text.now)
    (ap (of_fields (λ f. unless (dsc_fault c.args.most f) (dsc_of c.args.most f))) c.in_ok-paragraph.ensures.read)
    c.dsc_from.ensures.refused
