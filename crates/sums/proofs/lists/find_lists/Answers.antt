use Rattle.std.proofs.Common.{◌∙◌, sym, map}
use Rattle.para.specs.Field.{field_value}
use Rattle.sums.proofs.Refusals.{Three, no_sha1, no_sha256, no_files, has_text, rest, lines_are}
use Rattle.sums.proofs.lists.find_lists.Goals as goal

pub returns-in_default : goal.returns-in_default
returns-in_default c = no_sha1 c.args.most c.args.kind c.args.paragraph.now (sym c.in_default.ensures)

pub returns-in_default-get : goal.returns-in_default-get
returns-in_default-get c = no_sha256 c.args.most c.args.kind c.args.paragraph.now (sym c.in_default-get.ensures)

pub returns-in_default-get-2 : goal.returns-in_default-get-2
returns-in_default-get-2 c = no_files c.args.most c.args.kind c.args.paragraph.now (sym c.in_default-get-2.ensures)

pub returns-then-has_text : goal.returns-then-has_text
returns-then-has_text c =
    has_text c.args.most c.args.kind c.args.paragraph.now (field_value c.in-Some.sha1.now) (field_value c.in-Some-get.sha256.now) (field_value c.in-Some-get-2.files.now)
    (record { sha1_is = sym c.in-Some.ensures; sha256_is = sym c.in-Some-get.ensures; files_is = sym c.in-Some-get-2.ensures }) (sym c.has_text.ensures ∙ c.if-has_text.true)

pub returns : goal.returns
returns c =
    let sha1 = field_value c.in-Some.sha1.now in
    let sha256 = field_value c.in-Some-get.sha256.now in
    let files = field_value c.in-Some-get-2.files.now in
    let three : Three c.args.paragraph.now sha1 sha256 files = record { sha1_is = sym c.in-Some.ensures; sha256_is = sym c.in-Some-get.ensures; files_is = sym c.in-Some-get-2.ensures } in
    let one = c.as_slice.ensures.value in
    let two = c.as_slice-2.ensures.value in
    let last = c.as_slice-3.ensures.value in
    record {
      lines = (λ i. record { sha1 = map (λ line. line.now) (one i); sha256 = map (λ line. line.now) (two i); files = map (λ line. line.now) (last i) }) ∙ sym (lines_are c.args.paragraph.now sha1 sha256 files three);
      rest = rest c.args.most c.args.kind c.args.paragraph.now sha1 sha256 files three (sym c.has_text.ensures ∙ c.if-has_text.false);
    }
