use Rattle.std.proofs.Common.{◌∙◌, sym, ap, inl, inr}
use Rattle.std.proofs.lemmas.Result.{MatchResult-weaker, err_from_is_err_and}
use Rattle.sums.specs.Views.{fault_of_lines, fault_of_names, lines_found}
use Rattle.sums.proofs.ListedRead.{listed_of_read}
use Rattle.sums.proofs.Refusals.{same_lines, read, refused}
use Rattle.sums.proofs.lists.read_lists_within.Goals as goal

pub returns-in_err-split-clause-refused : goal.returns-in_err-split-clause-refused
returns-in_err-split-clause-refused c =
    let lists = c.in_ok-found.ensures in
    let p = err_from_is_err_and c.from_residual-in_err-split.result c.from_residual-in_err-split.ensures.1 in
    rw (p.1, p.2) (elim c.in_err-split.ensures [
      | inl memory ↦ inl memory
      | inr fault ↦ inr (refused c.args.most c.args.kind c.args.paragraph.now (lines_found c.in_ok-found.found) c.in_err-split.field-0.0 lists.rest lists.lines fault)
    ])

pub read_lines-requires : goal.read_lines-requires
read_lines-requires c =
    let split = c.in_ok-split.ensures in
    let same = same_lines (lines_found c.in_ok-found.found) split.same c.as_slice.ensures.value c.as_slice-2.ensures.value c.as_slice-3.ensures.value in
    ap (fault_of_lines c.args.most c.args.kind) same ∙ (split.rest ∙ sym (ap (fault_of_names c.args.most c.args.kind) same))

pub returns-clause-read : goal.returns-clause-read
returns-clause-read c =
    let lists = c.in_ok-found.ensures in
    let same = same_lines (lines_found c.in_ok-found.found) c.in_ok-split.ensures.same c.as_slice.ensures.value c.as_slice-2.ensures.value c.as_slice-3.ensures.value ∙ lists.lines in
    MatchResult-weaker c.read_lines.result c.read_lines.ensures (λ v h. read c.args.most c.args.kind c.args.paragraph.now _ v.items lists.rest same h) (λ e h. tt)

pub returns-clause-listed : goal.returns-clause-listed
returns-clause-listed c =
    let lists = c.in_ok-found.ensures in
    let same = same_lines (lines_found c.in_ok-found.found) c.in_ok-split.ensures.same c.as_slice.ensures.value c.as_slice-2.ensures.value c.as_slice-3.ensures.value ∙ lists.lines in
    MatchResult-weaker c.read_lines.result c.read_lines.ensures (λ v h. listed_of_read c.args.most c.args.kind c.args.paragraph.now v.items (read c.args.most c.args.kind c.args.paragraph.now _ v.items lists.rest same h)) (λ e h. tt)

pub returns-clause-refused : goal.returns-clause-refused
returns-clause-refused c =
    let lists = c.in_ok-found.ensures in
    let same = same_lines (lines_found c.in_ok-found.found) c.in_ok-split.ensures.same c.as_slice.ensures.value c.as_slice-2.ensures.value c.as_slice-3.ensures.value ∙ lists.lines in
    MatchResult-weaker c.read_lines.result c.read_lines.ensures (λ v h. tt) (λ e h. elim h [
      | inl memory ↦ inl memory
      | inr fault ↦ inr (refused c.args.most c.args.kind c.args.paragraph.now _ e lists.rest same fault)
    ])
