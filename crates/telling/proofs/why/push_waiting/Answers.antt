use Rattle.std.proofs.Common.{ℕ, ◌++◌, List, Option, map, ap, ◌∙◌}
use Rattle.std.proofs.lemmas.Result.{on_ok_weaker}
use Rattle.sums.specs.declared.print.Print.{Print}
use Rattle.inquiry.proofs.NamedLemmas.{came_in_groups, first_same}
use Rattle.std.specs.BTreeMap.{get_by_text}
use Rattle.book.specs.declared.change.Lack.{Lack}
use Rattle.book.specs.Groups.{group_in}
use Rattle.inquiry.specs.Instead.{came_in}
use Rattle.inquiry.specs.Named.{moment_in}
use Rattle.output.specs.Explaining.Waits.{since}
use Rattle.telling.specs.Why.{waits_with}
use Rattle.telling.proofs.why.push_waiting.Goals as goal

pub returns : goal.returns
returns c =
    let old = c.args.out.now.items in
    let upload = c.args.upload.now in
    on_ok_weaker c.push_waiting_with.result (λ said files is.
    said
    ∙ ap (λ (came : List (List Print)). old ++ waits_with c.args.is_json upload c.since_of-since.result came) c.deref.ensures.value
    ∙ ap (λ (moment : Option ℕ). old ++ waits_with c.args.is_json upload moment c.in_ok-came.came.items)
    (c.since_of-since.ensures
    ∙ ap (moment_in upload.print)
    (c.group_of.ensures ∙ ap (λ (name : List ℕ). group_in (get_by_text c.args.named.now name)) c.as_str.ensures ∙ is upload.name)
    ∙ first_same upload.name upload.print files)
    ∙ ap (λ (came : List (List Print)). old ++ waits_with c.args.is_json upload (since files upload) came)
    (c.in_ok-came.ensures ∙ ap (λ (lacks : List Lack). map (came_in c.args.counting c.args.named.now) lacks) c.as_slice.ensures ∙ came_in_groups c.args.counting files c.args.named.now is upload.lacks))
    c.push_waiting_with.ensures
