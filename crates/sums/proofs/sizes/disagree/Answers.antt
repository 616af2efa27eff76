use Rattle.std.proofs.Common.{◌≡◌, ◌∙◌, ◌||◌, sym, ap, not, map}
use Rattle.std.specs.List.{list_any}
use Rattle.sums.specs.Lists.{lacks}
use Rattle.sums.specs.Views.{in_names, size_in, is_size_of}
use Rattle.sums.proofs.SizesByName.{lacks_is}
use Rattle.sums.proofs.sizes.disagree.Goals as goal

pub returns-then-lacks : goal.returns-then-lacks
returns-then-lacks c = λ xs ys h k.
    let read = ap (λ zs. list_any (λ x. not (is_size_of x (size_in c.args.right.now.sizes x.name))) (map in_names zs)) c.deref.ensures.value in
    let one : c.lacks.result ≡ lacks xs ys = c.lacks.ensures ∙ (read ∙ lacks_is c.args.left.now c.args.right.now xs ys h k) in
    c.if-lacks.true ∙ sym (ap (λ b. b || lacks ys xs) (sym one ∙ c.if-lacks.true))

pub returns-else-lacks : goal.returns-else-lacks
returns-else-lacks c = λ xs ys h k.
    let read = ap (λ zs. list_any (λ x. not (is_size_of x (size_in c.args.right.now.sizes x.name))) (map in_names zs)) c.deref.ensures.value in
    let one : c.lacks.result ≡ lacks xs ys = c.lacks.ensures ∙ (read ∙ lacks_is c.args.left.now c.args.right.now xs ys h k) in
    let again = ap (λ zs. list_any (λ x. not (is_size_of x (size_in c.args.left.now.sizes x.name))) (map in_names zs)) c.deref-else-lacks.ensures.value in
    let two : c.lacks-else-lacks.result ≡ lacks ys xs = c.lacks-else-lacks.ensures ∙ (again ∙ lacks_is c.args.right.now c.args.left.now ys xs k h) in
    two ∙ sym (ap (λ b. b || lacks ys xs) (sym one ∙ c.if-lacks.false))
