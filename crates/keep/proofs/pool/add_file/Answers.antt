use Rattle.std.proofs.Common.{◌≡◌, ℕ, true, false, List, ◌++◌, ◌∷◌, [], Option, ap, ◌∙◌, sym, subst, is_some, not, find}
use Rattle.keep.specs.Scan.{is_at, stored, PoolHas, stored_among}
use Rattle.keep.specs.declared.pool.PoolBody.{PoolBody}
use Rattle.book.proofs.Finds.{is_some_copied}
use Rattle.keep.proofs.Files.{has_put, has_passed}
use Rattle.keep.proofs.pool.add_file.Goals as goal

pub returns-in_ok-push : goal.returns-in_ok-push
returns-in_ok-push c = λ done has.
    let path = c.args.file.now.path in
    let print = c.args.file.now.print in
    let bodies = c.args.bodies.now.items in
    let new : List ℕ → Option (List ℕ) → List PoolBody = λ p b. bodies ++ record { path = p; body = b } ∷ [] in
    let free : is_some (find (is_at path) bodies) ≡ false =
    sym (
    is_some_copied c.file_at.result
    ∙ ap is_some (c.file_at.ensures ∙ ap (λ p. find (is_at p) c.deref.result.now) c.as_str-path.ensures ∙ ap (find (is_at path)) c.deref.ensures.value)
    ) ∙ c.is_none.ensures ∙ ap not c.if-is_none.true in
    let made : c.push.new.self.items ≡ bodies ++ stored c.args.arrivals.now c.args.files.now path print ∷ [] =
    c.in_ok-push.ensures.items ∙ ap (λ p. new p c.in_ok-body.body) c.in_ok-try_clone.ensures
    ∙ ap (new path) (c.in_ok-body.ensures ∙ ap (λ p. stored_among c.args.arrivals.now c.args.files.now p print) c.as_str-path.ensures) in
    subst (λ bodies. PoolHas c.args.arrivals.now c.args.files.now bodies (done ++ (path, print) ∷ [])) (sym made)
    (has_put c.args.arrivals.now c.args.files.now bodies done path print has free)

pub returns-else-is_none : goal.returns-else-is_none
returns-else-is_none c = λ done has.
    let path = c.args.file.now.path in
    let bodies = c.args.bodies.now.items in
    let taken : is_some (find (is_at path) bodies) ≡ true =
    sym (
    is_some_copied c.file_at.result
    ∙ ap is_some (c.file_at.ensures ∙ ap (λ p. find (is_at p) c.deref.result.now) c.as_str-path.ensures ∙ ap (find (is_at path)) c.deref.ensures.value)
    ) ∙ c.is_none.ensures ∙ ap not c.if-is_none.false in
    has_passed c.args.arrivals.now c.args.files.now bodies done path c.args.file.now.print has taken
