use Rattle.std.proofs.Common.{Result, Ok, Err, if◌then◌else◌, ◌≡◌, ℕ, Option, Some, length, get_or, slice_get, refl, List, [], ◌++◌, sym, ap, ◌∙◌}
use Rattle.std.specs.declared.alloc.AllocError.{AllocError}
use Rattle.std.specs.Result.{is_ok, OnOk}
use Rattle.std.specs.Option.{option_map_or}
use Rattle.std.proofs.lemmas.Option.{slice_get_read}
use Rattle.rules.specs.declared.suite.Suite.{Suite}
use Rattle.indices.specs.Release.{release_text}
use Rattle.indices.specs.Positions.{release_at}
use Rattle.texts.proofs.suite_release.release.Goals as goal

on_ok : (r : Result (Unit {0}) AllocError) (x y z : List ℕ) → x ≡ (if is_ok r then y else z) → {w : List ℕ} → y ≡ w → OnOk r (x ≡ w)
on_ok (Ok u) x y z e f = e ∙ f
on_ok (Err a) x y z e f = tt

pub returns-clause-ok : goal.returns-clause-ok
unfolding release_at
returns-clause-ok c =
    let suites : List Suite = c.args.config.now.suites in
    let suite : Suite = c.index-suites-suite.result in
    let found : slice_get suites c.args.suite ≡ Some suite =
    slice_get_read suites (length suites) c.args.suite suite refl c.requires.suite (c.index-suites-suite.is ∙ ap (λ (ss : List Suite). get_or ss c.args.suite suite) c.suites.ensures) in
    let text : c.in_ok-text.text.items ≡ release_at c.args.config.now c.args.suite c.args.moment c.args.indices.now =
    c.in_ok-text.ensures ∙ ap (λ (o : Option Suite). option_map_or (λ s. release_text s c.args.moment c.args.indices.now) o []) (sym found) in
    on_ok c.extend_from_slice.result _ _ _ (c.extend_from_slice.ensures.items)
    (ap (λ (bs : List ℕ). c.args.out.now.items ++ bs) (c.deref.ensures.value ∙ text))
