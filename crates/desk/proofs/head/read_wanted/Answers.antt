use Rattle.std.proofs.Common.{◌≡◌, ◌∙◌, sym, ap, Result}
use Rattle.std.proofs.lemmas.Result.{err_from_is_err_and}
use Rattle.desk.specs.declared.head.Refusal.{Refusal}
use Rattle.desk.specs.declared.routes.Route.{Route}
use Rattle.desk.specs.Request.{HeadAsks, want_of, found_want}
use Rattle.desk.specs.Want.{Want, asked_at, with_length}
use Rattle.desk.proofs.WantedLemmas.{key_of, gives_map, gives_on, gives_err, head_asks, no_path, coded, no_command, of_page, other_method, no_length, all_pass}
use Rattle.desk.proofs.head.read_wanted.Goals as goal

pub returns-in_err-target : goal.returns-in_err-target
returns-in_err-target c =
    let p = err_from_is_err_and c.from_residual-in_err-target.result c.from_residual-in_err-target.ensures.1 in
    let bad = c.in_err-target.ensures.err in
    let asks = head_asks c.args.desk.now.rules c.args.head.now _ _ _ c.in_ok-spans.ensures.found (no_path _ _ _ _ _ bad.1) in
    rw (p.1, p.2, bad.0) asks

pub returns-then-has_field : goal.returns-then-has_field
returns-then-has_field c =
    let named = sym c.has_field.ensures ∙ c.if-has_field.true in
    let path = c.in_ok-target.ensures.ok in
    head_asks c.args.desk.now.rules c.args.head.now _ _ _ c.in_ok-spans.ensures.found (coded _ _ _ _ _ path.1 named)

pub returns-in_err-route : goal.returns-in_err-route
returns-in_err-route c =
    let p = err_from_is_err_and c.from_residual-in_err-route.result c.from_residual-in_err-route.ensures.1 in
    let named = sym c.has_field.ensures ∙ c.if-has_field.false in
    let path = c.in_ok-target.ensures.ok in
    rw (p.1, p.2) (gives_on found_want want_of _ (λ (r : Result (Route × Want) Refusal). r ≡ asked_at (key_of c.args.desk.now.rules) c.in_ok-target.target.now) (HeadAsks c.args.desk.now.rules c.args.head.now) c.in_err-route.ensures
    (λ a. head_asks c.args.desk.now.rules c.args.head.now _ _ _ c.in_ok-spans.ensures.found (no_command _ _ _ _ _ path.1 named _ (a ∙ ap (asked_at (key_of c.args.desk.now.rules)) path.0))))

pub returns-in_err-check_method : goal.returns-in_err-check_method
returns-in_err-check_method c =
    let p = err_from_is_err_and c.from_residual-in_err-check_method.result c.from_residual-in_err-check_method.ensures.1 in
    let named = sym c.has_field.ensures ∙ c.if-has_field.false in
    let path = c.in_ok-target.ensures.ok in
    let found = c.in_ok-route.ensures ∙ ap (asked_at (key_of c.args.desk.now.rules)) path.0 in
    let method = rw (c.method.ensures, c.of.ensures) at c.check_method.ensures in
    rw (p.1, p.2) (gives_err want_of _ (HeadAsks c.args.desk.now.rules c.args.head.now)
    (head_asks c.args.desk.now.rules c.args.head.now _ _ _ c.in_ok-spans.ensures.found (other_method _ _ _ _ _ path.1 named _ _ found _ (sym c.in_err-check_method.was ∙ method))))

pub returns-in_err-check_origin : goal.returns-in_err-check_origin
returns-in_err-check_origin c =
    let p = err_from_is_err_and c.from_residual-in_err-check_origin.result c.from_residual-in_err-check_origin.ensures.1 in
    let named = sym c.has_field.ensures ∙ c.if-has_field.false in
    let path = c.in_ok-target.ensures.ok in
    let found = c.in_ok-route.ensures ∙ ap (asked_at (key_of c.args.desk.now.rules)) path.0 in
    let method = rw (c.method.ensures, c.of.ensures) at c.check_method.ensures in
    let origin = rw c.has_field-has_origin.ensures at c.check_origin.ensures in
    rw (p.1, p.2) (gives_err want_of _ (HeadAsks c.args.desk.now.rules c.args.head.now)
    (head_asks c.args.desk.now.rules c.args.head.now _ _ _ c.in_ok-spans.ensures.found
    (of_page _ _ _ _ _ path.1 named _ _ found (sym c.in_ok-check_method.was ∙ method) _ (sym c.in_err-check_origin.was ∙ origin))))

pub returns-in_err-content_length : goal.returns-in_err-content_length
returns-in_err-content_length c =
    let p = err_from_is_err_and c.from_residual-in_err-content_length.result c.from_residual-in_err-content_length.ensures.1 in
    let named = sym c.has_field.ensures ∙ c.if-has_field.false in
    let path = c.in_ok-target.ensures.ok in
    let found = c.in_ok-route.ensures ∙ ap (asked_at (key_of c.args.desk.now.rules)) path.0 in
    let method = rw (c.method.ensures, c.of.ensures) at c.check_method.ensures in
    let origin = rw c.has_field-has_origin.ensures at c.check_origin.ensures in
    rw (p.1, p.2) (gives_err want_of _ (HeadAsks c.args.desk.now.rules c.args.head.now)
    (head_asks c.args.desk.now.rules c.args.head.now _ _ _ c.in_ok-spans.ensures.found
    (no_length _ _ _ _ _ path.1 named _ _ found (sym c.in_ok-check_method.was ∙ method) (sym c.in_ok-check_origin.was ∙ origin) _ (sym c.in_err-content_length.was ∙ c.content_length.ensures))))

pub returns : goal.returns
returns c =
    let named = sym c.has_field.ensures ∙ c.if-has_field.false in
    let path = c.in_ok-target.ensures.ok in
    let found = c.in_ok-route.ensures ∙ ap (asked_at (key_of c.args.desk.now.rules)) path.0 in
    let method = rw (c.method.ensures, c.of.ensures) at c.check_method.ensures in
    let origin = rw c.has_field-has_origin.ensures at c.check_origin.ensures in
    gives_map want_of c.with_length.result (λ (r : Result Want Refusal). r ≡ with_length (want_of c.in_ok-route.wanted) _) (HeadAsks c.args.desk.now.rules c.args.head.now) c.with_length.ensures
    (λ r a. head_asks c.args.desk.now.rules c.args.head.now _ _ _ c.in_ok-spans.ensures.found
    (a ∙ all_pass _ _ _ _ _ path.1 named _ _ found (sym c.in_ok-check_method.was ∙ method) (sym c.in_ok-check_origin.was ∙ origin) _ (sym c.in_ok-content_length.was ∙ c.content_length.ensures)))
