use Rattle.std.proofs.Common.{◌≡◌, true, false, [], Some, if◌then◌else◌, option_map, sym, ap, ◌∙◌}
use Rattle.suites.specs.Upload.{has_text}
use Rattle.inquiry.specs.Reading.{body_of, kept_text}
use Rattle.inquiry.proofs.reading.text_of.Goals as goal

pub returns-then-not-has_text-clause-text : goal.returns-then-not-has_text-clause-text
unfolding kept_text
returns-then-not-has_text-clause-text g c clean =
    let e = c.args.entry.now in
    let arrivals = (g.K.Keeper.book c.args.keeper.now).arrivals in
    let none : has_text e.name ≡ false = sym (c.has_text.ensures ∙ ap has_text c.as_str.ensures) ∙ c.if-not-has_text.true in
    ap Some (c.from_vec.ensures ∙ c.new.ensures.items) ∙ ap (λ b. if b then body_of arrivals e.name e.print else Some []) (sym none)

pub returns-in_default-clause-text : goal.returns-in_default-clause-text
unfolding kept_text
returns-in_default-clause-text g c clean =
    let e = c.args.entry.now in
    let arrivals = (g.K.Keeper.book c.args.keeper.now).arrivals in
    let some : has_text e.name ≡ true = sym (c.has_text.ensures ∙ ap has_text c.as_str.ensures) ∙ c.if-not-has_text.false in
    ap (option_map (λ body. body.items)) (sym c.in_default.is) ∙ c.in_ok-body.ensures.body clean ∙ ap (λ name. body_of arrivals name e.print) c.as_str-2.ensures
    ∙ ap (λ b. if b then body_of arrivals e.name e.print else Some []) (sym some)

pub returns-clause-text : goal.returns-clause-text
unfolding kept_text
returns-clause-text g c clean =
    let e = c.args.entry.now in
    let arrivals = (g.K.Keeper.book c.args.keeper.now).arrivals in
    let some : has_text e.name ≡ true = sym (c.has_text.ensures ∙ ap has_text c.as_str.ensures) ∙ c.if-not-has_text.false in
    ap Some c.from_vec-2.ensures ∙ ap (option_map (λ body. body.items)) (sym c.in-Some.is) ∙ c.in_ok-body.ensures.body clean ∙ ap (λ name. body_of arrivals name e.print) c.as_str-2.ensures
    ∙ ap (λ b. if b then body_of arrivals e.name e.print else Some []) (sym some)
