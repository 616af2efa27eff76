use Rattle.std.proofs.Common.{◌≡◌, true, false, [], if◌then◌else◌, unwrap_or, ap, sym, ◌∙◌}
use Rattle.sqlite.specs.Held.{state}
use Rattle.suites.specs.Upload.{has_text}
use Rattle.tables_meaning.specs.Reads.{bytes_with, text_in}
use Rattle.tables_meaning.proofs.ReadsLemmas.{rests_if_unchanged, rests_itself}
use Rattle.keep_tables.proofs.uploads.text_of.Goals as goal

pub returns-then-not-has_text-clause-ok : goal.returns-then-not-has_text-clause-ok
unfolding text_in
returns-then-not-has_text-clause-ok g c clean t was =
    let e = c.args.entry.now in
    let none : has_text e.name ≡ false = sym (c.has_text.ensures ∙ ap has_text c.as_str.ensures) ∙ c.if-not-has_text.true in
    (c.from_vec.ensures ∙ c.new.ensures.items ∙ ap (λ b. if b then unwrap_or (bytes_with t e.print) [] else []) (sym none), rests_itself (state g.S.Store c.args.conn.now))

pub returns-clause-ok : goal.returns-clause-ok
unfolding text_in
returns-clause-ok g c clean t was =
    let e = c.args.entry.now in
    let some : has_text e.name ≡ true = sym (c.has_text.ensures ∙ ap has_text c.as_str.ensures) ∙ c.if-not-has_text.false in
    let read = c.in_ok-body_of.ensures.ok clean t was in (
      c.from_vec-2.ensures ∙ sym (ap (λ b. if b then unwrap_or (bytes_with t e.print) [] else []) some ∙ ap (λ o. unwrap_or o []) read.0),
      rests_if_unchanged (state g.S.Store c.args.conn.now) (state g.S.Store c.body_of.new.conn) read.1,
    )
