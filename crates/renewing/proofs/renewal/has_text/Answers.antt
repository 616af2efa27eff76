use Rattle.std.proofs.Common.{◌≡◌, List, ℕ, Option, Some, None, is_some, refl, ap, ◌∙◌}
use Rattle.std.specs.Option.{option_map}
use Rattle.sums.specs.Prints.{print}
use Rattle.book.specs.Book.{text_at}
use Rattle.renewing.proofs.renewal.has_text.Goals as goal

-- a text is there if its print is
is_printed : (kept : Option (List ℕ)) → is_some (option_map print kept) ≡ is_some kept
is_printed None = refl
is_printed (Some text) = refl

pub returns-clause-there : goal.returns-clause-there
returns-clause-there g c clean =
    c.is_some.ensures ∙ ap is_some (c.in_ok-found.ensures.print clean) ∙ is_printed (text_at (g.K.Keeper.book c.args.keeper.now) c.args.path.now)
