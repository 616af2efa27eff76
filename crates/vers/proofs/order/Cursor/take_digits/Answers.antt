use Rattle.std.specs.Char.{is_ascii_digit}
use Rattle.vers.proofs.Keys.{list_all-take_while}
use Rattle.vers.proofs.order.Cursor.take_digits.Goals as goal

pub returns-clause-digits : goal.returns-clause-digits
returns-clause-digits c = rw c.split_at.ensures.front (rw c.digits_len.ensures.count (list_all-take_while is_ascii_digit c.args.self.now.rest.now))
