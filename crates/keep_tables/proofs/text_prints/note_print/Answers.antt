use Rattle.std.proofs.Common.{inl}
use Rattle.keep_tables.proofs.AtHandLemmas.{pushed_at_most}
use Rattle.keep_tables.proofs.text_prints.note_print.Goals as goal

pub returns-then-is_some : goal.returns-then-is_some
returns-then-is_some c p at = inl at

pub returns-in_default : goal.returns-in_default
returns-in_default c p at = inl at

pub returns-in_default-new : goal.returns-in_default-new
returns-in_default-new c p at = inl at

pub returns : goal.returns
returns c = pushed_at_most c.args.prints.now.items c.push.new.self.items c.args.path.now c.args.print c.in-Some.print c.in-Ok.path c.in-Some.is c.in-Ok.ensures c.push.result c.push.ensures.items
