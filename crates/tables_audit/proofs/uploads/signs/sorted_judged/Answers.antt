use Rattle.std.proofs.Common.{map, rules}
use Rattle.tables_meaning.proofs.SignOrder.{judging_order_total}
use Rattle.tables_audit.specs.Signs.{judgement_sign, sign_of}
use Rattle.tables_audit.proofs.SignsLemmas.{moved, sorted_by_key}
use Rattle.tables_audit.proofs.uploads.signs.sorted_judged.Goals as goal

pub returns-clause-rise : goal.returns-clause-rise
returns-clause-rise c = sorted_by_key judging_order_total sign_of _ c.sort_unstable_by.ensures.sorted (λ a r q k. search rules)

pub returns-clause-same : goal.returns-clause-same
returns-clause-same c s = moved s (map judgement_sign c.args.judged.now) c.in_ok-signs.signs.items c.sort_unstable_by.new.self.items c.in_ok-signs.ensures c.sort_unstable_by.ensures.permutation
