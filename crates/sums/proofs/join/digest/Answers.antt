use Rattle.std.proofs.Common.{◌∙◌, sym, ap}
use Rattle.std.specs.Result.{is_ok}
use Rattle.sums.proofs.Digests.{digest_read}
use Rattle.sums.proofs.join.digest.Goals as goal

pub unwrap-requires : goal.unwrap-requires
unwrap-requires g c = ap is_ok (c.from_hex.ensures ∙ digest_read g.row.N c.args.word.now c.requires)

pub returns : goal.returns
returns g c = cc (sym c.unwrap.ensures ∙ (c.from_hex.ensures ∙ digest_read g.row.N c.args.word.now c.requires))
