-- What the text that asks for nothing of a database means, whatever its schema is.
use Rattle.std.proofs.Common.{refl}
use Rattle.sqlite_tied.specs.Compute.{everything}
use Rattle.sqlite.specs.Given.{IsPlain}
use Rattle.sqlite.specs.Listing.{understood}
use Rattle.sqlite.specs.Schema.{Schema}
use Rattle.tables.specs.declared.probe.TheConstants.{SELECT_ONE}

pub select_one_plain : (schema : Schema) → IsPlain (understood schema SELECT_ONE.now)
unfolding understood everything
select_one_plain schema = (refl, refl)
