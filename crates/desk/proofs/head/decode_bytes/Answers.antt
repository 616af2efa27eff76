use Rattle.std.proofs.Common.{rules}
use Rattle.std.proofs.lemmas.Str.{IsUtf8-had}
use Rattle.std.specs.String.{string_bytes}
use Rattle.desk.proofs.FieldLemmas.{decoded_ok, decoded_err}
use Rattle.desk.proofs.head.decode_bytes.Goals as goal

pub returns-in-Ok : goal.returns-in-Ok
returns-in-Ok c =
    let items = rw (c.new-bytes.ensures.items, c.percent_decode.ensures.bytes) at c.in_ok-append_to.ensures.ok in
    let whole = rw (← c.in-Ok.ensures.ok) at items in
    decoded_ok c.args.escaped.now (string_bytes c.in-Ok.text) whole (IsUtf8-had _ c.in-Ok.text.ok)

pub returns : goal.returns
returns c =
    let items = rw (c.new-bytes.ensures.items, c.percent_decode.ensures.bytes) at c.in_ok-append_to.ensures.ok in
    decoded_err c.args.escaped.now _ items (λ u. let no = c.in-Err.ensures.succeeds u in search rules)
