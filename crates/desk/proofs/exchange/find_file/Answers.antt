use Rattle.std.proofs.Common.{◌≡◌, ◌∙◌, Ok, Err, Some, ap, sym, string_bytes}
use Rattle.book.proofs.ReadLemmas.{reads_more}
use Rattle.queue.specs.Commands.{found}
use Rattle.queue.specs.Histories.{Found, Lookup}
use Rattle.desk.proofs.FileLemmas.{all_found, called_look_up, does_behind, fault_does, found_does}
use Rattle.desk.proofs.exchange.find_file.Goals as goal

pub returns-in-Err-clause-found : goal.returns-in-Err-clause-found
returns-in-Err-clause-found g c =
    called_look_up g.K.Keeper _ _ (string_bytes c.args.path) (Err c.in-Err.fault) _ c.in-Err.ensures.reads
    (fault_does g.K.Keeper _ _ (string_bytes c.args.path) c.in-Err.fault c.in-Err.ensures.reads c.in-Err.ensures.refused) c.fault_reply.ensures

pub returns-in-Ok-Some-clause-found : goal.returns-in-Ok-Some-clause-found
returns-in-Ok-Some-clause-found g c =
    let path = string_bytes c.args.path in
    let before = c.args.archive.now.keeper in
    let after = c.fetch_piece.new.self.keeper in
    let reads = c.fetch_piece.ensures.reads in
    let is : c.fetch_piece.result ≡ Ok (Some c.in-Ok-Some.first) = c.in-Ok-Some.is ∙ ap Ok c.in-Ok-Some.field-0-is in
    let up : g.K.Keeper.is_clean after → g.K.Keeper.is_open after = λ clean. let served = c.fetch_piece.ensures.served clean in rw is at served in
    let filed : g.K.Keeper.is_clean after → (g.K.Keeper.book before).files path ≡ Some c.in-Ok-Some.first.bytes.items = λ clean.
    let piece = c.fetch_piece.ensures.piece clean in
    ap (λ p. (g.K.Keeper.book before).files p) (sym c.as_str.ensures.value) ∙ all_found _ c.in-Ok-Some.first (rw is at piece) (sym c.is_all.ensures ∙ c.if-is_all.true) in
    called_look_up g.K.Keeper before after path (Ok (Found (Some c.in-Ok-Some.first.bytes.items))) _ reads
    (found_does g.K.Keeper before after after path c.in-Ok-Some.first.bytes.items reads reads (λ clean. clean) up filed) (c.fetch_reply.ensures path)

pub returns-in-Ok-clause-found : goal.returns-in-Ok-clause-found
returns-in-Ok-clause-found g c =
    let path = string_bytes c.args.path in
    let step = rw c.as_str-in-Ok.ensures.value at c.fetch-fetched.ensures.step in
    let one = c.fetch_piece.ensures.reads in
    let two = c.fetch-fetched.ensures.reads in
    called_look_up g.K.Keeper _ _ path (found c.fetch-fetched.result) _ (reads_more one two)
    (does_behind g.K.Keeper _ _ _ (Lookup path) (found c.fetch-fetched.result) one two step) (c.fetch_reply-in-Ok.ensures path)
