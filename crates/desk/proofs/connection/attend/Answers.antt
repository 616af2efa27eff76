use Rattle.std.proofs.Common.{◌≡◌, ◌<◌, ◌+◌, List, [], ◌∷◌, ◌++◌, drop, take, get_or, length, sym, ap, ap₂, subst, refl, ◌∙◌, arith, length-set, set}
use Rattle.std.proofs.lemmas.List.{drop_more, drop-set-lt, take_more, take_more_set, length-take-le}
use Rattle.std.proofs.lemmas.Grind.{drop_more_same}
use Rattle.book.proofs.ReadLemmas.{lasts_itself, lasts_more, reads_none}
use Rattle.desk.specs.Connections.{AreServed, Visit, visit, visits}
use Rattle.desk.proofs.ConnectionLemmas.{served_joined, served_none, served_one, visits-snoc}
use Rattle.desk.proofs.connection.attend.Goals as goal

pub loop-connection-init : goal.loop-connection-init
loop-connection-init g c =
    let keeper = c.args.archive.now.keeper in
    record { to_come = refl; size = refl; lasts = lasts_itself keeper; served = served_none g.K.Keeper keeper keeper (reads_none keeper) }

pub loop-connection-preserved : goal.loop-connection-preserved
loop-connection-preserved g c =
    let i = c.loop-connection.connection-index in
    let olds = c.args.connections.now in
    let news = c.loop-connection.connections in
    let any = c.connection-item.result in
    let old = get_or news i any in
    let new = c.serve.new.self in
    let sofar = c.loop-connection.invariant in
    let inside : i < length news = omega arith in
    let size : length news ≡ length olds = sofar.size in
    let inside_old : i < length olds = omega (arith, size) in
    let heads : drop i olds ≡ old ∷ drop (i + 1) news = sym sofar.to_come ∙ drop_more news i any inside in
    let here : get_or olds i any ≡ old = ap (λ l. get_or l 0 any) (sym (drop_more olds i any inside_old) ∙ heads) in
    let desk_rules = c.args.desk.now.rules in
    let seen = visits desk_rules g.R.Read.remaining g.W.Write.contents in
    let as_many : length (take i olds) ≡ length (take i news) =
    length-take-le i olds (omega (arith, inside_old)) ∙ sym (length-take-le i news (omega (arith, inside))) in
    let grown : seen (take (i + 1) olds) (take (i + 1) (set news i new)) ≡ seen (take i olds) (take i news) ++ visit desk_rules g.R.Read.remaining g.W.Write.contents old new ∷ [] =
    ap₂ seen (take_more olds i any inside_old ∙ ap (λ x. take i olds ++ x ∷ []) here) (take_more_set news i new inside)
    ∙ visits-snoc desk_rules g.R.Read.remaining g.W.Write.contents (take i olds) (take i news) old new as_many in
    record {
      to_come = drop-set-lt (i + 1) news i new (omega arith) ∙ drop_more_same news olds i sofar.to_come;
      size = length-set news i new ∙ size;
      lasts = lasts_more sofar.lasts c.serve.ensures.lasts;
      served = subst (λ (vs : List Visit). AreServed g.K.Keeper c.args.archive.now.keeper c.serve.new.archive.keeper vs) (sym grown)
          (served_joined g.K.Keeper _ c.loop-connection.archive.keeper _ _ _ c.serve.ensures.lasts sofar.served
          (served_one g.K.Keeper c.loop-connection.archive.keeper c.serve.new.archive.keeper (visit desk_rules g.R.Read.remaining g.W.Write.contents old new) c.serve.ensures.lasts c.serve.ensures.served));
    }
