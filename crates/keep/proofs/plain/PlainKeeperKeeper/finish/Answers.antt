use Rattle.std.proofs.Common.{◌≡◌, ℕ, List, [], ◌∷◌, ◌++◌, map, length, Option, Some, ap, ◌∙◌, sym}
use Rattle.std.specs.Option.{option_map}
use Rattle.std.specs.declared.vec.Vec.{Vec}
use Rattle.std.specs.declared.alloc.Global.{Global}
use Rattle.std.proofs.lemmas.List.{with_items_is, length-map}
use Rattle.std.proofs.lemmas.Option.{same_Some}
use Rattle.sums.specs.Prints.{print as print_of}
use Rattle.book.specs.Book.{Book, at_moment, span}
use Rattle.keep.specs.Plain.{plain_book}
use Rattle.book.specs.Scan.{marked}
use Rattle.keep.specs.Scan.{counted}
use Rattle.book.specs.declared.arrival.Arrival.{Arrival}
use Rattle.book.specs.declared.arrival.Counting.{Counting}
use Rattle.book.proofs.Arrivals.{Apart, apart_part, by_print, new_by_print, with_known, with_new}
use Rattle.book.proofs.Moments.{current-part}
use Rattle.book.proofs.Staying.{on_err}
use Rattle.keep.proofs.plain.PlainKeeperKeeper.finish.Goals as goal

-- the body that is coming
body_is : (coming : Option (Vec ℕ Global)) (v : Vec ℕ Global) (body : List ℕ) → Some v ≡ coming → option_map (λ (b : Vec ℕ Global). b.items) coming ≡ Some body → v.items ≡ body
body_is coming v body is told = same_Some _ _ (ap (option_map (λ (b : Vec ℕ Global). b.items)) is ∙ told)

-- the arrivals that count are those of the book
counted_are : {counting counts : Counting} {arrivals all : List Arrival} → counting ≡ counts → arrivals ≡ all → counted counting arrivals ≡ counted counts all
counted_are {counting} {counts} {arrivals} {all} is are = ap (λ (k : Counting). counted k arrivals) is ∙ ap (counted counts) are

pub returns-then-has_arrival-clause-new : goal.returns-then-has_arrival-clause-new
unfolding plain_book at_moment
returns-then-has_arrival-clause-new c = λ clean body coming bodies apart has there.
    let a : Arrival = record { name = c.args.name.now; body = body; moment = c.args.moment } in
    let told : Apart c.args.self.now.arrivals.items a = record { bodies = bodies; apart = apart; arrived = has.arrivals; body = there } in
    let print = c.print_of-print.ensures ∙ ap print_of (c.deref.ensures.value ∙ body_is c.args.self.now.coming c.in-Some.body body c.in-Some.ensures.value coming) in
    new_by_print a (apart_part (current-part (span c.args.self.now.config) c.args.moment c.args.self.now.arrivals.items) told)
    c.has_current-is_new.ensures print (counted_are c.new-counting.ensures c.deref-2.ensures.value)

pub returns-then-has_arrival-clause-ok : goal.returns-then-has_arrival-clause-ok
unfolding plain_book
returns-then-has_arrival-clause-ok c = λ clean body coming bodies apart has there.
    let a : Arrival = record { name = c.args.name.now; body = body; moment = c.args.moment } in
    let told : Apart c.args.self.now.arrivals.items a = record { bodies = bodies; apart = apart; arrived = has.arrivals; body = there } in
    let print = c.print_of-print.ensures ∙ ap print_of (c.deref.ensures.value ∙ body_is c.args.self.now.coming c.in-Some.body body c.in-Some.ensures.value coming) in
    let with : List Arrival → Book = λ xs. record (plain_book c.args.self.now) { arrivals = xs } in
    ap with (
    with_items_is c.args.self.now.arrivals c.mark_all.new.arrivals (ap length c.mark_all.ensures ∙ length-map c.deref_mut.result.now (marked a.name c.print_of-print.result a.moment) ∙ ap length c.deref_mut.ensures.value ∙ sym c.args.self.now.arrivals.ok.0)
    ∙ c.mark_all.ensures ∙ ap (map (marked a.name c.print_of-print.result a.moment)) c.deref_mut.ensures.value
    ∙ ap (λ p. map (marked a.name p a.moment) c.args.self.now.arrivals.items) print
    ∙ with_known c.args.self.now.arrivals.items a told (by_print a c.has_arrival.ensures print c.deref-3.ensures.value c.if-has_arrival.true)
    )

pub returns-in_err-push-clause-err : goal.returns-in_err-push-clause-err
unfolding plain_book
returns-in_err-push-clause-err c =
    let with : List Arrival → Book = λ xs. record (plain_book c.args.self.now) { arrivals = xs } in
    λ clean up. on_err c.from_residual-in_err-push.result (ap with c.in_err-push.ensures.items)

pub returns-clause-new : goal.returns-clause-new
unfolding plain_book at_moment
returns-clause-new c = λ clean body coming bodies apart has there.
    let a : Arrival = record { name = c.args.name.now; body = body; moment = c.args.moment } in
    let told : Apart c.args.self.now.arrivals.items a = record { bodies = bodies; apart = apart; arrived = has.arrivals; body = there } in
    let print = c.print_of-print.ensures ∙ ap print_of (c.deref.ensures.value ∙ body_is c.args.self.now.coming c.in-Some.body body c.in-Some.ensures.value coming) in
    new_by_print a (apart_part (current-part (span c.args.self.now.config) c.args.moment c.args.self.now.arrivals.items) told)
    c.has_current-is_new.ensures print (counted_are c.new-counting.ensures c.deref-2.ensures.value)

pub returns-clause-ok : goal.returns-clause-ok
unfolding plain_book
returns-clause-ok c = λ clean body coming bodies apart has there.
    let a : Arrival = record { name = c.args.name.now; body = body; moment = c.args.moment } in
    let told : Apart c.args.self.now.arrivals.items a = record { bodies = bodies; apart = apart; arrived = has.arrivals; body = there } in
    let is = body_is c.args.self.now.coming c.in-Some.body body c.in-Some.ensures.value coming in
    let print = c.print_of-print.ensures ∙ ap print_of (c.deref.ensures.value ∙ is) in
    let with : List Arrival → Book = λ xs. record (plain_book c.args.self.now) { arrivals = xs } in
    let new : List ℕ → List ℕ → List Arrival = λ name bytes. c.args.self.now.arrivals.items ++ record { name = name; body = bytes; moment = c.args.moment } ∷ [] in
    ap with (
    c.in_ok-push.ensures.items ∙ ap (λ name. new name c.from_vec.result) c.in_ok-new.ensures ∙ ap (new c.args.name.now) (c.from_vec.ensures ∙ is)
    ∙ with_new c.args.self.now.arrivals.items a told (by_print a c.has_arrival.ensures print c.deref-3.ensures.value c.if-has_arrival.false)
    )
