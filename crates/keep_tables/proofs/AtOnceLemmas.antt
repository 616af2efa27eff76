-- A file whose body is one piece: what its transaction makes of an archive.
use Rattle.std.proofs.Common.{◌≡◌, ℕ, ◌<◌, ◌≤◌, nat_le, Bool, true, not, ◌&&◌, List, [], length, is_none, Option, Some, None, IsTrue, inl, inr, refl, sym, ap, subst, ◌∙◌, arith}
use Rattle.std.specs.Option.{option_and_then}
use Rattle.std.proofs.lemmas.Bool.{and_parts, cases_lt, leb-true}
use Rattle.std.proofs.lemmas.List.{take_all}
use Rattle.std.proofs.lemmas.List.Elements.{All-contains}
use Rattle.std.proofs.lemmas.Option.{same_Some}
use Rattle.sqlite.specs.Effect.{Database}
use Rattle.sqlite.specs.State.{State}
use Rattle.rules.specs.Values.{ConfigValue}
use Rattle.sums.specs.Prints.{print as print_of}
use Rattle.sums.specs.declared.print.Print.{Print}
use Rattle.suites.specs.Shelves.{ShelvesValue}
use Rattle.book.specs.Book.{Book, at_moment, has_arrival, latest, span, with_delivery}
use Rattle.book.specs.Keeping.{IsDeliverable}
use Rattle.book.specs.declared.change.Judgement.{Judgement}
use Rattle.tables.specs.Bodies.{body_with}
use Rattle.tables.specs.Rows.{Tables, Holds, tables_in}
use Rattle.tables.specs.declared.rows.BodyRow.{BodyRow}
use Rattle.tables.proofs.BookLemmas.{held_tables, is_archive}
use Rattle.tables_bodies.specs.AtOnce.{HasNoOtherPiece, IsOnePiece, is_new_at_once, with_delivery_at_once}
use Rattle.tables_bodies.specs.Counting.{arrival_counts}
use Rattle.tables_bodies.specs.UnderWay.{IsUnderWay}
use Rattle.tables_bodies.specs.declared.coming.Begun.{Begun}
use Rattle.tables_meaning.specs.Archives.{KeepsArchive, Turns, book_in_database}
use Rattle.tables_meaning.specs.Coming.{HasComing, with_coming}
use Rattle.tables_meaning.specs.Finished.{finished}
use Rattle.tables_meaning.specs.Kept.{IsBook, book_in, bytes_of, piece_count, pieces_for, pieces_of}
use Rattle.tables_meaning.specs.Making.{number_with, with_bytes, with_delivered}
use Rattle.tables_meaning.specs.Taking.{HasNoOther, listed_in}
use Rattle.tables_meaning.proofs.BodyLemmas.{HasBody, body_found}
use Rattle.tables_meaning.proofs.ComingLemmas.{no_number, none_coming}
use Rattle.tables_meaning.proofs.DeliveredLemmas.{KeepsDelivery, delivered_archive, numbered}
use Rattle.tables_meaning.proofs.FinishedLemmas.{kept_finished}
use Rattle.tables_meaning.proofs.SamePieces.{at_place, behind_place}
use Rattle.tables_meaning.proofs.UnderWayLemmas.{finished_under_way}
use Rattle.keep_tables.specs.AtOnce.{arrives_at_once}
use Rattle.keep_tables.proofs.FoundArrivals.{AreApart, bytes_keep, counts_if_some}

-- what is known of a body that arrives at once
pub none_if : (o : Option ℕ) → is_none o ≡ true → o ≡ None
none_if None is = refl
none_if (Some n) is = cc

pub at_once_tells : (begun : Option Begun) (body : List ℕ) → arrives_at_once begun body ≡ true → (option_and_then (λ (b : Begun). b.body) begun ≡ None) × (0 < length body) × (length body ≤ 65536)
at_once_tells begun body is =
    let free = is_none (option_and_then (λ (b : Begun). b.body) begun) in
    let some = and_parts (nat_le 1 (length body)) (nat_le (length body) 65536 && free) is in
    let small = and_parts (nat_le (length body) 65536) free some.1 in
    (none_if (option_and_then (λ (b : Begun). b.body) begun) small.1, leb-true 1 (length body) some.0, leb-true (length body) 65536 small.0)

-- if what is under way has no row, no body is coming
pub none_under : (t : Tables) (begun : Option Begun) → option_and_then (λ (b : Begun). b.body) begun ≡ None → IsUnderWay t begun → HasComing t []
none_under t None is coming = coming
none_under t (Some b) is begun =
    subst (HasComing t) (no_number begun.0 (finished t) (sym begun.1.comes.number ∙ is)) begun.1.comes.coming

-- if no body is coming, the rows are the finished ones
rows_finished : (t : Tables) → HasComing t [] → finished t ≡ t
unfolding with_coming
rows_finished t coming = sym coming.rows

-- the bytes of a body that lies in its pieces and is one piece
only_piece : (t : Tables) (id : ℕ) (bytes others : List ℕ) → pieces_of t id ≡ pieces_for id others → IsOnePiece t id bytes → others ≡ bytes
only_piece t id bytes others has one =
    let some : 0 < piece_count others = elim (cases_lt 0 (piece_count others)) [
      | inl some ↦ some
      | inr nil ↦ absurd (not_both (sym (behind_place t id others has 0 nil) ∙ one.first))
    ] in
    let few : piece_count others ≤ 1 = elim (cases_lt 1 (piece_count others)) [
      | inl more ↦ absurd (not_both (sym one.last ∙ at_place t id others has 1 more))
      | inr few ↦ few
    ] in
    sym (take_all 65536 others (omega (arith, few))) ∙ same_Some _ _ (sym (at_place t id others has 0 some) ∙ one.first)
  where
    not_both : {X : Type 0} {x : X} → None ≡ Some x → ⊥
    not_both e = cc

-- `old` is the connection, to whose database no body is coming. If a body of this print is stored it is one piece, of these bytes.
module _ (old : State) (settled : IsTrue old.is_open → old.now ≡ old.committed) (up : IsTrue old.is_open)
    (config : ConfigValue) (judged : List Judgement) (shown : ShelvesValue) (dates : List ℕ) (keeps : KeepsArchive old.committed config judged shown dates)
    (coming : HasComing (tables_in old.committed) []) (bytes : List ℕ) (print : Print) (printed : print ≡ print_of bytes)
    (fits : (t : Tables) → Holds old.now t → HasNoOtherPiece print bytes t) where
  abbrev was : Tables
  was = tables_in old.committed

  held_now : Holds old.now was
  held_now = subst (λ db. Holds db was) (sym (settled up)) keeps.held

  whole : finished was ≡ was
  whole = rows_finished was coming

  kept_now : IsBook was config judged shown dates
  kept_now = subst (λ t. IsBook t config judged shown dates) whole keeps.kept

  no_other : HasNoOther (print_of bytes) bytes was
  no_other found there =
      let row : HasBody was.bodies found (print_of bytes) = body_found (print_of bytes) was.bodies found there in
      let its : pieces_of was found ≡ pieces_for found (bytes_of was found) =
      subst (λ n. pieces_of was n ≡ pieces_for n (bytes_of was n)) row.number
      (All-contains (λ (x : ℕ × BodyRow). pieces_of was x.0 ≡ pieces_for x.0 (bytes_of was x.0)) was.bodies row.body kept_now.bodies.pieces row.within) in
      only_piece was found bytes (bytes_of was found) its (fits was held_now found (ap (λ p. body_with p was.bodies) printed ∙ there))

  module _ (name : List ℕ) (moment : ℕ) (in_time : moment ≤ latest) (deliverable : IsDeliverable name bytes) where
    abbrev delivers : Book → Book
    delivers b = with_delivery b (record { name = name; body = bytes; moment = moment })

    abbrev delivered : Tables
    delivered = with_delivered name (print_of bytes) bytes moment (listed_in name bytes) was

    keeps_delivery : KeepsDelivery was delivered config judged shown dates name bytes moment
    keeps_delivery = delivered_archive was config judged shown dates name bytes moment (listed_in name bytes) (numbered old.committed was keeps.held) kept_now in_time deliverable no_other refl

    module _ (db : Database) (done : (t : Tables) → Holds old.now t → Holds db (with_delivery_at_once name bytes print moment t)) where
      rows_are : tables_in db ≡ delivered
      rows_are = held_tables db (with_delivery_at_once name bytes print moment was) (done was held_now) ∙ ap (λ p. with_delivery_at_once name bytes p moment was) printed

      all_finished : finished (tables_in db) ≡ delivered
      all_finished = ap finished rows_are ∙ kept_finished delivered keeps_delivery.kept.bodies

      pub at_once_turns : Turns old.committed db config judged shown dates judged shown dates (λ b. with_delivery b (record { name = name; body = bytes; moment = moment }))
      at_once_turns = record {
        kept = record {
          held = is_archive db (with_delivery_at_once name bytes print moment was) (done was held_now);
          kept = subst (λ t. IsBook t config judged shown dates) (sym all_finished) keeps_delivery.kept;
          coming = finished_under_way (tables_in db) (all_finished ∙ sym rows_are);
        };
        book = ap (book_in config judged shown dates) all_finished ∙ keeps_delivery.book ∙ ap (λ t. delivers (book_in config judged shown dates t)) (sym whole);
      }

      pub at_once_ends : HasComing (tables_in db) []
      at_once_ends = none_coming (tables_in db) (all_finished ∙ sym rows_are)

    -- whether the arrival is new at the moment
    pub at_once_new : (new : Bool) → (seconds : Option ℕ) → seconds ≡ span config → ((t : Tables) → Holds old.now t → new ≡ is_new_at_once name bytes print seconds moment t)
        → new ≡ not (has_arrival (at_moment moment (book_in_database old.committed config judged shown dates)).arrivals (record { name = name; body = bytes; moment = moment }))
    unfolding at_moment book_in
    at_once_new new seconds same answer =
        let stored = with_bytes (print_of bytes) bytes was in
        let apart : AreApart stored.arrivals = subst AreApart (sym (bytes_keep (print_of bytes) bytes was)) kept_now.arrivals.apart in
        answer was held_now
        ∙ (λ i. not (arrival_counts (same i) moment name (number_with (printed i) (with_bytes (printed i) bytes was)) (with_bytes (printed i) bytes was)))
        ∙ ap not (counts_if_some stored apart (span config) moment name (number_with (print_of bytes) stored))
        ∙ ap not (keeps_delivery.known (span config) moment)
        ∙ ap (λ (t : Tables). not (has_arrival (at_moment moment (book_in config judged shown dates t)).arrivals (record { name = name; body = bytes; moment = moment }))) (sym whole)
