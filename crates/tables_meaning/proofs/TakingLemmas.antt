-- From a transaction that takes a delivery to what a database keeps.
use Rattle.std.proofs.Common.{◌≡◌, ℕ, ◌+◌, ◌%◌, ◌<◌, ◌≤◌, Bool, List, [], ◌∷◌, ◌++◌, length, Option, Some, None, unwrap_or, not, ◌&&◌, true, IsTrue, Result, Ok, Err, IfOk, OnOk, refl, sym, ap, subst, ◌∙◌, arith}
use Rattle.std.specs.List.{list_any}
use Rattle.sqlite.specs.Effect.{Database}
use Rattle.sqlite.specs.State.{State, HasCleanDisk, Survives}
use Rattle.sqlite.specs.Store.{Ghosts}
use Rattle.sqlite.specs.Held.{Held, state}
use Rattle.sqlite.proofs.StateLemmas.{survives_weaker}
use Rattle.rules.specs.Values.{ConfigValue}
use Rattle.sums.specs.Prints.{print as print_of}
use Rattle.suites.specs.Shelves.{ShelvesValue}
use Rattle.book.specs.Book.{at_moment, has_arrival, latest, span, with_delivery}
use Rattle.book.specs.Keeping.{IsDeliverable}
use Rattle.book.specs.declared.change.Judgement.{Judgement}
use Rattle.std.proofs.lemmas.List.Elements.{All-contains}
use Rattle.sums.specs.declared.print.Print.{Print}
use Rattle.tables.specs.Arrivals.{is_arrival}
use Rattle.tables.specs.Bodies.{body_with}
use Rattle.tables.specs.Rows.{Tables, Changes, Holds, next_in, tables_in}
use Rattle.tables.specs.declared.rows.ArrivalRow.{ArrivalRow}
use Rattle.tables.specs.declared.rows.BodyRow.{BodyRow}
use Rattle.tables.proofs.BookLemmas.{held_tables, is_archive}
use Rattle.tables_meaning.specs.Archives.{KeepsArchive, Turns, book_in_database}
use Rattle.tables_meaning.specs.Cleaning.{counts_row}
use Rattle.tables_meaning.specs.Coming.{Comes, HasComing, HasSamePieces, IsNoOther, IsSameAs, coming_number, ended_number, with_coming, with_ended, with_finished, with_next_piece}
use Rattle.tables_meaning.specs.Finished.{AreUnderWay, finished, without_all, without_whole}
use Rattle.tables_meaning.specs.Kept.{IsBook, book_in, bytes_of, has_body, pieces_for, pieces_of}
use Rattle.tables_meaning.specs.Making.{number_with, with_bytes, with_delivered}
use Rattle.tables_meaning.specs.Taking.{HasNoOther, listed_in}
use Rattle.tables_meaning.specs.Transactions.{MayCommit}
use Rattle.tables_meaning.proofs.BodyLemmas.{HasBody, body_found, has_body_if, row_of_found}
use Rattle.tables_meaning.proofs.ComingLemmas.{AreWhole, coming_finished, coming_more, coming_pieces, coming_removed, coming_under_way, count_more, ended_numbered, ended_stored, finished_delivered, no_number, none_coming, number_first, number_more, whole_rows}
use Rattle.tables_meaning.proofs.Commits.{survives_commit}
use Rattle.tables_meaning.proofs.DeliveredLemmas.{KeepsDelivery, delivered_archive, numbered}
use Rattle.tables_meaning.proofs.FinishedLemmas.{body_finished, finished_numbered, finished_rises, finished_twice, kept_finished, pieces_finished}
use Rattle.tables_meaning.proofs.SamePieces.{no_bytes, same_bytes}
use Rattle.tables_meaning.proofs.UnderWayLemmas.{finished_under_way}

-- two facts about one answer
pub both_on : {X E P R : Type 0} {Q : X → Type 0} (r : Result X E) → OnOk r P → IfOk r Q → (P → (x : X) → Q x → R) → OnOk r R
both_on (Ok x) p q f = f p x q
both_on (Err e) p q f = tt

pub both_if : {X E P : Type 0} {Q R : X → Type 0} (r : Result X E) → OnOk r P → IfOk r Q → (P → (x : X) → Q x → R x) → IfOk r R
both_if (Ok x) p q f = f p x q
both_if (Err e) p q f = tt

-- A crash leaves what was committed before, or what the commit writes, and then the rows before were such as the call found.
-- `old` is the connection before the transaction, `begun` as it begins, `mid` after the call inside, `last` after the commit,
-- and `new` at the return.
module _ {S : Type 0} (g : Ghosts S) (old begun mid last new : Held S) (is : begun ≡ record old { in_transaction = true }) (same : last ≡ new) where
  pub survives_found : (change : Tables → Tables) (Fits : Tables → Type 0)
      → (HasCleanDisk (state g mid) → IsTrue (state g begun).in_transaction → Changes (state g begun) (state g mid) change × ((t : Tables) → Holds (state g begun).now t → Fits t))
      → Survives (state g mid) (state g last) (λ db. db ≡ (state g mid).now.trees) → Survives (state g begun) (state g mid) (λ _. ⊥)
      → Survives (state g old) (state g new) (λ trees. MayCommit (state g old) change trees × ((t : Tables) → Holds (state g old).now t → Fits t))
  survives_found change Fits did commit within =
      survives_weaker (state g old) (state g new) (MayCommit (state g old) change) (λ trees. MayCommit (state g old) change trees × ((t : Tables) → Holds (state g old).now t → Fits t))
      (λ clean trees may. (
        may,
        λ t held.
            let late : HasCleanDisk (state g last) = subst (λ (h : Held S). HasCleanDisk (state g h)) (sym same) clean in
            let early : HasCleanDisk (state g mid) = omega (arith, commit.clean, late) in
            let inside : IsTrue (state g begun).in_transaction = subst (λ (h : Held S). IsTrue h.in_transaction) (sym is) refl in
            (did early inside).1 t (subst (λ (h : Held S). Holds (state g h).now t) (sym is) held),
      ))
      (survives_commit g old begun mid last new is same change (λ early inside. (did early inside).0) commit within)

-- an equal database keeps the same archive
pub same_archive : (before after : Database) → after ≡ before → {config : ConfigValue} {judged : List Judgement} {shown : ShelvesValue} {dates : List ℕ}
    → KeepsArchive before config judged shown dates → Turns before after config judged shown dates judged shown dates (λ b. b)
same_archive before after same {config} {judged} {shown} {dates} keeps = record {
  kept = subst (λ db. KeepsArchive db config judged shown dates) (sym same) keeps;
  book = ap (λ db. book_in_database db config judged shown dates) same;
}

-- a body without a number has no byte
pub nothing_came : (before after : Database) → after ≡ before → (count : ℕ) (bytes : List ℕ) → Comes (tables_in before) None count bytes → HasComing (tables_in after) []
nothing_came before after same count bytes comes =
    subst (λ db. HasComing (tables_in db) []) (sym same) (subst (HasComing (tables_in before)) (no_number bytes (finished (tables_in before)) (sym comes.number)) comes.coming)

-- `old` is the connection, to whose database a body of these bytes is coming.
module _ (old : State) (settled : IsTrue old.is_open → old.now ≡ old.committed) (up : IsTrue old.is_open)
    (config : ConfigValue) (judged : List Judgement) (shown : ShelvesValue) (dates : List ℕ) (keeps : KeepsArchive old.committed config judged shown dates)
    (body : Option ℕ) (count : ℕ) (bytes : List ℕ) (comes : Comes (tables_in old.committed) body count bytes) where
  abbrev was : Tables
  was = tables_in old.committed

  abbrev left : Tables
  left = finished was

  held_now : Holds old.now was
  held_now = subst (λ db. Holds db was) (sym (settled up)) keeps.held

  whole : AreWhole left
  whole = whole_rows left (finished_rises was keeps.held.rows.bodies.rise) keeps.kept.bodies

  twice : finished left ≡ left
  twice = finished_twice was

  -- the database keeps the same archive and the same book
  abbrev Same : Database → Type 0
  Same db = Turns old.committed db config judged shown dates judged shown dates (λ b. b)

  same_turn : (db : Database) (new : Tables) → Holds db new → finished new ≡ left → AreUnderWay new → Same db
  same_turn db new held same under =
      let is : finished (tables_in db) ≡ left = ap finished (held_tables db new held) ∙ same in
      record {
        kept = record {
          held = is_archive db new held;
          kept = subst (λ t. IsBook t config judged shown dates) (sym is) keeps.kept;
          coming = subst AreUnderWay (sym (held_tables db new held)) under;
        };
        book = ap (book_in config judged shown dates) is;
      }

  -- ---- the next piece

  module _ (piece : List ℕ) (full : length bytes % 65536 ≡ 0) (some : 0 < length piece) (small : length piece ≤ 65536) where
    abbrev longer : Tables
    longer = with_next_piece body (count + 1) piece was

    longer_is : longer ≡ with_coming (bytes ++ piece) left
    longer_is = (λ i. with_next_piece (comes.number i) (comes.count i + 1) piece (comes.coming.rows i)) ∙ coming_more left bytes piece full some small

    longer_finished : finished longer ≡ left
    longer_finished = ap finished longer_is ∙ coming_finished (bytes ++ piece) left whole twice

    pub piece_turns : (db : Database) → ((t : Tables) → Holds old.now t → Holds db (with_next_piece body (count + 1) piece t)) → Same db
    piece_turns db done = same_turn db longer (done was held_now) longer_finished (subst AreUnderWay (sym longer_is) (coming_under_way (bytes ++ piece) left whole))

    pub piece_comes : (db : Database) → ((t : Tables) → Holds old.now t → Holds db (with_next_piece body (count + 1) piece t)) → (id : ℕ)
        → ((t : Tables) → Holds old.now t → id ≡ unwrap_or body (next_in t.bodies)) → Comes (tables_in db) (Some id) (count + 1) (bytes ++ piece)
    piece_comes db done id answer =
        let is : tables_in db ≡ longer = held_tables db longer (done was held_now) in
        let same : finished (tables_in db) ≡ left = ap finished is ∙ longer_finished in
        record {
          coming = record { rows = is ∙ longer_is ∙ ap (with_coming (bytes ++ piece)) (sym same) };
          number =
              ap Some (answer was held_now ∙ (λ i. unwrap_or (comes.number i) (next_in (comes.coming.rows i).bodies)) ∙ number_first left bytes)
              ∙ sym (number_more left bytes piece some) ∙ ap (coming_number (bytes ++ piece)) (sym same);
          count = ap (λ n. n + 1) comes.count ∙ sym (count_more bytes piece full some small);
        }

  -- ---- its end without an arrival

  module _ (id : ℕ) (numbered : body ≡ Some id) where
    shorter_is : without_whole id was ≡ left
    shorter_is = ap (without_whole id) comes.coming.rows ∙ coming_removed bytes left id whole (sym comes.number ∙ numbered)

    shorter_finished : finished (without_whole id was) ≡ left
    shorter_finished = ap finished shorter_is ∙ twice

    pub removed_turns : (db : Database) → ((t : Tables) → Holds old.now t → Holds db (without_all (id ∷ []) t)) → Same db
    removed_turns db done = same_turn db (without_whole id was) (done was held_now) shorter_finished (finished_under_way (without_whole id was) (shorter_finished ∙ sym shorter_is))

    pub removed_all : (db : Database) → ((t : Tables) → Holds old.now t → Holds db (without_all (id ∷ []) t)) → HasComing (tables_in db) []
    removed_all db done =
        let is : tables_in db ≡ left = held_tables db (without_whole id was) (done was held_now) ∙ shorter_is in
        none_coming (tables_in db) (ap finished is ∙ twice ∙ sym is)

  -- ---- its arrival

  -- a body of its print that is stored has its bytes
  stored_same : (found : ℕ) → (o : Option ℕ) → body ≡ o → body_with (print_of bytes) left.bodies ≡ Some found → IsSameAs o count found was → bytes_of left found ≡ bytes
  stored_same found o is there same = by o is same
    where
      row : HasBody left.bodies found (print_of bytes)
      row = body_found (print_of bytes) left.bodies found there

      here : has_body left found ≡ true
      here = has_body_if left found (row_of_found row)

      its_pieces : pieces_of was found ≡ pieces_for found (bytes_of left found)
      its_pieces =
          sym (pieces_finished was keeps.held.rows.bodies.rise found here)
          ∙ subst (λ n. pieces_of left n ≡ pieces_for n (bytes_of left n)) row.number
          (All-contains (λ (x : ℕ × BodyRow). pieces_of left x.0 ≡ pieces_for x.0 (bytes_of left x.0)) left.bodies row.body keeps.kept.bodies.pieces row.within)

      by : (o : Option ℕ) → body ≡ o → IsSameAs o count found was → bytes_of left found ≡ bytes
      by None none same = no_bytes was found (bytes_of left found) its_pieces same ∙ sym (no_number bytes left (sym comes.number ∙ none))
      by (Some id) is same =
          let its : pieces_of was id ≡ pieces_for id bytes = ap (λ t. pieces_of t id) comes.coming.rows ∙ coming_pieces bytes left id whole (sym comes.number ∙ is) in
          same_bytes was id found bytes (bytes_of left found) its its_pieces (subst (HasSamePieces was id found) comes.count same)

  module _ (name : List ℕ) (print : Print) (moment : ℕ) (printed : print ≡ print_of bytes) (in_time : moment ≤ latest) (deliverable : IsDeliverable name bytes)
      (fits : (t : Tables) → Holds old.now t → IsNoOther body count print t) where
    no_other : HasNoOther (print_of bytes) bytes left
    no_other found there =
        stored_same found body refl there
        (fits was held_now found (ap (λ p. body_with p was.bodies) printed ∙ sym (body_finished (print_of bytes) was) ∙ there))

    abbrev delivered : Tables
    delivered = with_delivered name (print_of bytes) bytes moment (listed_in name bytes) left

    keeps_delivery : KeepsDelivery left delivered config judged shown dates name bytes moment
    keeps_delivery =
        delivered_archive left config judged shown dates name bytes moment (listed_in name bytes) (finished_numbered was (numbered old.committed was keeps.held)) keeps.kept in_time deliverable no_other refl

    delivered_is : with_finished name body print moment was ≡ delivered
    delivered_is = (λ i. with_finished name (comes.number i) (printed i) moment (comes.coming.rows i)) ∙ finished_delivered name (print_of bytes) bytes moment left whole twice

    abbrev Delivers : Database → Type 0
    Delivers db = Turns old.committed db config judged shown dates judged shown dates (λ b. with_delivery b (record { name = name; body = bytes; moment = moment }))

    module _ (db : Database) (done : (t : Tables) → Holds old.now t → Holds db (with_finished name body print moment t)) where
      rows_are : tables_in db ≡ delivered
      rows_are = held_tables db (with_finished name body print moment was) (done was held_now) ∙ delivered_is

      all_finished : finished (tables_in db) ≡ delivered
      all_finished = ap finished rows_are ∙ kept_finished delivered keeps_delivery.kept.bodies

      -- what a database keeps that holds the changed rows
      pub delivery_turns : Delivers db
      delivery_turns = record {
        kept = record {
          held = is_archive db (with_finished name body print moment was) (done was held_now);
          kept = subst (λ t. IsBook t config judged shown dates) (sym all_finished) keeps_delivery.kept;
          coming = finished_under_way (tables_in db) (all_finished ∙ sym rows_are);
        };
        book = ap (book_in config judged shown dates) all_finished ∙ keeps_delivery.book;
      }

      pub delivery_ends : HasComing (tables_in db) []
      delivery_ends = none_coming (tables_in db) (all_finished ∙ sym rows_are)

    -- whether the arrival is new at the moment
    pub delivery_new : (new : Bool)
        → ((t : Tables) → Holds old.now t
        → new ≡ not (list_any (λ x. is_arrival name (ended_number body print t) x.1 && counts_row (span config) moment x.1) (with_ended body print t).arrivals))
        → new ≡ not (has_arrival (at_moment moment (book_in_database old.committed config judged shown dates)).arrivals (record { name = name; body = bytes; moment = moment }))
    unfolding at_moment book_in
    delivery_new new answer =
        let number : ended_number body print was ≡ number_with (print_of bytes) (with_bytes (print_of bytes) bytes left) =
        (λ i. ended_number (comes.number i) (printed i) (comes.coming.rows i)) ∙ ended_numbered bytes left (print_of bytes) whole twice in
        let rows : with_ended body print was ≡ with_bytes (print_of bytes) bytes left =
        (λ i. with_ended (comes.number i) (printed i) (comes.coming.rows i)) ∙ ended_stored bytes left (print_of bytes) whole twice in
        answer was held_now
        ∙ (λ i. not (list_any (λ (x : ℕ × ArrivalRow). is_arrival name (number i) x.1 && counts_row (span config) moment x.1) (rows i).arrivals))
        ∙ ap not (keeps_delivery.known (span config) moment)
