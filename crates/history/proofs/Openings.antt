-- The book in which nothing is yet, as the opening of a history.
use Rattle.std.proofs.Common.{◌≡◌, ℕ, List, [], map, refl, sym, ap, ◌∙◌, Option, None, length, replicate, arith}
use mathlib.Core.Path.{fun_ext}
use Rattle.std.specs.FinMap.{empty, get, get-empty}
use Rattle.rules.specs.Values.{ConfigValue}
use Rattle.suites.specs.Keys.{key_order, text_order}
use Rattle.suites.specs.Pool.{pool_of, files_with}
use Rattle.suites.specs.declared.key.ShelfKey.{ShelfKey}
use Rattle.suites.specs.Shelves.{ShelvesValue, shown}
use Rattle.suites.proofs.SharedLemmas.{entries-empty}
use Rattle.book.specs.Book.{Book}
use Rattle.book.specs.Book.{fresh_book}
use Rattle.book.specs.Keeping.{NoCollision}
use Rattle.history.specs.Answers.{IsFaithful, IsOpening}
use Rattle.history.specs.Archives.{BodyItem, PlainArchive, Stands, all_acts, archive, archive_of, book_from, book_of, shown_by_print, with_bodies, pool_in}
use Rattle.history.specs.Histories.{Call, arrived, bodies_of, opened_with}

nothing : (config : ConfigValue) (moment : ℕ) → PlainArchive
nothing config moment = record { admitted = []; judged = []; dates = replicate (length config.suites) moment }

made : (config : ConfigValue) (moment : ℕ) → archive_of (fresh_book config moment) ≡ nothing config moment
unfolding archive_of fresh_book nothing
made config moment =
    ap (λ es. record { admitted = map (λ e. (e.0, with_bodies (fresh_book config moment) e.1)) es; judged = []; dates = replicate (length config.suites) moment })
    (entries-empty key_order _)

shows_nothing : (config : ConfigValue) (moment : ℕ) → empty ≡ shown_by_print (nothing config moment)
unfolding nothing shown_by_print shown
shows_nothing config moment = refl

no_files : (config : ConfigValue) (moment : ℕ) (path : List ℕ) → None ≡ get (pool_in (nothing config moment)) path
unfolding nothing shown
no_files config moment path =
    sym (ap (λ (es : List (ShelfKey × BodyItem)). get (pool_of (files_with (map (λ e. e.1) es))) path) (entries-empty key_order BodyItem) ∙ get-empty text_order path)

from_nothing : (config : ConfigValue) (moment : ℕ) → fresh_book config moment ≡ book_from config [] (nothing config moment)
unfolding fresh_book book_from nothing
from_nothing config moment =
    let book : ShelvesValue → (List ℕ → Option (List ℕ)) → Book = λ shown files. record {
      config = config;
      arrivals = [];
      judged = [];
      shown = shown;
      files = files;
      dates = replicate (length config.suites) moment;
    } in
    ap (λ shown. book shown (λ path. None)) (shows_nothing config moment)
    ∙ ap (book (shown_by_print (nothing config moment))) (fun_ext (no_files config moment))

pub fresh_stands : (config : ConfigValue) (moment : ℕ) → Stands (fresh_book config moment) (record { opening = fresh_book config moment; steps = [] })
unfolding fresh_book book_of book_from archive all_acts arrived
fresh_stands config moment = from_nothing config moment ∙ ap (book_from config []) (sym (made config moment))

pub fresh_opening : (config : ConfigValue) (moment : ℕ) (bodies : List (List ℕ)) → IsOpening bodies (fresh_book config moment)
unfolding fresh_book
fresh_opening config moment bodies = record {
  known = record { arrivals = λ a h. absurd (omega (arith, h.1)); files = λ path body e. cc };
  whole = fresh_stands config moment;
}

-- calls of a history that opens with it are faithful, if no two bodies of these calls have one print
pub faithful_anew : (config : ConfigValue) (moment : ℕ) (calls : List Call) → NoCollision (bodies_of calls) → IsFaithful (opened_with (fresh_book config moment)) calls
faithful_anew config moment calls apart = record {
  bodies = bodies_of calls;
  apart = apart;
  opened = fresh_opening config moment (bodies_of calls);
  delivered = λ body there. there;
}
