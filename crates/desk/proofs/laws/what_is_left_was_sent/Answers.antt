-- The request of a reader's bytes is one.
use Rattle.std.proofs.Common.{◌≡◌, ℕ, List, [], ◌∷◌, Option, Some, sym, subst, ◌∙◌}
use Rattle.std.specs.Prelude.{⊤}
use Rattle.book.specs.Book.{Book}
use Rattle.queue.specs.Answers.{IsFaithful, answer}
use Rattle.queue.specs.Archives.{book_of}
use Rattle.queue.specs.Histories.{History, followed}
use Rattle.desk.specs.Calls.{call_wanted}
use Rattle.desk.specs.Request.{Asked, IsRequest, asks}
use Rattle.desk.proofs.UniqueLemmas.{one_request}
use Rattle.desk.proofs.laws.what_is_left_was_sent.Goals as goal

-- what was left is the book with what is asked for
abbrev Stands : History → ℕ → Option Book → Asked → Type 0
Stands h moment left (asks want body) = IsFaithful h (call_wanted want body moment ∷ []) → left ≡ Some (book_of (followed h (call_wanted want body moment) (answer h (call_wanted want body moment))))
Stands h moment left asked = ⊤

pub returns : goal.returns
returns c desk_rules h bytes gives want other body moment left read it =
    let same = one_request desk_rules read.bytes read.used it.read.used (asks want body) (asks other it.body) read.is
    (subst (λ (b : List ℕ). IsRequest desk_rules b it.read.used (asks other it.body)) (sym it.read.given ∙ read.given) it.read.is) in
    subst (λ (asked : Asked). Stands h moment left asked) same.1 it.stands
