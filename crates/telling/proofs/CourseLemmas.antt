-- What is said of what was read of a book.
use Rattle.std.proofs.Common.{◌≡◌, ◌⊎◌, ℕ, Bool, true, false, ◌||◌, if◌then◌else◌, List, [], ◌++◌, Option, Some, None, Result, Ok, inl, inr, sym, ap, ◌∙◌}
use Rattle.std.specs.List.{list_any}
use Rattle.book.specs.Book.{Book, waiting_list, arrived_in}
use Rattle.book.specs.declared.arrival.Counting.{Counting}
use Rattle.book.specs.declared.arrived.ArrivedFile.{ArrivedFile}
use Rattle.book.specs.declared.change.Waiting.{Waiting}
use Rattle.telling.specs.Course.{IsCourse}
use Rattle.telling.specs.Why.{counting_at, is_asked, is_known, is_named, judged_told, waits_texts, waits_told, why_told}
use Rattle.telling.specs.declared.fault.TellFault.{TellFault}
use Rattle.telling.specs.declared.why.Course.{Course}

-- an answer with this text
pub told_as : (a b : Option (List ℕ)) → a ≡ b → ◌≡◌ {A = Result (Option (List ℕ)) TellFault} (Ok a) (Ok b)
told_as a b e = ap {B = Result (Option (List ℕ)) TellFault} (λ (o : Option (List ℕ)). Ok o) e

module _ (moment : ℕ) (book : Book) (wanted : Option (List ℕ)) (is_json : Bool) (course : Course) (is : IsCourse moment book course) where
  -- what waits is said by what was read of the book
  course_told : (course.waiting.items ≡ []) ⊎ (course.arrived.items ≡ arrived_in book)
      → waits_texts course.counting course.arrived.items wanted is_json course.waiting.items ≡ waits_told moment book wanted is_json
  course_told (inl none) =
      ap (λ (ws : List Waiting). waits_texts course.counting course.arrived.items wanted is_json ws) none
      ∙ ap (λ (ws : List Waiting). waits_texts (counting_at moment book) (arrived_in book) wanted is_json ws) (sym none ∙ is.waiting)
  course_told (inr files) =
      ap (λ (c : Counting). waits_texts c course.arrived.items wanted is_json course.waiting.items) is.counting
      ∙ ap (λ (fs : List ArrivedFile). waits_texts (counting_at moment book) fs wanted is_json course.waiting.items) files
      ∙ ap (λ (ws : List Waiting). waits_texts (counting_at moment book) (arrived_in book) wanted is_json ws) is.waiting

  module _ (start out : List ℕ) (empty : start ≡ []) (said : out ≡ start ++ waits_texts course.counting course.arrived.items wanted is_json course.waiting.items) where
    waits_said : out ≡ waits_told moment book wanted is_json
    waits_said =
        said
        ∙ ap (λ (bs : List ℕ). bs ++ waits_texts course.counting course.arrived.items wanted is_json course.waiting.items) empty
        ∙ course_told is.arrived_if

    -- if no name is asked for, there is a text
    pub why_of_all : wanted ≡ None → Some out ≡ why_told moment book wanted is_json
    unfolding why_told
    why_of_all none =
        ap (λ (bs : List ℕ). Some bs) waits_said
        ∙ ap (λ (n : Option (List ℕ)). Some (waits_told moment book n is_json)) none
        ∙ ap (λ (n : Option (List ℕ)). why_told moment book n is_json) (sym none)

    module _ (name : List ℕ) (named : wanted ≡ Some name) (later : Book) (same : later ≡ book) (now : List ℕ) (also : now ≡ out ++ judged_told later name is_json)
        (waits judged : Bool) (waits_is : waits ≡ list_any (is_asked wanted) course.waiting.items) (judged_is : judged ≡ list_any (is_named name) later.judged) where
      known_is : (waits || judged) ≡ is_known moment book name
      known_is =
          ap (λ (b : Bool). b || judged)
          (waits_is ∙ ap (λ (ws : List Waiting). list_any (is_asked wanted) ws) is.waiting ∙ ap (λ (n : Option (List ℕ)). list_any (is_asked n) (waiting_list moment book)) named)
          ∙ ap (λ (b : Bool). list_any (is_asked (Some name)) (waiting_list moment book) || b) (judged_is ∙ ap (λ (b : Book). list_any (is_named name) b.judged) same)

      abbrev said_if : Bool → Option (List ℕ)
      said_if known = if known then Some (waits_told moment book (Some name) is_json ++ judged_told book name is_json) else None

      all_said : now ≡ waits_told moment book (Some name) is_json ++ judged_told book name is_json
      all_said =
          also
          ∙ ap (λ (bs : List ℕ). bs ++ judged_told later name is_json) (waits_said ∙ ap (λ (n : Option (List ℕ)). waits_told moment book n is_json) named)
          ∙ ap (λ (b : Book). waits_told moment book (Some name) is_json ++ judged_told b name is_json) same

      -- of a name that an upload has
      pub why_of_name : (waits || judged) ≡ true → Some now ≡ why_told moment book wanted is_json
      unfolding why_told
      why_of_name known =
          ap (λ (bs : List ℕ). Some bs) all_said ∙ ap said_if (sym known ∙ known_is) ∙ ap (λ (n : Option (List ℕ)). why_told moment book n is_json) (sym named)

      -- of a name that no upload has
      pub why_of_none : (waits || judged) ≡ false → None ≡ why_told moment book wanted is_json
      unfolding why_told
      why_of_none known = ap said_if (sym known ∙ known_is) ∙ ap (λ (n : Option (List ℕ)). why_told moment book n is_json) (sym named)

pub by_first : (a b : Bool) → a ≡ true → (a || b) ≡ true
by_first a b h = ap (λ (x : Bool). x || b) h
