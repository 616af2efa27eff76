-- What is held between calls, as they leave it.
use Rattle.std.proofs.Common.{◌≡◌, ◌≢◌, ◌++◌, ℕ, Bool, true, false, true≢false, cond, not, if◌then◌else◌, List, [], ◌∷◌, filter, find, Option, None, Some, IfSome, Result, Ok, Err, is_ok, bytes_eq, Contains, inl, inr, refl, sym, ap, subst, ◌∙◌}
use Rattle.std.specs.Option.{option_map}
use Rattle.std.proofs.lemmas.List.Elements.{Contains-append_cases}
use Rattle.std.proofs.lemmas.List.Sorted.{Contains-permutation}
use Rattle.std.proofs.lemmas.Option.{same_Some}
use Rattle.std.proofs.lemmas.Slice.Eq.{bytes_eq-Decides}
use Rattle.std.proofs.lemmas.Bool.{not-true}
use Rattle.sqlite.specs.Effect.{Database}
use Rattle.sums.proofs.Members.{all_at, any_true, from_map, here, no_member, there, which}
use Rattle.sums.specs.Prints.{print as print_of, same_print}
use Rattle.sums.specs.declared.print.Print.{Print}
use Rattle.rules.specs.Values.{ConfigValue}
use Rattle.suites.proofs.ListMembers.{from_filter}
use Rattle.suites.specs.Shelves.{ShelvesValue}
use Rattle.indices.proofs.Apart.{found_of_apart}
use Rattle.indices.specs.Indices.{PathText, all_texts, index_text}
use Rattle.book.proofs.Prints.{same_print-Decides}
use Rattle.book.specs.Book.{Book, amended, dates_past, is_kept, shown_past, text_at}
use Rattle.book.specs.Keeping.{AreRenewed}
use Rattle.book.specs.declared.change.Change.{Change}
use Rattle.book.specs.declared.change.IndexText.{IndexText}
use Rattle.book.specs.declared.change.Judgement.{Judgement}
use Rattle.tables.specs.Rows.{Tables, tables_in}
use Rattle.tables_meaning.specs.Archives.{KeepsArchive, book_in_database}
use Rattle.tables_meaning.specs.Kept.{IsBook, book_in}
use Rattle.tables_meaning.specs.Shown.{shown_in}
use Rattle.tables_meaning.proofs.CallLemmas.{shown_here}
use Rattle.tables_meaning.proofs.PathLemmas.{config_paths}
use Rattle.tables_audit.specs.TextRows.{ArePrintsOf, IsPrintAmong, texts_in}
use Rattle.keep_tables.specs.AtHand.{AreAtHand, AreKnown, AreRenewedAtMost, NotesAtMost, is_of_another, is_print_of, is_renewed}
use Rattle.tables_audit.specs.declared.text_print.TextPrint.{TextPrint}

-- ---- shelves

-- no shelves are at hand
pub none_at_hand : (config : ConfigValue) (db : Database) (spare : Option ShelvesValue) → spare ≡ None → AreAtHand config db spare
none_at_hand config db spare is = subst (AreAtHand config db) (sym is) tt

-- the shelves that were taken out
pub taken_at_hand : (config : ConfigValue) (db : Database) (spare taken : Option ShelvesValue) → taken ≡ spare → AreAtHand config db spare → AreAtHand config db taken
taken_at_hand config db spare taken is are = subst (AreAtHand config db) (sym is) are

-- what is at hand stays so if another database keeps an archive that shows the same
pub still_at_hand : {config : ConfigValue} {judged : List Judgement} {dates : List ℕ} (old new : Database) (spare : Option ShelvesValue)
    → KeepsArchive new config judged (shown_in config.suites (tables_in old)) dates → AreAtHand config old spare → AreAtHand config new spare
still_at_hand old new spare kept are = subst (λ (s : ShelvesValue). IfSome spare (λ shelves. shelves ≡ s)) (sym (shown_here new kept)) are

-- ---- prints

-- no print is known
pub none_known : (config : ConfigValue) (shown : ShelvesValue) (dates : List ℕ) (prints : List TextPrint) → prints ≡ [] → AreKnown config shown dates prints
none_known config shown dates prints is p at = no_member p (subst (λ (xs : List TextPrint). Contains xs p) is at)

-- prints of texts in the rows of an archive are those of the texts at their paths
pub printed_known : (t : Tables) (config : ConfigValue) (judged : List Judgement) (shown : ShelvesValue) (dates : List ℕ) (prints : List TextPrint) → IsBook t config judged shown dates
    → ArePrintsOf (texts_in t.texts) prints → AreKnown config shown dates prints
unfolding index_text
printed_known t config judged shown dates prints kept printed p at =
    let all : List PathText = all_texts config shown dates in
    let one : IsPrintAmong (texts_in t.texts) p = all_at (IsPrintAmong (texts_in t.texts)) prints p printed at in
    let there : Contains all (p.path, one.text) = Contains-permutation (texts_in t.texts) all (p.path, one.text) kept.texts one.among in
    ap (option_map print_of) (found_of_apart all (p.path, one.text) (config_paths config kept.read shown dates) there) ∙ ap Some (sym one.print)

-- what is known stays so if another database keeps an archive that shows the same
pub still_known : {config : ConfigValue} {judged : List Judgement} {other : List ℕ} (old new : Database) (dates : List ℕ) (prints : List TextPrint)
    → KeepsArchive new config judged (shown_in config.suites (tables_in old)) other
    → AreKnown config (shown_in config.suites (tables_in old)) dates prints → AreKnown config (shown_in config.suites (tables_in new)) dates prints
still_known {config} old new dates prints kept known = subst (λ (s : ShelvesValue). AreKnown config s dates prints) (sym (shown_here new kept)) known

-- the print that is known at a path is that of the text there
pub known_is : (config : ConfigValue) (shown : ShelvesValue) (dates : List ℕ) (prints : List TextPrint) (path : List ℕ) → AreKnown config shown dates prints
    → IfSome (option_map (λ p. p.print) (find (is_print_of path) prints)) (λ q. option_map print_of (index_text config shown dates path) ≡ Some q)
known_is config shown dates [] path known = tt
known_is config shown dates (p ∷ ps) path known = at_path (bytes_eq p.path path) refl (known_is config shown dates ps path (λ q at. known q (there p q ps at)))
  where
    at_path : (b : Bool) → bytes_eq p.path path ≡ b
        → IfSome (option_map (λ q. q.print) (find (is_print_of path) ps)) (λ q. option_map print_of (index_text config shown dates path) ≡ Some q)
        → IfSome (option_map (λ (q : TextPrint). q.print) (cond b (Some p) (find (is_print_of path) ps))) (λ q. option_map print_of (index_text config shown dates path) ≡ Some q)
    at_path true is rest = ap (λ q. option_map print_of (index_text config shown dates q)) (sym ((bytes_eq-Decides p.path path).0 is)) ∙ known p (here p ps)
    at_path false is rest = rest

-- a print that is pushed, or not
pub pushed_at_most : {X E : Type 0} (old new : List TextPrint) (path : List ℕ) (print : Option Print) (own : Print) (copy : List ℕ) → print ≡ Some own → copy ≡ path
    → (r : Result X E) → new ≡ (if is_ok r then old ++ record { path = copy; print = own } ∷ [] else old) → NotesAtMost old path print new
pushed_at_most old new path print own copy is same (Ok x) made p at =
    let one : TextPrint = record { path = copy; print = own } in
    elim (Contains-append_cases old (one ∷ []) p (subst (λ (xs : List TextPrint). Contains xs p) made at)) [
      | inl before ↦ inl before
      | inr last ↦ elim (which one p [] last) [
        | inl it ↦ inr (ap (λ (t : TextPrint). t.path) (sym it) ∙ same, is ∙ ap (λ (t : TextPrint). Some t.print) it)
        | inr none ↦ no_member p none
      ]
    ]
pushed_at_most old new path print own copy is same (Err e) made p at = inl (subst (λ (xs : List TextPrint). Contains xs p) made at)

-- what is noted is known
pub noted_known : (config : ConfigValue) (shown : ShelvesValue) (dates : List ℕ) (old new : List TextPrint) (path : List ℕ) (print : Option Print) → NotesAtMost old path print new
    → print ≡ option_map print_of (index_text config shown dates path) → AreKnown config shown dates old → AreKnown config shown dates new
noted_known config shown dates old new path print notes is known p at = elim (notes p at) [
  | inl before ↦ known p before
  | inr it ↦ ap (λ q. option_map print_of (index_text config shown dates q)) it.0 ∙ sym is ∙ it.1
]

no_two : (b : Bool) → b ≡ true → not b ≡ true → ⊥
no_two b is is_not = true≢false (sym is_not ∙ ap not is)

-- a print that is known of another text says that this one is not there
pub other_kept : (kept : Option (List ℕ)) (known : Option Print) (text : IndexText) → is_of_another known text ≡ true → IfSome known (λ p. option_map print_of kept ≡ Some p)
    → is_kept kept text.text ≡ false
unfolding is_kept
other_kept kept None text other here = absurd (true≢false (sym other))
other_kept None (Some p) text other here = refl
other_kept (Some body) (Some p) text other here = by_case (bytes_eq body text.text) refl
  where
    by_case : (b : Bool) → bytes_eq body text.text ≡ b → bytes_eq body text.text ≡ false
    by_case false is = is
    by_case true is =
        let same : print_of body ≡ text.print = ap print_of ((bytes_eq-Decides body text.text).0 is) ∙ sym text.printed in
        absurd (no_two (same_print p text.print) ((same_print-Decides p text.print).1 (same_Some p (print_of body) (sym here) ∙ same)) other)

-- ---- what a change renews

-- what is forgotten first
pub forgotten : (old new : List TextPrint) (texts : List IndexText) → new ≡ filter (λ p. not (is_renewed texts p.path)) old → AreRenewedAtMost old texts new
forgotten old new texts is p at =
    let was = from_filter (λ (q : TextPrint). not (is_renewed texts q.path)) p old (subst (λ (ps : List TextPrint). Contains ps p) is at) in
    inl (was.0, not-true (is_renewed texts p.path) was.1)

-- one more of the texts is noted
pub noted_more : (old now new : List TextPrint) (texts : List IndexText) (text : IndexText) → Contains texts text → NotesAtMost now text.path (Some text.print) new
    → AreRenewedAtMost old texts now → AreRenewedAtMost old texts new
noted_more old now new texts text member notes before p at = elim (notes p at) [
  | inl there ↦ before p there
  | inr own ↦ inr (text, member, record { path = own.0; print = same_Some p.print text.print (sym own.1) })
]

-- the prints of what a change renews are known, and the other texts stay
known_amended : (book : Book) (change : Change) (old new : List TextPrint) → AreRenewed book (amended book change) change.texts → AreRenewedAtMost old change.texts new
    → AreKnown book.config book.shown book.dates old → AreKnown book.config (shown_past book.shown change.steps) (dates_past change.moment book.dates change.steps) new
unfolding amended
known_amended book change old new renewed notes known p at =
    let now = index_text book.config (shown_past book.shown change.steps) (dates_past change.moment book.dates change.steps) in
    elim (notes p at) [
      | inl was ↦ elim (renewed.rest p.path) [
        | inl named ↦
            let text = from_map (λ (t : IndexText). t.path) p.path change.texts named in
            absurd (true≢false (sym (any_true (λ (t : IndexText). bytes_eq t.path p.path) change.texts text.0 text.1 ((bytes_eq-Decides text.0.path p.path).1 text.2)) ∙ was.1))
        | inr same ↦ ap (option_map print_of) (sym same) ∙ known p was.0
      ]
      | inr own ↦
          let text : IndexText = own.0 in
          let there : now text.path ≡ Some text.text = (all_at (λ (t : IndexText). (text_at (amended book change) t.path ≡ Some t.text) × (text_at book t.path ≢ Some t.text)) change.texts text renewed.named own.1).0 in
          ap (λ path. option_map print_of (now path)) own.2.path ∙ ap (option_map print_of) there ∙ ap Some (sym text.printed ∙ sym own.2.print)
    ]

pub known_past : (db : Database) (config : ConfigValue) (judged : List Judgement) (shown : ShelvesValue) (dates : List ℕ) (change : Change) (old new : List TextPrint)
    → AreRenewed (book_in_database db config judged shown dates) (amended (book_in_database db config judged shown dates) change) change.texts → AreRenewedAtMost old change.texts new
    → AreKnown config shown dates old → AreKnown config (shown_past shown change.steps) (dates_past change.moment dates change.steps) new
unfolding book_in
known_past db config judged shown dates change old new renewed notes known = known_amended (book_in_database db config judged shown dates) change old new renewed notes known
