-- What is held of the rows between calls.
use Rattle.std.specs.Prelude.{◌≡◌, ◌⊎◌, ℕ, Bool, false, not, List, Option, None, Some, IfSome, Contains, bytes_eq}
use Rattle.std.specs.List.{list_any}
use Rattle.std.specs.Option.{option_map}
use Rattle.sqlite.specs.Effect.{Database}
use Rattle.sums.specs.Prints.{print as print_of, same_print}
use Rattle.sums.specs.declared.print.Print.{Print}
use Rattle.rules.specs.Values.{ConfigValue}
use Rattle.suites.specs.Shelves.{ShelvesValue}
use Rattle.indices.specs.Indices.{index_text}
use Rattle.book.specs.declared.change.IndexText.{IndexText}
use Rattle.tables.specs.Rows.{tables_in}
use Rattle.tables_meaning.specs.Shown.{shown_in}
use Rattle.tables_audit.specs.declared.text_print.TextPrint.{TextPrint}

-- If shelves are at hand, they are what the rows show.
abbrev pub AreAtHand : ConfigValue → Database → Option ShelvesValue → Type 0
AreAtHand config db spare = IfSome spare (λ shelves. shelves ≡ shown_in config.suites (tables_in db))

-- The prints that are known are those of the index texts at their paths, of what is shown and these dates.
abbrev pub AreKnown : ConfigValue → ShelvesValue → List ℕ → List TextPrint → Type 0
AreKnown config shown dates prints = (p : TextPrint) → Contains prints p → option_map print_of (index_text config shown dates p.path) ≡ Some p.print

-- the print is that of the text at this path
abbrev pub is_print_of : List ℕ → TextPrint → Bool
is_print_of path p = bytes_eq p.path path

-- what is known is the print of another text
abbrev pub is_of_another : Option Print → IndexText → Bool
is_of_another None text = false
is_of_another (Some print) text = not (same_print print text.print)

-- the path is that of one of these texts
abbrev pub is_renewed : List IndexText → List ℕ → Bool
is_renewed texts path = list_any (λ t. bytes_eq t.path path) texts

-- At most the print at this path is noted, if there is one.
abbrev pub NotesAtMost : List TextPrint → List ℕ → Option Print → List TextPrint → Type 0
NotesAtMost old path print new = (p : TextPrint) → Contains new p → Contains old p ⊎ ((p.path ≡ path) × (print ≡ Some p.print))

-- A print is that of a text at its path.
pub record IsOf (text : IndexText) (p : TextPrint) : Type 0 where
  pub path : p.path ≡ text.path
  pub print : p.print ≡ text.print

-- At the paths of texts that are renewed, at most their own prints are known. The others are as before.
abbrev pub AreRenewedAtMost : List TextPrint → List IndexText → List TextPrint → Type 0
AreRenewedAtMost old texts new = (p : TextPrint) → Contains new p → (Contains old p × (is_renewed texts p.path ≡ false)) ⊎ ((text : IndexText) × Contains texts text × IsOf text p)
