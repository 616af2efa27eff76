-- Parts of a text, each with a printer of all up to its end.
use Rattle.std.specs.Prelude.{◌++◌, ⊤, ℕ, List, [], ◌∷◌}
use Rattle.std.specs.List.{flat_map}
use Rattle.sums.specs.Prints.{Holds}
use Rattle.sums.specs.declared.print.Printer.{Printer}
use Rattle.renewing.specs.declared.printed.Part.{Part}

-- the bytes of the parts, one part after the other
abbrev pub joined : List Part → List ℕ
joined parts = flat_map (λ p. p.bytes) parts

-- Each part's printer has been given these bytes and the parts up to its own end.
unfoldable pub ArePrinted : List ℕ → List Part → Type 0
ArePrinted before [] = ⊤
ArePrinted before (p ∷ rest) = Holds p.printer (before ++ p.bytes) × ArePrinted (before ++ p.bytes) rest

-- Parts are printed, and this printer has been given all of them.
pub record IsBehind (parts : List Part) (printer : Printer) : Type 0 where
  pub printed : ArePrinted [] parts
  pub given : Holds printer (joined parts)
