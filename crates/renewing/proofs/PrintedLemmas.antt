-- Parts of a text, each with a printer of all up to its end.
use Rattle.std.proofs.Common.{◌≡◌, ◌++◌, ◌-◌, ◌+◌, ◌<◌, ◌≤◌, ◌∙◌, arith, ℕ, zero, suc, List, [], ◌∷◌, Some, None, length, take, drop, get_or, slice_get, ap, sym, refl, subst, subst₂, append_assoc, append-nil, take-append-drop}
use Rattle.std.proofs.lemmas.Grind.{flat_map-append}
use Rattle.std.proofs.lemmas.List.{take_all}
use Rattle.std.proofs.lemmas.Option.{same_Some, slice_get-get_or}
use Rattle.sums.specs.Prints.{Holds}
use Rattle.sums.specs.declared.print.Printer.{Printer}
use Rattle.renewing.specs.Printed.{ArePrinted, IsBehind, joined}
use Rattle.renewing.specs.declared.printed.Part.{Part}
use Rattle.renewing.proofs.RenewedSteps.{gathered_more}

-- the text begins with one part more
pub part_met : (parts : List Part) (i : ℕ) (part : Part) (rest text : List ℕ) (n : ℕ) → i < length parts → part ≡ get_or parts i part
    → take n rest ≡ part.bytes → joined (take i parts) ++ rest ≡ text → joined (take (i + 1) parts) ++ drop n rest ≡ text
part_met parts i part rest text n inside here same met =
    let past : List ℕ = joined (take i parts) in
    ap (λ l. l ++ drop n rest) (sym (gathered_more (λ (p : Part). p.bytes) parts i part [] past (past ++ part.bytes) inside here refl refl))
    ∙ append_assoc past part.bytes (drop n rest)
    ∙ ap (λ l. past ++ (l ++ drop n rest)) (sym same)
    ∙ ap (λ l. past ++ l) (take-append-drop n rest)
    ∙ met

-- the first of them
pub first_printed : (before : List ℕ) (parts : List Part) (n : ℕ) → ArePrinted before parts → ArePrinted before (take n parts)
unfolding ArePrinted
first_printed before [] zero are = tt
first_printed before [] (suc n) are = tt
first_printed before (p ∷ rest) zero are = tt
first_printed before (p ∷ rest) (suc n) are = (are.0, first_printed (before ++ p.bytes) rest n are.1)

-- one more part is printed
more_printed : (before : List ℕ) (parts : List Part) (p : Part) → ArePrinted before parts → Holds p.printer ((before ++ joined parts) ++ p.bytes)
    → ArePrinted before (parts ++ p ∷ [])
unfolding ArePrinted
more_printed before [] p are holds = (subst (λ l. Holds p.printer (l ++ p.bytes)) (append-nil before) holds, tt)
more_printed before (q ∷ rest) p are holds =
    (are.0, more_printed (before ++ q.bytes) rest p are.1 (subst (λ l. Holds p.printer (l ++ p.bytes)) (sym (append_assoc before q.bytes (joined rest))) holds))

pub joined_more : (parts : List Part) (p : Part) → joined (parts ++ p ∷ []) ≡ joined parts ++ p.bytes
joined_more parts p = flat_map-append (λ (q : Part). q.bytes) parts (p ∷ []) ∙ ap (λ l. joined parts ++ l) (append-nil p.bytes)

behind_more : (parts : List Part) (p : Part) → ArePrinted [] parts → Holds p.printer (joined parts ++ p.bytes) → IsBehind (parts ++ p ∷ []) p.printer
behind_more parts p are holds = record {
  printed = more_printed [] parts p are holds;
  given = subst (Holds p.printer) (sym (joined_more parts p)) holds;
}

-- the one at a place
part_at : (before : List ℕ) (parts : List Part) (n : ℕ) (p : Part) → ArePrinted before parts → slice_get parts n ≡ Some p
    → Holds p.printer (before ++ joined (take (suc n) parts))
unfolding ArePrinted
part_at before [] n p are at = absurd (cc)
part_at before (q ∷ rest) zero p are at =
    subst (λ (x : Part). Holds x.printer (before ++ joined (q ∷ []))) (same_Some q p at) (subst (λ l. Holds q.printer (before ++ l)) (sym (append-nil q.bytes)) are.0)
part_at before (q ∷ rest) (suc n) p are at =
    subst (λ l. Holds p.printer l) (append_assoc before q.bytes (joined (take (suc n) rest))) (part_at (before ++ q.bytes) rest n p are.1 at)

-- the last
pub behind_last : (parts : List Part) (p : Part) → ArePrinted [] parts → slice_get parts (length parts - 1) ≡ Some p → IsBehind parts p.printer
behind_last parts p are last =
    let all : length parts ≤ suc (length parts - 1) = omega arith in
    record {
      printed = are;
      given = subst (λ l. Holds p.printer (joined l)) (take_all (suc (length parts - 1)) parts all) (part_at [] parts (length parts - 1) p are last);
    }

none_last : (parts : List Part) → slice_get parts (length parts - 1) ≡ None → parts ≡ []
none_last [] last = refl
none_last (p ∷ rest) last =
    let inside : length (p ∷ rest) - 1 < length (p ∷ rest) = omega arith in
    absurd (none_some (sym last ∙ slice_get-get_or (p ∷ rest) (length (p ∷ rest) - 1) p inside))
  where
    none_some : {x : Part} → None ≡ Some x → ⊥
    none_some e = absurd (cc)

-- no parts, and a printer that was given nothing
pub behind_none : (parts : List Part) (printer : Printer) → slice_get parts (length parts - 1) ≡ None → Holds printer [] → IsBehind parts printer
unfolding ArePrinted
behind_none parts printer last holds = subst (λ (ps : List Part). IsBehind ps printer) (sym (none_last parts last)) (record { printed = tt; given = holds })

-- the printer is given these bytes, and a part of them with a copy of it is appended
pub behind_pushed : (parts after : List Part) (bytes : List ℕ) (p : Part) (old new : Printer) → IsBehind parts old
    → ((body : List ℕ) → Holds old body → Holds new (body ++ bytes)) → p.bytes ≡ bytes → p.printer ≡ new → after ≡ parts ++ p ∷ [] → IsBehind after new
behind_pushed parts after bytes p old new behind given same copy is =
    subst₂ (λ (ps : List Part) (q : Printer). IsBehind ps q) (sym is) copy
    (behind_more parts p behind.printed (subst₂ (λ (q : Printer) (l : List ℕ). Holds q (joined parts ++ l)) (sym copy) (sym same) (given (joined parts) behind.given)))

-- a copy is equal
pub same_printer : (p q : Printer) → (p.size ≡ q.size) × ((p.md5 ≡ q.md5) × ((p.sha1 ≡ q.sha1) × (p.sha256 ≡ q.sha256))) → p ≡ q
same_printer p q same = λ i. record { size = same.0 i; md5 = same.1.0 i; sha1 = same.1.1.0 i; sha256 = same.1.1.1 i }
