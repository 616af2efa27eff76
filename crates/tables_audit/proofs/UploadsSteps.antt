-- The steps of the loops over what arrived.
use Rattle.std.proofs.Common.{◌≡◌, ℕ, zero, suc, ◌+◌, ◌<◌, nat_eq, Option, None, List, [], ◌∷◌, ◌++◌, map, filter, take, length, get_or, Contains, sym, ap, ◌∙◌, arith}
use Rattle.std.specs.List.{cons_option, filter_map}
use Rattle.std.specs.Option.{option_and_then}
use Rattle.std.proofs.lemmas.List.{map-append, take_more}
use Rattle.std.proofs.lemmas.List.Elements.{filter_map-append}
use Rattle.tables.specs.Rows.{Numbered, rows_of}
use Rattle.tables.specs.declared.rows.BodyRow.{BodyRow}
use Rattle.tables_audit.specs.Uploads.{Printed, Waiting, print_among, printed}
use Rattle.tables_audit.specs.declared.uploads.arrived.Arrived.{Arrived}
use Rattle.tables_audit.proofs.KeyedLemmas.{find_same}

-- a row of which the function makes nothing
pub none_at_row : {X Y : Type 0} (f : X → Option Y) (xs : Numbered X) (i : ℕ) (x : ℕ × X) → i < length xs → x ≡ get_or xs i x → f x.1 ≡ None → Contains (map f (rows_of xs)) None
none_at_row f [] i x within is e = absurd (omega arith)
none_at_row {X} f (y ∷ xs) zero x within is e = (0, omega arith, sym (ap (λ (z : ℕ × X). f z.1) is) ∙ e)
none_at_row f (y ∷ xs) (suc i) x within is e =
    let rest = none_at_row f xs i x (omega arith) is e in
    (suc rest.0, omega (arith, rest.1), rest.2)

-- one more of what arrived
pub found_more : (h : Printed → Option Waiting) (xs : List Arrived) (i : ℕ) (x : Arrived) → i < length xs → x ≡ get_or xs i x
    → filter_map h (map printed (take (i + 1) xs)) ≡ filter_map h (map printed (take i xs)) ++ cons_option (h (printed x)) []
found_more h xs i x within is =
    ap (λ (l : List Arrived). filter_map h (map printed l)) (take_more xs i x within ∙ ap (λ (y : Arrived). take i xs ++ y ∷ []) (sym is))
    ∙ ap (filter_map h) (map-append printed (take i xs) (x ∷ []))
    ∙ filter_map-append h (map printed (take i xs)) (printed x ∷ [])

-- the print of a body depends on the rows of its number alone
pub print_same : (id : ℕ) (part all : Numbered BodyRow) → filter (λ (x : ℕ × BodyRow). nat_eq x.0 id) part ≡ filter (λ (x : ℕ × BodyRow). nat_eq x.0 id) all → print_among part id ≡ print_among all id
unfolding print_among
print_same id part all e = ap (option_and_then (λ (x : ℕ × BodyRow). x.1.print)) (find_same (λ (x : ℕ × BodyRow). nat_eq x.0 id) part all e)
