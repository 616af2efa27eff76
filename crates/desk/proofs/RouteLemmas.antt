-- Lemmas on the routes.
use Rattle.std.proofs.Common.{◌≡◌, ℕ, ◌<◌, ◌+◌, true, false, List, [], ◌∷◌, ◌++◌, length, Some, None, Option, Result, Ok, Err, codes, inl, inr, refl, sym, ap, arith, ◌∙◌}
use Rattle.std.proofs.lemmas.Option.{same_Some, none-some}
use Rattle.std.specs.List.{list_all}
use Rattle.matchit.proofs.OnLiterals.{matchit_on_literals}
use Rattle.matchit.specs.Params.{walk, part_of}
use Rattle.desk.proofs.WalkLemmas.{IsAt, walk_last, walk_cut, cut_on}
use Rattle.matchit.specs.Route.{parse_route}
use Rattle.matchit.specs.Seek.{first, seek}
use Rattle.desk.specs.declared.routes.Route.{Route}
use Rattle.desk.specs.declared.routes.Route.TheVariants as at
use Rattle.desk.specs.Want.{Want, asked_at, asked_by, at_question, beside, parameters, questioned, routes, wanted_at}
use Rattle.desk.specs.declared.head.Refusal.{Refusal}
use Rattle.desk.specs.Paths.{Place, to_incoming, to_run, to_copy, to_queue, to_clean, to_verdicts, to_dists, to_pool, to_remove, to_promote, print_path, IsPlace, IsPart, IsRest, is_byte, route_of, wanted_of}
use Rattle.desk.proofs.SeekLemmas.{led, led_first, led_found, first_or, or_found, skip, enter, part_first, end_found, rest_first, last_first, last_found, cut_found, slash_any}
use Rattle.matchit.specs.Rows.{RowsOf}
use Rattle.matchit.specs.Route.{Scan}
use Rattle.matchit.specs.Router.{RouteOf, InsertsRead, nearest, route_from}
use Rattle.matchit.specs.declared.error.InsertError.{InsertError}
use Rattle.matchit.specs.declared.error.InsertError.TheVariants.{Conflict, InvalidParam, InvalidParamSegment, InvalidCatchAll, OutOfMemory}
use Rattle.sums.proofs.Booleans.{both}

-- what was read is a route that does not conflict with the rows
abbrev pub Joins : {T : Type 0} → Result Scan InsertError → RowsOf (RouteOf T) → Type 0
Joins (Ok s) rows = nearest s.pattern rows ≡ None
Joins (Err e) rows = ⊥

-- such a route is refused for want of memory alone
pub memory_of : {T : Type 0} (read : Result Scan InsertError) (value : T) (old new : RowsOf (RouteOf T)) (e : InsertError) → Joins read old
    → InsertsRead read value old new (Err e) → e ≡ OutOfMemory
memory_of (Err x) value old new e joins r = absurd joins
memory_of (Ok s) value old new (Conflict with) joins (same, (n, found, text)) = let k : Some n ≡ None = sym found ∙ joins in grind arith
memory_of (Ok s) value old new OutOfMemory joins r = refl
memory_of (Ok s) value old new InvalidParamSegment joins (same, r) = absurd r
memory_of (Ok s) value old new InvalidParam joins (same, r) = absurd r
memory_of (Ok s) value old new InvalidCatchAll joins (same, r) = absurd r

-- ---- the rows of the routes

abbrev row_of : Result Scan InsertError → Route → RouteOf Route
row_of (Ok s) value = route_from s value
row_of (Err e) value = record { pattern = []; text = []; names = []; value = value }

-- the row of a place
abbrev pub place_row : Place → RouteOf Route
place_row (to_incoming name) = row_of (parse_route (codes "/incoming/{name}")) at.Deliver
place_row to_run = row_of (parse_route (codes "/queue/run")) at.Run
place_row (to_copy from to source) = row_of (parse_route (codes "/copy/{from}/{to}/{source}")) at.Copy
place_row to_queue = row_of (parse_route (codes "/queue")) at.Waiting
place_row to_clean = row_of (parse_route (codes "/queue/clean")) at.Clean
place_row to_verdicts = row_of (parse_route (codes "/verdicts")) at.Verdicts
place_row (to_dists rest) = row_of (parse_route (codes "/dists/{*path}")) at.Dists
place_row (to_pool rest) = row_of (parse_route (codes "/pool/{*path}")) at.Pool
place_row (to_remove suite name) = row_of (parse_route (codes "/remove/{suite}/{package}")) at.Remove
place_row (to_promote from to) = row_of (parse_route (codes "/promote/{from}/{to}")) at.Promote

abbrev Rows : Type 0
Rows = RowsOf (RouteOf Route)

abbrev copies : Rows
copies = (256 ∷ 47 ∷ 256 ∷ 47 ∷ 256 ∷ [], place_row (to_copy [] [] [])) ∷ []

abbrev removes : Rows
removes = (256 ∷ 47 ∷ 256 ∷ [], place_row (to_remove [] [])) ∷ []

abbrev promotes : Rows
promotes = (256 ∷ 47 ∷ 256 ∷ [], place_row (to_promote [] [])) ∷ []

abbrev names : Rows
names = (256 ∷ [], place_row (to_incoming [])) ∷ []

abbrev dists : Rows
dists = (257 ∷ [], place_row (to_dists [])) ∷ []

abbrev pools : Rows
pools = (257 ∷ [], place_row (to_pool [])) ∷ []

abbrev runs : Rows
runs = ([], place_row to_run) ∷ []

abbrev cleans : Rows
cleans = ([], place_row to_clean) ∷ []

abbrev queues : Rows
queues = ([], place_row to_queue) ∷ []

abbrev verdicts : Rows
verdicts = ([], place_row to_verdicts) ∷ []

abbrev behind_queue : Rows
behind_queue = led (codes "clean") cleans ++ led (codes "run") runs

abbrev after_queue : Rows
after_queue = led (codes "/") behind_queue ++ queues

abbrev from_remove : Rows
from_remove = led (codes "remove/") removes ++ led (codes "verdicts") verdicts

abbrev from_queue : Rows
from_queue = led (codes "queue") after_queue ++ from_remove

abbrev after_p : Rows
after_p = led (codes "ool/") pools ++ led (codes "romote/") promotes

abbrev from_pool : Rows
from_pool = led (codes "p") after_p ++ from_queue

abbrev from_incoming : Rows
from_incoming = led (codes "incoming/") names ++ from_pool

abbrev from_dists : Rows
from_dists = led (codes "dists/") dists ++ from_incoming

abbrev from_copy : Rows
from_copy = led (codes "copy/") copies ++ from_dists

rows_are : routes ≡ led (codes "/") from_copy
unfolding routes matchit_on_literals
rows_are = refl

-- what was found: a place that the path prints
pub record IsFound (path : List ℕ) (row : RouteOf Route) : Type 0 where
  pub place : Place
  pub is_place : IsPlace place
  pub whole : path ≡ print_path place
  pub row_is : row ≡ place_row place

front_text : (w rest : List ℕ) → list_all is_byte (w ++ rest) ≡ true → list_all is_byte rest ≡ true
front_text [] rest h = h
front_text (b ∷ w) rest h = front_text w rest (both (is_byte b) (list_all is_byte (w ++ rest)) h).1

behind : (w path rest : List ℕ) → list_all is_byte path ≡ true → path ≡ w ++ rest → list_all is_byte rest ≡ true
behind w path rest h e = front_text w rest (sym (ap (list_all is_byte) e) ∙ h)

-- the rest of a path, of a route that ends in a catch-all
rest_found : (k row : RouteOf Route) (rest : List ℕ) → list_all is_byte rest ≡ true → first ((257 ∷ [], k) ∷ []) rest ≡ Some row → IsRest rest × (row ≡ k)
unfolding seek
rest_found k row [] h f = absurd (none-some row f)
rest_found k row (b ∷ rest) h f =
    (record { some = omega arith; bytes = h }, sym (same_Some k row (sym (rest_first k b rest (both (is_byte b) (list_all is_byte rest) h).0) ∙ f)))

found_in_remove : (path : List ℕ) (row : RouteOf Route) (whole : List ℕ) → list_all is_byte path ≡ true → whole ≡ 47 ∷ path → first from_remove path ≡ Some row → IsFound whole row
found_in_remove path row whole h w f =
    elim (or_found _ _ row (sym (first_or 114 (codes "emove/") removes (led (codes "verdicts") verdicts) path refl refl refl refl) ∙ f)) [
      | inl q ↦
          let (rest, split, found) = led_found (codes "remove/") removes path row refl q in
          let one = cut_found (256 ∷ []) (place_row (to_remove [] [])) row rest (behind (codes "remove/") path rest h split) found in
          let (is_part, is) = last_found (place_row (to_remove [] [])) row one.rest one.bytes one.found in
          record {
            place = to_remove one.part one.rest;
            is_place = (one.is_part, is_part);
            whole = w ∙ ap (λ l. 47 ∷ l) (split ∙ ap (λ l. codes "remove/" ++ l) one.whole);
            row_is = is;
          }
      | inr v ↦
          let (rest, split, found) = led_found (codes "verdicts") verdicts path row refl v in
          let (empty, is) = end_found (place_row to_verdicts) row rest found in
          record { place = to_verdicts; is_place = tt; whole = w ∙ ap (λ l. 47 ∷ l) (split ∙ ap (λ l. codes "verdicts" ++ l) empty); row_is = is }
    ]

found_behind_queue : (path : List ℕ) (row : RouteOf Route) (whole : List ℕ) → whole ≡ codes "/queue/" ++ path → first behind_queue path ≡ Some row → IsFound whole row
found_behind_queue path row whole w f =
    elim (or_found _ _ row (sym (first_or 99 (codes "lean") cleans (led (codes "run") runs) path refl refl refl refl) ∙ f)) [
      | inl q ↦
          let (rest, split, found) = led_found (codes "clean") cleans path row refl q in
          let (empty, is) = end_found (place_row to_clean) row rest found in
          record { place = to_clean; is_place = tt; whole = w ∙ ap (λ l. codes "/queue/" ++ l) (split ∙ ap (λ l. codes "clean" ++ l) empty); row_is = is }
      | inr v ↦
          let (rest, split, found) = led_found (codes "run") runs path row refl v in
          let (empty, is) = end_found (place_row to_run) row rest found in
          record { place = to_run; is_place = tt; whole = w ∙ ap (λ l. codes "/queue/" ++ l) (split ∙ ap (λ l. codes "run" ++ l) empty); row_is = is }
    ]

found_in_queue : (path : List ℕ) (row : RouteOf Route) (whole : List ℕ) → list_all is_byte path ≡ true → whole ≡ 47 ∷ path → first from_queue path ≡ Some row → IsFound whole row
found_in_queue path row whole h w f =
    elim (or_found _ _ row (sym (first_or 113 (codes "ueue") after_queue from_remove path refl refl refl refl) ∙ f)) [
      | inl q ↦
          let (rest, split, found) = led_found (codes "queue") after_queue path row refl q in
          elim (or_found _ _ row (sym (first_or 47 [] behind_queue queues rest refl refl refl refl) ∙ found)) [
            | inl r ↦
                let (more, cut, last) = led_found (codes "/") behind_queue rest row refl r in
                found_behind_queue more row whole (w ∙ ap (λ l. 47 ∷ l) (split ∙ ap (λ l. codes "queue" ++ l) cut)) last
            | inr r ↦
                let (empty, is) = end_found (place_row to_queue) row rest r in
                record { place = to_queue; is_place = tt; whole = w ∙ ap (λ l. 47 ∷ l) (split ∙ ap (λ l. codes "queue" ++ l) empty); row_is = is }
          ]
      | inr v ↦ found_in_remove path row whole h w v
    ]

found_behind_p : (path : List ℕ) (row : RouteOf Route) (whole : List ℕ) → list_all is_byte path ≡ true → whole ≡ codes "/p" ++ path → first after_p path ≡ Some row → IsFound whole row
found_behind_p path row whole h w f =
    elim (or_found _ _ row (sym (first_or 111 (codes "ol/") pools (led (codes "romote/") promotes) path refl refl refl refl) ∙ f)) [
      | inl q ↦
          let (rest, split, found) = led_found (codes "ool/") pools path row refl q in
          let (is_rest, is) = rest_found (place_row (to_pool [])) row rest (behind (codes "ool/") path rest h split) found in
          record { place = to_pool rest; is_place = is_rest; whole = w ∙ ap (λ l. codes "/p" ++ l) split; row_is = is }
      | inr v ↦
          let (rest, split, found) = led_found (codes "romote/") promotes path row refl v in
          let one = cut_found (256 ∷ []) (place_row (to_promote [] [])) row rest (behind (codes "romote/") path rest h split) found in
          let (is_part, is) = last_found (place_row (to_promote [] [])) row one.rest one.bytes one.found in
          record {
            place = to_promote one.part one.rest;
            is_place = (one.is_part, is_part);
            whole = w ∙ ap (λ l. codes "/p" ++ l) (split ∙ ap (λ l. codes "romote/" ++ l) one.whole);
            row_is = is;
          }
    ]

found_in_pool : (path : List ℕ) (row : RouteOf Route) (whole : List ℕ) → list_all is_byte path ≡ true → whole ≡ 47 ∷ path → first from_pool path ≡ Some row → IsFound whole row
found_in_pool path row whole h w f =
    elim (or_found _ _ row (sym (first_or 112 [] after_p from_queue path refl refl refl refl) ∙ f)) [
      | inl q ↦
          let (rest, split, found) = led_found (codes "p") after_p path row refl q in
          found_behind_p rest row whole (behind (codes "p") path rest h split) (w ∙ ap (λ l. 47 ∷ l) split) found
      | inr v ↦ found_in_queue path row whole h w v
    ]

found_in_incoming : (path : List ℕ) (row : RouteOf Route) (whole : List ℕ) → list_all is_byte path ≡ true → whole ≡ 47 ∷ path → first from_incoming path ≡ Some row → IsFound whole row
found_in_incoming path row whole h w f =
    elim (or_found _ _ row (sym (first_or 105 (codes "ncoming/") names from_pool path refl refl refl refl) ∙ f)) [
      | inl q ↦
          let (rest, split, found) = led_found (codes "incoming/") names path row refl q in
          let (is_part, is) = last_found (place_row (to_incoming [])) row rest (behind (codes "incoming/") path rest h split) found in
          record { place = to_incoming rest; is_place = is_part; whole = w ∙ ap (λ l. 47 ∷ l) split; row_is = is }
      | inr v ↦ found_in_pool path row whole h w v
    ]

found_in_dists : (path : List ℕ) (row : RouteOf Route) (whole : List ℕ) → list_all is_byte path ≡ true → whole ≡ 47 ∷ path → first from_dists path ≡ Some row → IsFound whole row
found_in_dists path row whole h w f =
    elim (or_found _ _ row (sym (first_or 100 (codes "ists/") dists from_incoming path refl refl refl refl) ∙ f)) [
      | inl q ↦
          let (rest, split, found) = led_found (codes "dists/") dists path row refl q in
          let (is_rest, is) = rest_found (place_row (to_dists [])) row rest (behind (codes "dists/") path rest h split) found in
          record { place = to_dists rest; is_place = is_rest; whole = w ∙ ap (λ l. 47 ∷ l) split; row_is = is }
      | inr v ↦ found_in_incoming path row whole h w v
    ]

found_in_copy : (path : List ℕ) (row : RouteOf Route) (whole : List ℕ) → list_all is_byte path ≡ true → whole ≡ 47 ∷ path → first from_copy path ≡ Some row → IsFound whole row
found_in_copy path row whole h w f =
    elim (or_found _ _ row (sym (first_or 99 (codes "opy/") copies from_dists path refl refl refl refl) ∙ f)) [
      | inl q ↦
          let (rest, split, found) = led_found (codes "copy/") copies path row refl q in
          let one = cut_found (256 ∷ 47 ∷ 256 ∷ []) (place_row (to_copy [] [] [])) row rest (behind (codes "copy/") path rest h split) found in
          let two = cut_found (256 ∷ []) (place_row (to_copy [] [] [])) row one.rest one.bytes one.found in
          let (is_part, is) = last_found (place_row (to_copy [] [] [])) row two.rest two.bytes two.found in
          record {
            place = to_copy one.part two.part two.rest;
            is_place = (one.is_part, two.is_part, is_part);
            whole = w ∙ ap (λ l. 47 ∷ l) (split ∙ ap (λ l. codes "copy/" ++ l) (one.whole ∙ ap (λ l. one.part ++ 47 ∷ l) two.whole));
            row_is = is;
          }
      | inr v ↦ found_in_dists path row whole h w v
    ]

-- a path that has a route is the path of a place, and has its row
pub route_found : (path : List ℕ) (row : RouteOf Route) → list_all is_byte path ≡ true → first routes path ≡ Some row → IsFound path row
route_found path row h f =
    let (rest, split, found) = led_found (codes "/") from_copy path row refl (sym (ap (λ rs. first rs path) rows_are) ∙ f) in
    found_in_copy rest row path (behind (codes "/") path rest h split) split found

-- ---- the path of a place has its row

incoming_first : (name : List ℕ) → IsPart name → first routes (print_path (to_incoming name)) ≡ Some (place_row (to_incoming name))
incoming_first name h =
    ap (λ rs. first rs (print_path (to_incoming name))) rows_are
    ∙ led_first (codes "/") from_copy (codes "incoming/" ++ name) refl
    ∙ skip 99 (codes "opy/") copies from_dists 105 (codes "ncoming/" ++ name) refl refl refl refl refl
    ∙ skip 100 (codes "ists/") dists from_incoming 105 (codes "ncoming/" ++ name) refl refl refl refl refl
    ∙ enter 105 (codes "ncoming/") names from_pool (codes "incoming/" ++ name) (place_row (to_incoming [])) refl refl refl refl
    (led_first (codes "incoming/") names name refl ∙ last_first (place_row (to_incoming [])) name h)

copy_first : (from to source : List ℕ) → IsPart from → IsPart to → IsPart source → first routes (print_path (to_copy from to source)) ≡ Some (place_row (to_copy from to source))
copy_first from to source h1 h2 h3 =
    let k = place_row (to_copy [] [] []) in
    ap (λ rs. first rs (print_path (to_copy from to source))) rows_are
    ∙ led_first (codes "/") from_copy (codes "copy/" ++ (from ++ 47 ∷ (to ++ 47 ∷ source))) refl
    ∙ enter 99 (codes "opy/") copies from_dists (codes "copy/" ++ (from ++ 47 ∷ (to ++ 47 ∷ source))) k refl refl refl refl
    (led_first (codes "copy/") copies (from ++ 47 ∷ (to ++ 47 ∷ source)) refl
    ∙ part_first (256 ∷ 47 ∷ 256 ∷ []) k from (to ++ 47 ∷ source) h1
    ∙ part_first (256 ∷ []) k to source h2
    ∙ last_first k source h3)

rest_of_path : (k : RouteOf Route) (rest : List ℕ) → IsRest rest → first ((257 ∷ [], k) ∷ []) rest ≡ Some k
rest_of_path k [] h = let no : 0 < 0 = h.some in absurd (omega arith)
rest_of_path k (b ∷ rest) h = rest_first k b rest (both (is_byte b) (list_all is_byte rest) h.bytes).0

dists_first : (rest : List ℕ) → IsRest rest → first routes (print_path (to_dists rest)) ≡ Some (place_row (to_dists rest))
dists_first rest h =
    ap (λ rs. first rs (print_path (to_dists rest))) rows_are
    ∙ led_first (codes "/") from_copy (codes "dists/" ++ rest) refl
    ∙ skip 99 (codes "opy/") copies from_dists 100 (codes "ists/" ++ rest) refl refl refl refl refl
    ∙ enter 100 (codes "ists/") dists from_incoming (codes "dists/" ++ rest) (place_row (to_dists [])) refl refl refl refl
    (led_first (codes "dists/") dists rest refl ∙ rest_of_path (place_row (to_dists [])) rest h)

pool_first : (rest : List ℕ) → IsRest rest → first routes (print_path (to_pool rest)) ≡ Some (place_row (to_pool rest))
pool_first rest h =
    ap (λ rs. first rs (print_path (to_pool rest))) rows_are
    ∙ led_first (codes "/") from_copy (codes "pool/" ++ rest) refl
    ∙ skip 99 (codes "opy/") copies from_dists 112 (codes "ool/" ++ rest) refl refl refl refl refl
    ∙ skip 100 (codes "ists/") dists from_incoming 112 (codes "ool/" ++ rest) refl refl refl refl refl
    ∙ skip 105 (codes "ncoming/") names from_pool 112 (codes "ool/" ++ rest) refl refl refl refl refl
    ∙ enter 112 [] after_p from_queue (codes "pool/" ++ rest) (place_row (to_pool [])) refl refl refl refl
    (led_first (codes "p") after_p (codes "ool/" ++ rest) refl
    ∙ enter 111 (codes "ol/") pools (led (codes "romote/") promotes) (codes "ool/" ++ rest) (place_row (to_pool [])) refl refl refl refl
    (led_first (codes "ool/") pools rest refl ∙ rest_of_path (place_row (to_pool [])) rest h))

remove_first : (suite name : List ℕ) → IsPart suite → IsPart name → first routes (print_path (to_remove suite name)) ≡ Some (place_row (to_remove suite name))
remove_first suite name h1 h2 =
    let k = place_row (to_remove [] []) in
    ap (λ rs. first rs (print_path (to_remove suite name))) rows_are
    ∙ led_first (codes "/") from_copy (codes "remove/" ++ (suite ++ 47 ∷ name)) refl
    ∙ skip 99 (codes "opy/") copies from_dists 114 (codes "emove/" ++ (suite ++ 47 ∷ name)) refl refl refl refl refl
    ∙ skip 100 (codes "ists/") dists from_incoming 114 (codes "emove/" ++ (suite ++ 47 ∷ name)) refl refl refl refl refl
    ∙ skip 105 (codes "ncoming/") names from_pool 114 (codes "emove/" ++ (suite ++ 47 ∷ name)) refl refl refl refl refl
    ∙ skip 112 [] after_p from_queue 114 (codes "emove/" ++ (suite ++ 47 ∷ name)) refl refl refl refl refl
    ∙ skip 113 (codes "ueue") after_queue from_remove 114 (codes "emove/" ++ (suite ++ 47 ∷ name)) refl refl refl refl refl
    ∙ enter 114 (codes "emove/") removes (led (codes "verdicts") verdicts) (codes "remove/" ++ (suite ++ 47 ∷ name)) k refl refl refl refl
    (led_first (codes "remove/") removes (suite ++ 47 ∷ name) refl
    ∙ part_first (256 ∷ []) k suite name h1
    ∙ last_first k name h2)

promote_first : (from to : List ℕ) → IsPart from → IsPart to → first routes (print_path (to_promote from to)) ≡ Some (place_row (to_promote from to))
promote_first from to h1 h2 =
    let k = place_row (to_promote [] []) in
    ap (λ rs. first rs (print_path (to_promote from to))) rows_are
    ∙ led_first (codes "/") from_copy (codes "promote/" ++ (from ++ 47 ∷ to)) refl
    ∙ skip 99 (codes "opy/") copies from_dists 112 (codes "romote/" ++ (from ++ 47 ∷ to)) refl refl refl refl refl
    ∙ skip 100 (codes "ists/") dists from_incoming 112 (codes "romote/" ++ (from ++ 47 ∷ to)) refl refl refl refl refl
    ∙ skip 105 (codes "ncoming/") names from_pool 112 (codes "romote/" ++ (from ++ 47 ∷ to)) refl refl refl refl refl
    ∙ enter 112 [] after_p from_queue (codes "promote/" ++ (from ++ 47 ∷ to)) k refl refl refl refl
    (led_first (codes "p") after_p (codes "romote/" ++ (from ++ 47 ∷ to)) refl
    ∙ skip 111 (codes "ol/") pools (led (codes "romote/") promotes) 114 (codes "omote/" ++ (from ++ 47 ∷ to)) refl refl refl refl refl
    ∙ led_first (codes "romote/") promotes (from ++ 47 ∷ to) refl
    ∙ part_first (256 ∷ []) k from to h1
    ∙ last_first k to h2)

run_first : first routes (codes "/queue/run") ≡ Some (place_row to_run)
unfolding routes matchit_on_literals
run_first = refl

queue_first : first routes (codes "/queue") ≡ Some (place_row to_queue)
unfolding routes matchit_on_literals
queue_first = refl

clean_first : first routes (codes "/queue/clean") ≡ Some (place_row to_clean)
unfolding routes matchit_on_literals
clean_first = refl

verdicts_first : first routes (codes "/verdicts") ≡ Some (place_row to_verdicts)
unfolding routes matchit_on_literals
verdicts_first = refl

pub place_first : (p : Place) → IsPlace p → first routes (print_path p) ≡ Some (place_row p)
place_first (to_incoming name) h = incoming_first name h
place_first to_run h = run_first
place_first (to_copy from to source) h = copy_first from to source h.0 h.1 h.2
place_first to_queue h = queue_first
place_first to_clean h = clean_first
place_first to_verdicts h = verdicts_first
place_first (to_dists rest) h = dists_first rest h
place_first (to_pool rest) h = pool_first rest h
place_first (to_remove suite name) h = remove_first suite name h.0 h.1
place_first (to_promote from to) h = promote_first from to h.0 h.1

-- ---- its parameters

-- the parameters of a place, each with its name
abbrev pub place_parameters : Place → List (List ℕ × List ℕ)
place_parameters (to_incoming name) = (codes "name", name) ∷ []
place_parameters to_run = []
place_parameters (to_copy from to source) = (codes "from", from) ∷ (codes "to", to) ∷ (codes "source", source) ∷ []
place_parameters to_queue = []
place_parameters to_clean = []
place_parameters to_verdicts = []
place_parameters (to_dists rest) = (codes "path", rest) ∷ []
place_parameters (to_pool rest) = (codes "path", rest) ∷ []
place_parameters (to_remove suite name) = (codes "suite", suite) ∷ (codes "package", name) ∷ []
place_parameters (to_promote from to) = (codes "from", from) ∷ (codes "to", to) ∷ []

at_start : (pattern path : List ℕ) → IsAt pattern path 0 0 pattern path
at_start pattern path = record { tokens_left = refl; bytes_left = refl; within = omega arith; fits = omega arith }

one_parameter : (row : RouteOf Route) (w : List ℕ) (x : ℕ) (part : List ℕ) (n : ℕ × ℕ) → list_all is_byte w ≡ true → is_byte x ≡ false
    → row.pattern ≡ w ++ x ∷ [] → row.names ≡ n ∷ [] → parameters row (w ++ part) ≡ (part_of row.text n.0 n.1, part) ∷ []
one_parameter row w x part n h e pattern names =
    ap (λ ns. walk row.pattern row.text (w ++ part) ns 0 0) names
    ∙ ap (λ p. walk p row.text (w ++ part) (n ∷ []) 0 0) pattern
    ∙ walk_last (w ++ x ∷ []) row.text (w ++ part) n 0 0 x w part h e (at_start (w ++ x ∷ []) (w ++ part))

incoming_parameters : (name : List ℕ) → parameters (place_row (to_incoming name)) (print_path (to_incoming name)) ≡ place_parameters (to_incoming name)
unfolding matchit_on_literals
incoming_parameters name = one_parameter (place_row (to_incoming name)) (codes "/incoming/") 256 name (11, 15) refl refl refl refl

dists_parameters : (rest : List ℕ) → parameters (place_row (to_dists rest)) (print_path (to_dists rest)) ≡ place_parameters (to_dists rest)
unfolding matchit_on_literals
dists_parameters rest = one_parameter (place_row (to_dists rest)) (codes "/dists/") 257 rest (9, 13) refl refl refl refl

pool_parameters : (rest : List ℕ) → parameters (place_row (to_pool rest)) (print_path (to_pool rest)) ≡ place_parameters (to_pool rest)
unfolding matchit_on_literals
pool_parameters rest = one_parameter (place_row (to_pool rest)) (codes "/pool/") 257 rest (8, 12) refl refl refl refl

copy_parameters : (from to source : List ℕ) → IsPart from → IsPart to → parameters (place_row (to_copy from to source)) (print_path (to_copy from to source)) ≡ place_parameters (to_copy from to source)
unfolding matchit_on_literals
copy_parameters from to source h1 h2 =
    let row : RouteOf Route = place_row (to_copy [] [] []) in
    let path : List ℕ = print_path (to_copy from to source) in
    let s0 : IsAt row.pattern path 0 0 (codes "/copy/" ++ 256 ∷ 47 ∷ 256 ∷ 47 ∷ 256 ∷ []) (codes "/copy/" ++ (from ++ 47 ∷ (to ++ 47 ∷ source))) = at_start row.pattern path in
    let s1 = cut_on row.pattern path 0 0 (codes "/copy/") (256 ∷ 47 ∷ 256 ∷ []) from (to ++ 47 ∷ source) s0 in
    let s2 = cut_on row.pattern path 7 (0 + 6 + length from) (47 ∷ []) (256 ∷ []) to source s1 in
    walk_cut row.pattern row.text path (7, 11) ((14, 16) ∷ (19, 25) ∷ []) 0 0 (codes "/copy/") (256 ∷ 47 ∷ 256 ∷ []) from (to ++ 47 ∷ source) refl (slash_any from ∙ h1.no_slash) (omega arith) s0
    ∙ ap (λ l. (codes "from", from) ∷ l)
    (walk_cut row.pattern row.text path (14, 16) ((19, 25) ∷ []) 7 (0 + 6 + length from) (47 ∷ []) (256 ∷ []) to source refl (slash_any to ∙ h2.no_slash) (omega arith) s1
    ∙ ap (λ l. (codes "to", to) ∷ l)
    (walk_last row.pattern row.text path (19, 25) 9 (0 + 6 + length from + 1 + length to) 256 (47 ∷ []) source refl refl s2))

remove_parameters : (suite name : List ℕ) → IsPart suite → parameters (place_row (to_remove suite name)) (print_path (to_remove suite name)) ≡ place_parameters (to_remove suite name)
unfolding matchit_on_literals
remove_parameters suite name h =
    let row : RouteOf Route = place_row (to_remove [] []) in
    let path : List ℕ = print_path (to_remove suite name) in
    let s0 : IsAt row.pattern path 0 0 (codes "/remove/" ++ 256 ∷ 47 ∷ 256 ∷ []) (codes "/remove/" ++ (suite ++ 47 ∷ name)) = at_start row.pattern path in
    let s1 = cut_on row.pattern path 0 0 (codes "/remove/") (256 ∷ []) suite name s0 in
    walk_cut row.pattern row.text path (9, 14) ((17, 24) ∷ []) 0 0 (codes "/remove/") (256 ∷ []) suite name refl (slash_any suite ∙ h.no_slash) (omega arith) s0
    ∙ ap (λ l. (codes "suite", suite) ∷ l)
    (walk_last row.pattern row.text path (17, 24) 9 (0 + 8 + length suite) 256 (47 ∷ []) name refl refl s1)

promote_parameters : (from to : List ℕ) → IsPart from → parameters (place_row (to_promote from to)) (print_path (to_promote from to)) ≡ place_parameters (to_promote from to)
unfolding matchit_on_literals
promote_parameters from to h =
    let row : RouteOf Route = place_row (to_promote [] []) in
    let path : List ℕ = print_path (to_promote from to) in
    let s0 : IsAt row.pattern path 0 0 (codes "/promote/" ++ 256 ∷ 47 ∷ 256 ∷ []) (codes "/promote/" ++ (from ++ 47 ∷ to)) = at_start row.pattern path in
    let s1 = cut_on row.pattern path 0 0 (codes "/promote/") (256 ∷ []) from to s0 in
    walk_cut row.pattern row.text path (10, 14) ((17, 19) ∷ []) 0 0 (codes "/promote/") (256 ∷ []) from to refl (slash_any from ∙ h.no_slash) (omega arith) s0
    ∙ ap (λ l. (codes "from", from) ∷ l)
    (walk_last row.pattern row.text path (17, 19) 10 (0 + 9 + length from) 256 (47 ∷ []) to refl refl s1)

no_parameters : (row : RouteOf Route) (path : List ℕ) → row.names ≡ [] → parameters row path ≡ []
no_parameters row path e = ap (λ ns. walk row.pattern row.text path ns 0 0) e

run_parameters : parameters (place_row to_run) (codes "/queue/run") ≡ []
unfolding matchit_on_literals
run_parameters = refl

queue_parameters : parameters (place_row to_queue) (codes "/queue") ≡ []
unfolding matchit_on_literals
queue_parameters = refl

clean_parameters : parameters (place_row to_clean) (codes "/queue/clean") ≡ []
unfolding matchit_on_literals
clean_parameters = refl

verdicts_parameters : parameters (place_row to_verdicts) (codes "/verdicts") ≡ []
unfolding matchit_on_literals
verdicts_parameters = refl

pub parameters_are : (p : Place) → IsPlace p → parameters (place_row p) (print_path p) ≡ place_parameters p
parameters_are (to_incoming name) h = incoming_parameters name
parameters_are to_run h = run_parameters
parameters_are (to_copy from to source) h = copy_parameters from to source h.0 h.1
parameters_are to_queue h = queue_parameters
parameters_are to_clean h = clean_parameters
parameters_are to_verdicts h = verdicts_parameters
parameters_are (to_dists rest) h = dists_parameters rest
parameters_are (to_pool rest) h = pool_parameters rest
parameters_are (to_remove suite name) h = remove_parameters suite name h.0
parameters_are (to_promote from to) h = promote_parameters from to h.0

-- ---- what a path asks for

abbrev asked_from : Place → List (List ℕ × List ℕ) → Result (Route × Want) Refusal
asked_from p taken = beside (route_of p) (wanted_at (route_of p) taken (print_path p))

row_value : (p : Place) → (place_row p).value ≡ route_of p
unfolding matchit_on_literals
row_value (to_incoming name) = refl
row_value to_run = refl
row_value (to_copy from to source) = refl
row_value to_queue = refl
row_value to_clean = refl
row_value to_verdicts = refl
row_value (to_dists rest) = refl
row_value (to_pool rest) = refl
row_value (to_remove suite name) = refl
row_value (to_promote from to) = refl

asked_place : (p : Place) → beside (route_of p) (wanted_at (route_of p) (place_parameters p) (print_path p)) ≡ beside (route_of p) (wanted_of p)
asked_place (to_incoming name) = refl
asked_place to_run = refl
asked_place (to_copy from to source) = refl
asked_place to_queue = refl
asked_place to_clean = refl
asked_place to_verdicts = refl
asked_place (to_dists rest) = refl
asked_place (to_pool rest) = refl
asked_place (to_remove suite name) = refl
asked_place (to_promote from to) = refl

-- the path of a place asks for its command
pub place_asks : (key : Option (List ℕ)) (p : Place) → IsPlace p → asked_at key (print_path p) ≡ beside (route_of p) (wanted_of p)
place_asks key p h =
    ap (asked_by key (print_path p)) (place_first p h)
    ∙ ap (λ taken. beside (place_row p).value (wanted_at (place_row p).value taken (print_path p))) (parameters_are p h)
    ∙ ap (λ v. beside v (wanted_at v (place_parameters p) (print_path p))) (row_value p)
    ∙ asked_place p

-- any other path has no route, and asks its question
pub other_path : (key : Option (List ℕ)) (path : List ℕ) → list_all is_byte path ≡ true → ((p : Place) → IsPlace p → path ≡ print_path p → ⊥) → asked_at key path ≡ at_question (questioned key path)
other_path key path small other = by (first routes path) refl
  where
    by : (o : Option (RouteOf Route)) → first routes path ≡ o → asked_at key path ≡ at_question (questioned key path)
    by None e = ap (asked_by key path) e
    by (Some row) e = let found = route_found path row small e in absurd (other found.place found.is_place found.whole)
