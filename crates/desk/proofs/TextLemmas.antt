-- The parts of a path are text if the path is.
use Rattle.std.proofs.Common.{◌≡◌, ℕ, zero, suc, nat_lt, ◌+◌, ◌<◌, true, List, [], ◌∷◌, ◌++◌, length, drop, get_or, Some, codes, refl, sym, ap, subst, ◌∙◌, arith, length-append}
use Rattle.std.proofs.lemmas.Bool.Decides.{nat_tests}
use Rattle.std.proofs.lemmas.List.{drop-drop}
use Rattle.std.proofs.lemmas.Str.{IsUtf8-take, IsUtf8-drop, IsUtf8-from_ascii, IsCharBoundary-after_ascii}
use Rattle.std.proofs.Math.Seq.{drop-append_seam, take-append_seam, get_or-append_seam}
use Rattle.std.specs.List.{list_all}
use Rattle.std.specs.Str.{IsUtf8, IsCharBoundary}
use Rattle.matchit.specs.Params.{AllText}
use Rattle.matchit.specs.Router.{RouteOf}
use Rattle.matchit.specs.Seek.{first}
use Rattle.desk.specs.declared.routes.Route.{Route}
use Rattle.desk.specs.Paths.{Place, to_incoming, to_run, to_copy, to_queue, to_clean, to_verdicts, to_dists, to_pool, to_remove, to_promote, print_path, is_byte}
use Rattle.desk.specs.Want.{parameters, routes}
use Rattle.desk.proofs.RouteLemmas.{route_found, place_row, place_parameters, parameters_are}
use Rattle.sums.proofs.Booleans.{both}

-- both sides of a slash
utf8_cut : (a b : List ℕ) → IsUtf8 (a ++ 47 ∷ b) → IsUtf8 a × IsUtf8 b
utf8_cut a b u =
    let slash : get_or (a ++ 47 ∷ b) (length a) 0 ≡ 47 = get_or-append_seam a 47 b 0 in
    let len : length (a ++ 47 ∷ b) ≡ length a + length (47 ∷ b) = length-append a (47 ∷ b) in
    let more : length (47 ∷ b) ≡ length b + 1 = omega arith in
    let before : IsCharBoundary (a ++ 47 ∷ b) (length a) = (omega arith, λ h k. omega arith) in
    let behind : IsCharBoundary (a ++ 47 ∷ b) (length a + 1) = IsCharBoundary-after_ascii (a ++ 47 ∷ b) (length a) u (omega arith) (omega arith) in (
      subst IsUtf8 (take-append_seam a (47 ∷ b)) (IsUtf8-take (a ++ 47 ∷ b) (length a) u before),
      subst IsUtf8 (sym (drop-drop 1 (length a) (a ++ 47 ∷ b)) ∙ ap (drop 1) (drop-append_seam a (47 ∷ b))) (IsUtf8-drop (a ++ 47 ∷ b) (length a + 1) u behind),
    )

ascii_at : (xs : List ℕ) → list_all (λ b. nat_lt b 128) xs ≡ true → (i : ℕ) → get_or xs i 0 < 128
ascii_at [] h i = omega arith
ascii_at (x ∷ xs) h zero =
    let small = (both (nat_lt x 128) (list_all (λ b. nat_lt b 128) xs) h).0 in
    grind (arith, nat_tests)
ascii_at (x ∷ xs) h (suc i) = ascii_at xs (both (nat_lt x 128) (list_all (λ b. nat_lt b 128) xs) h).1 i

name_text : (name : List ℕ) → list_all (λ b. nat_lt b 128) name ≡ true → IsUtf8 name
name_text name h = IsUtf8-from_ascii name (ascii_at name h)

place_text : (p : Place) → IsUtf8 (print_path p) → AllText (place_parameters p)
place_text (to_incoming name) u = (name_text (codes "name") refl, (utf8_cut (codes "/incoming") name u).1, tt)
place_text to_run u = tt
place_text (to_copy from to source) u =
    let one = utf8_cut (codes "/copy") (from ++ 47 ∷ (to ++ 47 ∷ source)) u in
    let two = utf8_cut from (to ++ 47 ∷ source) one.1 in
    let three = utf8_cut to source two.1 in
    (name_text (codes "from") refl, two.0, (name_text (codes "to") refl, three.0, (name_text (codes "source") refl, three.1, tt)))
place_text to_queue u = tt
place_text to_clean u = tt
place_text to_verdicts u = tt
place_text (to_dists rest) u = (name_text (codes "path") refl, (utf8_cut (codes "/dists") rest u).1, tt)
place_text (to_pool rest) u = (name_text (codes "path") refl, (utf8_cut (codes "/pool") rest u).1, tt)
place_text (to_remove suite name) u =
    let one = utf8_cut (codes "/remove") (suite ++ 47 ∷ name) u in
    let two = utf8_cut suite name one.1 in
    (name_text (codes "suite") refl, two.0, (name_text (codes "package") refl, two.1, tt))
place_text (to_promote from to) u =
    let one = utf8_cut (codes "/promote") (from ++ 47 ∷ to) u in
    let two = utf8_cut from to one.1 in
    (name_text (codes "from") refl, two.0, (name_text (codes "to") refl, two.1, tt))

pub all_bytes : (xs : List ℕ) → ((i : ℕ) → get_or xs i 0 < 256) → list_all is_byte xs ≡ true
all_bytes [] f = refl
all_bytes (x ∷ xs) f =
    let small : x < 256 = f 0 in
    let e : is_byte x ≡ true = grind (arith, nat_tests) in
    rw e (all_bytes xs (λ i. f (suc i)))

-- what the parameters of a path take is text
pub parameters_text : (path : List ℕ) (row : RouteOf Route) → list_all is_byte path ≡ true → IsUtf8 path → first routes path ≡ Some row → AllText (parameters row path)
parameters_text path row small u f =
    let found = route_found path row small f in
    let same : parameters row path ≡ place_parameters found.place =
    ap (λ r. parameters r path) found.row_is ∙ ap (parameters (place_row found.place)) found.whole ∙ parameters_are found.place found.is_place in
    subst AllText (sym same) (place_text found.place (subst IsUtf8 found.whole u))
