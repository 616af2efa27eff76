-- What the parameters of a route take of its path.
use Rattle.std.proofs.Common.{◌≡◌, ℕ, ◌+◌, ◌-◌, ◌≤◌, ◌==◌, ◌&&◌, true, false, cond, leb, ltb, List, [], ◌∷◌, ◌++◌, length, take, drop, get_or, refl, sym, ap, ◌∙◌, arith, length-append, length-drop}
use Rattle.std.proofs.lemmas.Bool.Decides.{nat_tests}
use Rattle.std.proofs.lemmas.List.{take_rest, get_or-drop, drop-drop}
use Rattle.std.proofs.Math.Seq.{drop-append_seam, take-append_seam, get_or-append_seam}
use Rattle.std.specs.List.{list_all}
use Rattle.std.proofs.lemmas.Bool.{and_right}
use Rattle.matchit.specs.Params.{walk, wild_from, wild_stop, part_of, after_token}
use Rattle.matchit.specs.Seek.{segment, has_slash}
use Rattle.desk.specs.Paths.{is_byte}
use Rattle.desk.proofs.SeekLemmas.{segment_cut}
use Rattle.sums.proofs.Booleans.{both}

drop_sum : (m n : ℕ) (l : List ℕ) → drop (m + n) l ≡ drop n (drop m l)
drop_sum m n l = sym (drop-drop n m l)

-- the bytes before a parameter are passed, one of the path for each
wild_run : (w t : List ℕ) (x len token at : ℕ) → list_all is_byte w ≡ true → is_byte x ≡ false → at + length w ≤ len
    → wild_from (w ++ x ∷ t) len token at ≡ (token + length w, at + length w)
wild_run [] t x len token at h e within =
    let n : ltb x 256 ≡ false = grind (arith, nat_tests) in
    let a : token + 0 ≡ token = omega arith in
    let b : at + 0 ≡ at = omega arith in
    rw (n, a, b) refl
wild_run (b ∷ w) t x len token at h e within =
    let p = both (is_byte b) (list_all is_byte w) h in
    let small = p.0 in
    let n : ltb b 256 ≡ true = grind (arith, nat_tests) in
    let room : length (b ∷ w) ≡ length w + 1 = omega arith in
    let m : ltb at len ≡ true = grind (arith, nat_tests) in
    let i : token + length (b ∷ w) ≡ (token + 1) + length w = omega arith in
    let j : at + length (b ∷ w) ≡ (at + 1) + length w = omega arith in
    rw (n, m, i, j) (wild_run w t x len (token + 1) (at + 1) p.1 e (omega arith))

-- the position of a walk over a route's names: after some tokens and some bytes of the path
pub record IsAt (pattern path : List ℕ) (token at : ℕ) (tokens bytes : List ℕ) : Type 0 where
  pub tokens_left : drop token pattern ≡ tokens
  pub bytes_left : drop at path ≡ bytes
  pub within : at ≤ length path
  pub fits : token ≤ length pattern

left_length : (l : List ℕ) (n : ℕ) (m : List ℕ) → drop n l ≡ m → n ≤ length l → length l ≡ n + length m
left_length l n m e h =
    let k : length l - n ≡ length m = sym (length-drop n l) ∙ ap length e in
    omega arith

moved : (l : List ℕ) (n : ℕ) (w m : List ℕ) → drop n l ≡ w ++ m → drop (n + length w) l ≡ m
moved l n w m e = drop_sum n (length w) l ∙ ap (drop (length w)) e ∙ drop-append_seam w m

-- the last parameter takes the rest of the path
pub walk_last : (pattern text path : List ℕ) (n : ℕ × ℕ) (token at x : ℕ) (w part : List ℕ) → list_all is_byte w ≡ true → is_byte x ≡ false
    → IsAt pattern path token at (w ++ x ∷ []) (w ++ part) → walk pattern text path (n ∷ []) token at ≡ (part_of text n.0 n.1, part) ∷ []
walk_last pattern text path n token at x w part h e s =
    let here : ℕ = at + length w in
    let name : List ℕ = part_of text n.0 n.1 in
    let bytes : length path ≡ at + length (w ++ part) = left_length path at (w ++ part) s.bytes_left s.within in
    let tokens : length pattern ≡ token + length (w ++ x ∷ []) = left_length pattern token (w ++ x ∷ []) s.tokens_left s.fits in
    let sum : length (w ++ part) ≡ length w + length part = length-append w part in
    let count : length (w ++ x ∷ []) ≡ length w + 1 = length-append w (x ∷ []) in
    let from : wild_from (drop token pattern) (length path) token at ≡ (token + length w, at + length w) =
    ap (λ l. wild_from l (length path) token at) s.tokens_left ∙ wild_run w [] x (length path) token at h e (omega arith) in
    let last : ltb (token + length w + 1) (length pattern) ≡ false = grind (arith, nat_tests) in
    let stop : wild_stop pattern (token + length w) path (at + length w) ≡ length path =
    ap (λ v. cond v (at + length w + length (segment (drop (at + length w) path)) - length (segment (drop (token + length w + 1) pattern))) (length path))
    (and_right (ltb (token + length w) (length pattern) && (get_or pattern (token + length w) 0 == 256)) (ltb (token + length w + 1) (length pattern)) last) in
    let fits : (leb (at + length w) (length path) && leb (length path) (length path)) ≡ true = grind (arith, nat_tests) in
    let took : part_of path (at + length w) (length path) ≡ part =
    ap (λ v. cond v (take (length path - (at + length w)) (drop (at + length w) path)) []) fits ∙ take_rest path (at + length w) ∙ moved path at w part s.bytes_left in
    ap (λ (wd : ℕ × ℕ). (name, part_of path wd.1 (wild_stop pattern wd.0 path wd.1)) ∷ []) from
    ∙ ap (λ end. (name, part_of path (at + length w) end) ∷ []) stop
    ∙ ap (λ p. (name, p) ∷ []) took

-- a parameter before a slash takes the path up to the next slash, and the walk goes on there
pub walk_cut : (pattern text path : List ℕ) (n : ℕ × ℕ) (names : List (ℕ × ℕ)) (token at : ℕ) (w t part rest : List ℕ) → list_all is_byte w ≡ true
    → has_slash part ≡ false → token + length w + 1 ≤ 18446744073709551615
    → IsAt pattern path token at (w ++ 256 ∷ 47 ∷ t) (w ++ (part ++ 47 ∷ rest))
    → walk pattern text path (n ∷ names) token at ≡ (part_of text n.0 n.1, part) ∷ walk pattern text path names (token + length w + 1) (at + length w + length part)
walk_cut pattern text path n names token at w t part rest h plain few s =
    let name : List ℕ = part_of text n.0 n.1 in
    let tail : length (part ++ 47 ∷ rest) ≡ length part + length (47 ∷ rest) = length-append part (47 ∷ rest) in
    let sum : length (w ++ (part ++ 47 ∷ rest)) ≡ length w + length (part ++ 47 ∷ rest) = length-append w (part ++ 47 ∷ rest) in
    let bytes : length path ≡ at + length (w ++ (part ++ 47 ∷ rest)) = left_length path at (w ++ (part ++ 47 ∷ rest)) s.bytes_left s.within in
    let count : length (w ++ 256 ∷ 47 ∷ t) ≡ length w + length (256 ∷ 47 ∷ t) = length-append w (256 ∷ 47 ∷ t) in
    let tokens : length pattern ≡ token + length (w ++ 256 ∷ 47 ∷ t) = left_length pattern token (w ++ 256 ∷ 47 ∷ t) s.tokens_left s.fits in
    let two : length (256 ∷ 47 ∷ t) ≡ length t + 2 = omega arith in
    let from : wild_from (drop token pattern) (length path) token at ≡ (token + length w, at + length w) =
    ap (λ l. wild_from l (length path) token at) s.tokens_left ∙ wild_run w (47 ∷ t) 256 (length path) token at h refl (omega arith) in
    let wild : get_or pattern (token + length w) 0 ≡ 256 =
    sym (get_or-drop token pattern (length w) 0) ∙ ap (λ l. get_or l (length w) 0) s.tokens_left ∙ get_or-append_seam w 256 (47 ∷ t) 0 in
    let inside : (ltb (token + length w) (length pattern) && (get_or pattern (token + length w) 0 == 256) && ltb (token + length w + 1) (length pattern)) ≡ true =
    grind (arith, nat_tests) in
    let here : drop (at + length w) path ≡ part ++ 47 ∷ rest = moved path at w (part ++ 47 ∷ rest) s.bytes_left in
    let next : drop (token + length w + 1) pattern ≡ 47 ∷ t =
    drop_sum (token + length w) 1 pattern ∙ ap (drop 1) (moved pattern token w (256 ∷ 47 ∷ t) s.tokens_left) in
    let seg : length (segment (drop (at + length w) path)) ≡ length part + 1 =
    ap (λ l. length (segment l)) here ∙ ap length (segment_cut part rest plain) ∙ length-append part (47 ∷ []) in
    let after : length (segment (drop (token + length w + 1) pattern)) ≡ 1 = ap (λ l. length (segment l)) next in
    let stop : wild_stop pattern (token + length w) path (at + length w) ≡ at + length w + length part =
    ap (λ v. cond v (at + length w + length (segment (drop (at + length w) path)) - length (segment (drop (token + length w + 1) pattern))) (length path)) inside
    ∙ omega arith in
    let fits : (leb (at + length w) (at + length w + length part) && leb (at + length w + length part) (length path)) ≡ true = grind (arith, nat_tests) in
    let size : at + length w + length part - (at + length w) ≡ length part = omega arith in
    let took : part_of path (at + length w) (at + length w + length part) ≡ part =
    ap (λ v. cond v (take (at + length w + length part - (at + length w)) (drop (at + length w) path)) []) fits
    ∙ ap (λ k. take k (drop (at + length w) path)) size ∙ ap (take (length part)) here ∙ take-append_seam part (47 ∷ rest) in
    let token_is : after_token (token + length w) ≡ token + length w + 1 = grind (arith, nat_tests) in
    ap (λ (wd : ℕ × ℕ). (name, part_of path wd.1 (wild_stop pattern wd.0 path wd.1)) ∷ walk pattern text path names (after_token wd.0) (wild_stop pattern wd.0 path wd.1)) from
    ∙ ap (λ end. (name, part_of path (at + length w) end) ∷ walk pattern text path names (after_token (token + length w)) end) stop
    ∙ ap (λ p. (name, p) ∷ walk pattern text path names (after_token (token + length w)) (at + length w + length part)) took
    ∙ ap (λ k. (name, part) ∷ walk pattern text path names k (at + length w + length part)) token_is

-- the position of the walk then
pub cut_on : (pattern path : List ℕ) (token at : ℕ) (w t part rest : List ℕ) → IsAt pattern path token at (w ++ 256 ∷ 47 ∷ t) (w ++ (part ++ 47 ∷ rest))
    → IsAt pattern path (token + length w + 1) (at + length w + length part) (47 ∷ t) (47 ∷ rest)
cut_on pattern path token at w t part rest s =
    let tail : length (part ++ 47 ∷ rest) ≡ length part + length (47 ∷ rest) = length-append part (47 ∷ rest) in
    let sum : length (w ++ (part ++ 47 ∷ rest)) ≡ length w + length (part ++ 47 ∷ rest) = length-append w (part ++ 47 ∷ rest) in
    let bytes : length path ≡ at + length (w ++ (part ++ 47 ∷ rest)) = left_length path at (w ++ (part ++ 47 ∷ rest)) s.bytes_left s.within in
    let count : length (w ++ 256 ∷ 47 ∷ t) ≡ length w + length (256 ∷ 47 ∷ t) = length-append w (256 ∷ 47 ∷ t) in
    let tokens : length pattern ≡ token + length (w ++ 256 ∷ 47 ∷ t) = left_length pattern token (w ++ 256 ∷ 47 ∷ t) s.tokens_left s.fits in
    let two : length (256 ∷ 47 ∷ t) ≡ length t + 2 = omega arith in
    record {
      tokens_left = drop_sum (token + length w) 1 pattern ∙ ap (drop 1) (moved pattern token w (256 ∷ 47 ∷ t) s.tokens_left);
      bytes_left = moved path (at + length w) part (47 ∷ rest) (moved path at w (part ++ 47 ∷ rest) s.bytes_left);
      within = omega arith;
      fits = omega arith;
    }
