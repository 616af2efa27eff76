-- The rows at one end of a list.
use Rattle.std.proofs.Common.{◌≡◌, ℕ, ◌-◌, ◌≤◌, List, ◌++◌, length, take, drop, reverse, sym, ap, ◌∙◌, arith, take_all}
use Rattle.std.proofs.Math.Seq.{take-append_seam}
use Rattle.std.proofs.lemmas.List.{length-drop, length-reverse, reverse-append, take-append-drop}

module _ {X : Type 0} (xs : List X) where
  -- a list of few rows has no others
  pub front_all : length xs ≤ 200 → xs ≡ take 200 xs
  front_all few = sym (take_all 200 xs few)

  pub end_all : length xs ≤ 200 → reverse xs ≡ take 200 (reverse xs)
  end_all few = sym (take_all 200 (reverse xs) (omega (arith, length-reverse xs, few)))

  -- the last rows of a list are the first ones from its end
  pub end_taken : 200 ≤ length xs → reverse (drop (length xs - 200) xs) ≡ take 200 (reverse xs)
  end_taken many =
      let before = length xs - 200 in
      let last = reverse (drop before xs) in
      let others = reverse (take before xs) in
      let parts : last ++ others ≡ reverse xs = sym (reverse-append (take before xs) (drop before xs)) ∙ ap reverse (take-append-drop before xs) in
      let all_of_them : length last ≡ 200 = omega (arith, length-reverse (drop before xs), length-drop before xs, many) in
      sym (ap (take 200) (sym parts) ∙ ap (λ n. take n (last ++ others)) (sym all_of_them) ∙ take-append_seam last others)
