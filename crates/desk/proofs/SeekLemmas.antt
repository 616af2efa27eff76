-- The walk over a router's rows, whatever stands at each.
use Rattle.std.proofs.Common.{◌≡◌, ◌≢◌, ◌⊎◌, ℕ, zero, suc, ◌+◌, ◌-◌, ◌<◌, List, [], ◌∷◌, ◌++◌, length, drop, Option, Some, None, Bool, true, false, cond, ◌==◌, ltb, ◌&&◌, nat_eq, inl, inr, refl, sym, ap, ◌∙◌, arith, append-nil, length-append}
use Rattle.std.proofs.lemmas.Bool.Decides.{nat_tests}
use Rattle.std.proofs.Math.Seq.{drop-append_seam}
use Rattle.std.proofs.lemmas.Option.{same_Some}
use Rattle.std.proofs.lemmas.List.Folds.{list_all-append}
use Rattle.std.specs.List.{ends_with, list_all, list_any}
use Rattle.std.proofs.lemmas.Bool.{and_right}
use Rattle.matchit.specs.Rows.{RowsOf}
use Rattle.matchit.specs.Seek.{own, step, or_else, seek, first, param_step, has_slash, segment, longest_suffix, with_suffix, cuts}
use Rattle.desk.specs.Paths.{is_byte, is_slash, IsPart}
use Rattle.sums.proofs.Booleans.{both}

-- ---- texts with and without a slash

pub slash_any : (s : List ℕ) → has_slash s ≡ list_any is_slash s
slash_any [] = refl
slash_any (b ∷ s) = by (b == 47) refl (slash_any s)
  where
    by : (v : Bool) → (b == 47) ≡ v → has_slash s ≡ list_any is_slash s → has_slash (b ∷ s) ≡ list_any is_slash (b ∷ s)
    by true e more = rw e refl
    by false e more = rw e more

not_slash : (b : ℕ) (s : List ℕ) → has_slash (b ∷ s) ≡ false → ((b == 47) ≡ false) × (has_slash s ≡ false)
not_slash b s h = by (b == 47) refl
  where
    by : (v : Bool) → (b == 47) ≡ v → ((b == 47) ≡ false) × (has_slash s ≡ false)
    by true e = let no = rw e at h in absurd (let x : true ≡ false = no in grind arith)
    by false e = (e, rw e at h)

pub segment_all : (s : List ℕ) → has_slash s ≡ false → segment s ≡ s
segment_all [] h = refl
segment_all (b ∷ s) h =
    let p = not_slash b s h in
    rw p.0 (ap (λ l. b ∷ l) (segment_all s p.1))

pub segment_cut : (a rest : List ℕ) → has_slash a ≡ false → segment (a ++ 47 ∷ rest) ≡ a ++ 47 ∷ []
segment_cut [] rest h = refl
segment_cut (b ∷ a) rest h =
    let p = not_slash b a h in
    rw p.0 (ap (λ l. b ∷ l) (segment_cut a rest p.1))

pub slash_cut : (a rest : List ℕ) → has_slash (a ++ 47 ∷ rest) ≡ true
slash_cut [] rest = refl
slash_cut (b ∷ a) rest = by (b == 47) refl (slash_cut a rest)
  where
    by : (v : Bool) → (b == 47) ≡ v → has_slash (a ++ 47 ∷ rest) ≡ true → has_slash ((b ∷ a) ++ 47 ∷ rest) ≡ true
    by true e more = rw e refl
    by false e more = rw e more

-- a text that has a slash, cut at its first
pub record IsCutAt (s : List ℕ) : Type 0 where
  pub front : List ℕ
  pub rest : List ℕ
  pub whole : s ≡ front ++ 47 ∷ rest
  pub plain : has_slash front ≡ false

pub cut_at : (s : List ℕ) → (has_slash s ≡ false) ⊎ IsCutAt s
cut_at [] = inl refl
cut_at (b ∷ s) = by (b == 47) refl (cut_at s)
  where
    by : (v : Bool) → (b == 47) ≡ v → (has_slash s ≡ false) ⊎ IsCutAt s → (has_slash (b ∷ s) ≡ false) ⊎ IsCutAt (b ∷ s)
    by true e h = let same : b ≡ 47 = grind (arith, nat_tests) in inr (record { front = []; rest = s; whole = ap (λ x. x ∷ s) same; plain = refl })
    by false e (inl none) = inl (rw e none)
    by false e (inr c) = inr (record { front = b ∷ c.front; rest = c.rest; whole = ap (λ l. b ∷ l) c.whole; plain = rw e c.plain })

-- a text that ends with a slash has one
pub ends_slash : (s : List ℕ) → ends_with nat_eq s (47 ∷ []) ≡ true → has_slash s ≡ true
ends_slash [] h = h
ends_slash (b ∷ []) h = let same : b ≡ 47 = grind (arith, nat_tests) in rw same refl
ends_slash (b ∷ c ∷ s) h = by (b == 47) refl (ends_slash (c ∷ s) (rw less at h))
  where
    less : length (b ∷ c ∷ s) - 1 ≡ suc (length (c ∷ s) - 1)
    less = omega arith

    by : (v : Bool) → (b == 47) ≡ v → has_slash (c ∷ s) ≡ true → has_slash (b ∷ c ∷ s) ≡ true
    by true e more = rw e refl
    by false e more = rw e more

-- a part and its slash end with the slash, and more
cuts_part : (b : ℕ) (a : List ℕ) → cuts ((b ∷ a) ++ 47 ∷ []) (47 ∷ []) ≡ true
cuts_part b a =
    let len : length ((b ∷ a) ++ 47 ∷ []) ≡ length (b ∷ a) + 1 = length-append (b ∷ a) (47 ∷ []) in
    let long : ltb 1 (length ((b ∷ a) ++ 47 ∷ [])) ≡ true = grind (arith, nat_tests) in
    let at : length ((b ∷ a) ++ 47 ∷ []) - 1 ≡ length (b ∷ a) = omega arith in
    let tail : drop (length ((b ∷ a) ++ 47 ∷ []) - 1) ((b ∷ a) ++ 47 ∷ []) ≡ 47 ∷ [] = ap (λ n. drop n ((b ∷ a) ++ 47 ∷ [])) at ∙ drop-append_seam (b ∷ a) (47 ∷ []) in
    rw (long, tail) refl

-- ---- the walk

module _ {K : Type 0} where
  -- each row with these bytes in front
  abbrev pub led : List ℕ → RowsOf K → RowsOf K
  led w [] = []
  led w ((t, k) ∷ rest) = (w ++ t, k) ∷ led w rest

  pub or_none : (o : Option K) → or_else o None ≡ o
  or_none None = refl
  or_none (Some k) = refl

  pub led_nil : (r : RowsOf K) → led [] r ≡ r
  led_nil [] = refl
  led_nil ((t, k) ∷ r) = ap (λ x. (t, k) ∷ x) (led_nil r)

  pub own_append : (x y : RowsOf K) → own (x ++ y) ≡ or_else (own x) (own y)
  own_append [] y = refl
  own_append (([], k) ∷ r) y = refl
  own_append ((a ∷ t, k) ∷ r) y = own_append r y

  pub step_append : (b : ℕ) (x y : RowsOf K) → step b (x ++ y) ≡ step b x ++ step b y
  step_append b [] y = refl
  step_append b (([], k) ∷ r) y = step_append b r y
  step_append b ((a ∷ t, k) ∷ r) y =
      elim (a == b) as (λ v. cond v ((t, k) ∷ step b (r ++ y)) (step b (r ++ y)) ≡ cond v ((t, k) ∷ step b r) (step b r) ++ step b y) [
        | true ↦ ap (λ x. (t, k) ∷ x) (step_append b r y)
        | false ↦ step_append b r y
      ]

  pub own_led : (x : ℕ) (w : List ℕ) (r : RowsOf K) → own (led (x ∷ w) r) ≡ None
  own_led x w [] = refl
  own_led x w ((t, k) ∷ r) = own_led x w r

  pub step_hit : (b : ℕ) (w : List ℕ) (r : RowsOf K) → step b (led (b ∷ w) r) ≡ led w r
  step_hit b w [] = refl
  step_hit b w ((t, k) ∷ r) =
      let e : (b == b) ≡ true = grind (arith, nat_tests) in
      rw e (ap (λ x. (w ++ t, k) ∷ x) (step_hit b w r))

  pub step_miss : (b x : ℕ) (w : List ℕ) (r : RowsOf K) → x ≢ b → step b (led (x ∷ w) r) ≡ []
  step_miss b x w [] n = refl
  step_miss b x w ((t, k) ∷ r) n =
      let e : (x == b) ≡ false = grind (arith, nat_tests) in
      rw e (step_miss b x w r n)

  pub param_step_nil : (p : List ℕ) → (param_step {K = K} [] p).1 ≡ []
  unfolding param_step
  param_step_nil p =
      elim (has_slash p) as (λ v. (cond {A = ℕ × RowsOf K} v (0, []) (length p, [])).1 ≡ []) [
        | true ↦ refl
        | false ↦ refl
      ]

  pub seek_nil : (k : ℕ) (p : List ℕ) → seek {K = K} k [] p ≡ None
  unfolding seek
  seek_nil k [] = refl
  seek_nil (suc k) (b ∷ p) = seek_nil k p
  seek_nil zero (b ∷ p) = simp (seek_nil 0 p, param_step_nil (b ∷ p), seek_nil (((param_step {K = K} [] (b ∷ p)).0) - 1) p)

  pub seek_drop : (k : ℕ) (r : RowsOf K) (p : List ℕ) → seek k r p ≡ seek 0 r (drop k p)
  unfolding seek
  seek_drop zero r p = refl
  seek_drop (suc k) r [] = refl
  seek_drop (suc k) r (b ∷ p) = seek_drop k r p

  -- rows that go on with bytes alone
  pub seek_byte : (rs : RowsOf K) (b : ℕ) (p : List ℕ) → step 256 rs ≡ [] → step 257 rs ≡ [] → first rs (b ∷ p) ≡ first (step b rs) p
  unfolding seek
  seek_byte rs b p e f = simp (e, f, param_step_nil (b ∷ p), seek_nil ((param_step {K = K} [] (b ∷ p)).0 - 1) p, or_none)

  pub first_led : (x : ℕ) (w : List ℕ) (r : RowsOf K) (b : ℕ) (p : List ℕ) → is_byte x ≡ true → first (led (x ∷ w) r) (b ∷ p) ≡ first (step b (led (x ∷ w) r)) p
  first_led x w r b p h =
      let n1 : x ≢ 256 = λ e. grind (arith, nat_tests) in
      let n2 : x ≢ 257 = λ e. grind (arith, nat_tests) in
      seek_byte (led (x ∷ w) r) b p (step_miss 256 x w r n1) (step_miss 257 x w r n2)

  -- a path that begins with the bytes of all rows goes on after them
  pub led_first : (w : List ℕ) (r : RowsOf K) (rest : List ℕ) → list_all is_byte w ≡ true → first (led w r) (w ++ rest) ≡ first r rest
  led_first [] r rest h = ap (λ x. first x rest) (led_nil r)
  led_first (x ∷ w) r rest h =
      let p = both (is_byte x) (list_all is_byte w) h in
      first_led x w r x (w ++ rest) p.0 ∙ ap (λ rs. first rs (w ++ rest)) (step_hit x w r) ∙ led_first w r rest p.1

  some_none : {X : Type 0} {k : K} → None ≡ Some k → X
  some_none h = absurd (let no : None ≡ Some _ = h in grind arith)

  -- a path that finds one of them begins with those bytes
  pub led_found : (w : List ℕ) (r : RowsOf K) (path : List ℕ) (k : K) → list_all is_byte w ≡ true → first (led w r) path ≡ Some k
      → (rest : List ℕ) × (path ≡ w ++ rest) × (first r rest ≡ Some k)
  unfolding seek
  led_found [] r path k h f = (path, refl, sym (ap (λ x. first x path) (led_nil r)) ∙ f)
  led_found (x ∷ w) r [] k h f = some_none (sym (own_led x w r) ∙ f)
  led_found (x ∷ w) r (b ∷ p) k h f = by (x == b) refl (led_found w r p k (both (is_byte x) (list_all is_byte w) h).1)
    where
      down : first (step b (led (x ∷ w) r)) p ≡ Some k
      down = sym (first_led x w r b p (both (is_byte x) (list_all is_byte w) h).0) ∙ f

      by : (v : Bool) → (x == b) ≡ v → (first (led w r) p ≡ Some k → (rest : List ℕ) × (p ≡ w ++ rest) × (first r rest ≡ Some k))
          → (rest : List ℕ) × (b ∷ p ≡ (x ∷ w) ++ rest) × (first r rest ≡ Some k)
      by true e more =
          let same : x ≡ b = grind (arith, nat_tests) in
          let go : first (led w r) p ≡ Some k = sym (ap (λ rs. first rs p) (ap (λ y. step y (led (x ∷ w) r)) (sym same) ∙ step_hit x w r)) ∙ down in
          let (rest, split, found) = more go in
          (rest, ap (λ y. y ∷ p) (sym same) ∙ ap (λ l. x ∷ l) split, found)
      by false e more =
          let n : x ≢ b = λ q. grind (arith, nat_tests) in
          some_none (sym (seek_nil 0 p) ∙ sym (ap (λ rs. first rs p) (step_miss b x w r n)) ∙ down)

  -- rows of which some begin with a byte and the others do not
  pub first_or : (a : ℕ) (w : List ℕ) (r y : RowsOf K) (path : List ℕ) → is_byte a ≡ true → step a y ≡ [] → step 256 y ≡ [] → step 257 y ≡ []
      → first (led (a ∷ w) r ++ y) path ≡ or_else (first (led (a ∷ w) r) path) (first y path)
  unfolding seek
  first_or a w r y [] h s0 s1 s2 = own_append (led (a ∷ w) r) y
  first_or a w r y (b ∷ p) h s0 s1 s2 = seek_byte (led (a ∷ w) r ++ y) b p (none 256 n1 s1) (none 257 n2 s2) ∙ by (a == b) refl
    where
      n1 : a ≢ 256
      n1 e = grind (arith, nat_tests)

      n2 : a ≢ 257
      n2 e = grind (arith, nat_tests)

      none : (x : ℕ) → a ≢ x → step x y ≡ [] → step x (led (a ∷ w) r ++ y) ≡ []
      none x n e = step_append x (led (a ∷ w) r) y ∙ rw (step_miss x a w r n, e) refl

      by : (v : Bool) → (a == b) ≡ v → first (step b (led (a ∷ w) r ++ y)) p ≡ or_else (first (led (a ∷ w) r) (b ∷ p)) (first y (b ∷ p))
      by true e =
          let same : a ≡ b = grind (arith, nat_tests) in
          let other : step b y ≡ [] = ap (λ x. step x y) (sym same) ∙ s0 in
          ap (λ rs. first rs p) (step_append b (led (a ∷ w) r) y ∙ ap (λ l. step b (led (a ∷ w) r) ++ l) other ∙ append-nil (step b (led (a ∷ w) r)))
          ∙ sym (first_led a w r b p h)
          ∙ sym (ap (or_else (first (led (a ∷ w) r) (b ∷ p))) (seek_byte y b p s1 s2 ∙ ap (λ rs. first rs p) other ∙ seek_nil 0 p) ∙ or_none _)
      by false e =
          let n : a ≢ b = λ q. grind (arith, nat_tests) in
          let mine : step b (led (a ∷ w) r) ≡ [] = step_miss b a w r n in
          ap (λ rs. first rs p) (step_append b (led (a ∷ w) r) y ∙ ap (λ l. l ++ step b y) mine)
          ∙ sym (seek_byte y b p s1 s2)
          ∙ sym (ap (λ o. or_else o (first y (b ∷ p))) (first_led a w r b p h ∙ ap (λ rs. first rs p) mine ∙ seek_nil 0 p))

  pub or_found : (x y : Option K) (k : K) → or_else x y ≡ Some k → (x ≡ Some k) ⊎ (y ≡ Some k)
  or_found None y k h = inr h
  or_found (Some j) y k h = inl h

  pub or_first : (x y : Option K) (k : K) → x ≡ Some k → or_else x y ≡ Some k
  or_first x y k h = rw h refl

  pub or_second : (x y : Option K) → x ≡ None → or_else x y ≡ y
  or_second x y h = rw h refl

  -- the first rows do not begin with the path's byte
  pub skip : (a : ℕ) (w : List ℕ) (r y : RowsOf K) (b : ℕ) (p : List ℕ) → is_byte a ≡ true → step a y ≡ [] → step 256 y ≡ [] → step 257 y ≡ [] → (a == b) ≡ false
      → first (led (a ∷ w) r ++ y) (b ∷ p) ≡ first y (b ∷ p)
  skip a w r y b p h s0 s1 s2 e =
      let n : a ≢ b = λ q. grind (arith, nat_tests) in
      first_or a w r y (b ∷ p) h s0 s1 s2
      ∙ or_second _ (first y (b ∷ p)) (first_led a w r b p h ∙ ap (λ rs. first rs p) (step_miss b a w r n) ∙ seek_nil 0 p)

  -- the first rows have the path
  pub enter : (a : ℕ) (w : List ℕ) (r y : RowsOf K) (path : List ℕ) (k : K) → is_byte a ≡ true → step a y ≡ [] → step 256 y ≡ [] → step 257 y ≡ []
      → first (led (a ∷ w) r) path ≡ Some k → first (led (a ∷ w) r ++ y) path ≡ Some k
  enter a w r y path k h s0 s1 s2 f = first_or a w r y path h s0 s1 s2 ∙ or_first _ (first y path) k f

  -- ---- what ends a route

  -- nothing more
  pub end_found : (k j : K) (path : List ℕ) → first (([], k) ∷ []) path ≡ Some j → (path ≡ []) × (j ≡ k)
  unfolding seek
  end_found k j [] h = (refl, sym (same_Some k j h))
  end_found k j (b ∷ p) h = some_none (sym (seek_byte (([], k) ∷ []) b p refl refl ∙ seek_nil 0 p) ∙ h)

  -- the rest of the path
  pub rest_first : (k : K) (b : ℕ) (p : List ℕ) → is_byte b ≡ true → first ((257 ∷ [], k) ∷ []) (b ∷ p) ≡ Some k
  unfolding seek
  rest_first k b p h =
      let n : (257 == b) ≡ false = grind (arith, nat_tests) in
      simp (n, param_step_nil (b ∷ p), seek_nil 0 p, seek_nil ((param_step {K = K} [] (b ∷ p)).0 - 1) p)

  -- ---- a parameter

  wild_step : (rs : RowsOf K) (b : ℕ) (p : List ℕ) → step b rs ≡ [] → step 257 rs ≡ []
      → first rs (b ∷ p) ≡ seek ((param_step (step 256 rs) (b ∷ p)).0 - 1) (param_step (step 256 rs) (b ∷ p)).1 p
  unfolding seek
  wild_step rs b p e f = simp (e, f, seek_nil 0 p, or_none)

  plain_step : (rs : RowsOf K) (path : List ℕ) → longest_suffix (segment path) rs ≡ [] → has_slash path ≡ false → param_step rs path ≡ (length path, rs)
  unfolding param_step
  plain_step rs path e h = rw (e, h) refl

  plain_stop : (rs : RowsOf K) (path : List ℕ) → longest_suffix (segment path) rs ≡ [] → has_slash path ≡ true → param_step rs path ≡ (0, [])
  unfolding param_step
  plain_stop rs path e h = rw (e, h) refl

  suffix_step : (rs : RowsOf K) (path : List ℕ) → longest_suffix (segment path) rs ≡ 47 ∷ []
      → param_step rs path ≡ (length (segment path) - 1, with_suffix (47 ∷ []) rs)
  unfolding param_step
  suffix_step rs path e = rw e refl

  seek_all : (rs : RowsOf K) (b : ℕ) (p : List ℕ) → seek (length (b ∷ p) - 1) rs p ≡ own rs
  unfolding seek
  seek_all rs b p =
      let n : length (b ∷ p) - 1 ≡ length p = omega arith in
      ap (λ k. seek k rs p) n ∙ seek_drop (length p) rs p ∙ ap (seek 0 rs) (drop_all p)
    where
      drop_all : (l : List ℕ) → drop (length l) l ≡ []
      drop_all [] = refl
      drop_all (x ∷ l) = drop_all l

  at_step : (rs : RowsOf K) (b : ℕ) (p : List ℕ) (k : ℕ) (next : RowsOf K) → step b rs ≡ [] → step 257 rs ≡ [] → param_step (step 256 rs) (b ∷ p) ≡ (k, next)
      → first rs (b ∷ p) ≡ seek (k - 1) next p
  at_step rs b p k next e f g = wild_step rs b p e f ∙ ap (λ x. seek (x.0 - 1) x.1 p) g

  -- a last parameter
  last_plain : (k : K) (b : ℕ) (p : List ℕ) → is_byte b ≡ true → has_slash (b ∷ p) ≡ false → first ((256 ∷ [], k) ∷ []) (b ∷ p) ≡ Some k
  last_plain k b p h e =
      let n : (256 == b) ≡ false = grind (arith, nat_tests) in
      at_step ((256 ∷ [], k) ∷ []) b p (length (b ∷ p)) (([], k) ∷ []) (rw n refl) refl (plain_step (([], k) ∷ []) (b ∷ p) refl e) ∙ seek_all (([], k) ∷ []) b p

  last_slash : (k : K) (b : ℕ) (p : List ℕ) → is_byte b ≡ true → has_slash (b ∷ p) ≡ true → first ((256 ∷ [], k) ∷ []) (b ∷ p) ≡ None
  last_slash k b p h e =
      let n : (256 == b) ≡ false = grind (arith, nat_tests) in
      at_step ((256 ∷ [], k) ∷ []) b p 0 [] (rw n refl) refl (plain_stop (([], k) ∷ []) (b ∷ p) refl e) ∙ seek_nil 0 p

  pub last_first : (k : K) (part : List ℕ) → IsPart part → first ((256 ∷ [], k) ∷ []) part ≡ Some k
  last_first k [] h = let no : 0 < 0 = h.some in absurd (omega arith)
  last_first k (b ∷ p) h = last_plain k b p (both (is_byte b) (list_all is_byte p) h.bytes).0 (slash_any (b ∷ p) ∙ h.no_slash)

  pub last_found : (k j : K) (path : List ℕ) → list_all is_byte path ≡ true → first ((256 ∷ [], k) ∷ []) path ≡ Some j → IsPart path × (j ≡ k)
  unfolding seek
  last_found k j [] h f = some_none f
  last_found k j (b ∷ p) h f = by (has_slash (b ∷ p)) refl
    where
      small : is_byte b ≡ true
      small = (both (is_byte b) (list_all is_byte p) h).0

      by : (v : Bool) → has_slash (b ∷ p) ≡ v → IsPart (b ∷ p) × (j ≡ k)
      by true e = some_none (sym (last_slash k b p small e) ∙ f)
      by false e =
          (record { some = omega arith; bytes = h; no_slash = sym (slash_any (b ∷ p)) ∙ e }, sym (same_Some k j (sym (last_plain k b p small e) ∙ f)))

  -- a parameter and then a slash
  pub cut_first : (t : List ℕ) (k : K) (b : ℕ) (a rest : List ℕ) → is_byte b ≡ true → has_slash (b ∷ a) ≡ false
      → first ((256 ∷ 47 ∷ t, k) ∷ []) ((b ∷ a) ++ 47 ∷ rest) ≡ first ((t, k) ∷ []) rest
  cut_first t k b a rest h e =
      let n : (256 == b) ≡ false = grind (arith, nat_tests) in
      let rows : RowsOf K = (47 ∷ t, k) ∷ [] in
      let seg : segment ((b ∷ a) ++ 47 ∷ rest) ≡ (b ∷ a) ++ 47 ∷ [] = segment_cut (b ∷ a) rest e in
      let cut : cuts (segment ((b ∷ a) ++ 47 ∷ rest)) (47 ∷ []) ≡ true = ap (λ s. cuts s (47 ∷ [])) seg ∙ cuts_part b a in
      let longest : longest_suffix (segment ((b ∷ a) ++ 47 ∷ rest)) rows ≡ 47 ∷ [] = ap (λ v. cond v (47 ∷ []) []) cut in
      let len : length ((b ∷ a) ++ 47 ∷ []) ≡ length (b ∷ a) + 1 = length-append (b ∷ a) (47 ∷ []) in
      let back : length (segment ((b ∷ a) ++ 47 ∷ rest)) - 1 - 1 ≡ length a = ap (λ s. length s - 1 - 1) seg ∙ omega arith in
      at_step ((256 ∷ 47 ∷ t, k) ∷ []) b (a ++ 47 ∷ rest) (length (segment ((b ∷ a) ++ 47 ∷ rest)) - 1) rows (rw n refl) refl
      (suffix_step rows ((b ∷ a) ++ 47 ∷ rest) longest)
      ∙ ap (λ x. seek x rows (a ++ 47 ∷ rest)) back
      ∙ seek_drop (length a) rows (a ++ 47 ∷ rest)
      ∙ ap (first rows) (drop-append_seam a (47 ∷ rest))
      ∙ seek_byte rows 47 rest refl refl

  pub part_first : (t : List ℕ) (k : K) (part rest : List ℕ) → IsPart part → first ((256 ∷ 47 ∷ t, k) ∷ []) (part ++ 47 ∷ rest) ≡ first ((t, k) ∷ []) rest
  part_first t k [] rest h = let no : 0 < 0 = h.some in absurd (omega arith)
  part_first t k (b ∷ a) rest h = cut_first t k b a rest (both (is_byte b) (list_all is_byte a) h.bytes).0 (slash_any (b ∷ a) ∙ h.no_slash)

  -- what a parameter before a slash took, and what is left
  pub record IsCutOff (t : List ℕ) (k : K) (path : List ℕ) (j : K) : Type 0 where
    pub part : List ℕ
    pub rest : List ℕ
    pub whole : path ≡ part ++ 47 ∷ rest
    pub is_part : IsPart part
    pub bytes : list_all is_byte rest ≡ true
    pub found : first ((t, k) ∷ []) rest ≡ Some j

  uncut : (t : List ℕ) (k : K) (b : ℕ) (p : List ℕ) → is_byte b ≡ true → has_slash (b ∷ p) ≡ false → first ((256 ∷ 47 ∷ t, k) ∷ []) (b ∷ p) ≡ None
  uncut t k b p h e =
      let n : (256 == b) ≡ false = grind (arith, nat_tests) in
      let rows : RowsOf K = (47 ∷ t, k) ∷ [] in
      at_step ((256 ∷ 47 ∷ t, k) ∷ []) b p (length (b ∷ p)) rows (rw n refl) refl
      (plain_step rows (b ∷ p) (ap (λ v. cond v (47 ∷ []) []) (no_cut (b ∷ p) e)) e)
      ∙ seek_all rows b p
    where
      no_end : (s : List ℕ) (v : Bool) → has_slash s ≡ false → ends_with nat_eq s (47 ∷ []) ≡ v → v ≡ false
      no_end s true q r = let no : true ≡ false = sym (ends_slash s r) ∙ q in no
      no_end s false q r = refl

      no_cut : (s : List ℕ) → has_slash s ≡ false → cuts (segment s) (47 ∷ []) ≡ false
      no_cut s q =
          ap (λ x. cuts x (47 ∷ [])) (segment_all s q) ∙ and_right (ltb 1 (length s)) (ends_with nat_eq s (47 ∷ [])) (no_end s (ends_with nat_eq s (47 ∷ [])) q refl)

  slash_first : (t : List ℕ) (k : K) (rest : List ℕ) → first ((256 ∷ 47 ∷ t, k) ∷ []) (47 ∷ rest) ≡ None
  slash_first t k rest =
      at_step ((256 ∷ 47 ∷ t, k) ∷ []) 47 rest 0 [] refl refl (plain_stop ((47 ∷ t, k) ∷ []) (47 ∷ rest) refl refl) ∙ seek_nil 0 rest

  pub cut_found : (t : List ℕ) (k j : K) (path : List ℕ) → list_all is_byte path ≡ true → first ((256 ∷ 47 ∷ t, k) ∷ []) path ≡ Some j → IsCutOff t k path j
  unfolding seek
  cut_found t k j [] h f = some_none f
  cut_found t k j (b ∷ p) h f = by (cut_at (b ∷ p))
    where
      by : (has_slash (b ∷ p) ≡ false) ⊎ IsCutAt (b ∷ p) → IsCutOff t k (b ∷ p) j
      by (inl none) = some_none (sym (uncut t k b p (both (is_byte b) (list_all is_byte p) h).0 none) ∙ f)
      by (inr c) = at c.front c.rest c.whole c.plain
        where
          at : (front rest : List ℕ) → b ∷ p ≡ front ++ 47 ∷ rest → has_slash front ≡ false → IsCutOff t k (b ∷ p) j
          at [] rest whole plain = some_none (sym (slash_first t k rest) ∙ sym (ap (first ((256 ∷ 47 ∷ t, k) ∷ [])) whole) ∙ f)
          at (x ∷ a) rest whole plain =
              let split : (list_all is_byte (x ∷ a) && list_all is_byte (47 ∷ rest)) ≡ true =
              sym (list_all-append is_byte (x ∷ a) (47 ∷ rest)) ∙ ap (list_all is_byte) (sym whole) ∙ h in
              let parts = both (list_all is_byte (x ∷ a)) (list_all is_byte (47 ∷ rest)) split in
              let small = (both (is_byte x) (list_all is_byte a) parts.0).0 in
              record {
                part = x ∷ a;
                rest = rest;
                whole = whole;
                is_part = record { some = omega arith; bytes = parts.0; no_slash = sym (slash_any (x ∷ a)) ∙ plain };
                bytes = (both (is_byte 47) (list_all is_byte rest) parts.1).1;
                found = sym (cut_first t k x a rest small plain) ∙ sym (ap (first ((256 ∷ 47 ∷ t, k) ∷ [])) whole) ∙ f;
              }
