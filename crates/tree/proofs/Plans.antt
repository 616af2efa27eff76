-- What the contract of a plan says.
use Rattle.std.proofs.Common.{◌≡◌, ◌≢◌, ℕ, ◌⊎◌, Bool, true, false, not, ◌==◌, bytes_eq, List, ◌++◌, map, filter, Option, Some, None, inl, inr, refl, sym, ap, subst, ◌∙◌}
use Rattle.std.specs.Prelude.{Contains, ⊤, is_some, is_none}
use Rattle.std.specs.Option.{option_map_or}
use Rattle.std.proofs.lemmas.Bool.Decides.{Decides-eqb}
use Rattle.std.proofs.lemmas.List.Elements.{Contains-append_cases}
use Rattle.std.proofs.lemmas.Slice.Eq.{bytes_eq-Decides}
use Rattle.sums.proofs.Members.{from_map}
use Rattle.sums.specs.Prints.{same_print}
use Rattle.sums.specs.declared.print.Print.{Print}
use Rattle.suites.proofs.ListMembers.{from_filter, to_filter}
use Rattle.suites.proofs.Prints.{same_print-equal}
use Rattle.suites.specs.declared.item.PoolFile.{PoolFile}
use Rattle.tree.specs.Planned.{planned}
use Rattle.tree.specs.Tree.{Tree, AreShown, AtEach, IsBegun, IsFirm, IsFoundFor, IsNeeded, IsWholeFor, is_among, is_new, is_other, kept_back, left_by, made}
use Rattle.tree.specs.declared.steps.Step.{Step}
use Rattle.tree.specs.declared.steps.Step.TheVariants.{Write, Show, Remove}
use Rattle.tree.proofs.Ends.{AreAgreed, placed_all, shown_all, removed_all}
use Rattle.tree.proofs.Sound.{Sound, Placing, Settled, placing_keeps, show_keeps, removal_keeps, placing_sound, settled_sound}
use Rattle.tree.proofs.Walks.{IsPlace, IsShow, IsRemoval, among, at_each, at_path, each_map, join, left_by-append, places, removals, shows, walk}

-- ---- the whole plan

module _ (there : List ℕ → Option Print) (files : List PoolFile) (suites : List ℕ) (left : List (List ℕ)) where
  abbrev news : List Step
  news = map Write (filter (is_new there) files)

  abbrev others : List Step
  others = map Write (filter (is_other there) files)

  abbrev removes : List Step
  removes = map Remove (kept_back files left)

  -- a file of the pool is new, other, or there
  data Way (f : PoolFile) : Type 0 where
    New : is_new there f ≡ true → Way f
    Other : is_other there f ≡ true → Way f
    There : there f.path ≡ Some f.print → Way f

  way_of : (f : PoolFile) → Way f
  unfolding is_new is_other
  way_of f = by_case (there f.path) refl
    where
      by_print : (p : Print) → there f.path ≡ Some p → (b : Bool) → same_print p f.print ≡ b → Way f
      by_print p e true same = There (e ∙ ap Some (same_print-equal p f.print same))
      by_print p e false differ = Other (ap (λ o. option_map_or (λ print. not (same_print print f.print)) o false) e ∙ ap not differ)

      by_case : (o : Option Print) → there f.path ≡ o → Way f
      by_case None e = New (ap is_none e)
      by_case (Some p) e = by_print p e (same_print p f.print) refl

  module _ (agreed : AreAgreed files) (tree : Tree) (new : ℕ → List PoolFile) (begun : IsBegun there left tree) where
    -- once the files are written, each of the pool is there
    settles : (f : PoolFile) → Contains files f → (left_by new (left_by new tree news) others).pool f.path ≡ Some f.print
    settles f h =
        placed_all new files agreed (filter (is_other there) files) (λ x k. (from_filter (is_other there) x files k).0) (left_by new tree news) f h
        (by_way (way_of f))
      where
        first : Contains (filter (is_new there) files) f ⊎ (tree.pool f.path ≡ Some f.print) → (left_by new tree news).pool f.path ≡ Some f.print
        first w = placed_all new files agreed (filter (is_new there) files) (λ x k. (from_filter (is_new there) x files k).0) tree f h w

        by_way : Way f → Contains (filter (is_other there) files) f ⊎ ((left_by new tree news).pool f.path ≡ Some f.print)
        by_way (New e) = inr (first (inl (to_filter (is_new there) f files h e)))
        by_way (Other e) = inl (to_filter (is_other there) f files h e)
        by_way (There e) = inr (first (inr (begun.known f.path f.print e)))

    module _ (R : Option Print → PoolFile → Type 0) (own : (f : PoolFile) → R (Some f.print) f)
        (over : (suite : ℕ) (f g : PoolFile) → Contains (tree.named suite) f → Contains files g → f.path ≡ g.path → R (Some g.print) f) (shown : AreShown files new) where
      start : Placing R own files new tree tree
      start = record {
        names = λ suite f h. h;
        held = λ suite f h. subst (λ o. R o f) (sym (begun.whole suite f h)) (own f);
      }

      pub sound : AtEach new (Sound R own files new tree) tree (planned there files suites left)
      sound =
          let P = Sound R own files new tree in
          let one = walk new (Placing R own files new tree) P (IsPlace files) (placing_keeps R own files new tree over) (placing_sound R own files new tree) news (places files (is_new there)) tree start in
          let two = walk new (Placing R own files new tree) P (IsPlace files) (placing_keeps R own files new tree over) (placing_sound R own files new tree) others (places files (is_other there)) (left_by new tree news) one.1 in
          let begin : Settled R own files new tree (left_by new (left_by new tree news) others) = record { names = λ suite f h. inl (two.1.names suite f h); held = two.1.held; files_there = settles } in
          let three = walk new (Settled R own files new tree) P IsShow (show_keeps R own files new tree shown) (settled_sound R own files new tree) (map Show suites) (shows suites) (left_by new (left_by new tree news) others) begin in
          let four = walk new (Settled R own files new tree) P (IsRemoval files left) (removal_keeps R own files new tree left begun.unnamed) (settled_sound R own files new tree) removes (removals files left) (left_by new (left_by new (left_by new tree news) others) (map Show suites)) three.1 in
          let a = join new P news others tree one.0 two.0 in
          let at = left_by-append new news others tree in
          let b = join new P (news ++ others) (map Show suites) tree a (subst (λ t. AtEach new P t (map Show suites)) (sym at) three.0) in
          let at2 = left_by-append new (news ++ others) (map Show suites) tree ∙ ap (λ t. left_by new t (map Show suites)) at in
          join new P ((news ++ others) ++ map Show suites) removes tree b (subst (λ t. AtEach new P t removes) (sym at2) four.0)

-- what is there as it is to be is not other
not_other : (a : Print) → option_map_or (λ print. not (same_print print a)) (Some a) false ≡ false
not_other a =
    let size : (a.size == a.size) ≡ true = (Decides-eqb a.size a.size).1 refl in
    let md5 : bytes_eq a.md5 a.md5 ≡ true = (bytes_eq-Decides a.md5 a.md5).1 refl in
    let sha1 : bytes_eq a.sha1 a.sha1 ≡ true = (bytes_eq-Decides a.sha1 a.sha1).1 refl in
    let sha256 : bytes_eq a.sha256 a.sha256 ≡ true = (bytes_eq-Decides a.sha256 a.sha256).1 refl in
    rw (size, md5, sha1, sha256) refl

placed_is : (f g : PoolFile) → Write f ≡ Write g → f ≡ g
placed_is f g e = cc e

-- ---- what the contract of a plan says

module _ (there : List ℕ → Option Print) (files : List PoolFile) (suites : List ℕ) (left : List (List ℕ)) (steps : List Step) (is : steps ≡ planned there files suites left) where
  pub whole_at_each : AreAgreed files → (tree : Tree) (new : ℕ → List PoolFile) → IsBegun there left tree → AreShown files new → IsFirm files tree → AtEach new (IsWholeFor tree) tree steps
  whole_at_each agreed tree new begun shown firm = subst (λ s. AtEach new (IsWholeFor tree) tree s) (sym is)
      (at_each new (λ t i. record { now = i.0; before = i.1 }) (planned there files suites left) tree
      (sound there files suites left agreed tree new begun (λ o f. o ≡ Some f.print) (λ f. refl) (λ suite f g named h same. ap Some (sym (firm suite f g named h same))) shown))

  -- wherever the export is stopped, the next one may begin
  pub goes_on_at_each : AreAgreed files → (tree : Tree) (new : ℕ → List PoolFile) → IsBegun there left tree → AreShown files new → IsFirm files tree
      → AtEach new (IsBegun (λ path. None) (kept_back files left)) tree steps
  goes_on_at_each agreed tree new begun shown firm = subst (λ s. AtEach new (IsBegun (λ path. None) (kept_back files left)) tree s) (sym is)
      (at_each new
      (λ t i. record {
        known = λ path print e. cc e;
        unnamed = λ suite f named gone. (let r = from_filter (λ path. not (is_among files path)) f.path left gone in elim (i.2 suite f named) [
          | inl was ↦ begun.unnamed suite f was r.0
          | inr of_pool ↦ cc (sym r.1 ∙ ap not (among files f of_pool))
        ]);
        whole = i.0;
      })
      (planned there files suites left) tree
      (sound there files suites left agreed tree new begun (λ o f. o ≡ Some f.print) (λ f. refl) (λ suite f g named h same. ap Some (sym (firm suite f g named h same))) shown))

  pub found_at_each : AreAgreed files → (tree : Tree) (new : ℕ → List PoolFile) → IsBegun there left tree → AreShown files new → AtEach new (IsFoundFor tree) tree steps
  found_at_each agreed tree new begun shown = subst (λ s. AtEach new (IsFoundFor tree) tree s) (sym is)
      (at_each new (λ t i. record { now = i.0; before = i.1 }) (planned there files suites left) tree
      (sound there files suites left agreed tree new begun (λ o f. is_some o ≡ true) (λ f. refl) (λ suite f g named h same. refl) shown))

  -- the tree in the end, by the four kinds of steps
  ends : (tree : Tree) (new : ℕ → List PoolFile) → left_by new tree steps ≡ left_by new (left_by new (left_by new (left_by new tree (news there files suites left)) (others there files suites left)) (map Show suites)) (removes there files suites left)
  ends tree new =
      let a = news there files suites left in
      let b = others there files suites left in
      ap (left_by new tree) is
      ∙ left_by-append new ((a ++ b) ++ map Show suites) (removes there files suites left) tree
      ∙ ap (λ t. left_by new t (removes there files suites left)) (left_by-append new (a ++ b) (map Show suites) tree ∙ ap (λ t. left_by new t (map Show suites)) (left_by-append new a b tree))

  -- each file of the pool is there in the end
  pub placed_in_the_end : AreAgreed files → (tree : Tree) (new : ℕ → List PoolFile) → IsBegun there left tree → (f : PoolFile) → Contains files f → (left_by new tree steps).pool f.path ≡ Some f.print
  placed_in_the_end agreed tree new begun f h =
      let one = left_by new (left_by new tree (news there files suites left)) (others there files suites left) in
      let Inv : Tree → Type 0 = λ t. t.pool f.path ≡ Some f.print in
      let two = walk new Inv Inv IsShow show_stays (λ t i. i) (map Show suites) (shows suites) one (settles there files suites left agreed tree new begun f h) in
      let three = walk new Inv Inv (IsRemoval files left) removal_stays (λ t i. i) (removes there files suites left) (removals files left) (left_by new one (map Show suites)) two.1 in
      subst (λ t. t.pool f.path ≡ Some f.print) (sym (ends tree new)) three.1
    where
      show_stays : (t : Tree) (s : Step) → IsShow s → t.pool f.path ≡ Some f.print → (made new t s).pool f.path ≡ Some f.print
      show_stays t (Write g) k i = absurd k
      show_stays t (Show n) k i = i
      show_stays t (Remove p) k i = absurd k

      removal_stays : (t : Tree) (s : Step) → IsRemoval files left s → t.pool f.path ≡ Some f.print → (made new t s).pool f.path ≡ Some f.print
      removal_stays t (Write g) k i = absurd k
      removal_stays t (Show n) k i = absurd k
      removal_stays t (Remove p) k i = at_path (λ o. o ≡ Some f.print) f.path p None (t.pool f.path) (λ same. cc (sym (among files f h) ∙ ap (is_among files) same ∙ k.1)) (λ other. i)

  -- a suite that showed its new index already, or is among these, shows what it is to show
  pub shown_in_the_end : (tree : Tree) (new : ℕ → List PoolFile) (suite : ℕ) → Contains suites suite ⊎ (tree.named suite ≡ new suite) → (left_by new tree steps).named suite ≡ new suite
  shown_in_the_end tree new suite h =
      let a = news there files suites left in
      let b = others there files suites left in
      let Same : Tree → Type 0 = λ t. t.named suite ≡ tree.named suite in
      let one = walk new Same Same (IsPlace files) same_stays (λ t i. i) a (places files (is_new there)) tree refl in
      let two = walk new Same Same (IsPlace files) same_stays (λ t i. i) b (places files (is_other there)) (left_by new tree a) one.1 in
      let behind = left_by new (left_by new tree a) b in
      let Inv : Tree → Type 0 = λ t. t.named suite ≡ new suite in
      let began : Contains suites suite ⊎ (behind.named suite ≡ new suite) = elim h [ inl k ↦ inl k | inr e ↦ inr (two.1 ∙ e) ] in
      let three = walk new Inv Inv (IsRemoval files left) stays (λ t i. i) (removes there files suites left) (removals files left) (left_by new behind (map Show suites)) (shown_all new suites behind suite began) in
      subst (λ t. t.named suite ≡ new suite) (sym (ends tree new)) three.1
    where
      same_stays : (t : Tree) (s : Step) → IsPlace files s → t.named suite ≡ tree.named suite → (made new t s).named suite ≡ tree.named suite
      same_stays t (Write g) k i = i
      same_stays t (Show n) k i = absurd k
      same_stays t (Remove p) k i = absurd k

      stays : (t : Tree) (s : Step) → IsRemoval files left s → t.named suite ≡ new suite → (made new t s).named suite ≡ new suite
      stays t (Write g) k i = absurd k
      stays t (Show n) k i = absurd k
      stays t (Remove p) k i = i

  -- what was left before and is not a file of the pool is gone
  pub gone_in_the_end : (tree : Tree) (new : ℕ → List PoolFile) (path : List ℕ) → Contains left path → is_among files path ≡ false → (left_by new tree steps).pool path ≡ None
  gone_in_the_end tree new path h free =
      let three = left_by new (left_by new (left_by new tree (news there files suites left)) (others there files suites left)) (map Show suites) in
      subst (λ t. t.pool path ≡ None) (sym (ends tree new))
      (removed_all new (kept_back files left) three path (inl (to_filter (λ q. not (is_among files q)) path left h (ap not free))))

  -- a path that is neither of the pool nor was left is not touched
  abbrev Untouched : Tree → List ℕ → Tree → Type 0
  Untouched tree path t = t.pool path ≡ tree.pool path

  pub rest_at_each : (tree : Tree) (new : ℕ → List PoolFile) (path : List ℕ) → (Contains left path → ⊥) → is_among files path ≡ false → AtEach new (λ now. now.pool path ≡ tree.pool path) tree steps
  rest_at_each tree new path not_left free =
      let Inv : Tree → Type 0 = λ t. t.pool path ≡ tree.pool path in
      let a = news there files suites left in
      let b = others there files suites left in
      let c = map Show suites in
      let d = removes there files suites left in
      let one = walk new Inv Inv Touches stays (λ t i. i) a (each_map Touches Write (filter (is_new there) files) (λ f h. of_pool f (from_filter (is_new there) f files h).0)) tree refl in
      let two = walk new Inv Inv Touches stays (λ t i. i) b (each_map Touches Write (filter (is_other there) files) (λ f h. of_pool f (from_filter (is_other there) f files h).0)) (left_by new tree a) one.1 in
      let three = walk new Inv Inv Touches stays (λ t i. i) c (each_map Touches Show suites (λ s h. tt)) (left_by new (left_by new tree a) b) two.1 in
      let four = walk new Inv Inv Touches stays (λ t i. i) d (each_map Touches Remove (kept_back files left) (λ q h e. not_left (subst (λ p. Contains left p) (sym e) (from_filter (λ q. not (is_among files q)) q left h).0))) (left_by new (left_by new (left_by new tree a) b) c) three.1 in
      let at = left_by-append new a b tree in
      let at2 = left_by-append new (a ++ b) c tree ∙ ap (λ t. left_by new t c) at in
      subst (λ s. AtEach new Inv tree s) (sym is)
      (join new Inv ((a ++ b) ++ c) d tree
      (join new Inv (a ++ b) c tree (join new Inv a b tree one.0 two.0) (subst (λ t. AtEach new Inv t c) (sym at) three.0))
      (subst (λ t. AtEach new Inv t d) (sym at2) four.0))
    where
      -- a step at another path
      Touches : Step → Type 0
      Touches (Write f) = path ≢ f.path
      Touches (Show suite) = ⊤
      Touches (Remove p) = path ≢ p

      of_pool : (f : PoolFile) → Contains files f → path ≢ f.path
      of_pool f h e = cc (sym free ∙ (ap (is_among files) e ∙ among files f h))

      stays : (t : Tree) (s : Step) → Touches s → t.pool path ≡ tree.pool path → (made new t s).pool path ≡ tree.pool path
      stays t (Write g) k i = at_path (λ o. o ≡ tree.pool path) path g.path (Some g.print) (t.pool path) (λ same. absurd (k same)) (λ other. i)
      stays t (Show n) k i = i
      stays t (Remove p) k i = at_path (λ o. o ≡ tree.pool path) path p None (t.pool path) (λ same. absurd (k same)) (λ other. i)

  -- no step writes what is known to be there
  pub needed_alone : IsNeeded there steps
  unfolding is_new is_other
  needed_alone f h known = by_kind (subst (λ s. Contains s (Write f)) is h)
    where
      written : (p : PoolFile → Bool) → Contains (map Write (filter p files)) (Write f) → p f ≡ true
      written p k = let m = from_map Write (Write f) (filter p files) k in ap p (sym (placed_is m.0 f m.2)) ∙ (from_filter p m.0 files m.1).1

      by_kind : Contains (planned there files suites left) (Write f) → ⊥
      by_kind k = elim (Contains-append_cases ((news there files suites left ++ others there files suites left) ++ map Show suites) (removes there files suites left) (Write f) k) [
        | inl abc ↦ elim (Contains-append_cases (news there files suites left ++ others there files suites left) (map Show suites) (Write f) abc) [
          | inl ab ↦ elim (Contains-append_cases (news there files suites left) (others there files suites left) (Write f) ab) [
            | inl a ↦ (let e : is_none (there f.path) ≡ true = written (is_new there) a in cc (sym e ∙ ap is_none known))
            | inr b ↦ (let e : option_map_or (λ print. not (same_print print f.print)) (there f.path) false ≡ true = written (is_other there) b in
                cc (sym e ∙ (ap (λ o. option_map_or (λ print. not (same_print print f.print)) o false) known ∙ not_other f.print)))
          ]
          | inr c ↦ (let m = from_map Show (Write f) suites c in cc m.2)
        ]
        | inr d ↦ (let m = from_map Remove (Write f) (kept_back files left) d in cc m.2)
      ]
