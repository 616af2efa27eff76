-- How the pool changes when items come and go.
use Rattle.std.proofs.Common.{◌≡◌, ◌≢◌, ℕ, ◌+◌, ◌<◌, ◌≤◌, Bool, true, false, cond, List, [], ◌∷◌, ◌++◌, map, refl, sym, ap, ◌∙◌, Option, Some, None, arith}
use Rattle.std.specs.Prelude.{Contains, is_some, nat_eq, nat_le}
use Rattle.std.specs.List.{enumerate_from}
use Rattle.std.specs.FinMap.{find, get, values, get-from_entries}
use Rattle.std.proofs.lemmas.Bool.Decides.{nat_tests}
use Rattle.std.proofs.lemmas.List.{map-append}
use Rattle.std.proofs.lemmas.List.Elements.{All-contains}
use Rattle.sums.proofs.Members.{from_map}
use Rattle.sums.specs.declared.print.Print.{Print}
use Rattle.suites.specs.Change.{IsChange}
use Rattle.suites.specs.Counts.{count_at}
use Rattle.suites.specs.Keys.{key_order, text_order}
use Rattle.suites.specs.KeyLemmas.{key_order_total, key_order-IsAntisymmetric, text_order_total, text_order-IsAntisymmetric}
use Rattle.suites.specs.Plan.{references, references_of}
use Rattle.suites.specs.Pool.{pair_of, files_of, AreAgreed}
use Rattle.suites.specs.PoolChange.{ListsExactly, referred, references_at, gained, lost}
use Rattle.suites.specs.Shelves.{ShelvesValue, pool}
use Rattle.suites.specs.declared.item.Item.{Item}
use Rattle.suites.specs.declared.item.PoolFile.{PoolFile}
use Rattle.suites.specs.declared.key.ShelfKey.{ShelfKey}
use Rattle.suites.proofs.CountLemmas.{count-change}
use Rattle.suites.proofs.EntryLemmas.{found_at}
use Rattle.suites.proofs.FileMembers.{files_contain, item_of_file, member_found, agreed_found, counted_none, value_shown}
use Rattle.suites.proofs.MapChanges.{or_else, IsChange-from_gets, get-change}
use Rattle.suites.proofs.SharedLemmas.{count_at-none}

-- the prints at one path and their numbers: before and after, and of what comes and goes
record AtPath (old new put dropped : Option Print) (n_old n_new n_put n_dropped : ℕ) : Type 0 where
  sum : n_new + n_dropped ≡ n_old + n_put
  no_old : old ≡ None → n_old ≡ 0
  no_put : put ≡ None → n_put ≡ 0
  no_dropped : dropped ≡ None → n_dropped ≡ 0
  no_new : new ≡ None → n_new ≡ 0
  none_new : n_new ≡ 0 → new ≡ None
  none_old : n_old ≡ 0 → old ≡ None
  put_new : (v : Print) → put ≡ Some v → new ≡ Some v
  dropped_old : (v : Print) → dropped ≡ Some v → old ≡ Some v
  agree : (v w : Print) → old ≡ Some v → new ≡ Some w → v ≡ w

pub le_true : (a b : ℕ) → nat_le a b ≡ true → a ≤ b
le_true a b e = grind (arith, nat_tests)

le_false : (a b : ℕ) → nat_le a b ≡ false → b < a
le_false a b e = grind (arith, nat_tests)

eq_zero : (a : ℕ) → a ≡ 0 → nat_eq a 0 ≡ true
eq_zero a e = grind (arith, nat_tests)

eq_other : (a : ℕ) → a ≢ 0 → nat_eq a 0 ≡ false
eq_other a e = grind (arith, nat_tests)

abbrev gains : ℕ → Option Print → Option Print
gains n_old put = cond (nat_eq n_old 0) put None

abbrev loses : Option Print → ℕ → ℕ → Option Print → Option Print
loses put n_old n_dropped dropped = cond (is_some put) None (cond (nat_le n_old n_dropped) dropped None)

never : (b : Bool) → ◌≡◌ {A = Option Print} (cond b None None) None
never true = refl
never false = refl

-- if as many go as there were and none comes, none is left
emptied : {o n p d : Option Print} {co cn cp cd : ℕ} → AtPath o n p d co cn cp cd → p ≡ None → nat_le co cd ≡ true → n ≡ None
emptied {co = co} {cn = cn} {cp = cp} {cd = cd} h none le = h.none_new (let zero_new : cn ≡ 0 = omega (arith, h.sum, h.no_put none, le_true co cd le) in zero_new)

new_at : (o n p d : Option Print) (co cn cp cd : ℕ) → AtPath o n p d co cn cp cd → n ≡ or_else (gains co p) (cond (is_some (loses p co cd d)) None o)
new_at None n p d co cn cp cd h =
    before p refl
    ∙ sym (λ i. or_else (cond (eq_zero co (h.no_old refl) i) p None) (never (is_some (loses p co cd d)) i))
  where
    before : (q : Option Print) → p ≡ q → n ≡ or_else p None
    before (Some v) e = h.put_new v e ∙ sym (ap (λ o. or_else o None) e)
    before None e =
        h.none_new (let zero_new : cn ≡ 0 = omega (arith, h.sum, h.no_old refl, h.no_put e) in zero_new) ∙ sym (ap (λ o. or_else o None) e)
new_at (Some x) n p d co cn cp cd h = kept p refl ∙ sym (ap (λ b. or_else (cond b p None) (cond (is_some (loses p co cd d)) None (Some x))) (eq_other co counted))
  where
    counted : co ≢ 0
    counted zero_old = (let gone : Some x ≡ None = h.none_old zero_old in cc)

    there : (m : Option Print) → n ≡ m → n ≢ None → n ≡ Some x
    there None e some = absurd (some e)
    there (Some w) e some = e ∙ ap (λ y. Some y) (sym (h.agree x w refl e))

    left : p ≡ None → (b : Bool) → nat_le co cd ≡ b → n ≡ cond (is_some (cond b d None)) None (Some x)
    left none false le = there n refl (λ no_new.
        absurd (omega (arith, h.sum, h.no_put none, h.no_new no_new, le_false co cd le)))
    left none true le = emptied h none le ∙ sym (dropped d refl)
      where
        dropped : (e : Option Print) → d ≡ e → cond (is_some d) None (Some x) ≡ None
        dropped None e = absurd (counted (omega (arith, h.no_dropped e, le_true co cd le)))
        dropped (Some w) e = ap (λ o. cond (is_some o) None (Some x)) e

    kept : (q : Option Print) → p ≡ q → n ≡ cond (is_some (loses p co cd d)) None (Some x)
    kept (Some v) e =
        h.put_new v e ∙ ap (λ y. Some y) (sym (h.agree x v refl (h.put_new v e)))
        ∙ sym (ap (λ o. cond (is_some (loses o co cd d)) None (Some x)) e)
    kept None e = left e (nat_le co cd) refl ∙ sym (ap (λ o. cond (is_some (loses o co cd d)) None (Some x)) e)

absent_at : (o n p d : Option Print) (co cn cp cd : ℕ) → AtPath o n p d co cn cp cd → (v : Print) → gains co p ≡ Some v → cond (is_some (loses p co cd d)) None o ≡ None
absent_at None n p d co cn cp cd h v e = never (is_some (loses p co cd d))
absent_at (Some x) n p d co cn cp cd h v e =
    (let none : gains co p ≡ None = ap (λ b. cond b p None) (eq_other co (λ zero_old. (let gone : Some x ≡ None = h.none_old zero_old in cc))) in cc)

gone_at : (o n p d : Option Print) (co cn cp cd : ℕ) → AtPath o n p d co cn cp cd → (v : Print) → loses p co cd d ≡ Some v → (o ≡ Some v) × (n ≢ Some v)
gone_at o n (Some w) d co cn cp cd h v e = cc
gone_at o n None d co cn cp cd h v e = by_kind (nat_le co cd) refl e
  where
    by_kind : (b : Bool) → nat_le co cd ≡ b → cond b d None ≡ Some v → (o ≡ Some v) × (n ≢ Some v)
    by_kind true le g = (h.dropped_old v g, λ back. (let none : n ≡ None = emptied h refl le in cc))
    by_kind false le g = cc

referred-numbered : (key : ShelfKey) (n : ℕ) (files : List PoolFile)
    → map referred (map (λ f. record { key = key; number = f.0; path = f.1.path; print = f.1.print }) (enumerate_from n files)) ≡ map pair_of files
referred-numbered key n [] = refl
referred-numbered key n (f ∷ files) = ap (λ rest. pair_of f ∷ rest) (referred-numbered key (n + 1) files)

-- the references of items are to their files
pub referred-references : (es : List (ShelfKey × Item)) → map referred (references es) ≡ files_of (map (λ e. e.1) es)
unfolding references
referred-references [] = refl
referred-references (e ∷ es) =
    map-append referred (references_of e) (references es)
    ∙ (λ i. referred-numbered e.0 1 e.1.files i ++ referred-references es i)

-- If the files before and after are among some that agree, the pool changes as the counts say.
pub pool-step : (old new : ShelvesValue) (put dropped : List (ShelfKey × Item)) (files : List (List ℕ × Print)) (added removed : List PoolFile)
    → AreAgreed files
    → ((f : List ℕ × Print) → Contains (files_of (values old)) f → Contains files f)
    → ((f : List ℕ × Print) → Contains (files_of (values new)) f → Contains files f)
    → IsChange old new put dropped
    → ListsExactly added (gained old (references put)) → ListsExactly removed (lost old (references put) (references dropped))
    → IsChange (pool old) (pool new) (map pair_of added) (map pair_of removed)
unfolding gained lost
pool-step old new put dropped files added removed agreed in_old in_new change adds removes =
    IsChange-from_gets text_order_total text_order-IsAntisymmetric (pool old) (pool new) (map pair_of added) (map pair_of removed) adds.in_order removes.in_order
    (λ q. pool_at new q ∙ new_at _ _ _ _ _ _ _ _ (at q) ∙ sym (λ i. or_else (adds_at q i) (cond (is_some (removes_at q i)) None (pool_at old q i))))
    (λ k d lt. absent _ (found_at text_order_total (map pair_of added) adds.in_order k d lt))
    (λ k d lt. gone _ (found_at text_order_total (map pair_of removed) removes.in_order k d lt))
  where
    put_files : List (List ℕ × Print)
    put_files = files_of (map (λ e. e.1) put)

    dropped_files : List (List ℕ × Print)
    dropped_files = files_of (map (λ e. e.1) dropped)

    pool_at : (m : ShelvesValue) (q : List ℕ) → get (pool m) q ≡ find text_order q (files_of (values m))
    pool_at m q = get-from_entries text_order_total (files_of (values m)) q

    adds_at : (q : List ℕ) → find text_order q (map pair_of added) ≡ gains (references_at old q) (find text_order q (files_of (map (λ e. e.1) put)))
    adds_at q = adds.exact q ∙ ap (λ fs. gains (references_at old q) (find text_order q fs)) (referred-references put)

    removes_at : (q : List ℕ) → find text_order q (map pair_of removed)
        ≡ loses (find text_order q (files_of (map (λ e. e.1) put))) (references_at old q) (count_at q (files_of (map (λ e. e.1) dropped))) (find text_order q (files_of (map (λ e. e.1) dropped)))
    removes_at q = removes.exact q
        ∙ (λ i. loses (find text_order q (referred-references put i)) (references_at old q) (count_at q (referred-references dropped i)) (find text_order q (referred-references dropped i)))

    -- what comes is shown after, what goes was shown before
    put_in_new : (f : List ℕ × Print) → Contains (files_of (map (λ e. e.1) put)) f → Contains (files_of (values new)) f
    put_in_new f h =
        let x = item_of_file (map (λ (e : ShelfKey × Item). e.1) put) f h in
        let e = from_map (λ (e : ShelfKey × Item). e.1) x.0 put x.1 in
        let found = All-contains (λ e. find key_order e.0 put ≡ Some e.1) put e.0 (found_at key_order_total put change.put_in_order) e.1 in
        let shown : get new e.0.0 ≡ Some x.0 =
        get-change key_order_total key_order-IsAntisymmetric old new put dropped change e.0.0
        ∙ ap (λ o. or_else o (cond (is_some (find key_order e.0.0 dropped)) None (get old e.0.0))) found ∙ ap (λ y. Some y) e.2 in
        files_contain (values new) x.0 f (value_shown new e.0.0 x.0 shown) x.2

    dropped_in_old : (f : List ℕ × Print) → Contains (files_of (map (λ e. e.1) dropped)) f → Contains (files_of (values old)) f
    dropped_in_old f h =
        let x = item_of_file (map (λ (e : ShelfKey × Item). e.1) dropped) f h in
        let e = from_map (λ (e : ShelfKey × Item). e.1) x.0 dropped x.1 in
        let shown : get old e.0.0 ≡ Some x.0 =
        (All-contains (λ e. (get old e.0 ≡ Some e.1) × (get new e.0 ≢ Some e.1)) dropped e.0 change.gone e.1).0 ∙ ap (λ y. Some y) e.2 in
        files_contain (values old) x.0 f (value_shown old e.0.0 x.0 shown) x.2

    agreed_in : (m : ShelvesValue) → ((f : List ℕ × Print) → Contains (files_of (values m)) f → Contains files f) → AreAgreed (files_of (values m))
    agreed_in m within path a b p q = agreed path a b (within (path, a) p) (within (path, b) q)

    member : (q : List ℕ) (v : Print) (fs : List (List ℕ × Print)) → find text_order q fs ≡ Some v → Contains fs (q, v)
    member q v fs e = member_found text_order-IsAntisymmetric q v fs e

    at : (q : List ℕ) → AtPath (find text_order q (files_of (values old))) (find text_order q (files_of (values new)))
        (find text_order q (files_of (map (λ e. e.1) put))) (find text_order q (files_of (map (λ e. e.1) dropped)))
        (count_at q (files_of (values old))) (count_at q (files_of (values new))) (count_at q (files_of (map (λ e. e.1) put))) (count_at q (files_of (map (λ e. e.1) dropped)))
    at q = record {
      sum = count-change q old new put dropped change;
      no_old = count_at-none q (files_of (values old));
      no_put = count_at-none q (files_of (map (λ e. e.1) put));
      no_dropped = count_at-none q (files_of (map (λ e. e.1) dropped));
      no_new = count_at-none q (files_of (values new));
      none_new = counted_none q (files_of (values new));
      none_old = counted_none q (files_of (values old));
      put_new = λ v e. agreed_found (files_of (values new)) q v (agreed_in new in_new) (put_in_new (q, v) (member q v (files_of (map (λ e. e.1) put)) e));
      dropped_old = λ v e. agreed_found (files_of (values old)) q v (agreed_in old in_old) (dropped_in_old (q, v) (member q v (files_of (map (λ e. e.1) dropped)) e));
      agree = λ v w e f. agreed q v w (in_old (q, v) (member q v (files_of (values old)) e)) (in_new (q, w) (member q w (files_of (values new)) f));
    }

    absent : (e : List ℕ × Print) → find text_order e.0 (map pair_of added) ≡ Some e.1
        → cond (is_some (find text_order e.0 (map pair_of removed))) None (get (pool old) e.0) ≡ None
    absent e found =
        (λ i. cond (is_some (removes_at e.0 i)) None (pool_at old e.0 i))
        ∙ absent_at _ _ _ _ _ _ _ _ (at e.0) e.1 (sym (adds_at e.0) ∙ found)

    gone : (e : List ℕ × Print) → find text_order e.0 (map pair_of removed) ≡ Some e.1 → (get (pool old) e.0 ≡ Some e.1) × (get (pool new) e.0 ≢ Some e.1)
    gone e found =
        let both = gone_at _ _ _ _ _ _ _ _ (at e.0) e.1 (sym (removes_at e.0) ∙ found) in
        (pool_at old e.0 ∙ both.0, λ back. both.1 (sym (pool_at new e.0) ∙ back))
