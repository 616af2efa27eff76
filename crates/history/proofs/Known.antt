-- The bodies that a history knows: those of its arrivals, of all that its plain archive was given, and of its pool.
use Rattle.std.proofs.Common.{◌≡◌, ℕ, Bool, true, false, cond, List, [], ◌∷◌, ◌++◌, map, fold, Option, Some, None, Result, Ok, Err, Ordering, refl, sym, ap, subst, ◌∙◌, arith}
use Rattle.std.specs.Prelude.{Contains, ⊤, IfSome, zip, option_to_list, slice_get}
use Rattle.std.specs.declared.cmp.Ordering.TheVariants.{Less, Equal, Greater}
use Rattle.std.specs.Cmp.{IsTotalOrder}
use Rattle.std.specs.List.{AllByRecursion}
use Rattle.std.specs.Result.{result_ok}
use Rattle.std.specs.FinMap.Entries.{by_order}
use Rattle.std.specs.Ordering.{eq_by_cmp}
use Rattle.suites.specs.Keys.{key_order, text_order}
use Rattle.std.specs.FinMap.{entries, values, get, from_entries, find, put, entries-insert, get-from_entries}
use Rattle.std.proofs.lemmas.List.{nil_from_length}
use Rattle.records.specs.Records.{dsc_in, sidecar_in}
use Rattle.records.specs.Values.{DscValue, SidecarValue}
use Rattle.rules.specs.Values.{ConfigValue}
use Rattle.rules.specs.Suites.{claiming}
use Rattle.rules.specs.Judgement.{component}
use Rattle.rules.specs.declared.verdict.Verdict.{Verdict}
use Rattle.rules.specs.declared.verdict.Verdict.TheVariants as verdict
use Rattle.sums.specs.Prints.{print as print_of}
use Rattle.sums.specs.declared.entries.Entry.{Entry}
use Rattle.suites.specs.Held.{held_behind}
use Rattle.suites.specs.Items.{FileWith, Admitted, on_shelf}
use Rattle.suites.specs.KeyLemmas.{key_order_total, text_order_total}
use Rattle.suites.specs.Plan.{given, admitted_if}
use Rattle.suites.specs.Pool.{files_with}
use Rattle.suites.specs.Shelves.{shown}
use Rattle.suites.specs.Upload.{UploadValue, Part, items_of, source_item, binary_item, dsc_parts, sidecar_parts, package_file}
use Rattle.suites.specs.declared.item.Item.{Item}
use Rattle.suites.specs.declared.key.ShelfKey.{ShelfKey}
use Rattle.suites.proofs.SharedLemmas.{entries-empty}
use Rattle.book.specs.Book.{Book, Candidate, at_latest, body_for, counts, current, has_arrival, is_same_pair, span, with_arrival}
use Rattle.book.specs.Keeping.{HasBodies, NoCollision}
use Rattle.book.specs.declared.arrival.Arrival.{Arrival}
use Rattle.book.proofs.Lists.{all_filter}
use Rattle.history.specs.Histories.{Call, Delivery, QueueRun, Copying, Lookup, WaitingList, Cleaning, Removing, Promoting, VerdictList, Reply, Turn, History, arrived, arrivals_after, bodies_of, bodies_of_call, calls_of, counting, due_after}
use Rattle.history.specs.Archives.{PlainArchive, Act, Whole, Copy, Remove, Promote, WholeUpload, BodyItem, acted, acts_of, archive, archive_of, all_acts, book_from, book_of, contents_of, copied, copied_all, items_copied, items_given, listed_body, pool_in, removed, shown_in, sources_in, suite_named, whole, whole_of, with_bodies, with_admitted}
use Rattle.history.specs.Answers.{IsFaithful}
use Rattle.history.specs.declared.fault.Fault.{Fault}
use Rattle.history.proofs.Lists.{all_append, all_front, all_back, all_weaker, all_map, all_unmap, all_filter_map, all_flat_map, all_from_flat_map, all_from_contained, all_always, at_contained, at_some, by_steps, contains_cases, contains_later, find_have, map_have, or_have, unwrap_or_has}
use Rattle.history.proofs.Steps.{arrived-push, archive-push}

-- the contents of each file
abbrev pub FilesHave : (List ℕ → Type 0) → List (FileWith (List ℕ)) → Type 0
FilesHave K files = AllByRecursion (λ f. K f.contents) files

abbrev pub ItemHas : (List ℕ → Type 0) → BodyItem → Type 0
ItemHas K item = FilesHave K item.files

abbrev pub ItemsHave : (List ℕ → Type 0) → List (Admitted (List ℕ)) → Type 0
ItemsHave K items = AllByRecursion (λ e. ItemHas K e.1) items

abbrev pub ArrivalsHave : (List ℕ → Type 0) → List Arrival → Type 0
ArrivalsHave K arrivals = AllByRecursion (λ a. K a.body) arrivals

abbrev pub StepsHave : (List ℕ → Type 0) → List Turn → Type 0
StepsHave K steps = AllByRecursion (λ s. AllByRecursion K (bodies_of_call s.call)) steps

-- ---- finite maps

find_entry_have : {A X : Type 0} (R : A → A → Ordering) (P : X → Type 0) (q : A) (es : List (A × X)) → AllByRecursion (λ e. P e.1) es → IfSome (find R q es) P
find_entry_have R P q [] h = tt
find_entry_have R P q (e ∷ es) h = found (eq_by_cmp R q e.0) (find R q es) h.0 (find_entry_have R P q es h.1)
  where
    found : (b : Bool) (later : Option _) → P e.1 → IfSome later P → IfSome (cond b (Some e.1) later) P
    found true later here there = here
    found false later here there = there

put_have : {A X : Type 0} (R : A → A → Ordering) (P : X → Type 0) (k : A) (v : X) (es : List (A × X)) → P v → AllByRecursion (λ e. P e.1) es → AllByRecursion (λ e. P e.1) (put R k v es)
put_have R P k v [] hv h = (hv, tt)
put_have {A} {X} R P k v (e ∷ es) hv h = at_order (R k e.0) (put R k v es) (put_have R P k v es hv h.1)
  where
    at_order : (o : Ordering) (rest : List (A × X)) → AllByRecursion (λ d. P d.1) rest → AllByRecursion (λ d. P d.1) (by_order o ((k, v) ∷ e ∷ es) ((e.0, v) ∷ es) (e ∷ rest))
    at_order Less rest later = (hv, h)
    at_order Equal rest later = (hv, h.1)
    at_order Greater rest later = (h.0, later)

entries_have : {A X : Type 0} (R : A → A → Ordering) → IsTotalOrder R → (P : X → Type 0) (es : List (A × X)) → AllByRecursion (λ e. P e.1) es → AllByRecursion (λ e. P e.1) (entries (from_entries {R = R} es))
entries_have R o P [] h = subst (AllByRecursion (λ e. P e.1)) (sym (entries-empty R _)) tt
entries_have R o P (e ∷ es) h =
    subst (AllByRecursion (λ e. P e.1)) (sym (entries-insert o (from_entries es) e.0 e.1)) (put_have R P e.0 e.1 _ h.0 (entries_have R o P es h.1))

-- ---- what the plain archive has

held_behind_have : {X : Type 0} (P : X → Type 0) (covers beats : X → X → Bool) (earlier xs : List X) → AllByRecursion P xs → AllByRecursion P (held_behind covers beats earlier xs)
held_behind_have P covers beats earlier [] h = tt
held_behind_have {X} P covers beats earlier (x ∷ xs) h = kept _ _ h.0 (held_behind_have P covers beats (earlier ++ x ∷ []) xs h.1)
  where
    kept : (b : Bool) (ys : List X) → P x → AllByRecursion P ys → AllByRecursion P (cond b ys (x ∷ ys))
    kept true ys hx hs = hs
    kept false ys hx hs = (hx, hs)

pub shown_have : (K : List ℕ → Type 0) (a : PlainArchive) → ItemsHave K a.admitted → ItemsHave K (entries (shown_in a))
unfolding shown
shown_have K a h = entries_have key_order key_order_total (ItemHas K) _ (held_behind_have (λ (e : Admitted (List ℕ)). ItemHas K e.1) _ _ [] a.admitted h)

pub pool_has : (K : List ℕ → Type 0) (a : PlainArchive) → ItemsHave K a.admitted → (path : List ℕ) → IfSome (get (pool_in a) path) K
pool_has K a h path =
    subst (λ o. IfSome o K) (sym (get-from_entries text_order_total (files_with (values (shown_in a))) path))
    (find_entry_have text_order K path (files_with (values (shown_in a)))
    (all_flat_map (λ (f : List ℕ × List ℕ). K f.1) _ (values (shown_in a))
    (all_map (λ (i : BodyItem). AllByRecursion (λ (f : List ℕ × List ℕ). K f.1) (map (λ f. (f.path, f.contents)) i.files)) (λ (e : Admitted (List ℕ)). e.1) (entries (shown_in a))
    (all_weaker (λ (e : Admitted (List ℕ)). ItemHas K e.1) _ (λ e he. all_map (λ (f : List ℕ × List ℕ). K f.1) _ e.1.files he) (entries (shown_in a)) (shown_have K a h)))))

-- the items of an upload have the contents of its entries
pub items_of-have : (K : List ℕ → Type 0) (contents : Entry → List ℕ) → ((e : Entry) → K (contents e)) → (u : UploadValue) (where' : List ℕ)
    → AllByRecursion (ItemHas K) (items_of contents u where')
unfolding items_of
items_of-have K contents each u where' =
    all_append (ItemHas K) _ _
    (all_filter_map (ItemHas K) _ (dsc_parts u)
    (all_always _ (λ (part : Part). map_have (ItemHas K) (source_item contents u.changes where' part) (result_ok (dsc_in part.1)) (always (λ (d : DscValue). FilesHave K (source_item contents u.changes where' part d).files) (result_ok (dsc_in part.1)) (λ (d : DscValue). (each part.0, all_map (λ (f : FileWith (List ℕ)). K f.contents) _ d.entries (all_always _ each d.entries))))) (dsc_parts u)))
    (all_filter_map (ItemHas K) _ (sidecar_parts u)
    (all_always _ (λ (part : Part). map_have (ItemHas K) (binary_item contents u.changes where' part) (result_ok (sidecar_in part.1)) (always (λ (s : SidecarValue). FilesHave K (binary_item contents u.changes where' part s).files) (result_ok (sidecar_in part.1)) (λ (s : SidecarValue). all_map (λ (f : FileWith (List ℕ)). K f.contents) _ _ (all_always _ each (option_to_list (package_file u.changes.entries part.0.name)))))) (sidecar_parts u)))
  where
    always : {X : Type 0} (P : X → Type 0) (o : Option X) → ((x : X) → P x) → IfSome o P
    always P None f = tt
    always P (Some x) f = f x

given_have : (K : List ℕ → Type 0) (config : ConfigValue) (u : UploadValue) (items : List BodyItem) → AllByRecursion (ItemHas K) items → ItemsHave K (given config u items)
unfolding given
given_have K config u items h =
    all_flat_map (λ (e : Admitted (List ℕ)). ItemHas K e.1) _ (option_to_list (claiming u.changes.distribution config.suites))
    (all_always _ (λ (suite : ℕ). all_map (λ (e : Admitted (List ℕ)). ItemHas K e.1) (on_shelf suite) items h) (option_to_list (claiming u.changes.distribution config.suites)))

admitted_if_have : {X : Type 0} (P : X → Type 0) (v : Verdict) (items : List X) → AllByRecursion P items → AllByRecursion P (admitted_if v items)
admitted_if_have P verdict.Accepted items h = h
admitted_if_have P v items h = tt

zip_have : {X Y : Type 0} (P : Y → Type 0) (xs : List X) (ys : List Y) → AllByRecursion P ys → AllByRecursion (λ (p : X × Y). P p.1) (zip xs ys)
zip_have P [] ys h = tt
zip_have P (x ∷ xs) [] h = tt
zip_have P (x ∷ xs) (y ∷ ys) h = (h.0, zip_have P xs ys h.1)

listed_body_has : (K : List ℕ → Type 0) (w : WholeUpload) → AllByRecursion K w.bodies → (name : List ℕ) → IfSome (listed_body w name) K
unfolding listed_body
listed_body_has K w h name =
    map_have K (λ (p : Entry × List ℕ). p.1) _ (find_have (λ (p : Entry × List ℕ). K p.1) _ (zip w.upload.changes.entries w.bodies) (zip_have K w.upload.changes.entries w.bodies h))

items_given_have : (K : List ℕ → Type 0) → K [] → (config : ConfigValue) (a : PlainArchive) (w : WholeUpload) → ItemsHave K a.admitted → AllByRecursion K w.bodies → ItemsHave K (items_given config a w)
unfolding items_given contents_of
items_given_have K empty' config a w ha hw =
    given_have K config w.upload _
    (items_of-have K (contents_of w (pool_in a)) (λ e. unwrap_or_has K _ [] (or_have K _ _ (listed_body_has K w hw e.name) (pool_has K a ha _)) empty') w.upload (component w.upload.changes))

pub whole_has : (K : List ℕ → Type 0) → K [] → (config : ConfigValue) (moment : ℕ) (a : PlainArchive) (w : WholeUpload) → ItemsHave K a.admitted → AllByRecursion K w.bodies → ItemsHave K (whole config moment a w).admitted
unfolding whole with_admitted
whole_has K empty' config moment a w ha hw =
    all_append (λ (e : Admitted (List ℕ)). ItemHas K e.1) a.admitted _ ha
    (admitted_if_have (λ (e : Admitted (List ℕ)). ItemHas K e.1) _ (items_given config a w) (items_given_have K empty' config a w ha hw))

pub copied_has : (K : List ℕ → Type 0) (config : ConfigValue) (moment : ℕ) (a : PlainArchive) (from to : ℕ) (source : List ℕ) → ItemsHave K a.admitted → ItemsHave K (copied config moment a from to source).admitted
unfolding with_admitted items_copied
copied_has K config moment a from to source ha =
    all_append (λ (e : Admitted (List ℕ)). ItemHas K e.1) a.admitted _ ha
    (all_flat_map (λ (e : Admitted (List ℕ)). ItemHas K e.1) _ (option_to_list (slice_get config.suites to))
    (all_always _ (λ target. all_map (λ (e : Admitted (List ℕ)). ItemHas K e.1) (λ (e : Admitted (List ℕ)). on_shelf to e.1) _
    (all_filter (λ (e : Admitted (List ℕ)). ItemHas K e.1) _ (entries (shown_in a)) (shown_have K a ha)))
    (option_to_list (slice_get config.suites to))))

pub copied_all_has : (K : List ℕ → Type 0) (config : ConfigValue) (moment from to : ℕ) (sources : List (List ℕ)) (a : PlainArchive) → ItemsHave K a.admitted → ItemsHave K (copied_all config moment from to a sources).admitted
copied_all_has K config moment from to [] a ha = ha
copied_all_has K config moment from to (source ∷ sources) a ha =
    copied_all_has K config moment from to sources (copied config moment a from to source) (copied_has K config moment a from to source ha)

pub removed_has : (K : List ℕ → Type 0) (moment : ℕ) (a : PlainArchive) (suite : ℕ) (name : List ℕ) → ItemsHave K a.admitted → ItemsHave K (removed moment a suite name).admitted
unfolding removed with_admitted
removed_has K moment a suite name ha = all_filter (λ (e : Admitted (List ℕ)). ItemHas K e.1) _ a.admitted ha

-- ---- arrivals

pub with_arrival_have : (K : List ℕ → Type 0) (arrivals : List Arrival) (a : Arrival) → ArrivalsHave K arrivals → K a.body → ArrivalsHave K (with_arrival arrivals a)
unfolding with_arrival
with_arrival_have K arrivals a h ha = joined (has_arrival arrivals a)
  where
    renewed : (b : Bool) (d : Arrival) → K d.body → K (cond b (at_latest a.moment d) d).body
    renewed true d hd = hd
    renewed false d hd = hd

    joined : (b : Bool) → ArrivalsHave K (cond b (map (λ d. cond (is_same_pair a d) (at_latest a.moment d) d) arrivals) (arrivals ++ a ∷ []))
    joined true = all_map (λ (x : Arrival). K x.body) _ arrivals (all_weaker (λ (x : Arrival). K x.body) _ (λ d hd. renewed (is_same_pair a d) d hd) arrivals h)
    joined false = all_append (λ (x : Arrival). K x.body) arrivals (a ∷ []) h (ha, tt)

-- what counts of them
pub current_have : (K : List ℕ → Type 0) (seconds : Option ℕ) (moment : ℕ) (arrivals : List Arrival) → ArrivalsHave K arrivals → ArrivalsHave K (current seconds moment arrivals)
unfolding current
current_have K seconds moment arrivals h = all_filter (λ (a : Arrival). K a.body) (counts seconds moment) arrivals h

arrivals_after_have : (K : List ℕ → Type 0) (seconds : Option ℕ) (arrivals : List Arrival) (call : Call) (outcome : Result Reply Fault) → ArrivalsHave K arrivals → AllByRecursion K (bodies_of_call call) → ArrivalsHave K (arrivals_after seconds arrivals call outcome)
unfolding arrivals_after bodies_of_call
arrivals_after_have K seconds arrivals (Delivery name body moment) (Ok reply) h hb = with_arrival_have K arrivals (record { name = name; body = body; moment = moment }) h hb.0
arrivals_after_have K seconds arrivals (Delivery name body moment) (Err fault) h hb = h
arrivals_after_have K seconds arrivals (QueueRun moment) outcome h hb = h
arrivals_after_have K seconds arrivals (Copying from to source moment) outcome h hb = h
arrivals_after_have K seconds arrivals (Lookup path) outcome h hb = h
arrivals_after_have K seconds arrivals (WaitingList moment) outcome h hb = h
arrivals_after_have K seconds arrivals (Cleaning moment) (Ok reply) h hb = current_have K seconds moment arrivals h
arrivals_after_have K seconds arrivals (Cleaning moment) (Err fault) h hb = h
arrivals_after_have K seconds arrivals (Removing suite name moment) outcome h hb = h
arrivals_after_have K seconds arrivals (Promoting from to sources moment) outcome h hb = h
arrivals_after_have K seconds arrivals VerdictList outcome h hb = h

-- the bodies that have arrived are those of the opening and of the calls
pub arrived_have : (K : List ℕ → Type 0) (opening : Book) (steps : List Turn) → ArrivalsHave K opening.arrivals → StepsHave K steps → ArrivalsHave K (arrived opening steps)
unfolding arrived
arrived_have K opening steps opened =
    by_steps (λ (xs : List Turn). StepsHave K xs → ArrivalsHave K (arrived opening xs)) (λ _. opened)
    (λ xs x sofar h. subst (ArrivalsHave K) (sym (arrived-push opening xs x.call x.outcome))
    (arrivals_after_have K (span opening.config) (arrived opening xs) x.call x.outcome
    (sofar (all_front (λ (s : Turn). AllByRecursion K (bodies_of_call s.call)) xs (x ∷ []) h))
    (all_back (λ (s : Turn). AllByRecursion K (bodies_of_call s.call)) xs (x ∷ []) h).0))
    steps

-- the bodies that count at a moment are known, too
pub counting_have : (K : List ℕ → Type 0) (opening : Book) (steps : List Turn) (moment : ℕ) → ArrivalsHave K (arrived opening steps) → ArrivalsHave K (counting opening steps moment)
unfolding counting
counting_have K opening steps moment h = current_have K (span opening.config) moment (arrived opening steps) h

pub body_for_has : (K : List ℕ → Type 0) → K [] → (arrivals : List Arrival) → ArrivalsHave K arrivals → (entry : Entry) → K (body_for arrivals entry)
unfolding body_for
body_for_has K empty' arrivals h entry = unwrap_or_has K _ [] (map_have K (λ (a : Arrival). a.body) _ (find_have (λ (a : Arrival). K a.body) _ arrivals h)) empty'

-- a whole upload of what has arrived
pub whole_of_has : (K : List ℕ → Type 0) → K [] → (arrivals : List Arrival) → ArrivalsHave K arrivals → (c : Candidate) → AllByRecursion K (whole_of arrivals c).bodies
unfolding whole_of
whole_of_has K empty' arrivals h c = all_map K (body_for arrivals) c.changes.entries (all_always _ (body_for_has K empty' arrivals h) c.changes.entries)

-- ---- the plain archive of a history

-- the bodies of an act
abbrev pub ActHas : (List ℕ → Type 0) → Act → Type 0
ActHas K (Whole w moment) = AllByRecursion K w.bodies
ActHas K (Copy from to source moment) = ⊤
ActHas K (Remove suite name moment) = ⊤
ActHas K (Promote from to sources moment) = ⊤

acted_has : (K : List ℕ → Type 0) → K [] → (config : ConfigValue) (a : PlainArchive) (act : Act) → ItemsHave K a.admitted → ActHas K act → ItemsHave K (acted config a act).admitted
acted_has K empty' config a (Whole w moment) ha h = whole_has K empty' config moment a w ha h
acted_has K empty' config a (Copy from to source moment) ha h = copied_has K config moment a from to source ha
acted_has K empty' config a (Remove suite name moment) ha h = removed_has K moment a suite name ha
acted_has K empty' config a (Promote from to sources moment) ha h = copied_all_has K config moment from to (sources_in a from sources) a ha

pub all_acted_have : (K : List ℕ → Type 0) → K [] → (config : ConfigValue) (acts : List Act) (a : PlainArchive) → ItemsHave K a.admitted → AllByRecursion (ActHas K) acts → ItemsHave K (fold (acted config) a acts).admitted
all_acted_have K empty' config [] a ha h = ha
all_acted_have K empty' config (act ∷ acts) a ha h = all_acted_have K empty' config acts (acted config a act) (acted_has K empty' config a act ha h.0) h.1

acts_have : (K : List ℕ → Type 0) → K [] → (opening : Book) (steps : List Turn) (call : Call) (outcome : Result Reply Fault) → ArrivalsHave K (arrived opening steps) → AllByRecursion (ActHas K) (acts_of opening steps call outcome)
unfolding acts_of
acts_have K empty' opening steps (QueueRun moment) (Ok reply) h =
    all_map (ActHas K) _ (due_after opening steps moment)
    (all_always _ (whole_of_has K empty' (counting opening steps moment) (counting_have K opening steps moment h)) (due_after opening steps moment))
acts_have K empty' opening steps (Copying from to source moment) (Ok reply) h =
    all_flat_map (ActHas K) _ _ (all_always _ (λ (f : ℕ). all_map (ActHas K) (λ (t : ℕ). Copy f t source moment) _ (all_always _ (λ t. tt) (option_to_list (suite_named opening.config to)))) (option_to_list (suite_named opening.config from)))
acts_have K empty' opening steps (Removing suite name moment) (Ok reply) h =
    all_map (ActHas K) (λ (s : ℕ). Remove s name moment) _ (all_always _ (λ s. tt) (option_to_list (suite_named opening.config suite)))
acts_have K empty' opening steps (Promoting from to sources moment) (Ok reply) h =
    all_flat_map (ActHas K) _ _ (all_always _ (λ (f : ℕ). all_map (ActHas K) (λ (t : ℕ). Promote f t sources moment) _ (all_always _ (λ t. tt) (option_to_list (suite_named opening.config to)))) (option_to_list (suite_named opening.config from)))
acts_have K empty' opening steps (Removing suite name moment) (Err fault) h = tt
acts_have K empty' opening steps (Promoting from to sources moment) (Err fault) h = tt
acts_have K empty' opening steps (QueueRun moment) (Err fault) h = tt
acts_have K empty' opening steps (Copying from to source moment) (Err fault) h = tt
acts_have K empty' opening steps (Delivery name body moment) outcome h = tt
acts_have K empty' opening steps (Lookup path) outcome h = tt
acts_have K empty' opening steps (WaitingList moment) outcome h = tt
acts_have K empty' opening steps (Cleaning moment) outcome h = tt
acts_have K empty' opening steps VerdictList outcome h = tt

-- the bodies of the opening and of the calls so far are among these, and so is the empty body
pub record Knows (K : List ℕ → Type 0) (h : History) : Type 0 where
  pub nothing : K []
  pub arrivals : ArrivalsHave K h.opening.arrivals
  pub files : (path : List ℕ) → IfSome (h.opening.files path) K
  pub steps : StepsHave K h.steps

opened_has : (K : List ℕ → Type 0) → K [] → (opening : Book) → ((path : List ℕ) → IfSome (opening.files path) K) → ItemsHave K (archive_of opening).admitted
unfolding archive_of with_bodies
opened_has K empty' opening files =
    all_map (λ (e : Admitted (List ℕ)). ItemHas K e.1) _ (entries opening.shown)
    (all_always _ (λ (e : ShelfKey × Item). all_map (λ (f : FileWith (List ℕ)). K f.contents) _ e.1.files (all_always _ (λ f. unwrap_or_has K _ [] (files f.path) empty') e.1.files)) (entries opening.shown))

-- the contents of all that the plain archive was given
pub archive_has : (K : List ℕ → Type 0) (h : History) → Knows K h → ItemsHave K (archive h).admitted
unfolding archive all_acts
archive_has K h knows =
    by_steps (λ (xs : List Turn). StepsHave K xs → ItemsHave K (archive (record h { steps = xs })).admitted)
    (λ _. opened_has K knows.nothing h.opening knows.files)
    (λ xs x sofar hk.
    let front = all_front (λ (s : Turn). AllByRecursion K (bodies_of_call s.call)) xs (x ∷ []) hk in
    subst (λ (a : PlainArchive). ItemsHave K a.admitted) (sym (archive-push (record h { steps = xs }) x.call x.outcome))
    (all_acted_have K knows.nothing h.opening.config _ _ (sofar front) (acts_have K knows.nothing h.opening xs x.call x.outcome (arrived_have K h.opening xs knows.arrivals front))))
    h.steps knows.steps

pub arrivals_known : (K : List ℕ → Type 0) (h : History) → Knows K h → ArrivalsHave K (arrived h.opening h.steps)
arrivals_known K h knows = arrived_have K h.opening h.steps knows.arrivals knows.steps

pub counting_known : (K : List ℕ → Type 0) (h : History) → Knows K h → (moment : ℕ) → ArrivalsHave K (counting h.opening h.steps moment)
counting_known K h knows moment = counting_have K h.opening h.steps moment (arrivals_known K h knows)

-- ---- faithful histories

-- the bodies of the history's own calls
steps_known : (h : History) (calls : List Call) (K : List ℕ → Type 0) → ((body : List ℕ) → Contains (bodies_of (calls_of h.steps ++ calls)) body → K body) → StepsHave K h.steps
steps_known h calls K each =
    let all = all_from_flat_map K bodies_of_call (calls_of h.steps ++ calls) (all_from_contained K _ each) in
    all_unmap (λ (c : Call). AllByRecursion K (bodies_of_call c)) (λ (s : Turn). s.call) h.steps
    (all_front (λ (c : Call). AllByRecursion K (bodies_of_call c)) (calls_of h.steps) calls all)

if_some : {X : Type 0} (P : X → Type 0) (o : Option X) → ((x : X) → o ≡ Some x → P x) → IfSome o P
if_some P None f = tt
if_some P (Some x) f = f x refl

pub faithful_knows : (h : History) (calls : List Call) (faithful : IsFaithful h calls) → Contains faithful.bodies [] → Knows (Contains faithful.bodies) h
faithful_knows h calls faithful there = record {
  nothing = there;
  arrivals = all_from_contained (λ (a : Arrival). Contains faithful.bodies a.body) h.opening.arrivals faithful.opened.known.arrivals;
  files = λ path. if_some (Contains faithful.bodies) (h.opening.files path) (λ body is. faithful.opened.known.files path body is);
  steps = steps_known h calls (Contains faithful.bodies) faithful.delivered;
}

knows_book : (bodies : List (List ℕ)) (h : History) → Knows (Contains bodies) h → HasBodies bodies (book_of h)
unfolding book_of book_from
knows_book bodies h knows = record {
  arrivals = λ a there. at_contained (λ (x : Arrival). Contains bodies x.body) (arrived h.opening h.steps) a (arrivals_known (Contains bodies) h knows) there;
  files = λ path body is. at_some (Contains bodies) (get (pool_in (archive h)) path) body (pool_has (Contains bodies) (archive h) (archive_has (Contains bodies) h knows) path) is;
}

-- the bodies of the book of a faithful history are known, if the empty body is among those that are
pub faithful_book : (h : History) (calls : List Call) (faithful : IsFaithful h calls) → Contains faithful.bodies [] → HasBodies faithful.bodies (book_of h)
faithful_book h calls faithful there = knows_book faithful.bodies h (faithful_knows h calls faithful there)

-- only the empty body has its print
empty_apart : (body : List ℕ) → print_of [] ≡ print_of body → [] ≡ body
empty_apart body same = sym (nil_from_length body (sym (ap (λ p. p.size) same)))

pub apart_with_empty : (bodies : List (List ℕ)) → NoCollision bodies → NoCollision ([] ∷ bodies)
apart_with_empty bodies apart a b ha hb same =
    contains_cases (a ≡ b) [] bodies a
    (λ (e : [] ≡ a). sym e ∙ empty_apart b (ap print_of e ∙ same))
    (λ la. contains_cases (a ≡ b) [] bodies b (λ (e : [] ≡ b). sym (empty_apart a (ap print_of e ∙ sym same)) ∙ e) (λ lb. apart a b la lb same) hb)
    ha

-- a faithful history stays one with the empty body among those known
abbrev pub with_empty : (h : History) (calls : List Call) → IsFaithful h calls → IsFaithful h calls
with_empty h calls faithful = record {
  bodies = [] ∷ faithful.bodies;
  apart = apart_with_empty faithful.bodies faithful.apart;
  opened = record {
    known = record {
      arrivals = λ a there. contains_later [] faithful.bodies a.body (faithful.opened.known.arrivals a there);
      files = λ path body is. contains_later [] faithful.bodies body (faithful.opened.known.files path body is);
    };
    whole = faithful.opened.whole;
  };
  delivered = λ body there. contains_later [] faithful.bodies body (faithful.delivered body there);
}

pub has_empty : (bodies : List (List ℕ)) → Contains ([] ∷ bodies) []
has_empty bodies = (0, omega arith, refl)

-- all bodies of the book of a faithful history
pub known : (h : History) (calls : List Call) (faithful : IsFaithful h calls) → HasBodies ([] ∷ faithful.bodies) (book_of h)
known h calls faithful = faithful_book h calls (with_empty h calls faithful) (has_empty faithful.bodies)
