-- What is shown stays as records say.
use Rattle.std.proofs.Common.{◌≡◌, ◌⊎◌, inl, inr, ℕ, Bool, true, false, cond, ◌&&◌, ◌||◌, List, [], ◌∷◌, ◌++◌, map, filter, codes, Option, Some, option_map, option_to_list, Result, Ok, Err, refl, sym, ap, ◌∙◌, subst, bytes_eq}
use Rattle.std.specs.Prelude.{Contains, option_and_then, slice_get, nat_eq}
use Rattle.std.specs.FinMap.{empty, entries, get-from_entries}
use Rattle.std.specs.List.{list_any}
use Rattle.std.specs.Result.{result_ok}
use Rattle.std.proofs.lemmas.List.Elements.{All-contains, All-nil, Contains-append_cases}
use Rattle.std.proofs.lemmas.Option.{same_Some}
use Rattle.records.specs.Records.{dsc_in, sidecar_in}
use Rattle.records.specs.Values.{ChangesValue, DscValue, SidecarValue}
use Rattle.rules.specs.Judgement.{component, suite_of}
use Rattle.rules.specs.Sizes.{largest}
use Rattle.rules.specs.Suites.{claiming, keeps_architecture, keeps_component}
use Rattle.rules.specs.Values.{ConfigValue}
use Rattle.rules.specs.declared.suite.Suite.{Suite}
use Rattle.rules.specs.declared.verdict.Verdict.{Verdict}
use Rattle.rules.specs.declared.verdict.Verdict.TheVariants as verdict
use Rattle.sums.proofs.Booleans.{both}
use Rattle.sums.proofs.Members.{here, there, which, no_member, from_map, all_from}
use Rattle.sums.specs.Prints.{print as print_of}
use Rattle.sums.specs.declared.entries.Entry.{Entry}
use Rattle.sums.specs.declared.print.Print.{Print}
use Rattle.suites.specs.Held.{held, held_behind}
use Rattle.suites.specs.Items.{ItemWith, file_of, item_of, on_shelf, standing}
use Rattle.suites.specs.Keys.{key_order}
use Rattle.suites.specs.KeyLemmas.{key_order_total, key_order-IsAntisymmetric}
use Rattle.suites.specs.Plan.{admitted, admitted_if, after_copy, after_upload, copied, given, is_copied, printed}
use Rattle.suites.specs.Pool.{pool_path}
use Rattle.suites.specs.Shelves.{ShelvesValue, beats, covers, shown, shown_after, version_of}
use Rattle.suites.specs.Told.{AreTold, IsBinaryOf, IsSourceOf, IsTold, deb_file, is_kept_by, listed_file, path_in}
use Rattle.suites.specs.Upload.{IsUpload, Part, UploadValue, binary_item, dsc_parts, file_at, items_of, package_file, sidecar_parts, source_item, stem}
use Rattle.suites.specs.Verdict.{has_source, verdict_on}
use Rattle.suites.specs.declared.item.Item.{Item}
use Rattle.suites.specs.declared.key.ShelfKey.{ShelfKey}
use Rattle.suites.proofs.AcceptedParts.{IsOwnDsc, IsOwnSidecar, dsc_print, good_dsc, good_sidecar, has_package_file, kept_architecture, own_dsc, own_sidecar, part_from, stem_of_sidecar, with_source}
use Rattle.suites.proofs.AcceptedRows.{IsAccepted, is_accepted}
use Rattle.suites.proofs.FileMembers.{member_found, shown_entry}
use Rattle.suites.proofs.ListMembers.{from_filter, from_flat_map, from_zip, only, from_filter_map}
use Rattle.suites.proofs.SharedLemmas.{entries-empty}

-- ---- what is shown was shown or is admitted

held_member : {X : Type 0} (covers beats : X → X → Bool) (earlier xs : List X) (x : X) → Contains (held_behind covers beats earlier xs) x → Contains xs x
held_member covers beats earlier [] x h = no_member x h
held_member covers beats earlier (w ∷ ws) x h =
    elim (list_any (λ y. covers y w) earlier || list_any (λ y. beats y w) ws) as (λ s. Contains (cond s (held_behind covers beats (earlier ++ w ∷ []) ws) (w ∷ held_behind covers beats (earlier ++ w ∷ []) ws)) x → Contains (w ∷ ws) x) [
      | true ↦ λ p. there w x ws (held_member covers beats (earlier ++ w ∷ []) ws x p)
      | false ↦ λ p. elim (which w x (held_behind covers beats (earlier ++ w ∷ []) ws) p) [
        | inl same ↦ subst (λ z. Contains (w ∷ ws) z) same (here w ws)
        | inr rest ↦ there w x ws (held_member covers beats (earlier ++ w ∷ []) ws x rest)
      ]
    ] h

shown_or_admitted : (shelves : ShelvesValue) (items : List (ShelfKey × Item)) (e : ShelfKey × Item) → Contains (entries (shown_after version_of shelves items)) e
    → Contains (entries shelves) e ⊎ Contains items e
unfolding shown
shown_or_admitted shelves items e h =
    let all = entries shelves ++ items in
    let kept = held (covers version_of) (beats version_of) all in
    Contains-append_cases (entries shelves) items e
    (held_member (covers version_of) (beats version_of) [] all e
    (member_found key_order-IsAntisymmetric e.0 e.1 kept
    (sym (get-from_entries key_order_total kept e.0) ∙ shown_entry (shown_after version_of shelves items) e h)))

-- the item is as its paragraph says, and its suite keeps it
abbrev IsTrue : List Suite → ShelfKey × Item → Type 0
IsTrue suites e = IsTold e.1 × (is_kept_by suites e ≡ true)

told_after : (suites : List Suite) (shelves : ShelvesValue) (items : List (ShelfKey × Item)) → AreTold suites shelves
    → ((e : ShelfKey × Item) → Contains items e → IsTrue suites e) → AreTold suites (shown_after version_of shelves items)
told_after suites shelves items are new = record {
  told = all_from (λ e. IsTold e.1) (entries (shown_after version_of shelves items)) (λ e h. (each e h).0);
  kept = all_from (λ e. is_kept_by suites e ≡ true) (entries (shown_after version_of shelves items)) (λ e h. (each e h).1);
}
  where
    each : (e : ShelfKey × Item) → Contains (entries (shown_after version_of shelves items)) e → IsTrue suites e
    each e h = elim (shown_or_admitted shelves items e h) [
      | inl before ↦ (
        All-contains (λ e. IsTold e.1) (entries shelves) e are.told before,
        All-contains (λ e. is_kept_by suites e ≡ true) (entries shelves) e are.kept before,
      )
      | inr came ↦ new e came
    ]

-- what the suite at the item's place keeps
kept_at : (suites : List Suite) (s : Suite) (e : ShelfKey × Item) → slice_get suites e.0.suite ≡ Some s → keeps_component s e.1.component ≡ true
    → keeps_architecture s e.1.architecture ≡ true → is_kept_by suites e ≡ true
unfolding is_kept_by
kept_at suites s e there component architecture = rw (there, component) architecture

-- ---- a copy

copied_kept : (from : ℕ) (source : List ℕ) (target : Suite) (e : ShelfKey × Item) → is_copied from source target e ≡ true
    → (keeps_component target e.1.component ≡ true) × (keeps_architecture target e.1.architecture ≡ true)
unfolding is_copied
copied_kept from source target e h =
    let suite = nat_eq e.0.suite from in
    let named = bytes_eq e.1.source source in
    let last = both ((suite && named) && keeps_component target e.1.component) (keeps_architecture target e.1.architecture) h in
    ((both (suite && named) (keeps_component target e.1.component) last.0).1, last.1)

copied_true : (config : ConfigValue) (shelves : ShelvesValue) (from to : ℕ) (source : List ℕ) → AreTold config.suites shelves
    → (e : ShelfKey × Item) → Contains (copied config shelves from to source) e → IsTrue config.suites e
unfolding copied
copied_true config shelves from to source are e h =
    let target = from_flat_map (λ (target : Suite). map (λ a. standing to a.1) (filter (is_copied from source target) (entries shelves))) e (option_to_list (slice_get config.suites to)) h in
    let a = from_map (λ (a : ShelfKey × Item). standing to a.1) e (filter (is_copied from source target.0) (entries shelves)) target.2 in
    let shown = from_filter (is_copied from source target.0) a.0 (entries shelves) a.1 in
    let keeps = copied_kept from source target.0 a.0 shown.1 in
    subst (IsTrue config.suites) a.2 (
      All-contains (λ e. IsTold e.1) (entries shelves) a.0 are.told shown.0,
      kept_at config.suites target.0 (standing to a.0.1) (only (slice_get config.suites to) target.0 target.1) keeps.0 keeps.1,
    )

-- WHAT IS SHOWN after a copy is as records say, if it was before.
pub told_after_copy : (config : ConfigValue) (shelves : ShelvesValue) (from to : ℕ) (source : List ℕ) → AreTold config.suites shelves
    → AreTold config.suites (after_copy config shelves from to source)
told_after_copy config shelves from to source are =
    told_after config.suites shelves (copied config shelves from to source) are (copied_true config shelves from to source are)

-- IF NOTHING IS SHOWN, all is as records say.
pub told_empty : (suites : List Suite) → AreTold suites empty
told_empty suites = record {
  told = rw (entries-empty key_order Item) (All-nil (λ e. IsTold e.1));
  kept = rw (entries-empty key_order Item) (All-nil (λ e. is_kept_by suites e ≡ true));
}

-- ---- the items of an accepted upload

-- what a .dsc lists goes to the paths of the item's files
all_listed : (c : ChangesValue) (component : List ℕ) (p : Part) (d : DscValue) (entries : List Entry)
    → map file_of (map (file_at (λ e. e.print) c component) entries) ≡ map (listed_file (item_of (source_item (λ e. e.print) c component p d))) entries
all_listed c component p d [] = refl
all_listed c component p d (e ∷ entries) = ap (λ files. listed_file (item_of (source_item (λ e. e.print) c component p d)) e ∷ files) (all_listed c component p d entries)

is_source : (c : ChangesValue) (component : List ℕ) (p : Part) (d : DscValue) → dsc_in p.1 ≡ Ok d → IsOwnDsc c p.0.name d → print_of p.1 ≡ p.0.print
    → IsSourceOf (item_of (source_item (λ e. e.print) c component p d)) d
is_source c component p d read own same =
    let path : List ℕ → List ℕ = path_in (item_of (source_item (λ e. e.print) c component p d)) in
    record {
      paragraph = read;
      «package» = sym own.source;
      source = sym own.source;
      architecture = refl;
      version = refl;
      files = λ i. record { path = path (own.named i); print = sym same i } ∷ all_listed c component p d d.entries i;
    }

is_binary : (c : ChangesValue) (component : List ℕ) (p : Part) (s : SidecarValue) (f : Entry) → sidecar_in p.1 ≡ Ok s → IsOwnSidecar c p.0.name s
    → package_file c.entries p.0.name ≡ Some f → f.name ≡ deb_file s
    → IsBinaryOf (item_of (binary_item (λ e. e.print) c component p s)) s
is_binary c component p s f read own found named = record {
  paragraph = read;
  «package» = refl;
  source = sym own.source;
  architecture = refl;
  version = refl;
  files = ap (λ (o : Option Entry). map (λ f. f.path) (map file_of (map (file_at (λ e. e.print) c component) (option_to_list o)))) found
      ∙ ap (λ name. pool_path component c.source name ∷ []) named;
}

-- the place of the suite that claims the upload
suite_at : (config : ConfigValue) (c : ChangesValue) (place : ℕ) (s : Suite) → suite_of config c ≡ Some s → claiming c.distribution config.suites ≡ Some place
    → slice_get config.suites place ≡ Some s
unfolding suite_of
suite_at config c place s is at = sym (ap (option_and_then (slice_get config.suites)) at) ∙ is

read_as : {V E Y : Type 0} (r : Result V E) (make : V → Y) (y : Y) → option_map make (result_ok r) ≡ Some y → (v : V) × (r ≡ Ok v) × (make v ≡ y)
read_as (Ok v) make y e = (v, refl, same_Some (make v) y e)
read_as (Err f) make y e = cc

module _ (config : ConfigValue) (shelves : ShelvesValue) (u : UploadValue) (upload : IsUpload u) (accepted : IsAccepted config shelves u) (place : ℕ)
    (at : claiming u.changes.distribution config.suites ≡ Some place) where
  standing_there : slice_get config.suites place ≡ Some accepted.suite
  standing_there = suite_at config u.changes place accepted.suite accepted.claimed at

  source_true : (p : Part) (d : DscValue) → Contains (dsc_parts u) p → dsc_in p.1 ≡ Ok d
      → IsTrue config.suites (printed (on_shelf place (source_item (λ e. e.print) u.changes (component u.changes) p d)))
  unfolding has_source
  source_true p d h read =
      let part = part_from (codes ".dsc") u p h in
      let own = own_dsc u.changes p.0.name d (good_dsc (largest config) u p d h read accepted.rows.dsc) in (
        (d, is_source u.changes (component u.changes) p d read own (dsc_print u p upload part.0 part.1)),
        kept_at config.suites accepted.suite (printed (on_shelf place (source_item (λ e. e.print) u.changes (component u.changes) p d))) standing_there accepted.component
            (kept_architecture u.changes accepted.suite (codes "source") accepted.architectures (with_source u p h accepted.rows.listing)),
      )

  binary_true : (p : Part) (s : SidecarValue) → Contains (sidecar_parts u) p → sidecar_in p.1 ≡ Ok s
      → IsTrue config.suites (printed (on_shelf place (binary_item (λ e. e.print) u.changes (component u.changes) p s)))
  binary_true p s h read =
      let part = part_from (codes ".control") u p h in
      let own = own_sidecar u.changes p.0.name s (good_sidecar u p s h read accepted.rows.sidecar) in
      let f = has_package_file u.changes p.0 accepted.rows.listing (from_zip p u.changes.entries u.texts part.0) part.1 in (
        (s, is_binary u.changes (component u.changes) p s f.0 read own f.1 (f.2 ∙ ap (λ name. stem (codes ".control") name ++ codes ".deb") own.named ∙ stem_of_sidecar s)),
        kept_at config.suites accepted.suite (printed (on_shelf place (binary_item (λ e. e.print) u.changes (component u.changes) p s))) standing_there accepted.component
            (kept_architecture u.changes accepted.suite s.architecture accepted.architectures own.architecture),
      )

  item_true : (item : ItemWith Print) → Contains (items_of (λ e. e.print) u (component u.changes)) item → IsTrue config.suites (printed (on_shelf place item))
  unfolding items_of
  item_true item h = elim (Contains-append_cases _ _ item h) [
    | inl source ↦
        (let p = from_filter_map (λ (part : Part). option_map (source_item (λ e. e.print) u.changes (component u.changes) part) (result_ok (dsc_in part.1))) item (dsc_parts u) source in
        let d = read_as (dsc_in p.0.1) (source_item (λ e. e.print) u.changes (component u.changes) p.0) item p.2 in
        subst (λ (i : ItemWith Print). IsTrue config.suites (printed (on_shelf place i))) d.2 (source_true p.0 d.0 p.1 d.1))
    | inr binary ↦
        (let p = from_filter_map (λ (part : Part). option_map (binary_item (λ e. e.print) u.changes (component u.changes) part) (result_ok (sidecar_in part.1))) item (sidecar_parts u) binary in
        let s = read_as (sidecar_in p.0.1) (binary_item (λ e. e.print) u.changes (component u.changes) p.0) item p.2 in
        subst (λ (i : ItemWith Print). IsTrue config.suites (printed (on_shelf place i))) s.2 (binary_true p.0 s.0 p.1 s.1))
  ]

-- ---- an upload

-- what is let in was accepted
let_in : {X : Type 0} (v : Verdict) (items : List X) (x : X) → Contains (admitted_if v items) x → (v ≡ verdict.Accepted) × Contains items x
let_in verdict.Accepted items x h = (refl, h)
let_in verdict.Unclaimed items x h = no_member x h
let_in verdict.ForeignArchitecture items x h = no_member x h
let_in verdict.NotAllowed items x h = no_member x h
let_in verdict.ForeignComponent items x h = no_member x h
let_in verdict.BadListing items x h = no_member x h
let_in verdict.BadDsc items x h = no_member x h
let_in verdict.BadSidecar items x h = no_member x h
let_in verdict.NotInPool items x h = no_member x h
let_in verdict.OtherContents items x h = no_member x h

given_true : (config : ConfigValue) (shelves : ShelvesValue) (u : UploadValue) → IsUpload u → IsAccepted config shelves u
    → (e : ShelfKey × Item) → Contains (map printed (given config u (items_of (λ e. e.print) u (component u.changes)))) e → IsTrue config.suites e
unfolding given
given_true config shelves u upload accepted e h =
    let items = items_of (λ e. e.print) u (component u.changes) in
    let a = from_map printed e (given config u items) h in
    let place = from_flat_map (λ suite. map (on_shelf suite) items) a.0 (option_to_list (claiming u.changes.distribution config.suites)) a.1 in
    let item = from_map (on_shelf place.0) a.0 items place.2 in
    subst (IsTrue config.suites) (ap printed item.2 ∙ a.2)
    (item_true config shelves u upload accepted place.0 (only (claiming u.changes.distribution config.suites) place.0 place.1) item.0 item.1)

admitted_true : (config : ConfigValue) (shelves : ShelvesValue) (u : UploadValue) → IsUpload u
    → (e : ShelfKey × Item) → Contains (admitted config shelves u) e → IsTrue config.suites e
unfolding admitted
admitted_true config shelves u upload e h =
    let in_all = let_in (verdict_on config shelves u) (map printed (given config u (items_of (λ e. e.print) u (component u.changes)))) e h in
    given_true config shelves u upload (is_accepted config shelves u in_all.0) e in_all.1

-- WHAT IS SHOWN after an upload is as records say, if it was before.
pub told_after_upload : (config : ConfigValue) (shelves : ShelvesValue) (u : UploadValue) → IsUpload u → AreTold config.suites shelves
    → AreTold config.suites (after_upload config shelves u)
told_after_upload config shelves u upload are =
    told_after config.suites shelves (admitted config shelves u) are (admitted_true config shelves u upload)
