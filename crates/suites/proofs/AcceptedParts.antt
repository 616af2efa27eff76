-- What the parts of an accepted upload have: a .dsc and sidecars of its own source, each sidecar with its package file.
use Rattle.std.proofs.Common.{◌≡◌, inl, inr, ℕ, ◌≤◌, Bool, true, false, cond, not, ◌&&◌, ◌||◌, List, [], ◌∷◌, ◌++◌, filter, codes, length, Some, Ok, refl, sym, ap, ◌∙◌, arith, eqb, bytes_eq}
use Rattle.std.specs.Prelude.{Contains}
use Rattle.std.specs.List.{find}
use Rattle.std.proofs.lemmas.Bool.{eqb-true, not-false}
use Rattle.std.proofs.lemmas.List.Elements.{All-contains}
use Rattle.std.proofs.lemmas.Slice.Eq.{bytes_eq-Decides}
use Rattle.records.specs.Records.{dsc_in, dsc_within, is_among, sidecar_in}
use Rattle.records.specs.Values.{ChangesValue, DscValue, SidecarValue}
use Rattle.rules.specs.Judgement.{has_foreign_architecture}
use Rattle.rules.specs.Suites.{keeps_architecture}
use Rattle.rules.specs.declared.suite.Suite.{Suite}
use Rattle.vers.specs.Syntax.{without_epoch}
use Rattle.sums.proofs.Booleans.{neither, passed}
use Rattle.sums.proofs.Members.{which, no_member, any_false, any_some, all_true}
use Rattle.sums.specs.Prints.{print as print_of}
use Rattle.sums.specs.declared.entries.Entry.{Entry}
use Rattle.suites.specs.Told.{deb_file}
use Rattle.suites.specs.Upload.{IsTextOf, IsUpload, Part, UploadValue, dsc_parts, entry_named, has_suffix, has_text, package_file, parts, parts_with, sidecar_parts, stem}
use Rattle.suites.specs.Verdict.{differs_from_dsc, differs_from_sidecar, dsc_file, has_bad_dsc, has_bad_listing, has_bad_sidecar, has_source, match_ok, names_with, sidecar_file, stems}
use Rattle.suites.proofs.AcceptedLists.{at_ok}
use Rattle.suites.proofs.ListMembers.{from_filter}
use Rattle.suites.proofs.RecordTexts.{dsc-within}
use Rattle.suites.proofs.Refusals.{few}
use Rattle.suites.proofs.Stems.{among_stems, front_of_joined, joined, paired}
use Rattle.suites.proofs.UploadFiles.{entry_named-Contains}

-- a part of a suffix is a part
pub part_from : (suffix : List ℕ) (u : UploadValue) (p : Part) → Contains (parts_with suffix u) p → Contains (parts u) p × (has_suffix suffix p.0.name ≡ true)
unfolding parts_with
part_from suffix u p h = from_filter (λ (p : Part). has_suffix suffix p.0.name) p (parts u) h

-- an architecture of the .changes is the suite's
pub kept_architecture : (c : ChangesValue) (s : Suite) (name : List ℕ) → has_foreign_architecture c s ≡ false → is_among c.architectures name ≡ true → keeps_architecture s name ≡ true
unfolding has_foreign_architecture
kept_architecture c s name none among =
    let a = any_some (bytes_eq name) c.architectures among in
    ap (keeps_architecture s) ((bytes_eq-Decides name a.0).0 a.2)
    ∙ passed (keeps_architecture s a.0) (any_false (λ (a : List ℕ). not (keeps_architecture s a)) c.architectures a.0 none a.1)

-- each .dsc and each sidecar says what the .changes says
pub good_dsc : (most : ℕ) (u : UploadValue) (p : Part) (d : DscValue) → Contains (dsc_parts u) p → dsc_in p.1 ≡ Ok d → has_bad_dsc most u ≡ false
    → differs_from_dsc u.changes p.0.name d ≡ false
unfolding has_bad_dsc
good_dsc most u p d h read good =
    dsc-within most p.1 d (differs_from_dsc u.changes p.0.name) read
    (any_false (λ (part : Part). match_ok (dsc_within most part.1) (differs_from_dsc u.changes part.0.name)) (dsc_parts u) p good h)

-- the .dsc has the source and the version of the .changes, and its own name
pub record IsOwnDsc (c : ChangesValue) (name : List ℕ) (d : DscValue) : Type 0 where
  pub source : d.source ≡ c.source
  pub version : d.version ≡ c.version
  pub named : name ≡ dsc_file d

pub own_dsc : (c : ChangesValue) (name : List ℕ) (d : DscValue) → differs_from_dsc c name d ≡ false → IsOwnDsc c name d
unfolding differs_from_dsc
own_dsc c name d h =
    let named = neither (not (bytes_eq d.source c.source) || not (bytes_eq d.version c.version)) (not (bytes_eq name (dsc_file d)))
    (neither _ _ (neither _ _ h).0).0 in
    let first = neither (not (bytes_eq d.source c.source)) (not (bytes_eq d.version c.version)) named.0 in
    record {
      source = (bytes_eq-Decides d.source c.source).0 (passed _ first.0);
      version = (bytes_eq-Decides d.version c.version).0 (passed _ first.1);
      named = (bytes_eq-Decides name (dsc_file d)).0 (passed _ named.1);
    }

-- its print is that of its text
pub dsc_print : (u : UploadValue) (p : Part) → IsUpload u → Contains (parts u) p → has_suffix (codes ".dsc") p.0.name ≡ true → print_of p.1 ≡ p.0.print
unfolding has_text
dsc_print u p upload h ends = (All-contains IsTextOf (parts u) p upload.texts h).body (rw ends refl)

some_length : {X : Type 0} (xs : List X) (x : X) → Contains xs x → 1 ≤ length xs
some_length xs x h = omega (arith, h.1)

-- if there is a .dsc, `source` is among the architectures
counts_source : (has : Bool) (n : ℕ) → not (eqb n (cond has 1 0)) ≡ false → 1 ≤ n → has ≡ true
counts_source true n e some = refl
counts_source false n e some = absurd (let k : n ≡ 0 = eqb-true _ _ (not-false _ e) in omega (arith, k, some))

below : (a b : ℕ) → 1 ≤ a → a ≤ b → 1 ≤ b
below a b h k = omega arith

pub with_source : (u : UploadValue) (p : Part) → Contains (dsc_parts u) p → has_bad_listing u.changes ≡ false → has_source u.changes ≡ true
unfolding has_bad_listing parts_with names_with
with_source u p h good =
    let dscs = (neither _ _ (neither _ _ (neither _ _ (neither _ _ good).0).0).0).1 in
    let some : 1 ≤ length (filter (λ (p : Part). has_suffix (codes ".dsc") p.0.name) (parts u)) = some_length _ p h in
    let few_names : 1 ≤ length (names_with (codes ".dsc") u.changes.entries) = below _ _ some (few (codes ".dsc") u.changes.entries u.texts) in
    counts_source (has_source u.changes) (length (names_with (codes ".dsc") u.changes.entries)) dscs few_names

pub good_sidecar : (u : UploadValue) (p : Part) (s : SidecarValue) → Contains (sidecar_parts u) p → sidecar_in p.1 ≡ Ok s → has_bad_sidecar u ≡ false → differs_from_sidecar u.changes p.0.name s ≡ false
unfolding has_bad_sidecar
good_sidecar u p s h read good =
    at_ok (differs_from_sidecar u.changes p.0.name) s (sidecar_in p.1) read
    (any_false (λ (part : Part). match_ok (sidecar_in part.1) (differs_from_sidecar u.changes part.0.name)) (sidecar_parts u) p (neither _ _ good).0 h)

-- the sidecar has the source and an architecture of the .changes, and its own name
pub record IsOwnSidecar (c : ChangesValue) (name : List ℕ) (s : SidecarValue) : Type 0 where
  pub source : s.source ≡ c.source
  pub architecture : is_among c.architectures s.architecture ≡ true
  pub named : name ≡ sidecar_file s

pub own_sidecar : (c : ChangesValue) (name : List ℕ) (s : SidecarValue) → differs_from_sidecar c name s ≡ false → IsOwnSidecar c name s
unfolding differs_from_sidecar
own_sidecar c name s h =
    let last = neither (not (bytes_eq name (sidecar_file s)) || not (is_among c.architectures s.architecture)) (not (bytes_eq s.source c.source)) h in
    let first = neither (not (bytes_eq name (sidecar_file s))) (not (is_among c.architectures s.architecture)) last.0 in
    record {
      source = (bytes_eq-Decides s.source c.source).0 (passed _ last.1);
      architecture = passed _ first.1;
      named = (bytes_eq-Decides name (sidecar_file s)).0 (passed _ first.0);
    }

-- ---- the package file of a sidecar

found_step : {X : Type 0} (test : X → Bool) (x y : X) (ys : List X) (b : Bool) → test y ≡ b → test x ≡ true → Contains (y ∷ ys) x
    → (Contains ys x → (z : X) × (find test ys ≡ Some z)) → (z : X) × (cond b (Some y) (find test ys) ≡ Some z)
found_step test x y ys true t e h more = (y, refl)
found_step test x y ys false t e h more = elim (which y x ys h) [
  | inl same ↦ cc (sym t ∙ ap test same ∙ e)
  | inr rest ↦ more rest
]

-- a search finds something if a member passes
finds : {X : Type 0} (test : X → Bool) (x : X) (xs : List X) → Contains xs x → test x ≡ true → (y : X) × (find test xs ≡ Some y)
finds test x [] h e = no_member x h
finds test x (y ∷ ys) h e = found_step test x y ys (test y) refl e h (λ r. finds test x ys r e)

-- each sidecar has a name of its own stem that ends in `.deb`
paired_stem : (c : ChangesValue) (e : Entry) → has_bad_listing c ≡ false → Contains c.entries e → has_suffix (codes ".control") e.name ≡ true
    → is_among (stems (codes ".deb") c.entries) (stem (codes ".control") e.name) ≡ true
unfolding has_bad_listing
paired_stem c e good h ends =
    let pairs = paired (codes ".control") (codes ".deb") c.entries ∙ passed _ (neither _ _ (neither _ _ good).0).1 in
    let this = all_true (λ (e : Entry). not (has_suffix (codes ".control") e.name) || is_among (stems (codes ".deb") c.entries) (stem (codes ".control") e.name)) c.entries e pairs h in
    ap (λ b. not b || is_among (stems (codes ".deb") c.entries) (stem (codes ".control") e.name)) (sym ends) ∙ this

pub has_package_file : (c : ChangesValue) (e : Entry) → has_bad_listing c ≡ false → Contains c.entries e → has_suffix (codes ".control") e.name ≡ true
    → (f : Entry) × (package_file c.entries e.name ≡ Some f) × (f.name ≡ stem (codes ".control") e.name ++ codes ".deb")
unfolding package_file entry_named
has_package_file c e good h ends =
    let front = stem (codes ".control") e.name in
    let some = any_some (λ (e : Entry). has_suffix (codes ".deb") e.name && bytes_eq front (stem (codes ".deb") e.name)) c.entries
    (sym (among_stems (codes ".deb") c.entries front) ∙ paired_stem c e good h ends) in
    let f = finds (λ (e : Entry). bytes_eq e.name (front ++ codes ".deb")) some.0 c.entries some.1 (sym (joined (codes ".deb") front some.0.name) ∙ some.2) in
    (f.0, f.1, (entry_named-Contains (front ++ codes ".deb") c.entries f.0 f.1).1)

-- a package file is named as its sidecar
pub stem_of_sidecar : (s : SidecarValue) → stem (codes ".control") (sidecar_file s) ++ codes ".deb" ≡ deb_file s
unfolding sidecar_file
stem_of_sidecar s =
    let front = s.name ++ codes "_" ++ without_epoch s.version ++ codes "_" ++ s.architecture in
    ap (λ (f : List ℕ). f ++ codes ".deb") (sym (front_of_joined (codes ".control") front (front ++ codes ".control") refl))
