-- What the suites show is ASCII but for its paragraphs, which are text.
use Rattle.std.proofs.Common.{◌≡◌, ℕ, true, false, ◌&&◌, List, [], ◌++◌, map, codes, Option, Some, None, bytes_eq, refl, sym, ap, subst, inl, inr, slice_get}
use Rattle.std.specs.Prelude.{Contains}
use Rattle.std.specs.FinMap.{entries}
use Rattle.std.specs.Option.{option_map_or}
use Rattle.std.specs.Str.{IsUtf8}
use Rattle.std.proofs.lemmas.Bool.{and_parts}
use Rattle.std.proofs.lemmas.Option.{get_or_from_slice_get, slice_get_within}
use Rattle.std.proofs.lemmas.Slice.Eq.{bytes_eq-Decides}
use Rattle.records.proofs.RecordRead.{dsc_of_read, sidecar_of_read}
use Rattle.records.specs.Values.{DscValue, SidecarValue}
use Rattle.rules.specs.Suites.{keeps_architecture, keeps_component}
use Rattle.rules.specs.declared.suite.Suite.{Suite}
use Rattle.sums.proofs.Members.{all_at, any_some, contains_map, from_map, no_member, which}
use Rattle.sums.specs.Lines.{greatest_size}
use Rattle.sums.specs.Lists.{IsFile}
use Rattle.sums.specs.Prints.{print as print_of}
use Rattle.sums.specs.declared.entries.ListKind.TheVariants.{Dsc}
use Rattle.suites.specs.Shelves.{ShelvesValue}
use Rattle.suites.specs.Told.{AreTold, IsBinaryOf, IsSourceOf, IsTold, IsToldAs, deb_file, is_kept_by, listed_file, path_in}
use Rattle.suites.specs.Verdict.{dsc_file}
use Rattle.suites.specs.declared.item.Item.{Item}
use Rattle.suites.specs.declared.item.PoolFile.{PoolFile}
use Rattle.suites.specs.declared.key.Kind.{Kind}
use Rattle.suites.specs.declared.key.Kind.TheVariants.{Source, Binary}
use Rattle.suites.specs.declared.key.ShelfKey.{ShelfKey}
use Rattle.vers.specs.Syntax.{IsVersion, without_epoch}
use Rattle.tables_meaning.proofs.AsciiLemmas.{AreAscii, architecture_ascii, ascii-append, file_name_ascii, package_ascii, without_epoch_ascii}
use Rattle.tables_meaning.proofs.AsciiPaths.{pool_path_ascii}
use Rattle.indices.proofs.Paths.{HasNames}

-- An item: its names, its version and the paths of its files are ASCII, and its paragraph is text.
pub record IsPlainItem (item : Item) : Type 0 where
  pub named : AreAscii item.«package»
  pub architecture : AreAscii item.architecture
  pub is_version : IsVersion item.version
  pub component : AreAscii item.component
  pub source : AreAscii item.source
  pub paragraph : IsUtf8 item.paragraph
  pub paths : (f : PoolFile) → Contains item.files f → AreAscii f.path

-- ---- names of files

dsc_file_ascii : (d : DscValue) → AreAscii d.source → IsVersion d.version → AreAscii (dsc_file d)
dsc_file_ascii d source version =
    ascii-append (d.source ++ codes "_" ++ without_epoch d.version) (codes ".dsc")
    (ascii-append (d.source ++ codes "_") (without_epoch d.version) (ascii-append d.source (codes "_") source refl) (without_epoch_ascii d.version version)) refl

deb_file_ascii : (s : SidecarValue) → AreAscii s.name → IsVersion s.version → AreAscii s.architecture → AreAscii (deb_file s)
deb_file_ascii s name version architecture =
    ascii-append (s.name ++ codes "_" ++ without_epoch s.version ++ codes "_" ++ s.architecture) (codes ".deb")
    (ascii-append (s.name ++ codes "_" ++ without_epoch s.version ++ codes "_") s.architecture
    (ascii-append (s.name ++ codes "_" ++ without_epoch s.version) (codes "_")
    (ascii-append (s.name ++ codes "_") (without_epoch s.version) (ascii-append s.name (codes "_") name refl) (without_epoch_ascii s.version version)) refl) architecture) refl

-- ---- items by their records

module _ (item : Item) (component : AreAscii item.component) where
  path_ascii : (name : List ℕ) → AreAscii item.source → AreAscii name → AreAscii (path_in item name)
  path_ascii name source h = pool_path_ascii item.component item.source name component source h

  source_plain : (d : DscValue) → IsSourceOf item d → IsPlainItem item
  source_plain d is =
      let read = dsc_of_read _ item.paragraph d is.paragraph in
      let source : AreAscii d.source = package_ascii d.source read.made.is_source in
      let own : AreAscii item.source = subst AreAscii (sym is.source) source in
      record {
        named = subst AreAscii (sym is.package) source;
        architecture = subst AreAscii (sym is.architecture) refl;
        is_version = subst IsVersion (sym is.version) read.made.is_version;
        component = component;
        source = own;
        paragraph = read.spelled.utf8;
        paths = λ f at.
            elim (which (record { path = path_in item (dsc_file d); print = print_of item.paragraph }) f (map (listed_file item) d.entries) (subst (λ fs. Contains fs f) is.files at)) [
              | inl first ↦ subst AreAscii (ap (λ (g : PoolFile). g.path) first) (path_ascii (dsc_file d) own (dsc_file_ascii d source read.made.is_version))
              | inr listed ↦
                  (let from = from_map (listed_file item) f d.entries listed in
                  let file = all_at (IsFile greatest_size Dsc) d.entries from.0 read.made.entries.listed.each from.1 in
                  subst AreAscii (ap (λ (g : PoolFile). g.path) from.2) (path_ascii from.0.name own (file_name_ascii from.0.name file.name)))
            ];
      }

  binary_plain : (s : SidecarValue) → IsBinaryOf item s → IsPlainItem item
  binary_plain s is =
      let read = sidecar_of_read item.paragraph s is.paragraph in
      let name : AreAscii s.name = package_ascii s.name read.made.is_name in
      let architecture : AreAscii s.architecture = architecture_ascii s.architecture read.made.is_architecture.0 in
      let own : AreAscii item.source = subst AreAscii (sym is.source) (package_ascii s.source read.made.source.0) in
      record {
        named = subst AreAscii (sym is.package) name;
        architecture = subst AreAscii (sym is.architecture) architecture;
        is_version = subst IsVersion (sym is.version) read.made.is_version;
        component = component;
        source = own;
        paragraph = read.spelled.utf8;
        paths = λ f at.
            elim (which (path_in item (deb_file s)) f.path [] (subst (λ ps. Contains ps f.path) is.files (contains_map (λ (g : PoolFile). g.path) f item.files at))) [
              | inl first ↦ subst AreAscii first (path_ascii (deb_file s) own (deb_file_ascii s name read.made.is_version architecture))
              | inr other ↦ no_member f.path other
            ];
      }

  told_plain : (kind : Kind) → IsToldAs kind item → IsPlainItem item
  told_plain Source told = source_plain told.0 told.1
  told_plain Binary told = binary_plain told.0 told.1

-- ---- what the suites show

-- the element at a place is one of the list
pub sliced : {X : Type 0} (xs : List X) (n : ℕ) (x : X) → slice_get xs n ≡ Some x → Contains xs x
sliced xs n x e = (n, slice_get_within xs n x e, get_or_from_slice_get xs n x x e)

component_kept : (s : Suite) (name : List ℕ) → HasNames AreAscii s → keeps_component s name ≡ true → AreAscii name
unfolding keeps_component
component_kept s name names h =
    let some = any_some (bytes_eq name) s.components h in
    subst AreAscii (sym ((bytes_eq-Decides name some.0).0 some.2)) (names.components some.0 some.1)

module _ (suites : List Suite) (names : (s : Suite) → Contains suites s → HasNames AreAscii s) where
  component_ascii : (e : ShelfKey × Item) → is_kept_by suites e ≡ true → AreAscii e.1.component
  unfolding is_kept_by
  component_ascii e h = go (slice_get suites e.0.suite) refl h
    where
      go : (o : Option Suite) → slice_get suites e.0.suite ≡ o → option_map_or (λ s. keeps_component s e.1.component && keeps_architecture s e.1.architecture) o false ≡ true → AreAscii e.1.component
      go None is kept = cc
      go (Some s) is kept = component_kept s e.1.component (names s (sliced suites e.0.suite s is)) (and_parts (keeps_component s e.1.component) (keeps_architecture s e.1.architecture) kept).0

  pub shown_plain : (shown : ShelvesValue) → AreTold suites shown → (e : ShelfKey × Item) → Contains (entries shown) e → IsPlainItem e.1
  shown_plain shown told e at =
      told_plain e.1 (component_ascii e (all_at (λ (f : ShelfKey × Item). is_kept_by suites f ≡ true) (entries shown) e told.kept at)) e.1.kind
      (all_at (λ (f : ShelfKey × Item). IsTold f.1) (entries shown) e told.told at)
