-- An upload whose listed files have all arrived, and the items that it gives.
use Rattle.std.specs.Prelude.{◌≡◌, ◌≢◌, ℕ, ◌-◌, Bool, true, false, ◌||◌, List, [], ◌∷◌, ◌++◌, length, take, map, filter, find, zip, codes, bytes_eq, nat_eq, Option, option_map, option_to_list, All, AllPairs}
use Rattle.std.specs.Result.{result_ok}
use Rattle.std.specs.List.{ends_with, filter_map}
use Rattle.records.specs.Values.{ChangesValue, DscValue, SidecarValue}
use Rattle.records.specs.Records.{dsc_in, sidecar_in}
use Rattle.sums.specs.Prints.{print as print_of}
use Rattle.sums.specs.declared.entries.Entry.{Entry}
use Rattle.sums.specs.declared.print.Print.{Print}
use Rattle.suites.specs.Pool.{pool_path}
use Rattle.suites.specs.Items.{FileWith, ItemWith}
use Rattle.suites.specs.declared.key.Kind.TheVariants.{Source, Binary}

-- The name and the print of a .changes, the record that it is, and a text for each of its entries: the body of a .dsc
-- or a sidecar, nothing for any other file.
pub record UploadValue : Type 0 where
  pub name : List ℕ
  pub print : Print
  pub changes : ChangesValue
  pub texts : List (List ℕ)

-- an entry and its text
abbrev pub Part : Type 0
Part = Entry × List ℕ

abbrev pub parts : UploadValue → List Part
parts u = zip u.changes.entries u.texts

unfoldable pub has_suffix : List ℕ → List ℕ → Bool
has_suffix suffix name = ends_with nat_eq name suffix

-- a file whose text is kept with its upload
unfoldable pub has_text : List ℕ → Bool
has_text name = has_suffix (codes ".dsc") name || has_suffix (codes ".control") name

-- the text of an entry is its body, or is empty
pub record IsTextOf (p : Part) : Type 0 where
  pub body : has_text p.0.name ≡ true → print_of p.1 ≡ p.0.print
  pub none : has_text p.0.name ≡ false → p.1 ≡ []

-- a text for each entry, and no two entries of the same name
pub record IsUpload (u : UploadValue) : Type 0 where
  pub count : length u.texts ≡ length u.changes.entries
  pub names : AllPairs (λ a b. a.name ≢ b.name) u.changes.entries
  pub texts : All IsTextOf (parts u)

-- a name without its suffix
abbrev pub stem : List ℕ → List ℕ → List ℕ
stem suffix name = take (length name - length suffix) name

unfoldable pub parts_with : List ℕ → UploadValue → List Part
parts_with suffix u = filter (λ p. has_suffix suffix p.0.name) (parts u)

-- the .dsc and the sidecars
abbrev pub dsc_parts : UploadValue → List Part
dsc_parts u = parts_with (codes ".dsc") u

abbrev pub sidecar_parts : UploadValue → List Part
sidecar_parts u = parts_with (codes ".control") u

-- the entry of that name
unfoldable pub entry_named : List ℕ → List Entry → Option Entry
entry_named name entries = find (λ e. bytes_eq e.name name) entries

-- the package file that a sidecar stands for: the one of the same stem
unfoldable pub package_file : List Entry → List ℕ → Option Entry
package_file entries sidecar = entry_named (stem (codes ".control") sidecar ++ codes ".deb") entries

-- Items by the contents of their files: `contents` has those of an entry, prints or bodies.
module _ {C : Type 0} (contents : Entry → C) where
  -- an entry's file at its path in the pool
  abbrev pub file_at : ChangesValue → List ℕ → Entry → FileWith C
  file_at c component e = record { path = pool_path component c.source e.name; contents = contents e }

  -- the item of a sidecar: its file is the package file
  abbrev pub binary_item : ChangesValue → List ℕ → Part → SidecarValue → ItemWith C
  binary_item c component part s = record {
    kind = Binary;
    «package» = s.name;
    architecture = s.architecture;
    version = s.version;
    component = component;
    source = c.source;
    paragraph = part.1;
    files = map (file_at c component) (option_to_list (package_file c.entries part.0.name));
  }

  -- the item of a .dsc: its files are the .dsc and all that it lists
  abbrev pub source_item : ChangesValue → List ℕ → Part → DscValue → ItemWith C
  source_item c component part d = record {
    kind = Source;
    «package» = c.source;
    architecture = codes "source";
    version = d.version;
    component = component;
    source = c.source;
    paragraph = part.1;
    files = file_at c component part.0 ∷ map (file_at c component) d.entries;
  }

  -- the items of an upload: one for its .dsc, if it has one, and one for each sidecar
  unfoldable pub items_of : UploadValue → List ℕ → List (ItemWith C)
  items_of u component =
      filter_map (λ part. option_map (source_item u.changes component part) (result_ok (dsc_in part.1))) (dsc_parts u)
      ++ filter_map (λ part. option_map (binary_item u.changes component part) (result_ok (sidecar_in part.1))) (sidecar_parts u)
