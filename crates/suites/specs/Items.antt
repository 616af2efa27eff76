-- What a suite shows: sources and packages, with their files.
use Rattle.std.specs.Prelude.{◌≡◌, ℕ, List, map}
use Rattle.sums.specs.declared.print.Print.{Print}
use Rattle.suites.specs.declared.item.Item.{Item}
use Rattle.suites.specs.declared.item.PoolFile.{PoolFile}
use Rattle.suites.specs.declared.key.Kind.{Kind}
use Rattle.suites.specs.declared.key.ShelfKey.{ShelfKey}

-- A file of an item: its path in the pool and its contents. The plain archive has bodies for contents, the program prints.
pub record FileWith (C : Type 0) : Type 0 where
  pub path : List ℕ
  pub contents : C

-- a source or a package of an accepted upload; the paragraph is the text of its .dsc or sidecar as delivered
pub record ItemWith (C : Type 0) : Type 0 where
  pub kind : Kind
  pub «package» : List ℕ
  pub architecture : List ℕ
  pub version : List ℕ
  pub component : List ℕ
  pub source : List ℕ
  pub paragraph : List ℕ
  pub files : List (FileWith C)

-- a file and an item with their contents replaced
abbrev pub file_with : {C D : Type 0} → (C → D) → FileWith C → FileWith D
file_with f file = record { path = file.path; contents = f file.contents }

abbrev pub item_with : {C D : Type 0} → (C → D) → ItemWith C → ItemWith D
item_with f item = record {
  kind = item.kind;
  «package» = item.package;
  architecture = item.architecture;
  version = item.version;
  component = item.component;
  source = item.source;
  paragraph = item.paragraph;
  files = map (file_with f) item.files;
}

-- the program's file and item, by prints
abbrev pub file_of : FileWith Print → PoolFile
file_of file = record { path = file.path; print = file.contents }

abbrev pub item_of : ItemWith Print → Item
item_of item = record {
  kind = item.kind;
  «package» = item.package;
  architecture = item.architecture;
  version = item.version;
  component = item.component;
  source = item.source;
  paragraph = item.paragraph;
  files = map file_of item.files;
}

-- the shelf of an item in a suite
abbrev pub shelf_of : {C : Type 0} → ℕ → ItemWith C → ShelfKey
shelf_of suite item =
    record { suite = suite; kind = item.kind; «package» = item.package; architecture = item.architecture }

-- an item, with the shelf where it stands
abbrev pub Admitted : Type 0 → Type 0
Admitted C = ShelfKey × ItemWith C

abbrev pub on_shelf : {C : Type 0} → ℕ → ItemWith C → Admitted C
on_shelf suite item = (shelf_of suite item, item)

-- the program's item on its shelf in a suite
abbrev pub standing : ℕ → Item → ShelfKey × Item
standing suite item =
    (record { suite = suite; kind = item.kind; «package» = item.package; architecture = item.architecture }, item)

-- the item stands on its own shelf
abbrev pub IsAtHome : ShelfKey × Item → Type 0
IsAtHome e = e ≡ standing e.0.suite e.1
