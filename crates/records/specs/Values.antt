-- What contracts see of the records of an upload.
use Rattle.std.specs.Prelude.{ℕ, List}
use Rattle.sums.specs.declared.entries.Entry.{Entry}

-- a .changes (Policy 5.5)
pub record ChangesValue : Type 0 where
  pub source : List ℕ
  pub version : List ℕ
  pub architectures : List (List ℕ)
  pub distribution : List ℕ
  pub person : List ℕ
  pub entries : List Entry

-- a source package's .dsc (Policy 5.4)
pub record DscValue : Type 0 where
  pub source : List ℕ
  pub version : List ℕ
  pub entries : List Entry

-- a sidecar, the control paragraph of a binary package (Policy 5.3)
pub record SidecarValue : Type 0 where
  pub name : List ℕ
  pub version : List ℕ
  pub architecture : List ℕ
  pub source : List ℕ
