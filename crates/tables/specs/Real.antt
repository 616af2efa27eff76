-- Rows that code can hold: each text is UTF-8, and each digest has its length.
use Rattle.std.specs.Prelude.{◌≡◌, length, All, IfSome, IsUtf8}
use Rattle.sums.specs.declared.print.Print.{Print}
use Rattle.tables.specs.Rows.{Tables, rows_of}
use Rattle.tables.specs.declared.rows.ArrivalRow.{ArrivalRow}
use Rattle.tables.specs.declared.rows.BodyRow.{BodyRow}
use Rattle.tables.specs.declared.rows.Date.{Date}
use Rattle.tables.specs.declared.rows.File.{File}
use Rattle.tables.specs.declared.rows.TextRow.{TextRow}
use Rattle.tables.specs.declared.rows.ItemRow.{ItemRow}
use Rattle.tables.specs.declared.rows.Ref.{Ref}
use Rattle.tables.specs.declared.rows.UploadRow.{UploadRow}
use Rattle.tables.specs.declared.rows.Want.{Want}

pub record IsRealPrint (p : Print) : Type 0 where
  pub md5 : length p.md5 ≡ 16
  pub sha1 : length p.sha1 ≡ 20
  pub sha256 : length p.sha256 ≡ 32

abbrev pub IsRealBody : BodyRow → Type 0
IsRealBody b = IfSome b.print IsRealPrint

abbrev pub IsRealArrival : ArrivalRow → Type 0
IsRealArrival a = IsUtf8 a.name

pub record IsRealUpload (u : UploadRow) : Type 0 where
  pub name : IsUtf8 u.name
  pub print : IsRealPrint u.print

pub record IsRealWant (w : Want) : Type 0 where
  pub name : IsUtf8 w.name
  pub print : IsRealPrint w.print

pub record IsRealItem (i : ItemRow) : Type 0 where
  pub suite : IsUtf8 i.suite
  pub named : IsUtf8 i.«package»
  pub architecture : IsUtf8 i.architecture
  pub version : IsUtf8 i.version
  pub component : IsUtf8 i.component
  pub source : IsUtf8 i.source

pub record IsRealRef (r : Ref) : Type 0 where
  pub path : IsUtf8 r.path
  pub print : IsRealPrint r.print

abbrev pub IsRealFile : File → Type 0
IsRealFile f = IsUtf8 f.path

abbrev pub IsRealText : TextRow → Type 0
IsRealText t = IsUtf8 t.path

abbrev pub IsRealDate : Date → Type 0
IsRealDate d = IsUtf8 d.suite

-- The rows can be held.
pub record AreReal (t : Tables) : Type 0 where
  pub bodies : All IsRealBody (rows_of t.bodies)
  pub arrivals : All IsRealArrival (rows_of t.arrivals)
  pub uploads : All IsRealUpload (rows_of t.uploads)
  pub wants : All IsRealWant (rows_of t.wants)
  pub items : All IsRealItem (rows_of t.items)
  pub refs : All IsRealRef (rows_of t.refs)
  pub files : All IsRealFile (rows_of t.files)
  pub texts : All IsRealText (rows_of t.texts)
  pub dates : All IsRealDate (rows_of t.dates)
