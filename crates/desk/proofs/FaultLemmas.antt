-- The name of a field is short enough for the text of a fault.
use Rattle.std.proofs.Common.{◌≤◌, length, arith}
use Rattle.records.specs.FieldNames.{name_of}
use Rattle.records.specs.declared.field_name.FieldName.{FieldName}
use Rattle.records.specs.declared.field_name.FieldName.TheVariants as field

pub name_is_short : (name : FieldName) → length (name_of name) ≤ 16
unfolding name_of
name_is_short field.Format = omega arith
name_is_short field.Date = omega arith
name_is_short field.Source = omega arith
name_is_short field.Version = omega arith
name_is_short field.Architecture = omega arith
name_is_short field.Distribution = omega arith
name_is_short field.Maintainer = omega arith
name_is_short field.ChangedBy = omega arith
name_is_short field.Changes = omega arith
name_is_short field.ChecksumsSha1 = omega arith
name_is_short field.ChecksumsSha256 = omega arith
name_is_short field.Files = omega arith
name_is_short field.Package = omega arith
name_is_short field.Description = omega arith
name_is_short field.Directory = omega arith
name_is_short field.Filename = omega arith
name_is_short field.Size = omega arith
name_is_short field.Md5Sum = omega arith
name_is_short field.Sha1 = omega arith
name_is_short field.Sha256 = omega arith
