-- The texts of an archive of one suite, `box`, to which one package was uploaded.
use Rattle.std.specs.Prelude.{◌≡◌, refl, ℕ, List, [], ◌∷◌, length, codes, map, Some, None, Result, Ok, Err}
use Rattle.std.specs.List.{flat_map}
use Rattle.std.specs.Fmt.{digits}
use Rattle.std.specs.Str.{is_utf8, chars}
use lib.Utf8.{encode}
use Rattle.hex.specs.Hex.{encode_with}
use Rattle.para.specs.Fault.{one_fault, many_fault}
use Rattle.para.specs.Fields.{fields_in}
use Rattle.records.specs.FieldNames.{name_of}
use Rattle.records.specs.Names.{is_package_name, is_architecture_name, is_plain_name}
use Rattle.records.specs.Records.{changes_in, changes_within, sidecar_in, value, words, is_present, is_missing, has_more_lines, is_parenthesized, are_architectures, is_binary_architecture, person_of, sidecar_source, missing, not_simple, unknown_format, bad_source, bad_name, bad_version, bad_architectures, bad_architecture, bad_distribution, bad_lists, entries_of, has_own_field}
use Rattle.records.specs.Values.{ChangesValue}
use Rattle.rules.specs.declared.suite.Suite.{Suite}
use Rattle.suites.specs.Pool.{pool_path, directory_of, prefix_of, front_of}
use Rattle.suites.specs.Items.{item_of}
use Rattle.suites.specs.Upload.{items_of, parts_with, has_suffix, entry_named, package_file}
use Rattle.suites.specs.declared.item.Item.{Item}
use Rattle.sums.specs.Lists.{unhexed, lists_within}
use Rattle.indices.specs.Calendar.{date_text, day_text, time_text, year_of, month_of, day_of, year_and_day, month_and_day, weekday_name, month_name}
use Rattle.indices.specs.Stanzas.{fields_of_text, file_fields, package_fields, package_stanza}
use Rattle.indices.specs.Release.{release_text, suite_fields, valid_until, index_lists, index_list, optional_field, architectures_text, index_path}
use Rattle.indices.specs.declared.index.Index.{Index}

-- the first seconds of some days, and the last of others
pub epoch : date_text 0 ≡ codes "Thu, 01 Jan 1970 00:00:00 UTC"
unfolding date_text day_text time_text year_of month_of day_of year_and_day month_and_day weekday_name month_name digits
epoch = refl

pub leap_day : date_text 951782400 ≡ codes "Tue, 29 Feb 2000 00:00:00 UTC"
unfolding date_text day_text time_text year_of month_of day_of year_and_day month_and_day weekday_name month_name digits
leap_day = refl

pub upload_day : date_text 1467436850 ≡ codes "Sat, 02 Jul 2016 05:20:50 UTC"
unfolding date_text day_text time_text year_of month_of day_of year_and_day month_and_day weekday_name month_name digits
upload_day = refl

pub last_of_2099 : date_text 4102444799 ≡ codes "Thu, 31 Dec 2099 23:59:59 UTC"
unfolding date_text day_text time_text year_of month_of day_of year_and_day month_and_day weekday_name month_name digits
last_of_2099 = refl

pub march_of_2100 : date_text 4107542400 ≡ codes "Mon, 01 Mar 2100 00:00:00 UTC"
unfolding date_text day_text time_text year_of month_of day_of year_and_day month_and_day weekday_name month_name digits
march_of_2100 = refl

pub last_valid_day : date_text 4417804799 ≡ codes "Sun, 29 Dec 2109 23:59:59 UTC"
unfolding date_text day_text time_text year_of month_of day_of year_and_day month_and_day weekday_name month_name digits
last_valid_day = refl

pub box : Suite
box = record {
  codename = codes "box";
  suite = None;
  origin = None;
  label = None;
  description = None;
  architectures = codes "amd64" ∷ codes "source" ∷ [];
  components = codes "main" ∷ [];
  also_accept_for = [];
  uploaders = None;
  valid_days = None;
}

-- the suite `box`, with Releases that are valid for a week
pub week : Suite
week = record box { valid_days = Some 7 }

pub sidecar_text : List ℕ
sidecar_text = codes "Package: hello\nVersion: 1.0-1\nArchitecture: amd64\nMaintainer: Ann <ann@example.org>\nDescription: greets\n"

pub changes_text : List ℕ
changes_text = codes "Format: 1.8\nDate: Sat, 02 Jul 2016 05:00:00 +0000\nSource: hello\nVersion: 1.0-1\nArchitecture: amd64\nDistribution: box\nMaintainer: Ann <ann@example.org>\nChanges:\n hello (1.0-1) box; urgency=low\n .\n   * First.\nChecksums-Sha1:\n a9993e364706816aba3e25717850c26c9cd0d89d 3 hello_1.0-1_amd64.deb\n baa4e058fbc3cff6d3779abd4dd824488291bd98 104 hello_1.0-1_amd64.control\nChecksums-Sha256:\n ba7816bf8f01cfea414140de5dae2223b00361a396177a9cb410ff61f20015ad 3 hello_1.0-1_amd64.deb\n 577afbfebf762b1e54ff30186e0476751c272a4cc8d9aa441b59eb118ad06b85 104 hello_1.0-1_amd64.control\nFiles:\n 900150983cd24fb0d6963f7d28e17f72 3 utils optional hello_1.0-1_amd64.deb\n 4ee3c5e6649092348b7f34d1cb6296c0 104 utils optional hello_1.0-1_amd64.control\n"

pub packages : List ℕ
packages = codes "Package: hello\nVersion: 1.0-1\nArchitecture: amd64\nMaintainer: Ann <ann@example.org>\nDescription: greets\nFilename: pool/main/h/hello/hello_1.0-1_amd64.deb\nSize: 3\nMD5sum: 900150983cd24fb0d6963f7d28e17f72\nSHA1: a9993e364706816aba3e25717850c26c9cd0d89d\nSHA256: ba7816bf8f01cfea414140de5dae2223b00361a396177a9cb410ff61f20015ad\n\n"

pub empty_release : List ℕ
empty_release = codes "Codename: box\nDate: Thu, 01 Jan 1970 00:00:00 UTC\nArchitectures: amd64\nComponents: main\nMD5Sum:\n d41d8cd98f00b204e9800998ecf8427e 0 main/binary-amd64/Packages\n d41d8cd98f00b204e9800998ecf8427e 0 main/source/Sources\nSHA1:\n da39a3ee5e6b4b0d3255bfef95601890afd80709 0 main/binary-amd64/Packages\n da39a3ee5e6b4b0d3255bfef95601890afd80709 0 main/source/Sources\nSHA256:\n e3b0c44298fc1c149afbf4c8996fb92427ae41e4649b934ca495991b7852b855 0 main/binary-amd64/Packages\n e3b0c44298fc1c149afbf4c8996fb92427ae41e4649b934ca495991b7852b855 0 main/source/Sources\n"

pub full_release : List ℕ
full_release = codes "Codename: box\nDate: Sat, 02 Jul 2016 05:20:50 UTC\nArchitectures: amd64\nComponents: main\nMD5Sum:\n 91ad950fbd1207eb0a8881de4c58ee3a 324 main/binary-amd64/Packages\n d41d8cd98f00b204e9800998ecf8427e 0 main/source/Sources\nSHA1:\n 31bf4b5b86f1637ecb8550ee13a0185998725361 324 main/binary-amd64/Packages\n da39a3ee5e6b4b0d3255bfef95601890afd80709 0 main/source/Sources\nSHA256:\n d88ffa788e1b5fa0de33afc8763bc11a7860e2418858ad9c6776679e32c83d77 324 main/binary-amd64/Packages\n e3b0c44298fc1c149afbf4c8996fb92427ae41e4649b934ca495991b7852b855 0 main/source/Sources\n"

pub empty_week : List ℕ
empty_week = codes "Codename: box\nDate: Thu, 01 Jan 1970 00:00:00 UTC\nValid-Until: Thu, 08 Jan 1970 00:00:00 UTC\nArchitectures: amd64\nComponents: main\nMD5Sum:\n d41d8cd98f00b204e9800998ecf8427e 0 main/binary-amd64/Packages\n d41d8cd98f00b204e9800998ecf8427e 0 main/source/Sources\nSHA1:\n da39a3ee5e6b4b0d3255bfef95601890afd80709 0 main/binary-amd64/Packages\n da39a3ee5e6b4b0d3255bfef95601890afd80709 0 main/source/Sources\nSHA256:\n e3b0c44298fc1c149afbf4c8996fb92427ae41e4649b934ca495991b7852b855 0 main/binary-amd64/Packages\n e3b0c44298fc1c149afbf4c8996fb92427ae41e4649b934ca495991b7852b855 0 main/source/Sources\n"

pub full_week : List ℕ
full_week = codes "Codename: box\nDate: Sat, 02 Jul 2016 05:20:50 UTC\nValid-Until: Sat, 09 Jul 2016 05:20:50 UTC\nArchitectures: amd64\nComponents: main\nMD5Sum:\n 91ad950fbd1207eb0a8881de4c58ee3a 324 main/binary-amd64/Packages\n d41d8cd98f00b204e9800998ecf8427e 0 main/source/Sources\nSHA1:\n 31bf4b5b86f1637ecb8550ee13a0185998725361 324 main/binary-amd64/Packages\n da39a3ee5e6b4b0d3255bfef95601890afd80709 0 main/source/Sources\nSHA256:\n d88ffa788e1b5fa0de33afc8763bc11a7860e2418858ad9c6776679e32c83d77 324 main/binary-amd64/Packages\n e3b0c44298fc1c149afbf4c8996fb92427ae41e4649b934ca495991b7852b855 0 main/source/Sources\n"

pub sidecar_length : length sidecar_text ≡ 104
unfolding sidecar_text
sidecar_length = refl

pub packages_length : length packages ≡ 324
unfolding packages
packages_length = refl

pub empty_release_length : length empty_release ≡ 547
unfolding empty_release
empty_release_length = refl

pub full_release_length : length full_release ≡ 553
unfolding full_release
full_release_length = refl

pub empty_week_length : length empty_week ≡ 590
unfolding empty_week
empty_week_length = refl

pub full_week_length : length full_week ≡ 596
unfolding full_week
full_week_length = refl

-- the items of the .changes, whose entries are a package file and its sidecar
abbrev pub items_from : {E : Type 0} → Result ChangesValue E → List Item
items_from (Ok c) = map item_of (items_of (λ e. e.print) (record {
  name = codes "hello_1.0-1_amd64.changes";
  print = record { size = 0; md5 = []; sha1 = []; sha256 = [] };
  changes = c;
  texts = [] ∷ sidecar_text ∷ [];
}) (codes "main"))
items_from (Err e) = []

-- the stanza of the package is that of Packages
pub the_packages : flat_map package_stanza (items_from (changes_in changes_text)) ≡ packages
unfolding packages changes_text sidecar_text is_utf8 chars encode package_file fields_in one_fault many_fault changes_within sidecar_in value words is_present is_missing has_more_lines is_parenthesized are_architectures is_binary_architecture person_of sidecar_source missing not_simple unknown_format bad_source bad_name bad_version bad_architectures bad_architecture bad_distribution bad_lists entries_of has_own_field name_of is_package_name is_architecture_name is_plain_name lists_within items_of parts_with has_suffix entry_named pool_path directory_of prefix_of front_of fields_of_text file_fields package_fields package_stanza encode_with digits
the_packages = refl

pub index_with : List ℕ → ℕ → List ℕ → List ℕ → List ℕ → Index
index_with path size md5 sha1 sha256 = record {
  path = path;
  print = record { size = size; md5 = unhexed md5; sha1 = unhexed sha1; sha256 = unhexed sha256 };
}

-- an index without a stanza
pub empty_index : List ℕ → Index
empty_index path = index_with path 0 (codes "d41d8cd98f00b204e9800998ecf8427e") (codes "da39a3ee5e6b4b0d3255bfef95601890afd80709") (codes "e3b0c44298fc1c149afbf4c8996fb92427ae41e4649b934ca495991b7852b855")

-- the index with the stanza of the package
pub packages_index : Index
packages_index = index_with (codes "main/binary-amd64/Packages") 324 (codes "91ad950fbd1207eb0a8881de4c58ee3a") (codes "31bf4b5b86f1637ecb8550ee13a0185998725361") (codes "d88ffa788e1b5fa0de33afc8763bc11a7860e2418858ad9c6776679e32c83d77")

pub the_paths : map (index_path (codes "main")) box.architectures ≡ codes "main/binary-amd64/Packages" ∷ codes "main/source/Sources" ∷ []
unfolding index_path box
the_paths = refl

pub the_empty_release : release_text box 0 (empty_index (codes "main/binary-amd64/Packages") ∷ empty_index (codes "main/source/Sources") ∷ []) ≡ empty_release
unfolding release_text suite_fields valid_until index_lists index_list optional_field architectures_text box empty_index index_with empty_release date_text day_text time_text year_of month_of day_of year_and_day month_and_day weekday_name month_name encode_with digits
the_empty_release = refl

pub the_full_release : release_text box 1467436850 (packages_index ∷ empty_index (codes "main/source/Sources") ∷ []) ≡ full_release
unfolding release_text suite_fields valid_until index_lists index_list optional_field architectures_text box empty_index packages_index index_with full_release date_text day_text time_text year_of month_of day_of year_and_day month_and_day weekday_name month_name encode_with digits
the_full_release = refl

pub the_empty_week : release_text week 0 (empty_index (codes "main/binary-amd64/Packages") ∷ empty_index (codes "main/source/Sources") ∷ []) ≡ empty_week
unfolding release_text suite_fields valid_until index_lists index_list optional_field architectures_text box week empty_index index_with empty_week date_text day_text time_text year_of month_of day_of year_and_day month_and_day weekday_name month_name encode_with digits
the_empty_week = refl

pub the_full_week : release_text week 1467436850 (packages_index ∷ empty_index (codes "main/source/Sources") ∷ []) ≡ full_week
unfolding release_text suite_fields valid_until index_lists index_list optional_field architectures_text box week empty_index packages_index index_with full_week date_text day_text time_text year_of month_of day_of year_and_day month_and_day weekday_name month_name encode_with digits
the_full_week = refl
