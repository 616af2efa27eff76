-- The lists of an upload to which no row of the verdicts 6, 8 and 9 applies.
use Rattle.std.proofs.Common.{◌≡◌, ◌≢◌, ℕ, Bool, true, false, not, ◌||◌, List, [], filter, codes, bytes_eq, Option, Some, None, option_map, option_to_list, Result, Ok, refl, sym, ap, ◌∙◌, subst, arith}
use Rattle.std.specs.Prelude.{All, AllPairs, Contains}
use Rattle.std.specs.List.{list_any, list_all}
use Rattle.std.specs.Option.{option_map_or}
use Rattle.std.proofs.lemmas.List.Elements.{All-head}
use Rattle.records.specs.Records.{dsc_in, dsc_within}
use Rattle.records.specs.Values.{ChangesValue, DscValue}
use Rattle.sums.proofs.Booleans.{neither, passed}
use Rattle.sums.proofs.Members.{here, there, no_member, any_false, all_true, by_name}
use Rattle.sums.specs.Prints.{same_print}
use Rattle.sums.specs.declared.entries.Entry.{Entry}
use Rattle.suites.specs.Judging.{part_of}
use Rattle.suites.specs.Shelves.{ShelvesValue, pool}
use Rattle.suites.specs.Upload.{UploadValue, Part, parts, parts_with, dsc_parts, has_suffix, entry_named}
use Rattle.suites.specs.Verdict.{by_print, match_ok, differs_from_dsc, has_bad_dsc, dsc_file, has_entry, is_package_part, is_missing_file, is_taken, lacks_source_file, has_other_contents}
use Rattle.suites.specs.declared.items.SourcePart.{SourcePart}
use Rattle.suites.proofs.ListMembers.{from_filter, to_filter, from_zip}
use Rattle.suites.proofs.ListedFiles.{dsc_entries, IsDscListed, IsListedDsc}
use Rattle.suites.proofs.RecordTexts.{dsc-names, dsc-within}
use Rattle.suites.proofs.Prints.{same_print-equal}
use Rattle.suites.proofs.Suffixes.{dsc-no_sidecar, plain-no_sidecar}
use Rattle.suites.proofs.UploadFiles.{ListsAgree, entry_named-Contains}
use Rattle.suites.proofs.UploadItems.{IsRead}

pub at_ok : {V E : Type 0} (test : V → Bool) (v : V) (r : Result V E) → r ≡ Ok v → match_ok r test ≡ false → test v ≡ false
at_ok test v r e h = ap (λ r. match_ok r test) (sym e) ∙ h

-- the .dsc is of another source or version, or of another name
abbrev pub is_other_dsc : ChangesValue → List ℕ → DscValue → Bool
is_other_dsc c name d =
    not (bytes_eq d.source c.source) || not (bytes_eq d.version c.version)
    || not (bytes_eq name (dsc_file d))

abbrev pub lists_part : DscValue → Bool
lists_part d = list_any (λ e. is_package_part e.name) d.entries

abbrev pub lists_sources : ChangesValue → DscValue → Bool
lists_sources c d = list_all (has_entry d.entries) (filter (λ e. not (is_package_part e.name)) c.entries)

pub plain_entries : (c : ChangesValue) (name : List ℕ) (d : DscValue) → differs_from_dsc c name d ≡ false → lists_part d ≡ false
unfolding differs_from_dsc
plain_entries c name d h =
    (neither (is_other_dsc c name d) (lists_part d) (neither (is_other_dsc c name d || lists_part d) (not (lists_sources c d)) h).0).1

pub source_entries : (c : ChangesValue) (name : List ℕ) (d : DscValue) → differs_from_dsc c name d ≡ false → lists_sources c d ≡ true
unfolding differs_from_dsc
source_entries c name d h =
    passed (lists_sources c d) (neither (is_other_dsc c name d || lists_part d) (not (lists_sources c d)) h).1

-- an entry of the list with that name and print
pub print_found : (e f : Entry) (entries : List Entry) (found : Option Entry) → entry_named e.name entries ≡ found → AllPairs (λ a b. a.name ≢ b.name) entries → Contains entries f → e.name ≡ f.name
    → option_map_or (λ g. same_print g.print e.print) found false ≡ true → e.print ≡ f.print
print_found e f entries None found names listed same h = cc
print_found e f entries (Some g) found names listed same h =
    let n = entry_named-Contains e.name entries g found in
    sym (same_print-equal g.print e.print h) ∙ ap (λ x. x.print) (by_name (λ x. x.name) entries g f names n.0 listed (n.1 ∙ same))

pub has_entry-print : (e f : Entry) (entries : List Entry) → AllPairs (λ a b. a.name ≢ b.name) entries → Contains entries f → e.name ≡ f.name → has_entry entries e ≡ true → e.print ≡ f.print
unfolding has_entry
has_entry-print e f entries names listed same h = print_found e f entries (entry_named e.name entries) refl names listed same h

-- a file that both lists have has the same print in both
pub both_listed : (c : ChangesValue) (name : List ℕ) (d : DscValue) (e f : Entry) → differs_from_dsc c name d ≡ false → AllPairs (λ a b. a.name ≢ b.name) d.entries
    → Contains c.entries e → Contains d.entries f → e.name ≡ f.name → e.print ≡ f.print
both_listed c name d e f h names p q same =
    let plain : is_package_part f.name ≡ false = any_false (λ (e : Entry). is_package_part e.name) d.entries f (plain_entries c name d h) q in
    let source : not (is_package_part e.name) ≡ true = ap not (ap is_package_part same ∙ plain) in
    has_entry-print e f d.entries names q same
    (all_true (has_entry d.entries) (filter (λ e. not (is_package_part e.name)) c.entries) e (source_entries c name d h)
    (to_filter (λ (e : Entry). not (is_package_part e.name)) e c.entries p source))

-- the .dsc is that of the upload, if it has one
abbrev IsDscOf : UploadValue → Option SourcePart → Type 0
IsDscOf u source = dsc_parts u ≡ option_to_list (option_map (λ s. part_of s.part) source)

dsc_member : (u : UploadValue) (s : SourcePart) → IsDscOf u (Some s) → Contains (dsc_parts u) (part_of s.part)
dsc_member u s h = subst (λ ps. Contains ps (part_of s.part)) (sym h) (here (part_of s.part) [])

dsc_listed : (u : UploadValue) (s : SourcePart) → IsDscOf u (Some s) → IsListedDsc u.changes s
unfolding parts_with
dsc_listed u s h =
    let found = from_filter (λ (p : Part). has_suffix (codes ".dsc") p.0.name) (part_of s.part) (parts u) (dsc_member u s h) in
    (from_zip (part_of s.part) u.changes.entries u.texts found.0, dsc-no_sidecar s.part.entry.now.name found.1)

pub is_dsc_listed : (u : UploadValue) (source : Option SourcePart) → IsDscOf u source → IsDscListed u.changes source
is_dsc_listed u None h = tt
is_dsc_listed u (Some s) h = dsc_listed u s h

good_dsc : (most : ℕ) (u : UploadValue) (s : SourcePart) → IsDscOf u (Some s) → IsRead s → has_bad_dsc most u ≡ false → differs_from_dsc u.changes s.part.entry.now.name s.dsc ≡ false
unfolding has_bad_dsc
good_dsc most u s of read h =
    dsc-within most s.part.text.now s.dsc (differs_from_dsc u.changes s.part.entry.now.name) read
    (any_false (λ (part : Part). match_ok (dsc_within most part.1) (differs_from_dsc u.changes part.0.name)) (dsc_parts u) (part_of s.part) h (dsc_member u s of))

none_missing : (shelves : ShelvesValue) (u : UploadValue) (s : SourcePart) → IsDscOf u (Some s) → IsRead s → lacks_source_file by_print (pool shelves) u ≡ false
    → (f : Entry) → Contains s.dsc.entries f → is_missing_file by_print (pool shelves) u.changes f ≡ false
unfolding lacks_source_file
none_missing shelves u s of read h f listed =
    any_false (is_missing_file by_print (pool shelves) u.changes) s.dsc.entries f
    (at_ok (λ (d : DscValue). list_any (is_missing_file by_print (pool shelves) u.changes) d.entries) s.dsc (dsc_in s.part.text.now) read
    (any_false (λ (part : Part). match_ok (dsc_in part.1) (λ d. list_any (is_missing_file by_print (pool shelves) u.changes) d.entries)) (dsc_parts u) (part_of s.part) h (dsc_member u s of)))
    listed

none_taken : (shelves : ShelvesValue) (u : UploadValue) → has_other_contents by_print (pool shelves) u ≡ false
    → (e : Entry) → Contains u.changes.entries e → is_taken by_print (pool shelves) u.changes e ≡ false
unfolding has_other_contents
none_taken shelves u h e listed = any_false (is_taken by_print (pool shelves) u.changes) u.changes.entries e h listed

pub lists_agree : (most : ℕ) (shelves : ShelvesValue) (u : UploadValue) (source : Option SourcePart) → AllPairs (λ a b. a.name ≢ b.name) u.changes.entries → IsDscOf u source → All IsRead (option_to_list source)
    → has_bad_dsc most u ≡ false → lacks_source_file by_print (pool shelves) u ≡ false → has_other_contents by_print (pool shelves) u ≡ false → ListsAgree shelves u.changes (dsc_entries source)
lists_agree most shelves u None names of read good there free = record {
  changes = names;
  dsc = λ i j d below within. absurd (omega arith);
  both = λ e f p q. no_member f q;
  plain = λ f q. no_member f q;
  there = λ f q. no_member f q;
  free = none_taken shelves u free;
}
lists_agree most shelves u (Some s) names of read good there free =
    let is_read : IsRead s = All-head IsRead s [] read in
    let same = good_dsc most u s of is_read good in
    let differ = dsc-names s.part.text.now s.dsc is_read in
    record {
      changes = names;
      dsc = differ;
      both = λ e f p q. both_listed u.changes s.part.entry.now.name s.dsc e f same differ p q;
      plain = λ f q. plain-no_sidecar f.name (any_false (λ (e : Entry). is_package_part e.name) s.dsc.entries f (plain_entries u.changes s.part.entry.now.name s.dsc same) q);
      there = none_missing shelves u s of is_read there;
      free = none_taken shelves u free;
    }
