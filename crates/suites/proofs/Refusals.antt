-- What refuses an upload, and the records of one that is not refused.
use Rattle.std.proofs.Common.{◌≡◌, ℕ, ◌+◌, ◌<◌, ◌≤◌, Bool, true, false, cond, not, List, [], ◌∷◌, ◌++◌, map, Option, Some, None, Result, Ok, Err, length, take, get_or, refl, sym, ap, ◌∙◌, subst, arith, eqb}
use Rattle.std.proofs.lemmas.Bool.{or_from, or_left, or_right, or_parts, not-false, eqb-true}
use Rattle.std.proofs.lemmas.List.{map_push, take_more}
use Rattle.std.proofs.lemmas.List.Elements.{All-nil, All-cons, All-head, All-tail, All-same, All-push}
use Rattle.std.proofs.lemmas.List.Folds.{list_any_at, list_any-append}
use Rattle.std.specs.List.{list_any, filter, filter_map, cons_option, zip, slice_get, All}
use Rattle.std.specs.Option.{MatchOption, option_map_or}
use Rattle.std.specs.Prelude.{codes}
use Rattle.std.specs.Result.{result_ok, MatchResult}
use Rattle.std.proofs.Math.Bool.{or-false}
use Rattle.records.specs.Records.{dsc_in, dsc_within, sidecar_in}
use Rattle.records.specs.Values.{ChangesValue, DscValue}
use Rattle.rules.specs.Verdicts.{first_row}
use Rattle.rules.specs.declared.verdict.Verdict.{Verdict}
use Rattle.rules.specs.declared.verdict.Verdict.TheVariants as verdict
use Rattle.sums.specs.declared.entries.Entry.{Entry}
use Rattle.sums.specs.declared.print.Print.{Print}
use Rattle.sums.proofs.Words.{list_any-map}
use Rattle.suites.specs.Judging.{part_of, is_bad_dsc, is_bad_sidecar, IsSourcePart, IsBinaryPart, AreBinaryParts, IsSource, AreBinaries, AreParts}
use Rattle.suites.specs.Pool.{PoolWith}
use Rattle.suites.specs.Upload.{UploadValue, Part, has_suffix, parts_with, dsc_parts, sidecar_parts}
use Rattle.suites.specs.Verdict.{names_of, names_with, has_source, has_bad_listing, match_ok, differs_from_dsc, has_bad_dsc, have_twins, has_bad_sidecar, is_missing_file, lacks_source_file, is_taken, has_other_contents, by_print, upload_rows}
use Rattle.suites.specs.declared.items.SourcePart.{SourcePart}
use Rattle.suites.specs.declared.items.BinaryPart.{BinaryPart}
use Rattle.suites.specs.declared.upload.Part as parts
use Rattle.suites.specs.declared.verdict.Parts.{Parts}
use Rattle.suites.proofs.RecordTexts.{dsc-within_in}

pub none_case : {X : Type 0} (o : Option X) (P : Type 0) (Q : X → Type 0) → MatchOption o P Q → o ≡ None → P
none_case None P Q h e = h
none_case (Some x) P Q h e = cc

pub some_case : {X : Type 0} (o : Option X) (P : Type 0) (Q : X → Type 0) (x : X) → MatchOption o P Q → o ≡ Some x → Q x
some_case o P Q x h e = subst (λ r. MatchOption r P Q) e h

pub ok_case : {X E : Type 0} (r : Result X E) (P : X → Type 0) (Q : E → Type 0) (x : X) → MatchResult r P Q → r ≡ Ok x → P x
ok_case r P Q x h e = subst (λ o. MatchResult o P Q) e h

-- ---- sidecars, one by one

pub one_is_bad : (c : ChangesValue) (ps : List parts.Part) (i : ℕ) (d : parts.Part) → i < length ps → is_bad_sidecar c (part_of (get_or ps i d)) ≡ true
    → list_any (is_bad_sidecar c) (map part_of ps) ≡ true
one_is_bad c ps i d less e = list_any-map part_of (is_bad_sidecar c) ps ∙ list_any_at (λ p. is_bad_sidecar c (part_of p)) ps i d less e

pub one_more_sidecar : (c : ChangesValue) (ps : List parts.Part) (i : ℕ) (d : parts.Part) (found more : List BinaryPart) (b : BinaryPart) → i < length ps
    → AreBinaryParts c (map part_of (take i ps)) found → IsBinaryPart c (part_of (get_or ps i d)) b → more ≡ found ++ b ∷ []
    → AreBinaryParts c (map part_of (take (i + 1) ps)) more
one_more_sidecar c ps i d found more b less known is pushed =
    let taken : map part_of (take (i + 1) ps) ≡ map part_of (take i ps) ++ part_of (get_or ps i d) ∷ [] =
    ap (map part_of) (take_more ps i d less) ∙ map_push part_of (take i ps) (get_or ps i d) in
    record {
      parts = ap (map (λ b. part_of b.part)) pushed ∙ map_push (λ b. part_of b.part) found b ∙ (λ j. known.parts j ++ is.part j ∷ []) ∙ sym taken;
      sidecars = All-same (λ b. sidecar_in b.part.text.now ≡ Ok b.sidecar) more (found ++ b ∷ []) pushed
          (All-push (λ b. sidecar_in b.part.text.now ≡ Ok b.sidecar) found b known.sidecars (ap (λ (p : Part). sidecar_in p.1) is.part ∙ is.sidecar));
      good = ap (list_any (is_bad_sidecar c)) taken ∙ list_any-append (is_bad_sidecar c) (map part_of (take i ps)) (part_of (get_or ps i d) ∷ [])
          ∙ or_from _ _ known.good (or_from _ _ is.good refl);
    }

-- ---- the sidecars of an upload

read_again : (found : List BinaryPart) → All (λ b. sidecar_in b.part.text.now ≡ Ok b.sidecar) found
    → filter_map (λ (p : Part). result_ok (sidecar_in p.1)) (map (λ b. part_of b.part) found) ≡ map (λ b. b.sidecar) found
read_again [] h = refl
read_again (b ∷ bs) h =
    ap (λ r. cons_option (result_ok r) (filter_map (λ (p : Part). result_ok (sidecar_in p.1)) (map (λ b. part_of b.part) bs))) (All-head (λ b. sidecar_in b.part.text.now ≡ Ok b.sidecar) b bs h)
    ∙ ap (λ ss. b.sidecar ∷ ss) (read_again bs (All-tail (λ b. sidecar_in b.part.text.now ≡ Ok b.sidecar) b bs h))

pub sidecar_refused : (u : UploadValue) (c : ChangesValue) (ps : List parts.Part) → c ≡ u.changes → map part_of ps ≡ sidecar_parts u
    → list_any (is_bad_sidecar c) (map part_of ps) ≡ true → has_bad_sidecar u ≡ true
unfolding has_bad_sidecar
sidecar_refused u c ps same listed bad = or_left _ _ ((λ i. list_any (is_bad_sidecar (sym same i)) (sym listed i)) ∙ bad)

sidecars_of : (u : UploadValue) (c : ChangesValue) (ps : List Part) (found : List BinaryPart) → ps ≡ sidecar_parts u → AreBinaryParts c ps found
    → filter_map (λ (p : Part). result_ok (sidecar_in p.1)) (sidecar_parts u) ≡ map (λ b. b.sidecar) found
sidecars_of u c ps found listed known = ap (filter_map (λ (p : Part). result_ok (sidecar_in p.1))) (sym listed ∙ sym known.parts) ∙ read_again found known.sidecars

pub twins_refused : (u : UploadValue) (c : ChangesValue) (ps : List parts.Part) (found : List BinaryPart) → map part_of ps ≡ sidecar_parts u
    → AreBinaryParts c (map part_of ps) found → have_twins (map (λ b. b.sidecar) found) ≡ true → has_bad_sidecar u ≡ true
unfolding has_bad_sidecar
twins_refused u c ps found listed known twins = or_right _ _ (ap have_twins (sidecars_of u c (map part_of ps) found listed known) ∙ twins)

pub sidecars_good : (u : UploadValue) (c : ChangesValue) (ps : List parts.Part) (found : List BinaryPart) → c ≡ u.changes → map part_of ps ≡ sidecar_parts u
    → AreBinaryParts c (map part_of ps) found → have_twins (map (λ b. b.sidecar) found) ≡ false → AreBinaries u found
unfolding has_bad_sidecar
sidecars_good u c ps found same listed known none = record {
  parts = sym listed ∙ sym known.parts;
  sidecars = known.sidecars;
  good = or_from _ _ ((λ i. list_any (is_bad_sidecar (sym same i)) (sym listed i)) ∙ known.good)
      (ap have_twins (sidecars_of u c (map part_of ps) found listed known) ∙ none);
}

-- ---- the .dsc of an upload

pub was_read : {X E : Type 0} (r : Result X E) (x : X) → result_ok r ≡ Some x → r ≡ Ok x
was_read (Ok y) x h = let same : y ≡ x = cc in ap Ok same
was_read (Err e) x h = cc

-- a text that is read within the limit as a .dsc, which says what the .changes says
pub good_part : (most : ℕ) (c : ChangesValue) (part : parts.Part) (d : DscValue) → result_ok (dsc_within most part.text.now) ≡ Some d
    → differs_from_dsc c part.entry.now.name d ≡ false → IsSourcePart most c (part_of part) (record { part = part; dsc = d })
good_part most c part d read same =
    let is = was_read (dsc_within most part.text.now) d read in
    record {
      part = refl;
      dsc = dsc-within_in most part.text.now d is;
      good = ap (λ r. match_ok r (differs_from_dsc c part.entry.now.name)) is ∙ same;
    }

few_step : (b : Bool) (n : List ℕ) (p : Part) (ps : List Part) (ns : List (List ℕ)) → length ps ≤ length ns → length (cond b (p ∷ ps) ps) ≤ length (cond b (n ∷ ns) ns)
few_step true n p ps ns h = omega arith
few_step false n p ps ns h = h

pub few : (suffix : List ℕ) (entries : List Entry) (texts : List (List ℕ))
    → length (filter (λ (p : Part). has_suffix suffix p.0.name) (zip entries texts)) ≤ length (filter (has_suffix suffix) (names_of entries))
few suffix [] texts = omega arith
few suffix (e ∷ es) [] = omega arith
few suffix (e ∷ es) (t ∷ ts) = few_step (has_suffix suffix e.name) e.name (e, t) _ _ (few suffix es ts)

at_most_one : (b : Bool) (n : ℕ) → not (eqb n (cond b 1 0)) ≡ false → n ≤ 1
at_most_one true n e = let k : n ≡ 1 = eqb-true _ _ (not-false _ e) in omega arith
at_most_one false n e = let k : n ≡ 0 = eqb-true _ _ (not-false _ e) in omega arith

below_one : (a b : ℕ) → a ≤ b → b ≤ 1 → a ≤ 1
below_one a b h k = omega arith

one_dsc : (u : UploadValue) → has_bad_listing u.changes ≡ false → length (dsc_parts u) ≤ 1
unfolding has_bad_listing parts_with names_with
one_dsc u good =
    let dscs = (or_parts _ _ (or_parts _ _ (or_parts _ _ (or_parts _ _ good).0).0).0).1 in
    let names = at_most_one (has_source u.changes) _ dscs in
    below_one _ _ (few (codes ".dsc") u.changes.entries u.texts) names

only : {X Y : Type 0} (view : X → Y) (xs : List X) (x : X) → length (map view xs) ≤ 1 → Some x ≡ slice_get xs 0 → map view xs ≡ view x ∷ []
only view [] x h e = cc
only view (y ∷ []) x h e = let same : x ≡ y = cc in ap (λ z. view z ∷ []) (sym same)
only view (y ∷ z ∷ zs) x h e = absurd (omega arith)

nothing : {X Y : Type 0} (view : X → Y) (xs : List X) → None ≡ slice_get xs 0 → map view xs ≡ []
nothing view [] e = refl
nothing view (y ∷ ys) e = cc

only_dsc : (u : UploadValue) (ps : List parts.Part) (p : parts.Part) → has_bad_listing u.changes ≡ false → map part_of ps ≡ dsc_parts u
    → Some p ≡ slice_get ps 0 → dsc_parts u ≡ part_of p ∷ []
only_dsc u ps p good listed first = sym listed ∙ only part_of ps p (subst (λ (qs : List Part). length qs ≤ 1) (sym listed) (one_dsc u good)) first

pub dsc_refused : (most : ℕ) (u : UploadValue) (c : ChangesValue) (ps : List parts.Part) (p : parts.Part) → has_bad_listing u.changes ≡ false → c ≡ u.changes
    → map part_of ps ≡ dsc_parts u → Some p ≡ slice_get ps 0 → is_bad_dsc most c (part_of p) ≡ true → has_bad_dsc most u ≡ true
unfolding has_bad_dsc
dsc_refused most u c ps p good same listed first bad =
    ap (list_any (is_bad_dsc most u.changes)) (only_dsc u ps p good listed first)
    ∙ or_left _ _ (ap (λ k. is_bad_dsc most k (part_of p)) (sym same) ∙ bad)

pub dsc_good : (most : ℕ) (u : UploadValue) (c : ChangesValue) (ps : List parts.Part) (p : parts.Part) (s : SourcePart) → has_bad_listing u.changes ≡ false → c ≡ u.changes
    → map part_of ps ≡ dsc_parts u → Some p ≡ slice_get ps 0 → IsSourcePart most c (part_of p) s → IsSource most u (Some s)
unfolding has_bad_dsc
dsc_good most u c ps p s good same listed first is = record {
  parts = only_dsc u ps p good listed first ∙ ap (λ q. q ∷ []) (sym is.part);
  dsc = All-cons (λ s. dsc_in s.part.text.now ≡ Ok s.dsc) s [] (ap (λ (q : Part). dsc_in q.1) is.part ∙ is.dsc) (All-nil (λ s. dsc_in s.part.text.now ≡ Ok s.dsc));
  good = ap (list_any (is_bad_dsc most u.changes)) (only_dsc u ps p good listed first)
      ∙ or_from _ _ (ap (λ k. is_bad_dsc most k (part_of p)) (sym same) ∙ is.good) refl;
}

pub no_dsc : (most : ℕ) (u : UploadValue) (ps : List parts.Part) → map part_of ps ≡ dsc_parts u → None ≡ slice_get ps 0 → IsSource most u None
unfolding has_bad_dsc
no_dsc most u ps listed none =
    let empty = sym listed ∙ nothing part_of ps none in
    record {
      parts = empty;
      dsc = All-nil (λ s. dsc_in s.part.text.now ≡ Ok s.dsc);
      good = ap (list_any (is_bad_dsc most u.changes)) empty;
    }

-- ---- the files of the .dsc and of the .changes

lacks_from : (most : ℕ) (files : PoolWith Print) (u : UploadValue) (found : Option SourcePart) → IsSource most u found
    → lacks_source_file by_print files u ≡ option_map_or (λ s. list_any (is_missing_file by_print files u.changes) s.dsc.entries) found false
unfolding lacks_source_file
lacks_from most files u None is =
    ap (list_any (λ (part : Part). match_ok (dsc_in part.1) (λ d. list_any (is_missing_file by_print files u.changes) d.entries))) is.parts
lacks_from most files u (Some s) is =
    ap (list_any (λ (part : Part). match_ok (dsc_in part.1) (λ d. list_any (is_missing_file by_print files u.changes) d.entries))) is.parts
    ∙ or-false _
    ∙ ap (λ r. match_ok r (λ d. list_any (is_missing_file by_print files u.changes) d.entries)) (All-head (λ s. dsc_in s.part.text.now ≡ Ok s.dsc) s [] is.dsc)

-- ---- the rows of the verdicts 5 to 9

-- the verdict that follows from the pool
abbrev pub by_pool : PoolWith Print → ChangesValue → Option SourcePart → Verdict
by_pool files c found = first_row (
    (option_map_or (λ s. list_any (is_missing_file by_print files c) s.dsc.entries) found false, verdict.NotInPool)
    ∷ (list_any (is_taken by_print files c) c.entries, verdict.OtherContents)
    ∷ []
    )

at_changes : (most : ℕ) (files : PoolWith Print) (u : UploadValue) (found : Option SourcePart) → IsSource most u found
    → cond (lacks_source_file by_print files u) verdict.NotInPool (cond (has_other_contents by_print files u) verdict.OtherContents verdict.Accepted) ≡ by_pool files u.changes found
unfolding has_other_contents
at_changes most files u found is =
    ap (λ b. cond b verdict.NotInPool (cond (list_any (is_taken by_print files u.changes) u.changes.entries) verdict.OtherContents verdict.Accepted)) (lacks_from most files u found is)

pub pool_row : (most : ℕ) (files : PoolWith Print) (u : UploadValue) (c : ChangesValue) (found : Option SourcePart) (binaries : List BinaryPart) → c ≡ u.changes → has_bad_listing u.changes ≡ false
    → IsSource most u found → AreBinaries u binaries → first_row (upload_rows by_print files most u) ≡ by_pool files c found
pool_row most files u c found binaries same listing source sidecars =
    (λ i. cond (listing i) verdict.BadListing (cond (source.good i) verdict.BadDsc (cond (sidecars.good i) verdict.BadSidecar
    (cond (lacks_source_file by_print files u) verdict.NotInPool (cond (has_other_contents by_print files u) verdict.OtherContents verdict.Accepted)))))
    ∙ at_changes most files u found source ∙ ap (λ k. by_pool files k found) (sym same)

pub are_parts : (most : ℕ) (u : UploadValue) (found : Parts) → IsSource most u found.source → AreBinaries u found.binaries.items → AreParts u found
are_parts most u found source sidecars = record { source = source.parts; dsc = source.dsc; binaries = sidecars.parts; sidecars = sidecars.sidecars }
