-- The rule of a verdict applies if and only if it names something.
use Rattle.std.proofs.Common.{◌≡◌, ℕ, Bool, true, false, not, ◌||◌, List, [], ◌∷◌, map, codes, refl, ap, ◌∙◌}
use Rattle.std.specs.Prelude.{Option, None, Some, Result, Ok, Err, is_some, option_and_then, option_map}
use Rattle.std.specs.Bool.{then_some}
use Rattle.std.specs.List.{list_any}
use Rattle.std.specs.Option.{option_map_or, option_or}
use Rattle.std.specs.Str.{bytes_eq}
use Rattle.records.specs.Records.{dsc_in, dsc_within, sidecar_in}
use Rattle.records.specs.Values.{ChangesValue, DscValue, SidecarValue}
use Rattle.records.specs.declared.fault.RecordFault.{RecordFault}
use Rattle.rules.specs.Judgement.{component, has_foreign_architecture, has_foreign_component}
use Rattle.rules.specs.Suites.{component_of, keeps_architecture, keeps_component}
use Rattle.rules.specs.declared.suite.Suite.{Suite}
use Rattle.suites.specs.Shelves.{ShelvesValue, pool}
use Rattle.suites.specs.Upload.{UploadValue, dsc_parts, sidecar_parts}
use Rattle.suites.specs.Verdict.{by_print, differs_from_dsc, differs_from_sidecar, has_bad_dsc, has_bad_listing, has_bad_sidecar, has_other_contents, has_source, is_missing_file, is_taken, lacks_source_file, match_ok}
use Rattle.reasons.specs.Differences.{dsc_difference, sidecar_difference}
use Rattle.reasons.specs.Named.{first_some, foreign_architecture, lacks_dsc, listed_changes, lone_file, missing_file, other_component, source_file, surplus_dsc, taken_entry, twins}
use Rattle.reasons.specs.Reasons.{bad_among, dsc_among, in_pool, missing_among, named_architecture, named_component, named_dsc, named_listing, named_missing, named_sidecar, of_other_component, of_twins, sidecar_among, sidecars_of}
use Rattle.reasons.specs.declared.about.Named.TheVariants as named
use Rattle.reasons.proofs.Differing.{dsc_differs, sidecar_differs}
use Rattle.reasons.proofs.Listings.{bad_listing, two_alike}
use Rattle.reasons.proofs.Searches.{found_where}

is_mapped : {X Y : Type 0} (f : X → Y) (o : Option X) → is_some o ≡ is_some (option_map f o)
is_mapped f None = refl
is_mapped f (Some x) = refl

either : {X : Type 0} (o p : Option X) → (is_some o || is_some p) ≡ is_some (option_or o p)
either None p = refl
either (Some x) p = refl

-- some element passes if and only if something is found in the list
first_where : {X Y : Type 0} (p : X → Bool) (h : X → Option Y) → ((x : X) → p x ≡ is_some (h x)) → (xs : List X) → list_any p xs ≡ is_some (first_some (map h xs))
first_where p h same [] = refl
first_where p h same (x ∷ xs) = (λ i. same x i || first_where p h same xs i) ∙ either (h x) (first_some (map h xs))

-- at the suite, if there is one
pub at_suite : {X : Type 0} (p : Suite → Bool) (h : Suite → Option X) → ((s : Suite) → p s ≡ is_some (h s)) → (o : Option Suite)
    → option_map_or p o false ≡ is_some (option_and_then h o)
at_suite p h same None = refl
at_suite p h same (Some s) = same s

one_of_two : {E D : Type 0} (f : E → D) (y : D) (a : Option E) (b : Bool) → (is_some a || b) ≡ is_some (first_some (option_map f a ∷ then_some b y ∷ []))
one_of_two f y (Some a) b = refl
one_of_two f y None true = refl
one_of_two f y None false = refl

one_of_six : {E D : Type 0} (f g : E → D) (z : D) (h k m : E → D) (a b : Option E) (c : Bool) (d e s : Option E)
    → (is_some a || (is_some b || c) || is_some d || is_some e || is_some s)
    ≡ is_some (first_some (option_map f a ∷ option_map g b ∷ then_some c z ∷ option_map h d ∷ option_map k e ∷ option_map m s ∷ []))
one_of_six f g z h k m (Some a) b c d e s = refl
one_of_six f g z h k m None (Some b) c d e s = refl
one_of_six f g z h k m None None true d e s = refl
one_of_six f g z h k m None None false (Some d) e s = refl
one_of_six f g z h k m None None false None (Some e) s = refl
one_of_six f g z h k m None None false None None (Some s) = refl
one_of_six f g z h k m None None false None None None = refl

pub an_architecture : (c : ChangesValue) (s : Suite) → has_foreign_architecture c s ≡ is_some (named_architecture c s)
unfolding has_foreign_architecture
an_architecture c s = found_where (λ a. not (keeps_architecture s a)) c.architectures ∙ is_mapped named.Architecture (foreign_architecture c s)

pub a_component : (c : ChangesValue) (s : Suite) → has_foreign_component c s ≡ is_some (named_component c s)
unfolding has_foreign_component
a_component c s =
    ap (λ b. b || not (keeps_component s (component c))) (found_where (λ e. not (bytes_eq (component_of e.section) (component c))) c.entries)
    ∙ one_of_two (of_other_component (component c)) (named.Component (component c)) (other_component c) (not (keeps_component s (component c)))

pub a_listing : (c : ChangesValue) → has_bad_listing c ≡ is_some (named_listing c)
a_listing c =
    bad_listing c
    ∙ one_of_six (λ e. named.ListedChanges e.name) (λ e. named.SurplusDsc e.name (has_source c)) named.NoDsc (λ e. named.LonePackage e.name) (λ e. named.LoneSidecar e.name) (λ e. named.SourceFile e.name)
    (listed_changes c) (surplus_dsc c) (lacks_dsc c) (lone_file (codes ".deb") (codes ".control") c.entries) (lone_file (codes ".control") (codes ".deb") c.entries) (source_file c)

of_dsc : (c : ChangesValue) (file : List ℕ) (r : Result DscValue RecordFault) → match_ok r (differs_from_dsc c file) ≡ is_some (named_dsc c file r)
of_dsc c file (Ok d) = dsc_differs c file d ∙ is_mapped (named.Dsc file) (dsc_difference c file d)
of_dsc c file (Err e) = refl

pub a_dsc : (most : ℕ) (u : UploadValue) → has_bad_dsc most u ≡ is_some (dsc_among most u.changes (dsc_parts u))
unfolding has_bad_dsc
a_dsc most u =
    first_where (λ part. match_ok (dsc_within most part.1) (differs_from_dsc u.changes part.0.name)) (λ part. named_dsc u.changes part.0.name (dsc_within most part.1))
    (λ part. of_dsc u.changes part.0.name (dsc_within most part.1)) (dsc_parts u)

of_sidecar : (c : ChangesValue) (file : List ℕ) (r : Result SidecarValue RecordFault) → match_ok r (differs_from_sidecar c file) ≡ is_some (named_sidecar c file r)
of_sidecar c file (Ok s) = sidecar_differs c file s ∙ is_mapped (named.Sidecar file) (sidecar_difference c file s)
of_sidecar c file (Err e) = refl

one_sidecar : (u : UploadValue) → list_any (λ part. match_ok (sidecar_in part.1) (differs_from_sidecar u.changes part.0.name)) (sidecar_parts u) ≡ is_some (sidecar_among u.changes (sidecar_parts u))
one_sidecar u =
    first_where (λ part. match_ok (sidecar_in part.1) (differs_from_sidecar u.changes part.0.name)) (λ part. named_sidecar u.changes part.0.name (sidecar_in part.1))
    (λ part. of_sidecar u.changes part.0.name (sidecar_in part.1)) (sidecar_parts u)

pub a_sidecar : (u : UploadValue) → has_bad_sidecar u ≡ is_some (bad_among u.changes (sidecar_parts u))
unfolding has_bad_sidecar
a_sidecar u =
    (λ i. one_sidecar u i || two_alike (sidecars_of (sidecar_parts u)) i)
    ∙ ap (λ b. is_some (sidecar_among u.changes (sidecar_parts u)) || b) (is_mapped of_twins (twins (sidecars_of (sidecar_parts u))))
    ∙ either (sidecar_among u.changes (sidecar_parts u)) (option_map of_twins (twins (sidecars_of (sidecar_parts u))))

of_missing : (shelves : ShelvesValue) (c : ChangesValue) (file : List ℕ) (r : Result DscValue RecordFault)
    → match_ok r (λ d. list_any (is_missing_file by_print (pool shelves) c) d.entries) ≡ is_some (named_missing shelves c file r)
of_missing shelves c file (Ok d) = found_where (is_missing_file by_print (pool shelves) c) d.entries ∙ is_mapped (in_pool shelves c) (missing_file shelves c d)
of_missing shelves c file (Err e) = refl

pub a_missing_file : (shelves : ShelvesValue) (u : UploadValue) → lacks_source_file by_print (pool shelves) u ≡ is_some (missing_among shelves u.changes (dsc_parts u))
unfolding lacks_source_file
a_missing_file shelves u =
    first_where (λ part. match_ok (dsc_in part.1) (λ d. list_any (is_missing_file by_print (pool shelves) u.changes) d.entries)) (λ part. named_missing shelves u.changes part.0.name (dsc_in part.1))
    (λ part. of_missing shelves u.changes part.0.name (dsc_in part.1)) (dsc_parts u)

pub a_taken_file : (shelves : ShelvesValue) (u : UploadValue) → has_other_contents by_print (pool shelves) u ≡ is_some (option_map (in_pool shelves u.changes) (taken_entry shelves u.changes))
unfolding has_other_contents
a_taken_file shelves u = found_where (is_taken by_print (pool shelves) u.changes) u.changes.entries ∙ is_mapped (in_pool shelves u.changes) (taken_entry shelves u.changes)
