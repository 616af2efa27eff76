-- A .dsc or a sidecar differs if and only if some part of the rule applies.
use Rattle.std.proofs.Common.{◌≡◌, ℕ, Bool, true, false, not, ◌||◌, List, [], ◌∷◌, refl, ◌∙◌}
use Rattle.std.specs.Prelude.{Option, None, Some, is_some, option_map}
use Rattle.std.specs.Bool.{then_some}
use Rattle.std.specs.Str.{bytes_eq}
use Rattle.records.specs.Records.{is_among}
use Rattle.records.specs.Values.{ChangesValue, DscValue, SidecarValue}
use Rattle.suites.specs.Verdict.{differs_from_dsc, differs_from_sidecar, dsc_file, sidecar_file}
use Rattle.reasons.specs.Differences.{dsc_difference, lacked, lists_part, sidecar_difference}
use Rattle.reasons.specs.Named.{first_some, listed_part, unlisted_file}
use Rattle.reasons.specs.declared.differences.DscDifference.TheVariants as dsc
use Rattle.reasons.specs.declared.differences.SidecarDifference.TheVariants as sidecar
use Rattle.reasons.proofs.Listings.{other_dsc}

one_of_three : {D : Type 0} (f : List ℕ → D) (x : List ℕ) (y z : D) (a b c : Bool)
    → (a || b || c) ≡ is_some (first_some (option_map f (then_some a x) ∷ then_some b y ∷ then_some c z ∷ []))
one_of_three f x y z true b c = refl
one_of_three f x y z false true c = refl
one_of_three f x y z false false true = refl
one_of_three f x y z false false false = refl

one_of_five : {E D : Type 0} (v w : D) (f : List ℕ → D) (x : List ℕ) (g h : E → D) (a b c : Bool) (d e : Option E)
    → (a || b || c || is_some d || is_some e) ≡ is_some (first_some (then_some a v ∷ then_some b w ∷ option_map f (then_some c x) ∷ option_map g d ∷ option_map h e ∷ []))
one_of_five v w f x g h true b c d e = refl
one_of_five v w f x g h false true c d e = refl
one_of_five v w f x g h false false true d e = refl
one_of_five v w f x g h false false false (Some d) e = refl
one_of_five v w f x g h false false false None (Some e) = refl
one_of_five v w f x g h false false false None None = refl

pub dsc_differs : (c : ChangesValue) (name : List ℕ) (d : DscValue) → differs_from_dsc c name d ≡ is_some (dsc_difference c name d)
dsc_differs c name d =
    other_dsc c name d
    ∙ one_of_five (dsc.Source d.source) (dsc.Version d.version) dsc.Name (dsc_file d) lists_part (lacked d)
    (not (bytes_eq d.source c.source)) (not (bytes_eq d.version c.version)) (not (bytes_eq name (dsc_file d))) (listed_part d) (unlisted_file c d)

pub sidecar_differs : (c : ChangesValue) (name : List ℕ) (s : SidecarValue) → differs_from_sidecar c name s ≡ is_some (sidecar_difference c name s)
unfolding differs_from_sidecar
sidecar_differs c name s =
    one_of_three sidecar.Name (sidecar_file s) (sidecar.Architecture s.architecture) (sidecar.Source s.source)
    (not (bytes_eq name (sidecar_file s))) (not (is_among c.architectures s.architecture)) (not (bytes_eq s.source c.source))
