-- A name without its ending.
use Rattle.std.proofs.Common.{◌≡◌, ◌≢◌, ℕ, ◌-◌, Bool, true, false, if◌then◌else◌, List, ◌++◌, Option, None, Some, Bor, length, take, refl, sym, ap, ◌∙◌}
use Rattle.std.specs.Prelude.{unwrap_or}
use Rattle.std.specs.Option.{MatchOption}
use Rattle.std.specs.Str.Pattern.{FindsTextSuffix, StripsSuffix}
use Rattle.std.proofs.lemmas.Bool.Decides.{Decides-eqb}
use Rattle.std.proofs.lemmas.Slice.Eq.{ends_is}
use Rattle.suites.specs.Upload.{has_suffix, stem}
use Rattle.output.specs.Explaining.About.{without}

module _ (ending name : List ℕ) where
  is_end : (has_suffix ending name ≡ true → name ≡ take (length name - length ending) name ++ ending) × ((front : List ℕ) → name ≡ front ++ ending → has_suffix ending name ≡ true)
  unfolding has_suffix
  is_end = ends_is Decides-eqb name ending (has_suffix ending name) refl

  none_off : (b : Bool) → has_suffix ending name ≡ b → ((front : List ℕ) → name ≢ front ++ ending) → name ≡ (if b then stem ending name else name)
  none_off true t h = absurd (h (take (length name - length ending) name) (is_end.0 t))
  none_off false t h = refl

  pub without_is : (r : Option (Bor (List ℕ))) (whole : Bor (List ℕ)) → whole.now ≡ name
      → MatchOption r ((front : List ℕ) → name ≢ front ++ ending) (λ x. StripsSuffix (FindsTextSuffix ending) name x.now) → (unwrap_or r whole).now ≡ without ending name
  without_is None whole e h = e ∙ none_off (has_suffix ending name) refl h
  without_is (Some x) whole e h =
      h.2 ∙ ap (λ k. take (length name - k) name) h.1.0 ∙ sym (ap (λ b. if b then stem ending name else name) (is_end.1 _ h.1.1))
