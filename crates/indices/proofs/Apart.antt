-- Texts whose paths differ, found by their paths.
use Rattle.std.proofs.Common.{◌≡◌, ◌≢◌, inl, inr, ℕ, Bool, true, false, List, [], ◌∷◌, Some, None, bytes_eq, refl, ap, ◌∙◌}
use Rattle.std.specs.Prelude.{AllPairs, Contains}
use Rattle.std.proofs.lemmas.Slice.Eq.{bytes_eq-Decides}
use Rattle.sums.proofs.Members.{here, there, which, no_member, all_at, pairs_head, pairs_tail}
use Rattle.indices.specs.Indices.{PathText, text_at}
use Rattle.indices.proofs.Found.{text_at-found, text_at-nil, text_at-other}

pub not_equal : (a b : List ℕ) → a ≢ b → bytes_eq a b ≡ false
not_equal a b h = by_case (bytes_eq a b) refl
  where
    by_case : (t : Bool) → bytes_eq a b ≡ t → t ≡ false
    by_case true e = absurd (h ((bytes_eq-Decides a b).0 e))
    by_case false e = refl

abbrev pub PathsDiffer : PathText → PathText → Type 0
PathsDiffer d e = d.0 ≢ e.0

-- a text whose path no other text has is found there
pub found_of_apart : (es : List PathText) (e : PathText) → AllPairs PathsDiffer es → Contains es e → text_at e.0 es ≡ Some e.1
found_of_apart [] e h at = no_member e at
found_of_apart (d ∷ es) e h at = elim (which d e es at) [
  | inl is ↦ text_at-found e.0 d es ((bytes_eq-Decides d.0 e.0).1 (ap (λ (x : PathText). x.0) is)) ∙ ap (λ (x : PathText). Some x.1) is
  | inr later ↦ text_at-other e.0 d es (not_equal d.0 e.0 (all_at (PathsDiffer d) es e (pairs_head PathsDiffer d es h) later))
      ∙ found_of_apart es e (pairs_tail PathsDiffer d es h) later
]

-- at a path that no text has nothing is found
pub none_of_others : (es : List PathText) (path : List ℕ) → ((e : PathText) → Contains es e → e.0 ≢ path) → text_at path es ≡ None
none_of_others [] path h = text_at-nil path
none_of_others (d ∷ es) path h = text_at-other path d es (not_equal d.0 path (h d (here d es))) ∙ none_of_others es path (λ e at. h e (there d e es at))
