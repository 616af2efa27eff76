-- The front of a name, and names that are written by parts.
use Rattle.std.proofs.Common.{◌≡◌, ℕ, ◌≤◌, Bool, true, false, cond, leb, List, ◌++◌, length, take, get_or, refl, sym, ap, ◌∙◌, append_assoc, arith}
use Rattle.std.specs.Prelude.{codes}
use Rattle.std.proofs.lemmas.Bool.Decides.{nat_tests}
use Rattle.std.proofs.lemmas.Grind.{common_steps}
use Rattle.std.proofs.lemmas.Bool.{leb-true, leb-false}
use Rattle.std.proofs.lemmas.List.{get_or_past}
use Rattle.std.specs.List.{slice_range}
use Rattle.std.specs.Str.{IsCharBoundary}
use Rattle.records.specs.Values.{DscValue, SidecarValue}
use Rattle.vers.specs.Syntax.{without_epoch}
use Rattle.suites.specs.Told.{deb_file}
use Rattle.suites.specs.Verdict.{dsc_file, sidecar_file}
use Rattle.suites.specs.Pool.{front_of, is_continuation, prefix_of, directory_of, pool_path}

-- a byte at which a text may be cut does not continue a character
goes_on : (n : ℕ) (text : List ℕ) → IsCharBoundary text n → is_continuation (get_or text n 0) ≡ false
goes_on n text h = grind (arith, nat_tests, h.1, get_or_past text n 0)

cut : (n : ℕ) (text : List ℕ) → slice_range text 0 n ≡ take n text
cut n text = grind (arith, common_steps)

pub front_cut : (n : ℕ) (text : List ℕ) → IsCharBoundary text n → slice_range text 0 n ≡ front_of n text
unfolding front_of
front_cut n text h = cut n text ∙ sym (ap (λ b. cond b text (take n text)) (goes_on n text h))

past : (n : ℕ) (text : List ℕ) → length text ≤ n → text ≡ take n text
past n text h = grind (arith, common_steps)

boundary : (n : ℕ) (text : List ℕ) → n ≤ length text → is_continuation (get_or text n 0) ≡ false → IsCharBoundary text n
boundary n text h e = (h, λ less high. grind (arith, nat_tests))

whole : (n : ℕ) (text : List ℕ) (b : Bool) → is_continuation (get_or text n 0) ≡ b → (IsCharBoundary text n → ⊥) → text ≡ cond b text (take n text)
whole n text true e never = refl
whole n text false e never = past n text (elim (leb n (length text)) as (λ t. leb n (length text) ≡ t → length text ≤ n) [
  | true ↦ λ small. absurd (never (boundary n text (omega (arith, leb-true n (length text) small)) e))
  | false ↦ λ large. omega (arith, leb-false n (length text) large)
] refl)

pub front_whole : (n : ℕ) (text : List ℕ) → (IsCharBoundary text n → ⊥) → text ≡ front_of n text
unfolding front_of
front_whole n text never = whole n text _ refl never

-- ---- names that are written by parts

pub directory_written : (component prefix source : List ℕ) → prefix ≡ prefix_of source
    → codes "pool/" ++ (component ++ (codes "/" ++ (prefix ++ (codes "/" ++ source)))) ≡ directory_of component source
unfolding directory_of
directory_written component prefix source e = rw e (simp append_assoc)

pub path_written : (component prefix source file : List ℕ) → prefix ≡ prefix_of source
    → codes "pool/" ++ (component ++ (codes "/" ++ (prefix ++ (codes "/" ++ (source ++ (codes "/" ++ file)))))) ≡ pool_path component source file
unfolding directory_of pool_path
path_written component prefix source file e = rw e (simp append_assoc)

pub dsc_written : (d : DscValue) (source version : List ℕ) → source ≡ d.source → version ≡ without_epoch d.version
    → source ++ (codes "_" ++ (version ++ codes ".dsc")) ≡ dsc_file d
dsc_written d source version named dated = rw (named, dated) (simp append_assoc)

pub deb_written : (s : SidecarValue) (name version architecture : List ℕ) → name ≡ s.name → version ≡ without_epoch s.version → architecture ≡ s.architecture
    → name ++ (codes "_" ++ (version ++ (codes "_" ++ (architecture ++ codes ".deb")))) ≡ deb_file s
deb_written s name version architecture named dated built = rw (named, dated, built) (simp append_assoc)

pub sidecar_written : (s : SidecarValue) (name version architecture : List ℕ) → name ≡ s.name → version ≡ without_epoch s.version → architecture ≡ s.architecture
    → name ++ (codes "_" ++ (version ++ (codes "_" ++ (architecture ++ codes ".control")))) ≡ sidecar_file s
unfolding sidecar_file
sidecar_written s name version architecture named dated built = rw (named, dated, built) (simp append_assoc)
