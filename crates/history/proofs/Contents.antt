-- The bodies of what the plain archive has stay among those that are known.
use Rattle.std.proofs.Common.{◌≡◌, ℕ, Bool, true, false, cond, ◌||◌, List, [], ◌∷◌, ◌++◌, map, Some, option_to_list, refl, sym, ap, ◌∙◌, subst, inl, inr}
use Rattle.std.specs.Prelude.{Contains}
use Rattle.std.specs.FinMap.{entries, get, values, get-from_entries}
use Rattle.std.specs.List.{list_any}
use Rattle.std.proofs.lemmas.List.Elements.{Contains-append_cases}
use Rattle.book.specs.Keeping.{NoCollision}
use Rattle.rules.specs.Judgement.{component}
use Rattle.rules.specs.Suites.{claiming}
use Rattle.rules.specs.Values.{ConfigValue}
use Rattle.rules.specs.declared.verdict.Verdict.{Verdict}
use Rattle.rules.specs.declared.verdict.Verdict.TheVariants.{Accepted}
use Rattle.sums.proofs.Members.{here, there, which, no_member, from_map}
use Rattle.suites.proofs.ListMembers.{from_flat_map}
use Rattle.suites.specs.Held.{held_behind, held}
use Rattle.suites.specs.Items.{Admitted, FileWith, on_shelf}
use Rattle.suites.specs.KeyLemmas.{key_order_total, key_order-IsAntisymmetric, text_order_total, text_order-IsAntisymmetric}
use Rattle.suites.specs.Plan.{admitted_if, given}
use Rattle.suites.specs.Pool.{files_with}
use Rattle.suites.specs.Shelves.{beats, covers, shown}
use Rattle.suites.specs.Upload.{UploadValue, items_of}
use Rattle.suites.specs.Verdict.{path_of}
use Rattle.suites.proofs.FileMembers.{member_found, member_get}
use Rattle.history.specs.Archives.{BodyItem, PlainArchive, WholeUpload, by_body, contents_of, items_given, pool_in, shown_in, version_with, whole, with_admitted}
use Rattle.history.proofs.ContentsListed.{HasItsBodies}
use Rattle.history.proofs.ItemPrints.{verdict_in}
use Rattle.history.proofs.ItemPrintsFiles.{items_listed}
use Rattle.history.proofs.ItemPrintsRows.{listed_contents, no_row_applies}
use Rattle.history.proofs.VerdictPrints.{AreKnown}

-- each file of the items has one of these bodies
abbrev pub AreMadeOf : List (List ℕ) → List (Admitted (List ℕ)) → Type 0
AreMadeOf bodies items = (e : Admitted (List ℕ)) → Contains items e → (file : FileWith (List ℕ)) → Contains e.1.files file → Contains bodies file.contents

-- ---- members

cond_member : {X : Type 0} (b : Bool) (x y : X) (xs held : List X) → Contains (cond b held (x ∷ held)) y → (Contains held y → Contains xs y) → Contains (x ∷ xs) y
cond_member true x y xs held at more = there x y xs (more at)
cond_member false x y xs held at more = elim (which x y held at) [
  | inl same ↦ subst (λ z. Contains (x ∷ xs) z) same (here x xs)
  | inr rest ↦ there x y xs (more rest)
]

module _ {X : Type 0} (covers beats : X → X → Bool) where
  held_behind_member : (earlier xs : List X) (y : X) → Contains (held_behind covers beats earlier xs) y → Contains xs y
  held_behind_member earlier [] y at = no_member y at
  held_behind_member earlier (x ∷ xs) y at =
      cond_member (list_any (λ z. covers z x) earlier || list_any (λ z. beats z x) xs) x y xs (held_behind covers beats (earlier ++ x ∷ []) xs) at
      (held_behind_member (earlier ++ x ∷ []) xs y)

-- what is shown was admitted
pub shown_member : (xs : List (Admitted (List ℕ))) (e : Admitted (List ℕ)) → Contains (entries (shown version_with xs)) e → Contains xs e
unfolding shown
shown_member xs e at =
    let items = held (covers version_with) (beats version_with) xs in
    let found : get (shown version_with xs) e.0 ≡ Some e.1 = member_get key_order_total (shown version_with xs) e at in
    held_behind_member (covers version_with) (beats version_with) [] xs e
    (member_found key_order-IsAntisymmetric e.0 e.1 items (sym (get-from_entries key_order_total items e.0) ∙ found))

-- ---- the pool

-- the path and the body of a file
abbrev pub placed : FileWith (List ℕ) → List ℕ × List ℕ
placed f = (f.path, f.contents)

pub files_member : (items : List BodyItem) (path body : List ℕ) → Contains (files_with items) (path, body)
    → (i : BodyItem) × Contains items i × ((file : FileWith (List ℕ)) × Contains i.files file × (placed file ≡ (path, body)))
files_member items path body at =
    let held = from_flat_map (λ (i : BodyItem). map (λ f. (f.path, f.contents)) i.files) (path, body) items at in
    let file = from_map (λ (f : FileWith (List ℕ)). (f.path, f.contents)) (path, body) (held.0).files held.2 in
    (held.0, held.1, (file.0, file.1, file.2))

pub pool_file : (a : PlainArchive) (path body : List ℕ) → get (pool_in a) path ≡ Some body → Contains (files_with (values (shown_in a))) (path, body)
pool_file a path body h =
    let files = files_with (values (shown_in a)) in
    member_found text_order-IsAntisymmetric path body files (sym (get-from_entries text_order_total files path) ∙ h)

-- a file of the pool is one of an item that is shown
pub pool_item : (a : PlainArchive) (path body : List ℕ) → get (pool_in a) path ≡ Some body
    → (e : Admitted (List ℕ)) × Contains (entries (shown_in a)) e × ((file : FileWith (List ℕ)) × Contains e.1.files file × (placed file ≡ (path, body)))
pool_item a path body h =
    let m = files_member (values (shown_in a)) path body (pool_file a path body h) in
    let e = from_map (λ (e : Admitted (List ℕ)). e.1) m.0 (entries (shown_in a)) m.1 in
    let file = m.2 in
    (e.0, e.1, (file.0, subst (λ (i : BodyItem). Contains i.files file.0) (sym e.2) file.1, file.2))

-- the pool of items that are made of the bodies has only those
pub pool_known : (bodies : List (List ℕ)) (a : PlainArchive) → AreMadeOf bodies a.admitted → (path body : List ℕ) → get (pool_in a) path ≡ Some body → Contains bodies body
pool_known bodies a made path body h =
    let m = pool_item a path body h in
    let file = m.2 in
    subst (λ (p : List ℕ × List ℕ). Contains bodies p.1) file.2 (made m.0 (shown_member a.admitted m.0 m.1) file.0 file.1)

-- ---- an upload

-- the bodies that the upload brings are among these
abbrev pub AreBrought : List (List ℕ) → WholeUpload → Type 0
AreBrought bodies w = (body : List ℕ) → Contains w.bodies body → Contains bodies body

pub are_known : (bodies : List (List ℕ)) (a : PlainArchive) (w : WholeUpload) → NoCollision bodies → AreMadeOf bodies a.admitted → AreBrought bodies w → AreKnown bodies a w
are_known bodies a w apart made brought = record { apart = apart; pooled = pool_known bodies a made; brought = brought }

pub given_member : (config : ConfigValue) (u : UploadValue) (items : List BodyItem) (e : Admitted (List ℕ)) → Contains (given config u items) e → Contains items e.1
unfolding given
given_member config u items e at =
    let placed = from_flat_map (λ suite. map (on_shelf suite) items) e (option_to_list (claiming u.changes.distribution config.suites)) at in
    let m = from_map (on_shelf placed.0) e items placed.2 in
    subst (λ (i : BodyItem). Contains items i) (ap (λ (x : Admitted (List ℕ)). x.1) m.2) m.1

pub given_known : (bodies : List (List ℕ)) (config : ConfigValue) (a : PlainArchive) (w : WholeUpload) → AreMadeOf bodies a.admitted → AreBrought bodies w → HasItsBodies w
    → verdict_in config a w ≡ Accepted → AreMadeOf bodies (items_given config a w)
unfolding items_given
given_known bodies config a w made brought its accepted e at file within =
    let rows = no_row_applies (by_body w) (pool_in a) config w.upload accepted in
    let m = items_listed (contents_of w (pool_in a)) w.upload (component w.upload.changes) e.1 file
    (given_member config w.upload (items_of (contents_of w (pool_in a)) w.upload (component w.upload.changes)) e at) within in
    subst (λ (f : FileWith (List ℕ)). Contains bodies f.contents) m.2 (elim (listed_contents _ w (pool_in a) m.0 its rows m.1).from [
      | inl mine ↦ brought (contents_of w (pool_in a) m.0) mine
      | inr held ↦ pool_known bodies a made (path_of w.upload.changes m.0) (contents_of w (pool_in a) m.0) held
    ])

pub admitted_if_member : {X : Type 0} (v : Verdict) (xs : List X) (x : X) → Contains (admitted_if v xs) x → (v ≡ Accepted) × Contains xs x
admitted_if_member Accepted xs x at = (refl, at)
admitted_if_member v xs x at = no_member x at

pub admitted_known : (bodies : List (List ℕ)) (config : ConfigValue) (a : PlainArchive) (w : WholeUpload) → AreMadeOf bodies a.admitted → AreBrought bodies w → HasItsBodies w
    → AreMadeOf bodies (admitted_if (verdict_in config a w) (items_given config a w))
admitted_known bodies config a w made brought its e at =
    let m = admitted_if_member (verdict_in config a w) (items_given config a w) e at in
    given_known bodies config a w made brought its m.0 e m.1

pub both_known : (bodies : List (List ℕ)) (xs ys : List (Admitted (List ℕ))) → AreMadeOf bodies xs → AreMadeOf bodies ys → AreMadeOf bodies (xs ++ ys)
both_known bodies xs ys p q e at = elim (Contains-append_cases xs ys e at) [
  | inl left ↦ p e left
  | inr right ↦ q e right
]

-- the archive with the upload has known bodies too
pub whole_known : (bodies : List (List ℕ)) (config : ConfigValue) (moment : ℕ) (a : PlainArchive) (w : WholeUpload) → AreMadeOf bodies a.admitted → AreBrought bodies w → HasItsBodies w
    → AreMadeOf bodies (whole config moment a w).admitted
unfolding whole with_admitted
whole_known bodies config moment a w made brought its =
    both_known bodies a.admitted (admitted_if (verdict_in config a w) (items_given config a w)) made (admitted_known bodies config a w made brought its)
