-- Files of an accepted upload agree with each other and with those of the pool.
use Rattle.std.proofs.Common.{◌≡◌, ◌≢◌, ◌⊎◌, ℕ, Bool, true, false, cond, not, ◌&&◌, List, [], ◌∷◌, ◌++◌, codes, Option, Some, None, is_some, refl, sym, ap, ◌∙◌, subst, inl, inr}
use Rattle.std.specs.Prelude.{AllPairs, Contains, find}
use Rattle.std.specs.FinMap.{get, values}
use Rattle.std.specs.Option.{option_map_or}
use Rattle.std.specs.Str.{bytes_eq}
use Rattle.std.proofs.lemmas.List.{append_cancel_left}
use Rattle.std.proofs.lemmas.Option.{same_Some}
use Rattle.std.proofs.lemmas.Slice.Eq.{bytes_eq-Decides}
use Rattle.records.specs.Values.{ChangesValue}
use Rattle.rules.specs.Judgement.{component}
use Rattle.sums.proofs.Booleans.{passed}
use Rattle.sums.proofs.Members.{here, there, by_name}
use Rattle.sums.specs.Prints.{same_print}
use Rattle.sums.specs.declared.entries.Entry.{Entry}
use Rattle.sums.specs.declared.print.Print.{Print}
use Rattle.suites.specs.Pool.{AreAgreed, files_of, pool_path, directory_of}
use Rattle.suites.specs.Shelves.{ShelvesValue, pool}
use Rattle.suites.specs.Upload.{has_suffix, entry_named}
use Rattle.suites.specs.Verdict.{by_print, is_missing_file, is_taken, path_of}
use Rattle.suites.proofs.PoolLookups.{get-pool_of}
use Rattle.suites.proofs.Prints.{same_print-equal}

-- What an accepted upload lists: the entries of its .changes and those of its .dsc, none if it has no .dsc.
pub record ListsAgree (shelves : ShelvesValue) (c : ChangesValue) (entries : List Entry) : Type 0 where
  pub changes : AllPairs (λ a b. a.name ≢ b.name) c.entries
  pub dsc : AllPairs (λ a b. a.name ≢ b.name) entries
  pub both : (e f : Entry) → Contains c.entries e → Contains entries f → e.name ≡ f.name → e.print ≡ f.print
  pub plain : (f : Entry) → Contains entries f → has_suffix (codes ".control") f.name ≡ false
  pub there : (f : Entry) → Contains entries f → is_missing_file by_print (pool shelves) c f ≡ false
  pub free : (e : Entry) → Contains c.entries e → is_taken by_print (pool shelves) c e ≡ false

-- an entry whose file is one of an item: an entry of the .changes that is not a sidecar, or one of the .dsc
abbrev pub IsFile : ChangesValue → List Entry → Entry → Type 0
IsFile c entries e = (Contains c.entries e × (has_suffix (codes ".control") e.name ≡ false)) ⊎ Contains entries e

pub same_name-same_print : (shelves : ShelvesValue) (c : ChangesValue) (entries : List Entry) (e f : Entry) → ListsAgree shelves c entries
    → IsFile c entries e → IsFile c entries f → e.name ≡ f.name → e.print ≡ f.print
same_name-same_print shelves c entries e f agree (inl p) (inl q) h = ap (λ x. x.print) (by_name (λ x. x.name) c.entries e f agree.changes p.0 q.0 h)
same_name-same_print shelves c entries e f agree (inl p) (inr q) h = agree.both e f p.0 q h
same_name-same_print shelves c entries e f agree (inr p) (inl q) h = sym (agree.both f e q.0 p (sym h))
same_name-same_print shelves c entries e f agree (inr p) (inr q) h = ap (λ x. x.print) (by_name (λ x. x.name) entries e f agree.dsc p q h)

same_path-same_name : (c : ChangesValue) (e f : Entry) → path_of c e ≡ path_of c f → e.name ≡ f.name
unfolding pool_path
same_path-same_name c e f h =
    append_cancel_left (directory_of (component c) c.source ++ codes "/") e.name f.name h

pub same_path-same_print : (shelves : ShelvesValue) (c : ChangesValue) (entries : List Entry) (e f : Entry) → ListsAgree shelves c entries
    → IsFile c entries e → IsFile c entries f → path_of c e ≡ path_of c f → e.print ≡ f.print
same_path-same_print shelves c entries e f agree p q h = same_name-same_print shelves c entries e f agree p q (same_path-same_name c e f h)

-- ---- against the pool

not_taken : (sidecar : Bool) (held : Option Print) (p q : Print) → sidecar ≡ false → held ≡ Some p
    → (not sidecar && option_map_or (λ there. not (same_print there q)) held false) ≡ false → p ≡ q
not_taken sidecar held p q s h e =
    let free : not (same_print p q) ≡ false = sym (ap (λ b. not b && option_map_or (λ there. not (same_print there q)) held false) s ∙ ap (λ o. option_map_or (λ there. not (same_print there q)) o false) h) ∙ e in
    same_print-equal p q (passed (same_print p q) free)

not_missing : (listed : Bool) (held : Option Print) (p q : Print) → listed ≡ false → held ≡ Some p
    → (not listed && not (option_map_or (λ there. same_print there q) held false)) ≡ false → p ≡ q
not_missing listed held p q s h e =
    let free : not (same_print p q) ≡ false = sym (ap (λ b. not b && not (option_map_or (λ there. same_print there q) held false)) s ∙ ap (λ o. not (option_map_or (λ there. same_print there q) o false)) h) ∙ e in
    same_print-equal p q (passed (same_print p q) free)

-- a listed file that is not a sidecar has the print that the pool holds at its path
changes_print : (shelves : ShelvesValue) (c : ChangesValue) (entries : List Entry) (e : Entry) (p : Print) → ListsAgree shelves c entries
    → Contains c.entries e → has_suffix (codes ".control") e.name ≡ false → get (pool shelves) (path_of c e) ≡ Some p → p ≡ e.print
unfolding is_taken
changes_print shelves c entries e p agree listed plain held =
    not_taken (has_suffix (codes ".control") e.name) (get (pool shelves) (path_of c e)) p e.print plain held (agree.free e listed)

found_named : (name : List ℕ) (e : Entry) (rest : List Entry) (g : Entry) (b : Bool) → bytes_eq e.name name ≡ b
    → cond b (Some e) (find (λ e. bytes_eq e.name name) rest) ≡ Some g → (find (λ e. bytes_eq e.name name) rest ≡ Some g → Contains rest g × (g.name ≡ name))
    → Contains (e ∷ rest) g × (g.name ≡ name)
found_named name e rest g true t h more =
    let same : e ≡ g = same_Some e g h in
    (subst (λ x. Contains (e ∷ rest) x) same (here e rest), subst (λ (x : Entry). x.name ≡ name) same ((bytes_eq-Decides e.name name).0 t))
found_named name e rest g false t h more = let m = more h in (there e g rest m.0, m.1)

find_named : (name : List ℕ) (entries : List Entry) (g : Entry) → find (λ e. bytes_eq e.name name) entries ≡ Some g → Contains entries g × (g.name ≡ name)
find_named name [] g h = cc
find_named name (e ∷ rest) g h = found_named name e rest g (bytes_eq e.name name) refl h (find_named name rest g)

-- the entry of a name is an entry of the list, and has that name
pub entry_named-Contains : (name : List ℕ) (entries : List Entry) (g : Entry) → entry_named name entries ≡ Some g → Contains entries g × (g.name ≡ name)
unfolding entry_named
entry_named-Contains name entries g h = find_named name entries g h

dsc_print : (shelves : ShelvesValue) (c : ChangesValue) (entries : List Entry) (f : Entry) (p : Print) → ListsAgree shelves c entries
    → Contains entries f → get (pool shelves) (path_of c f) ≡ Some p → (found : Option Entry) → entry_named f.name c.entries ≡ found → p ≡ f.print
unfolding is_missing_file
dsc_print shelves c entries f p agree listed held None e =
    not_missing (is_some (entry_named f.name c.entries)) (get (pool shelves) (path_of c f)) p f.print (ap is_some e) held (agree.there f listed)
dsc_print shelves c entries f p agree listed held (Some g) e =
    let found = entry_named-Contains f.name c.entries g e in
    changes_print shelves c entries g p agree found.0 (ap (has_suffix (codes ".control")) found.1 ∙ agree.plain f listed)
    (ap (λ name. get (pool shelves) (pool_path (component c) c.source name)) found.1 ∙ held)
    ∙ agree.both g f found.0 listed found.1

-- a file of an item has the print that the pool holds at its path
pub pool_print : (shelves : ShelvesValue) (c : ChangesValue) (entries : List Entry) (e : Entry) (p : Print) → ListsAgree shelves c entries
    → IsFile c entries e → get (pool shelves) (path_of c e) ≡ Some p → p ≡ e.print
pool_print shelves c entries e p agree (inl q) held = changes_print shelves c entries e p agree q.0 q.1 held
pool_print shelves c entries e p agree (inr q) held = dsc_print shelves c entries e p agree q held (entry_named e.name c.entries) refl

-- a file of an item has the print of a shown file at its path
pub shown_print : (shelves : ShelvesValue) (c : ChangesValue) (entries : List Entry) (e : Entry) (p : Print) → ListsAgree shelves c entries → AreAgreed (files_of (values shelves))
    → IsFile c entries e → Contains (files_of (values shelves)) (path_of c e, p) → p ≡ e.print
shown_print shelves c entries e p agree sound file shown =
    pool_print shelves c entries e p agree file (get-pool_of (path_of c e) (files_of (values shelves)) p sound shown)
