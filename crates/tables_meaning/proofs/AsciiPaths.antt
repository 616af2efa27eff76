-- The names in a configuration are ASCII, and so are the paths that are made of them.
use Rattle.std.proofs.Common.{◌≡◌, ℕ, ◌+◌, Bool, true, false, ◌&&◌, List, [], ◌∷◌, ◌++◌, map, length, codes, take, Ok, refl, nat_eq, nat_lt, if◌then◌else◌}
use Rattle.std.specs.Prelude.{Contains, slice_index}
use Rattle.std.specs.List.{AllByRecursion, starts_with, zip}
use Rattle.std.proofs.lemmas.List.Elements.{recursion_from_All}
use Rattle.rules.specs.Configuration.{config_in}
use Rattle.rules.specs.Values.{ConfigValue}
use Rattle.rules.specs.declared.suite.Suite.{Suite}
use Rattle.sqlite_keyed.proofs.ListLemmas.{all_map, all_weaker, all-append, all-flat_map}
use Rattle.sums.proofs.Members.{all_from, here, there}
use Rattle.suites.specs.Pool.{directory_of, front_of, is_continuation, pool_path, prefix_of}
use Rattle.suites.specs.Shelves.{ShelvesValue}
use Rattle.indices.specs.Indices.{PathText, folder_texts, suite_path, suite_texts, texts_from}
use Rattle.indices.specs.Release.{index_path, is_source, listed_entry, listed_texts}
use Rattle.tables_meaning.proofs.AsciiLemmas.{AreAscii, architecture_ascii, ascii-append, ascii-take, plain_ascii}
use Rattle.indices.proofs.Paths.{HasNames, HoldsOfNames, config_names}

ascii_names : HoldsOfNames AreAscii
ascii_names = record { none = refl; plain = plain_ascii; architecture = architecture_ascii }

pub config_ascii : (config : ConfigValue) → config_in config.text ≡ Ok config → (s : Suite) → Contains config.suites s → HasNames AreAscii s
config_ascii config read = config_names AreAscii ascii_names config read

-- ---- paths of texts

suite_path_ascii : (s : Suite) (path : List ℕ) → AreAscii s.codename → AreAscii path → AreAscii (suite_path s path)
suite_path_ascii s path name rest =
    ascii-append (codes "dists/" ++ s.codename ++ codes "/") path
    (ascii-append (codes "dists/" ++ s.codename) (codes "/") (ascii-append (codes "dists/") s.codename refl name) refl) rest

by_kind : (component architecture : List ℕ) → AreAscii component → AreAscii architecture → (b : Bool)
    → AreAscii (if b then component ++ codes "/source/Sources" else component ++ codes "/binary-" ++ architecture ++ codes "/Packages")
by_kind component architecture h k true = ascii-append component (codes "/source/Sources") h refl
by_kind component architecture h k false =
    ascii-append (component ++ codes "/binary-" ++ architecture) (codes "/Packages")
    (ascii-append (component ++ codes "/binary-") architecture (ascii-append component (codes "/binary-") h refl) k) refl

index_path_ascii : (component architecture : List ℕ) → AreAscii component → AreAscii architecture → AreAscii (index_path component architecture)
unfolding index_path
index_path_ascii component architecture h k = by_kind component architecture h k (is_source architecture)

abbrev HasAsciiPath : PathText → Type 0
HasAsciiPath e = AreAscii e.0

module _ (shown : ShelvesValue) where
  listed_ascii : (suite : ℕ) (s : Suite) → HasNames AreAscii s → AllByRecursion HasAsciiPath (listed_texts s shown suite)
  unfolding listed_texts
  listed_ascii suite s names =
      let architectures : AllByRecursion AreAscii s.architectures = recursion_from_All AreAscii s.architectures (all_from AreAscii s.architectures names.architectures) in
      all-flat_map HasAsciiPath (λ c. map (listed_entry shown suite c) s.architectures) s.components
      (all_weaker AreAscii (λ c. AllByRecursion HasAsciiPath (map (listed_entry shown suite c) s.architectures))
      (λ c h. all_map HasAsciiPath (listed_entry shown suite c) s.architectures (all_weaker AreAscii (λ a. AreAscii (index_path c a)) (λ a k. index_path_ascii c a h k) s.architectures architectures))
      s.components (recursion_from_All AreAscii s.components (all_from AreAscii s.components names.components)))

  suite_ascii : (suite : ℕ) (s : Suite) (date : ℕ) → HasNames AreAscii s → AllByRecursion HasAsciiPath (suite_texts shown suite s date)
  unfolding suite_texts folder_texts
  suite_ascii suite s date names =
      all_map HasAsciiPath (λ e. (suite_path s e.0, e.1)) (folder_texts shown suite s date)
      (all_weaker HasAsciiPath (λ e. AreAscii (suite_path s e.0)) (λ e h. suite_path_ascii s e.0 names.codename h) (folder_texts shown suite s date) (refl, listed_ascii suite s names))

  -- the paths of the texts of suites
  pub texts_ascii : (suite : ℕ) (suites : List Suite) (dates : List ℕ) → ((s : Suite) → Contains suites s → HasNames AreAscii s) → AllByRecursion HasAsciiPath (texts_from shown suite (zip suites dates))
  unfolding texts_from
  texts_ascii suite [] dates names = tt
  texts_ascii suite (s ∷ ss) [] names = tt
  texts_ascii suite (s ∷ ss) (d ∷ ds) names =
      all-append HasAsciiPath (suite_texts shown suite s d) (texts_from shown (suite + 1) (zip ss ds))
      (suite_ascii suite s d (names s (here s ss)))
      (texts_ascii (suite + 1) ss ds (λ u at. names u (there s u ss at)))

-- ---- paths of the pool

front_ascii : (n : ℕ) (text : List ℕ) (b : Bool) → AreAscii text → AreAscii (if b then text else take n text)
front_ascii n text true h = h
front_ascii n text false h = ascii-take n text h

prefix_ascii : (source : List ℕ) (b : Bool) → AreAscii source → AreAscii (if b then front_of 4 source else front_of 1 source)
unfolding front_of
prefix_ascii source true h = front_ascii 4 source (is_continuation (slice_index source 4)) h
prefix_ascii source false h = front_ascii 1 source (is_continuation (slice_index source 1)) h

directory_ascii : (component source : List ℕ) → AreAscii component → AreAscii source → AreAscii (directory_of component source)
unfolding directory_of prefix_of
directory_ascii component source h k =
    ascii-append (codes "pool/" ++ component ++ codes "/" ++ prefix_of source ++ codes "/") source
    (ascii-append (codes "pool/" ++ component ++ codes "/" ++ prefix_of source) (codes "/")
    (ascii-append (codes "pool/" ++ component ++ codes "/") (prefix_of source)
    (ascii-append (codes "pool/" ++ component) (codes "/") (ascii-append (codes "pool/") component refl h) refl)
    (prefix_ascii source (starts_with nat_eq source (codes "lib") && nat_lt 3 (length source)) k)) refl) k

pub pool_path_ascii : (component source file : List ℕ) → AreAscii component → AreAscii source → AreAscii file → AreAscii (pool_path component source file)
unfolding pool_path
pool_path_ascii component source file h k l =
    ascii-append (directory_of component source ++ codes "/") file
    (ascii-append (directory_of component source) (codes "/") (directory_ascii component source h k) refl) l
