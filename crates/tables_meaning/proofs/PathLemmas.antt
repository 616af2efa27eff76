-- No two texts of a configuration that was read stand at one path.
use Rattle.std.proofs.Common.{◌≡◌, ◌≢◌, inl, inr, ℕ, ◌+◌, List, [], ◌∷◌, map, codes, Ok, sym, subst, ◌∙◌}
use Rattle.std.proofs.lemmas.List.{map-append}
use Rattle.std.proofs.lemmas.List.Elements.{Contains-append_cases}
use Rattle.std.proofs.lemmas.List.Kept.{AllPairs-cons}
use Rattle.std.specs.List.{flat_map, zip}
use Rattle.std.specs.Prelude.{AllPairs, Contains}
use Rattle.rules.specs.Configuration.{config_in}
use Rattle.rules.specs.Values.{ConfigValue}
use Rattle.rules.specs.declared.suite.Suite.{Suite}
use Rattle.suites.specs.Shelves.{ShelvesValue}
use Rattle.suites.proofs.ListMembers.{from_flat_map}
use Rattle.sums.proofs.Members.{all_at, all_from, from_map, here, no_member, pairs_head, there}
use Rattle.indices.specs.Indices.{PathText, suite_path, suite_texts, texts_from}
use Rattle.indices.specs.Release.{index_path}
use Rattle.indices.proofs.Paths.{AreNamed, CodenamesDiffer, IsNamed, config_named, folders, index_or_release, index_paths, named_rest}
use Rattle.indices.proofs.Pairs.{pairs_append, pairs_flat, pairs_map, pairs_none, pairs_unmap}
use Rattle.tables_meaning.proofs.TextLemmas.{HasPathsApart, folder_paths, paths_of, suite_paths}

abbrev Differ : List ℕ → List ℕ → Type 0
Differ p q = p ≢ q

indices_apart : (s : Suite) → IsNamed s → AllPairs Differ (flat_map (λ c. map (index_path c) s.architectures) s.components)
indices_apart s named =
    pairs_flat Differ Differ (λ c. map (index_path c) s.architectures) s.components
    (λ c at. pairs_map Differ Differ (index_path c) s.architectures
    (λ a b p q other e. other (index_paths c c a b (named.components c at) (named.components c at) (named.architectures a p) (named.architectures b q) e).1) named.architectures_apart)
    (λ c d at_c at_d other p q in_c in_d e.
    let a = from_map (index_path c) p s.architectures in_c in
    let b = from_map (index_path d) q s.architectures in_d in
    other (index_paths c d a.0 b.0 (named.components c at_c) (named.components d at_d) (named.architectures a.0 a.1) (named.architectures b.0 b.1) (a.2 ∙ e ∙ sym b.2)).0)
    named.components_apart

folder_apart : (s : Suite) → IsNamed s → AllPairs Differ (folder_paths s)
folder_apart s named =
    AllPairs-cons Differ (codes "Release") (flat_map (λ c. map (index_path c) s.architectures) s.components)
    (all_from (Differ (codes "Release")) (flat_map (λ c. map (index_path c) s.architectures) s.components) (λ p at same.
    let c = from_flat_map (λ c. map (index_path c) s.architectures) p s.components at in
    let a = from_map (index_path c.0) p s.architectures c.2 in
    index_or_release c.0 a.0 (a.2 ∙ sym same)))
    (indices_apart s named)

suite_apart : (s : Suite) → IsNamed s → AllPairs Differ (map (suite_path s) (folder_paths s))
suite_apart s named =
    pairs_map Differ Differ (suite_path s) (folder_paths s)
    (λ p q at_p at_q other e. other (folders s.codename s.codename p q named.codename named.codename e).1)
    (folder_apart s named)

-- each path is one in the folder of a suite
of_suite : (shown : ShelvesValue) (suite : ℕ) (suites : List Suite) (dates : List ℕ) (path : List ℕ) → Contains (paths_of (texts_from shown suite (zip suites dates))) path
    → (s : Suite) × Contains suites s × ((rest : List ℕ) × (suite_path s rest ≡ path))
unfolding texts_from
of_suite shown suite [] dates path at = no_member path at
of_suite shown suite (s ∷ ss) [] path at = no_member path at
of_suite shown suite (s ∷ ss) (d ∷ ds) path at =
    elim (Contains-append_cases (paths_of (suite_texts shown suite s d)) (paths_of (texts_from shown (suite + 1) (zip ss ds))) path
    (subst (λ (ps : List (List ℕ)). Contains ps path) (map-append (λ (e : PathText). e.0) (suite_texts shown suite s d) (texts_from shown (suite + 1) (zip ss ds))) at)) [
      | inl own ↦
          let rest = from_map (suite_path s) path (folder_paths s) (subst (λ (ps : List (List ℕ)). Contains ps path) (suite_paths shown suite s d) own) in
          (s, here s ss, (rest.0, rest.2))
      | inr later ↦ let found = of_suite shown (suite + 1) ss ds path later in (found.0, there s found.0 ss found.1, found.2)
    ]

paths_apart : (shown : ShelvesValue) (suite : ℕ) (suites : List Suite) (dates : List ℕ) → AreNamed suites → AllPairs Differ (paths_of (texts_from shown suite (zip suites dates)))
unfolding texts_from
paths_apart shown suite [] dates named = pairs_none Differ
paths_apart shown suite (s ∷ ss) [] named = pairs_none Differ
paths_apart shown suite (s ∷ ss) (d ∷ ds) named =
    let own = suite_paths shown suite s d in
    let later = paths_of (texts_from shown (suite + 1) (zip ss ds)) in
    subst (AllPairs Differ) (sym (map-append (λ (e : PathText). e.0) (suite_texts shown suite s d) (texts_from shown (suite + 1) (zip ss ds))))
    (pairs_append Differ (paths_of (suite_texts shown suite s d)) later
    (subst (AllPairs Differ) (sym own) (suite_apart s (named.each s (here s ss))))
    (paths_apart shown (suite + 1) ss ds (named_rest s ss named))
    (λ p q at_p at_q same.
    let first = from_map (suite_path s) p (folder_paths s) (subst (λ (ps : List (List ℕ)). Contains ps p) own at_p) in
    let second = of_suite shown (suite + 1) ss ds q at_q in
    all_at (CodenamesDiffer s) ss second.0 (pairs_head CodenamesDiffer s ss named.apart) second.1
    (folders s.codename second.0.codename first.0 second.2.0 (named.each s (here s ss)).codename (named.each second.0 (there s second.0 ss second.1)).codename (first.2 ∙ same ∙ sym second.2.1)).0))

-- THE PATHS of the texts of a configuration that was read differ.
pub config_paths : (config : ConfigValue) → config_in config.text ≡ Ok config → HasPathsApart config
config_paths config read = λ shown dates.
    pairs_unmap Differ (λ (e : PathText). e.0) (texts_from shown 0 (zip config.suites dates)) (paths_apart shown 0 config.suites dates (config_named config read))
