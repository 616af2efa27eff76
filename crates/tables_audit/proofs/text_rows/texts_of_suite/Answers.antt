use Rattle.std.proofs.Common.{◌≡◌, ◌<◌, ◌∷◌, ℕ, List, Some, codes, map, length, get_or, slice_get, true≢false, refl, sym, ap, subst, ◌∙◌, arith}
use Rattle.std.specs.Prelude.{All, Contains}
use Rattle.std.proofs.lemmas.List.{length-map}
use Rattle.std.proofs.lemmas.Option.{slice_get_read}
use Rattle.tables_meaning.specs.Founding.{from_root, suite_texts_at}
use Rattle.rules.specs.Values.{ConfigValue}
use Rattle.rules.specs.declared.suite.Suite.{Suite}
use Rattle.suites.specs.Shelves.{ShelvesValue}
use Rattle.tables.specs.declared.rows.TextRow.{TextRow}
use Rattle.indices.specs.Indices.{PathText}
use Rattle.indices.specs.Positions.{release_at}
use Rattle.indices.specs.Release.{index_of, listed_texts}
use Rattle.indices.specs.declared.index.Index.{Index}
use Rattle.tables_matching.specs.Rows.{text_in}
use Rattle.tables_audit.specs.TextRows.{texts_in}
use Rattle.tables_audit.proofs.TextsLemmas.{all_of_suite, prints_more, suite_texts_made}
use Rattle.tables_audit.proofs.text_rows.texts_of_suite.Goals as goal

module _ (config : ConfigValue) (shelves : ShelvesValue) (i moment : ℕ) (s : Suite) (suites : List Suite) (release : TextRow) (es fs : List TextRow) (listed indices : List Index)
    (within : i < length config.suites) (here : s ≡ get_or suites i s) (same : suites ≡ config.suites)
    (are : map text_in es ≡ listed_texts s shelves i) (equal : fs ≡ es) (made : indices ≡ map index_of (map text_in fs)) (list : listed ≡ indices)
    (first : text_in release ≡ (codes "Release", release_at config i moment listed)) where
  made_here : indices ≡ map index_of (map text_in es)
  made_here = made ∙ ap (λ xs. map index_of (map text_in xs)) equal

  whole : suite_texts_at config shelves i moment ≡ from_root s (text_in release) ∷ map (from_root s) (map text_in es)
  whole =
      let at : slice_get config.suites i ≡ Some s = slice_get_read config.suites (length config.suites) i s refl within (here ∙ ap (λ ss. get_or ss i s) same) in
      suite_texts_made config shelves i moment s (text_in release) (map text_in es) at are
      (first ∙ ap (λ xs. (codes "Release", release_at config i moment xs)) (list ∙ made_here))

pub returns-then-not-branch-clause-none : goal.returns-then-not-branch-clause-none
returns-then-not-branch-clause-none c none all =
    let shelves : ShelvesValue = c.args.shelves.now in
    let s : Suite = c.index-suites-position.result in
    let es : List TextRow = c.in_ok-entries.entries.items in
    let release : TextRow = c.in_ok-release.release in
    let is = whole c.args.config.now shelves c.args.position c.args.moment s c.suites.result.now release es c.deref.result.now c.deref-2.result.now c.in_ok-indices.indices.items
    c.requires.suite c.index-suites-position.is c.suites.ensures c.in_ok-entries.ensures c.deref.ensures.value c.in_ok-indices.ensures c.deref-2.ensures.value c.in_ok-release.ensures in
    let have = (all_of_suite (Contains (texts_in c.args.rows.now)) _ (map (from_root s) (map text_in es)) (from_root s (text_in release)) is).0 all in
    absurd (true≢false (sym (c.in_ok-has_text.ensures.1 have.0) ∙ c.if-not-branch.true))

pub returns-then-not-branch-2-clause-none : goal.returns-then-not-branch-2-clause-none
returns-then-not-branch-2-clause-none c none all =
    let shelves : ShelvesValue = c.args.shelves.now in
    let s : Suite = c.index-suites-position.result in
    let es : List TextRow = c.in_ok-entries.entries.items in
    let release : TextRow = c.in_ok-release.release in
    let is = whole c.args.config.now shelves c.args.position c.args.moment s c.suites.result.now release es c.deref.result.now c.deref-2.result.now c.in_ok-indices.indices.items
    c.requires.suite c.index-suites-position.is c.suites.ensures c.in_ok-entries.ensures c.deref.ensures.value c.in_ok-indices.ensures c.deref-2.ensures.value c.in_ok-release.ensures in
    let have = (all_of_suite (Contains (texts_in c.args.rows.now)) _ (map (from_root s) (map text_in es)) (from_root s (text_in release)) is).0 all in
    let others = subst (λ ts. All (Contains (texts_in c.args.rows.now)) (map (from_root s) (map text_in ts))) (sym c.deref-3.ensures.value) have.1 in
    absurd (true≢false (sym (c.in_ok-have_texts.ensures.1 others) ∙ c.if-not-branch-2.true))

pub returns-clause-some : goal.returns-clause-some
returns-clause-some c =
    let shelves : ShelvesValue = c.args.shelves.now in
    let s : Suite = c.index-suites-position.result in
    let es : List TextRow = c.in_ok-entries.entries.items in
    let release : TextRow = c.in_ok-release.release in
    let is = whole c.args.config.now shelves c.args.position c.args.moment s c.suites.result.now release es c.deref.result.now c.deref-2.result.now c.in_ok-indices.indices.items
    c.requires.suite c.index-suites-position.is c.suites.ensures c.in_ok-entries.ensures c.deref.ensures.value c.in_ok-indices.ensures c.deref-2.ensures.value c.in_ok-release.ensures in
    let others : All (Contains (texts_in c.args.rows.now)) (map (from_root s) (map text_in es)) =
    subst (λ ts. All (Contains (texts_in c.args.rows.now)) (map (from_root s) (map text_in ts))) c.deref-3.ensures.value (c.in_ok-have_texts.ensures.0 c.if-not-branch-2.false) in (
      omega (arith, ap length is, length-map (map text_in es) (from_root s), length-map es text_in, c.in_ok-entries.entries.ok.0),
      (all_of_suite (Contains (texts_in c.args.rows.now)) _ (map (from_root s) (map text_in es)) (from_root s (text_in release)) is).1 (c.in_ok-has_text.ensures.0 c.if-not-branch.false, others),
    )

pub returns-clause-known : goal.returns-clause-known
returns-clause-known c =
    let s : Suite = c.index-suites-position.result in
    let texts : List PathText = texts_in c.args.rows.now in
    let es : List TextRow = c.in_ok-entries.entries.items in
    let indices : List Index = c.in_ok-indices.indices.items in
    let others : All (Contains texts) (map (from_root s) (map text_in es)) =
    subst (λ ts. All (Contains texts) (map (from_root s) (map text_in ts))) c.deref-3.ensures.value (c.in_ok-have_texts.ensures.0 c.if-not-branch-2.false) in
    let made : indices ≡ map index_of (map text_in es) = c.in_ok-indices.ensures ∙ ap (λ xs. map index_of (map text_in xs)) c.deref.ensures.value in
    prints_more texts s (map text_in es) c.deref-4.result.now c.args.prints.now.items c.push_prints.new.prints.items others (c.deref-4.ensures.value ∙ made) c.in_ok-push_prints.ensures
