-- From rows that are shown to the book of an old archive.
use Rattle.std.proofs.Common.{◌≡◌, ◌↔◌, ℕ, true, false, find, List, [], ◌∷◌, Option, Some, None, is_some, IfSome, IsTrue, refl, sym, ap, subst, ◌∙◌}
use Rattle.rules.specs.Values.{ConfigValue}
use Rattle.suites.specs.Shelves.{ShelvesValue}
use Rattle.book.specs.declared.change.Judgement.{Judgement}
use Rattle.tables.specs.Rows.{first_number, Numbered, Tables, rows_of, without}
use Rattle.tables.specs.declared.meta.TheConstants.{VERSION}
use Rattle.tables.specs.declared.rows.Meta.{Meta}
use Rattle.tables.specs.declared.rows.UploadRow.{UploadRow}
use Rattle.tables.specs.declared.rows.Want.{Want}
use Rattle.tables_read.specs.All.{AreConstrained}
use Rattle.tables_meaning.specs.Kept.{AreReadable, IsBook, bytes_of, is_placed, is_used, judged_row}
use Rattle.tables_audit.specs.Parts.{BodiesFit, UploadsFit}
use Rattle.tables_audit.specs.Whole.{KeepsNone}
use Rattle.old_book.specs.Copying.{AreRising}
use Rattle.old_book.specs.Old.{HasText, IsOldArchive, KeepsNoOld}
use Rattle.old_book.specs.Settling.{has_judged, settled, unjudged, unjudged_uploads, with_meta_row}
use Rattle.old_book.proofs.ConstrainedLemmas.{constrained_renewed, constrained_unjudged}
use Rattle.old_book.proofs.MetaLemmas.{one_text}

-- ---- as if none had been judged

none_placed : (uploads : Numbered UploadRow) (place : ℕ) → find (is_placed place) (rows_of (unjudged_uploads uploads)) ≡ None
none_placed [] place = refl
none_placed (x ∷ uploads) place = none_placed uploads place

-- if no upload was judged there are no judgements
no_judgements : (t : Tables) (judged : List Judgement) → UploadsFit (unjudged t) judged → judged ≡ []
no_judgements t [] fit = refl
no_judgements t (j ∷ js) fit = absurd (let both : None ≡ Some (judged_row 1 j) = sym (none_placed t.uploads 1) ∙ fit.places 0 in cc)

listed : {X : Type 0} (t : Tables) (items : X → List Judgement) (o : Option X) → IfSome o (λ x. UploadsFit (unjudged t) (items x))
    → (o ≡ None → (judged : List Judgement) → UploadsFit (unjudged t) judged → ⊥) → (IsTrue (is_some o) ↔ UploadsFit (unjudged t) [])
listed t items None fit none = ((λ is. absurd (let both : false ≡ true = is in cc)), (λ wants. absurd (none refl [] wants)))
listed t items (Some x) fit none = ((λ _. subst (UploadsFit (unjudged t)) (no_judgements t (items x) fit) fit), (λ _. refl))

bodies_unjudged : (t : Tables) → BodiesFit t → BodiesFit (unjudged t)
unfolding bytes_of is_used
bodies_unjudged t h = record { whole = h.whole; pieces = h.pieces; used = h.used }

-- the answer about rows with other uploads is that about the rows as if none had been judged
pub listed_in : {X : Type 0} (t : Tables) (uploads : Numbered UploadRow) (items : X → List Judgement) (o : Option X) → uploads ≡ unjudged_uploads t.uploads
    → (AreConstrained (record t { uploads = uploads }) → BodiesFit (record t { uploads = uploads }) → IfSome o (λ x. UploadsFit (record t { uploads = uploads }) (items x)))
    → (AreConstrained (record t { uploads = uploads }) → BodiesFit (record t { uploads = uploads }) → o ≡ None → (judged : List Judgement) → UploadsFit (record t { uploads = uploads }) judged → ⊥)
    → AreConstrained t → BodiesFit t → (IsTrue (is_some o) ↔ UploadsFit (unjudged t) [])
listed_in t uploads items o is some none keys bodies =
    let same : record t { uploads = uploads } ≡ unjudged t = λ i. record t { uploads = is i } in
    let here = subst AreConstrained (sym same) (constrained_unjudged t keys) in
    let whole = subst BodiesFit (sym same) (bodies_unjudged t bodies) in
    listed t items o (subst (λ u. IfSome o (λ x. UploadsFit u (items x))) same (some here whole))
    (subst (λ u. o ≡ None → (judged : List Judgement) → UploadsFit u judged → ⊥) same (none here whole))

-- ---- the rows as those of an archive of today

pub rows_renewed : (t : Tables) (text : List ℕ) (meta : Numbered Meta) (wants : Numbered Want) → meta ≡ (first_number, record { version = VERSION; configuration = text }) ∷ []
    → wants ≡ without (λ w. has_judged t.uploads w.1.upload) t.wants → record t { meta = meta; wants = wants } ≡ with_meta_row text (settled t)
rows_renewed t text meta wants m w = λ i. record t { meta = m i; wants = w i }

-- the bodies of an archive are whole
pub bodies_kept : (t : Tables) (text : List ℕ) (config : ConfigValue) (judged : List Judgement) (shown : ShelvesValue) (dates : List ℕ)
    → IsBook (with_meta_row text (settled t)) config judged shown dates → BodiesFit t
unfolding bytes_of is_used
bodies_kept t text config judged shown dates kept = record { whole = kept.bodies.whole; pieces = kept.bodies.pieces; used = kept.bodies.used }

abbrev first_configuration : List Meta → List ℕ
first_configuration [] = []
first_configuration (r ∷ rs) = r.configuration

module _ (t : Tables) (text : List ℕ) (has : HasText t.meta text) (rows : Tables) (is : rows ≡ with_meta_row text (settled t)) where
  pub constrained_rows : AreConstrained t → AreConstrained rows
  constrained_rows keys = subst AreConstrained (sym is) (constrained_renewed t text keys)

  pub rising_rows : AreRising t → AreRising rows
  rising_rows up = subst AreRising (sym is) (record { bodies = up.bodies; uploads = up.uploads; items = up.items })

  -- an archive of these rows is an old one
  pub old_archive : (config : ConfigValue) (judged : List Judgement) (shown : ShelvesValue) (dates : List ℕ) → AreRising t → UploadsFit (unjudged t) [] → IsBook rows config judged shown dates
      → IsOldArchive t config judged shown dates × (rows ≡ with_meta_row config.text (settled t))
  old_archive config judged shown dates up wants here =
      let kept : IsBook (with_meta_row text (settled t)) config judged shown dates = subst (λ r. IsBook r config judged shown dates) is here in
      let same : text ≡ config.text = ap first_configuration kept.meta in (
        record {
          text = subst (HasText t.meta) same has;
          rising = up;
          listed = wants;
          kept = subst (λ x. IsBook (with_meta_row x (settled t)) config judged shown dates) same kept;
        },
        is ∙ ap (λ x. with_meta_row x (settled t)) same,
      )

  -- if these rows are no archive there is no old one
  pub no_old_archive : AreReadable t → (AreReadable rows → KeepsNone rows) → KeepsNoOld t
  no_old_archive readable none config judged shown dates old =
      let same : config.text ≡ text = one_text t.meta config.text text old.text has in
      none (subst AreReadable (sym is) readable) config judged shown dates
      (subst (λ r. IsBook r config judged shown dates) (sym is) (subst (λ x. IsBook (with_meta_row x (settled t)) config judged shown dates) same old.kept))
