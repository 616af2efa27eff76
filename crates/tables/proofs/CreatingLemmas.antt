-- The tables of an archive, one after another.
use Rattle.std.proofs.Common.{◌≡◌, ℕ, zero, suc, ◌+◌, ◌<◌, ◌≤◌, true, [], map, Ok, Err, refl, sym, ap, subst, arith}
use Rattle.sqlite.specs.Table.{Table}
use Rattle.sqlite.specs.Change.{created}
use Rattle.sqlite.specs.declared.error.Error.{Error}
use Rattle.sqlite.specs.State.{State, HasCleanDisk, KeepsCommit, ExecutesInside, Survives}
use Rattle.tables.specs.Schema.{no_schema, meta, bodies, pieces, arrivals, uploads, wants, items, refs, files, texts, dates}
use Rattle.tables.specs.Rows.{full_body, full_upload}
use Rattle.tables.specs.Others.{IsArchiveSchema}
use Rattle.tables.proofs.OtherLemmas.{alone}
use Rattle.tables.specs.Causes.{IsCaused}
use Rattle.tables.specs.Creating.{IsEmpty, Creates, schema_up_to, text_at}
use Rattle.tables.proofs.CreateLemmas.{Makes, creates}
use Rattle.tables.proofs.CreateMeaning.{meta_made, bodies_made, pieces_made, arrivals_made, uploads_made, wants_made, items_made, refs_made, files_made, texts_made, dates_made}
use Rattle.tables.proofs.AcceptMeaning.{meta_accepted, bodies_accepted, pieces_accepted, arrivals_accepted, uploads_accepted, wants_accepted, items_accepted, refs_accepted, files_accepted, texts_accepted, dates_accepted}
use Rattle.tables.proofs.CauseLemmas.{caused_later}
use Rattle.tables.proofs.RefusalLemmas.{IsAccepted, fails_inside}
use Rattle.tables.proofs.TransactionLemmas.{keeps_then}

-- the first tables are made, up to this number
pub record IsBuilding (count : ℕ) (old new : State) : Type 0 where
  pub made : old.now.schema ≡ no_schema → IsEmpty (schema_up_to count) new.now
  pub kept : KeepsCommit old new
  pub mode : new.in_transaction ≡ true

-- the text at a place makes the next table
record MakesNext (at : ℕ) : Type 0 where
  table : Table
  makes : Makes (schema_up_to at) (text_at at) table
  next : schema_up_to (at + 1) ≡ created (schema_up_to at) table
  accepted : IsAccepted (schema_up_to at) (text_at at) table

makes_next : (at : ℕ) → at < 11 → MakesNext at
makes_next zero h = record { table = meta; makes = meta_made; next = refl; accepted = meta_accepted }
makes_next (suc zero) h = record { table = bodies; makes = bodies_made; next = refl; accepted = bodies_accepted }
makes_next (suc (suc zero)) h = record { table = pieces; makes = pieces_made; next = refl; accepted = pieces_accepted }
makes_next (suc (suc (suc zero))) h = record { table = arrivals; makes = arrivals_made; next = refl; accepted = arrivals_accepted }
makes_next (suc (suc (suc (suc zero)))) h = record { table = uploads; makes = uploads_made; next = refl; accepted = uploads_accepted }
makes_next (suc (suc (suc (suc (suc zero))))) h = record { table = wants; makes = wants_made; next = refl; accepted = wants_accepted }
makes_next (suc (suc (suc (suc (suc (suc zero)))))) h = record { table = items; makes = items_made; next = refl; accepted = items_accepted }
makes_next (suc (suc (suc (suc (suc (suc (suc zero))))))) h = record { table = refs; makes = refs_made; next = refl; accepted = refs_accepted }
makes_next (suc (suc (suc (suc (suc (suc (suc (suc zero)))))))) h = record { table = files; makes = files_made; next = refl; accepted = files_accepted }
makes_next (suc (suc (suc (suc (suc (suc (suc (suc (suc zero))))))))) h = record { table = texts; makes = texts_made; next = refl; accepted = texts_accepted }
makes_next (suc (suc (suc (suc (suc (suc (suc (suc (suc (suc zero)))))))))) h = record { table = dates; makes = dates_made; next = refl; accepted = dates_accepted }
makes_next (suc (suc (suc (suc (suc (suc (suc (suc (suc (suc (suc n))))))))))) h = absurd (omega arith)

pub one_more : (at : ℕ) (begun old new : State) (count : ℕ) → at < 11 → IsBuilding at begun old → ExecutesInside 0 (text_at at) [] old new (Ok count) → IsBuilding (at + 1) begun new
one_more at begun old new count within was h =
    let step = makes_next at within in
    record {
      made = λ none. subst (λ schema. IsEmpty schema new.now) (sym step.next) (creates (schema_up_to at) (text_at at) step.table step.makes old new count (was.made none) h.0);
      kept = keeps_then begun old new was.kept (record { was_open = λ _. h.1.was_open; committed = λ _. h.1.committed_is });
      mode = h.1.mode;
    }

-- if the next table is not made, there is a cause
pub one_fails : (at : ℕ) (begun old new : State) (e : Error) → at < 11 → IsBuilding at begun old → begun.now.schema ≡ no_schema → Survives begun old (λ _. ⊥) → HasCleanDisk old → old.faults ≤ new.faults
    → ExecutesInside 0 (text_at at) [] old new (Err e) → IsCaused begun new e
one_fails at begun old new e within was none before clean up h =
    let step = makes_next at within in
    caused_later begun old new before clean e up (fails_inside (schema_up_to at) (text_at at) step.table step.makes step.accepted old new (was.made none).schema_is e h)

pub none_built : (s : State) → s.in_transaction ≡ true → IsBuilding 0 s s
none_built s inside = record { made = λ none. record { schema_is = none; empty = tt }; kept = record { was_open = λ up. up; committed = λ _. refl }; mode = inside }

pub all_built : (old new : State) → IsBuilding 11 old new → Creates old new
all_built old new b = record {
  held = λ none.
      let all = b.made none in
      let e = all.empty in
      record {
        schema = subst IsArchiveSchema (sym all.schema_is) alone;
        rows = record {
          meta = record { are = e.0; rise = tt };
          bodies = record { are = ap (map full_body) e.1.0; rise = tt };
          pieces = record { are = e.1.1.0; rise = tt };
          arrivals = record { are = e.1.1.1.0; rise = tt };
          uploads = record { are = ap (map full_upload) e.1.1.1.1.0; rise = tt };
          wants = record { are = e.1.1.1.1.1.0; rise = tt };
          items = record { are = e.1.1.1.1.1.1.0; rise = tt };
          refs = record { are = e.1.1.1.1.1.1.1.0; rise = tt };
          files = record { are = e.1.1.1.1.1.1.1.1.0; rise = tt };
          texts = record { are = e.1.1.1.1.1.1.1.1.1.0; rise = tt };
          dates = record { are = e.1.1.1.1.1.1.1.1.1.1.0; rise = tt };
        };
      };
  made = λ none. (b.made none).schema_is;
  kept = b.kept;
  mode = b.mode;
}
