use Rattle.std.proofs.Common.{IsTrue, subst, ◌∙◌}
use Rattle.tables.specs.Others.{IsArchiveSchema}
use Rattle.tables_audit.proofs.schema.is_archive_schema.Goals as goal

pub has_tables_first-requires : goal.has_tables_first-requires
has_tables_first-requires g c = c.schema.ensures.value ∙ c.in_ok-archive.ensures.ok

pub returns-clause-ok : goal.returns-clause-ok
returns-clause-ok g c =
    subst (λ s. (IsTrue c.has_tables_first.result → IsArchiveSchema s) × (IsArchiveSchema s → IsTrue c.has_tables_first.result)) c.schema-2.ensures.value c.has_tables_first.ensures
