use Rattle.std.proofs.Common.{ap, not, ◌||◌}
use Rattle.std.specs.List.{list_any}
use Rattle.std.specs.Str.{bytes_eq}
use Rattle.records.specs.Records.{dsc_in}
use Rattle.rules.specs.Judgement.{component, has_foreign_architecture, has_foreign_component}
use Rattle.rules.specs.Suites.{component_of, keeps_architecture, keeps_component}
use Rattle.suites.specs.Shelves.{pool}
use Rattle.suites.specs.Upload.{dsc_parts}
use Rattle.suites.specs.Verdict.{by_print, has_other_contents, is_missing_file, is_taken, lacks_source_file, match_ok}
use Rattle.reasons.proofs.Searches.{found_where}
use Rattle.reasons.proofs.laws.what_is_named_is_there.Goals as goal

pub returns-clause-architecture : goal.returns-clause-architecture
unfolding has_foreign_architecture
returns-clause-architecture g = λ c s. found_where (λ a. not (keeps_architecture s a)) c.architectures

pub returns-clause-component : goal.returns-clause-component
unfolding has_foreign_component
returns-clause-component g = λ c s. ap (λ b. b || not (keeps_component s (component c))) (found_where (λ e. not (bytes_eq (component_of e.section) (component c))) c.entries)

pub returns-clause-missing : goal.returns-clause-missing
unfolding lacks_source_file
returns-clause-missing g = λ shelves u i. list_any (λ part. match_ok (dsc_in part.1) (λ d. found_where (is_missing_file by_print (pool shelves) u.changes) d.entries i)) (dsc_parts u)

pub returns-clause-contents : goal.returns-clause-contents
unfolding has_other_contents
returns-clause-contents g = λ shelves u. found_where (is_taken by_print (pool shelves) u.changes) u.changes.entries
