use Rattle.std.proofs.Common.{ℕ, List, Some, Bor, map, ap, ◌∙◌}
use Rattle.clap.proofs.WalkLemmas.{raw_values-rows}
use Rattle.clap.specs.Words.{found_of}
use Rattle.command_line.proofs.values.texts.Goals as goal

pub returns-in_ok-from_slice-in-Some : goal.returns-in_ok-from_slice-in-Some
returns-in_ok-from_slice-in-Some c =
    ap (λ (l : List (Bor (List ℕ))). Some (map (λ v. v.now) l)) c.in_ok-from_slice-in-Some.ensures.items ∙ c.in-Some.ensures ∙ raw_values-rows (found_of c.args.found.now) c.args.id.now

pub returns-in-None : goal.returns-in-None
returns-in-None c = c.in-None.ensures ∙ raw_values-rows (found_of c.args.found.now) c.args.id.now
