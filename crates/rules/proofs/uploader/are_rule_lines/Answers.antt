use Rattle.std.proofs.Common.{rules, sym, ◌∙◌, ℕ, List, Bor}
use Rattle.std.proofs.lemmas.Iterator.{YieldsList-from_slice}
use Rattle.std.proofs.lemmas.Iterator.Search.{all_from_yields_List}
use Rattle.std.proofs.lemmas.List.Folds.{list_all-map}
use Rattle.rules.specs.Uploaders.{is_rule_line}
use Rattle.rules.proofs.uploader.are_rule_lines.Goals as goal

pub returns : goal.returns
returns c =
    all_from_yields_List (λ (w : Bor (List ℕ)). is_rule_line w.now) _ _ _ c.all.ensures.ran
    (YieldsList-from_slice c.args.lines.now c.iter.ensures.rest) (λ x b q k. search rules)
    ∙ sym (list_all-map is_rule_line (λ (w : Bor (List ℕ)). w.now) c.args.lines.now)
