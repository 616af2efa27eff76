use Rattle.std.proofs.Common.{rules, sym, ◌∙◌, ℕ, List, Bor}
use Rattle.std.proofs.lemmas.Iterator.{YieldsList-from_slice}
use Rattle.std.proofs.lemmas.Iterator.Search.{all_from_yields_List}
use Rattle.std.proofs.lemmas.List.Folds.{list_all-map}
use Rattle.rules.specs.Paragraphs.{is_listed_architecture}
use Rattle.rules.proofs.names.are_listed_architectures.Goals as goal

pub returns : goal.returns
returns c =
    all_from_yields_List (λ (w : Bor (List ℕ)). is_listed_architecture w.now) _ _ _ c.all.ensures.ran
    (YieldsList-from_slice c.args.words.now c.iter.ensures.rest) (λ x b q k. search rules)
    ∙ sym (list_all-map is_listed_architecture (λ (w : Bor (List ℕ)). w.now) c.args.words.now)
