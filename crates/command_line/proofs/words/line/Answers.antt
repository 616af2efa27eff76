use Rattle.std.proofs.Common.{◌≡◌, ◌∙◌, Bor, List, map, ℕ, Option, Some, None, ap, ap₂, option_map, unwrap_or, refl, rules, sym, true}
use Rattle.std.proofs.lemmas.Result.{IfOk-weaker}
use Rattle.clap.specs.Words.{App, fault_of, is_simple, is_simple_and_free, subcommand_of}
use Rattle.clap.proofs.OnLiterals.{clap_on_literals}
use Rattle.usage.specs.Shape.{archive_app}
use Rattle.command_line.proofs.words.line.Goals as goal

is_simple_archive : is_simple archive_app ≡ true
unfolding clap_on_literals
is_simple_archive = refl

is_free_archive : is_simple_and_free archive_app ≡ true
unfolding clap_on_literals
is_free_archive = refl

paired : {A B C : Type 0} (f : C → A) (g : C → B) (o : Option C) (a : A) (b : B) → Some a ≡ option_map f o
    → Some b ≡ option_map (λ (p : A × B). p.1) (option_map {U = A × B} (λ c. (f c, g c)) o) → option_map {U = A × B} (λ c. (f c, g c)) o ≡ Some (a, b)
paired f g None a b name rows = search rules
paired f g (Some c) a b name rows =
    ap₂ (λ x y. Some (x, y)) (sym (ap (λ o. unwrap_or o a) name)) (sym (ap (λ o. unwrap_or o b) rows))

pub returns-in-Some-clause-said : goal.returns-in-Some-clause-said
returns-in-Some-clause-said c =
    let shape = c.in_ok-command.ensures.shape in
    let found = (c.in_ok-matches.ensures.matches (ap is_simple shape ∙ is_simple_archive)).1 in
    let here = paired _ _ _ _ _ c.in-Some.ensures.name c.in-Some.ensures.rows in
    rw (sym (ap (λ (a : App). subcommand_of a (map (λ (word : Bor (List ℕ)). word.now) c.args.words.now)) shape) ∙ sym found ∙ here) c.command_of.ensures

pub returns-in-Some-clause-taken : goal.returns-in-Some-clause-taken
returns-in-Some-clause-taken c =
    let shape = c.in_ok-command.ensures.shape in
    let none = c.in_ok-matches.ensures.kinds (ap is_simple_and_free shape ∙ is_free_archive) in
    IfOk-weaker c.command_of.result _ _
    (λ _ _. sym (ap (λ (a : App). fault_of a (map (λ (word : Bor (List ℕ)). word.now) c.args.words.now)) shape) ∙ none)
    c.command_of.ensures
