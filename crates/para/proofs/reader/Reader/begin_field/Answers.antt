use Rattle.std.proofs.Common.{◌≡◌, ℕ, true, List, Option, Some, None, sym, ◌∙◌, ap, subst}
use Rattle.std.specs.List.{list_any}
use Rattle.std.specs.Option.{MatchOption}
use Rattle.para.specs.Bytes.{Line, is_name, is_colon, name_part}
use Rattle.para.specs.Reading.{names_of}
use Rattle.para.specs.ReaderState.{state}
use Rattle.para.proofs.Lines.{not_false, not_true}
use Rattle.para.proofs.LineKinds.{is_taken, fault-colon, fault-twice, fault-none}
use Rattle.para.proofs.reader.Reader.begin_field.Goals as goal

at_some : {X : Type 0} (o : Option X) (P : Type 0) (Q : X → Type 0) (x : X) → o ≡ Some x → MatchOption o P Q → Q x
at_some None P Q x e h = absurd (cc)
at_some (Some y) P Q x e h = let k : y ≡ x = cc in subst Q k h

at_none : {X : Type 0} (o : Option X) (P : Type 0) (Q : X → Type 0) → o ≡ None → MatchOption o P Q → P
at_none None P Q e h = h
at_none (Some y) P Q e h = absurd (cc)

pub returns-in_default-clause-judged : goal.returns-in_default-clause-judged
returns-in_default-clause-judged c =
    let line : Line = c.args.line.now in
    let name : is_name (name_part line) ≡ true = ap is_name (sym c.split_name.ensures.name) ∙ sym c.is_name.ensures ∙ c.if-not-is_name.false in
    fault-colon (names_of (state c.args.self.now)) c.args.number line (record { allowed = c.requires.allowed; filled = c.requires.filled; begins = c.requires.begins }) name
    (at_none c.split_name.result.1 _ _ c.in_default.is c.split_name.ensures.value)

pub returns-then-not-is_new-clause-judged : goal.returns-then-not-is_new-clause-judged
returns-then-not-is_new-clause-judged c =
    let line : Line = c.args.line.now in
    let name : is_name (name_part line) ≡ true = ap is_name (sym c.split_name.ensures.name) ∙ sym c.is_name.ensures ∙ c.if-not-is_name.false in
    let colon : list_any is_colon line ≡ true = (at_some c.split_name.result.1 _ _ c.in-Some.value c.in-Some.is c.split_name.ensures.value).0 in
    let names : List (List ℕ) = names_of (state c.args.self.now) in
    fault-twice names c.args.number line (record { allowed = c.requires.allowed; filled = c.requires.filled; begins = c.requires.begins }) name colon
    (ap (is_taken names) (sym c.split_name.ensures.name) ∙ ap (λ s. is_taken (names_of s) c.split_name.result.0.now) (sym c.in_ok-end_field.ensures.ok) ∙ not_false _ (sym c.in_ok-is_new.ensures.new ∙ c.if-not-is_new.true))

pub returns-clause-judged : goal.returns-clause-judged
returns-clause-judged c =
    let line : Line = c.args.line.now in
    let name : is_name (name_part line) ≡ true = ap is_name (sym c.split_name.ensures.name) ∙ sym c.is_name.ensures ∙ c.if-not-is_name.false in
    let colon : list_any is_colon line ≡ true = (at_some c.split_name.result.1 _ _ c.in-Some.value c.in-Some.is c.split_name.ensures.value).0 in
    let names : List (List ℕ) = names_of (state c.args.self.now) in
    fault-none names c.args.number line (record { allowed = c.requires.allowed; filled = c.requires.filled; begins = c.requires.begins }) name colon
    (ap (is_taken names) (sym c.split_name.ensures.name) ∙ ap (λ s. is_taken (names_of s) c.split_name.result.0.now) (sym c.in_ok-end_field.ensures.ok) ∙ not_true _ (sym c.in_ok-is_new.ensures.new ∙ c.if-not-is_new.false))
