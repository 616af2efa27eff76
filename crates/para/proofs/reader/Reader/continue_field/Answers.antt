use Rattle.std.proofs.Common.{◌≡◌, true, List, [], Option, Some, None, map, ap}
use Rattle.std.specs.Option.{MatchOption, option_map}
use Rattle.para.specs.Bytes.{is_nil, has_content}
use Rattle.para.specs.Field.{FieldValue, field_value}
use Rattle.para.specs.Reading.{ended, names_of}
use Rattle.para.specs.ReaderState.{state}
use Rattle.para.proofs.LineKinds.{fault-field}
use Rattle.para.proofs.reader.Reader.continue_field.Goals as goal

no_names : (fields : List FieldValue) (current : Option FieldValue) → MatchOption current (fields ≡ []) (λ _. Unit {0}) → current ≡ None → is_nil (map (λ f. f.name) (ended fields current)) ≡ true
no_names fields None h e = ap (λ fs. is_nil (map (λ (f : FieldValue). f.name) fs)) h
no_names fields (Some f) h e = absurd (cc)

pub returns-in-None-clause-judged : goal.returns-in-None-clause-judged
returns-in-None-clause-judged c =
    let content : has_content c.args.line.now ≡ true = cc in
    fault-field (names_of (state c.args.self.now)) c.args.number c.args.line.now c.requires.allowed c.requires.goes_on content (no_names (state c.args.self.now).fields (state c.args.self.now).current c.requires.started (ap (option_map field_value) c.in-None.is))
