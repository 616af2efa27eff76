use Rattle.std.proofs.Common.{◌∙◌, map, take, subst, ap}
use Rattle.std.proofs.lemmas.List.{take_all}
use Rattle.para.specs.declared.field.Field.{Field}
use Rattle.para.specs.ReaderState.{AreLowered}
use Rattle.para.proofs.Names.{one_more, names_more, names_seen}
use Rattle.para.proofs.reader.lower_names.Goals as goal

pub loop-field-preserved : goal.loop-field-preserved
loop-field-preserved c =
    subst (AreLowered c.insert.new.self) (names_more c.args.fields.now c.loop-field.field-index c.field-item.result c.loop-field-test.true c.field-item.is)
    (one_more c.loop-field.names c.insert.new.self c.in_ok-lower_name.field-0 c.field-item.result.name.now (map (λ (f : Field). f.name.now) (take c.loop-field.field-index c.args.fields.now))
    c.in_ok-lower_name.ensures c.in_ok-insert.ensures.updates c.loop-field.invariant)

pub returns : goal.returns
returns c =
    subst (AreLowered c.loop-field.names) (ap (map (λ (f : Field). f.name.now)) (take_all c.loop-field.field-index c.args.fields.now c.loop-field-test.false) ∙ names_seen c.args.fields.now)
    c.loop-field.invariant
