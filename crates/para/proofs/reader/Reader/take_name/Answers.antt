use Rattle.std.proofs.Common.{◌∙◌, ℕ, List, not, ap}
use Rattle.para.specs.ReaderState.{AreLowered, state}
use Rattle.para.specs.Reading.{names_of}
use Rattle.para.proofs.Names.{found, lowered_as, lowered_if, none_named, one_more}
use Rattle.para.proofs.reader.Reader.take_name.Goals as goal
use Rattle.para.proofs.reader.Reader.take_name.Goals.{then-not-self+else-len-lt-FEW+in_ok-self, else-not-self}

pub returns-then-len-lt-FEW-clause-new : goal.returns-then-len-lt-FEW-clause-new
returns-then-len-lt-FEW-clause-new c =
    none_named c.args.self.now c.requires.ended (λ one. one.now) c.deref.result.now c.args.name.now c.find_named.result c.is_none.result c.deref.ensures.value c.find_named.ensures c.is_none.ensures

pub returns-clause-new : goal.returns-clause-new
returns-clause-new c =
    let names : List (List ℕ) = names_of (state c.args.self.now) in
    let lowered : AreLowered c.if-not-self.self.names names = elim c.if-not-self.branch [
      | then-not-self+else-len-lt-FEW+in_ok-self w ↦ lowered_as c.if-not-self.self _ names w.self-is (lowered_if c.args.self.now c.requires.ended w.in_ok-self.field-0 w.deref-then-not-self.result.now w.deref-then-not-self.ensures.value w.in_ok-self.ensures)
      | else-not-self w ↦ lowered_as c.if-not-self.self c.args.self.now names w.self-is (c.requires.names w.if-not-self.false)
    ] in
    c.in_ok-insert.ensures.added ∙ ap not (found c.if-not-self.self.names c.in_ok-lower_name.field-0 c.args.name.now names c.in_ok-lower_name.ensures lowered)

pub returns-clause-names : goal.returns-clause-names
returns-clause-names c new many =
    let names : List (List ℕ) = names_of (state c.args.self.now) in
    let lowered : AreLowered c.if-not-self.self.names names = elim c.if-not-self.branch [
      | then-not-self+else-len-lt-FEW+in_ok-self w ↦ lowered_as c.if-not-self.self _ names w.self-is (lowered_if c.args.self.now c.requires.ended w.in_ok-self.field-0 w.deref-then-not-self.result.now w.deref-then-not-self.ensures.value w.in_ok-self.ensures)
      | else-not-self w ↦ lowered_as c.if-not-self.self c.args.self.now names w.self-is (c.requires.names w.if-not-self.false)
    ] in
    one_more c.if-not-self.self.names c.insert.new.self c.in_ok-lower_name.field-0 c.args.name.now names c.in_ok-lower_name.ensures c.in_ok-insert.ensures.updates lowered
