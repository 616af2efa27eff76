use Rattle.suites.proofs.RecordTexts.{dsc-IsUtf8}
use Rattle.suites.proofs.items.source_item.Goals as goal

pub paragraph-requires : goal.paragraph-requires
paragraph-requires c = dsc-IsUtf8 _ _ c.requires
