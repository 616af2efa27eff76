use Rattle.suites.proofs.RecordTexts.{sidecar-IsUtf8}
use Rattle.suites.proofs.items.binary_item.Goals as goal

pub paragraph-requires : goal.paragraph-requires
paragraph-requires c = sidecar-IsUtf8 _ _ c.requires
