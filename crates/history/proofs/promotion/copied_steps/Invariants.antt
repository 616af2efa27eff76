use Rattle.std.proofs.Common.{◌≡◌, ℕ, List, map, take}
use Rattle.std.specs.String.{string_bytes}
use Rattle.suites.specs.Plan.{shelves_of}
use Rattle.suites.specs.Told.{AreTold}
use Rattle.history.specs.Commands.{copy_of}
use Rattle.history.specs.Promotions.{AreCopied, after_copies, copies_on}
use Rattle.history.proofs.promotion.copied_steps.Given as goal

abbrev pub invariant-loop-source : goal.invariant-loop-source
invariant-loop-source l =
    record {
      copied : AreCopied l.config l.from l.to l.initial.shelves (map string_bytes (take l.source-index l.sources)) l.steps.items;
      copies : map copy_of l.copies.items ≡ copies_on l.config l.from l.to l.initial.shelves (map string_bytes (take l.source-index l.sources)) l.steps.items;
      shelves : l.shelves ≡ after_copies l.config l.from l.to l.initial.shelves (map string_bytes (take l.source-index l.sources));
      same : (q : List ℕ) → shelves_of l.shelves l.from q ≡ shelves_of l.initial.shelves l.from q;
      told : AreTold l.config.suites l.initial.shelves → AreTold l.config.suites (after_copies l.config l.from l.to l.initial.shelves (map string_bytes (take l.source-index l.sources)));
    }
