use Rattle.std.proofs.Common.{◌≡◌, ℕ, List, Bor, take, true}
use Rattle.std.specs.BTreeSet.{contains_by}
use Rattle.std.specs.Ordering.{nat_cmp}
use Rattle.std.specs.Cmp.Lexicographic.{slice_cmp}
use Rattle.records.specs.Records.{are_different, is_among}
use Rattle.records.proofs.Different.{texts}
use Rattle.records.proofs.parts.all_differ.Given as goal

-- The set has the words before this one, and these differ.
abbrev pub invariant-loop-word : goal.invariant-loop-word
invariant-loop-word l = record {
  seen : (q : Bor (List ℕ)) → contains_by (λ k. slice_cmp nat_cmp q.now k.now) l.seen ≡ is_among (texts (take l.word-index l.words)) q.now;
  different : are_different (texts (take l.word-index l.words)) ≡ true;
}
