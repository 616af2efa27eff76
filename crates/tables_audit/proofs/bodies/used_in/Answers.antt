use Rattle.std.proofs.Common.{List, ℕ, ◌++◌, ap₂, subst, ◌∙◌}
use Rattle.std.specs.List.Sorted.{IsPermutation}
use Rattle.std.proofs.lemmas.List.Sorted.{IsNonDecreasingBy-from_sort}
use Rattle.tables_audit.proofs.bodies.used_in.Goals as goal

pub returns : goal.returns
returns c =
    let numbers = c.sort_unstable.new.self.items in
    record {
      rise = IsNonDecreasingBy-from_sort (λ n. n) numbers c.sort_unstable.ensures.sorted;
      are = subst (λ (l : List ℕ). IsPermutation l numbers)
          (c.in_ok-extend_from_slice.ensures.items ∙ ap₂ ◌++◌ c.in_ok-numbers.ensures (c.deref.ensures.value ∙ c.in_ok-filed.ensures)) c.sort_unstable.ensures.permutation;
    }
