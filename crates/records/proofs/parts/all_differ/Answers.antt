-- A word is new to the set if and only if none before it is the same.
use Rattle.std.proofs.Common.{◌≡◌, ◌||◌, not, refl, sym, ap, ◌∙◌, ℕ, ◌+◌, Bool, true, false, cond, List, [], take, get_or, Bor, arith}
use Rattle.std.specs.BTreeMap.{is_at}
use Rattle.std.specs.Cmp.Lexicographic.{slice_cmp}
use Rattle.std.specs.List.{list_any}
use Rattle.std.specs.Ordering.{nat_cmp}
use Rattle.std.specs.Str.{bytes_eq}
use Rattle.std.proofs.lemmas.Bool.{not-false, not-true, and_from, and_right}
use Rattle.std.proofs.lemmas.Map.Text.{is_eq-slice_cmp}
use Rattle.records.specs.Records.{is_among}
use Rattle.records.proofs.Different.{texts, seen_more, different_more, twice_before_end}
use Rattle.records.proofs.parts.all_differ.Goals as goal

cond_or : (b x : Bool) → cond b true x ≡ (b || x)
cond_or true x = refl
cond_or false x = refl

seen_or_same : (a b x y : Bool) → a ≡ b → x ≡ y → cond a true x ≡ (b || y)
seen_or_same a b x y p q = cond_or a x ∙ ap (λ t. t || x) p ∙ ap (λ t. b || t) q

pub loop-word-init : goal.loop-word-init
loop-word-init c = record {
  seen = λ q. ap (λ (ks : List (Bor (List ℕ))). list_any (is_at (λ k. slice_cmp nat_cmp q.now k.now)) ks) c.new-seen.ensures.empty;
  different = refl;
}

pub returns-then-not-branch : goal.returns-then-not-branch
returns-then-not-branch c =
    let word : Bor (List ℕ) = get_or c.args.words.now c.loop-word.word-index (record { ref_ptr = (0, 0); now = [] }) in
    let seen : is_among (texts (take c.loop-word.word-index c.args.words.now)) word.now ≡ true =
    sym (c.loop-word.invariant.seen word) ∙ not-false _ (sym c.in_ok-insert.ensures.added ∙ c.if-not-branch.true) in
    sym (twice_before_end c.args.words.now (c.loop-word.word-index + 1)
    (different_more c.args.words.now c.loop-word.word-index _ (omega arith) ∙ and_right _ _ (ap not seen)))

pub loop-word-preserved : goal.loop-word-preserved
loop-word-preserved c =
    let word : Bor (List ℕ) = get_or c.args.words.now c.loop-word.word-index (record { ref_ptr = (0, 0); now = [] }) in
    let new : is_among (texts (take c.loop-word.word-index c.args.words.now)) word.now ≡ false =
    sym (c.loop-word.invariant.seen word) ∙ not-true _ (sym c.in_ok-insert.ensures.added ∙ c.if-not-branch.false) in
    record {
      seen = λ q. c.in_ok-insert.ensures.updates.0 q
          ∙ seen_or_same _ (bytes_eq word.now q.now) _ _ (is_eq-slice_cmp word.now q.now) (c.loop-word.invariant.seen q)
          ∙ sym (seen_more c.args.words.now c.loop-word.word-index _ q.now (omega arith));
      different = different_more c.args.words.now c.loop-word.word-index _ (omega arith)
          ∙ and_from _ _ c.loop-word.invariant.different (ap not new);
    }
