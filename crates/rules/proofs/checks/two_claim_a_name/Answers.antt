use Rattle.std.proofs.Common.{◌≡◌, ◌||◌, sym, ap, ◌∙◌, ℕ, ◌+◌, true, false, refl, List, take, get_or, Bor, arith}
use Rattle.std.specs.BTreeMap.{is_at}
use Rattle.std.specs.Cmp.Lexicographic.{slice_cmp}
use Rattle.std.specs.List.{list_any}
use Rattle.std.specs.Ordering.{nat_cmp}
use Rattle.para.specs.Fields.{Fields}
use Rattle.records.specs.Records.{is_among}
use Rattle.rules.specs.Paragraphs.{names_claimed}
use Rattle.rules.proofs.Claims.{all_names, again_from, again_step, among_more}
use Rattle.records.proofs.Different.{texts}
use Rattle.rules.proofs.checks.two_claim_a_name.Goals as goal

pub loop-paragraph-init : goal.loop-paragraph-init
loop-paragraph-init c = record {
  claimed = λ q. ap (λ (ks : List (Bor (List ℕ))). list_any (is_at (λ (k : Bor (List ℕ)). slice_cmp nat_cmp q k.now)) ks) c.new-claimed.ensures.empty;
  again = refl;
}

pub returns-then-is_any_claimed-clause-found : goal.returns-then-is_any_claimed-clause-found
returns-then-is_any_claimed-clause-found c =
    let ps : List Fields = c.args.paragraphs.now in
    let i : ℕ = c.loop-paragraph.paragraph-index in
    let d : Fields = c.paragraph-item.result in
    let names : texts c.deref.result.now ≡ names_claimed (get_or c.args.paragraphs.now c.loop-paragraph.paragraph-index c.paragraph-item.result) =
    ap texts c.deref.ensures.value ∙ c.in_ok-names.ensures.found ∙ ap names_claimed c.paragraph-item.is in
    let twice : list_any (is_among (all_names (take c.loop-paragraph.paragraph-index c.args.paragraphs.now))) (names_claimed (get_or c.args.paragraphs.now c.loop-paragraph.paragraph-index c.paragraph-item.result)) ≡ true =
    (λ k. list_any (λ q. sym (c.loop-paragraph.invariant.claimed q) k) (sym names k)) ∙ sym c.is_any_claimed.ensures ∙ c.if-is_any_claimed.true in
    sym (sym c.loop-paragraph.invariant.again ∙ again_step ps i d (omega arith) ∙ ap (λ b. b || again_from ps (i + 1)) twice)

pub loop-paragraph-preserved : goal.loop-paragraph-preserved
loop-paragraph-preserved c =
    let ps : List Fields = c.args.paragraphs.now in
    let i : ℕ = c.loop-paragraph.paragraph-index in
    let d : Fields = c.paragraph-item.result in
    let names : texts c.deref.result.now ≡ names_claimed (get_or c.args.paragraphs.now c.loop-paragraph.paragraph-index c.paragraph-item.result) =
    ap texts c.deref.ensures.value ∙ c.in_ok-names.ensures.found ∙ ap names_claimed c.paragraph-item.is in
    let added : texts c.deref-in-loop-paragraph.result.now ≡ names_claimed (get_or c.args.paragraphs.now c.loop-paragraph.paragraph-index c.paragraph-item.result) =
    ap texts c.deref-in-loop-paragraph.ensures.value ∙ c.in_ok-names.ensures.found ∙ ap names_claimed c.paragraph-item.is in
    let new : list_any (is_among (all_names (take c.loop-paragraph.paragraph-index c.args.paragraphs.now))) (names_claimed (get_or c.args.paragraphs.now c.loop-paragraph.paragraph-index c.paragraph-item.result)) ≡ false =
    (λ k. list_any (λ q. sym (c.loop-paragraph.invariant.claimed q) k) (sym names k)) ∙ sym c.is_any_claimed.ensures ∙ c.if-is_any_claimed.false in
    record {
      claimed = λ q. c.in_ok-claim_all.ensures q ∙ (λ k. c.loop-paragraph.invariant.claimed q k || is_among (added k) q) ∙ sym (among_more ps i d q (omega arith));
      again = sym (again_step ps i d (omega arith) ∙ ap (λ b. b || again_from ps (i + 1)) new) ∙ c.loop-paragraph.invariant.again;
    }
