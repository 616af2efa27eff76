use Rattle.std.proofs.Common.{◌≡◌, ◌==◌, not, ℕ, take, ◌+◌, List, [], ◌∷◌, ◌++◌, map, Some, None, length, if◌then◌else◌, sym, ap, subst, ◌∙◌}
use Rattle.std.specs.String.{string_bytes}
use Rattle.std.proofs.lemmas.Grind.{fold-append}
use Rattle.std.proofs.lemmas.List.{map-append, take_more}
use Rattle.suites.specs.Plan.{after_copy, shelves_of}
use Rattle.suites.specs.Shelves.{ShelvesValue}
use Rattle.suites.specs.Told.{AreTold}
use Rattle.suites.specs.declared.key.ShelfKey.{ShelfKey}
use Rattle.history.specs.Commands.{copy_of}
use Rattle.history.specs.Copies.{shows_source}
use Rattle.history.specs.Promotions.{AreCopied, IsCopyStep, after_copies, copies_on, items_put}
use Rattle.history.specs.declared.command.SourceCopy.{SourceCopy}
use Rattle.history.proofs.PromotionGroups.{group_stays, shown_by_shelves}
use Rattle.history.proofs.PromotionSteps.{copied-push, copies-push}
use Rattle.history.proofs.promotion.copied_steps.Goals as goal

pub copy_step-requires-clause-keys : goal.copy_step-requires-clause-keys
copy_step-requires-clause-keys c =
    c.group_of-keys.ensures ∙ c.requires.groups c.as_str-name.result.now ∙ sym (c.loop-source.invariant.same c.as_str-name.result.now)

pub loop-source-preserved : goal.loop-source-preserved
loop-source-preserved c =
    let config = c.args.config.now in
    let from = c.args.from in
    let to = c.args.to in
    let before = c.args.shelves.now in
    let i = c.loop-source.source-index in
    let taken = take i c.args.sources.now in
    let ss = map string_bytes taken in
    let source = c.source-item.result in
    let s = string_bytes source in
    let steps = c.loop-source.steps.items in
    let step = c.in_ok-step.step in
    let now = after_copies config from to before ss in
    let is_now : c.loop-source.shelves ≡ now = c.loop-source.invariant.shelves in
    let named : c.as_str-name.result.now ≡ s = c.as_str-name.ensures.value in
    let more : map string_bytes (take (i + 1) c.args.sources.now) ≡ ss ++ s ∷ [] =
    ap (map string_bytes) (take_more c.args.sources.now i source c.loop-source-test.true ∙ ap (λ x. taken ++ x ∷ []) (sym c.source-item.is))
    ∙ map-append string_bytes taken (source ∷ []) in
    let is_step : IsCopyStep config now from to s step =
    subst (λ m. IsCopyStep config m from to s step) is_now (subst (λ n. IsCopyStep config c.loop-source.shelves from to n step) named c.in_ok-step.ensures.step) in
    let pushed : after_copies config from to before (ss ++ s ∷ []) ≡ after_copy config now from to s =
    fold-append (λ (m : ShelvesValue) (n : List ℕ). after_copy config m from to n) before ss (s ∷ []) in
    let after : after_copy config c.loop-source.shelves from to c.as_str-name.result.now ≡ after_copies config from to before (map string_bytes (take (i + 1) c.args.sources.now)) =
    (λ k. after_copy config (is_now k) from to (named k)) ∙ sym pushed ∙ ap (after_copies config from to before) (sym more) in
    let keys_are : c.group_of-keys.result.now ≡ shelves_of c.loop-source.shelves from c.as_str-name.result.now =
    c.group_of-keys.ensures ∙ c.requires.groups c.as_str-name.result.now ∙ sym (c.loop-source.invariant.same c.as_str-name.result.now) in
    let shown : c.is_any-is_shown.result ≡ shows_source now from s =
    c.is_any-is_shown.ensures ∙ ap (λ (keys : List ShelfKey). not (length keys == 0)) keys_are ∙ shown_by_shelves c.loop-source.shelves from c.as_str-name.result.now
    ∙ (λ k. shows_source (is_now k) from (named k)) in
    let items : c.items_of-items.result ≡ items_put now from s step =
    c.items_of-items.ensures ∙ ap (λ b. if b then Some (length step.plan.put) else None) shown in
    let text : string_bytes c.in_ok-from_str.field-0 ≡ s = c.in_ok-from_str.ensures.ok ∙ named in
    let copy : SourceCopy = record { source = c.in_ok-from_str.field-0; items = c.items_of-items.result } in
    record {
      copied = subst (λ names. AreCopied config from to before names c.push-in-loop-source.new.self.items) (sym more)
          (subst (AreCopied config from to before (ss ++ s ∷ [])) (sym c.in_ok-push-2.ensures.items)
          (copied-push config from to before ss steps s step c.loop-source.invariant.copied is_step));
      copies = ap (map copy_of) c.in_ok-push.ensures.items
          ∙ map-append copy_of c.loop-source.copies.items (copy ∷ [])
          ∙ (λ k. c.loop-source.invariant.copies k ++ (text k, items k) ∷ [])
          ∙ sym (copies-push config from to before ss steps s step c.loop-source.invariant.copied)
          ∙ ap (copies_on config from to before (ss ++ s ∷ [])) (sym c.in_ok-push-2.ensures.items)
          ∙ ap (λ names. copies_on config from to before names c.push-in-loop-source.new.self.items) (sym more);
      shelves = c.in_ok-step.ensures.shelves ∙ after;
      same = λ q. ap (λ (m : ShelvesValue). shelves_of m from q) c.in_ok-step.ensures.shelves
          ∙ group_stays config c.loop-source.shelves from to c.as_str-name.result.now q c.requires.other
          ∙ c.loop-source.invariant.same q;
      told = λ told. subst (AreTold config.suites) after
          (c.in_ok-step.ensures.told (subst (AreTold config.suites) (sym is_now) (c.loop-source.invariant.told told)));
    }
