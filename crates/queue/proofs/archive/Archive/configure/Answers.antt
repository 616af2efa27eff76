use Rattle.std.proofs.Common.{◌≡◌, true, Some, inl, inr, refl, sym, ap, subst, ◌∙◌}
use Rattle.std.specs.FinMap.{values}
use Rattle.rules.specs.Configuration.{ClaimApart}
use Rattle.rules.specs.Values.{ConfigValue}
use Rattle.rules.proofs.Apart.{claim_apart}
use Rattle.suites.specs.Pool.{AreAgreed, files_of}
use Rattle.book.specs.Book.{Book}
use Rattle.book.specs.Configured.{configured, keeps_shown}
use Rattle.history.specs.Archives.{book_of}
use Rattle.history.proofs.ConfiguredLemmas.{config_of, configured_stands, made_book}
use Rattle.queue.proofs.archive.Archive.configure.Goals as goal

pub returns-in_err-configure-clause-crash : goal.returns-in_err-configure-clause-crash
returns-in_err-configure-clause-crash g c h kept clean left may =
    let next = c.in_ok-next.ensures in
    let clean_then = c.in_err-configure.ensures.endures.clean clean in
    let old = g.K.Keeper.book c.args.self.now.keeper in
    elim (c.in_err-configure.ensures.crash clean left may) [
      | inl before ↦ inl (next.reads.crash clean_then left before)
      | inr made ↦
          let was : old ≡ book_of h = kept.stands (next.reads.lasts.was_open clean_then made.0) in
          let sound = next.sound clean_then in
          inr (
            ap (keeps_shown c.args.config) (sym was) ∙ sound.kept,
            made.1 ∙ ap Some (made_book c.args.config c.in_ok-next.next.config c.args.moment old (g.K.Keeper.book c.configured.new.keeper) _ c.in_ok-next.next.shelves c.in_ok-next.next.dates.items
                refl (next.reads.same clean_then made.0) next.config sound.moved (next.dates clean_then) ∙ ap (configured c.args.config c.args.moment) was),
          )
    ]

pub returns-clause-book : goal.returns-clause-book
returns-clause-book g c clean =
    let next = c.in_ok-next.ensures in
    let done = c.in_ok-configure.ensures in
    let clean_then = done.endures.clean clean in
    let up_then = done.endures.was_open clean (done.served clean) in
    made_book c.args.config c.in_ok-next.next.config c.args.moment (g.K.Keeper.book c.args.self.now.keeper) (g.K.Keeper.book c.configured.new.keeper) _ c.in_ok-next.next.shelves c.in_ok-next.next.dates.items
    (done.ok clean) (next.reads.same clean_then up_then) next.config (next.sound clean_then).moved (next.dates clean_then)

pub returns-clause-step : goal.returns-clause-step
returns-clause-step g c h kept clean =
    let next = c.in_ok-next.ensures in
    let done = c.in_ok-configure.ensures in
    let clean_then = done.endures.clean clean in
    let up_then = done.endures.was_open clean (done.served clean) in
    let old = g.K.Keeper.book c.args.self.now.keeper in
    let was : old ≡ book_of h = kept.stands (next.reads.lasts.was_open clean_then up_then) in
    let stay : keeps_shown c.args.config (book_of h) ≡ true = ap (keeps_shown c.args.config) (sym was) ∙ (next.sound clean_then).kept in
    let agreed : AreAgreed (files_of (values (book_of h).shown)) = subst (λ (b : Book). AreAgreed (files_of (values b.shown))) was (next.agreed clean_then) in
    let read : ClaimApart c.config.result.now.suites = claim_apart c.config.result.now.text c.config.result.now c.text.ensures.read in
    let apart : ClaimApart (book_of h).config.suites = subst (λ (x : ConfigValue). ClaimApart x.suites) (c.config.ensures ∙ ap (λ (b : Book). b.config) was) read in
    let book = made_book c.args.config c.in_ok-next.next.config c.args.moment old (g.K.Keeper.book c.configured.new.keeper) _ c.in_ok-next.next.shelves c.in_ok-next.next.dates.items
    (done.ok clean) (next.reads.same clean_then up_then) next.config (next.sound clean_then).moved (next.dates clean_then) in
    let stands = book ∙ ap (configured c.args.config c.args.moment) was ∙ configured_stands c.args.config c.args.moment h apart stay agreed in (
      stay,
      record { config = done.given ∙ next.config ∙ config_of c.args.config c.args.moment h; stands = λ _. stands },
    )

pub returns-clause-crash : goal.returns-clause-crash
returns-clause-crash g c h kept clean left may =
    let next = c.in_ok-next.ensures in
    let clean_then = c.in_ok-configure.ensures.endures.clean clean in
    let old = g.K.Keeper.book c.args.self.now.keeper in
    elim (c.in_ok-configure.ensures.crash clean left may) [
      | inl before ↦ inl (next.reads.crash clean_then left before)
      | inr made ↦
          let was : old ≡ book_of h = kept.stands (next.reads.lasts.was_open clean_then made.0) in
          let sound = next.sound clean_then in
          inr (
            ap (keeps_shown c.args.config) (sym was) ∙ sound.kept,
            made.1 ∙ ap Some (made_book c.args.config c.in_ok-next.next.config c.args.moment old (g.K.Keeper.book c.configured.new.keeper) _ c.in_ok-next.next.shelves c.in_ok-next.next.dates.items
                refl (next.reads.same clean_then made.0) next.config sound.moved (next.dates clean_then) ∙ ap (configured c.args.config c.args.moment) was),
          )
    ]
