use Rattle.std.proofs.Common.{◌≡◌, List, ◌∷◌, ◌++◌, ap, ◌∙◌}
use Rattle.book.specs.Book.{Book, waiting_list, arrived_in}
use Rattle.book.specs.declared.arrived.ArrivedFile.{ArrivedFile}
use Rattle.book.specs.declared.change.Judgement.{Judgement}
use Rattle.book.specs.declared.change.Waiting.{Waiting}
use Rattle.suites.specs.Shelves.{ShelvesValue}
use Rattle.figures.specs.Families.{families, family, kept_families, lone, suites_families, uploads_families}
use Rattle.figures.specs.declared.family.Family.{Family}
use Rattle.figures.specs.declared.family.Figure.TheVariants as figure
use Rattle.figures.proofs.reading.families_of.Goals as goal

pub returns-clause-families : goal.returns-clause-families
unfolding families
returns-clause-families g c = λ clean bodies apart has.
    let k = g.K.Keeper in
    let book = k.book c.args.keeper.now in
    -- each call before a clean one was clean
    let clean_shelves = c.hold.ensures.reads.lasts.clean clean in
    let clean_judged = c.in_ok-shelves.ensures.reads.lasts.clean clean_shelves in
    let clean_arrived = c.in_ok-judged.ensures.reads.lasts.clean clean_judged in
    let clean_waiting = c.in_ok-arrived.ensures.reads.lasts.clean clean_arrived in
    -- and left the book
    let after_waiting : k.book c.waiting.new.self ≡ book = c.in_ok-waiting.ensures.reads.same clean_waiting (c.in_ok-waiting.ensures.served clean_waiting) in
    let after_arrived : k.book c.arrivals.new.self ≡ book = c.in_ok-arrived.ensures.reads.same clean_arrived (c.in_ok-arrived.ensures.served clean_arrived) ∙ after_waiting in
    let after_judged : k.book c.verdicts.new.self ≡ book = c.in_ok-judged.ensures.reads.same clean_judged (c.in_ok-judged.ensures.served clean_judged) ∙ after_arrived in
    let after_shelves : k.book c.shelves.new.self ≡ book = c.in_ok-shelves.ensures.reads.same clean_shelves (c.in_ok-shelves.ensures.served clean_shelves) ∙ after_judged in
    -- so each answered for it
    let waiting : c.in_ok-waiting.waiting.items ≡ waiting_list c.args.moment book = c.in_ok-waiting.ensures.waiting clean_waiting bodies apart has in
    let arrived : c.in_ok-arrived.arrived.items ≡ arrived_in book = c.in_ok-arrived.ensures.arrivals clean_arrived ∙ ap (λ (b : Book). arrived_in b) after_waiting in
    let judged : c.in_ok-judged.judged.items ≡ book.judged = c.in_ok-judged.ensures.verdicts clean_judged ∙ ap (λ (b : Book). b.judged) after_arrived in
    let shelves : c.in_ok-shelves.shelves ≡ book.shown = c.in_ok-shelves.ensures.shelves clean_shelves ∙ ap (λ (b : Book). b.shown) after_judged in
    let first : List Waiting → List ArrivedFile → List Judgement → List Family = λ w a j. family figure.Moment (lone c.args.moment) ∷ uploads_families w a j in
    let rest : Book → ShelvesValue → List ArrivedFile → List Family = λ b s a. suites_families b.config.suites b.dates s ++ kept_families a s in
    let here = k.book c.shelves.new.self in
    c.in_ok-pushed.ensures
    ∙ ap (λ (fs : List Family). fs ++ rest here c.in_ok-shelves.shelves c.deref-4.result.now) c.in_ok-families.ensures
    ∙ ap (λ w. first w c.deref-2.result.now c.deref-3.result.now ++ rest here c.in_ok-shelves.shelves c.deref-4.result.now) (c.deref.ensures.value ∙ waiting)
    ∙ ap (λ a. first (waiting_list c.args.moment book) a c.deref-3.result.now ++ rest here c.in_ok-shelves.shelves c.deref-4.result.now) (c.deref-2.ensures.value ∙ arrived)
    ∙ ap (λ j. first (waiting_list c.args.moment book) (arrived_in book) j ++ rest here c.in_ok-shelves.shelves c.deref-4.result.now) (c.deref-3.ensures.value ∙ judged)
    ∙ ap (λ (b : Book). first (waiting_list c.args.moment book) (arrived_in book) book.judged ++ rest b c.in_ok-shelves.shelves c.deref-4.result.now) after_shelves
    ∙ ap (λ s. first (waiting_list c.args.moment book) (arrived_in book) book.judged ++ rest book s c.deref-4.result.now) shelves
    ∙ ap (λ a. first (waiting_list c.args.moment book) (arrived_in book) book.judged ++ rest book book.shown a) (c.deref-4.ensures.value ∙ arrived)
