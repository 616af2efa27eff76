-- What is under way, as the calls of a keeper leave it.
use Rattle.std.proofs.Common.{◌≡◌, ℕ, ◌%◌, ◌^◌, ◌<◌, ◌≤◌, ◌++◌, Bool, true, false, if◌then◌else◌, List, [], length, Option, Some, None, option_map, IsTrue, refl, sym, ap, subst, ◌∙◌, true≢false, arith}
use Rattle.std.proofs.Props.{props}
use Rattle.std.proofs.lemmas.Option.{none-some, same_Some}
use Rattle.std.specs.Option.{option_and_then, option_map_or}
use Rattle.sqlite.specs.Effect.{Database}
use Rattle.sqlite.specs.State.{State}
use Rattle.sums.specs.Prints.{Holds}
use Rattle.sums.specs.declared.print.Printer.{Printer}
use Rattle.tables.specs.Rows.{Tables, tables_in}
use Rattle.tables_meaning.specs.Archives.{KeepsArchive}
use Rattle.tables_meaning.specs.Coming.{Comes, HasComing, bytes_so_far, coming_number}
use Rattle.tables_meaning.specs.Transactions.{IsUndone}
use Rattle.tables_meaning.proofs.ComingLemmas.{coming_bytes, whole_rows}
use Rattle.tables_meaning.proofs.FinishedLemmas.{finished_rises}
use Rattle.tables_meaning.specs.Finished.{finished}
use Rattle.rules.specs.Values.{ConfigValue}
use Rattle.suites.specs.Shelves.{ShelvesValue}
use Rattle.book.specs.Keeping.{IsDeliverable, IsWholeFor, TakesPiece}
use Rattle.book.specs.declared.change.Judgement.{Judgement}
use Rattle.tables_bodies.specs.UnderWay.{IsBegun, IsUnderWay, coming_in}
use Rattle.tables_bodies.specs.declared.coming.Begun.{Begun}

pub coming_set : IsSet (Option (List ℕ))
coming_set = hlevel props

abbrev number_in : Option Begun → Option ℕ
number_in begun = option_and_then (λ b. b.body) begun

-- the bytes that came of what is under way, and where its rows are
pub record HasCome (t : Tables) (begun : Option Begun) : Type 0 where
  pub count : ℕ
  pub bytes : List ℕ
  pub comes : Comes t (number_in begun) count bytes

-- if nothing was begun, no bytes have come
none_comes : (t : Tables) → HasComing t [] → Comes t None 0 []
unfolding coming_number
none_comes t coming = record { coming = coming; number = refl; count = refl }

pub came : (t : Tables) (begun : Option Begun) → IsUnderWay t begun → HasCome t begun
came t None coming = record { count = 0; bytes = []; comes = none_comes t coming }
came t (Some b) is = record { count = b.pieces; bytes = is.0; comes = is.1.comes }

-- what is stopped is still under way, and nothing is coming
pub stopped : (t : Tables) (old new : Option Begun) → new ≡ option_map (λ (b : Begun). record b { is_coming = false }) old → IsUnderWay t old → IsUnderWay t new
stopped t None new is coming = subst (IsUnderWay t) (sym is) coming
stopped t (Some b) new is begun =
    subst (IsUnderWay t) (sym is) (begun.0, record { comes = begun.1.comes; printer = λ no. absurd (true≢false (sym no)) })

pub none_coming_of : (t : Tables) (old new : Option Begun) → new ≡ option_map (λ (b : Begun). record b { is_coming = false }) old → coming_in t new ≡ None
none_coming_of t None new is = ap (coming_in t) is
none_coming_of t (Some b) new is = ap (coming_in t) is

-- nothing is coming if `is_coming` says so
pub not_coming : (t : Tables) (begun : Option Begun) → option_map_or (λ b. b.is_coming) begun false ≡ false → coming_in t begun ≡ None
not_coming t None is = refl
not_coming t (Some b) is = ap (λ c. if c then Some (bytes_so_far t b.body) else None) is

pub coming_not_none : (t : Tables) (begun : Option Begun) → option_map_or (λ b. b.is_coming) begun false ≡ true → coming_in t begun ≡ None → ⊥
coming_not_none t None is none = true≢false (sym is)
coming_not_none t (Some b) is none =
    let both : Some (bytes_so_far t b.body) ≡ None = sym (ap (λ c. if c then Some (bytes_so_far t b.body) else None) is) ∙ none in cc

-- a body without a byte
pub just_begun : (t : Tables) (b : Begun) → HasComing t [] → b.body ≡ None → b.pieces ≡ 0 → Holds b.printer [] → IsBegun t b []
unfolding coming_number
just_begun t b coming body pieces printer = record { comes = record { coming = coming; number = body; count = pieces }; printer = λ _. printer }

pub begun_coming : (t : Tables) (b : Begun) → b.body ≡ None → b.is_coming ≡ true → coming_in t (Some b) ≡ Some []
begun_coming t b body is = ap (λ c. if c then Some (bytes_so_far t b.body) else None) is ∙ ap (λ o. Some (bytes_so_far t o)) body

-- what is coming of an archive: the bytes that came
pub its_bytes : (db : Database) {config : ConfigValue} {judged : List Judgement} {shown : ShelvesValue} {dates : List ℕ} → KeepsArchive db config judged shown dates
    → (body : Option ℕ) (count : ℕ) (bytes : List ℕ) → Comes (tables_in db) body count bytes → bytes_so_far (tables_in db) body ≡ bytes
its_bytes db keeps body count bytes comes =
    let t = tables_in db in
    let whole = whole_rows (finished t) (finished_rises t keeps.held.rows.bodies.rise) keeps.kept.bodies in
    (λ i. bytes_so_far (comes.coming.rows i) (comes.number i)) ∙ coming_bytes bytes (finished t) whole

-- the bytes of a body that is coming are those that came
pub coming_is : (db : Database) {config : ConfigValue} {judged : List Judgement} {shown : ShelvesValue} {dates : List ℕ} → KeepsArchive db config judged shown dates
    → (b : Begun) (bytes body : List ℕ) → IsBegun (tables_in db) b bytes → coming_in (tables_in db) (Some b) ≡ Some body → (IsTrue b.is_coming) × (bytes ≡ body)
coming_is db keeps b bytes body begun is = by b.is_coming refl
  where
    its : bytes_so_far (tables_in db) b.body ≡ bytes
    its = its_bytes db keeps b.body b.pieces bytes begun.comes

    by : (c : Bool) → b.is_coming ≡ c → (IsTrue b.is_coming) × (bytes ≡ body)
    by true e =
        let both : Some (bytes_so_far (tables_in db) b.body) ≡ Some body = sym (ap (λ c. if c then Some (bytes_so_far (tables_in db) b.body) else None) e) ∙ is in
        (e, sym its ∙ (let one : bytes_so_far (tables_in db) b.body ≡ body = cc in one))
    by false e = absurd (none-some body (sym (ap (λ c. if c then Some (bytes_so_far (tables_in db) b.body) else None) e) ∙ is))

-- ---- one more piece

-- What is under way takes this piece: its bytes so far are whole pieces.
pub record TakesNext (t : Tables) (b : Begun) (piece : List ℕ) : Type 0 where
  pub bytes : List ℕ
  pub begun : IsBegun t b bytes
  pub coming : IsTrue b.is_coming
  pub told : coming_in t (Some b) ≡ Some bytes
  pub whole : length bytes % 65536 ≡ 0
  pub some : 0 < length piece
  pub small : length piece ≤ 65536

pub takes : (db : Database) {config : ConfigValue} {judged : List Judgement} {shown : ShelvesValue} {dates : List ℕ} → KeepsArchive db config judged shown dates
    → (was : Option Begun) (b : Begun) → was ≡ Some b → IsUnderWay (tables_in db) was → (piece : List ℕ) → TakesPiece (coming_in (tables_in db) was) piece → TakesNext (tables_in db) b piece
takes db keeps was b is under piece asked =
    let t = tables_in db in
    let its : IsUnderWay t (Some b) = subst (IsUnderWay t) is under in
    let told : coming_in t (Some b) ≡ Some asked.body = ap (coming_in t) (sym is) ∙ asked.begun in
    let same = coming_is db keeps b its.0 asked.body its.1 told in
    record {
      bytes = asked.body;
      begun = subst (IsBegun t b) same.1 its.1;
      coming = same.0;
      told = told;
      whole = asked.whole;
      some = asked.some;
      small = asked.small;
    }

-- what is coming afterwards ends with the piece
pub piece_coming : (before after : Database) {config : ConfigValue} {judged : List Judgement} {shown : ShelvesValue} {dates : List ℕ} → KeepsArchive after config judged shown dates
    → (was : Option Begun) (b : Begun) → was ≡ Some b → (bytes piece : List ℕ) → coming_in (tables_in before) (Some b) ≡ Some bytes → (id count : ℕ) → Comes (tables_in after) (Some id) count (bytes ++ piece)
    → Some (bytes_so_far (tables_in after) (Some id)) ≡ option_map (λ body. body ++ piece) (coming_in (tables_in before) was)
piece_coming before after keeps was b is bytes piece told id count comes =
    ap Some (its_bytes after keeps (Some id) count (bytes ++ piece) comes)
    ∙ sym (ap (option_map (λ (body : List ℕ). body ++ piece)) (ap (coming_in (tables_in before)) is ∙ told))

-- ---- the end

-- What is under way is a body of these bytes, which may be kept under this name.
pub record EndsAs (t : Tables) (b : Begun) (name body : List ℕ) : Type 0 where
  pub begun : IsBegun t b body
  pub coming : IsTrue b.is_coming
  pub deliverable : IsDeliverable name body
  pub short : length body < 2 ^ 64

pub ends : (db : Database) {config : ConfigValue} {judged : List Judgement} {shown : ShelvesValue} {dates : List ℕ} → KeepsArchive db config judged shown dates
    → (was : Option Begun) (b : Begun) → was ≡ Some b → IsUnderWay (tables_in db) was → (name body : List ℕ) → coming_in (tables_in db) was ≡ Some body
    → IsWholeFor (coming_in (tables_in db) was) name → EndsAs (tables_in db) b name body
ends db keeps was b is under name body told asked =
    let t = tables_in db in
    let its : IsUnderWay t (Some b) = subst (IsUnderWay t) is under in
    let same = coming_is db keeps b its.0 body its.1 (ap (coming_in t) (sym is) ∙ told) in
    let one : asked.body ≡ body = same_Some _ _ (sym asked.begun ∙ told) in
    let fits : IsDeliverable name body = subst (IsDeliverable name) one asked.deliverable in
    let small : length body < 2 ^ 64 = omega (arith, fits.small) in
    record {
      begun = subst (IsBegun t b) same.1 its.1;
      coming = same.0;
      deliverable = fits;
      short = small;
    }

-- what was not finished is still under way, with any printer, and nothing is coming
pub not_finished : (t : Tables) (b : Begun) (printer : Printer) → IsUnderWay t (Some b) → IsUnderWay t (Some (record b { printer = printer; is_coming = false }))
not_finished t b printer begun = (begun.0, record { comes = begun.1.comes; printer = λ no. absurd (true≢false (sym no)) })

-- ---- a call that is undone

-- a call that is undone leaves what was under way
pub undone_under : (old new : State) (begun : Option Begun) → IsUndone old new → (IsTrue old.is_open → ∥ IsUnderWay (tables_in old.committed) begun ∥₁) → IsTrue new.is_open → ∥ IsUnderWay (tables_in new.committed) begun ∥₁
undone_under old new begun undone was up = subst (λ db. ∥ IsUnderWay (tables_in db) begun ∥₁) (sym (undone.committed up)) (was (undone.was_open up))

pub undone_kept : (P : Database → Type 0) (old new : State) → IsUndone old new → (IsTrue old.is_open → P old.committed) → IsTrue new.is_open → P new.committed
undone_kept P old new undone was up = subst P (sym (undone.committed up)) (was (undone.was_open up))

pub beside_under : (before after : Database) (begun : Option Begun) → ((body : Option ℕ) (count : ℕ) (bytes : List ℕ) → Comes (tables_in before) body count bytes → Comes (tables_in after) body count bytes)
    → IsUnderWay (tables_in before) begun → IsUnderWay (tables_in after) begun
unfolding came
beside_under before after None keeps coming = (keeps None 0 [] (came (tables_in before) None coming).comes).coming
beside_under before after (Some b) keeps begun = (begun.0, record { comes = keeps b.body b.pieces begun.0 begun.1.comes; printer = begun.1.printer })

-- what is under way after a change: nothing if its rows went, and otherwise what was
pub changed_under : (before after : Database) (old new : Option Begun) (went : Bool) → new ≡ (if went then None else old)
    → (went ≡ true → HasComing (tables_in after) [])
    → (went ≡ false → (body : Option ℕ) (count : ℕ) (bytes : List ℕ) → Comes (tables_in before) body count bytes → Comes (tables_in after) body count bytes)
    → IsUnderWay (tables_in before) old → IsUnderWay (tables_in after) new
changed_under before after old new true is gone keeps under = subst (IsUnderWay (tables_in after)) (sym is) (gone refl)
changed_under before after old new false is gone keeps under = subst (IsUnderWay (tables_in after)) (sym is) (beside_under before after old (keeps refl) under)
