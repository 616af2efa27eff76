use Rattle.std.proofs.Common.{◌≡◌, Bool, true, false, Option, Some, None, if◌then◌else◌, refl}
use Rattle.pages.specs.IndexPage.{KeyValue}
use Rattle.exporting.proofs.web.key_of.Goals as goal

unsigned : (signed : Bool) (k : KeyValue) → signed ≡ false → ◌≡◌ {A = Option KeyValue} None (if signed then Some k else None)
unsigned signed k e = rw e refl

named : (signed : Bool) (k : KeyValue) → signed ≡ true → ◌≡◌ {A = Option KeyValue} (Some k) (if signed then Some k else None)
named signed k e = rw e refl

pub returns-then-not-is_signed : goal.returns-then-not-is_signed
returns-then-not-is_signed g c =
    let k : KeyValue = record { name = c.args.name.now; is_here = false } in
    record { here = false; is = unsigned c.args.is_signed k c.if-not-is_signed.true }

pub returns : goal.returns
returns g c =
    let k : KeyValue = record { name = c.args.name.now; is_here = c.in_ok-is_here.is_here } in
    record { here = c.in_ok-is_here.is_here; is = named c.args.is_signed k c.if-not-is_signed.false }
