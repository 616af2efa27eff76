-- What was read of a body, piece by piece.
use Rattle.std.proofs.Common.{◌≡◌, ◌≤◌, ◌<◌, ◌+◌, ◌-◌, ◌%◌, ◌++◌, ◌∙◌, ℕ, Bool, List, Option, length, take, drop, min, ap, arith}
use Rattle.std.proofs.KnownBytes.{Consumes-trans}
use Rattle.std.proofs.lemmas.List.{length-append, length-drop, length-take-le}
use Rattle.std.proofs.Math.Nat.{add-mod_right}
use Rattle.std.specs.Io.KnownBytes.{Consumes}
use Rattle.history.specs.Receiving.{GaveUpTo, HasRead, WasShort}
use Rattle.history.specs.declared.fault.Fault.{Fault}
use Rattle.history.specs.declared.fault.Fault.TheVariants.{OutOfMemory, BadName, TooLarge, Record, Keeper, Moment, UnknownSuite, SameSuite, NothingToCopy, Ended, ReaderFailed, NothingToRemove}

-- a refusal after what was read before
module _ (may_fail : Bool) (a b c : Option (List ℕ)) (front : List ℕ) (n size : ℕ) (before : Consumes a b front) (fits : length front + size ≤ n) where
  longer : (more : List ℕ) → length (front ++ more) ≡ length front + length more
  longer more = length-append front more

  up_to : GaveUpTo b c size → GaveUpTo a c n
  up_to h = record { front = front ++ h.front; read = Consumes-trans _ _ _ _ _ before h.read; short = omega (arith, longer h.front, h.short, fits) }

  pub refused_behind : (e : Fault) → HasRead may_fail b c size e → HasRead may_fail a c n e
  refused_behind OutOfMemory h = up_to h
  refused_behind (Keeper fault) h = (h.0, h.1, up_to h.2)
  refused_behind Ended h = record { front = front ++ h.front; read = Consumes-trans _ _ _ _ _ before h.read; short = omega (arith, longer h.front, h.short, fits); end = h.end }
  refused_behind ReaderFailed h = record { front = front ++ h.front; read = Consumes-trans _ _ _ _ _ before h.read; short = omega (arith, longer h.front, h.short, fits) }
  refused_behind BadName h = absurd h
  refused_behind TooLarge h = absurd h
  refused_behind (Record fault) h = absurd h
  refused_behind Moment h = absurd h
  refused_behind UnknownSuite h = absurd h
  refused_behind SameSuite h = absurd h
  refused_behind NothingToCopy h = absurd h
  refused_behind NothingToRemove h = absurd h

  pub short_behind : (e : Fault) → WasShort b c size e → WasShort a c n e
  short_behind OutOfMemory h = absurd h
  short_behind (Keeper fault) h = absurd h
  short_behind BadName h = absurd h
  short_behind TooLarge h = absurd h
  short_behind (Record fault) h = absurd h
  short_behind Moment h = absurd h
  short_behind UnknownSuite h = absurd h
  short_behind SameSuite h = absurd h
  short_behind NothingToCopy h = absurd h
  short_behind NothingToRemove h = absurd h
  short_behind Ended h = record { front = front ++ h.front; read = Consumes-trans _ _ _ _ _ before h.read; short = omega (arith, longer h.front, h.short, fits); end = h.end }
  short_behind ReaderFailed h = record { front = front ++ h.front; read = Consumes-trans _ _ _ _ _ before h.read; short = omega (arith, longer h.front, h.short, fits) }

-- the part of the buffer for the next piece
pub room_for : (buffer : List ℕ) (whole left size : ℕ) → length buffer ≡ min whole 65536 → left ≤ whole → size ≡ min left 65536 → length (take size buffer) ≡ size
room_for buffer whole left size room within is = length-take-le size buffer (omega (arith, room, within, is))

pub room_kept : (piece buffer : List ℕ) (size whole : ℕ) → length piece ≡ size → length (take size buffer) ≡ size → size ≤ length buffer → length buffer ≡ min whole 65536
    → length (piece ++ drop size buffer) ≡ min whole 65536
room_kept piece buffer size whole is taken within room = omega (arith, length-append piece (drop size buffer), length-drop size buffer, is, within, room)

pub sizes_more : (front piece : List ℕ) (left size whole : ℕ) → length piece ≡ size → size ≤ left → length front + left ≡ whole → length (front ++ piece) + (left - size) ≡ whole
sizes_more front piece left size whole is within sizes = omega (arith, length-append front piece, is, within, sizes)

pub whole_past : (front piece : List ℕ) (left size : ℕ) → length piece ≡ size → size ≡ min left 65536 → (0 < left → length front % 65536 ≡ 0) → 0 < left - size → length (front ++ piece) % 65536 ≡ 0
whole_past front piece left size is size_is whole more =
    let full : size ≡ 65536 = omega (arith, size_is, more) in
    let all : length (front ++ piece) ≡ length front + 65536 = length-append front piece ∙ ap (λ k. length front + k) (is ∙ full) in
    ap (λ k. k % 65536) all ∙ add-mod_right (length front) 65536 ∙ whole (omega (arith, more))
