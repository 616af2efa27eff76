use Rattle.std.proofs.Common.{◌≡◌, ℕ, List, ◌++◌, if◌then◌else◌, Result, Ok, Err, sym, ap, ◌∙◌, arith}
use Rattle.std.specs.declared.alloc.AllocError.{AllocError}
use Rattle.std.specs.Result.{is_ok, OnOk}
use Rattle.pages.specs.Escapes.{escaped_byte}
use Rattle.pages.proofs.Plain.{character_is, character_stays}
use Rattle.pages.proofs.escape.push_character.Goals as goal

appended : (r : Result (Unit {0}) AllocError) (new old piece wanted : List ℕ) → new ≡ (if is_ok r then old ++ piece else old) → piece ≡ wanted → OnOk r (new ≡ old ++ wanted)
appended (Ok u) new old piece wanted e f = e ∙ ap (λ (bs : List ℕ). old ++ bs) f
appended (Err a) new old piece wanted e f = tt

pub returns-in-38 : goal.returns-in-38
unfolding escaped_byte
returns-in-38 c = appended c.push_str.result _ _ _ _ c.push_str.ensures.bytes (character_is c.args.character 38 c.in-38.is (omega arith))

pub returns-in-60 : goal.returns-in-60
unfolding escaped_byte
returns-in-60 c = appended c.push_str-in-60.result _ _ _ _ c.push_str-in-60.ensures.bytes (character_is c.args.character 60 c.in-60.is (omega arith))

pub returns-in-62 : goal.returns-in-62
unfolding escaped_byte
returns-in-62 c = appended c.push_str-in-62.result _ _ _ _ c.push_str-in-62.ensures.bytes (character_is c.args.character 62 c.in-62.is (omega arith))

pub returns-in-34 : goal.returns-in-34
unfolding escaped_byte
returns-in-34 c = appended c.push_str-in-34.result _ _ _ _ c.push_str-in-34.ensures.bytes (character_is c.args.character 34 c.in-34.is (omega arith))

pub returns-in-39 : goal.returns-in-39
unfolding escaped_byte
returns-in-39 c = appended c.push_str-in-39.result _ _ _ _ c.push_str-in-39.ensures.bytes (character_is c.args.character 39 c.in-39.is (omega arith))

pub returns-in_default : goal.returns-in_default
returns-in_default c = appended c.push.result _ _ _ _ c.push.ensures.bytes
    (sym (character_stays c.args.character (grind arith, grind arith, grind arith, grind arith, grind arith)))
