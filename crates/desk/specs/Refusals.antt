-- The status of a reply to what is refused before the archive hears of it (RFC 9110, section 15; RFC 6585 for 431; RFC 4918 for 507).
use Rattle.std.specs.Prelude.{ℕ, List, Option, Some, None}
use Rattle.desk.specs.declared.head.Refusal.{Refusal}
use Rattle.desk.specs.declared.head.Refusal.TheVariants.{BadRequest, NotFound, MethodNotAllowed, Forbidden, LengthRequired, PayloadTooLarge, HeadTooLarge, NotImplemented, OutOfMemory}

-- a refusal as a status code
abbrev pub refusal_status : Refusal → ℕ
refusal_status BadRequest = 400
refusal_status NotFound = 404
refusal_status (MethodNotAllowed m) = 405
refusal_status Forbidden = 403
refusal_status LengthRequired = 411
refusal_status PayloadTooLarge = 413
refusal_status HeadTooLarge = 431
refusal_status NotImplemented = 501
refusal_status OutOfMemory = 507

-- the method that the reply's Allow names: that of the route, if another was used
abbrev pub allowed : Refusal → Option (List ℕ)
allowed BadRequest = None
allowed NotFound = None
allowed (MethodNotAllowed m) = Some m
allowed Forbidden = None
allowed LengthRequired = None
allowed PayloadTooLarge = None
allowed HeadTooLarge = None
allowed NotImplemented = None
allowed OutOfMemory = None
