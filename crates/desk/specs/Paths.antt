-- The paths that have a route (RFC 3986, section 3.3): each form is a tree, a printer from the tree to its bytes, and a fact that says which trees are valid.
use Rattle.std.specs.Prelude.{◌≡◌, ℕ, ◌<◌, ◌==◌, nat_lt, Bool, true, false, List, ◌∷◌, ◌++◌, length, codes, Result, Ok}
use Rattle.std.specs.List.{list_any, list_all}
use Rattle.desk.specs.declared.routes.Route.{Route}
use Rattle.desk.specs.declared.routes.Route.TheVariants as at
use Rattle.desk.specs.declared.head.Refusal.{Refusal}
use Rattle.desk.specs.Want.{◌>>=◌, Want, delivery, queue_run, copying, waiting_list, cleaning, verdict_list, removing, promoting, decoded, fetched_at}

-- what a path names, its parameters as they were sent
pub data Place : Type 0 where
  to_incoming : (name : List ℕ) → Place
  to_run : Place
  to_copy : (from to source : List ℕ) → Place
  to_queue : Place
  to_clean : Place
  to_verdicts : Place
  to_dists : (rest : List ℕ) → Place
  to_pool : (rest : List ℕ) → Place
  to_remove : (suite name : List ℕ) → Place
  to_promote : (from to : List ℕ) → Place

abbrev pub is_byte : ℕ → Bool
is_byte b = nat_lt b 256

abbrev pub is_slash : ℕ → Bool
is_slash b = b == 47

-- a part of a path between slashes: one byte or more, without a slash
pub record IsPart (part : List ℕ) : Type 0 where
  pub some : 0 < length part
  pub bytes : list_all is_byte part ≡ true
  pub no_slash : list_any is_slash part ≡ false

-- the rest of a path: one byte or more
pub record IsRest (rest : List ℕ) : Type 0 where
  pub some : 0 < length rest
  pub bytes : list_all is_byte rest ≡ true

-- the bytes of a path
abbrev pub print_path : Place → List ℕ
print_path (to_incoming name) = codes "/incoming/" ++ name
print_path to_run = codes "/queue/run"
print_path (to_copy from to source) = codes "/copy/" ++ (from ++ 47 ∷ (to ++ 47 ∷ source))
print_path to_queue = codes "/queue"
print_path to_clean = codes "/queue/clean"
print_path to_verdicts = codes "/verdicts"
print_path (to_dists rest) = codes "/dists/" ++ rest
print_path (to_pool rest) = codes "/pool/" ++ rest
print_path (to_remove suite name) = codes "/remove/" ++ (suite ++ 47 ∷ name)
print_path (to_promote from to) = codes "/promote/" ++ (from ++ 47 ∷ to)

-- each parameter has its form
abbrev pub IsPlace : Place → Type 0
IsPlace (to_incoming name) = IsPart name
IsPlace to_run = Unit {0}
IsPlace (to_copy from to source) = IsPart from × IsPart to × IsPart source
IsPlace to_queue = Unit {0}
IsPlace to_clean = Unit {0}
IsPlace to_verdicts = Unit {0}
IsPlace (to_dists rest) = IsRest rest
IsPlace (to_pool rest) = IsRest rest
IsPlace (to_remove suite name) = IsPart suite × IsPart name
IsPlace (to_promote from to) = IsPart from × IsPart to

-- the route of a place
abbrev pub route_of : Place → Route
route_of (to_incoming name) = at.Deliver
route_of to_run = at.Run
route_of (to_copy from to source) = at.Copy
route_of to_queue = at.Waiting
route_of to_clean = at.Clean
route_of to_verdicts = at.Verdicts
route_of (to_dists rest) = at.Dists
route_of (to_pool rest) = at.Pool
route_of (to_remove suite name) = at.Remove
route_of (to_promote from to) = at.Promote

-- what is wanted at a place, its parameters decoded
abbrev pub wanted_of : Place → Result Want Refusal
wanted_of (to_incoming name) = do
  decoded_name ← decoded name
  Ok (delivery decoded_name 0)
wanted_of to_run = Ok queue_run
wanted_of (to_copy from to source) = do
  decoded_from ← decoded from
  decoded_to ← decoded to
  decoded_source ← decoded source
  Ok (copying decoded_from decoded_to decoded_source)
wanted_of to_queue = Ok waiting_list
wanted_of to_clean = Ok cleaning
wanted_of to_verdicts = Ok verdict_list
wanted_of (to_dists rest) = fetched_at (codes "dists/" ++ rest) false
wanted_of (to_pool rest) = fetched_at (codes "pool/" ++ rest) true
wanted_of (to_remove suite name) = do
  decoded_suite ← decoded suite
  decoded_name ← decoded name
  Ok (removing decoded_suite decoded_name)
wanted_of (to_promote from to) = do
  decoded_from ← decoded from
  decoded_to ← decoded to
  Ok (promoting decoded_from decoded_to)
