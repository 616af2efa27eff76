-- From what was read to what a connection asks for.
use Rattle.std.proofs.Common.{◌≡◌, ℕ, ◌<◌, List, [], ◌++◌, Option, None, Some, Ok, Err, length, false, refl, sym, ap, subst, ◌∙◌, inl, inr, append-nil}
use Rattle.std.specs.Io.KnownBytes.{Consumes, IsAtEnd}
use Rattle.std.proofs.KnownBytes.{Consumes-kept, Consumes-trans}
use Rattle.desk.specs.declared.head.Refusal.{Refusal}
use Rattle.desk.specs.declared.head.Refusal.TheVariants.{BadRequest, NotFound, MethodNotAllowed, Forbidden, LengthRequired, PayloadTooLarge, HeadTooLarge, NotImplemented, OutOfMemory}
use Rattle.desk.specs.Transfer.{ends_head, NotEarlier}
use Rattle.desk.specs.Want.{Want, asking}
use Rattle.desk.specs.Request.{IsGiven, Received, IsFirstHead, HeadAsks, Gives, refused, asks, body_length, want_of}
use Rattle.desk.specs.Exchange.{Course, Silent, TurnedAway, TooLong, Short, Broken, Called, Told, HasRead, HasReadBehind}
use Rattle.desk.specs.Incoming.{HasHead, ReadsBeginning, ReadsUpTo, IsRefused}
use Rattle.desk.proofs.UniqueLemmas.{head_part, body_part}
use Rattle.desk.specs.declared.routes.Rules.{Rules}

-- what a reader whose bytes are known has left
abbrev pub rest_of : Option (List ℕ) → List ℕ
rest_of None = []
rest_of (Some ys) = ys

pub given_of : (old new : Option (List ℕ)) (used : List ℕ) → Consumes old new used → IsGiven old (used ++ rest_of new)
given_of None new used h = tt
given_of (Some xs) None used h = absurd h
given_of (Some xs) (Some ys) used h = h

pub rest_at_end : (new : Option (List ℕ)) → IsAtEnd new → rest_of new ≡ []
rest_at_end None h = refl
rest_at_end (Some ys) h = h

module _ {desk_rules : Rules} where
  -- the head did not end within its limit
  pub received_long : (old new : Option (List ℕ)) (head : List ℕ) → Consumes old new head → NotEarlier head → ends_head head ≡ false → length head ≡ 8192
      → Received desk_rules old new (refused HeadTooLarge)
  received_long old new head read earlier unended limit = record {
    bytes = head ++ rest_of new;
    used = head;
    given = given_of old new head read;
    is = inr (inl (record { rest = rest_of new; split = refl; limit = limit; unended = (earlier, unended); refusal = refl }));
    read = read;
  }

  -- the head was refused
  pub received_refused : (old new : Option (List ℕ)) (head : List ℕ) (e : Refusal) → Consumes old new head → IsFirstHead head → HeadAsks desk_rules head (Err e)
      → Received desk_rules old new (refused e)
  received_refused old new head e read first asked = record {
    bytes = head ++ rest_of new;
    used = head;
    given = given_of old new head read;
    is = inr (inr (inl (record { rest = rest_of new; split = refl; head = first; refusal = asked })));
    read = read;
  }

pub refused_from_head : (desk_rules : Rules) (old new : Option (List ℕ)) (head : List ℕ) (e : Refusal) → Consumes old new head → IsFirstHead head
    → Gives want_of (Err e) (HeadAsks desk_rules head) → IsRefused desk_rules old new e
refused_from_head desk_rules old new head OutOfMemory read first asked = record { front = head; read = read; used = head_part desk_rules head first.first first.limit }
refused_from_head desk_rules old new head BadRequest read first asked = received_refused old new head _ read first asked
refused_from_head desk_rules old new head NotFound read first asked = received_refused old new head _ read first asked
refused_from_head desk_rules old new head (MethodNotAllowed m) read first asked = received_refused old new head _ read first asked
refused_from_head desk_rules old new head Forbidden read first asked = received_refused old new head _ read first asked
refused_from_head desk_rules old new head LengthRequired read first asked = received_refused old new head _ read first asked
refused_from_head desk_rules old new head PayloadTooLarge read first asked = received_refused old new head _ read first asked
refused_from_head desk_rules old new head HeadTooLarge read first asked = received_refused old new head _ read first asked
refused_from_head desk_rules old new head NotImplemented read first asked = received_refused old new head _ read first asked

module _ {desk_rules : Rules} where
  -- the input ended within the body
  pub received_cut : (old mid new : Option (List ℕ)) (head front : List ℕ) (want : Want) → Consumes old mid head → IsFirstHead head → HeadAsks desk_rules head (Ok want)
      → Consumes mid new front → length front < body_length want → IsAtEnd new → Received desk_rules old new (refused BadRequest)
  received_cut old mid new head front want before first asked after short end =
      let read = Consumes-trans _ _ _ _ _ before after in
      let whole : (head ++ front) ++ rest_of new ≡ head ++ front = ap (λ l. (head ++ front) ++ l) (rest_at_end new end) ∙ append-nil (head ++ front) in
      record {
        bytes = (head ++ front) ++ rest_of new;
        used = head ++ front;
        given = given_of old new (head ++ front) read;
        is = inr (inr (inr (record {
          head = head;
          body = front;
          want = want;
          split = whole;
          first = first;
          asked = asked;
          short = short;
          used_is = sym whole;
          refusal = refl;
        })));
        read = read;
      }

  -- a whole request came
  pub received_whole : (old mid new : Option (List ℕ)) (head body : List ℕ) (want : Want) → Consumes old mid head → IsFirstHead head → HeadAsks desk_rules head (Ok want)
      → Consumes mid new body → length body ≡ body_length want → Received desk_rules old new (asks want body)
  received_whole old mid new head body want before first asked after size =
      let read = Consumes-trans _ _ _ _ _ before after in
      record {
        bytes = (head ++ body) ++ rest_of new;
        used = head ++ body;
        given = given_of old new (head ++ body) read;
        is = record { head = head; rest = rest_of new; split = refl; used_is = refl; first = first; asked = asked; size = size };
        read = read;
      }

  pub reads_behind : (old mid new : Option (List ℕ)) (head : List ℕ) (want : Want) → Consumes old mid head → IsFirstHead head → HeadAsks desk_rules head (Ok want)
      → ReadsUpTo mid new (body_length want) → ReadsBeginning desk_rules old new
  reads_behind old mid new head want before first asked h = record {
    front = head ++ h.front;
    read = Consumes-trans _ _ _ _ _ before h.read;
    used = body_part desk_rules head h.front want first asked h.short;
  }

  -- what was read of a head, and after it
  pub read_behind : (old mid new : Option (List ℕ)) (want : Want) (course : Course) → HasHead desk_rules old mid want → HasReadBehind mid new want course → HasRead desk_rules old new course
  read_behind old mid new want Silent h behind = absurd behind
  read_behind old mid new want (TurnedAway BadRequest) h behind = received_cut old mid new h.head behind.0 want h.read h.first h.asked behind.1 behind.2 behind.3
  read_behind old mid new want (TurnedAway NotFound) h behind = absurd behind
  read_behind old mid new want (TurnedAway (MethodNotAllowed m)) h behind = absurd behind
  read_behind old mid new want (TurnedAway Forbidden) h behind = absurd behind
  read_behind old mid new want (TurnedAway LengthRequired) h behind = absurd behind
  read_behind old mid new want (TurnedAway PayloadTooLarge) h behind = absurd behind
  read_behind old mid new want (TurnedAway HeadTooLarge) h behind = absurd behind
  read_behind old mid new want (TurnedAway NotImplemented) h behind = absurd behind
  read_behind old mid new want (TurnedAway OutOfMemory) h behind = absurd behind
  read_behind old mid new want (TooLong other) h behind = subst (λ (w : Want). HasHead desk_rules old new w) (sym behind.0)
      (record { head = h.head; read = Consumes-kept old mid new h.head h.read behind.1; first = h.first; asked = h.asked })
  read_behind old mid new want Short h behind = reads_behind old mid new h.head want h.read h.first h.asked behind
  read_behind old mid new want Broken h behind = reads_behind old mid new h.head want h.read h.first h.asked behind
  read_behind old mid new want (Called other body moment outcome) h behind =
      subst (λ (w : Want). Received desk_rules old new (asks w body)) (sym behind.0) (received_whole old mid new h.head body want h.read h.first h.asked behind.2 behind.1)
  read_behind old mid new want (Told question moment told) h behind =
      let asked = subst (λ (w : Want). HeadAsks desk_rules h.head (Ok w)) (sym behind.0) h.asked in
      received_whole old mid new h.head [] (asking question) h.read h.first asked behind.1 refl
