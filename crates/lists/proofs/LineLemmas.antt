-- A line of a list of commands is the printed form of what it asks for.
use Rattle.std.proofs.Common.{◌≡◌, inl, inr, ◌<◌, ℕ, ◌+◌, ◌==◌, Bool, true, false, not, ◌||◌, ◌&&◌, List, [], ◌∷◌, ◌++◌, length, drop, Option, Some, None, codes, refl, sym, ap, ◌∙◌, cond, arith}
use Rattle.std.proofs.lemmas.Option.{IfSome_then}
use Rattle.std.proofs.lemmas.Bool.Decides.{nat_tests}
use Rattle.std.proofs.lemmas.Slice.Eq.{bytes_eq-Decides}
use Rattle.std.proofs.lemmas.Str.{IsUtf8-from_is_utf8}
use Rattle.std.proofs.lemmas.List.{append_assoc, drop_at, take_at}
use Rattle.std.specs.Prelude.{IfSome, if◌then◌else◌, is_some}
use Rattle.std.specs.Option.{option_and_then}
use Rattle.std.specs.List.{list_any, position_or_len, before_first, after_first}
use Rattle.std.specs.Str.{bytes_eq, is_utf8}
use Rattle.sums.specs.Lines.{is_space}
use Rattle.lists.specs.Grammar.{IsCommand, IsGoodLine, IsAskable, IsOneWord, IsPassedOver, print_request}
use Rattle.lists.specs.Lists.{RequestBytes, asked, command_by, command_in, command_of, copy_of, is_bad, is_one_word, is_passed_over, lone, parted, promotion_of, put_of, removal_of, two_words, worded}
use Rattle.lists.specs.declared.request.Request.TheVariants as request
use Rattle.lists.proofs.ListLemmas.{as_text}

-- ---- a text with a space, and a text with none

position-space : (front rest : List ℕ) → list_any is_space front ≡ false → position_or_len is_space (front ++ 32 ∷ rest) ≡ length front
position-space [] rest h = refl
position-space (b ∷ bs) rest h = by_kind (is_space b) h (position-space bs rest)
  where
    by_kind : (t : Bool) → (t || list_any is_space bs) ≡ false → (list_any is_space bs ≡ false → position_or_len is_space (bs ++ 32 ∷ rest) ≡ length bs)
        → cond (not t) (1 + position_or_len is_space (bs ++ 32 ∷ rest)) 0 ≡ length (b ∷ bs)
    by_kind true k more = absurd (cc)
    by_kind false k more = let e = more k in omega arith

before-space : (front rest : List ℕ) → list_any is_space front ≡ false → before_first is_space (front ++ 32 ∷ rest) ≡ front
before-space front rest h = take_at front (32 ∷ rest) (position_or_len is_space (front ++ 32 ∷ rest)) (sym (position-space front rest h))

after-space : (front rest : List ℕ) → list_any is_space front ≡ false → after_first is_space (front ++ 32 ∷ rest) ≡ rest
after-space front rest h =
    ap (λ n. drop (n + 1) (front ++ 32 ∷ rest)) (position-space front rest h)
    ∙ ap (λ xs. drop (length front + 1) xs) (sym (append_assoc front (32 ∷ []) rest))
    ∙ drop_at (front ++ 32 ∷ []) rest (length front + 1) (length_one front)
  where
    length_one : (xs : List ℕ) → length (xs ++ 32 ∷ []) ≡ length xs + 1
    length_one [] = refl
    length_one (x ∷ xs) = let e = length_one xs in omega arith

any-space : (front rest : List ℕ) → list_any is_space (front ++ 32 ∷ rest) ≡ true
any-space [] rest = refl
any-space (b ∷ bs) rest = by_kind (is_space b) (any-space bs rest)
  where
    by_kind : (t : Bool) → list_any is_space (bs ++ 32 ∷ rest) ≡ true → (t || list_any is_space (bs ++ 32 ∷ rest)) ≡ true
    by_kind true h = refl
    by_kind false h = h

-- a text that is cut at its first space
parted-cut : (front rest : List ℕ) → list_any is_space front ≡ false → parted (front ++ 32 ∷ rest) ≡ Some (front, rest)
unfolding parted
parted-cut front rest h = rw (any-space front rest, before-space front rest h, after-space front rest h) refl

-- what stands before and after the first space of a text
record IsCut (text front rest : List ℕ) : Type 0 where
  whole : text ≡ front ++ 32 ∷ rest
  no_space : list_any is_space front ≡ false

cut : (text : List ℕ) → list_any is_space text ≡ true → (front : List ℕ) × (rest : List ℕ) × IsCut text front rest
cut [] h = absurd (cc)
cut (b ∷ bs) h = by_kind (is_space b) refl h (cut bs)
  where
    by_kind : (t : Bool) → is_space b ≡ t → (t || list_any is_space bs) ≡ true → (list_any is_space bs ≡ true → (front : List ℕ) × (rest : List ℕ) × IsCut bs front rest)
        → (front : List ℕ) × (rest : List ℕ) × IsCut (b ∷ bs) front rest
    by_kind true e k more = let same : b ≡ 32 = grind (arith, nat_tests) in ([], bs, record { whole = ap (λ x. x ∷ bs) same; no_space = refl })
    by_kind false e k more = let (front, rest, c) = more k in (b ∷ front, rest, record { whole = ap (λ l. b ∷ l) c.whole; no_space = rw e c.no_space })

-- a text that is parted is cut at its first space
parts : (text : List ℕ) → IfSome (parted text) (λ p. IsCut text p.0 p.1)
unfolding parted
parts text = by_kind (list_any is_space text) refl
  where
    by_kind : (t : Bool) → list_any is_space text ≡ t → IfSome {T = List ℕ × List ℕ} (cond t (Some (before_first is_space text, after_first is_space text)) None) (λ p. IsCut text p.0 p.1)
    by_kind true e =
        let (front, rest, c) = cut text e in
        let before : before_first is_space text ≡ front = ap (before_first is_space) c.whole ∙ before-space front rest c.no_space in
        let after : after_first is_space text ≡ rest = ap (after_first is_space) c.whole ∙ after-space front rest c.no_space in
        rw (before, after) c
    by_kind false e = tt

no_parts : (text : List ℕ) → list_any is_space text ≡ false → parted text ≡ None
unfolding parted
no_parts text h = rw h refl

-- ---- words

both : (a b : Bool) → (a && b) ≡ true → (a ≡ true) × (b ≡ true)
both true b h = (refl, h)
both false b h = absurd (cc)

word : (text : List ℕ) → is_one_word text ≡ true → IsOneWord text
unfolding is_one_word
word text h = by_kind (length text == 0) (list_any is_space text) refl refl h
  where
    by_kind : (t s : Bool) → (length text == 0) ≡ t → list_any is_space text ≡ s → (not t && not s) ≡ true → IsOneWord text
    by_kind true s e k n = absurd (cc)
    by_kind false true e k n = absurd (cc)
    by_kind false false e k n = record { some = grind (arith, nat_tests); no_space = k }

word-test : (text : List ℕ) → IsOneWord text → is_one_word text ≡ true
unfolding is_one_word
word-test text w =
    let some : 0 < length text = w.some in
    let full : (length text == 0) ≡ false = grind (arith, nat_tests) in
    rw (full, w.no_space) refl

-- ---- what a text gives, by its steps

module _ {A : Type 0} (P : A → Type 0) where
  by_test : (t : Bool) (a b : Option A) → (t ≡ true → IfSome a P) → (t ≡ false → IfSome b P) → IfSome (if t then a else b) P
  by_test true a b passes fails = passes refl
  by_test false a b passes fails = fails refl

  and_then : {B : Type 0} (Q : B → Type 0) (r : Option B) (f : B → Option A) → IfSome r Q → ((x : B) → Q x → IfSome (f x) P) → IfSome (option_and_then f r) P
  and_then Q None f h k = tt
  and_then Q (Some x) f h k = k x h

  at_some : (r : Option A) (x : A) → IfSome r P → r ≡ Some x → P x
  at_some r x h e = rw e at h

-- ---- the words after a command

two : (text : List ℕ) → IfSome (two_words text) (λ w. IsOneWord w.0 × IsOneWord w.1 × (text ≡ w.0 ++ 32 ∷ w.1))
unfolding two_words
two text =
    and_then _ _ (parted text) _ (parts text) (λ p c. by_test _ (is_one_word p.0 && is_one_word p.1) (Some p) None
    (λ e. let t = both (is_one_word p.0) (is_one_word p.1) e in (word p.0 t.0, word p.1 t.1, c.whole))
    (λ e. tt))

-- this is asked for by the line that is this command and a space in front of this rest
abbrev Asks : List ℕ → List ℕ → RequestBytes → Type 0
Asks command rest m = IsAskable m × (command ++ 32 ∷ rest ≡ print_request m)

put_asks : (rest : List ℕ) → IfSome (put_of rest) (Asks (codes "put") rest)
unfolding put_of
put_asks rest = by_test _ (length rest == 0) None (Some (request.Put rest)) (λ e. tt) (λ e. (grind (arith, nat_tests), refl))

copy_asks : (rest : List ℕ) → IfSome (copy_of rest) (Asks (codes "copy") rest)
unfolding copy_of
copy_asks rest =
    and_then _ _ (parted rest) _ (parts rest) (λ p c. and_then _ _ (two_words p.1) _ (two p.1) (λ w k. by_test _ (is_one_word p.0) (Some (request.Copy p.0 w.0 w.1)) None
    (λ e. ((word p.0 e, k.0, k.1), ap (λ l. codes "copy" ++ 32 ∷ l) (c.whole ∙ ap (λ l. p.0 ++ 32 ∷ l) k.2)))
    (λ e. tt)))

promotion_asks : (rest : List ℕ) → IfSome (promotion_of rest) (Asks (codes "promote") rest)
unfolding promotion_of
promotion_asks rest = and_then _ _ (two_words rest) _ (two rest) (λ w k. ((k.0, k.1), ap (λ l. codes "promote" ++ 32 ∷ l) k.2))

removal_asks : (rest : List ℕ) → IfSome (removal_of rest) (Asks (codes "remove") rest)
unfolding removal_of
removal_asks rest = and_then _ _ (two_words rest) _ (two rest) (λ w k. ((k.0, k.1), ap (λ l. codes "remove" ++ 32 ∷ l) k.2))

-- ---- a line

same : (a b : List ℕ) → bytes_eq a b ≡ true → a ≡ b
same a b e = (bytes_eq-Decides a b).0 e

-- the command is this one, and the rest after it asks for something
named : (command name rest : List ℕ) (r : Option RequestBytes) → bytes_eq command name ≡ true → IfSome r (Asks name rest) → IfSome r (Asks command rest)
named command name rest r e h = IfSome_then r h (λ m k. (k.0, ap (λ l. l ++ 32 ∷ rest) (same command name e) ∙ k.1))

worded_asks : (command rest : List ℕ) → IfSome (worded command rest) (Asks command rest)
unfolding worded
worded_asks command rest =
    by_test _ (bytes_eq command (codes "put")) _ _ (λ e. named command (codes "put") rest _ e (put_asks rest)) (λ _.
    by_test _ (bytes_eq command (codes "copy")) _ _ (λ e. named command (codes "copy") rest _ e (copy_asks rest)) (λ _.
    by_test _ (bytes_eq command (codes "promote")) _ _ (λ e. named command (codes "promote") rest _ e (promotion_asks rest)) (λ _.
    by_test _ (bytes_eq command (codes "remove")) _ _ (λ e. named command (codes "remove") rest _ e (removal_asks rest)) (λ _. tt))))

lone_asks : (line : List ℕ) → IfSome (lone line) (λ m. IsAskable m × (line ≡ print_request m))
unfolding lone
lone_asks line =
    by_test _ (bytes_eq line (codes "run")) _ _ (λ e. (tt, same line (codes "run") e)) (λ _.
    by_test _ (bytes_eq line (codes "clean")) _ _ (λ e. (tt, same line (codes "clean") e)) (λ _.
    by_test _ (bytes_eq line (codes "waiting")) _ _ (λ e. (tt, same line (codes "waiting") e)) (λ _.
    by_test _ (bytes_eq line (codes "verdicts")) _ _ (λ e. (tt, same line (codes "verdicts") e)) (λ _. tt))))

command_asks : (text : List ℕ) → IfSome (command_of text) (λ m. IsAskable m × (text ≡ print_request m))
unfolding command_of
command_asks text = by_parts (parted text) (parts text)
  where
    by_parts : (r : Option (List ℕ × List ℕ)) → IfSome r (λ p. IsCut text p.0 p.1) → IfSome (command_by r text) (λ m. IsAskable m × (text ≡ print_request m))
    by_parts None h = lone_asks text
    by_parts (Some p) h = IfSome_then (worded p.0 p.1) (worded_asks p.0 p.1) (λ m k. (k.0, h.whole ∙ k.1))

pub as_printed : (text : List ℕ) (m : RequestBytes) → command_of text ≡ Some m → IsAskable m × (text ≡ print_request m)
as_printed text m h = at_some _ (command_of text) m (command_asks text) h

-- ---- what a printed line asks for

two-back : (a b : List ℕ) → IsOneWord a → IsOneWord b → two_words (a ++ 32 ∷ b) ≡ Some (a, b)
unfolding two_words
two-back a b one other = rw (parted-cut a b one.no_space) (rw (word-test a one, word-test b other) refl)

worded-back : (command rest : List ℕ) → list_any is_space command ≡ false → command_of (command ++ 32 ∷ rest) ≡ worded command rest
unfolding command_of
worded-back command rest h = ap (λ r. command_by r (command ++ 32 ∷ rest)) (parted-cut command rest h)

lone-back : (line : List ℕ) → list_any is_space line ≡ false → command_of line ≡ lone line
unfolding command_of
lone-back line h = ap (λ r. command_by r line) (no_parts line h)

put-back : (path : List ℕ) → 0 < length path → put_of path ≡ Some (request.Put path)
unfolding put_of
put-back path h = let full : (length path == 0) ≡ false = grind (arith, nat_tests) in rw full refl

copy-back : (from to source : List ℕ) → IsOneWord from → IsOneWord to → IsOneWord source → copy_of (from ++ 32 ∷ (to ++ 32 ∷ source)) ≡ Some (request.Copy from to source)
unfolding copy_of
copy-back from to source h1 h2 h3 = rw (parted-cut from (to ++ 32 ∷ source) h1.no_space) (rw (two-back to source h2 h3) (rw (word-test from h1) refl))

promotion-back : (from to : List ℕ) → IsOneWord from → IsOneWord to → promotion_of (from ++ 32 ∷ to) ≡ Some (request.Promote from to tt)
unfolding promotion_of
promotion-back from to h1 h2 = rw (two-back from to h1 h2) refl

removal-back : (suite name : List ℕ) → IsOneWord suite → IsOneWord name → removal_of (suite ++ 32 ∷ name) ≡ Some (request.Remove suite name)
unfolding removal_of
removal-back suite name h1 h2 = rw (two-back suite name h1 h2) refl

printed_asks : (m : RequestBytes) → IsAskable m → command_of (print_request m) ≡ Some m
unfolding worded lone
printed_asks (request.Put path) h = worded-back (codes "put") path refl ∙ put-back path h
printed_asks request.Run h = lone-back (codes "run") refl
printed_asks (request.Copy from to source) h = worded-back (codes "copy") (from ++ 32 ∷ (to ++ 32 ∷ source)) refl ∙ copy-back from to source h.0 h.1 h.2
printed_asks (request.Promote from to sources) h = worded-back (codes "promote") (from ++ 32 ∷ to) refl ∙ promotion-back from to h.0 h.1
printed_asks (request.Remove suite name) h = worded-back (codes "remove") (suite ++ 32 ∷ name) refl ∙ removal-back suite name h.0 h.1
printed_asks request.Clean h = lone-back (codes "clean") refl
printed_asks request.Waiting h = lone-back (codes "waiting") refl
printed_asks request.Verdicts h = lone-back (codes "verdicts") refl

pub read_back : (text : List ℕ) (m : RequestBytes) → IsAskable m → text ≡ print_request m → command_of text ≡ Some m
read_back text m h e = ap command_of e ∙ printed_asks m h

-- ---- a line of a list

passes_over : (line : List ℕ) → is_passed_over line ≡ true → IsPassedOver line
passes_over [] e = inl refl
passes_over (b ∷ bs) e = let is : b ≡ 35 = grind (arith, nat_tests) in inr (bs, ap (λ x. x ∷ bs) is)

pub passed_over : (line : List ℕ) → IsPassedOver line → is_passed_over line ≡ true
passed_over line (inl e) = ap is_passed_over e
passed_over line (inr (rest, e)) = ap is_passed_over e

pub not_asked : (line : List ℕ) → is_passed_over line ≡ true → asked line ≡ None
unfolding asked
not_asked line e = rw e refl

in_utf8 : (line : List ℕ) → IfSome (command_in line) (IsCommand line)
unfolding command_in
in_utf8 line =
    by_test _ (is_utf8 line) (command_of line) None
    (λ e. IfSome_then (command_of line) (command_asks line) (λ m h. record { utf8 = IsUtf8-from_is_utf8 line e; is_askable = h.0; printed = h.1 }))
    (λ e. tt)

line_asks : (line : List ℕ) → IfSome (asked line) (IsCommand line)
unfolding asked
line_asks line = by_test _ (is_passed_over line) None (command_in line) (λ e. tt) (λ e. in_utf8 line)

pub as_command : (line : List ℕ) (m : RequestBytes) → asked line ≡ Some m → IsCommand line m
as_command line m h = at_some _ (asked line) m (line_asks line) h

letters_first : (m : RequestBytes) → is_passed_over (print_request m) ≡ false
letters_first (request.Put path) = refl
letters_first request.Run = refl
letters_first (request.Copy from to source) = refl
letters_first (request.Promote from to sources) = refl
letters_first (request.Remove suite name) = refl
letters_first request.Clean = refl
letters_first request.Waiting = refl
letters_first request.Verdicts = refl

not_passed_over : (line : List ℕ) (m : RequestBytes) → IsCommand line m → is_passed_over line ≡ false
not_passed_over line m h = ap is_passed_over h.printed ∙ letters_first m

in_back : (line : List ℕ) (m : RequestBytes) → IsCommand line m → command_in line ≡ Some m
in_back line m h = as_text line h.utf8 ∙ read_back line m h.is_askable h.printed

pub command_back : (line : List ℕ) (m : RequestBytes) → IsCommand line m → asked line ≡ Some m
unfolding asked
command_back line m h = rw (not_passed_over line m h) (in_back line m h)

-- a good line is passed over, or asks for one thing
pub good_line : (line : List ℕ) → is_bad line ≡ false → IsGoodLine line
unfolding is_bad
good_line line h = by_kind (is_passed_over line) (command_in line) refl (in_utf8 line) h
  where
    by_kind : (t : Bool) (r : Option RequestBytes) → is_passed_over line ≡ t → IfSome r (IsCommand line) → (not t && not (is_some r)) ≡ false → IsGoodLine line
    by_kind true r e k n = inl (passes_over line e)
    by_kind false None e k n = absurd (cc)
    by_kind false (Some m) e k n = inr (m, k)

pub line_good : (line : List ℕ) → IsGoodLine line → is_bad line ≡ false
unfolding is_bad
line_good line (inl p) = rw (passed_over line p) refl
line_good line (inr (m, h)) = rw (not_passed_over line m h, in_back line m h) refl
