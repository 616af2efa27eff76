-- What the parts of a delivery make of the tables.
use Rattle.std.proofs.Common.{◌≡◌, ℕ, ◌+◌, ◌<◌, ◌≤◌, Bool, true, false, List, [], ◌∷◌, length, take, find, get_or, Some, None, is_some, IsTrue, refl, sym, ap, subst, ◌∙◌}
use Rattle.std.specs.List.{list_any}
use Rattle.std.proofs.lemmas.Bool.{lt-ltb, le-ltb}
use Rattle.std.proofs.lemmas.List.Sums.{fold_more}
use Rattle.sqlite.specs.State.{State, IsUnchanged}
use Rattle.sums.specs.declared.entries.Entry.{Entry}
use Rattle.sums.specs.declared.print.Print.{Print}
use Rattle.tables.specs.Arrivals.{is_arrival, with_moment}
use Rattle.tables.specs.Bodies.{body_with}
use Rattle.tables.specs.Inside.{GoesOn}
use Rattle.tables.specs.Rows.{Tables, Holds, Changes, Numbered, next_in, rows_of, with_arrival, with_upload, with_want}
use Rattle.tables.specs.Uploads.{is_upload}
use Rattle.tables.specs.declared.rows.ArrivalRow.{ArrivalRow}
use Rattle.tables.specs.Wants.{with_here}
use Rattle.tables_meaning.specs.Coming.{with_received}
use Rattle.tables_meaning.specs.Making.{is_here, with_arrived, with_requested, with_wants}
use Rattle.tables_meaning.proofs.Inside.{changes_then}

-- ---- reads before a change

module _ (old mid new : State) where
  -- a change after a read, if the read shows that it is the one that is meant
  pub read_then : (f g : Tables → Tables) → GoesOn old mid → ((t : Tables) → Holds old.now t → IsUnchanged old mid × (f t ≡ g t)) → Changes mid new f → Changes old new g
  read_then f g on reads q = record {
    held = λ t was.
        let h = reads t was in
        subst (Holds new.now) h.1 (q.held t (subst (λ db. Holds db t) (sym h.0.0.now_is) was));
    shown = record {
      was_open = on.was_open;
      is_open = q.shown.is_open;
      now_is = refl;
      committed_is = q.shown.committed_is ∙ on.committed_is;
      mode = q.shown.mode;
    };
  }

-- a read alone, if it shows that nothing is to be changed
pub read_alone : (old new : State) (g : Tables → Tables) → GoesOn old new → ((t : Tables) → Holds old.now t → IsUnchanged old new × (t ≡ g t)) → Changes old new g
read_alone old new g on reads = record {
  held = λ t was.
      let h = reads t was in
      subst (Holds new.now) h.1 (subst (λ db. Holds db t) (sym h.0.0.now_is) was);
  shown = on;
}

-- a change by another function that does the same to the rows
pub changes_as : (old new : State) (f g : Tables → Tables) → ((t : Tables) → Holds old.now t → f t ≡ g t) → Changes old new f → Changes old new g
changes_as old new f g same p = record { held = λ t was. subst (Holds new.now) (same t was) (p.held t was); shown = p.shown }

-- ---- arrivals

module _ (name : List ℕ) (body moment : ℕ) (t : Tables) where
  pub arrived_new : find (λ x. is_arrival name body x.1) t.arrivals ≡ None → with_arrival (record { name = name; body = body; moment = moment }) t ≡ with_arrived name body moment t
  unfolding with_arrived
  arrived_new none = rw none refl

  pub arrived_later : (id : ℕ) (a : ArrivalRow) → find (λ x. is_arrival name body x.1) t.arrivals ≡ Some (id, a) → a.moment < moment → with_moment id moment t ≡ with_arrived name body moment t
  unfolding with_arrived
  arrived_later id a found less = rw (found, lt-ltb a.moment moment less) refl

  pub arrived_before : (id : ℕ) (a : ArrivalRow) → find (λ x. is_arrival name body x.1) t.arrivals ≡ Some (id, a) → moment ≤ a.moment → t ≡ with_arrived name body moment t
  unfolding with_arrived
  arrived_before id a found more = rw (found, le-ltb a.moment moment more) refl

-- ---- wants

found_any_by_kind : {X : Type 0} (p : X → Bool) (x : ℕ × X) (rows : Numbered X) → is_some (find (λ x. p x.1) rows) ≡ list_any p (rows_of rows) → (b : Bool) → p x.1 ≡ b
    → is_some (find (λ x. p x.1) (x ∷ rows)) ≡ list_any p (rows_of (x ∷ rows))
found_any_by_kind p x rows rest true is = rw is refl
found_any_by_kind p x rows rest false is = rw is rest

found_any : {X : Type 0} (p : X → Bool) (rows : Numbered X) → is_some (find (λ x. p x.1) rows) ≡ list_any p (rows_of rows)
found_any p [] = refl
found_any p (x ∷ rows) = found_any_by_kind p x rows (found_any p rows) (p x.1) refl

module _ (e : Entry) (t : Tables) where
  pub here_none : body_with e.print t.bodies ≡ None → false ≡ is_here t e
  unfolding is_here
  here_none none = rw none refl

  pub here_some : (body : ℕ) → body_with e.print t.bodies ≡ Some body → is_some (find (λ x. is_arrival e.name body x.1) t.arrivals) ≡ is_here t e
  unfolding is_here
  here_some body found = rw found (found_any (is_arrival e.name body) t.arrivals)

pub wants_none : (s : State) (upload : ℕ) (entries : List Entry) → IsTrue s.is_open → IsTrue s.in_transaction → Changes s s (with_wants upload (take 0 entries))
wants_none s upload entries up inside = record {
  held = λ t was. was;
  shown = record { was_open = up; is_open = up; now_is = refl; committed_is = refl; mode = inside };
}

-- ---- uploads

module _ (name : List ℕ) (print : Print) (entries : List Entry) (t : Tables) where
  pub requested_before : is_some (find (λ x. is_upload name print x.1) t.uploads) ≡ true → t ≡ with_requested name print entries t
  unfolding with_requested
  requested_before there = rw (sym (found_any (is_upload name print) t.uploads) ∙ there) refl

  pub requested_new : (id : ℕ) → is_some (find (λ x. is_upload name print x.1) t.uploads) ≡ false → id ≡ next_in t.uploads
      → with_wants id entries (with_upload (record { name = name; print = print; place = None; verdict = None }) t) ≡ with_requested name print entries t
  unfolding with_requested
  requested_new id absent is = rw (sym (found_any (is_upload name print) t.uploads) ∙ absent, is) refl

pub wants_more : (a b c : State) (upload : ℕ) (entries : List Entry) (i : ℕ) (e : Entry) → i < length entries → e ≡ get_or entries i e → Changes a b (with_wants upload (take i entries))
    → Changes b c (λ t. with_want (record { upload = upload; name = e.name; print = e.print; here = is_here t e }) t) → Changes a c (with_wants upload (take (i + 1) entries))
wants_more a b c upload entries i e within is p q =
    let add = λ (now : Tables) (e : Entry). with_want (record { upload = upload; name = e.name; print = e.print; here = is_here now e }) now in
    changes_as a c (λ t. add (with_wants upload (take i entries) t) e) (with_wants upload (take (i + 1) entries))
    (λ t was. ap (add (with_wants upload (take i entries) t)) is ∙ sym (fold_more add t entries i e within)) (changes_then a b c _ _ p q)

-- ---- the whole delivery

-- a body is stored by one change of the rows, and has this number afterwards
module _ (name : List ℕ) (print : Print) (moment id : ℕ) (store : Tables → Tables) (number : Tables → ℕ) (a b c d : State) (stored : Changes a b store)
    (is : (t : Tables) → Holds a.now t → id ≡ number t) where
  pub file_stored : Changes b c (with_arrived name id moment) → Changes c d (with_here name print) → Changes a d (λ t. with_here name print (with_arrived name (number t) moment (store t)))
  file_stored arrived marked =
      changes_as a d (λ t. with_here name print (with_arrived name id moment (store t))) _
      (λ t was. ap (λ n. with_here name print (with_arrived name n moment (store t))) (is t was)) (changes_then a c d _ _ (changes_then a b c _ _ stored arrived) marked)

module _ (name : List ℕ) (print : Print) (moment : ℕ) (store : Tables → Tables) (number : Tables → ℕ) (a b : State)
    (stored : Changes a b (λ t. with_here name print (with_arrived name (number t) moment (store t)))) where
  pub received_alone : Changes a b (λ t. with_received name (number t) print moment None (store t))
  unfolding with_received
  received_alone = changes_as a b _ _ (λ t was. refl) stored

  pub received_changes : (c : State) (entries : List Entry) → Changes b c (with_requested name print entries) → Changes a c (λ t. with_received name (number t) print moment (Some entries) (store t))
  unfolding with_received
  received_changes c entries requested = changes_as a c _ _ (λ t was. refl) (changes_then a b c _ _ stored requested)
