-- The upload of a .changes all of whose files have arrived.
use Rattle.std.proofs.Common.{◌≡◌, ℕ, true, false, ◌||◌, ◌&&◌, cond, if◌then◌else◌, List, [], ◌∷◌, map, get_or, find, zip, refl, ap, sym, ◌∙◌, subst, unwrap_or, All, bytes_eq, Some, Ok}
use Rattle.std.proofs.lemmas.List.{length-map}
use Rattle.std.proofs.lemmas.List.Elements.{All-map}
use Rattle.std.proofs.lemmas.List.Sums.{AllPass-from_list_all}
use Rattle.std.specs.List.{list_any}
use Rattle.std.specs.Option.{option_map}
use Rattle.std.proofs.lemmas.Bool.{and_parts}
use Rattle.records.specs.Records.{changes_in}
use Rattle.records.proofs.RecordRead.{changes_of_read}
use Rattle.sums.specs.Prints.{print as print_of, same_print}
use Rattle.sums.specs.declared.entries.Entry.{Entry}
use Rattle.sums.specs.declared.print.Print.{Print}
use Rattle.suites.specs.Upload.{IsUpload, IsTextOf, UploadValue, has_text}
use Rattle.book.specs.Book.{Candidate, body_for, is_body_of, is_complete, is_there, upload_of}
use Rattle.book.specs.declared.arrival.Arrival.{Arrival}
use Rattle.book.proofs.Prints.{same_print-Decides}

-- the body found for a file that has arrived has its print
found_print : (entry : Entry) (arrivals : List Arrival) → list_any (is_body_of entry) arrivals ≡ true
    → print_of (unwrap_or (option_map (λ a. a.body) (find (is_body_of entry) arrivals)) []) ≡ entry.print
unfolding is_body_of
found_print entry [] there = cc
found_print entry (a ∷ arrivals) there =
    elim (bytes_eq a.name entry.name && same_print (print_of a.body) entry.print) as (λ b. bytes_eq a.name entry.name && same_print (print_of a.body) entry.print ≡ b → b || list_any (is_body_of entry) arrivals ≡ true
    → print_of (unwrap_or (option_map (λ a. a.body) (cond b (Some a) (find (is_body_of entry) arrivals))) []) ≡ entry.print) [
      | true ↦ λ e there. (same_print-Decides (print_of a.body) entry.print).0 (and_parts (bytes_eq a.name entry.name) (same_print (print_of a.body) entry.print) e).1
      | false ↦ λ e there. found_print entry arrivals there
    ] refl there

-- the text of a file that has arrived
text_of : (arrivals : List Arrival) (entry : Entry) → is_there arrivals entry ≡ true
    → IsTextOf (entry, if has_text entry.name then body_for arrivals entry else [])
unfolding is_there body_for
text_of arrivals entry there = record {
  body = λ e. ap (λ b. print_of (if b then body_for arrivals entry else [])) e ∙ found_print entry arrivals there;
  none = λ e. ap (λ b. if b then body_for arrivals entry else []) e;
}

beside : {X Y : Type 0} (f : X → Y) (xs : List X) → zip xs (map f xs) ≡ map (λ x. (x, f x)) xs
beside f [] = refl
beside f (x ∷ xs) = ap (λ ys. (x, f x) ∷ ys) (beside f xs)

pub complete_upload : (arrivals : List Arrival) (c : Candidate) → is_complete arrivals c ≡ true → changes_in c.body ≡ Ok c.changes → IsUpload (upload_of arrivals c)
unfolding is_complete upload_of
complete_upload arrivals c complete read =
    let text : Entry → List ℕ = λ e. if has_text e.name then body_for arrivals e else [] in
    let each = AllPass-from_list_all (is_there arrivals) c.changes.entries complete in
    let record_read = changes_of_read _ c.body c.changes read in
    record {
      names = record_read.made.entries.listed.names;
      count = length-map c.changes.entries text;
      texts = subst (All IsTextOf) (sym (beside text c.changes.entries)) (All-map IsTextOf (λ e. (e, text e)) c.changes.entries (λ k d h. text_of arrivals (get_or c.changes.entries k d) (each k d h)));
    }

-- what is made entry by entry is the upload
pub upload_made : (arrivals : List Arrival) (c : Candidate) {name : List ℕ} {print : Print} {texts : List (List ℕ)} {entries : List Entry}
    → name ≡ c.name → print ≡ print_of c.body
    → texts ≡ map (λ e. if has_text e.name then body_for arrivals e else []) entries → entries ≡ c.changes.entries
    → record { name = name; print = print; changes = c.changes; texts = texts } ≡ upload_of arrivals c
unfolding upload_of
upload_made arrivals c {name} {print} {texts} {entries} is_name is_print are_texts are_entries =
    let text : Entry → List ℕ = λ e. if has_text e.name then body_for arrivals e else [] in
    let made : List ℕ → Print → List (List ℕ) → UploadValue = λ n p t. record { name = n; print = p; changes = c.changes; texts = t } in
    ap (λ n. made n print texts) is_name ∙ ap (λ p. made c.name p texts) is_print
    ∙ ap (made c.name (print_of c.body)) (are_texts ∙ ap (map text) are_entries)
