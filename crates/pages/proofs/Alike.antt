-- Texts that have the same markup.
use Rattle.std.proofs.Common.{◌≡◌, ℕ, ◌+◌, ◌==◌, Bool, true, false, List, [], ◌∷◌, ◌++◌, map, length, reverse, take, Option, Some, None, option_map, refl, sym, ap, ◌∙◌, arith, nat_lt}
use Rattle.std.specs.List.{flat_map}
use Rattle.std.specs.Prelude.{is_some, slice_get, if◌then◌else◌, codes}
use Rattle.std.specs.Option.{option_map_or}
use Rattle.std.specs.Fmt.{decimal}
use Rattle.std.proofs.lemmas.List.Elements.{filter-append}
use Rattle.std.proofs.lemmas.List.{length-map, map-append, reverse-append, take-map}
use Rattle.para.specs.Field.{FieldValue}
use Rattle.para.specs.Fields.{field_named}
use Rattle.rules.specs.Suites.{keeps_architecture}
use Rattle.rules.specs.Values.{ConfigValue}
use Rattle.rules.specs.declared.suite.Suite.{Suite}
use Rattle.suites.specs.Shelves.{ShelvesValue}
use Rattle.suites.specs.declared.key.Kind.{Kind}
use Rattle.suites.specs.declared.key.Kind.TheVariants.{Source, Binary}
use Rattle.suites.specs.declared.item.Item.{Item}
use Rattle.suites.specs.declared.item.PoolFile.{PoolFile}
use Rattle.book.specs.declared.change.Judgement.{Judgement}
use Rattle.book.specs.declared.change.Lack.{Lack}
use Rattle.book.specs.declared.change.Waiting.{Waiting}
use Rattle.indices.specs.Calendar.{latest, date_text}
use Rattle.indices.specs.Stanzas.{file_name, fields_of_text}
use Rattle.indices.specs.Counting.{item_count}
use Rattle.pages.specs.Escapes.{is_markup, escaped, escaped_byte}
use Rattle.pages.specs.Frame.{policy_text, style_text, title_text, heading_text, front_text, archive_name, header_text, head_text, cell, constant_cell, name_cell}
use Rattle.pages.specs.declared.frame.TheConstants.{START, VIEWPORT, ICON, BODY, MAIN}
use Rattle.pages.specs.declared.index.TheConstants.{KEYRINGS, URL, SIGNED, UNKNOWN}
use Rattle.pages.specs.declared.site.Site.{Site}
use Rattle.pages.specs.declared.site.Site.TheVariants.{Tree, Served}
use Rattle.pages.specs.declared.table.TheConstants.{TABLE_END}
use Rattle.pages.specs.declared.uploads.TheConstants.{WAITING_HEAD, JUDGED_HEAD}
use Rattle.pages.specs.Links.{address, link}
use Rattle.pages.specs.IndexPage.{KeyValue, other_text, name_text, description_text, date_text_of, date_at, count_text, counts_text, word_text, words_text, state_text, key_link, known_key, key_text, option_text, field_text, apt_line, source_line, deb_lines, types_text, sources_text, section, sections_from}
use Rattle.pages.specs.Markup.{markup, item_form, has_description_at, suite_form, lack_count}
use Rattle.pages.specs.Meanings.{verdict_word, marked_meaning}
use Rattle.pages.specs.Sites.{most_rows, page_path, upload_name, first_rows, newest, more_text}
use Rattle.pages.specs.SuitePage.{known_line, first_line, synopsis, item_cell, size_text, file_link, file_text, files_cell, row_start, kind_word, item_row, description_at, summary}
use Rattle.pages.specs.UploadsPage.{waiting_cell, lack_text, lacks_text, lacks_cell, upload_cell, waiting_row, verdict_cell, judged_row, waiting_table, waiting_part, judged_table, judged_part}
use Rattle.pages.specs.UploadsPage as uploads

pub record Alike (a b : List ℕ) : Type 0 where
  pub same : markup a ≡ markup b

pub itself : (a : List ℕ) → Alike a a
itself a = record { same = refl }

-- parts that are alike, in a row
pub both : {a b c d : List ℕ} → Alike a b → Alike c d → Alike (a ++ c) (b ++ d)
both {a} {b} {c} {d} h k = record {
  same = filter-append is_markup a c
      ∙ ap (λ (ms : List ℕ). ms ++ markup c) h.same
      ∙ ap (λ (ms : List ℕ). markup b ++ ms) k.same
      ∙ sym (filter-append is_markup b d);
}

-- ---- texts from outside have none

byte_bare : (c : ℕ) → markup (escaped_byte c) ≡ []
unfolding escaped_byte
byte_bare c = cases (c == 38) (c == 60) (c == 62) (c == 34) (c == 39) refl refl refl refl
  where
    cases : (amp lt gt quote apostrophe : Bool) → (c == 60) ≡ lt → (c == 62) ≡ gt → (c == 34) ≡ quote → (c == 39) ≡ apostrophe
        → markup (if amp then codes "&amp;" else if lt then codes "&lt;" else if gt then codes "&gt;" else if quote then codes "&quot;" else if apostrophe then codes "&#39;" else c ∷ []) ≡ []
    cases true lt gt quote apostrophe p q r s = refl
    cases false true gt quote apostrophe p q r s = refl
    cases false false true quote apostrophe p q r s = refl
    cases false false false true apostrophe p q r s = refl
    cases false false false false true p q r s = refl
    cases false false false false false p q r s = rw p (rw q (rw r (rw s refl)))

bare : (text : List ℕ) → markup (escaped text) ≡ []
bare [] = refl
bare (c ∷ text) =
    filter-append is_markup (escaped_byte c) (escaped text)
    ∙ ap (λ (ms : List ℕ). ms ++ markup (escaped text)) (byte_bare c)
    ∙ bare text

-- texts without markup are alike
without : (a b : List ℕ) → markup a ≡ [] → markup b ≡ [] → Alike a b
without a b h k = record { same = h ∙ sym k }

texts : (s t : List ℕ) → Alike (escaped s) (escaped t)
texts s t = without (escaped s) (escaped t) (bare s) (bare t)

-- two texts without markup have none when joined
bare_behind : (front rest : List ℕ) → markup front ≡ [] → markup rest ≡ [] → markup (front ++ rest) ≡ []
bare_behind front rest h k =
    filter-append is_markup front rest ∙ ap (λ (ms : List ℕ). ms ++ markup rest) h ∙ k

-- ---- parts of each page

cells : (s t : List ℕ) → Alike (cell s) (cell t)
unfolding cell
cells s t = both (both (itself (codes "<td>")) (texts s t)) (itself (codes "</td>"))

links : (f g p q s t : List ℕ) → Alike (link f p s) (link g q t)
unfolding link
links f g p q s t =
    both (both (both (both (itself (codes "<a href=\"")) (texts (address f p) (address g q))) (itself (codes "\">"))) (texts s t)) (itself (codes "</a>"))

titles : (s t : List ℕ) → Alike (title_text s) (title_text t)
unfolding title_text
titles s t = both (both (itself (codes "<title>")) (texts s t)) (itself (codes "</title>\n"))

headings : (s t : List ℕ) → Alike (heading_text s) (heading_text t)
unfolding heading_text
headings s t = both (both (itself (codes "<h1>")) (texts s t)) (itself (codes "</h1>\n"))

fronts : (s t : List ℕ) → Alike (front_text s) (front_text t)
unfolding front_text
fronts s t = both (itself (START.now ++ policy_text ++ VIEWPORT.now)) (titles s t)

headers : (config other : ConfigValue) (links : List ℕ) → Alike (header_text config links) (header_text other links)
unfolding header_text
headers config other links =
    both (both (both (both (itself BODY.now) (texts (archive_name config) (archive_name other))) (itself (codes "</b>"))) (itself links)) (itself MAIN.now)

pub heads : (config other : ConfigValue) (s t links : List ℕ) → Alike (head_text config s links) (head_text other t links)
unfolding head_text
heads config other s t links =
    both (both (both (both (fronts s t) (itself ICON.now)) (itself style_text)) (headers config other links)) (headings s t)

-- ---- lists of rows

module _ {X : Type 0} (text : X → List ℕ) where
  -- of the same forms
  pub of_forms : {K : Type 0} (form : X → K) → ((x y : X) → form x ≡ form y → Alike (text x) (text y))
      → (xs ys : List X) → map form xs ≡ map form ys → Alike (flat_map text xs) (flat_map text ys)
  of_forms form same [] [] h = itself []
  of_forms form same [] (y ∷ ys) h = absurd (cc)
  of_forms form same (x ∷ xs) [] h = absurd (cc)
  of_forms form same (x ∷ xs) (y ∷ ys) h = both (same x y (cc)) (of_forms form same xs ys (cc))

  -- of the same length
  pub of_length : ((x y : X) → Alike (text x) (text y))
      → (xs ys : List X) → length xs ≡ length ys → Alike (flat_map text xs) (flat_map text ys)
  of_length same [] [] h = itself []
  of_length same [] (y ∷ ys) h = absurd (omega (arith, h))
  of_length same (x ∷ xs) [] h = absurd (omega (arith, h))
  of_length same (x ∷ xs) (y ∷ ys) h = both (same x y) (of_length same xs ys (omega (arith, h)))

-- the forms of a list from its end
turned : {X K : Type 0} (form : X → K) (xs : List X) → map form (reverse xs) ≡ reverse (map form xs)
turned form [] = refl
turned form (x ∷ xs) =
    ap (map form) (reverse-append (x ∷ []) xs)
    ∙ map-append form (reverse xs) (x ∷ [])
    ∙ ap (λ (ks : List _). ks ++ form x ∷ []) (turned form xs)
    ∙ sym (reverse-append (form x ∷ []) (map form xs))

-- ---- the page of a suite

known_lines : (f g : FieldValue) → Alike (known_line f) (known_line g)
unfolding known_line
known_lines f g = both (both (itself (codes "<div class=\"dim\">")) (texts f.first g.first)) (itself (codes "</div>"))

synopses : (s t : List ℕ) → is_some (field_named (codes "Description") (fields_of_text s)) ≡ is_some (field_named (codes "Description") (fields_of_text t))
    → Alike (synopsis s) (synopsis t)
unfolding synopsis first_line
synopses s t h = by_case (field_named (codes "Description") (fields_of_text s)) (field_named (codes "Description") (fields_of_text t)) h
  where
    by_case : (o p : Option FieldValue) → is_some o ≡ is_some p → Alike (option_map_or known_line o []) (option_map_or known_line p [])
    by_case None None h = itself []
    by_case None (Some g) h = absurd (cc)
    by_case (Some f) None h = absurd (cc)
    by_case (Some f) (Some g) h = known_lines f g

item_cells : (a b : Item) → is_some (field_named (codes "Description") (fields_of_text a.paragraph)) ≡ is_some (field_named (codes "Description") (fields_of_text b.paragraph))
    → Alike (item_cell a) (item_cell b)
unfolding item_cell
item_cells a b h =
    both (both (both (both (itself (codes "<td><b>")) (texts a.package b.package)) (itself (codes "</b>"))) (synopses a.paragraph b.paragraph h)) (itself (codes "</td>"))

file_links : (p q : List ℕ) → Alike (file_link p) (file_link q)
unfolding file_link
file_links p q = links (codes "../../") (codes "../../") p q (file_name p) (file_name q)

file_texts : (f g : PoolFile) → Alike (file_text f) (file_text g)
unfolding file_text
file_texts f g =
    both (both (both (both (itself (codes "<div class=\"name\">")) (file_links f.path g.path))
    (itself (codes " <span class=\"dim\">"))) (texts (size_text f.print.size) (size_text g.print.size))) (itself (codes "</span></div>"))

files_cells : (fs gs : List PoolFile) → length fs ≡ length gs → Alike (files_cell fs) (files_cell gs)
unfolding files_cell
files_cells fs gs h = both (both (itself (codes "<td>")) (of_length file_text file_texts fs gs h)) (itself (codes "</td>"))

row_starts : (k l : Kind) → Alike (row_start k) (row_start l)
unfolding row_start kind_word
row_starts Source Source = record { same = refl }
row_starts Source Binary = record { same = refl }
row_starts Binary Source = record { same = refl }
row_starts Binary Binary = record { same = refl }

name_cells : (s t : List ℕ) → Alike (name_cell s) (name_cell t)
unfolding name_cell
name_cells s t = both (both (itself (codes "<td class=\"name\">")) (texts s t)) (itself (codes "</td>"))

pub item_rows : (a b : Item) → item_form a ≡ item_form b → Alike (item_row a) (item_row b)
unfolding item_row
item_rows a b h =
    both (both (both (both (both (both (both (row_starts a.kind b.kind) (item_cells a b (ap (λ f. f.0) h)))
    (name_cells a.version b.version)) (cells a.architecture b.architecture)) (cells a.component b.component))
    (name_cells a.source b.source)) (files_cells a.files b.files (ap (λ f. f.1) h))) (itself (codes "</tr>\n"))

-- ---- the page of uploads

upload_names : (site : Site) (s t : List ℕ) → Alike (upload_name site s) (upload_name site t)
unfolding upload_name
upload_names Tree s t = texts s t
upload_names Served s t = links (codes "why/") (codes "why/") s t s t

upload_cells : (site : Site) (s t : List ℕ) → Alike (upload_cell site s) (upload_cell site t)
unfolding upload_cell
upload_cells site s t = both (both (itself (codes "<td class=\"name\">")) (upload_names site s t)) (itself (codes "</td>"))

lack_texts : (k l : Lack) → Alike (lack_text k) (lack_text l)
unfolding lack_text
lack_texts k l = both (both (itself (codes "<code>")) (texts k.name l.name)) (itself (codes "</code> "))

lacks_texts : (ks ls : List Lack) → length ks ≡ length ls → Alike (lacks_text ks) (lacks_text ls)
unfolding lacks_text
lacks_texts [] [] h = itself (codes "None: the next run judges it.")
lacks_texts [] (l ∷ ls) h = absurd (omega (arith, h))
lacks_texts (k ∷ ks) [] h = absurd (omega (arith, h))
lacks_texts (k ∷ ks) (l ∷ ls) h = of_length lack_text lack_texts (k ∷ ks) (l ∷ ls) h

lacks_cells : (ks ls : List Lack) → length ks ≡ length ls → Alike (lacks_cell ks) (lacks_cell ls)
unfolding lacks_cell
lacks_cells ks ls h = both (both (itself (codes "<td>")) (lacks_texts ks ls h)) (itself (codes "</td>"))

-- what depends on one value alone
alike_at : {X : Type 0} (text : X → List ℕ) (x y : X) → x ≡ y → Alike (text x) (text y)
alike_at text x y h = record { same = ap (λ z. markup (text z)) h }

waiting_rows : (site : Site) (w v : Waiting) → lack_count w ≡ lack_count v → Alike (waiting_row site w) (waiting_row site v)
unfolding waiting_row
waiting_rows site w v h =
    both (both (both (both (itself (codes "<tr>")) (alike_at waiting_cell (length w.lacks) (length v.lacks) h)) (upload_cells site w.name v.name))
    (lacks_cells w.lacks v.lacks h)) (itself (codes "</tr>\n"))

judged_rows : (site : Site) (j k : Judgement) → j.verdict ≡ k.verdict → Alike (judged_row site j) (judged_row site k)
unfolding judged_row
judged_rows site j k h =
    both (both (both (both (itself (codes "<tr>")) (alike_at verdict_cell j.verdict k.verdict h)) (upload_cells site j.name k.name))
    (alike_at (λ v. constant_cell (marked_meaning v)) j.verdict k.verdict h)) (itself (codes "</tr>\n"))

-- the forms of the rows that a table has
module _ {X K : Type 0} (form : X → K) where
  first_forms : (site : Site) (xs : List X) → map form (first_rows site xs) ≡ first_rows site (map form xs)
  first_forms Tree xs = refl
  first_forms Served xs = sym (take-map form most_rows xs)

  newest_forms : (site : Site) (xs : List X) → map form (newest site xs) ≡ newest site (map form xs)
  newest_forms Tree xs = turned form xs
  newest_forms Served xs = sym (take-map form most_rows (reverse xs)) ∙ ap (take most_rows) (turned form xs)

  -- lists of the same forms have the same length
  as_many : (xs ys : List X) → map form xs ≡ map form ys → length xs ≡ length ys
  as_many xs ys h = sym (length-map xs form) ∙ ap length h ∙ length-map ys form

headings_of : (word : List ℕ) (n m : ℕ) → Alike (uploads.count_text word n) (uploads.count_text word m)
unfolding uploads.count_text
headings_of word n m =
    both (both (itself (codes "<h2>" ++ word ++ codes " <span class=\"dim\">")) (texts (decimal n) (decimal m))) (itself (codes "</span></h2>\n"))

module _ (site : Site) (ws vs : List Waiting) (h : map lack_count ws ≡ map lack_count vs) where
  waiting_tables : Alike (waiting_table site ws) (waiting_table site vs)
  unfolding waiting_table
  waiting_tables =
      both (both (both (itself WAITING_HEAD.now)
      (of_forms (waiting_row site) lack_count (waiting_rows site) (first_rows site ws) (first_rows site vs)
      (first_forms lack_count site ws ∙ ap (first_rows site) h ∙ sym (first_forms lack_count site vs))))
      (itself TABLE_END.now))
      (alike_at (more_text site (codes "queue")) (length ws) (length vs) (as_many lack_count ws vs h))

pub waiting_parts : (site : Site) (ws vs : List Waiting) → map lack_count ws ≡ map lack_count vs → Alike (waiting_part site ws) (waiting_part site vs)
unfolding waiting_part
waiting_parts site [] [] h = itself (waiting_part site [])
waiting_parts site [] (v ∷ vs) h = absurd (cc)
waiting_parts site (w ∷ ws) [] h = absurd (cc)
waiting_parts site (w ∷ ws) (v ∷ vs) h =
    both (headings_of (codes "Waiting") (length (w ∷ ws)) (length (v ∷ vs))) (waiting_tables site (w ∷ ws) (v ∷ vs) h)

module _ (site : Site) (js ks : List Judgement) (h : map (λ j. j.verdict) js ≡ map (λ j. j.verdict) ks) where
  judged_tables : Alike (judged_table site js) (judged_table site ks)
  unfolding judged_table
  judged_tables =
      both (both (both (itself JUDGED_HEAD.now)
      (of_forms (judged_row site) (λ j. j.verdict) (judged_rows site) (newest site js) (newest site ks)
      (newest_forms (λ j. j.verdict) site js ∙ ap (newest site) h ∙ sym (newest_forms (λ j. j.verdict) site ks))))
      (itself TABLE_END.now))
      (alike_at (more_text site (codes "verdicts")) (length js) (length ks) (as_many (λ j. j.verdict) js ks h))

pub judged_parts : (site : Site) (js ks : List Judgement) → map (λ j. j.verdict) js ≡ map (λ j. j.verdict) ks → Alike (judged_part site js) (judged_part site ks)
unfolding judged_part
judged_parts site [] [] h = itself (judged_part site [])
judged_parts site [] (k ∷ ks) h = absurd (cc)
judged_parts site (j ∷ js) [] h = absurd (cc)
judged_parts site (j ∷ js) (k ∷ ks) h =
    both (headings_of (codes "Judged, the latest first") (length (j ∷ js)) (length (k ∷ ks))) (judged_tables site (j ∷ js) (k ∷ ks) h)

-- ---- the first page

others : (o p : Option (List ℕ)) → is_some o ≡ is_some p → Alike (other_text o) (other_text p)
unfolding other_text
others None None h = itself []
others None (Some t) h = absurd (cc)
others (Some s) None h = absurd (cc)
others (Some s) (Some t) h = both (both (itself (codes " <span class=\"dim\">(")) (texts s t)) (itself (codes ")</span>"))

suite_names : (site : Site) (s t : List ℕ) (o p : Option (List ℕ)) → is_some o ≡ is_some p → Alike (name_text site s o) (name_text site t p)
unfolding name_text
suite_names site s t o p h =
    both (both (both (itself (codes "<h2>")) (links [] [] (page_path site s) (page_path site t) s t)) (others o p h)) (itself (codes "</h2>\n"))

descriptions : (o p : Option (List ℕ)) → is_some o ≡ is_some p → Alike (description_text o) (description_text p)
unfolding description_text
descriptions None None h = itself []
descriptions None (Some t) h = absurd (cc)
descriptions (Some s) None h = absurd (cc)
descriptions (Some s) (Some t) h = both (both (itself (codes "<p>")) (texts s t)) (itself (codes "</p>\n"))

descriptions_at : (o p : Option Suite) → option_map_or (λ s. is_some s.description) o false ≡ option_map_or (λ s. is_some s.description) p false
    → Alike (option_map_or (λ s. description_text s.description) o []) (option_map_or (λ s. description_text s.description) p [])
unfolding description_text
descriptions_at None None h = itself []
descriptions_at None (Some t) h = none_like t.description h
  where
    none_like : (o : Option (List ℕ)) → false ≡ is_some o → Alike [] (description_text o)
    none_like None h = itself []
    none_like (Some t) h = absurd (cc)
descriptions_at (Some s) None h = like_none s.description h
  where
    like_none : (o : Option (List ℕ)) → is_some o ≡ false → Alike (description_text o) []
    like_none None h = itself []
    like_none (Some t) h = absurd (cc)
descriptions_at (Some s) (Some t) h = descriptions s.description t.description h

date_bare : (date : ℕ) → markup (date_text_of date) ≡ []
unfolding date_text_of
date_bare date = by_test (nat_lt latest date)
  where
    by_test : (late : Bool) → markup (if late then escaped UNKNOWN.now else escaped (date_text date)) ≡ []
    by_test true = bare UNKNOWN.now
    by_test false = bare (date_text date)

dates_bare : (dates : List ℕ) (suite : ℕ) → markup (date_at dates suite) ≡ []
unfolding date_at
dates_bare dates suite = by_case (slice_get dates suite)
  where
    by_case : (o : Option ℕ) → markup (option_map_or date_text_of o (escaped UNKNOWN.now)) ≡ []
    by_case None = bare UNKNOWN.now
    by_case (Some date) = date_bare date

counted : (word : List ℕ) (n m : ℕ) → Alike (count_text word n) (count_text word m)
unfolding count_text
counted word n m =
    both (both (itself (codes "<div><dt>" ++ word ++ codes "</dt><dd>")) (texts (decimal n) (decimal m))) (itself (codes "</dd></div>"))

pub all_counted : (shelves others : ShelvesValue) (i j : ℕ) → Alike (counts_text shelves i) (counts_text others j)
unfolding counts_text
all_counted shelves others i j =
    both (counted (codes "Packages") (item_count shelves i (Some Binary)) (item_count others j (Some Binary)))
    (counted (codes "Sources") (item_count shelves i (Some Source)) (item_count others j (Some Source)))

word_bare : (word : List ℕ) → markup (word_text word) ≡ []
unfolding word_text
word_bare word = bare_behind (codes " ") (escaped word) refl (bare word)

words_bare : (words : List (List ℕ)) → markup (flat_map word_text words) ≡ []
words_bare [] = refl
words_bare (w ∷ ws) = bare_behind (word_text w) (flat_map word_text ws) (word_bare w) (words_bare ws)

one_word : (s t : List ℕ) → Alike (word_text s) (word_text t)
one_word s t = without (word_text s) (word_text t) (word_bare s) (word_bare t)

all_words : (vs ws : List (List ℕ)) → Alike (flat_map word_text vs) (flat_map word_text ws)
all_words vs ws = without (flat_map word_text vs) (flat_map word_text ws) (words_bare vs) (words_bare ws)

pub summaries : (config other : ConfigValue) (shelves others : ShelvesValue) (i j : ℕ) → has_description_at config i ≡ has_description_at other j
    → Alike (summary config shelves i) (summary other others j)
unfolding summary description_at
summaries config other shelves others i j h =
    both (both (both (descriptions_at (slice_get config.suites i) (slice_get other.suites j) h) (itself (codes "<dl>")))
    (all_counted shelves others i j)) (itself (codes "</dl>\n"))

named_words : (name : List ℕ) (vs ws : List (List ℕ)) → Alike (words_text name vs) (words_text name ws)
unfolding words_text
named_words name vs ws =
    both (both (itself (codes "<div><dt>" ++ name ++ codes "</dt><dd>")) (all_words vs ws)) (itself (codes "</dd></div>"))

states : (shelves others : ShelvesValue) (dates moments : List ℕ) (i : ℕ) (s t : Suite) → Alike (state_text shelves dates i s) (state_text others moments i t)
unfolding state_text
states shelves others dates moments i s t =
    both (both (both (both (both (both (itself (codes "<dl>")) (all_counted shelves others i i))
    (named_words (codes "Architectures") s.architectures t.architectures)) (named_words (codes "Components") s.components t.components))
    (itself (codes "<div><dt>Changed</dt><dd>")))
    (without (date_at dates i) (date_at moments i) (dates_bare dates i) (dates_bare moments i))) (itself (codes "</dd></div></dl>\n"))

key_links : (k l : KeyValue) → k.is_here ≡ l.is_here → Alike (key_link k) (key_link l)
unfolding key_link
key_links k l h = by_case k.is_here l.is_here h
  where
    by_case : (b c : Bool) → b ≡ c
        → Alike (if b then link [] k.name k.name else escaped k.name) (if c then link [] l.name l.name else escaped l.name)
    by_case true true h = links [] [] k.name l.name k.name l.name
    by_case true false h = absurd (cc)
    by_case false true h = absurd (cc)
    by_case false false h = texts k.name l.name

pub keys : (o p : Option KeyValue) → option_map (λ k. k.is_here) o ≡ option_map (λ k. k.is_here) p → Alike (key_text o) (key_text p)
unfolding key_text known_key
keys None None h = itself []
keys None (Some l) h = absurd (cc)
keys (Some k) None h = absurd (cc)
keys (Some k) (Some l) h =
    both (both (both (both (both (itself SIGNED.now) (key_links k l (cc)))
    (itself (codes ", as <code>"))) (itself KEYRINGS.now)) (texts k.name l.name)) (itself (codes "</code>.</p>\n"))

option_bare : (key : Option KeyValue) → markup (option_text key) ≡ []
unfolding option_text
option_bare None = refl
option_bare (Some k) = bare_behind (codes "signed-by=" ++ KEYRINGS.now) (escaped k.name) refl (bare k.name)

field_bare : (key : Option KeyValue) → markup (field_text key) ≡ []
unfolding field_text
field_bare None = refl
field_bare (Some k) = bare_behind (codes "Signed-By: " ++ KEYRINGS.now) (escaped k.name) refl (bare k.name)

types_bare : (s : Suite) → markup (types_text s) ≡ []
unfolding types_text
types_bare s = by_case (keeps_architecture s (codes "source"))
  where
    by_case : (b : Bool) → markup (if b then codes "deb deb-src" else codes "deb") ≡ []
    by_case true = refl
    by_case false = refl

module _ (key other : Option KeyValue) (s t : Suite) where
  apt_lines : (kind : List ℕ) → Alike (apt_line kind key s) (apt_line kind other t)
  unfolding apt_line
  apt_lines kind =
      both (both (both (both (both (both (itself (kind ++ codes " ["))
      (without (option_text key) (option_text other) (option_bare key) (option_bare other)))
      (itself (codes "] "))) (itself URL.now)) (one_word s.codename t.codename)) (all_words s.components t.components))
      (itself (codes "\n"))

  source_lines : keeps_architecture s (codes "source") ≡ keeps_architecture t (codes "source") → Alike (source_line key s) (source_line other t)
  unfolding source_line
  source_lines h = by_case (keeps_architecture s (codes "source")) (keeps_architecture t (codes "source")) h
    where
      by_case : (b c : Bool) → b ≡ c
          → Alike (if b then apt_line (codes "deb-src") key s else []) (if c then apt_line (codes "deb-src") other t else [])
      by_case true true h = apt_lines (codes "deb-src")
      by_case true false h = absurd (cc)
      by_case false true h = absurd (cc)
      by_case false false h = itself []

  all_deb_lines : keeps_architecture s (codes "source") ≡ keeps_architecture t (codes "source") → Alike (deb_lines key s) (deb_lines other t)
  unfolding deb_lines
  all_deb_lines h =
      both (both (both (itself (codes "<pre>")) (apt_lines (codes "deb"))) (source_lines h)) (itself (codes "</pre>\n"))

  all_sources : Alike (sources_text key s) (sources_text other t)
  unfolding sources_text
  all_sources =
      both (both (both (both (both (both (both (both (both (both (itself (codes "<pre>Types: "))
      (without (types_text s) (types_text t) (types_bare s) (types_bare t)))
      (itself (codes "\nURIs: "))) (itself URL.now)) (itself (codes "\nSuites:"))) (one_word s.codename t.codename))
      (itself (codes "\nComponents:"))) (all_words s.components t.components)) (itself (codes "\n")))
      (without (field_text key) (field_text other) (field_bare key) (field_bare other))) (itself (codes "\n</pre>\n"))

module _ (site : Site) (shelves others : ShelvesValue) (dates moments : List ℕ) (key other : Option KeyValue) where
  suite_sections : (i : ℕ) (s t : Suite) → suite_form s ≡ suite_form t
      → Alike (section site shelves dates key i s) (section site others moments other i t)
  unfolding section
  suite_sections i s t h =
      both (both (both (both (both (both (itself (codes "<section class=\"suite\">\n"))
      (suite_names site s.codename t.codename s.suite t.suite (ap (λ f. f.0) h)))
      (descriptions s.description t.description (ap (λ f. f.1) h))) (states shelves others dates moments i s t))
      (all_deb_lines key other s t (ap (λ f. f.2) h))) (all_sources key other s t)) (itself (codes "</section>\n"))

  pub all_sections : (i : ℕ) (ss ts : List Suite) → map suite_form ss ≡ map suite_form ts
      → Alike (sections_from site shelves dates key i ss) (sections_from site others moments other i ts)
  unfolding sections_from
  all_sections i [] [] h = itself []
  all_sections i [] (t ∷ ts) h = absurd (cc)
  all_sections i (s ∷ ss) [] h = absurd (cc)
  all_sections i (s ∷ ss) (t ∷ ts) h = both (suite_sections i s t (cc)) (all_sections (i + 1) ss ts (cc))
