-- What a loop over suites has written, and what is left.
use Rattle.std.proofs.Common.{◌≡◌, ℕ, ◌+◌, ◌<◌, ◌≤◌, Option, List, ◌++◌, length, drop, get_or, sym, ap, ◌∙◌, append_assoc}
use Rattle.std.proofs.lemmas.List.{append-nil, drop_all, at_drop_more}
use Rattle.rules.specs.declared.suite.Suite.{Suite}
use Rattle.suites.specs.Shelves.{ShelvesValue}
use Rattle.pages.specs.IndexPage.{KeyValue, section, sections_from}
use Rattle.pages.specs.declared.site.Site.{Site}

module _ (site : Site) (shelves : ShelvesValue) (dates : List ℕ) (key : Option KeyValue) (suites : List Suite) (i : ℕ) where
  abbrev left : ℕ → List ℕ
  left j = sections_from site shelves dates key j (drop j suites)

  opened : (s : Suite) → i < length suites → s ≡ get_or suites i s
      → left i ≡ section site shelves dates key i s ++ left (i + 1)
  unfolding sections_from
  opened s within here =
      at_drop_more (sections_from site shelves dates key i) suites i s within
      ∙ ap (λ (x : Suite). section site shelves dates key i x ++ left (i + 1)) (sym here)

  -- one suite on
  pub written_on : (s : Suite) (out new all : List ℕ) → i < length suites → s ≡ get_or suites i s
      → new ≡ out ++ section site shelves dates key i s → out ++ left i ≡ all → new ++ left (i + 1) ≡ all
  written_on s out new all within here e h =
      ap (λ (bs : List ℕ). bs ++ left (i + 1)) e
      ∙ append_assoc out (section site shelves dates key i s) (left (i + 1))
      ∙ ap (λ (bs : List ℕ). out ++ bs) (sym (opened s within here))
      ∙ h

  -- nothing is left
  pub written_all : (out all : List ℕ) → length suites ≤ i → out ++ left i ≡ all → out ≡ all
  unfolding sections_from
  written_all out all past h =
      sym (append-nil out)
      ∙ ap (λ (ss : List Suite). out ++ sections_from site shelves dates key i ss) (sym (drop_all i suites past))
      ∙ h
