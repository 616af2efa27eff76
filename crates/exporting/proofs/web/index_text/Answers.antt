use Rattle.std.proofs.Common.{List, ℕ, ap₂, ◌∙◌, option_map}
use Rattle.rules.specs.Values.{ConfigValue}
use Rattle.pages.specs.IndexPage.{index_page, key_value}
use Rattle.pages.specs.declared.site.Site.TheVariants.{Tree}
use Rattle.exporting.proofs.web.index_text.Goals as goal

pub returns : goal.returns
returns g c = record {
  page = record {
    key = option_map key_value c.in_ok-key.key;
    named = c.in_ok-key.ensures;
    is = c.in_ok-index_page.ensures
        ∙ ap₂ (λ (config : ConfigValue) (dates : List ℕ). index_page Tree config c.args.shelves.now dates (option_map key_value c.in_ok-key.key))
        c.config-config.ensures c.dates-dates.ensures.dates;
  };
}
