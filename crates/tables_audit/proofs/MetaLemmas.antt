-- What a text that is a configuration is the text of.
use Rattle.std.proofs.Common.{◌≡◌, ℕ, List, Option, Some, None, Result, Ok, Err, sym, ap, ◌∙◌}
use Rattle.para.specs.Fields.{Fields, paragraphs_in}
use Rattle.para.specs.declared.fault.ParaFault.{ParaFault}
use Rattle.rules.specs.Configuration.{config_fault, config_in, config_limit, config_of, of_paragraphs, unless}
use Rattle.rules.specs.Values.{ConfigValue}
use Rattle.rules.specs.declared.fault.ConfigFault.{ConfigFault}
use Rattle.tables.specs.declared.rows.Meta.{Meta}
use Rattle.tables.specs.declared.meta.TheConstants.{VERSION}

of_no_fault : (text : List ℕ) (ps : List Fields) (o : Option ConfigFault) (config : ConfigValue) → unless o (config_of text ps) ≡ Ok config → config.text ≡ text
of_no_fault text ps None config e = cc
of_no_fault text ps (Some fault) config e = cc

of_read : (text : List ℕ) (r : Result (List Fields) ParaFault) (config : ConfigValue) → of_paragraphs text r ≡ Ok config → config.text ≡ text
of_read text (Ok ps) config e = of_no_fault text ps (config_fault ps) config e
of_read text (Err fault) config e = cc

-- a configuration has the text that it was read from
pub text_of_read : (text : List ℕ) (config : ConfigValue) → config_in text ≡ Ok config → config.text ≡ text
unfolding config_in
text_of_read text config e = of_read text (paragraphs_in text config_limit) config e

-- the row of a configuration has its text
pub row_of_read : (row : Meta) (text : List ℕ) (config : ConfigValue) → row.version ≡ 3 → text ≡ row.configuration → config_in text ≡ Ok config
    → (row ≡ record { version = VERSION; configuration = config.text }) × (config_in config.text ≡ Ok config)
row_of_read row text config three e read =
    let f : ℕ → List ℕ → Meta = λ a b. record { version = a; configuration = b } in
    let same : config.text ≡ text = text_of_read text config read in (
      ap (λ v. f v row.configuration) three ∙ ap (f 3) (sym e ∙ sym same),
      ap config_in same ∙ read,
    )
