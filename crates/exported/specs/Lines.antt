-- Lines of the manifest, each without its newline.
use Rattle.std.specs.Prelude.{ℕ, List, ◌++◌, codes, string_bytes, Option, Some, None}
use Rattle.std.specs.Fmt.{format_spec, decimal, styled_decimal}
use Rattle.std.specs.declared.string.String.{String}
use Rattle.std.specs.declared.alloc.Global.{Global}
use Rattle.hex.specs.Hex.{encode_lower}
use Rattle.exported.specs.declared.manifest.ShownStates.{ShownStates}
use Rattle.exported.specs.declared.manifest.Word.{Word}
use Rattle.exported.specs.declared.manifest.Word.TheVariants.{Here, Coming, Left}

-- the decimal digits of a number, with leading zeros up to nine digits
abbrev pub nine_digits : ℕ → List ℕ
nine_digits n = styled_decimal (format_spec 32 0 4 9 18446744073709551615) n

-- what is said of a path
unfoldable pub path_line : List ℕ → Word → List ℕ
path_line path (Here v) =
    codes "here " ++ (encode_lower v.sha256 ++ (codes " " ++ (decimal v.size ++ (codes " " ++ (decimal v.stamp.seconds
    ++ (codes "." ++ (nine_digits v.stamp.nanos ++ (codes " " ++ path))))))))
path_line path Coming = codes "coming " ++ path
path_line path Left = codes "left " ++ path

-- what a suite showed: a state, and the one that it had shown before
unfoldable pub states_line : List ℕ → List ℕ → List ℕ → List ℕ
states_line codename state last = codes "shown " ++ (codename ++ (codes " " ++ (state ++ (codes " " ++ last))))

-- the word for the state before: its name, or `-` if it is not known
abbrev pub word_before : Option (String Global) → List ℕ
word_before (Some state) = string_bytes state
word_before None = codes "-"

abbrev pub shown_line : List ℕ → ShownStates → List ℕ
shown_line codename shown = states_line codename (string_bytes shown.state) (word_before shown.before)
