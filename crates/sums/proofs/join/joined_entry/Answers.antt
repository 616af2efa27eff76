use Rattle.std.proofs.Common.{◌≡◌, ◌∙◌, [], true, ap, sym, subst, unwrap_or, arith}
use Rattle.std.specs.List.{find}
use Rattle.std.specs.Str.{bytes_eq}
use Rattle.sums.specs.Lines.{is_digest, is_size, digest_word, word, name_word, greatest_size}
use Rattle.sums.specs.Lists.{files_form}
use Rattle.sums.specs.Views.{lines_in}
use Rattle.sums.proofs.Faultless.{faultless}
use Rattle.sums.proofs.Reading.{named_digest, md5_word}
use Rattle.sums.proofs.SizeTexts.{size_more}
use Rattle.sums.proofs.join.joined_entry.Goals as goal

pub size-requires : goal.size-requires
size-requires c =
    let good = (faultless c.args.lists.most c.args.lists.kind (lines_in c.args.lists) c.requires.faultless).files.each c.args.line.now c.requires.listed in
    subst (λ w. is_size greatest_size w ≡ true) (sym c.word.ensures) (size_more c.args.lists.most greatest_size (word c.args.line.now 1) (omega arith) good.size)

pub digest-requires : goal.digest-requires
digest-requires c =
    let good = (faultless c.args.lists.most c.args.lists.kind (lines_in c.args.lists) c.requires.faultless).files.each c.args.line.now c.requires.listed in
    (omega arith, subst (λ w. is_digest 16 w ≡ true) (sym c.word-2.ensures) (md5_word c.args.lists.most c.args.lists.kind c.args.line.now good))

pub digest_named-requires : goal.digest_named-requires
digest_named-requires c =
    let fine = faultless c.args.lists.most c.args.lists.kind (lines_in c.args.lists) c.requires.faultless in
    let form = files_form c.args.lists.kind in
    let name : c.word-name.result.now ≡ name_word form c.args.line.now = c.word-name.ensures ∙ ap (λ f. name_word f c.args.line.now) c.files_form.ensures in
    let others = c.args.lists.sha1.now in (
      omega arith,
      (
        omega arith,
        subst (λ n. is_digest 20 (digest_word (unwrap_or (find (λ line. bytes_eq (word line 2) n) others) [])) ≡ true) (sym name)
            (named_digest c.args.lists.most 20 form (lines_in c.args.lists).files others c.args.line.now fine.sha1 fine.sha1_agrees c.requires.listed),
      ),
    )

pub digest_named-requires-2 : goal.digest_named-requires-2
digest_named-requires-2 c =
    let fine = faultless c.args.lists.most c.args.lists.kind (lines_in c.args.lists) c.requires.faultless in
    let form = files_form c.args.lists.kind in
    let name : c.word-name.result.now ≡ name_word form c.args.line.now = c.word-name.ensures ∙ ap (λ f. name_word f c.args.line.now) c.files_form.ensures in
    let others = c.args.lists.sha256.now in (
      omega arith,
      (
        omega arith,
        subst (λ n. is_digest 32 (digest_word (unwrap_or (find (λ line. bytes_eq (word line 2) n) others) [])) ≡ true) (sym name)
            (named_digest c.args.lists.most 32 form (lines_in c.args.lists).files others c.args.line.now fine.sha256 fine.sha256_agrees c.requires.listed),
      ),
    )
