-- `check_page::codes::begins` meets its contract: a prefix is a division by a power of two. Assumes nothing.
use Rattle.std.proofs.Common.{sym, ap, ◌∙◌, eqb}
use Rattle.check_page.proofs.CodeLaws.{key_code-begins}
use Rattle.check_page.proofs.codes.begins.Goals as goal

pub returns : goal.returns
returns c =
    ap (λ n. eqb n c.args.string) (c.first_bits.ensures ∙ sym (key_code-begins _ _ c.args.x c.requires.1))
