-- A word that holds is that of the leaf which it names.
use Rattle.std.proofs.Common.{sym, ap, ◌∙◌, arith}
use Rattle.shape.proofs.ShapeLaws.{capacity-bounds}
use Rattle.page.proofs.PartLaws.{page-end-le}
use Rattle.leaf_word.specs.Hold.{word_holds}
use Rattle.leaf_word.proofs.HoldLaws.{held-empty, held-page}
use Rattle.insert_find.proofs.find_page.Goals as goal

pub find_place-requires : goal.find_place-requires
find_place-requires c =
    let st = c.args.state in
    let lent = c.requires.0 in
    let h = held-page st c.args.word c.requires.1 _ _ (sym c.unpack-leaf.ensures ∙ c.in-Page.is) in
    let end = page-end-le st.shape.capacity c.in-Page.page st.limits.pages h.0 in (
      lent,
      record {
        capacity-le = (capacity-bounds st.shape lent.shape).1;
        number_lt = omega (arith, h.0, lent.few);
        whole = omega (arith, end, lent.lent);
      },
      c.requires.2,
      h.1,
    )

pub returns-in-Empty : goal.returns-in-Empty
returns-in-Empty c words encoded m =
    let st = c.args.state in
    let h = held-empty st c.args.word c.requires.1 _ (sym c.unpack-leaf.ensures ∙ c.in-Empty.is) in
    record {
      asked = m.asked;
      depth_le = h.0;
      holds = ap (word_holds st) m.found-is ∙ c.requires.1;
      own = m.found-is ∙ h.1;
    }

pub returns-in-Page : goal.returns-in-Page
returns-in-Page c words encoded m =
    let st = c.args.state in
    let h = held-page st c.args.word c.requires.1 _ _ (sym c.unpack-leaf.ensures ∙ c.in-Page.is) in
    c.find_place.ensures words encoded
    (record {
      asked = m.asked;
      key-is = m.key-is;
      within = h.0;
      depth_le = h.1;
      holds = ap (word_holds st) m.found-is ∙ c.requires.1;
      own = m.found-is ∙ h.2;
    })
