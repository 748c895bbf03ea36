-- The directory is doubled up to the greater of two depths, and so shows the leaves that it showed.
use Rattle.std.proofs.Common.{◌≡◌, suc, max, ap, subst, arith}
use Rattle.shape.specs.Shape.{widths_of}
use Rattle.store.specs.Store.{memory}
use Rattle.change.specs.Divided.{Deepened}
use Rattle.change.proofs.DirectoryLaws.{shows-deepened}
use Rattle.insert_words.proofs.DepthLaws.{directory-fits}
use Rattle.insert_words.proofs.double.Goals as goal

pub deepen-requires : goal.deepen-requires
deepen-requires c =
    let a = c.args in
    let asked = c.requires in (
      directory-fits a.state a.split _ asked _ _ _ c.max-depth.ensures asked.within-limit (omega (arith, asked.deep))
          _ c.widths_of.ensures,
      omega (arith, c.max-depth.ensures),
    )

pub returns : goal.returns
returns c =
    let d = c.deepen in
    let a = c.args in
    let words = d.new.dir in
    let depth : c.max-depth.result ≡ max a.state.deepest (suc a.split.step) = omega (arith, c.max-depth.ensures) in
    let deepened : Deepened (widths_of a.state.shape) a.state.deepest c.max-depth.result a.dir.now words =
    subst (λ ws. Deepened ws a.state.deepest c.max-depth.result a.dir.now words) c.widths_of.ensures d.ensures in
    record {
      state =
          ap
          (λ t. record {
            shape = a.state.shape;
            limits = a.state.limits;
            deepest = t;
            tally = a.state.tally;
          })
          depth;
      deepened = deepened;
      shown = λ P bytes D h.
          shows-deepened a.state.shape P a.state.deepest c.max-depth.result (memory a.dir.now bytes) D words h deepened;
    }
