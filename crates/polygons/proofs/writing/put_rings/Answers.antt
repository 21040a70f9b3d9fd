use Rattle.std.proofs.Common.{ap, sym}
use Rattle.file_pages.proofs.Steps.{wrote_all, wrote_as, wrote_more, wrote_nothing}
use Rattle.polygons.specs.declared.kinds.Ring.{Ring}
use Rattle.polygons.specs.Text.{ring_text}
use Rattle.polygons.proofs.Texts.{flat_mapped}
use Rattle.polygons.proofs.writing.put_rings.Goals as goal

pub loop-ring-init : goal.loop-ring-init
loop-ring-init g c = wrote_nothing

pub loop-ring-preserved : goal.loop-ring-preserved
loop-ring-preserved g c =
    wrote_more (λ (r : Ring). ring_text r.corners.items) c.args.rings.now c.loop-ring.ring-index
    c.ring-item.result c.loop-ring-test.true c.loop-ring.invariant
    (wrote_as (ap (λ (r : Ring). ring_text r.corners.items) c.ring-item.is) c.put_ring.ensures)

pub returns : goal.returns
returns g c =
    wrote_as (sym (flat_mapped ring_text (λ (r : Ring). r.corners.items) c.args.rings.now))
    (wrote_all (λ (r : Ring). ring_text r.corners.items) c.args.rings.now c.loop-ring.ring-index
    c.loop-ring-test.false c.loop-ring.invariant)
