use Rattle.std.proofs.Common.{refl, arith, get_or, ◌∙◌}
use Rattle.area_drawings.proofs.StrokeSteps.{rest_inside, count_within, count_after, strokes_step}
use Rattle.area_drawings.proofs.StrokeSteps.{split_few}
use Rattle.area_drawings.proofs.drawing.add_strokes.Goals as goal

pub loop-count-preserved : goal.loop-count-preserved
loop-count-preserved c =
    let i = c.loop-count.invariant in
    let ns = c.args.counts.now in
    let k = c.loop-count.count-index in
    let n = get_or ns k 0 in
    let vs = c.loop-count.rest.now in
    let own = c.split_at.result.0.now in
    let rest = c.split_at.result.1.now in
    let added = c.in_ok-add_stroke.ensures in
    let within = count_within ns k n vs c.loop-count-test.true refl i.counted in
    record {
      counted = count_after ns k n vs rest c.loop-count-test.true refl c.split_at.ensures.back
          i.counted;
      inside = rest_inside c.args.drawing.now.window n vs rest c.split_at.ensures.back i.inside;
      curves = strokes_step ns k n vs own rest _ _ _ c.loop-count-test.true refl
          c.split_at.ensures.front c.split_at.ensures.back added.curves i.curves;
      few = (let a = added.few in let b = i.few in
          let d = split_few n vs own rest within c.split_at.ensures.front c.split_at.ensures.back in
          omega (arith, a, b, d));
      window = added.window ∙ i.window;
      points = added.points ∙ i.points;
    }
