use Rattle.std.proofs.Common.{List, sym, subst}
use Rattle.std.specs.List.{All, AllZip}
use Rattle.table_layout.specs.Values.{layout_view}
use Rattle.reports.specs.AreaKinds.{plans}
use Rattle.area_drawings.specs.KeptDrawings.{CanBeDrawn, IsDrawnFrom}
use Rattle.area_drawings.specs.KeptRows.{Kept}
use Rattle.delivery.specs.KeptRows.{transfer_so_far}
use Rattle.delivery.proofs.KeptPlaces.{all_can_be_drawn, all_drawings}
use Rattle.delivery.proofs.judging.closing.judge_clean.Goals as goal

pub drawings_from-requires : goal.drawings_from-requires
drawings_from-requires c =
    let l = layout_view c.args.layout.now in
    let k = c.requires.rows.1 in
    subst (λ (ks : List Kept). All (CanBeDrawn l ks) l.areas) (sym k.kept)
    (all_can_be_drawn l (transfer_so_far l c.requires.rows.0) c.requires.valid k.clean k.counted
    c.requires.rows.2)

pub returns : goal.returns
returns c text rows has_rows k few count =
    let l = layout_view c.args.layout.now in
    let t = transfer_so_far l rows in
    let ds = plans c.in_ok-drawings.drawings.items in (
      t,
      has_rows,
      k.clean,
      few,
      count,
      all_drawings l t c.requires.valid k.clean k.counted ds
          (subst (λ (ks : List Kept). AllZip (IsDrawnFrom l ks) l.areas ds) k.kept
          c.in_ok-drawings.ensures.drawn),
      c.in_ok-drawings.ensures.tolerances,
      c.in_ok-surfaces.ensures rows k,
    )
