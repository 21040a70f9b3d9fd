use Rattle.std.proofs.Common.{FitsSigned, ap, rules, to_z-of_z, w64}
use Rattle.std.specs.Fmt.{signed_decimal}
use Rattle.file_pages.proofs.Steps.{wrote_as, wrote_then}
use Rattle.polygons.proofs.writing.put_corner.Goals as goal

pub returns : goal.returns
returns g c =
    let x : FitsSigned w64 c.args.corner.x = search rules in
    let y : FitsSigned w64 c.args.corner.y = search rules in
    (wrote_then (wrote_as (ap signed_decimal (to_z-of_z x)) c.put_whole.ensures)
    (wrote_then c.put_byte.ensures
    (wrote_then (wrote_as (ap signed_decimal (to_z-of_z y)) c.put_whole-2.ensures)
    c.put_end.ensures)))
