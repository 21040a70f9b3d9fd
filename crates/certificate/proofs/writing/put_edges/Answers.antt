use Rattle.std.proofs.Common.{◌≡◌, ◌++◌, [], List, ℕ, refl, sym, ap, ◌∙◌, append_assoc, rules}
use Rattle.std.proofs.lemmas.List.{append-nil}
use Rattle.std.proofs.lemmas.List.Concat.{flat_map-cons}
use Rattle.std.specs.List.{flat_map}
use Rattle.file_pages.proofs.Steps.{wrote_nothing, wrote_then, wrote_as}
use Rattle.certificate.specs.Spelling.{edge_line, pairs}
use Rattle.certificate.proofs.writing.put_edges.Goals as goal

pub loop-below-init : goal.loop-below-init
loop-below-init g c = ([], wrote_nothing, refl)

pub loop-below-preserved : goal.loop-below-preserved
loop-below-preserved g c =
    let so_far = c.loop-below.invariant in
    let one = edge_line (c.in-Some.below, c.in-Some.above) in
    let left = flat_map edge_line (pairs c.in-Some.others.now) in
    let more : flat_map edge_line (pairs c.loop-below.rest.now) ≡ one ++ left =
    ap (flat_map edge_line) c.in-Some.ensures.some
    ∙ flat_map-cons edge_line (c.in-Some.below, c.in-Some.above) (pairs c.in-Some.others.now) in (
      so_far.0 ++ one,
      wrote_then so_far.1 c.put_edge.ensures,
      so_far.2
          ∙ (ap (λ (t : List ℕ). so_far.0 ++ t) more ∙ sym (append_assoc so_far.0 one left)),
    )

pub returns : goal.returns
returns g c =
    let so_far = c.loop-below.invariant in
    let none : pairs c.loop-below.rest.now ≡ [] = search rules in
    let last = ap (λ ps. so_far.0 ++ flat_map edge_line ps) none ∙ append-nil so_far.0 in
    wrote_as (sym (so_far.2 ∙ last)) so_far.1
