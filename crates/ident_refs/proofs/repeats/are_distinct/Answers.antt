use Rattle.std.proofs.Common.{◌≡◌, ◌≤◌, length, vec_len, arith}
use Rattle.ident_refs.proofs.NeighbouringKeys.{all_distinct}
use Rattle.ident_refs.proofs.repeats.are_distinct.Goals as goal

pub returns : goal.returns
returns c = λ t.
    let ranked = c.args.sorted.now.ranked in
    let n : vec_len ranked ≡ length ranked.items = ranked.ok.0 in
    let e = c.len-place-end.ensures in
    let m = c.loop-place-test.false in
    let l : length ranked.items ≤ c.loop-place.place = omega (arith, n, e, m) in
    all_distinct c.args.keys.now c.args.sorted.now c.loop-place.place l c.requires
    c.loop-place.invariant
