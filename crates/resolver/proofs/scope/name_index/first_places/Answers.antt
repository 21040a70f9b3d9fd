use Rattle.std.proofs.Common.{◌≡◌, ◌+◌, ◌-◌, ◌<◌, length, arith}
use Rattle.resolver.proofs.ListLemmas.Indexes.{place_down}
use Rattle.resolver.proofs.scope.name_index.first_places.Goals as goal

pub loop-place-preserved : goal.loop-place-preserved
loop-place-preserved c name =
    let below : c.loop-place.place - 1 < length c.args.names.now = omega arith in
    let up : c.loop-place.place ≡ (c.loop-place.place - 1) + 1 = omega arith in
    place_down name c.key_of.result (c.loop-place.place - 1) c.loop-place.place c.args.names.now
    c.index-names-place.result _ _ up below c.index-names-place.is c.key_of.ensures
    (c.loop-place.invariant name) (c.in_ok-insert.ensures.updates.0 name)
