use Rattle.std.proofs.Common.{subst, arith, ap, ◌∙◌, ◌≡◌, ◌+◌, ◌++◌, ℕ, take, drop}
use Rattle.straight_predicates.specs.Chunks.{IsAt, joined}
use Rattle.straight_predicates.proofs.Joined.{put_at, room_within}
use Rattle.straight_predicates.proofs.chunks.insert_some.Goals as goal

pub returns : goal.returns
returns g c =
    let at = subst (λ bs. IsAt bs c.args.place c.find-spot.result.chunk c.find-spot.result.offset)
    c.deref-2.ensures.value c.find-spot.ensures in
    let z : c.args.place + 0 ≡ c.args.place = omega arith in
    put_at c.make_room.new.chunks.items c.args.place c.find-spot.result.chunk
    c.find-spot.result.offset at c.index_mut.result.now c.args.with.now c.replace.new.self 0
    c.index_mut.ensures.value
    (room_within c.make_room.new.chunks.items c.args.place c.find-spot.result.chunk
    c.find-spot.result.offset at c.index_mut.result.now c.index_mut.ensures.value)
    c.in_ok-replace.ensures
    ∙ ap (λ xs. take c.args.place xs ++ (c.args.with.now ++ drop (c.args.place + 0) xs))
    c.in_ok-make_room.ensures.joined
    ∙ ap (λ (n : ℕ). take c.args.place (joined c.args.chunks.now.items)
    ++ (c.args.with.now ++ drop n (joined c.args.chunks.now.items))) z
