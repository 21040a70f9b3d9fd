use Rattle.std.proofs.Common.{map, sym, ap, ◌∙◌, arith, subst, List, length, ◌≤◌, ◌+◌}
use Rattle.std.proofs.lemmas.List.{length-map}
use Rattle.ports.specs.declared.sorted_keys.Ranked.{Ranked}
use Rattle.ports.proofs.FirstPlaces.{IsListedTo, listed_none, pushed, listed_all, key_there}
use Rattle.ports.proofs.sorted_keys.listed.Goals.{in-Some+in_ok-push, in_default}
use Rattle.ports.proofs.sorted_keys.listed.Goals as goal

pub loop-place-preserved : goal.loop-place-preserved
loop-place-preserved g c =
    let keys = map g.K.Keyed.key c.args.keys.now in
    let there = key_there g.K.Keyed.key c.args.keys.now c.loop-place.place c.index-keys-place.result
    c.loop-place-test.true c.index-keys-place.is in
    elim c.match-key.branch [
      | in-Some+in_ok-push w ↦
          pushed keys c.args.skip c.loop-place.place w.in-Some.key.now w.rank.result
          c.loop-place.ranked.items _ (there ∙ sym w.in-Some.ensures) w.rank.ensures
          (ap (λ v. v.items) w.ranked-is ∙ w.in_ok-push.ensures.items) c.loop-place.invariant
      | in_default w ↦
          subst (λ (v : List Ranked). IsListedTo keys c.args.skip (c.loop-place.place + 1) v)
          (ap (λ v. v.items) (sym w.ranked-is))
          (listed_none keys c.args.skip c.loop-place.place c.loop-place.ranked.items (there
          ∙ sym w.in_default.ensures) c.loop-place.invariant)
    ]

pub returns : goal.returns
returns g c =
    let keys = map g.K.Keyed.key c.args.keys.now in
    let n = length-map c.args.keys.now g.K.Keyed.key in
    let l : length keys ≤ c.loop-place.place = omega (arith, n, c.loop-place-test.false) in
    listed_all keys c.args.skip c.loop-place.place c.loop-place.ranked.items l
    c.loop-place.invariant
