use Rattle.std.proofs.Common.{map}
use Rattle.ports.proofs.FirstPlaces.{IsListedTo}
use Rattle.ports.proofs.sorted_keys.listed.Given as goal

abbrev pub invariant-loop-place : goal.invariant-loop-place
invariant-loop-place g l = IsListedTo (map g.K.Keyed.key l.keys) l.skip l.place l.ranked.items
