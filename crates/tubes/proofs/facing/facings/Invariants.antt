use Rattle.std.proofs.Common.{◌≡◌, ◌<◌, ℕ, length, slice_index_or}
use Rattle.plane.specs.Rule.Plans.{plan}
use Rattle.tubes.specs.Facings.{listed_side}
use Rattle.tubes.specs.declared.kinds.Facing.TheVariants as facing
use Rattle.tubes.proofs.facing.facings.Given as goal

abbrev pub invariant-loop-e : goal.invariant-loop-e
invariant-loop-e l = record {
  size : length l.facings.items ≡ l.e;
  each : (k : ℕ) → k < l.e
      → slice_index_or l.facings.items k facing.Neither ≡ listed_side (plan l.drawing) l.list k;
}
