use Rattle.std.proofs.Common.{◌≡◌, ◌≤◌, ◌<◌, length, map, take, Some}
use Rattle.std.specs.List.{All}
use Rattle.ident_refs.specs.SharedLists.{picked}
use Rattle.ident_refs.proofs.PartNumbers.{Stay}
use Rattle.ident_refs.proofs.ident_lists.place_numbers.Given as goal

abbrev pub invariant-loop-place : goal.invariant-loop-place
invariant-loop-place l = record {
  more : length l.fn.parts.items ≤ length l.parts.items;
  grown : Stay l.fn.parts.items l.parts.items;
  within : All (λ n. n < length l.parts.items) l.numbers.items;
  own : picked l.parts.items l.numbers.items ≡ map Some (take l.place-index l.places);
}
