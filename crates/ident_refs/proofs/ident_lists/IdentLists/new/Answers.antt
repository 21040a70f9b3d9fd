use Rattle.std.proofs.Common.{ℕ, [], ◌<◌, List, length, sym, subst}
use Rattle.std.specs.List.{All}
use Rattle.resolver.specs.declared.models.Places.{Places}
use Rattle.ident_refs.specs.SharedLists.{lists_view}
use Rattle.ident_refs.proofs.AllMapped.{all_mapped}
use Rattle.ident_refs.proofs.SharedSteps.{all_within_more, list_step}
use Rattle.ident_refs.proofs.ident_lists.IdentLists.new.Goals as goal

pub number_of-requires-clause-places : goal.number_of-requires-clause-places
number_of-requires-clause-places c =
    subst (λ (l : List ℕ). All (λ p. p < 4194306) l) (sym c.deref-in-loop-place-3.ensures.value)
    (all_mapped (All (λ p. p < 4194306))
    (λ (p : Places). p.places.items) c.args.lists.now c.loop-place.place
    c.index-lists-place.result c.requires c.loop-place-test.true c.index-lists-place.is)

pub loop-place-preserved : goal.loop-place-preserved
loop-place-preserved c = record {
  bare = c.in_ok-number.ensures.bare;
  numbered = c.in_ok-number.ensures.numbered;
  within =
      all_within_more (length c.loop-place.kept.items)
      (length c.number_of.new.kept.items) c.in_ok-number.number c.loop-place.order.items
      c.push.new.self.items c.in_ok-push.ensures.items
      c.loop-place.invariant.within c.in_ok-number.ensures.more c.in_ok-number.ensures.within;
  done = λ codes t.
      list_step codes t c.args.lists.now c.loop-place.place c.index-lists-place.result
      c.deref-in-loop-place-3.result.now (lists_view [] c.loop-place.kept.items)
      (lists_view [] c.number_of.new.kept.items) c.loop-place.order.items c.push.new.self.items
      c.in_ok-number.number
      c.loop-place-test.true c.index-lists-place.is c.deref-in-loop-place-3.ensures.value
      c.in_ok-push.ensures.items
      (c.in_ok-number.ensures.grown c.loop-place.order.items c.loop-place.invariant.within)
      c.in_ok-number.ensures.own (c.loop-place.invariant.done codes t);
}
