use Rattle.ili_grammar.specs.Machine.{lists}
use Rattle.ili_grammar.proofs.Follow.{first, handed, no_memory, onward, refused_at, within, and}
use Rattle.ili_grammar.proofs.Follow.{stay, by_way}
use Rattle.ili_grammar.proofs.Symbols.{at_list, no_list_at}
use Rattle.std.proofs.Common.{[], arith, rules, ◌∷◌}
use Rattle.ili_grammar.specs.Steps.{rest}
use Rattle.ili_grammar.specs.Values.{names_of, lists_of}
use Rattle.ili_grammar.proofs.Lists.{pushed}
use Rattle.ili_grammar.proofs.RulesRead.{lists_first, lists_on, lists_end}
use Rattle.ili_grammar.proofs.source.Source.lists.Goals as goal

pub lists-init : goal.lists-init
lists-init c =
    let r = rest c.args.self.now in record {
      further = omega (arith, c.in_ok-list.ensures.within);
      within = omega (arith, c.in_ok-list.ensures.within);
      reads = lists_first (lists_of c.keep.new.items.items) (names_of c.in_ok-list.list)
          (r c.args.at) (r c.in_ok-list.next)
          (pushed names_of [] c.keep.new.items.items c.in_ok-list.list (search rules))
          c.in_ok-list.ensures.reads;
      runs = and c.in_ok-list.ensures.runs (stay _ (lists ∷ []));
    }

pub lists-preserved : goal.lists-preserved
lists-preserved c =
    let r = rest c.args.self.now in record {
      further = omega (arith, c.lists.invariant.further, c.in_ok-list-2.ensures.within);
      within = omega (arith, c.in_ok-list-2.ensures.within);
      reads = lists_on (lists_of c.lists.lists.items) (lists_of c.keep-in-lists.new.items.items)
          (names_of c.in_ok-list-2.list) (r c.args.at) (r c.lists.first) (r c.in_ok-list-2.next)
          (pushed names_of c.lists.lists.items c.keep-in-lists.new.items.items c.in_ok-list-2.list
          c.in_ok-keep-2.ensures.added) c.lists.invariant.reads c.in_ok-list-2.ensures.reads;
      runs = onward c.lists.invariant.runs tt
          (by_way _ (at_list _ _ c.lists-test.ensures.here)
          (and c.in_ok-list-2.ensures.runs (stay _ (lists ∷ []))));
    }

pub returns-clause-reads : goal.returns-clause-reads
returns-clause-reads c =
    lists_end (lists_of c.lists.lists.items) (rest c.args.self.now c.args.at)
    (rest c.args.self.now c.lists.first) c.lists.invariant.reads

pub returns-in_err-list-clause-stops : goal.returns-in_err-list-clause-stops
returns-in_err-list-clause-stops c =
    handed _ _ _ c.from_residual.ensures.1 (first _ c.in_err-list.ensures.stops)

pub returns-in_err-keep-clause-stops : goal.returns-in_err-keep-clause-stops
returns-in_err-keep-clause-stops c =
    handed _ _ _ c.from_residual-in_err-keep.ensures.1
    (no_memory _ _ _ _ c.in_err-keep.ensures.memory)

pub returns-in_err-list-2-clause-stops : goal.returns-in_err-list-2-clause-stops
returns-in_err-list-2-clause-stops c =
    handed _ _ _ c.from_residual-in_err-list-2.ensures.1
    (refused_at c.lists.invariant.runs tt
    (within _ (at_list _ _ c.lists-test.ensures.here) (first _ c.in_err-list-2.ensures.stops)))

pub returns-in_err-keep-2-clause-stops : goal.returns-in_err-keep-2-clause-stops
returns-in_err-keep-2-clause-stops c =
    handed _ _ _ c.from_residual-in_err-keep-2.ensures.1
    (no_memory _ _ _ _ c.in_err-keep-2.ensures.memory)

pub returns-clause-runs : goal.returns-clause-runs
returns-clause-runs c = onward c.lists.invariant.runs tt (no_list_at _ c.lists-test.ensures.here)
