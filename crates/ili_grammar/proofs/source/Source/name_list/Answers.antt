use Rattle.ili_grammar.specs.Machine.{more_list, name_list}
use Rattle.ili_grammar.specs.Tokens.{comma}
use Rattle.ili_grammar.proofs.Follow.{and, by_way, first, handed, no_memory, onward, refused_at}
use Rattle.ili_grammar.proofs.Follow.{within, by_token}
use Rattle.ili_grammar.proofs.Symbols.{no_name, open_names}
use Rattle.std.proofs.Common.{◌+◌, map, arith, [], refl, ◌∷◌}
use Rattle.ili_grammar.specs.Steps.{rest}
use Rattle.ili_grammar.specs.Values.{ident_of}
use Rattle.ili_grammar.proofs.Lists.{pushed}
use Rattle.ili_grammar.proofs.RulesRead.{names_on, names_end}
use Rattle.ili_grammar.proofs.source.Source.name_list.Goals as goal

pub returns-then-not-is_mark-clause-reads : goal.returns-then-not-is_mark-clause-reads
returns-then-not-is_mark-clause-reads c =
    let r = rest c.args.self.now in
    names_end (map ident_of c.names.names.items) (map ident_of c.keep.new.items.items)
    (ident_of c.in_ok-name.name) (r c.args.at) (r c.names.first) (r c.in_ok-name.next)
    (pushed ident_of c.names.names.items c.keep.new.items.items c.in_ok-name.name
    c.in_ok-keep.ensures.added) c.names.invariant.reads c.in_ok-name.ensures.reads

pub names-preserved : goal.names-preserved
names-preserved c =
    let r = rest c.args.self.now in record {
      further = omega (arith, c.names.invariant.further, c.in_ok-name.ensures.within);
      within = omega (arith, c.if-not-is_mark.ensures.within);
      reads = names_on (map ident_of c.names.names.items) (map ident_of c.keep.new.items.items)
          (ident_of c.in_ok-name.name) (r c.args.at) (r c.names.first) (r c.in_ok-name.next)
          (r (c.in_ok-name.next + 1))
          (pushed ident_of c.names.names.items c.keep.new.items.items c.in_ok-name.name
          c.in_ok-keep.ensures.added) c.names.invariant.reads c.in_ok-name.ensures.reads
          c.if-not-is_mark.ensures.here;
      runs = onward c.names.invariant.runs tt
          (by_way _ (open_names (rest c.args.self.now c.names.first))
          (and c.in_ok-name.ensures.runs
          (by_token more_list comma (name_list ∷ []) _ _
          (λ i. refl) c.if-not-is_mark.ensures.here)));
    }

pub returns-in_err-name-clause-stops : goal.returns-in_err-name-clause-stops
returns-in_err-name-clause-stops c =
    handed _ _ _ c.from_residual.ensures.1
    (refused_at c.names.invariant.runs tt
    (within _ (open_names (rest c.args.self.now c.names.first))
    (first _ c.in_err-name.ensures.stops)))

pub returns-in_err-keep-clause-stops : goal.returns-in_err-keep-clause-stops
returns-in_err-keep-clause-stops c =
    handed _ _ _ c.from_residual-in_err-keep.ensures.1
    (no_memory _ _ _ _ c.in_err-keep.ensures.memory)

pub returns-then-not-is_mark-clause-runs : goal.returns-then-not-is_mark-clause-runs
returns-then-not-is_mark-clause-runs c =
    onward c.names.invariant.runs tt
    (by_way _ (open_names (rest c.args.self.now c.names.first))
    (and c.in_ok-name.ensures.runs (no_name _ c.if-not-is_mark.ensures.here)))
