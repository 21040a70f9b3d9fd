use Rattle.ili_grammar.specs.Machine.{items}
use Rattle.ili_grammar.proofs.Follow.{first, handed, no_memory, onward, refused_at, within, and}
use Rattle.ili_grammar.proofs.Follow.{by_way, stay}
use Rattle.ili_grammar.proofs.Symbols.{at_domain, no_item}
use Rattle.std.proofs.Common.{arith, [], ◌∷◌}
use Rattle.ili_grammar.specs.Steps.{rest}
use Rattle.ili_grammar.specs.Values.{domain_of, domains_of}
use Rattle.ili_grammar.proofs.Lists.{pushed}
use Rattle.ili_grammar.proofs.ModelsRead.{domains_on, domains_end}
use Rattle.ili_grammar.proofs.source.Source.domains.Goals as goal

pub domains-preserved : goal.domains-preserved
domains-preserved c =
    let r = rest c.args.self.now in record {
      further = omega (arith, c.domains.invariant.further, c.in_ok-domain.ensures.within);
      within = omega (arith, c.in_ok-domain.ensures.within);
      reads = domains_on (domains_of c.domains.domains.items) (domains_of c.keep.new.items.items)
          (domain_of c.in_ok-domain.domain) (r c.args.at) (r c.domains.first)
          (r c.in_ok-domain.next)
          (pushed domain_of c.domains.domains.items c.keep.new.items.items c.in_ok-domain.domain
          c.in_ok-keep.ensures.added) c.domains.invariant.reads c.in_ok-domain.ensures.reads;
      runs = onward c.domains.invariant.runs tt
          (by_way _ (at_domain 32 _ _ c.domains-test.ensures.here)
          (and c.in_ok-domain.ensures.runs (stay _ (items 32 ∷ []))));
    }

pub returns-clause-reads : goal.returns-clause-reads
returns-clause-reads c =
    domains_end (domains_of c.domains.domains.items) (rest c.args.self.now c.args.at)
    (rest c.args.self.now c.domains.first) c.domains.invariant.reads

pub returns-in_err-domain-clause-stops : goal.returns-in_err-domain-clause-stops
returns-in_err-domain-clause-stops c =
    handed _ _ _ c.from_residual.ensures.1
    (refused_at c.domains.invariant.runs tt
    (within _ (at_domain 32 _ _ c.domains-test.ensures.here)
    (first _ c.in_err-domain.ensures.stops)))

pub returns-in_err-keep-clause-stops : goal.returns-in_err-keep-clause-stops
returns-in_err-keep-clause-stops c =
    handed _ _ _ c.from_residual-in_err-keep.ensures.1
    (no_memory _ _ _ _ c.in_err-keep.ensures.memory)

pub returns-clause-runs : goal.returns-clause-runs
returns-clause-runs c =
    onward c.domains.invariant.runs tt (no_item 32 _ c.domains-test.ensures.here)
