use Rattle.ili_grammar.proofs.source.Source.body.Goals.{else-not-is_keyword-via-then-not-is_keyword+else-not-is_keyword-2}
use Rattle.ili_grammar.proofs.source.Source.body.Goals.{else-not-is_keyword-via-else-not-is_keyword}
use Rattle.ili_grammar.proofs.Symbols.{at_optional_table, at_table, no_part_at}
use Rattle.ili_grammar.specs.Machine.{body, items, the_table}
use Rattle.ili_grammar.specs.Tokens.{DOMAIN, OPTIONAL, word}
use Rattle.ili_grammar.proofs.Follow.{by_token, first, handed, no_memory, onward, refused_at}
use Rattle.ili_grammar.proofs.Follow.{within, and, by_way, stay}
use Rattle.std.proofs.Common.{◌+◌, arith, [], refl, ◌∷◌}
use Rattle.ili_grammar.specs.Steps.{rest, Goes, past}
use Rattle.ili_grammar.specs.Values.{domain_of, domains_of, table_of, tables_of}
use Rattle.ili_grammar.proofs.Lists.{pushed, all_pushed}
use Rattle.ili_grammar.proofs.ModelsRead.{body_domains, body_table, body_end}
use Rattle.ili_grammar.proofs.source.Source.body.Goals as goal

pub body-preserved-then-is_keyword : goal.body-preserved-then-is_keyword
body-preserved-then-is_keyword c =
    let r = rest c.args.self.now in record {
      further = omega (arith, c.body.invariant.further, c.in_ok-more.ensures.within);
      within = omega (arith, c.in_ok-more.ensures.within);
      reads = body_domains (domains_of c.body.domains.items) (domains_of c.keep_all.new.items.items)
          (domains_of c.in_ok-more.more.items) (tables_of c.body.tables.items) (r c.args.at)
          (r c.body.first) (r (c.body.first + 1)) (r c.in_ok-more.next)
          (all_pushed domain_of c.body.domains.items c.in_ok-more.more.items
          c.keep_all.new.items.items c.in_ok-keep_all.ensures.added) c.body.invariant.reads
          c.if-is_keyword.ensures.here c.in_ok-more.ensures.reads;
      runs = onward c.body.invariant.runs tt
          (by_way _ (by_token (body 32) (word DOMAIN) (items 32 ∷ body 32 ∷ []) _ _
          (λ i. refl) c.if-is_keyword.ensures.here)
          (and c.in_ok-more.ensures.runs (stay _ (body 32 ∷ []))));
    }

pub body-preserved : goal.body-preserved
body-preserved c =
    let r = rest c.args.self.now in record {
      further = omega (arith, c.body.invariant.further, c.in_ok-table.ensures.within);
      within = omega (arith, c.in_ok-table.ensures.within);
      reads = body_table (domains_of c.body.domains.items) (tables_of c.body.tables.items)
          (tables_of c.keep.new.items.items) (table_of c.in_ok-table.table) (r c.args.at)
          (r c.body.first) (r c.in_ok-table.next)
          (pushed table_of c.body.tables.items c.keep.new.items.items c.in_ok-table.table
          c.in_ok-keep.ensures.added) c.body.invariant.reads c.in_ok-table.ensures.reads;
      runs =
          let g : Goes (rest c.args.self.now c.body.first) (body 32 ∷ [])
          (past (word OPTIONAL) (rest c.args.self.now c.body.first))
          (the_table 32 ∷ body 32 ∷ []) = elim c.else-not-is_keyword.branch [
            | else-not-is_keyword-via-then-not-is_keyword+else-not-is_keyword-2 w ↦ at_optional_table 32
                _ _ w.if-not-is_keyword-2.ensures.here
            | else-not-is_keyword-via-else-not-is_keyword w ↦ at_table 32 _ _
                w.if-not-is_keyword.ensures.here
          ] in
          onward c.body.invariant.runs tt
          (by_way _ g (and c.in_ok-table.ensures.runs (stay _ (body 32 ∷ []))));
    }

pub returns-then-not-is_keyword-2-clause-reads : goal.returns-then-not-is_keyword-2-clause-reads
returns-then-not-is_keyword-2-clause-reads c =
    body_end (domains_of c.body.domains.items) (tables_of c.body.tables.items)
    (rest c.args.self.now c.args.at) (rest c.args.self.now c.body.first) c.body.invariant.reads

pub returns-in_err-more-clause-stops : goal.returns-in_err-more-clause-stops
returns-in_err-more-clause-stops c =
    handed _ _ _ c.from_residual.ensures.1
    (refused_at c.body.invariant.runs tt
    (within _ (by_token (body 32) (word DOMAIN) (items 32 ∷ body 32 ∷ []) _ _
    (λ i. refl) c.if-is_keyword.ensures.here) (first _ c.in_err-more.ensures.stops)))

pub returns-in_err-keep_all-clause-stops : goal.returns-in_err-keep_all-clause-stops
returns-in_err-keep_all-clause-stops c =
    handed _ _ _ c.from_residual-in_err-keep_all.ensures.1
    (no_memory _ _ _ _ c.in_err-keep_all.ensures.memory)

pub returns-in_err-table-clause-stops : goal.returns-in_err-table-clause-stops
returns-in_err-table-clause-stops c =
    handed _ _ _ c.from_residual-in_err-table.ensures.1
    (let g : Goes (rest c.args.self.now c.body.first) (body 32 ∷ [])
    (past (word OPTIONAL) (rest c.args.self.now c.body.first)) (the_table 32 ∷ body 32 ∷ []) =
    elim c.else-not-is_keyword.branch [
      | else-not-is_keyword-via-then-not-is_keyword+else-not-is_keyword-2 w ↦ at_optional_table 32 _ _
          w.if-not-is_keyword-2.ensures.here
      | else-not-is_keyword-via-else-not-is_keyword w ↦ at_table 32 _ _ w.if-not-is_keyword.ensures.here
    ] in
    refused_at c.body.invariant.runs tt (within _ g (first _ c.in_err-table.ensures.stops)))

pub returns-in_err-keep-clause-stops : goal.returns-in_err-keep-clause-stops
returns-in_err-keep-clause-stops c =
    handed _ _ _ c.from_residual-in_err-keep.ensures.1
    (no_memory _ _ _ _ c.in_err-keep.ensures.memory)

pub returns-then-not-is_keyword-2-clause-runs : goal.returns-then-not-is_keyword-2-clause-runs
returns-then-not-is_keyword-2-clause-runs c =
    onward c.body.invariant.runs tt
    (no_part_at 32 _ c.if-is_keyword.ensures.here c.if-not-is_keyword.ensures.here
    c.if-not-is_keyword-2.ensures.here)
