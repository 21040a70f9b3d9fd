use Rattle.ili_grammar.proofs.source.Source.topics.Goals.{then-is_keyword}
use Rattle.ili_grammar.proofs.source.Source.topics.Goals.{else-is_keyword+then-is_keyword-2}
use Rattle.ili_grammar.proofs.Follow.{first, handed, no_memory, onward, refused_at, within, and}
use Rattle.ili_grammar.proofs.Follow.{by_way, stay}
use Rattle.ili_grammar.specs.Tokens.{OPTIONAL, word}
use Rattle.ili_grammar.proofs.Symbols.{at_optional_topic, at_topic, no_topic_at}
use Rattle.ili_grammar.specs.Machine.{the_topic, topics}
use Rattle.std.proofs.Common.{arith, [], ◌∷◌}
use Rattle.ili_grammar.specs.Steps.{rest, Goes, past}
use Rattle.ili_grammar.specs.Values.{topic_of, topics_of}
use Rattle.ili_grammar.proofs.Lists.{pushed}
use Rattle.ili_grammar.proofs.ModelsRead.{topics_on, topics_end}
use Rattle.ili_grammar.proofs.source.Source.topics.Goals as goal

pub topics-preserved : goal.topics-preserved
topics-preserved c =
    let r = rest c.args.self.now in record {
      further = omega (arith, c.topics.invariant.further, c.in_ok-topic.ensures.within);
      within = omega (arith, c.in_ok-topic.ensures.within);
      reads = topics_on (topics_of c.topics.topics.items) (topics_of c.keep.new.items.items)
          (topic_of c.in_ok-topic.topic) (r c.args.at) (r c.topics.first) (r c.in_ok-topic.next)
          (pushed topic_of c.topics.topics.items c.keep.new.items.items c.in_ok-topic.topic
          c.in_ok-keep.ensures.added) c.topics.invariant.reads c.in_ok-topic.ensures.reads;
      runs =
          let g : Goes (rest c.args.self.now c.topics.first) (topics 32 ∷ [])
          (past (word OPTIONAL) (rest c.args.self.now c.topics.first))
          (the_topic 32 ∷ topics 32 ∷ []) =
          elim c.if-is_keyword.branch [
            | then-is_keyword w ↦ at_topic 32 _ _ w.if-is_keyword.ensures.here
            | else-is_keyword+then-is_keyword-2 w ↦ at_optional_topic 32 _ _
                w.if-is_keyword-2.ensures.here
          ] in
          onward c.topics.invariant.runs tt
          (by_way _ g (and c.in_ok-topic.ensures.runs (stay _ (topics 32 ∷ []))));
    }

pub returns-clause-reads : goal.returns-clause-reads
returns-clause-reads c =
    topics_end (topics_of c.topics.topics.items) (rest c.args.self.now c.args.at)
    (rest c.args.self.now c.topics.first) c.topics.invariant.reads

pub returns-in_err-topic-clause-stops : goal.returns-in_err-topic-clause-stops
returns-in_err-topic-clause-stops c =
    handed _ _ _ c.from_residual.ensures.1
    (let g : Goes (rest c.args.self.now c.topics.first) (topics 32 ∷ [])
    (past (word OPTIONAL) (rest c.args.self.now c.topics.first)) (the_topic 32 ∷ topics 32 ∷ []) =
    elim c.if-is_keyword.branch [
      | then-is_keyword w ↦ at_topic 32 _ _ w.if-is_keyword.ensures.here
      | else-is_keyword+then-is_keyword-2 w ↦ at_optional_topic 32 _ _
          w.if-is_keyword-2.ensures.here
    ] in
    refused_at c.topics.invariant.runs tt (within _ g (first _ c.in_err-topic.ensures.stops)))

pub returns-in_err-keep-clause-stops : goal.returns-in_err-keep-clause-stops
returns-in_err-keep-clause-stops c =
    handed _ _ _ c.from_residual-in_err-keep.ensures.1
    (no_memory _ _ _ _ c.in_err-keep.ensures.memory)

pub returns-clause-runs : goal.returns-clause-runs
returns-clause-runs c =
    onward c.topics.invariant.runs tt
    (no_topic_at 32 _ c.if-is_keyword.ensures.here c.if-is_keyword-2.ensures.here)
