use Rattle.delivery.proofs.transfers.judge_text.Goals as goal

pub end-requires-clause-text : goal.end-requires-clause-text
end-requires-clause-text c = (
  c.args.text.now,
  record {
    start = c.new-judge.result;
    opened = c.new-judge.ensures;
    takes = c.in_ok-take.ensures.takes;
    few = c.requires.short;
  },
)

pub judge_end-requires-clause-text : goal.judge_end-requires-clause-text
judge_end-requires-clause-text c = (
  c.args.text.now,
  c.end.ensures c.args.text.now (record {
    start = c.new-judge.result;
    opened = c.new-judge.ensures;
    takes = c.in_ok-take.ensures.takes;
    few = c.requires.short;
  }),
)

pub returns : goal.returns
returns c =
    c.judge_end.ensures c.args.text.now
    (c.end.ensures c.args.text.now (record {
      start = c.new-judge.result;
      opened = c.new-judge.ensures;
      takes = c.in_ok-take.ensures.takes;
      few = c.requires.short;
    }))
