use Rattle.ident_refs.proofs.EndedKeys.{ended_more, key_longer, none_ended}
use Rattle.ident_refs.proofs.SameAnswers.{same_key}
use Rattle.ident_refs.proofs.row_keys.several_key.Goals as goal

pub returns-in-None : goal.returns-in-None
returns-in-None c =
    same_key c.new.result _ _
    (none_ended c.args.keys.now c.args.numbers.now c.loop-number.number-index 0
    c.loop-number.bytes.items _ c.loop-number-test.true c.in-None.ensures
    c.loop-number.invariant.done)
    c.new.ensures

pub loop-number-preserved : goal.loop-number-preserved
loop-number-preserved c = record {
  key = key_longer c.loop-number.bytes.items c.add_ended.new.into.items _
      c.in_ok-add_ended-in-Some.ensures c.loop-number.invariant.key;
  done =
      ended_more c.args.keys.now c.args.numbers.now c.loop-number.number-index 0
      c.loop-number.bytes.items c.add_ended.new.into.items c.in-Some.key.now _
      c.loop-number-test.true c.in-Some.ensures c.in_ok-add_ended-in-Some.ensures
      c.loop-number.invariant.done;
}
