use Rattle.std.proofs.Common.{rules, Some, length}
use Rattle.ports.proofs.ListedCalls.{room_sure, output_fell}
use Rattle.ports.specs.contracts.memory_sink.MemorySink as sink
use Rattle.ports.proofs.memory_sink.MemorySinkSink.put.Goals as goal

pub returns-then-is_ok-clause-room : goal.returns-then-is_ok-clause-room
returns-then-is_ok-clause-room c = search rules

pub returns-then-is_ok-clause-space : goal.returns-then-is_ok-clause-space
returns-then-is_ok-clause-space c =
    let now = sink.the_view (record {
      bytes = c.extend_from_slice.new.self;
      failing = c.self.inside.failing;
      calls = c.count_call-listed.new.calls;
      faults = c.self.inside.faults;
    }) in
    output_fell (length c.args.bytes.now) c.args.self.now now (search rules) (search rules)
    (returns-then-is_ok-clause-room c)

pub returns-clause-unlisted : goal.returns-clause-unlisted
returns-clause-unlisted c = search rules

pub returns-clause-answers : goal.returns-clause-answers
returns-clause-answers c h =
    let sure = room_sure (length c.args.bytes.now) c.args.self.now.calls c.args.self.now.listed
    (Some c.args.self.now.room) h in
    returns-clause-unlisted c sure.0 sure.1

pub returns-clause-calls : goal.returns-clause-calls
returns-clause-calls c = search rules

pub returns-clause-list : goal.returns-clause-list
returns-clause-list c = search rules

pub returns-clause-room : goal.returns-clause-room
returns-clause-room c = search rules

pub returns-clause-space : goal.returns-clause-space
returns-clause-space c =
    let now = sink.the_view (record {
      bytes = c.else-not-listed.self-inside.bytes;
      failing = c.else-not-listed.self-inside.failing;
      calls = c.else-not-listed.self-inside.calls;
      faults = c.saturating_add-self-inside.result;
    }) in
    output_fell (length c.args.bytes.now) c.args.self.now now (returns-clause-calls c)
    (returns-clause-list c) (returns-clause-room c)
