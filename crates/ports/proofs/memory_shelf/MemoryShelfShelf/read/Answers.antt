use Rattle.std.proofs.Common.{rules}
use Rattle.ports.specs.MemoryFiles.{calls, listed}
use Rattle.ports.proofs.ListedCalls.{still_readable, over_unlisted, space_stays}
use Rattle.ports.proofs.memory_shelf.MemoryShelfShelf.read.Goals as goal

pub returns-in-Some-clause-held : goal.returns-in-Some-clause-held
returns-in-Some-clause-held c = search rules

pub returns-in-Some-clause-rooms : goal.returns-in-Some-clause-rooms
returns-in-Some-clause-rooms c = search rules

pub returns-in-Some-clause-readable : goal.returns-in-Some-clause-readable
returns-in-Some-clause-readable c =
    let now = record c.args.self.now { calls = c.count_call-listed.new.calls } in
    still_readable c.args.self.now now c.count_call-listed.ensures.counted (search rules)
    (returns-in-Some-clause-held c)

pub returns-in-Some-clause-space : goal.returns-in-Some-clause-space
returns-in-Some-clause-space c q =
    let now = record c.args.self.now { calls = c.count_call-listed.new.calls } in
    space_stays c.args.self.now now q c.count_call-listed.ensures.counted (search rules)
    (returns-in-Some-clause-rooms c q)

pub returns-then-not-count_fault-clause-held : goal.returns-then-not-count_fault-clause-held
returns-then-not-count_fault-clause-held c = search rules

pub returns-then-not-count_fault-clause-rooms : goal.returns-then-not-count_fault-clause-rooms
returns-then-not-count_fault-clause-rooms c = search rules

pub returns-then-not-count_fault-clause-readable : goal.returns-then-not-count_fault-clause-readable
returns-then-not-count_fault-clause-readable c =
    let now = record c.args.self.now {
      files = c.count_fault.new.files;
      calls = c.count_call-listed.new.calls;
      missing = c.saturating_add-self.result;
    } in
    still_readable c.args.self.now now c.count_call-listed.ensures.counted (search rules)
    (returns-then-not-count_fault-clause-held c)

pub returns-then-not-count_fault-clause-space : goal.returns-then-not-count_fault-clause-space
returns-then-not-count_fault-clause-space c q =
    let now = record c.args.self.now {
      files = c.count_fault.new.files;
      calls = c.count_call-listed.new.calls;
      missing = c.saturating_add-self.result;
    } in
    space_stays c.args.self.now now q c.count_call-listed.ensures.counted (search rules)
    (returns-then-not-count_fault-clause-rooms c q)

pub returns-else-not-count_fault-clause-held : goal.returns-else-not-count_fault-clause-held
returns-else-not-count_fault-clause-held c = search rules

pub returns-else-not-count_fault-clause-rooms : goal.returns-else-not-count_fault-clause-rooms
returns-else-not-count_fault-clause-rooms c = search rules

pub returns-else-not-count_fault-clause-readable : goal.returns-else-not-count_fault-clause-readable
returns-else-not-count_fault-clause-readable c =
    let now = record c.args.self.now {
      files = c.count_fault.new.files;
      calls = c.count_call-listed.new.calls;
    } in
    still_readable c.args.self.now now c.count_call-listed.ensures.counted (search rules)
    (returns-else-not-count_fault-clause-held c)

pub returns-else-not-count_fault-clause-space : goal.returns-else-not-count_fault-clause-space
returns-else-not-count_fault-clause-space c q =
    let now = record c.args.self.now {
      files = c.count_fault.new.files;
      calls = c.count_call-listed.new.calls;
    } in
    space_stays c.args.self.now now q c.count_call-listed.ensures.counted (search rules)
    (returns-else-not-count_fault-clause-rooms c q)

pub returns-else-not-count_fault-clause-unlisted : goal.returns-else-not-count_fault-clause-unlisted
returns-else-not-count_fault-clause-unlisted c = search rules

pub returns-else-not-count_fault-clause-answers : goal.returns-else-not-count_fault-clause-answers
returns-else-not-count_fault-clause-answers c h =
    returns-else-not-count_fault-clause-unlisted c
    (over_unlisted (calls c.args.self.now) (listed c.args.self.now) h.over) h.there
