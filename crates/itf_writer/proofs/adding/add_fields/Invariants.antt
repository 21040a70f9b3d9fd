use Rattle.std.proofs.Common.{◌≡◌, ◌++◌, take}
use Rattle.itf_writer.specs.Canonical.{blank_before}
use Rattle.itf_writer.specs.Ends.{last_from}
use Rattle.itf_writer.proofs.adding.add_fields.Given as goal

abbrev pub invariant-loop-field : goal.invariant-loop-field
invariant-loop-field l = record {
  added : l.text ≡ l.fn.text ++ blank_before (take l.field-index l.fields);
  last : l.end ≡ last_from l.last (blank_before (take l.field-index l.fields));
}
