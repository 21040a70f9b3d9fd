use Rattle.itf_reader.proofs.Drive.{text_drive}
use Rattle.itf_reader.proofs.Stands.{done_text}
use Rattle.itf_reader.proofs.laws.machine_reads.Goals as goal

pub returns-clause-reads : goal.returns-clause-reads
returns-clause-reads c form lines ts h = text_drive form ts lines h

pub returns-clause-only : goal.returns-clause-only
returns-clause-only c form lines ts h = done_text form lines ts h
