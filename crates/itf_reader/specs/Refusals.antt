-- What a refusal of the code means.
use Rattle.itf_lines.specs.LogicalLines.{LogicalLines}
use Rattle.itf_reader.specs.declared.transfer.Structure.{Structure}
use Rattle.itf_reader.specs.declared.transfer.Structure.TheVariants as codes
use Rattle.itf_reader.specs.declared.refusal.ReadRefusal.{ReadRefusal}
use Rattle.itf_reader.specs.declared.refusal.ReadRefusal.TheVariants as refusals
use Rattle.itf_reader.specs.Forms.{Form}
use Rattle.itf_reader.specs.Machine.{Word, AsMotr, Name, Twice}
use Rattle.itf_reader.specs.Readings.{Structure as Fault, OfLine, End, Continue, Cont, IsRefused}

abbrev pub fault_of : Structure → Fault
fault_of codes.Word = OfLine Word
fault_of codes.Motr = OfLine AsMotr
fault_of codes.Name = OfLine Name
fault_of codes.Twice = OfLine Twice
fault_of codes.End = End
fault_of codes.Continue = Continue
fault_of codes.Cont = Cont

-- the lines are refused at that line with that code; out of memory says nothing of them
abbrev pub Refuses : Form → LogicalLines → ReadRefusal → Type 0
Refuses form given (refusals.At line code) = IsRefused form given line (fault_of code)
Refuses form given refusals.Memory = Unit {0}
