-- The codes of a report, as it spells them.
use Rattle.std.specs.Prelude.{ℕ, List, codes}
use Rattle.ili_grammar.specs.declared.syntax.SyntaxCode.{SyntaxCode}
use Rattle.ili_grammar.specs.declared.syntax.SyntaxCode.TheVariants as syntax
use Rattle.resolver.specs.declared.faults.ModelCode.{ModelCode}
use Rattle.resolver.specs.declared.faults.ModelCode.TheVariants as model
use Rattle.itf_reader.specs.declared.findings.Code.{Code}
use Rattle.itf_reader.specs.declared.findings.Code.TheVariants as value
use Rattle.itf_reader.specs.Machine.{Word, AsMotr, Name, Twice}
use Rattle.itf_reader.specs.Readings.{Structure, OfLine, End, Continue, Cont}
use Rattle.commands.specs.declared.refusals.RefusalCode.{RefusalCode}
use Rattle.commands.specs.declared.refusals.RefusalCode.TheVariants as refusal

-- ---- refused models
-- the words of the codes of the grammar
abbrev pub syntax_text : SyntaxCode → List ℕ
syntax_text syntax.Expected = codes "expected"
syntax_text syntax.EndName = codes "endname"
syntax_text syntax.FixFormat = codes "fixformat"
syntax_text syntax.Views = codes "views"
syntax_text syntax.LineForm = codes "lineform"
syntax_text syntax.Scaling = codes "scaling"
syntax_text syntax.Codes = codes "codes"
syntax_text syntax.Deep = codes "deep"

-- the words of the codes of names and types
abbrev pub model_text : ModelCode → List ℕ
model_text model.Unknown = codes "unknown"
model_text model.Twice = codes "twice"
model_text model.NotTable = codes "nottable"
model_text model.Cycle = codes "cycle"
model_text model.Bounds = codes "bounds"
model_text model.Decimals = codes "decimals"
model_text model.Wide = codes "wide"
model_text model.NotCoord = codes "notcoord"
model_text model.LineAttr = codes "lineattr"
model_text model.IdentUnknown = codes "identunknown"

-- the word of the code with which a model is refused
abbrev pub refusal_text : RefusalCode → List ℕ
refusal_text refusal.BadByte = codes "badbyte"
refusal_text refusal.OpenExplanation = codes "openexplanation"
refusal_text refusal.LongNumber = codes "longnumber"
refusal_text (refusal.Syntax code) = syntax_text code
refusal_text (refusal.Names code) = model_text code

-- ---- transfers
-- the words of the codes of a line at fault
abbrev pub structure_text : Structure → List ℕ
structure_text (OfLine Word) = codes "word"
structure_text (OfLine AsMotr) = codes "motr"
structure_text (OfLine Name) = codes "name"
structure_text (OfLine Twice) = codes "twice"
structure_text End = codes "end"
structure_text Continue = codes "continue"
structure_text Cont = codes "cont"

-- the words of the codes of findings
abbrev pub code_text : Code → List ℕ
code_text value.Count = codes "count"
code_text value.Undefined = codes "undefined"
code_text value.Number = codes "number"
code_text value.Decimals = codes "decimals"
code_text value.Range = codes "range"
code_text value.Text = codes "text"
code_text value.Date = codes "date"
code_text value.Enum = codes "enum"
code_text value.Coord = codes "coord"
code_text value.Arcs = codes "arcs"
code_text value.Arc = codes "arc"
code_text value.Short = codes "short"
code_text value.Tid = codes "tid"
code_text value.Ident = codes "ident"
code_text value.Reference = codes "reference"
