-- The machine of the code, without where its values lie in memory.
use Rattle.std.specs.Prelude.{ℕ, List, [], map}
use Rattle.itf_reader.specs.declared.machine.state.State.{State as CodeState}
use Rattle.itf_reader.specs.declared.machine.state.State.TheVariants as states
use Rattle.itf_reader.specs.declared.machine.frame.Frame.{Frame}
use Rattle.itf_reader.specs.declared.machine.Machine.{Machine}
use Rattle.itf_reader.specs.Forms.{TableRows, TopicRows}
use Rattle.itf_reader.specs.Machine.{InTopic, InTable, InRow, start, free, title, model, topics}
use Rattle.itf_reader.specs.Machine.{tables, objects, strokes, vertices, arc, last, done}
use Rattle.itf_reader.specs.Refusals.{fault_of}
use Rattle.itf_reader.specs.RowFeeds.{Standing, standing, stopped}
use Rattle.itf_reader.specs.Views.{strokes_of}

-- a topic of which nothing but the number is kept
abbrev pub topic_alone : ℕ → TopicRows
topic_alone number = record { topic = number; tables = [] }

abbrev pub topics_alone : List ℕ → List TopicRows
topics_alone numbers = map topic_alone numbers

abbrev pub table_alone : ℕ → TableRows
table_alone number = record { table = number; rows = [] }

abbrev pub tables_alone : List ℕ → List TableRows
tables_alone numbers = map table_alone numbers

abbrev pub in_topic : Frame → InTopic
in_topic f =
    record { earlier = topics_alone f.topics; number = f.topic; tables = tables_alone f.tables }

abbrev pub in_table : Frame → InTable
in_table f = record { inside = in_topic f; number = f.table; lines = f.lines; rows = [] }

abbrev pub in_row : Machine → InRow
in_row m =
    record {
      inside = in_table m.frame;
      line = m.open.line;
      fields = m.open.fields.items;
      strokes = strokes_of m.open.strokes.given.items;
    }

abbrev pub at_in : CodeState → Machine → Standing
at_in states.BeforeScnt m = standing start
at_in states.InHead m = standing free
at_in states.BeforeMtid m = standing title
at_in states.BeforeModl m = standing model
at_in states.InModel m = standing (topics (topics_alone m.frame.topics))
at_in states.InTopic m = standing (tables (in_topic m.frame))
at_in states.InTable m = standing (objects (in_table m.frame))
at_in states.InObject m = standing (strokes (in_row m))
at_in states.InPolyline m = standing (vertices (in_row m) m.polyline)
at_in states.AfterArcPoint m = standing (arc (in_row m) m.polyline)
at_in states.BeforeEnde m = standing (last (topics_alone m.frame.topics))
at_in states.Done m = standing (done (topics_alone m.frame.topics))
at_in (states.Stopped number code) m = stopped number (fault_of code)

-- the state of the machine
abbrev pub at_of : Machine → Standing
at_of m = at_in m.frame.state m
