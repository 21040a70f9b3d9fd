-- The form by which the transfers of a layout are read, whose names are kept.
use Rattle.table_layout.specs.Values.{layout_view}
use Rattle.itf_reader.specs.declared.machine.names.Names.{Names}
use Rattle.itf_reader.specs.Forms.{Form}
use Rattle.itf_reader.specs.Layouts.{form_of}

abbrev pub form_in : Names → Form
form_in names = form_of (layout_view names.layout.now)
