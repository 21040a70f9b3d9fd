-- The outcome where a file was not read.
use Rattle.std.specs.Prelude.{◌≡◌}
use Rattle.commands.specs.declared.files.File.{File}
use Rattle.commands.specs.declared.files.FileRefusal.{FileRefusal}
use Rattle.commands.specs.declared.files.FileRefusal.TheVariants.{Failed, TooLong, Memory}
use Rattle.reports.specs.Outcomes.{Outcome, unread, too_long}

abbrev pub IsNotRead : File → FileRefusal → Outcome → Type 0
IsNotRead file Failed outcome = outcome ≡ unread file
IsNotRead file TooLong outcome = outcome ≡ too_long file
IsNotRead file Memory outcome = ⊥
