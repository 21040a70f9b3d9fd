-- The command of the code and its task, without where they lie in memory.
use Rattle.std.specs.Prelude.{◌≤◌, ⊤}
use Rattle.commands.specs.Commands.{FileNames, Command, compile, on_files, trial, Source, from_file}
use Rattle.commands.specs.Commands.{made, Target, Task, lists, judges, verifies, rewrites}
use Rattle.commands.specs.Commands.{tests_points}
use Rattle.commands.specs.TrialFiles.{transfer_text}
use Rattle.commands.specs.declared.command.FileNames.{FileNames as CodeNames}
use Rattle.commands.specs.declared.command.Command.{Command as CodeCommand}
use Rattle.commands.specs.declared.command.Command.TheVariants as commands
use Rattle.commands.specs.declared.files.File.TheVariants.{Transfer, Certificate, Links}
use Rattle.commands.specs.declared.task.Target.{Target as CodeTarget}
use Rattle.commands.specs.declared.task.Task.{Task as CodeTask}
use Rattle.commands.specs.declared.task.Task.TheVariants as tasks
use Rattle.commands.specs.declared.task.TransferSource.{TransferSource}
use Rattle.commands.specs.declared.task.TransferSource.TheVariants as sources

abbrev pub names_of : CodeNames → FileNames
names_of c =
    record { model = c.model.now; transfer = c.transfer.now; third = c.third.now }

abbrev pub command_of : CodeCommand → Command
command_of (commands.Compile model) = compile model.now
command_of (commands.OnFiles verb c) = on_files verb (names_of c)
command_of (commands.Trial t) = trial t.size t.certificate.now

abbrev pub target_of : CodeTarget → Target
target_of t = record { name = t.name.now; filed = t.filed }

abbrev pub transfer_of : TransferSource → Source
transfer_of (sources.File name) = from_file Transfer name.now
transfer_of (sources.Grid n) = made (transfer_text n)

abbrev pub task_view : CodeTask → Task
task_view tasks.Lists = lists
task_view (tasks.Judges transfer target) = judges (transfer_of transfer) (target_of target)
task_view (tasks.Verifies transfer certificates) =
    verifies (transfer_of transfer) (from_file Certificate certificates.now)
task_view (tasks.Rewrites transfer file) = rewrites (from_file Transfer transfer.now) file.now
task_view (tasks.TestsPoints transfer links) =
    tests_points (from_file Transfer transfer.now) (from_file Links links.now)

-- a grid that is made has no more cells than a size allows
abbrev pub IsSmallSource : TransferSource → Type 0
IsSmallSource (sources.File name) = ⊤
IsSmallSource (sources.Grid n) = n ≤ 500

abbrev pub IsSmallTask : CodeTask → Type 0
IsSmallTask tasks.Lists = ⊤
IsSmallTask (tasks.Judges transfer target) = IsSmallSource transfer
IsSmallTask (tasks.Verifies transfer certificates) = IsSmallSource transfer
IsSmallTask (tasks.Rewrites transfer file) = ⊤
IsSmallTask (tasks.TestsPoints transfer links) = ⊤
