-- The words of the command line, and the files that a command reads and writes.
use Rattle.std.specs.Prelude.{◌≡◌, ◌≤◌, ℕ, Bool, true, false, not, ◌==◌, List, [], ◌∷◌, Option}
use Rattle.std.specs.Prelude.{Some, None, ⊤, codes}
use Rattle.commands.specs.TrialFiles.{IsSize, model_text, transfer_text}
use Rattle.commands.specs.declared.command.Verb.{Verb}
use Rattle.commands.specs.declared.command.Verb.TheVariants.{Check, Verify, Polygons, Canonical}
use Rattle.commands.specs.declared.command.Verb.TheVariants.{Points}
use Rattle.commands.specs.declared.files.File.{File}
use Rattle.commands.specs.declared.files.File.TheVariants.{Model, Transfer, Certificate, Links}
use Rattle.commands.specs.declared.task.Filed.{Filed}
use Rattle.commands.specs.declared.task.Filed.TheVariants as filed

-- the model, the transfer, and a third file, which the verb reads or writes
pub record FileNames : Type 0 where
  pub model : List ℕ
  pub transfer : List ℕ
  pub third : List ℕ

-- what the words may ask for
pub data Command : Type 0 where
  -- compile M: the model
  compile : List ℕ → Command
  -- check M T C: the certificates are written to their file; verify M T C: they are read from it;
  -- polygons M T P: the polygons of the areas are written to their file; canonical M T O: the
  -- transfer is written to its file; points M T L: the links are read from their file
  on_files : Verb → FileNames → Command
  -- trial N C: so many cells a side, and the file that the certificates are written to
  trial : ℕ → List ℕ → Command

-- a name of a file is not empty and does not begin with a minus
abbrev pub is_file_name : List ℕ → Bool
is_file_name [] = false
is_file_name (c ∷ name) = not (c == 45)

-- the first word of a command on three files
abbrev pub verb_word : Verb → List ℕ
verb_word Check = codes "check"
verb_word Verify = codes "verify"
verb_word Polygons = codes "polygons"
verb_word Canonical = codes "canonical"
verb_word Points = codes "points"

-- the words spell this command
pub record IsCompile (words : List (List ℕ)) (model : List ℕ) : Type 0 where
  pub spelled : words ≡ codes "compile" ∷ model ∷ []
  pub is_name : is_file_name model ≡ true

-- the words are this command and the names of three files
pub record IsSpelled (command : List ℕ) (words : List (List ℕ)) (c : FileNames) : Type 0 where
  pub spelled : words ≡ command ∷ c.model ∷ c.transfer ∷ c.third ∷ []
  pub model : is_file_name c.model ≡ true
  pub transfer : is_file_name c.transfer ≡ true
  pub third : is_file_name c.third ≡ true

-- trial N C: the word that is a size, and the name
pub record IsTrial (words : List (List ℕ)) (size : ℕ) (certificate : List ℕ) : Type 0 where
  pub word : List ℕ
  pub spelled : words ≡ codes "trial" ∷ word ∷ certificate ∷ []
  pub is_size : IsSize word size
  pub is_name : is_file_name certificate ≡ true

-- the words spell the command
abbrev pub IsCommand : List (List ℕ) → Command → Type 0
IsCommand words (compile model) = IsCompile words model
IsCommand words (on_files verb c) = IsSpelled (verb_word verb) words c
IsCommand words (trial n c) = IsTrial words n c

-- a trial has no more cells than a size allows
abbrev pub IsWithin : Command → Type 0
IsWithin (compile model) = ⊤
IsWithin (on_files verb c) = ⊤
IsWithin (trial n c) = n ≤ 500

-- the words are no command
abbrev pub IsUsage : List (List ℕ) → Type 0
IsUsage words = (c : Command) → IsCommand words c → ⊥

-- ---- the files of a command
-- a text that a command works on
pub data Source : Type 0 where
  -- of a file: what the report calls it, and its name
  from_file : File → List ℕ → Source
  -- made in memory
  made : List ℕ → Source

-- the greatest lengths of files, in bytes
abbrev pub limit_of : File → ℕ
limit_of Model = 4194304
limit_of Transfer = 268435456
limit_of Certificate = 1073741824
limit_of Links = 65536

-- the model, which comes first and is compiled
abbrev pub model_of : Command → Source
model_of (compile model) = from_file Model model
model_of (on_files verb c) = from_file Model c.model
model_of (trial n c) = made model_text

-- ---- what a command does
-- what is written of a transfer that is judged and accepted, and the name of its file
pub record Target : Type 0 where
  pub name : List ℕ
  pub filed : Filed

-- where a check files its certificates
abbrev pub check_target : List ℕ → Target
check_target name = record { name = name; filed = filed.Certificates }

-- where a trial of size n files its certificates
abbrev pub trial_target : ℕ → List ℕ → Target
trial_target n name = record { name = name; filed = filed.Trial n }

-- where the polygons of areas are filed
abbrev pub polygons_target : List ℕ → Target
polygons_target name = record { name = name; filed = filed.Polygons }

-- what is done once the model is compiled
pub data Task : Type 0 where
  -- its tables are listed
  lists : Task
  -- a transfer is judged, and where it is accepted its target is written
  judges : Source → Target → Task
  -- a transfer is judged, and the filed certificates against its areas
  verifies : Source → Source → Task
  -- a transfer is written to the file of that name, in its canonical text
  rewrites : Source → List ℕ → Task
  -- a transfer is judged, and whether the points that the links state lie in their areas
  tests_points : Source → Source → Task

-- the task of a command on three files
abbrev pub verb_task : Verb → FileNames → Task
verb_task Check c = judges (from_file Transfer c.transfer) (check_target c.third)
verb_task Verify c = verifies (from_file Transfer c.transfer) (from_file Certificate c.third)
verb_task Polygons c = judges (from_file Transfer c.transfer) (polygons_target c.third)
verb_task Canonical c = rewrites (from_file Transfer c.transfer) c.third
verb_task Points c = tests_points (from_file Transfer c.transfer) (from_file Links c.third)

-- the task of a command
abbrev pub task_of : Command → Task
task_of (compile model) = lists
task_of (on_files verb c) = verb_task verb c
task_of (trial n c) = judges (made (transfer_text n)) (trial_target n c)

-- the texts that are read for it, in order
abbrev pub further_files : Task → List Source
further_files lists = []
further_files (judges transfer target) = transfer ∷ []
further_files (verifies transfer certificates) = transfer ∷ certificates ∷ []
further_files (rewrites transfer name) = transfer ∷ []
further_files (tests_points transfer links) = transfer ∷ links ∷ []

-- the file that is written
abbrev pub writes_to : Task → Option (List ℕ)
writes_to lists = None
writes_to (judges transfer target) = Some target.name
writes_to (verifies transfer certificates) = None
writes_to (rewrites transfer name) = Some name
writes_to (tests_points transfer links) = None
