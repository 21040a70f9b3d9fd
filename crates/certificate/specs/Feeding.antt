-- A text that comes in pieces: what is still read of it after some of its lines.
use Rattle.std.specs.Prelude.{◌≡◌, ℕ, ◌+◌, ◌≤◌, List, [], ◌∷◌, ◌++◌, length}
use Rattle.std.specs.Prelude.{Result, Ok, Err, ⊤, Bool, false, nat_eq}
use Rattle.std.specs.List.{AllByRecursion}
use Rattle.certificate.specs.declared.fault.CertFault.{CertFault}
use Rattle.certificate.specs.declared.forms.Counts.{Counts}
use Rattle.certificate.specs.declared.forms.Version.{Version}
use Rattle.certificate.specs.declared.notes.HalfNote.{HalfNote}
use Rattle.certificate.specs.declared.notes.Certificate.{Certificate}
use Rattle.certificate.specs.declared.stages.Names.{Names}
use Rattle.certificate.specs.declared.stages.Open.{Open}
use Rattle.certificate.specs.declared.stages.Open.TheVariants.{Nothing, Titled, Sized}
use Rattle.certificate.specs.declared.stages.Listed.{Listed}
use Rattle.certificate.specs.declared.stages.Stage.{Stage}
use Rattle.certificate.specs.declared.stages.Stage.TheVariants.{Start, Versioned, Listing, Failed}
use Rattle.certificate.specs.Spelling.{Plain, ArePaired, view, views}
use Rattle.certificate.specs.Parts.{Title, version_at, areas_at, sizes_at, event_at}
use Rattle.certificate.specs.Parts.{edge_at, place_at, end_at}
use Rattle.certificate.specs.Reading.{◌>>=◌, Text, Lines, Fails, line_at, many_at, plain}
use Rattle.certificate.specs.Reading.{certificate_at, if_ended}

-- the last byte is LF, where there is one
abbrev pub EndsLine : List ℕ → Type 0
EndsLine [] = ⊤
EndsLine (c ∷ []) = c ≡ 10
EndsLine (c ∷ d ∷ bytes) = EndsLine (d ∷ bytes)

-- the bytes after these begin a line, where there are any
abbrev pub MayFollow : List ℕ → List ℕ → Type 0
MayFollow bytes [] = ⊤
MayFollow bytes (c ∷ rest) = EndsLine bytes

-- a text with more bytes at its end
abbrev pub onto : Text → List ℕ → Text
onto text rest = record { rest = text.rest ++ rest; line = text.line }

-- whatever follows: what the first reads from one place is what the second reads from another
abbrev pub LeadsTo : {A : Type 0} → (Text → Result A CertFault) → (Text → Result A CertFault)
    → Text → Text → Type 0
LeadsTo reads next from to =
    (rest : List ℕ) → MayFollow from.rest rest
    → (reads (onto from rest) ≡ next (onto to rest)) × MayFollow to.rest rest

-- whatever follows: the reading has this fault
abbrev pub FailsOn : {A : Type 0} → CertFault → (Text → Result A CertFault) → Text → Type 0
FailsOn e reads from =
    (rest : List ℕ) → MayFollow from.rest rest → Fails e (reads (onto from rest))

-- the second text is what is left of the first
pub record IsLeft (from to : Text) : Type 0 where
  pub lines : to.line + length to.rest ≤ from.line + length from.rest
  pub bytes : length to.rest ≤ length from.rest

-- what was read before, and what is still read
abbrev pub with_front : {A : Type 0} → List A → Lines (List A) → Lines (List A)
with_front front read = read >>= λ x. Ok (front ++ x.0, x.1)

-- after so many values, that many more
abbrev pub more_at : {A : Type 0} → (Text → Lines A) → List A → ℕ → Text → Lines (List A)
more_at one front count text = with_front front (many_at one count text)

-- the rest of a certificate whose points come next
unfoldable pub points_on : Plain → Counts → Text → Lines Plain
points_on c left text = do
  places ← more_at (line_at place_at) c.places left.points text
  end ← line_at end_at places.1
  Ok (
    record {
      topic = c.topic;
      table = c.table;
      attribute = c.attribute;
      level = c.level;
      bent = c.bent;
      positions = c.positions;
      edges = c.edges;
      places = places.0;
    },
    end.1,
  )

abbrev pub with_edges : Plain → List (HalfNote × HalfNote) → Plain
with_edges c edges = record {
  topic = c.topic;
  table = c.table;
  attribute = c.attribute;
  level = c.level;
  bent = c.bent;
  positions = c.positions;
  edges = edges;
  places = c.places;
}

abbrev pub with_positions : Plain → List ℕ → Plain
with_positions c positions = record {
  topic = c.topic;
  table = c.table;
  attribute = c.attribute;
  level = c.level;
  bent = c.bent;
  positions = positions;
  edges = c.edges;
  places = c.places;
}

-- the rest of one whose edges come next
unfoldable pub edges_on : Plain → Counts → Text → Lines Plain
edges_on c left text = do
  edges ← more_at (line_at edge_at) c.edges left.edges text
  points_on (with_edges c edges.0) left edges.1

-- the rest of one whose events come next
unfoldable pub body_on : Plain → Counts → Text → Lines Plain
body_on c left text = do
  positions ← more_at (line_at event_at) c.positions left.events text
  edges_on (with_positions c positions.0) left positions.1

-- the rest of one whose sizes come next
unfoldable pub sizes_on : Version → Title → Text → Lines Plain
sizes_on version title text = do
  sizes ← line_at (sizes_at version) text
  body_on (plain title sizes.0 [] [] []) sizes.0.counts sizes.1

-- the rest of a list, of which so many certificates come
unfoldable pub list_on : Version → ℕ → List Plain → Text → Result (List Plain) CertFault
list_on version left done text = do
  list ← more_at (certificate_at version) done left text
  if_ended list.0 list.1

-- the rest of a list, after that of its open certificate
abbrev pub closes : Version → ℕ → List Plain → Lines Plain → Result (List Plain) CertFault
closes version left done read = read >>= λ c. list_on version left (done ++ c.0 ∷ []) c.1

abbrev pub names_view : Names → Title
names_view names =
    record { topic = names.topic; table = names.table; attribute = names.attribute }

abbrev pub open_on : Version → ℕ → List Plain → Open → Text → Result (List Plain) CertFault
open_on version left done Nothing text = list_on version left done text
open_on version left done (Titled names) text =
    closes version left done (sizes_on version (names_view names) text)
open_on version left done (Sized body) text =
    closes version left done (body_on (view body.certificate) body.left text)

abbrev pub listed_on : Listed → Text → Result (List Plain) CertFault
listed_on l text = open_on l.version l.left (views l.done.items) l.current text

abbrev pub is_complete_at : ℕ → Open → Bool
is_complete_at left Nothing = nat_eq left 0
is_complete_at left (Titled names) = false
is_complete_at left (Sized body) = false

-- no line of the list is to come
abbrev pub is_complete : Listed → Bool
is_complete l = is_complete_at l.left l.current

abbrev pub areas_on : Version → Text → Result (List Plain) CertFault
areas_on version text = line_at areas_at text >>= λ areas. list_on version areas.0 [] areas.1

-- what a text spells from here on, after what was read
abbrev pub stage_on : Stage → Text → Result (List Plain) CertFault
stage_on Start text = line_at version_at text >>= λ version. areas_on version.0 version.1
stage_on (Versioned version) text = areas_on version text
stage_on (Listing l) text = listed_on l text
stage_on (Failed e) text = Err e

abbrev pub ArePairedIn : List Certificate → Type 0
ArePairedIn list = AllByRecursion (λ c. ArePaired c.notes.items) list

abbrev pub IsPairedOpen : Open → Type 0
IsPairedOpen Nothing = ⊤
IsPairedOpen (Titled names) = ⊤
IsPairedOpen (Sized body) = ArePaired body.certificate.notes.items

-- each note that was read has a partner
abbrev pub IsPairedStage : Stage → Type 0
IsPairedStage Start = ⊤
IsPairedStage (Versioned version) = ⊤
IsPairedStage (Listing l) = ArePairedIn l.done.items × IsPairedOpen l.current
IsPairedStage (Failed e) = ⊤
