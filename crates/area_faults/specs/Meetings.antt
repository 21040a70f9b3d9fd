-- Lists of pairs of curves that meet badly.
use Rattle.std.specs.Prelude.{◌≡◌, ℕ, ◌<◌, List, length, map}
use Rattle.std.specs.List.{All, Contains}
use Rattle.std.specs.List.Sorted.{IsStrictlyIncreasing}
use Rattle.plane.specs.Rule.BadPairs.{IsBadPair}
use Rattle.plane.specs.Rule.Plans.{Plan, curve}
use Rattle.near_pairs.specs.PairLists.{code}
use Rattle.fault_lists.specs.declared.kinds.MeetingAt.{MeetingAt}
use Rattle.fault_lists.specs.FaultLists.{AreMeetings, IsMeetingPlace}
use Rattle.area_faults.specs.declared.meeting_lists.MeetingList.{MeetingList}
use Rattle.area_faults.specs.declared.meeting_lists.MeetingList.TheVariants as list

-- the number of a pair in the order of pairs
abbrev pub entry_code : MeetingAt → ℕ
entry_code m = code m.first m.second

-- The entry names two curves that meet badly, with a place.
pub record IsMeeting (d : Plan) (m : MeetingAt) : Type 0 where
  pub bad : IsBadPair d m.first m.second
  pub near : IsMeetingPlace (curve d m.first) (curve d m.second) m.at

-- Such entries, each once and in order.
pub record AreSomeMeetings (d : Plan) (ms : List MeetingAt) : Type 0 where
  pub each : (m : MeetingAt) → Contains ms m → IsMeeting d m
  pub rise : IsStrictlyIncreasing (map entry_code ms)

-- More than 1,000,000 such entries.
pub record AreManyMeetings (d : Plan) (ms : List MeetingAt) : Type 0 where
  pub some : AreSomeMeetings d ms
  pub more : 1000000 < length ms

-- All pairs that meet badly, or some of very many.
abbrev pub IsMeetingList : Plan → MeetingList → Type 0
IsMeetingList d (list.All ms) = AreMeetings d ms.items
IsMeetingList d (list.Many ms) = AreManyMeetings d ms.items

-- The entries of the pairs of these codes, in their order.
pub record AreEntries (d : Plan) (codes : List ℕ) (ms : List MeetingAt) : Type 0 where
  pub codes_are : map entry_code ms ≡ codes
  pub each : All (IsMeeting d) ms
