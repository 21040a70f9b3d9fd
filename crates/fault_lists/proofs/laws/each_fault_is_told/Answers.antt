use Rattle.fault_lists.proofs.Told.{outside_told, two_told, empty_told, cut_told}
use Rattle.fault_lists.proofs.laws.each_fault_is_told.Goals as goal

pub returns : goal.returns
returns c = record {
  meeting = λ d g origin f i j all bad. all.meetings.all i j bad;
  on = λ d g origin f j i all lies. all.on.all j i lies;
  outside = λ d g origin f all j. outside_told d g origin f all j;
  two = λ d g origin f all i j. two_told d g origin f all i j;
  empty = λ d g origin f all z. empty_told d g origin f all z;
  cut = λ d g origin f all i c l. cut_told d g origin f all i c l;
}
