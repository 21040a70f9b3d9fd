-- A swept run by numbers: its steps, its live lists, and each moment of it.
-- It leads from lists of steps that are done and to do to steps by number.
use Rattle.std.proofs.Common.{◌≡◌, ℕ, zero, suc, ◌+◌, ◌-◌, ◌<◌, ◌≤◌, List, [], ◌∷◌, length, get_or}
use Rattle.std.proofs.Common.{ℤ, ◌<ℤ◌, refl, arith, ap, sym, ◌∙◌, inl, inr, subst}
use Rattle.plane.specs.declared.kinds.Point.{Point}
use Rattle.plane.specs.Lists.{Has}
use Rattle.plane.specs.Forms.Vectors.{point, Edge, sweep}
use Rattle.plane.specs.Runs.Steps.{Step, before, after, onto, live, GoodStep, IsReplay, Rising}
use Rattle.plane.specs.Runs.Steps.{WeighedRun, AtSome}
use Rattle.plane.specs.Faces.Replays.{no_step, list_after, replay}
use Rattle.plane.proofs.Runs.RunWords.{IsRun}
use Rattle.plane.proofs.ListLemmas.Lists.{each_has}
use Rattle.plane.proofs.Strips.OneStrip.{by_last}

abbrev pub nth : List Step → ℕ → Step
nth steps k = get_or steps k no_step

pub list_next : (now : List ℕ) (steps : List Step) (k : ℕ) → k < length steps
    → list_after now steps (suc k) ≡ after (nth steps k)
list_next now [] k h = absurd (omega arith)
list_next now (s ∷ steps) zero h = refl
list_next now (s ∷ steps) (suc k) h = list_next (after s) steps k (omega arith)

list_here : (m : ℕ) (E : ℕ → Edge) (now : List ℕ) (steps : List Step) (k : ℕ)
    → IsReplay m E now steps → k < length steps → list_after now steps k ≡ before (nth steps k)
list_here m E now [] k r h = absurd (omega arith)
list_here m E now (s ∷ steps) zero r h = r.0
list_here m E now (s ∷ steps) (suc k) r h = list_here m E (after s) steps k r.2 (omega arith)

pub good_at : (m : ℕ) (E : ℕ → Edge) (now : List ℕ) (steps : List Step) (k : ℕ)
    → IsReplay m E now steps → k < length steps → GoodStep m E (nth steps k)
good_at m E now [] k r h = absurd (omega arith)
good_at m E now (s ∷ steps) zero r h = r.1
good_at m E now (s ∷ steps) (suc k) r h = good_at m E (after s) steps k r.2 (omega arith)

pub has_nth : (steps : List Step) (k : ℕ) → k < length steps → Has (nth steps k) steps
has_nth [] k h = absurd (omega arith)
has_nth (s ∷ steps) zero h = inl refl
has_nth (s ∷ steps) (suc k) h = inr (has_nth steps k (omega arith))

pub index_of : (steps : List Step) (s : Step) → Has s steps
    → (k : ℕ) × (k < length steps) × (nth steps k ≡ s)
index_of [] s h = absurd h
index_of (t ∷ steps) s (inl e) = (0, omega arith, sym e)
index_of (t ∷ steps) s (inr h) =
    let i = index_of steps s h in let l = i.1 in (suc i.0, omega (arith, l), i.2)

rising_at : (w : ℤ) (steps : List Step) (j k : ℕ) → Rising w steps → j < k → k < length steps
    → sweep w (point (nth steps j).at) <ℤ sweep w (point (nth steps k).at)
rising_at w [] j k r a b = absurd (omega arith)
rising_at w (s ∷ steps) j zero r a b = absurd (omega arith)
rising_at w (s ∷ steps) zero (suc k) r a b =
    each_has (λ t. sweep w (point s.at) <ℤ sweep w (point t.at)) steps (nth steps k) r.0
    (has_nth steps k (omega arith))
rising_at w (s ∷ steps) (suc j) (suc k) r a b =
    rising_at w steps j k r.1 (omega arith) (omega arith)

-- the event of a point
event_of : (steps : List Step) (p : Point) → AtSome p steps
    → (j : ℕ) × (j < length steps) × ((nth steps j).at ≡ p)
event_of steps p a =
    let i = index_of steps a.0 a.1 in
    (i.0, i.1, ap (λ (s : Step). s.at) i.2 ∙ sym a.2)

-- a swept run is a run by numbers
pub swept_run : (w : ℤ) (m : ℕ) (E : ℕ → Edge) (steps : List Step) → WeighedRun w m E steps
    → IsRun (replay w m E steps)
swept_run w m E steps h = record {
  first = refl;
  before = λ k l. list_here m E [] steps k h.replays l;
  after = λ k l. list_next [] steps k l;
  ending = λ k l e n. ((good_at m E [] steps k h.replays l).ending_only e n).1;
  starting = λ k l e n. ((good_at m E [] steps k h.replays l).starting_only e n).1;
  met = λ k l. h.events (nth steps k) (has_nth steps k l);
  begins = λ e l. event_of steps (E e).low (h.ends e l).0;
  ends = λ e l. event_of steps (E e).high (h.ends e l).1;
  rising = λ j k a b. rising_at w steps j k h.rising a b;
  rise = h.rises;
}

-- ---- moments by numbers
-- the first k steps are done, the others are to do
pub record IsCut (all : List Step) (k : ℕ) (done todo : List Step) : Type 0 where
  pub whole : onto done todo ≡ all
  pub size : length all ≡ k + length todo
  pub now : live done ≡ list_after [] all k
  pub rest : (j : ℕ) → j < length todo → nth todo j ≡ nth all (k + j)
  pub early : (s : Step) → Has s done → (j : ℕ) × (j < k) × (nth all j ≡ s)
  pub passed : (j : ℕ) → j < k → Has (nth all j) done

one_more : (all : List Step) (k : ℕ) (done : List Step) (s : Step) (todo : List Step)
    → IsCut all k done (s ∷ todo) → IsCut all (suc k) (s ∷ done) todo
one_more all k done s todo c =
    let size = c.size in
    let here : s ≡ nth all k = c.rest 0 (omega arith) ∙ ap (nth all) (omega arith) in
    record {
      whole = c.whole;
      size = omega (arith, size);
      now = ap after here ∙ sym (list_next [] all k (omega (arith, size)));
      rest = λ (j : ℕ) (l : j < length todo). c.rest (suc j) (omega arith)
          ∙ ap (nth all) (omega arith);
      early = λ t n. earlier t n here;
      passed = λ (j : ℕ) (l : j < suc k). by_last j k l (λ (a : j < k). inr (c.passed j a))
          (λ (e : j ≡ k). inl (ap (nth all) e ∙ sym here));
    }
  where
    earlier : (t : Step) → Has t (s ∷ done) → s ≡ nth all k
        → (j : ℕ) × (j < suc k) × (nth all j ≡ t)
    earlier t (inl e) here = (k, omega arith, sym (e ∙ here))
    earlier t (inr n) here = let a = c.early t n in let l = a.1 in (a.0, omega (arith, l), a.2)

pub cut_at : (all : List Step) (k : ℕ) → k ≤ length all
    → (done : List Step) × (todo : List Step) × IsCut all k done todo
cut_at all zero h = (
  [],
  all,
  record {
    whole = refl;
    size = omega arith;
    now = refl;
    rest = λ (j : ℕ) (l : j < length all). ap (nth all) (omega arith);
    early = λ s n. absurd n;
    passed = λ (j : ℕ) (l : j < 0). absurd (omega arith);
  },
)
cut_at all (suc k) h = let c = cut_at all k (omega arith) in next c.0 c.1 c.2
  where
    next : (done todo : List Step) → IsCut all k done todo
        → (d : List Step) × (t : List Step) × IsCut all (suc k) d t
    next done [] c = let size = c.size in absurd (omega (arith, size, h))
    next done (s ∷ todo) c = (s ∷ done, todo, one_more all k done s todo c)

pub late : (all : List Step) (k : ℕ) (done todo : List Step) → IsCut all k done todo → (s : Step)
    → Has s todo → (j : ℕ) × (k ≤ j) × (j < length all) × (nth all j ≡ s)
late all k done todo c s n =
    let i = index_of todo s n in
    let l = i.1 in
    let size = c.size in
    (k + i.0, omega arith, omega (arith, size, l), sym (c.rest i.0 i.1) ∙ i.2)

pub comes : (all : List Step) (k : ℕ) (done todo : List Step) → IsCut all k done todo → (j : ℕ)
    → k ≤ j → j < length all → Has (nth all j) todo
comes all k done todo c j a b =
    let size = c.size in
    let l : j - k < length todo = omega (arith, size) in
    let e : nth todo (j - k) ≡ nth all j = c.rest (j - k) l ∙ ap (nth all) (omega arith) in
    subst (λ (s : Step). Has s todo) e (has_nth todo (j - k) l)
