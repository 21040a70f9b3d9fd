-- Each half-edge has a next one, and is the next one of some half-edge.
-- Only lists are looked at: in a list that is read round, each element has one before it and one
-- after it.
use Rattle.std.proofs.Common.{◌≡◌, ◌⊎◌, ◌<◌, List, [], ◌∷◌, refl, sym, subst, inl, inr}
use Rattle.plane.specs.Lists.{Has}
use Rattle.plane.specs.Faces.Replays.{Replay}
use Rattle.plane.proofs.Runs.RunWords.{IsRun, IsLawful}
use Rattle.plane.specs.Faces.Halves.{Half, under, over, edge_of, twin}
use Rattle.plane.specs.Faces.Classes.{fan, IsLast, Follows, FollowsRound, Next}
use Rattle.plane.proofs.Turning.RunFans.{fan_all}

inner : {X : Type 0} (z : X) (zs : List X) (t : X) → Has t zs → (g : X) × Follows (z ∷ zs) g t
inner z [] t h = absurd h
inner z (y ∷ ys) t (inl e) = (z, inl (refl, e))
inner z (y ∷ ys) t (inr h) = let k = inner y ys t h in (k.0, inr k.1)

some_last : {X : Type 0} (z : X) (zs : List X) → (g : X) × IsLast g (z ∷ zs)
some_last z [] = (z, refl)
some_last z (y ∷ ys) = some_last y ys

some_before : {X : Type 0} (xs : List X) (t : X) → Has t xs → (g : X) × FollowsRound xs g t
some_before [] t h = absurd h
some_before (z ∷ zs) t (inl e) = let k = some_last z zs in (k.0, inr (k.1, e))
some_before (z ∷ zs) t (inr h) = let k = inner z zs t h in (k.0, inl k.1)

after_or_last : {X : Type 0} (z : X) (zs : List X) (t : X) → Has t (z ∷ zs)
    → ((g : X) × Follows (z ∷ zs) t g) ⊎ IsLast t (z ∷ zs)
after_or_last z [] t (inl e) = inr e
after_or_last z [] t (inr h) = absurd h
after_or_last z (y ∷ ys) t (inl e) = inl (y, inl (e, refl))
after_or_last z (y ∷ ys) t (inr h) =
    elim (after_or_last y ys t h) [ inl k ↦ inl (k.0, inr k.1) | inr l ↦ inr l ]

some_after : {X : Type 0} (xs : List X) (t : X) → Has t xs → (g : X) × FollowsRound xs t g
some_after [] t h = absurd h
some_after (z ∷ zs) t h =
    elim (after_or_last z zs t h) [ inl k ↦ (k.0, inl k.1) | inr l ↦ (z, inr (l, refl)) ]

pub twice : (h : Half) → twin (twin h) ≡ h
twice (under e) = refl
twice (over e) = refl

module _ (r : Replay) (run : IsRun r) (law : IsLawful r) where
  pub next_some : (h : Half) → edge_of h < r.edges → (g : Half) × Next r h g
  next_some (under e) l =
      let b = run.begins e l in
      let k = some_before (fan (r.step b.0)) (over e)
      (fan_all r run law b.0 b.1 (over e) l (sym b.2)) in
      (k.0, record { event = b.0; fits = b.1; turn = k.1 })
  next_some (over e) l =
      let b = run.ends e l in
      let k = some_before (fan (r.step b.0)) (under e)
      (fan_all r run law b.0 b.1 (under e) l (sym b.2)) in
      (k.0, record { event = b.0; fits = b.1; turn = k.1 })

  -- and each is the next one of some half-edge
  pub previous_some : (g : Half) → edge_of g < r.edges → (h : Half) × Next r h g
  previous_some (over e) l =
      let b = run.begins e l in
      let k = some_after (fan (r.step b.0)) (over e)
      (fan_all r run law b.0 b.1 (over e) l (sym b.2)) in (
        twin k.0,
        record {
          event = b.0;
          fits = b.1;
          turn = subst (λ (x : Half). FollowsRound (fan (r.step b.0)) (over e) x)
              (sym (twice k.0)) k.1;
        },
      )
  previous_some (under e) l =
      let b = run.ends e l in
      let k = some_after (fan (r.step b.0)) (under e)
      (fan_all r run law b.0 b.1 (under e) l (sym b.2)) in (
        twin k.0,
        record {
          event = b.0;
          fits = b.1;
          turn = subst (λ (x : Half). FollowsRound (fan (r.step b.0)) (under e) x)
              (sym (twice k.0)) k.1;
        },
      )
