-- Reading on in a list of certificates.
use Rattle.std.proofs.Common.{◌≡◌, ℕ, zero, suc, ◌-◌, ◌<◌, List, [], ◌∷◌, ◌++◌, length}
use Rattle.std.proofs.Common.{Option, Some, None, Result, Ok, Err, Bool, true, false, cond, nat_eq}
use Rattle.std.proofs.Common.{refl, sym, ap, ◌∙◌, subst, arith}
use Rattle.std.specs.Option.{option_map}
use Rattle.std.specs.Borrow.{Bor}
use Rattle.std.proofs.lemmas.List.{append-nil, length-append}
use Rattle.std.proofs.lemmas.Bool.{eqb-true}
use Rattle.std.proofs.lemmas.Bool.Decides.{nat_tests}
use Rattle.certificate.specs.declared.fault.CertFault.{CertFault}
use Rattle.certificate.specs.declared.fault.CertFault.TheVariants as faults
use Rattle.certificate.specs.declared.forms.Counts.{Counts}
use Rattle.certificate.specs.declared.forms.Sizes.{Sizes}
use Rattle.certificate.specs.declared.forms.Version.{Version}
use Rattle.certificate.specs.declared.forms.Title.{Title as CodeTitle}
use Rattle.certificate.specs.declared.stages.Open.{Open}
use Rattle.certificate.specs.declared.stages.Open.TheVariants.{Nothing, Titled, Sized}
use Rattle.certificate.specs.declared.stages.Listed.{Listed}
use Rattle.certificate.specs.declared.stages.Stage.{Stage}
use Rattle.certificate.specs.declared.stages.Stage.TheVariants.{Start, Versioned, Failed}
use Rattle.certificate.specs.Spelling.{Plain, view, views}
use Rattle.certificate.specs.Parts.{Title, version_at, areas_at, title_at, sizes_at, event_at, edge_at}
use Rattle.certificate.specs.Parts.{place_at, end_at}
use Rattle.certificate.specs.Reading.{◌>>=◌, Text, Lines, Fails, Finds, line_of, line_at, many_at}
use Rattle.certificate.specs.Reading.{plain, certificate_at, if_ended, list_of, if_formed}
use Rattle.certificate.specs.Views.{found_view, title_view, title_line_view}
use Rattle.certificate.specs.Feeding.{LeadsTo, FailsOn, onto, with_front, points_on, edges_on}
use Rattle.certificate.specs.Feeding.{body_on, sizes_on, list_on, closes, areas_on, open_on}
use Rattle.certificate.specs.Feeding.{listed_on, names_view, is_complete, is_complete_at, stage_on}
use Rattle.certificate.proofs.Local.{title_local, sizes_local, version_local, areas_local}
use Rattle.certificate.proofs.Loop.{regroup}
use Rattle.certificate.proofs.Resuming.{leads_then, leads_by, fails_on, fails_by}
use Rattle.certificate.proofs.Resuming.{line_leads, line_fails, not_zero}

-- ---- steps

pub bind_same : {A B : Type 0} (r q : Result A CertFault) (f g : A → Result B CertFault) → q ≡ r
    → ((x : A) → f x ≡ g x) → (r >>= f) ≡ (q >>= g)
bind_same (Ok x) q f g e h = rw e (h x)
bind_same (Err d) q f g e h = rw e refl

pub bind_bind : {A B C : Type 0} (r : Result A CertFault) (f : A → Result B CertFault) (g : B
    → Result C CertFault)
    → ((r >>= f) >>= g) ≡ (r >>= λ x. f x >>= g)
bind_bind (Ok x) f g = refl
bind_bind (Err d) f g = refl

front_none : {A : Type 0} (r : Lines (List A)) → with_front [] r ≡ r
front_none (Ok x) = refl
front_none (Err d) = refl

-- ---- a certificate from its names on

body_is : (title : Title) (sizes : Sizes) (t : Text)
    → (many_at (line_at event_at) sizes.counts.events t >>= λ positions.
    many_at (line_at edge_at) sizes.counts.edges positions.1 >>= λ edges.
    many_at (line_at place_at) sizes.counts.points edges.1 >>= λ places.
    line_at end_at places.1 >>= λ end.
    Ok (plain title sizes positions.0 edges.0 places.0, end.1))
    ≡ body_on (plain title sizes [] [] []) sizes.counts t
unfolding body_on edges_on points_on
body_is title sizes t =
    bind_same (many_at (line_at event_at) sizes.counts.events t) _ _ _
    (front_none (many_at (line_at event_at) sizes.counts.events t)) (λ p.
    bind_same (many_at (line_at edge_at) sizes.counts.edges p.1) _ _ _
    (front_none (many_at (line_at edge_at) sizes.counts.edges p.1)) (λ e.
    bind_same (many_at (line_at place_at) sizes.counts.points e.1) _ _ _
    (front_none (many_at (line_at place_at) sizes.counts.points e.1)) (λ l. refl)))

certificate_is : (v : Version) (t : Text)
    → certificate_at v t ≡ (line_at title_at t >>= λ title. sizes_on v title.0 title.1)
unfolding certificate_at sizes_on
certificate_is v t =
    bind_same (line_at title_at t) (line_at title_at t) _ _ refl (λ title.
    bind_same (line_at (sizes_at v) title.1) (line_at (sizes_at v) title.1) _ _ refl
    (λ sizes. body_is title.0 sizes.0 sizes.1))

-- ---- the list

list_step : (v : Version) (n : ℕ) (done : List Plain) (r : Lines Plain)
    → (with_front done
    (r >>= λ first. many_at (certificate_at v) n first.1 >>= λ others. Ok
    (first.0 ∷ others.0, others.1)) >>= λ list. if_ended list.0 list.1)
    ≡ closes v n done r
unfolding list_on
list_step v n done (Ok c) =
    ap (λ (x : Lines (List Plain)). x >>= λ list. if_ended list.0 list.1)
    (regroup done c.0 (many_at (certificate_at v) n c.1))
list_step v n done (Err d) = refl

list_first : (v : Version) (n : ℕ) (done : List Plain) (t : Text)
    → list_on v (suc n) done t ≡ closes v n done (certificate_at v t)
unfolding list_on many_at
list_first v n done t = list_step v n done (certificate_at v t)

list_next : (v : Version) (n : ℕ) (done : List Plain) (t : Text)
    → list_on v (suc n) done t
    ≡ (line_at title_at t >>= λ title. closes v n done (sizes_on v title.0 title.1))
list_next v n done t =
    list_first v n done t ∙ ap (closes v n done) (certificate_is v t)
    ∙ bind_bind (line_at title_at t) (λ title. sizes_on v title.0 title.1)
    (λ c. list_on v n (done ++ c.0 ∷ []) c.1)

-- a certificate is to come
pub title_leads : (v : Version) (k : ℕ) (done : List Plain) (t : Text) (title : Title) (u : Text)
    → 0 < k → 0 < length t.rest
    → line_at title_at t ≡ Ok (title, u)
    → LeadsTo (list_on v k done) (λ y. closes v (k - 1) done (sizes_on v title y)) t u
title_leads v k done t title u z s h =
    leads_by (list_on v k done)
    (λ y. line_at title_at y >>= λ x. closes v (k - 1) done (sizes_on v x.0 x.1))
    (λ y. closes v (k - 1) done (sizes_on v title y)) t u
    (λ y. let e : k ≡ suc (k - 1) = omega arith in
    ap (λ (n : ℕ). list_on v n done y) e ∙ list_next v (k - 1) done y)
    (line_leads title_at title_local t title u
    (λ x. closes v (k - 1) done (sizes_on v x.0 x.1)) s h)

pub title_fails : (e : CertFault) (v : Version) (k : ℕ) (done : List Plain) (t : Text) → 0 < k
    → 0 < length t.rest
    → Fails e (line_at title_at t) → FailsOn e (list_on v k done) t
title_fails e v k done t z s h =
    fails_by e (list_on v k done)
    (λ y. line_at title_at y >>= λ x. closes v (k - 1) done (sizes_on v x.0 x.1)) t
    (λ y. let e : k ≡ suc (k - 1) = omega arith in
    ap (λ (n : ℕ). list_on v n done y) e ∙ list_next v (k - 1) done y)
    (line_fails title_at title_local t e (λ x. closes v (k - 1) done (sizes_on v x.0 x.1)) s h)

-- none is to come, but a line
pub surplus_fails : (v : Version) (k : ℕ) (done : List Plain) (t : Text) → k ≡ 0 → 0 < length t.rest
    → FailsOn (faults.Line t.line) (list_on v k done) t
unfolding list_on many_at
surplus_fails v k done t z s rest m =
    rw (
      z,
      append-nil done,
      not_zero (length (t.rest ++ rest))
          (omega (arith, s, length-append t.rest rest)),
    ) refl

-- the line of the sizes
pub sizes_lead : (v : Version) (k : ℕ) (done : List Plain) (title : Title) (t : Text)
    (sizes : Sizes) (u : Text) → 0 < length t.rest
    → line_at (sizes_at v) t ≡ Ok (sizes, u)
    → LeadsTo (λ y. closes v k done (sizes_on v title y))
    (λ y. closes v k done (body_on (plain title sizes [] [] []) sizes.counts y)) t u
unfolding sizes_on
sizes_lead v k done title t sizes u s h =
    leads_then (sizes_on v title) (body_on (plain title sizes [] [] []) sizes.counts)
    (λ c. list_on v k (done ++ c.0 ∷ []) c.1) t u
    (line_leads (sizes_at v) (sizes_local v) t sizes u
    (λ x. body_on (plain title x.0 [] [] []) x.0.counts x.1) s h)

pub sizes_fail : (e : CertFault) (v : Version) (k : ℕ) (done : List Plain) (title : Title)
    (t : Text) → 0 < length t.rest
    → Fails e (line_at (sizes_at v) t) → FailsOn e (λ y. closes v k done (sizes_on v title y)) t
unfolding sizes_on
sizes_fail e v k done title t s h =
    fails_on e (sizes_on v title) (λ c. list_on v k (done ++ c.0 ∷ []) c.1) t
    (line_fails (sizes_at v) (sizes_local v) t e
    (λ x. body_on (plain title x.0 [] [] []) x.0.counts x.1) s h)

-- ---- the names, as the code finds them

abbrev seen : Lines CodeTitle → Lines Title
seen (Ok x) = Ok (title_view x.0, x.1)
seen (Err e) = Err e

title_seen : (t : Text) (o : Option (Option CodeTitle × Bor (List ℕ)))
    (f : Option (Option Title × List ℕ))
    → Finds title_line_view o f → line_of t f ≡ seen (line_of t (option_map found_view o))
title_seen t o f h = by_length (nat_eq (length t.rest) 0) o h
  where
    by_length : (b : Bool) (o : Option (Option CodeTitle × Bor (List ℕ)))
        → Finds title_line_view o f
        → cond b (Err (faults.Short t.line)) (if_formed t.line f)
        ≡ seen (cond b (Err (faults.Short t.line)) (if_formed t.line (option_map found_view o)))
    by_length true o h = refl
    by_length false None h = rw h refl
    by_length false (Some (None, r)) h = rw h refl
    by_length false (Some (Some x, r)) h = rw h refl

pub title_found : (t : Text) (o : Option (Option CodeTitle × Bor (List ℕ))) (x : CodeTitle)
    (u : Text)
    → Finds title_line_view o (title_at t.rest) → line_of t (option_map found_view o) ≡ Ok (x, u)
    → line_at title_at t ≡ Ok (title_view x, u)
title_found t o x u f h = title_seen t o (title_at t.rest) f ∙ ap seen h

fails_seen : (e : CertFault) (r : Lines CodeTitle) → Fails e r → Fails e (seen r)
fails_seen faults.Memory r h = tt
fails_seen (faults.Line n) r h = rw h refl
fails_seen (faults.Number n) r h = rw h refl
fails_seen (faults.Short n) r h = rw h refl

pub title_missed : (t : Text) (o : Option (Option CodeTitle × Bor (List ℕ))) (e : CertFault)
    → Finds title_line_view o (title_at t.rest) → Fails e (line_of t (option_map found_view o))
    → Fails e (line_at title_at t)
title_missed t o e f h =
    subst (Fails e) (sym (title_seen t o (title_at t.rest) f))
    (fails_seen e (line_of t (option_map found_view o)) h)

-- ---- the end

-- the text ends before a certificate of the list
body_ends : (c : Plain) (left : Counts) (line : ℕ) (m n k : ℕ) → left.events ≡ m → left.edges ≡ n
    → left.points ≡ k
    → body_on c left (record { rest = []; line = line }) ≡ Err (faults.Short line)
unfolding body_on edges_on points_on many_at
body_ends c left line (suc m) n k e f g = rw e refl
body_ends c left line zero (suc n) k e f g = rw (e, f) refl
body_ends c left line zero zero (suc k) e f g = rw (e, f, g) refl
body_ends c left line zero zero zero e f g = rw (e, f, g) refl

pub body_short : (c : Plain) (left : Counts) (line : ℕ)
    → body_on c left (record { rest = []; line = line }) ≡ Err (faults.Short line)
body_short c left line = body_ends c left line left.events left.edges left.points refl refl refl

pub sizes_short : (v : Version) (title : Title) (line : ℕ)
    → sizes_on v title (record { rest = []; line = line }) ≡ Err (faults.Short line)
unfolding sizes_on
sizes_short v title line = refl

pub list_short : (v : Version) (k : ℕ) (done : List Plain) (line : ℕ) → 0 < k
    → list_on v k done (record { rest = []; line = line }) ≡ Err (faults.Short line)
list_short v k done line z =
    let e : k ≡ suc (k - 1) = omega arith in
    let t : Text = record { rest = []; line = line } in
    ap (λ (n : ℕ). list_on v n done t) e ∙ list_next v (k - 1) done t

pub list_ends : (v : Version) (k : ℕ) (done : List Plain) (line : ℕ) → k ≡ 0
    → list_on v k done (record { rest = []; line = line }) ≡ Ok done
unfolding list_on many_at
list_ends v k done line z = rw (z, append-nil done) refl

pub nothing_open : (l : Listed) → l.current ≡ Nothing → (t : Text)
    → listed_on l t ≡ list_on l.version l.left (views l.done.items) t
nothing_open l h t = ap (λ (o : Open). open_on l.version l.left (views l.done.items) o t) h

complete_by : (v : Version) (k : ℕ) (done : List Plain) (o : Open) (line : ℕ)
    → is_complete_at k o ≡ true
    → open_on v k done o (record { rest = []; line = line }) ≡ Ok done
complete_by v k done Nothing line h = list_ends v k done line (eqb-true k 0 h)
complete_by v k done (Titled names) line h = absurd (cc)
complete_by v k done (Sized body) line h = absurd (cc)

pub complete : (l : Listed) (line : ℕ) → is_complete l ≡ true
    → listed_on l (record { rest = []; line = line }) ≡ Ok (views l.done.items)
complete l line h = complete_by l.version l.left (views l.done.items) l.current line h

positive : (k : ℕ) → nat_eq k 0 ≡ false → 0 < k
positive k h = grind (arith, nat_tests)

incomplete_by : (v : Version) (k : ℕ) (done : List Plain) (o : Open) (line : ℕ)
    → is_complete_at k o ≡ false
    → open_on v k done o (record { rest = []; line = line }) ≡ Err (faults.Short line)
incomplete_by v k done Nothing line h = list_short v k done line (positive k h)
incomplete_by v k done (Titled names) line h =
    ap (closes v k done) (sizes_short v (names_view names) line)
incomplete_by v k done (Sized body) line h =
    ap (closes v k done) (body_short (view body.certificate) body.left line)

pub incomplete : (l : Listed) (line : ℕ) → is_complete l ≡ false
    → listed_on l (record { rest = []; line = line }) ≡ Err (faults.Short line)
incomplete l line h = incomplete_by l.version l.left (views l.done.items) l.current line h

-- ---- the start

pub list_is_read : (bytes : List ℕ)
    → (line_at version_at (record { rest = bytes; line = 1 }) >>= λ version.
    areas_on version.0 version.1) ≡ list_of bytes
unfolding list_of list_on
list_is_read bytes =
    bind_same (line_at version_at (record { rest = bytes; line = 1 })) _ _ _ refl (λ version.
    bind_same (line_at areas_at version.1) _ _ _ refl (λ areas.
    ap (λ (x : Lines (List Plain)). x >>= λ list. if_ended list.0 list.1)
    (front_none (many_at (certificate_at version.0) areas.0 areas.1))))

pub stage_as : (s z : Stage) → s ≡ z → (t : Text) → stage_on s t ≡ stage_on z t
stage_as s z e t = ap (λ (x : Stage). stage_on x t) e

pub start_leads : (s : Stage) (t : Text) (v : Version) (u : Text) → s ≡ Start → 0 < length t.rest
    → line_at version_at t ≡ Ok (v, u)
    → LeadsTo (stage_on s) (areas_on v) t u
start_leads s t v u e h f =
    leads_by (stage_on s) (stage_on Start) (areas_on v) t u (stage_as s Start e)
    (line_leads version_at version_local t v u (λ x. areas_on x.0 x.1) h f)

pub start_fails : (e : CertFault) (s : Stage) (t : Text) → s ≡ Start → 0 < length t.rest
    → Fails e (line_at version_at t)
    → FailsOn e (stage_on s) t
start_fails e s t g h f =
    fails_by e (stage_on s) (stage_on Start) t (stage_as s Start g)
    (line_fails version_at version_local t e (λ x. areas_on x.0 x.1) h f)

pub areas_lead : (s : Stage) (v : Version) (t : Text) (n : ℕ) (u : Text) → s ≡ Versioned v
    → 0 < length t.rest → line_at areas_at t ≡ Ok (n, u)
    → LeadsTo (stage_on s) (list_on v n []) t u
areas_lead s v t n u e h f =
    leads_by (stage_on s) (stage_on (Versioned v)) (list_on v n []) t u (stage_as s (Versioned v) e)
    (line_leads areas_at areas_local t n u (λ x. list_on v x.0 [] x.1) h f)

pub areas_fail : (e : CertFault) (s : Stage) (v : Version) (t : Text) → s ≡ Versioned v
    → 0 < length t.rest → Fails e (line_at areas_at t)
    → FailsOn e (stage_on s) t
areas_fail e s v t g h f =
    fails_by e (stage_on s) (stage_on (Versioned v)) t (stage_as s (Versioned v) g)
    (line_fails areas_at areas_local t e (λ x. list_on v x.0 [] x.1) h f)

-- ---- the end of a text

fails_of : (A : Type 0) (e : CertFault) (r : Result A CertFault) → r ≡ Err e → Fails e r
fails_of A faults.Memory r h = tt
fails_of A (faults.Line n) r h = h
fails_of A (faults.Number n) r h = h
fails_of A (faults.Short n) r h = h

onto_none : (t : Text) → onto t [] ≡ t
onto_none t = ap (λ (bytes : List ℕ). record { rest = bytes; line = t.line }) (append-nil t.rest)

-- what a stage spells of a text that was read to its end
pub whole : (s z x : Stage) (t : Text) (line : ℕ) → z ≡ x
    → LeadsTo (stage_on s) (stage_on z) t (record { rest = []; line = line })
    → stage_on s t ≡ stage_on x (record { rest = []; line = line })
whole s z x t line e h =
    ap (stage_on s) (sym (onto_none t)) ∙ (h [] tt).0
    ∙ stage_as z x e (record { rest = []; line = line })

pub whole_fails : (e : CertFault) (s : Stage) (t : Text) → FailsOn e (stage_on s) t
    → Fails e (stage_on s t)
whole_fails e s t h = subst (λ (y : Text). Fails e (stage_on s y)) (onto_none t) (h [] tt)

pub failed_before : (e : CertFault) (s z : Stage) (t : Text) (line : ℕ) → z ≡ Failed e
    → LeadsTo (stage_on s) (stage_on z) t (record { rest = []; line = line })
    → Fails e (stage_on s t)
failed_before e s z t line i h =
    fails_of (List Plain) e (stage_on s t) (whole s z (Failed e) t line i h)
