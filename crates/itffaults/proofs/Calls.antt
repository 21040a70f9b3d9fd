-- What a call leaves, by its parts.
use Rattle.std.proofs.Common.{◌≡◌, ℕ, List, Option, inl, inr, sym, ◌∙◌, subst, length}
use Rattle.std.specs.List.{All, AllZip}
use Rattle.area_drawings.specs.AreaLimits.{IsSmallPlan}
use Rattle.area_drawings.specs.KeptViews.{HasTolerance}
use Rattle.area_drawings.proofs.FewCurves.{few_curves}
use Rattle.area_drawings.proofs.Zips.{drawn_count}
use Rattle.commands.specs.Commands.{FileNames}
use Rattle.delivery.specs.Drawn.{IsCleanDelivery, IsEarlyStatus}
use Rattle.delivery.specs.Effects.{HoldsFront}
use Rattle.delivery.specs.declared.drawn.CleanDelivery.{CleanDelivery}
use Rattle.itffaults.specs.FaultText.Report.{all_verdict}
use Rattle.itffaults.specs.declared.fault_text.verdicts.Verdict.{Verdict}
use Rattle.itffaults.specs.declared.fault_text.verdicts.Verdict.TheVariants as verdict
use Rattle.plane.specs.Rule.Plans.{Plan}
use Rattle.ports.specs.Files.{Files}
use Rattle.reports.specs.AreaKinds.{plans}
use Rattle.reports.specs.Lines.{Line}
use Rattle.reports.specs.declared.lines.SurfaceAnswer.{SurfaceAnswer}
use Rattle.reports.specs.declared.status.Status.{Status}
use Rattle.reports.specs.declared.status.Status.TheVariants as status
use Rattle.table_layout.specs.Layouts.{Layout}
use Rattle.table_layout.specs.Values.{areas_view, layout_view}
use Rattle.itffaults.specs.Faults.{IsTold, IsWritten, LeavesRejection, Reports, TellsAll}
use Rattle.itffaults.specs.Faults.{has_surface_fault, names_by, rejection_text, status_of}

-- ---- the status
-- what is said of areas is no failed write, and not out of memory
said_writes : (v : Verdict) → status_of v ≡ status.WriteFault → ⊥
said_writes verdict.Clean e = absurd (cc)
said_writes verdict.Faulty e = absurd (cc)
said_writes verdict.Unsettled e = absurd (cc)

said_memory : (v : Verdict) → status_of v ≡ status.Memory → ⊥
said_memory verdict.Clean e = absurd (cc)
said_memory verdict.Faulty e = absurd (cc)
said_memory verdict.Unsettled e = absurd (cc)

pub told_writes : (l : Layout) (ds : List Plan) (xs : List SurfaceAnswer) (n : ℕ) (t r : List ℕ)
    (s : Status)
    → IsTold l ds xs n t r s → s ≡ status.WriteFault → ⊥
told_writes l ds xs n t r s h e =
    said_writes (all_verdict h.tellings (has_surface_fault l xs)) (sym h.status ∙ e)

pub told_memory : (l : Layout) (ds : List Plan) (xs : List SurfaceAnswer) (n : ℕ) (t r : List ℕ)
    (s : Status)
    → IsTold l ds xs n t r s → s ≡ status.Memory → ⊥
told_memory l ds xs n t r s h e =
    said_memory (all_verdict h.tellings (has_surface_fault l xs)) (sym h.status ∙ e)

pub early_writes : (s : Status) → IsEarlyStatus s → s ≡ status.WriteFault → ⊥
early_writes s h e = subst IsEarlyStatus e h

pub early_memory : (s : Status) → IsEarlyStatus s → s ≡ status.Memory → ⊥
early_memory s h e = subst IsEarlyStatus e h

-- ---- a clean delivery
module _ (held : Option Files) (model transfer : List ℕ) (c : CleanDelivery)
    (h : IsCleanDelivery held model transfer c) where
  pub as_many : length c.drawings.items ≡ length c.layout.areas.items
  as_many = drawn_count (layout_view c.layout) h.by.clean.judged.0 c.layout.areas.items
      c.drawings.items h.by.clean.judged.5

  pub all_small : All IsSmallPlan (plans c.drawings.items)
  all_small = few_curves (layout_view c.layout) h.by.clean.judged.0
      (plans c.drawings.items) h.by.clean.judged.3 h.by.clean.judged.5

  pub all_tolerant : AllZip (HasTolerance (layout_view c.layout))
      (areas_view c.layout.areas.items) c.drawings.items
  all_tolerant = h.by.clean.judged.6

  -- its faults are all told
  pub tells : (name : List ℕ) (wrote : Type 0) (answer : Status) (new : Option Files)
      (before after : Option (List ℕ)) (text report : List ℕ) (s : Status)
      → IsTold (layout_view c.layout) (plans c.drawings.items) c.surfaces.items c.objects text
      report s
      → IsWritten held name text wrote answer new before after
      → HoldsFront held name text new
      → Reports report s answer before after
      → TellsAll held wrote (names_by model transfer name) answer new before after
  tells name wrote answer new before after text report s t filed begun reports =
      let j = h.by.clean.judged in
      record {
        layout = layout_view c.layout;
        model_text = h.text;
        model = h.whole;
        laid = h.by.laid;
        transfer_text = h.by.text;
        transfer = h.by.whole;
        rows = j.0;
        are_rows = j.1;
        clean = j.2;
        few = j.3;
        drawings = plans c.drawings.items;
        drawn = j.5;
        answers = c.surfaces.items;
        answered = j.7;
        text = text;
        report = report;
        said = s;
        told = subst
            (λ (n : ℕ). IsTold (layout_view c.layout)
            (plans c.drawings.items) c.surfaces.items n text report s) j.4 t;
        filed = filed;
        begun = begun;
        reports = reports;
      }

-- ---- where more writes failed
module _ (near far : Type 0) (more : near → far) (held : Option Files) (answer : Status)
    (new : Option Files) (before after : Option (List ℕ)) where
  written_on : (name text : List ℕ) → IsWritten held name text near answer new before after
      → IsWritten held name text far answer new before after
  written_on name text f (inl n) = f (inl n)
  written_on name text f (inr (inl n)) = f (inr (inl (λ w. n (more w))))
  written_on name text f (inr (inr d)) = f (inr (inr d))

  pub tells_on : (names : FileNames) → TellsAll held near names answer new before after
      → TellsAll held far names answer new before after
  tells_on names h = record {
    layout = h.layout;
    model_text = h.model_text;
    model = h.model;
    laid = h.laid;
    transfer_text = h.transfer_text;
    transfer = h.transfer;
    rows = h.rows;
    are_rows = h.are_rows;
    clean = h.clean;
    few = h.few;
    drawings = h.drawings;
    drawn = h.drawn;
    answers = h.answers;
    answered = h.answered;
    text = h.text;
    report = h.report;
    said = h.said;
    told = h.told;
    filed = written_on names.third h.text h.filed;
    begun = h.begun;
    reports = h.reports;
  }

  pub leaves_on : (ls : List Line) (name : List ℕ)
      → LeavesRejection ls held name near answer new before after
      → LeavesRejection ls held name far answer new before after
  leaves_on ls name h = record {
    filed = written_on name (rejection_text ls) h.filed;
    begun = h.begun;
    reports = h.reports;
  }
