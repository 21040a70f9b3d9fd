use Rattle.std.proofs.Common.{◌≡◌, None, subst, sym}
use Rattle.std.proofs.lemmas.Result.{IfErr-weaker, IfOk-weaker}
use Rattle.ili_grammar.specs.Values.{model_of}
use Rattle.resolver.specs.Faults.{NamesFault}
use Rattle.resolver.specs.First.{BreaksNone, NamesFirstBroken}
use Rattle.resolver.specs.Rules.{first_fault}
use Rattle.resolver.specs.Models.{resolved_model}
use Rattle.resolver.specs.Sound.{IsSound}
use Rattle.resolver.specs.Standing.{IsModel}
use Rattle.resolver.specs.Values.{model_of as built_model}
use Rattle.resolver.proofs.RuleLemmas.RuleLaws.{all_short, first_named, none_is_broken}
use Rattle.resolver.proofs.SoundLemmas.SoundModels.{is_sound}
use Rattle.resolver.proofs.SoundLemmas.StandingModels.{is_kept}
use Rattle.resolver.proofs.resolving.resolve.Goals as goal

pub returns-clause-model : goal.returns-clause-model
returns-clause-model c =
    let written = model_of c.args.syntax.now in
    IfOk-weaker c.resolve_within.result
    (λ m. (first_fault written ≡ None) × (built_model m ≡ resolved_model written))
    (λ m. BreaksNone written × IsModel written (built_model m))
    (λ m p. (
      none_is_broken written (all_short written c.requires) p.0,
      subst (IsModel written) (sym p.1) (is_kept written p.0 c.requires),
    ))
    c.resolve_within.ensures.model

pub returns-clause-sound : goal.returns-clause-sound
returns-clause-sound c =
    IfOk-weaker c.resolve_within.result
    (λ m. (first_fault (model_of c.args.syntax.now) ≡ None)
    × (built_model m ≡ resolved_model (model_of c.args.syntax.now)))
    (λ m. IsSound (built_model m))
    (λ m p. subst IsSound (sym p.1) (is_sound (model_of c.args.syntax.now) p.0 c.requires))
    c.resolve_within.ensures.model

pub returns-clause-fault : goal.returns-clause-fault
returns-clause-fault c =
    let written = model_of c.args.syntax.now in
    IfErr-weaker c.resolve_within.result (λ f. NamesFault f (first_fault written))
    (NamesFirstBroken written) (λ f h. first_named written f (all_short written c.requires) h)
    c.resolve_within.ensures.fault
