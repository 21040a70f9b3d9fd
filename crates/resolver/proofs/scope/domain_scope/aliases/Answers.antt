use Rattle.std.proofs.Common.{ℕ, List, Option, length, ◌∙◌, subst, refl}
use Rattle.resolver.specs.Scopes.{texts, longest}
use Rattle.resolver.specs.Aliases.{step_in, IsJump}
use Rattle.resolver.specs.NameIndexes.{names_in, names_if}
use Rattle.resolver.proofs.ScopeLemmas.Levels.{steps_within, steps_made, names_long}
use Rattle.resolver.proofs.scope.domain_scope.aliases.Goals as goal

pub targets-requires : goal.targets-requires
targets-requires c =
    steps_within (texts (names_if c.args.above))
    (texts (names_in c.args.names.now)) c.args.domains.now c.deref.result.now
    (names_long (names_in c.args.names.now) c.args.domains.now c.requires) (c.deref.ensures.value
    ∙ c.in_ok-steps.ensures)

pub returns-clause-steps : goal.returns-clause-steps
returns-clause-steps c =
    steps_made (texts (names_if c.args.above))
    (names_in c.args.names.now) c.args.domains.now c.args.domains.now c.in_ok-steps.steps.items
    refl c.requires c.in_ok-steps.ensures

pub returns-clause-within : goal.returns-clause-within
returns-clause-within c =
    steps_within (texts (names_if c.args.above))
    (texts (names_in c.args.names.now)) c.args.domains.now c.in_ok-steps.steps.items
    (names_long (names_in c.args.names.now) c.args.domains.now c.requires) c.in_ok-steps.ensures

pub returns-clause-targets : goal.returns-clause-targets
returns-clause-targets c =
    subst (λ (l : List (Option ℕ)). IsJump (step_in l) longest
    (length l) c.in_ok-targets.targets.items) c.deref.ensures.value c.in_ok-targets.ensures
