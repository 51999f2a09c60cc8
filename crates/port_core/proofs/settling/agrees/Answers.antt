use Rattle.std.proofs.Common.{◌≡◌, ◌∙◌, List, arith, rules, subst, sym}
use Rattle.std.proofs.lemmas.Grind.{common_steps}
use Rattle.journal_core.specs.declared.event.Event.{Event}
use Rattle.port_core.specs.Settling.{AreAllTold}
use Rattle.port_core.proofs.settling.agrees.Given as given
use Rattle.port_core.proofs.settling.agrees.Goals as goal

-- parameters that the derived comparison finds equal are the same
same_params : (g : given.Over) (c : goal.After-all_told g) → c.params.result.now ≡ c.args.params.now
same_params g c = grind (arith, common_steps)

same_seed : (g : given.Over) (c : goal.After-all_told g) → c.args.engine.now.sched.seed ≡ c.args.seed.now
same_seed g c = search rules

pub returns : goal.returns
returns g c = (
  λ yes. record {
    same_params = sym c.params.ensures ∙ same_params g c;
    same_seed = same_seed g c;
    told = subst (λ (events : List Event). AreAllTold events c.args.seats.now) c.events.ensures.value (c.all_told.ensures.0 yes);
  },
  λ all. c.all_told.ensures.1 (subst (λ (events : List Event). AreAllTold events c.args.seats.now) (sym c.events.ensures.value) all.told),
)
