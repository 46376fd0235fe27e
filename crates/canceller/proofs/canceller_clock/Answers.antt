use mathlib.Core.Path.{ap, ◌∙◌}
use Rattle.crossing.specs.Boundary.{clocked_of}
use Rattle.canceller.proofs.canceller_clock.Goals as goal

pub returns : goal.returns
returns c =
    let state = c.args.state in
    c.clocked_of.ensures ∙ ap (λ r. clocked_of r state) c.clock.ensures.result_value
