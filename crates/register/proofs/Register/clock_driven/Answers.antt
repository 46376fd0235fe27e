-- `Register::clock_driven` meets its contract: the drive and the inversion word are XORed in together.
use Rattle.register.proofs.ClockLaws.{driven_in}
use Rattle.register.proofs.Register.clock_driven.Goals as goal

pub returns : goal.returns
returns c =
    let advanced = c.advance.ensures in
    (advanced.0, advanced.1, advanced.2, driven_in _ _ _ _ _ _ advanced.3)
