-- A delivery of two stays, by evaluation.
use Rattle.std.proofs.Common.{refl}
use Rattle.abs_kernel.specs.KernelStep.{stay_of}
use Rattle.kern_event.specs.DeliveryEquations.{DeliversInTwoStays}

pub delivers_in_two_stays : DeliversInTwoStays
unfolding stay_of
delivers_in_two_stays = record { gate = refl; number = refl; calls = refl; returns = (record { done = refl; last = refl; gate = refl; goes_on = refl }, refl); frames = refl }
