-- What holds of the steps of user code.
use Rattle.std.specs.Prelude.{◌≡◌}
use Rattle.psx_base.specs.Memory.{Memory}
use Rattle.psx_base.specs.Context.{Context}
use Rattle.psx_base.specs.KernelState.{KernelState}
use Rattle.psx_cpu.specs.UserStep.{Next, user_step}
use Rattle.kern_layout.specs.Valid.{Valid}
use Rattle.abs_kernel.specs.Answered.{with_running}

-- the state after a step of user code
abbrev pub stepped : KernelState → Context → Memory → KernelState
stepped s c m = record (with_running s c) { memory = m }

-- a step of user code keeps the state valid
abbrev pub UserStepKeepsValid : Type 0
UserStepKeepsValid = (s : KernelState) (c : Context) (m : Memory) → Valid s → user_step s.running.context s.memory ≡ Next c m → Valid (stepped s c m)
