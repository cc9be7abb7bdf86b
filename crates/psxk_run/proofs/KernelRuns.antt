-- A run of inputs that were loaded is a run of the written kernel machine, and its interrupts return in time, since this is so of each run of the board with the image.
use Rattle.std.proofs.Common.{ℕ}
use Rattle.abs_run.specs.InTime.{InterruptsInTime}
use Rattle.kern_image.specs.Serving.{RunsAreKernelRuns, RunsReturnInTime}
use Rattle.psxk_run.specs.declared.inputs.Inputs.{Inputs}
use Rattle.psxk_run.specs.Inputs.{IsRunnable}
use Rattle.psxk_run.specs.Top.{run_of, IsKernelRun}

pub kernel_run : RunsAreKernelRuns → (inputs : Inputs) → IsRunnable inputs → (budget : ℕ) → IsKernelRun inputs (run_of inputs budget)
kernel_run runs inputs r budget =
    runs inputs.exe inputs.sizes inputs.schedule budget r.accepted
    (record { threads_least = r.threads.0; threads_most = r.threads.1; events_least = r.events.0; events_most = r.events.1 }) r.bytes

pub in_time : RunsReturnInTime → (inputs : Inputs) → IsRunnable inputs → (budget : ℕ) → InterruptsInTime (run_of inputs budget).items
in_time returns inputs r budget =
    returns inputs.exe inputs.sizes inputs.schedule budget r.accepted
    (record { threads_least = r.threads.0; threads_most = r.threads.1; events_least = r.events.0; events_most = r.events.1 }) r.bytes
