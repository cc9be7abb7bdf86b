-- What the image serves: each entry into the kernel, so that each run of the board with it is a run of the written kernel machine.
use Rattle.std.specs.Prelude.{ℕ, List}
use Rattle.psx_base.specs.declared.stop.Sizes.{Sizes}
use Rattle.psx_sched.specs.declared.schedule.Entry.{Entry}
use Rattle.psx_exe.specs.declared.exe.Exe.{Exe}
use Rattle.psx_board.specs.Run.{board_run}
use Rattle.kern_layout.specs.Start.{SizesFit}
use Rattle.abs_run.specs.Accepted.{IsAccepted, AreBytes}
use Rattle.abs_run.specs.KernelRun.{KernelRun}
use Rattle.abs_run.specs.InTime.{InterruptsInTime}
use Rattle.kern_image.specs.Rom.{rom}

-- Each run of an accepted program, for any sizes, schedule and budget, is a kernel run of that program.
abbrev pub RunsAreKernelRuns : Type 0
RunsAreKernelRuns =
    (exe : Exe) (sizes : Sizes) (schedule : List Entry) (budget : ℕ) → IsAccepted exe → SizesFit sizes → AreBytes schedule
    → let o = board_run rom exe sizes schedule budget in KernelRun exe sizes o.items o.tty o.last.core.bytes

-- And each interrupt of it returns, or to the first function that it calls, in time.
abbrev pub RunsReturnInTime : Type 0
RunsReturnInTime =
    (exe : Exe) (sizes : Sizes) (schedule : List Entry) (budget : ℕ) → IsAccepted exe → SizesFit sizes → AreBytes schedule → InterruptsInTime (board_run rom exe sizes schedule budget).items
