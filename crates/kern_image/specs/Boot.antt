-- What the boot code does: from reset it comes to the state in which a program begins, after the same number of steps for every program.
use Rattle.std.specs.Prelude.{ℕ, []}
use Rattle.psx_base.specs.declared.stop.Sizes.{Sizes}
use Rattle.psx_exe.specs.declared.exe.Exe.{Exe}
use Rattle.psx_board.specs.Machine.{start}
use Rattle.kern_layout.specs.Start.{SizesFit}
use Rattle.abs_run.specs.Accepted.{IsAccepted}
use Rattle.abs_run.specs.Serves.{Boots}
use Rattle.kern_image.specs.Rom.{rom}

-- the first return is this step
abbrev pub boot_length : ℕ
boot_length = 38941

abbrev pub EachBoots : Type 0
EachBoots = (exe : Exe) (sizes : Sizes) → IsAccepted exe → SizesFit sizes → Boots rom exe sizes boot_length (start rom exe sizes []).core
