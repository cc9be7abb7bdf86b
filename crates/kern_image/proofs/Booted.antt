-- A ROM that begins with the boot code boots each program in 38,941 steps, and the image is one.
use Rattle.std.proofs.Common.{◌≡◌, ℕ, List, [], refl, ◌∙◌, subst, arith}
use Rattle.psx_base.specs.declared.stop.Sizes.{Sizes}
use Rattle.psx_base.specs.Memory.{Memory}
use Rattle.psx_ram.specs.Parts.{reset_memory}
use Rattle.psx_exe.specs.declared.exe.Exe.{Exe}
use Rattle.psx_exe.specs.Placed.{placed}
use Rattle.psx_cpu.specs.Exceptions.{reset}
use Rattle.psx_board.specs.Machine.{start}
use Rattle.kern_layout.specs.Start.{SizesFit}
use Rattle.abs_run.specs.Serves.{Boots}
use Rattle.abs_run.specs.Accepted.{IsAccepted}
use Rattle.kern_image.specs.Rom.{rom}
use Rattle.kern_image.specs.Boot.{EachBoots}
use Rattle.kern_image.proofs.RomLemmas.{rom_small, boot_reads, block_reads, block_opens}
use Rattle.kern_image.proofs.BootWalk.{Setting, Next, Walk, more, core, IsBoot}
use Rattle.kern_image.proofs.BootWords.{first, last, is_first, steps, all_steps}
use Rattle.kern_image.proofs.BootSound.{walks}
use Rattle.kern_image.proofs.BootCopy.{at_copy}
use Rattle.kern_image.proofs.BootLoop.{alike, loops}
use Rattle.kern_image.proofs.BootEnd.{finishes}
use Rattle.kern_image.proofs.BootStart.{starts}

abbrev AtLoop : Next
AtLoop c z m = (c ≡ at_copy 0xBFC0000C 0xBFC10000 0x80000000 (λ j. 0)) × (z ≡ reset.cop0)

begins : (g : Setting) (m : Memory) → Walk g 0 first reset.context reset.cop0 m AtLoop
unfolding first
begins g m = (refl, refl)

boots_in : (g : Setting) → IsBoot g → IsAccepted g.exe → SizesFit g.sizes → Boots g.rom g.exe g.sizes (more first (steps 2047 (more last 1))) (core reset.context reset.cop0 (placed (reset_memory g.rom) g.exe))
boots_in g boot a fit =
    walks g 0 first reset.context reset.cop0 (placed (reset_memory g.rom) g.exe) (steps 2047 (more last 1)) AtLoop boot is_first (starts g a.readable) (begins g (placed (reset_memory g.rom) g.exe))
    (λ c z m b h. alike g (steps 2047 (more last 1)) c _ z _ m h.0 h.1
    (loops g boot 2047 0 (λ j. 0) m (more last 1) refl refl b (record { bytes = λ a lt. absurd (omega arith) }) (finishes g boot fit)))

booted : (rom : List ℕ) (exe : Exe) (sizes : Sizes) → IsBoot (record { rom = rom; exe = exe; sizes = sizes }) → IsAccepted exe → SizesFit sizes → Boots rom exe sizes 38941 (start rom exe sizes []).core
booted rom exe sizes boot a fit =
    subst (λ (n : ℕ). Boots rom exe sizes n (core reset.context reset.cop0 (placed (reset_memory rom) exe))) all_steps (boots_in (record { rom = rom; exe = exe; sizes = sizes }) boot a fit)

-- the image is such a ROM
image : (exe : Exe) (sizes : Sizes) → IsBoot (record { rom = rom; exe = exe; sizes = sizes })
image exe sizes = record {
  words = boot_reads;
  bytes = rom_small;
  opens = λ a al lo up. block_reads a al up ∙ block_opens a al lo up;
}

pub each_boots : EachBoots
each_boots exe sizes = booted rom exe sizes (image exe sizes)
