-- The ROM serves every entry, by what is proved of its bytes, its boot code and its stays.
use Rattle.std.proofs.Common.{arith}
use Rattle.abs_run.specs.RunLaws.{always}
use Rattle.abs_run.specs.Serves.{GatesRead, ServesRom}
use Rattle.kern_image.specs.Rom.{rom}
use Rattle.kern_image.specs.RomLaws.{BytesFit}
use Rattle.kern_image.specs.Boot.{boot_length, EachBoots}
use Rattle.kern_image.specs.StaysLaws.{MakesStays, InterruptsFinish}

pub serves : BytesFit → GatesRead rom → EachBoots → MakesStays rom → InterruptsFinish rom → ServesRom always rom
serves bytes gates boots stays interrupts = record {
  bytes = bytes;
  gates = gates;
  boot_steps = boot_length;
  boot_few = omega arith;
  boots = boots;
  stays = λ k s trap a b c valid fits stands enters covered. stays k s trap a b c valid fits stands enters;
  interrupts = λ k s trap a b c valid fits stands enters covered none. interrupts k s trap a b c valid fits stands enters none;
}
