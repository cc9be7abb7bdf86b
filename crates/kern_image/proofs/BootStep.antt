-- One step of the boot code, by the word at pc.
use Rattle.std.proofs.Common.{◌≡◌, ℕ, ◌+◌, ◌*◌, ◌%◌, ◌^◌, ◌<◌, List, true, false, Some, None, ap, ◌∙◌, arith}
use Rattle.std.specs.Prelude.{nat_eq, ◌||◌, slice_index, if◌then◌else◌}
use Rattle.psx_ins.specs.declared.ins.Ins.{Ins}
use Rattle.psx_ins.specs.Decoding.{instruction_of}
use Rattle.psx_base.specs.Memory.{Memory, byte, word, is_mapped, is_writable}
use Rattle.psx_base.specs.Addresses.{top, low, place}
use Rattle.psx_base.specs.PortAddresses.{port}
use Rattle.psx_base.specs.Context.{Context}
use Rattle.psx_ram.specs.Words.{word_at}
use Rattle.psx_cpu.specs.Processor.{Cop0, Bus}
use Rattle.psx_cpu.specs.DataAccess.{read_word}
use Rattle.psx_cpu.specs.Traps.{data_use, use_trap, own_trap, or_else}
use Rattle.psx_cpu.specs.Step.{executed, step}
use Rattle.psx_cpu.proofs.KernelSide.{step_executes}
use Rattle.kern_image.proofs.BootWalk.{core}

-- a step on the kernel's side executes the instruction at pc
pub step_is : (c : Context) (z : Cop0) (m : Memory) (bus : Bus) (i : Ins) → c.pc % 4 ≡ 0 → z.sr % 2 ≡ 0 → instruction_of (read_word m c.pc) ≡ Some i → use_trap (data_use i c) ≡ None → own_trap i c ≡ None
    → step (core c z m) bus ≡ executed (core c z m) bus i
step_is c z m bus i even off is plain none = step_executes c z m bus i even off is (ap (λ t. or_else t (own_trap i c)) plain ∙ none)

-- ---- addresses

rom_top : (i : ℕ) → i < 0x80000 → top (0xBFC00000 + i) ≡ 5
rom_top i h = omega arith

rom_low : (i : ℕ) → i < 0x80000 → low (0xBFC00000 + i) ≡ 0x1FC00000 + i
rom_low i h = omega arith

-- the place of an address of the ROM, and of the kernel's memory
pub rom_place : (i : ℕ) → i < 0x80000 → place (0xBFC00000 + i) ≡ 0x1FC00000 + i
rom_place i h = let t = rom_top i h in let l = rom_low i h in λ j. if nat_eq (t j) 0 || (nat_eq (t j) 4 || nat_eq (t j) 5) then l j else 2 ^ 29

kernel_top : (p : ℕ) → p < 0x10000 → top (0x80000000 + p) ≡ 4
kernel_top p h = omega arith

kernel_low : (p : ℕ) → p < 0x10000 → low (0x80000000 + p) ≡ p
kernel_low p h = omega arith

pub kernel_place : (p : ℕ) → p < 0x10000 → place (0x80000000 + p) ≡ p
kernel_place p h = let t = kernel_top p h in let l = kernel_low p h in λ j. if nat_eq (t j) 0 || (nat_eq (t j) 4 || nat_eq (t j) 5) then l j else 2 ^ 29

pub rom_no_port : (i : ℕ) → port (0x1FC00000 + i) ≡ false
unfolding port
rom_no_port i = grind arith

pub kernel_no_port : (p : ℕ) → p < 0x10000 → port p ≡ false
unfolding port
kernel_no_port p h = grind arith

pub rom_mapped : (i : ℕ) → i % 4 ≡ 0 → i < 0x80000 → is_mapped (0x1FC00000 + i) 4 ≡ true
rom_mapped i a h = grind arith

pub kernel_writable : (p : ℕ) → p < 0x10000 → is_writable p ≡ true
kernel_writable p h = grind arith

-- the word that is read from the ROM
pub rom_word_is : (rom : List ℕ) (m : Memory) (i : ℕ) → ((i : ℕ) → byte m (0x1FC00000 + i) ≡ slice_index rom i) → i % 4 ≡ 0 → i < 0x80000 → read_word m (0xBFC00000 + i) ≡ word_at rom i
unfolding read_word word
rom_word_is rom m i h aligned within =
    ap (λ p. if is_mapped p 4 then word m p else 0) (rom_place i within)
    ∙ ap (λ b. if b then word m (0x1FC00000 + i) else 0) (rom_mapped i aligned within)
    ∙ (let e0 = h i in let e1 = next 1 in let e2 = next 2 in let e3 = next 3 in λ j. e0 j + e1 j * 2 ^ 8 + e2 j * 2 ^ 16 + e3 j * 2 ^ 24)
  where
    next : (k : ℕ) → byte m (0x1FC00000 + i + k) ≡ slice_index rom (i + k)
    next k = ap (byte m) (let e : 0x1FC00000 + i + k ≡ 0x1FC00000 + (i + k) = omega arith in e) ∙ h (i + k)
